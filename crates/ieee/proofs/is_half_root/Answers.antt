-- `ieee::is_half_root` meets its contract: its words are those of `square` of `proofs/HalfRoots.antt`. Assumes nothing.
use Rattle.std.proofs.Common.{ℕ, ◌+◌, ◌*◌, ◌%◌, ◌^◌, ◌<◌, ◌≤◌, refl, arith}
use Rattle.ieee.proofs.HalfRoots.{square, far_above, far_below, not_below, decided}
use Rattle.ieee.proofs.is_half_root.Goals as goal

low_lt : (y z : ℕ) → z ≤ 2 ^ 52 → y % 2 ^ 25 * 2 ^ 27 + z < 2 ^ 53
low_lt y z h = omega arith

pub overflow_mul-m : goal.overflow_mul-m
overflow_mul-m c = let s = square c.args.g c.requires in omega arith

pub overflow_mul-high : goal.overflow_mul-high
overflow_mul-high c = let s = square c.args.g c.requires in omega arith

pub overflow_add-high : goal.overflow_add-high
overflow_add-high c = let s = square c.args.g c.requires in omega arith

pub overflow_mul-low-2 : goal.overflow_mul-low-2
overflow_mul-low-2 c = let s = square c.args.g c.requires in omega arith

pub overflow_add-low : goal.overflow_add-low
overflow_add-low c = let s = square c.args.g c.requires in omega arith

pub returns-then-wide-high : goal.returns-then-wide-high
returns-then-wide-high c = far_above c.args.w c.args.g _ _ c.requires (square c.args.g c.requires).whole c.if-wide-high.true

pub returns-then-high-wide : goal.returns-then-high-wide
returns-then-high-wide c =
    let s = square c.args.g c.requires in
    far_below c.args.w c.args.g _ _ c.requires
    (square c.args.g c.requires).whole (low_lt _ _ s.lower) c.if-high-wide.true

pub overflow_add-square : goal.overflow_add-square
overflow_add-square c = let s = square c.args.g c.requires in omega arith

pub returns-then-above-g : goal.returns-then-above-g
returns-then-above-g c =
    not_below c.args.w c.args.g _ _ c.requires
    (square c.args.g c.requires).whole _ c.if-wide-high.false refl c.if-above-g.true

pub returns : goal.returns
returns c =
    decided c.args.w c.args.g _ _ c.requires
    (square c.args.g c.requires).whole _ c.if-wide-high.false refl c.if-above-g.false
