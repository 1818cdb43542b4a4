-- `ieee::root_finite` meets its contract: its bits are those that `root_is` of `proofs/Rooting.antt` is about. Assumes nothing.
use Rattle.std.proofs.Common.{◌≡◌, ℕ, ◌+◌, ◌-◌, ◌*◌, ◌/◌, ◌%◌, ◌^◌, ◌<◌, ◌≤◌, Bool, false, not, T, leb, ap, ◌∙◌, subst, inl, inr, mod-lt, mod-eq_of_lt, arith, pow_pos, rules}
use lib.Ieee.{binary64, of_bits, is_nan}
use lib.Ieee.Bits.{of_bits-fits}
use lib.Ieee.Exact.{HasValue}
use borrow.Author.Tests.{lt-leb}
use Rattle.ieee.specs.declared.Normal.{Normal}
use Rattle.ieee.specs.Normal.{exponent_in, significand_in, shift_of, Normalised}
use Rattle.ieee.proofs.laws.Fields.{Meaning, meaning_bits, number_bits}
use Rattle.ieee.proofs.laws.NormalLaws.{placed, even_of, evened}
use Rattle.ieee.proofs.Rooting.{root_small, root_is}
use Rattle.ieee.proofs.root_finite.Goals as goal

-- the bounds on what was taken apart
record Ground (b : ℕ) (n : Normal) : Type 0 where
  some : 0 < significand_in b
  few : significand_in b < 2 ^ 53
  near : n.shift ≤ 61
  far : n.place ≤ 2045
  below : exponent_in b < 2047

ground : (b : ℕ) (n : Normal) → 0 < b → b < 2047 * 2 ^ 52 → Normalised b n → Ground b n
ground b n B L u =
    let some : 0 < significand_in b = omega arith in
    let few : significand_in b < 2 ^ 53 = omega arith in
    let p = placed (significand_in b) few in
    let s = p.short some in
    record { some = some; few = few; near = omega arith; far = omega arith; below = omega arith }

-- the word whose root is taken
word : (b : ℕ) (n : Normal) → Normalised b n → Ground b n
    → n.digits * 2 ^ (2 - (n.place + n.shift) % 2) % 2 ^ 64 ≡ significand_in b * 2 ^ even_of (significand_in b) (exponent_in b - 1)
word b n u g =
    let e = evened (significand_in b) (exponent_in b - 1) g.some g.few in
    let moved : n.digits * 2 ^ (2 - (n.place + n.shift) % 2) ≡ significand_in b * 2 ^ even_of (significand_in b) (exponent_in b - 1) =
    ap (λ (d : ℕ). d * 2 ^ (2 - (n.place + n.shift) % 2)) u.digits
    ∙ ap (λ (y : ℕ). significand_in b * 2 ^ shift_of (significand_in b) * 2 ^ (2 - (y + n.shift) % 2)) u.place
    ∙ ap (λ (c : ℕ). significand_in b * 2 ^ shift_of (significand_in b) * 2 ^ (2 - (exponent_in b - 1 + c) % 2)) u.shift
    ∙ e.is in
    ap (λ (w : ℕ). w % 2 ^ 64) moved ∙ mod-eq_of_lt e.high

finite : (b : ℕ) → b < 2047 * 2 ^ 52 → T (not (is_nan (of_bits binary64 b))) → exponent_in b < 2047
    → HasValue (of_bits binary64 b) false (significand_in b * 2 ^ (exponent_in b - 1)) (2 ^ 1074)
finite b h N l = go (leb (2 ^ 63) b) (lt-leb (2 ^ 63) b (omega arith)) (meaning_bits b N)
  where
    no : (e : ℕ) → e < 2047 → 2047 ≤ e → ⊥
    no e p h = omega arith

    go : (s : Bool) → s ≡ false → Meaning (of_bits binary64 b) s (exponent_in b) (b % 2 ^ 52)
        → HasValue (of_bits binary64 b) false (significand_in b * 2 ^ (exponent_in b - 1)) (2 ^ 1074)
    go s e (inl v) = subst (λ (s : Bool). HasValue (of_bits binary64 b) s (significand_in b * 2 ^ (exponent_in b - 1)) (2 ^ 1074)) e v.1
    go s e (inr v) = absurd (no (exponent_in b) l v.0)

-- the code's field
field : (y c : ℕ) → c ≤ 61 → y ≤ 2045 → (1030 + y + (y + c) % 2 - c) / 2 ≡ (1032 + y - (c + (2 - (y + c) % 2))) / 2
field y c h l = omega arith

at : (c : goal.After-struct_known-1) → Ground c.args.b c.normalise-n.result
at c = ground _ _ c.requires.positive c.requires.finite c.normalise-n.ensures

g_small : (c : goal.After-struct_known-3-1) → c.half_root-g.result < 2 ^ 54
g_small c = let h = c.half_root-g.ensures in let r = root_small _ h.R (mod-lt _ (pow_pos 64)) h.low in omega arith

pub overflow_add-odd : goal.overflow_add-odd
overflow_add-odd c = let g = at c in omega arith

pub overflow_add-n : goal.overflow_add-n
overflow_add-n c = search rules

pub overflow_sub-n : goal.overflow_sub-n
overflow_sub-n c = let g = at c.before.before.before.before.before in omega arith

pub overflow_add-n-3 : goal.overflow_add-n-3
overflow_add-n-3 c = let r = g_small c.before in let g = at c.before.before.before.before.before in omega arith

pub returns : goal.returns
returns c =
    let b = c.args.b in
    let n = c.normalise-n.result in
    let u = c.normalise-n.ensures in
    let g = at c.before.before.before.before.before.before in
    let h = c.half_root-g.ensures in
    let w = word b n u g in
    let L = c.requires.finite in
    let N = number_bits b (omega arith) in
    c.from_bits64-2.ensures
    ∙ ap (of_bits binary64)
    (ap (λ (k : ℕ). k * 2 ^ 52 + c.half_root-g.result) (field n.place n.shift g.near g.far
    ∙ ap (λ (y : ℕ). (1032 + y - (n.shift + (2 - (y + n.shift) % 2))) / 2) u.place
    ∙ ap (λ (c : ℕ). (1032 + (exponent_in b - 1) - (c + (2 - (exponent_in b - 1 + c) % 2))) / 2) u.shift)
    ∙ ap (λ (g : ℕ). (1032 + (exponent_in b - 1) - even_of (significand_in b) (exponent_in b - 1)) / 2 * 2 ^ 52 + g) h.half)
    ∙ root_is (of_bits binary64 b) (significand_in b) (exponent_in b - 1) h.R (of_bits-fits binary64 b) g.some g.few (let h = g.below in omega arith)
    (finite b L N g.below)
    (subst (λ (a : ℕ). h.R * h.R ≤ a * 2 ^ 44) w h.low)
    (subst (λ (a : ℕ). a * 2 ^ 44 < (h.R + 1) * (h.R + 1)) w h.high)
