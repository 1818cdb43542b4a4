-- `iq_median::Search::turn` goes on where the place is. Assumes nothing.
use mathlib.Core.Path.{◌≡◌, sym, subst}
use Prim.Native.Nat.{ℕ, ◌+◌, ◌-◌, ◌<◌, ◌≤◌}
use native.Mathlib.Omega.{arith}
use lib.ListN.{length, take}
use lib.Seq.{length-take-le}
use lib.Ieee.{Float, lt}
use Rattle.iq_median.specs.Select.{above_of}
use Rattle.iq_median.proofs.Selecting.{passing_length}
use Rattle.iq_median.proofs.Search.turn.Goals as goal
use Rattle.iq_median.proofs.Search.turn.Goals.{Start}

window_length_lem : (c : Start) → length (take c.args.self.now.count c.args.part.now) ≡ c.args.self.now.count
window_length_lem c = length-take-le c.args.self.now.count c.args.part.now c.requires.window.most

above_most : (c : Start) (p : Float) → length (above_of p (take c.args.self.now.count c.args.part.now)) ≤ c.args.self.now.count
above_most c p = let a = passing_length (λ x. lt p x) (take c.args.self.now.count c.args.part.now) in let b = window_length_lem c in omega arith

passed_is : (c : Start) (p : Float) (above : ℕ) → above ≡ length (above_of p (take c.args.self.now.count c.args.part.now))
    → c.args.self.now.count - above + length (above_of p (take c.args.self.now.count c.args.part.now)) ≡ c.args.self.now.count
passed_is c p above e = let a = above_most c p in omega arith

pub slice_bounds-pivot-end-2 : goal.slice_bounds-pivot-end-2
slice_bounds-pivot-end-2 c = sym (window_length_lem (goal.at.slice_bounds-pivot-end-2 c).Start)

pub pivot-p-requires : goal.pivot-p-requires
pivot-p-requires c = let n = window_length_lem (goal.at.pivot-p-requires c).Start in
    record {
      some = omega (arith, c.requires.window.inside);
      plain = c.requires.window.plain;
    }

pub slice_bounds-count_sides-end-2 : goal.slice_bounds-count_sides-end-2
slice_bounds-count_sides-end-2 c = sym (window_length_lem (goal.at.slice_bounds-count_sides-end-2 c).Start)

pub go_below-requires : goal.go_below-requires
go_below-requires c =
    record {
      turning = record { window = c.requires.window; pivot = c.pivot-p.ensures; many = c.requires.many; turns = c.requires.turns };
      among = subst (λ (n : ℕ). c.args.self.now.place < n) c.count_sides-r.ensures.0 c.if-self-r.true;
    }

pub overflow_sub-passed : goal.overflow_sub-passed
overflow_sub-passed c = let n = above_most (goal.at.overflow_sub-passed c).Start c.pivot-p.result in
    omega (arith, c.count_sides-r.ensures.1)

pub go_above-requires : goal.go_above-requires
go_above-requires c =
    record {
      turning =
          record {
            window = c.requires.window;
            pivot = c.pivot-p.ensures;
            many =
                c.requires.many;
            turns =
                c.requires.turns;
          };
      counted =
          passed_is (goal.at.go_above-requires c).Start c.pivot-p.result _
          c.count_sides-r.ensures.1;
      among = c.if-passed-self.true;
    }

pub stay-requires : goal.stay-requires
stay-requires c =
    record {
      turning =
          record {
            window = c.requires.window;
            pivot = c.pivot-p.ensures;
            many =
                c.requires.many;
            turns =
                c.requires.turns;
          };
      counted =
          passed_is (goal.at.stay-requires c).Start c.pivot-p.result _
          c.count_sides-r.ensures.1;
      before = c.if-passed-self.false;
      behind =
          subst (λ (n : ℕ). n ≤ c.args.self.now.place) c.count_sides-r.ensures.0
          c.if-self-r.false;
    }
