-- `impulse_arrays::same_powers` meets its contract: each power before number k has the same bits. Assumes nothing.
use mathlib.Core.Path.{◌≡◌, refl, sym, ap, ◌∙◌}
use mathlib.Core.List.{List}
use Prim.Native.Nat.{ℕ, ◌<◌}
use native.Mathlib.Numerals.{add-one}
use native.Mathlib.Omega.{arith}
use lib.ListN.{length, get_or}
use lib.Ieee.{Float, nan, binary64, to_bits}
use borrow.Author.Tests.{eq-eqb, ne_eqb}
use Rattle.rules.specs.Constants.{zero_f}
use Rattle.stage_log.specs.Check.{all_to}
use Rattle.stage_log.proofs.laws.CheckLaws.{all_next, all_not}
use Rattle.impulse.proofs.laws.CircleLaws.{any_default}
use Rattle.impulse_arrays.proofs.same_powers.Invariants.{test}
use Rattle.impulse_arrays.proofs.same_powers.Goals as goal
use Rattle.impulse_arrays.proofs.same_powers.Goals.{After-to_bits64}

pub loop-k-init : goal.loop-k-init
unfolding all_to
loop-k-init c = refl

-- the bits that are compared at k
module _ (c : After-to_bits64) where
  abbrev xs : List Float
  xs = c.args.sorted.now

  abbrev ys : List Float
  ys = c.args.wide.now

  abbrev k : ℕ
  k = c.loop-k.k

  abbrev n : ℕ
  n = length c.args.sorted.now

  here : k < n
  here = omega arith

  left : c.to_bits64-given.result ≡ to_bits binary64 (get_or xs k zero_f)
  left =
      c.to_bits64-given.ensures
      ∙ ap (to_bits binary64) (c.widen.ensures ∙ any_default xs k nan zero_f (omega (arith, here)))

  right : c.to_bits64.result ≡ to_bits binary64 (get_or ys k zero_f)
  right =
      c.to_bits64.ensures ∙ ap (to_bits binary64) (any_default ys k nan zero_f (omega (arith, here)))

pub returns-then-given-to_bits64 : goal.returns-then-given-to_bits64
returns-then-given-to_bits64 c =
    sym (all_not (test (xs (goal.at.returns-then-given-to_bits64 c).After-to_bits64) (ys (goal.at.returns-then-given-to_bits64 c).After-to_bits64)) (n (goal.at.returns-then-given-to_bits64 c).After-to_bits64) (k (goal.at.returns-then-given-to_bits64 c).After-to_bits64) (here (goal.at.returns-then-given-to_bits64 c).After-to_bits64) (ne_eqb _ _ (λ e. c.if-given-to_bits64.true (left (goal.at.returns-then-given-to_bits64 c).After-to_bits64 ∙ e ∙ sym (right (goal.at.returns-then-given-to_bits64 c).After-to_bits64)))))

pub loop-k-preserved : goal.loop-k-preserved
loop-k-preserved c =
    let l = c.loop-k in
    rw (add-one l.k) (all_next (test (xs (goal.at.loop-k-preserved c).After-to_bits64) (ys (goal.at.loop-k-preserved c).After-to_bits64)) l.k l.invariant (eq-eqb _ _ (sym (left (goal.at.loop-k-preserved c).After-to_bits64) ∙ c.if-given-to_bits64.false ∙ right (goal.at.loop-k-preserved c).After-to_bits64)))

pub returns : goal.returns
returns c =
    let l = c.loop-k in
    let e : l.k ≡ length c.args.sorted.now = omega arith in
    sym (rw e at l.invariant)
