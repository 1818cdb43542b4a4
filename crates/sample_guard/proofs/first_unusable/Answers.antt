-- `sample_guard::first_unusable` meets its contract: the first place that is not usable. Assumes nothing.
use Rattle.std.specs.Prelude.{◌≡◌, true, false, length}
use Rattle.std.proofs.Common.{sym, ◌∙◌, arith, le-ltb, rules}
use Rattle.std.proofs.lemmas.Iterator.{YieldsList-from_slice, IsFirst-from_position}
use borrow.Author.Tests.{tests}
use Rattle.rules.specs.Guard.{usable}
use Rattle.sample_guard.specs.Found.{found}
use Rattle.sample_guard.proofs.laws.GuardLaws.{none_found, first_found}
use Rattle.sample_guard.proofs.first_unusable.Goals as goal

pub returns-then-all_under : goal.returns-then-all_under
unfolding found
returns-then-all_under c =
    let xs = c.args.samples.now in
    rw (none_found xs (sym c.all_under.ensures ∙ c.if-all_under.true), le-ltb (length xs) (length xs) (omega arith))

pub returns : goal.returns
returns c =
    let xs = c.args.samples.now in
    first_found xs c.position.result
    (IsFirst-from_position _ _ _ (λ w. usable w ≡ false) (λ w. usable w ≡ true) c.position.ensures.ran (YieldsList-from_slice xs cc)
    (λ x q k. search (rules, tests)) (λ x q k. search (rules, tests)))
