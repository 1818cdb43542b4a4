-- `chain_call::unusable`: what the scan of the new samples found. Assumes nothing.
use mathlib.Core.Path.{◌≡◌, sym, ap, ◌∙◌}
use mathlib.Core.Bool.{Bool, true, cond}
use mathlib.Core.List.{List, [], ◌∷◌}
use Prim.Native.Nat.{ℕ, ◌+◌, ◌-◌}
use native.Mathlib.Omega.{arith}
use lib.ListN.{length, take, drop, length-drop}
use lib.Seq.{take_all}
use borrow.Author.Tests.{ltb-true}
use Rattle.rules.specs.Answers.{accepted, refused}
use Rattle.rules.specs.Refusals.{unusable_at, any_unusable}
use Rattle.chain.proofs.laws.CallTests.{scan_at, scan_fine}
use Rattle.chain_call.proofs.unusable.Goals as goal
use Rattle.chain_call.proofs.unusable.Goals.{In-Some}

-- the part that is scanned is the slice behind the held samples
part : (held : ℕ) (xs : List ℕ) → take (length xs - held) (drop held xs) ≡ drop held xs
part held xs = take_all (length xs - held) (drop held xs) (let l = length-drop held xs in omega arith)

-- a place that was found is the table's
scanned : (c : In-Some) → let a = c.args in
    let xs = drop a.held a.samples.now in
    ((any_unusable a.held xs).holds ≡ true) × (unusable_at a.held xs ≡ a.held + c.in-Some.k)
scanned c =
    let a = c.args in
    scan_at a.held a.samples.now _ (part a.held a.samples.now) _ (sym c.in-Some.is ∙ c.first_unusable.ensures)

pub overflow_add-result : goal.overflow_add-result
overflow_add-result c =
    let held = c.args.held in
    let xs = c.args.samples.now in
    let u = scanned (goal.at.overflow_add-result c).In-Some in
    let under = ltb-true (unusable_at held (drop held xs)) (held + length (drop held xs)) u.0 in
    omega (arith, u.1, under, length-drop held xs)

pub returns-in-Some : goal.returns-in-Some
returns-in-Some c = let u = scanned (goal.at.returns-in-Some c).In-Some in sym (λ i. cond (u.0 i) (refused (7 ∷ u.1 i ∷ [])) (accepted 0))

pub returns-in-None : goal.returns-in-None
returns-in-None c =
    let a = c.args in
    let held = a.held in
    let xs = a.samples.now in
    let fine = scan_fine held xs _ (part held xs) (sym c.in-None.is ∙ c.first_unusable.ensures) in
    sym (ap (λ (b : Bool). cond b (refused (7 ∷ unusable_at held (drop held xs) ∷ [])) (accepted 0)) fine)
