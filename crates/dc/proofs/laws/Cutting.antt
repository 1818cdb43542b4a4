-- The stage theorem: however the samples are cut into calls, the blocker, what it wrote and how often its limit acted are the rules' for all of them.
-- Assumes nothing.
use Rattle.std.specs.Prelude.{◌≡◌, ℕ, suc, ◌+◌, ◌≤◌, List, [], ◌∷◌, ◌++◌, length, refl, Float}
use Rattle.std.proofs.Common.{sym, ap, ◌∙◌, arith}
use mathlib.Core.List.{flatten}
use Rattle.complex.specs.Complex.{word_of, sample_of}
use Rattle.rules.proofs.laws.ListLaws.{indicator_few}
use Rattle.rules.specs.Dc.{Level, corner, first_level, clamps, blocked, stepped, level_after, blocked_all, clamped_steps}
use Rattle.dc.specs.declared.DcBlocker.{DcBlocker}
use Rattle.dc.specs.Blocker.{level_of, blocker_of, blocker_after, clamped_in, processed_all, after_calls, written_by, clamped_by}

-- ---- samples after samples
pub level_append : (a : Float) (l : Level) (xs ys : List ℕ) → level_after a l (xs ++ ys) ≡ level_after a (level_after a l xs) ys
unfolding level_after
level_append a l [] ys = refl
level_append a l (x ∷ xs) ys = level_append a (stepped a l x) xs ys

pub blocked_append : (a : Float) (l : Level) (xs ys : List ℕ) → blocked_all a l (xs ++ ys) ≡ blocked_all a l xs ++ blocked_all a (level_after a l xs) ys
unfolding level_after blocked_all
blocked_append a l [] ys = refl
blocked_append a l (x ∷ xs) ys = ap (λ (r : List ℕ). word_of (blocked l.level (sample_of x)) ∷ r) (blocked_append a (stepped a l x) xs ys)

pub blocked_length : (a : Float) (l : Level) (xs : List ℕ) → length (blocked_all a l xs) ≡ length xs
unfolding blocked_all
blocked_length a l [] = refl
blocked_length a l (x ∷ xs) = ap suc (blocked_length a (stepped a l x) xs)

pub clamped_append : (a : Float) (l : Level) (xs ys : List ℕ)
    → clamped_steps a l (xs ++ ys) ≡ clamped_steps a l xs + clamped_steps a (level_after a l xs) ys
unfolding level_after clamped_steps
clamped_append a l [] ys = omega arith
clamped_append a l (x ∷ xs) ys = let e = clamped_append a (stepped a l x) xs ys in omega arith

-- no more than there are samples
pub clamped_few : (a : Float) (l : Level) (xs : List ℕ) → clamped_steps a l xs ≤ length xs
unfolding clamped_steps
clamped_few a l [] = omega arith
clamped_few a l (x ∷ xs) =
    let here = indicator_few (clamps (blocked l.level (sample_of x))) in
    let rest = clamped_few a (stepped a l x) xs in
    omega arith

-- ---- calls after calls
after_joined : (b : DcBlocker) (calls : List (List ℕ)) → after_calls b calls ≡ blocker_after b (flatten calls)
unfolding after_calls flatten level_after
after_joined b [] = refl
after_joined b (xs ∷ calls) = after_joined (blocker_after b xs) calls ∙ ap (blocker_of b.a) (sym (level_append b.a (level_of b) xs (flatten calls)))

written_joined : (b : DcBlocker) (calls : List (List ℕ)) → written_by b calls ≡ processed_all b (flatten calls)
unfolding written_by flatten blocked_all
written_joined b [] = refl
written_joined b (xs ∷ calls) =
    ap (λ (r : List ℕ). processed_all b xs ++ r) (written_joined (blocker_after b xs) calls) ∙ sym (blocked_append b.a (level_of b) xs (flatten calls))

clamped_joined : (b : DcBlocker) (calls : List (List ℕ)) → clamped_by b calls ≡ clamped_in b (flatten calls)
unfolding clamped_by flatten clamped_steps
clamped_joined b [] = refl
clamped_joined b (xs ∷ calls) =
    ap (λ (n : ℕ). clamped_in b xs + n) (clamped_joined (blocker_after b xs) calls) ∙ sym (clamped_append b.a (level_of b) xs (flatten calls))

-- THE STAGE THEOREM: from fresh, whatever the calls
pub record ByTheRules (fs : Float) (calls : List (List ℕ)) : Type 0 where
  pub level : after_calls (blocker_of (corner fs) first_level) calls ≡ blocker_of (corner fs) (level_after (corner fs) first_level (flatten calls))
  pub outputs : written_by (blocker_of (corner fs) first_level) calls ≡ blocked_all (corner fs) first_level (flatten calls)
  pub clamped : clamped_by (blocker_of (corner fs) first_level) calls ≡ clamped_steps (corner fs) first_level (flatten calls)

pub any_cutting : (fs : Float) (calls : List (List ℕ)) → ByTheRules fs calls
any_cutting fs calls =
    let b = blocker_of (corner fs) first_level in
    record { level = after_joined b calls; outputs = written_joined b calls; clamped = clamped_joined b calls }
