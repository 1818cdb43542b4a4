-- A size at most L is a number from -L to L; parts under a limit; what place a scan finds. Assumes nothing.
use Rattle.std.specs.Prelude.{◌≡◌, refl, Bool, true, false, ◌&&◌, cond, List, [], ◌∷◌, ℕ, zero, suc, ◌+◌, ◌/◌, ◌%◌, ◌^◌, ◌<◌, ◌≤◌, T, ltb, leb, length, get_or, Float, Ok, Err}
use Rattle.std.proofs.Common.{sym, ◌∙◌, subst, suc-le-suc, add-zero, add_comm, le_of_suc-le-suc, add-one, arith, leb→le}
use Rattle.std.specs.Float.Ieee.{le, neg}
use Rattle.std.specs.Float.Ieee.Fits.{and_l, and_r}
use Rattle.rules.specs.Constants.{part_limit}
use Rattle.rules.proofs.laws.SizeLaws.{part_between}
use Rattle.rules.specs.Lists.{All}
use Rattle.rules.specs.Refusals.{within_limit, first_beyond_from}
use Rattle.refusal.specs.declared.Refusal.{Refusal}
use Rattle.refusal.specs.declared.Refusal.TheVariants as why
use Rattle.amplitude_limit.specs.Limit.{limited, under, checked}

pub limited_is : (x : Float) → limited x ≡ (le (neg part_limit) x && le x part_limit)
unfolding limited
limited_is x = part_between x

-- both parts of a sample under a limit
pub parts_under : (limit w : ℕ) → T (under limit w) → (w % 2 ^ 31 ≤ limit) × (w / 2 ^ 32 % 2 ^ 31 ≤ limit)
unfolding under
parts_under limit w t =
    let a = leb (w % 2 ^ 31) limit in
    let b = leb (w / 2 ^ 32 % 2 ^ 31) limit in
    (leb→le (w % 2 ^ 31) limit (and_l a b t), leb→le (w / 2 ^ 32 % 2 ^ 31) limit (and_r a b t))

-- ---- all are within the limit

pub scan_within : (k : ℕ) (ws : List ℕ) → All (λ w. T (within_limit w)) ws → first_beyond_from k ws ≡ k + length ws
unfolding first_beyond_from
scan_within k [] g = sym (add-zero k)
scan_within k (w ∷ ws) g = go (within_limit w) g.0 (scan_within (suc k) ws g.1)
  where
    go : (t : Bool) → T t → first_beyond_from (suc k) ws ≡ suc k + length ws → cond t (first_beyond_from (suc k) ws) k ≡ k + suc (length ws)
    go true u e = omega arith
    go false u e = elim u [ ]

-- ---- what the place is

from_shift : (k : ℕ) (ws : List ℕ) → first_beyond_from k ws ≡ k + first_beyond_from 0 ws
unfolding first_beyond_from
from_shift k [] = sym (add-zero k)
from_shift k (w ∷ ws) = go (within_limit w) (from_shift (suc k) ws) (from_shift 1 ws)
  where
    go : (t : Bool) → first_beyond_from (suc k) ws ≡ suc k + first_beyond_from 0 ws → first_beyond_from 1 ws ≡ 1 + first_beyond_from 0 ws
        → cond t (first_beyond_from (suc k) ws) k ≡ k + cond t (first_beyond_from 1 ws) 0
    go true a b = omega arith
    go false a b = sym (add-zero k)

-- all samples before the place are within the limit, and the one at the place, if there is one, is not
pub record FirstBeyond (ws : List ℕ) (k : ℕ) : Type 0 where
  pub most : k ≤ length ws
  pub before : (i : ℕ) → i < k → within_limit (get_or ws i 0) ≡ true
  pub here : k < length ws → within_limit (get_or ws k 0) ≡ false

pub first_place : (ws : List ℕ) → FirstBeyond ws (first_beyond_from 0 ws)
unfolding first_beyond_from
first_place [] = record { most = omega arith; before = λ i h. absurd (omega arith); here = λ h. absurd (omega arith) }
first_place (w ∷ ws) = go (within_limit w) refl (first_place ws)
  where
    earlier : (k : ℕ) → FirstBeyond ws k → within_limit w ≡ true → (i : ℕ) → i < suc k → within_limit (get_or (w ∷ ws) i 0) ≡ true
    earlier k r e zero h = e
    earlier k r e (suc i) h = r.before i (le_of_suc-le-suc h)

    go : (t : Bool) → within_limit w ≡ t → FirstBeyond ws (first_beyond_from 0 ws) → FirstBeyond (w ∷ ws) (cond t (first_beyond_from 1 ws) 0)
    go true e r =
        subst (FirstBeyond (w ∷ ws)) (sym (from_shift 1 ws ∙ add_comm 1 (first_beyond_from 0 ws) ∙ add-one (first_beyond_from 0 ws)))
        (record { most = suc-le-suc r.most; before = earlier (first_beyond_from 0 ws) r e; here = λ h. r.here (le_of_suc-le-suc h) })
    go false e r = record { most = omega arith; before = λ i h. absurd (omega arith); here = λ h. e }

-- ---- what the check says

pub checked_err : (ws : List ℕ) (e : Refusal) → Err e ≡ checked ws
    → (ltb (first_beyond_from 0 ws) (length ws) ≡ true) × (e ≡ why.OutOfRange (first_beyond_from 0 ws))
unfolding checked
checked_err ws e h = go (ltb (first_beyond_from 0 ws) (length ws)) refl h
  where
    go : (b : Bool) → ltb (first_beyond_from 0 ws) (length ws) ≡ b → Err e ≡ cond b (Err (why.OutOfRange (first_beyond_from 0 ws))) (Ok (tt {0}))
        → (ltb (first_beyond_from 0 ws) (length ws) ≡ true) × (e ≡ why.OutOfRange (first_beyond_from 0 ws))
    go true t k = (t, grind arith)
    go false t k = absurd (grind arith)

pub checked_ok : (ws : List ℕ) → Ok (tt {0}) ≡ checked ws → ltb (first_beyond_from 0 ws) (length ws) ≡ false
unfolding checked
checked_ok ws h = go (ltb (first_beyond_from 0 ws) (length ws)) refl h
  where
    go : (b : Bool) → ltb (first_beyond_from 0 ws) (length ws) ≡ b → Ok (tt {0}) ≡ cond b (Err (why.OutOfRange (first_beyond_from 0 ws))) (Ok (tt {0}))
        → ltb (first_beyond_from 0 ws) (length ws) ≡ false
    go true t k = absurd (grind arith)
    go false t k = t
