-- Usable by the bit patterns; where a scan stands; guarding word by word. Assumes nothing.
use Rattle.std.specs.Prelude.{◌≡◌, refl, Bool, true, false, not, cond, ◌&&◌, List, [], ◌∷◌, ◌++◌, map, ℕ, suc, ◌+◌, ◌/◌, ◌%◌, ◌^◌, ◌≤◌, ◌<◌, T, ltb, leb, pos, length, drop, take, set, Option, Some, None}
use Rattle.std.proofs.Common.{ap, sym, ◌∙◌, subst, append_assoc, append-nil, add-one, arith, ltb-false, le-ltb, lt-ltb, le-leb, drop_of_length-le, length-set, drop-cons, take-suc-set, drop-set-lt, take_all}
use Rattle.std.proofs.lemmas.Bool.{lt-leb}
use Rattle.std.specs.List.{AllWithin, HoldsAt}
use Rattle.std.specs.Option.{MatchOption, unwrap_or}
use Rattle.std.proofs.lemmas.Iterator.{index_from_first}
use Rattle.std.specs.Float.{fin, binary32}
use Rattle.std.specs.Float.Ieee.{of_fields, of_bits, to_bits, le, fits}
use Rattle.std.specs.Float.Ieee.Bits.{is_true}
use Rattle.std.specs.Float.Ieee.Fits.{and_l, and_r}
use Rattle.complex.specs.Complex.{sample_of}
use Rattle.rules.specs.Constants.{usable_limit}
use Rattle.rules.specs.Guard.{magnitude, usable_part, usable, first_unusable_from, guarded, unusable}
use Rattle.rules.specs.Lists.{at, indicator, all_of}
use Rattle.rules.proofs.laws.ListLaws.{indicator_few}
use Rattle.amplitude_limit.specs.Limit.{under}
use Rattle.sample_guard.specs.Found.{found}
use Rattle.sample_guard.proofs.laws.Patterns.{size_pattern}

-- ---- the limit's pattern

limit_is : usable_limit ≡ fin false 2910383 (pos 35)
unfolding of_bits
limit_is = refl

limit_pattern : to_bits binary32 (fin false 2910383 (pos 35)) ≡ 0x5bb1_a2bc
unfolding to_bits
limit_pattern = refl

in_32 : (b : ℕ) → b < 2 ^ 32 → usable_part (of_bits binary32 b) ≡ leb (b % 2 ^ 31) 0x5bb1_a2bc
unfolding usable_part fits
in_32 b h =
    ap (le (magnitude (of_bits binary32 b))) limit_is
    ∙ size_pattern 2910383 (pos 35) tt (rw limit_pattern (omega arith)) b h
    ∙ ap (leb (b % 2 ^ 31)) limit_pattern

-- of the bits from the sign on it counts only whether there are any
part_pattern : (b : ℕ) → usable_part (of_bits binary32 b) ≡ leb (b % 2 ^ 31) 0x5bb1_a2bc
unfolding of_bits
part_pattern b = go (leb (2 ^ 31) b) refl
  where
    by : (d : ℕ) → d < 2 ^ 32 → leb (2 ^ 31) b ≡ leb (2 ^ 31) d → b % 2 ^ 31 ≡ d % 2 ^ 31 → usable_part (of_bits binary32 b) ≡ leb (b % 2 ^ 31) 0x5bb1_a2bc
    by d h s e =
        let t : b % 2 ^ 23 ≡ d % 2 ^ 23 = omega arith in
        (λ i. usable_part (of_fields binary32 (s i) (e i / 2 ^ 23) (t i))) ∙ in_32 d h ∙ ap (λ (n : ℕ). leb n 0x5bb1_a2bc) (sym e)

    go : (s : Bool) → leb (2 ^ 31) b ≡ s → usable_part (of_bits binary32 b) ≡ leb (b % 2 ^ 31) 0x5bb1_a2bc
    go true s = by (b % 2 ^ 31 + 2 ^ 31) (omega arith) (s ∙ sym (le-leb (2 ^ 31) (b % 2 ^ 31 + 2 ^ 31) (omega arith))) (omega arith)
    go false s = by (b % 2 ^ 31) (omega arith) (s ∙ sym (lt-leb (2 ^ 31) (b % 2 ^ 31) (omega arith))) (omega arith)

-- A sample is usable exactly if the patterns of its parts, without their signs, are up to the limit's.
pub usable_pattern : (w : ℕ) → usable w ≡ under 0x5bb1_a2bc w
unfolding usable sample_of under
usable_pattern w =
    let re = part_pattern (w % 2 ^ 32) ∙ ap (λ (n : ℕ). leb n 0x5bb1_a2bc) (let q : w % 2 ^ 32 % 2 ^ 31 ≡ w % 2 ^ 31 = omega arith in q) in
    λ i. re i && part_pattern (w / 2 ^ 32) i

-- ---- a place

pub place_found : (n k : ℕ) → k ≤ n → unwrap_or (found n k) n ≡ k
unfolding found
place_found n k h = go (ltb k n) refl
  where
    go : (b : Bool) → ltb k n ≡ b → unwrap_or (cond b (Some k) None) n ≡ k
    go true e = refl
    go false e = let g = ltb-false k n e in omega arith

-- ---- a scan

from_next : (k : ℕ) (xs : List ℕ) → first_unusable_from (suc k) xs ≡ first_unusable_from k xs + 1
unfolding first_unusable_from
from_next k [] = omega arith
from_next k (x ∷ xs) = go (usable x) (from_next (suc k) xs)
  where
    go : (u : Bool) → first_unusable_from (suc (suc k)) xs ≡ first_unusable_from (suc k) xs + 1
        → cond u (first_unusable_from (suc (suc k)) xs) (suc k) ≡ cond u (first_unusable_from (suc k) xs) k + 1
    go true e = e
    go false e = omega arith

from_hit : (x : ℕ) (xs : List ℕ) → usable x ≡ false → first_unusable_from 0 (x ∷ xs) ≡ 0
unfolding first_unusable_from
from_hit x xs u = rw u

from_miss : (x : ℕ) (xs : List ℕ) → usable x ≡ true → first_unusable_from 0 (x ∷ xs) ≡ first_unusable_from 0 xs + 1
unfolding first_unusable_from
from_miss x xs u = rw u (from_next 0 xs)

from_none : first_unusable_from 0 [] ≡ 0
unfolding first_unusable_from
from_none = refl

-- the first place of a word that is not usable, with only usable ones before it
abbrev pub IsFirstUnusable : List ℕ → Option ℕ → Type 0
IsFirstUnusable xs r =
    MatchOption r (AllWithin (λ w. usable w ≡ true) xs 0 (length xs))
    (λ i. (i < length xs) × HoldsAt (λ w. usable w ≡ false) xs i × AllWithin (λ w. usable w ≡ true) xs 0 i)

pub first_found : (xs : List ℕ) (r : Option ℕ) → IsFirstUnusable xs r → r ≡ found (length xs) (first_unusable_from 0 xs)
unfolding found
first_found xs r h = go r (index_from_first (first_unusable_from 0) (λ w. usable w ≡ false) (λ w. usable w ≡ true) from_none from_hit from_miss xs r h) h
  where
    go : (r : Option ℕ) → first_unusable_from 0 xs ≡ unwrap_or r (length xs) → IsFirstUnusable xs r
        → r ≡ cond (ltb (first_unusable_from 0 xs) (length xs)) (Some (first_unusable_from 0 xs)) None
    go None e h = rw (le-ltb (first_unusable_from 0 xs) (length xs) (omega arith))
    go (Some i) e h = rw (e, lt-ltb i (length xs) h.0)

-- among usable samples it finds nothing
none_from : (k : ℕ) (xs : List ℕ) → T (all_of (under 0x5bb1_a2bc) xs) → first_unusable_from k xs ≡ k + length xs
unfolding all_of first_unusable_from
none_from k [] t = omega arith
none_from k (x ∷ xs) t =
    let a = under 0x5bb1_a2bc x in
    let b = all_of (under 0x5bb1_a2bc) xs in
    rw (usable_pattern x ∙ is_true a (and_l a b t)) (let e = none_from (suc k) xs (and_r a b t) in omega arith)

pub none_found : (xs : List ℕ) → all_of (under 0x5bb1_a2bc) xs ≡ true → first_unusable_from 0 xs ≡ length xs
none_found xs e = none_from 0 xs (subst T (sym e) tt) ∙ (let z : 0 + length xs ≡ length xs = omega arith in z)

-- ---- guarding

-- what stands after the words before k were guarded
pub record Guarding (xs₀ xs : List ℕ) (n k : ℕ) : Type 0 where
  pub within : k ≤ length xs₀
  pub long : length xs ≡ length xs₀
  pub words : take k xs ++ guarded (drop k xs) ≡ guarded xs₀
  pub count : n + unusable (drop k xs) ≡ unusable xs₀
  pub few : n ≤ k

guarded_here : (xs : List ℕ) (k : ℕ) → k < length xs → guarded (drop k xs) ≡ cond (usable (at xs k)) (at xs k) 0 ∷ guarded (drop (suc k) xs)
unfolding guarded
guarded_here xs k h = ap (map (λ w. cond (usable w) w 0)) (drop-cons xs k 0 h)

unusable_here : (xs : List ℕ) (k : ℕ) → k < length xs → unusable (drop k xs) ≡ indicator (not (usable (at xs k))) + unusable (drop (suc k) xs)
unfolding unusable
unusable_here xs k h = ap unusable (drop-cons xs k 0 h)

module _ (xs₀ xs : List ℕ) (n k : ℕ) (g : Guarding xs₀ xs n k) (h : k < length xs) where
  guarding_next : (v : ℕ) (u : Bool) → usable (at xs k) ≡ u → v ≡ cond u (at xs k) 0 → Guarding xs₀ (set xs k v) (n + indicator (not u)) (k + 1)
  guarding_next v u e s =
      let behind = drop-set-lt (suc k) xs k v (omega arith) in
      let here : cond (usable (at xs k)) (at xs k) 0 ∷ guarded (drop (suc k) xs) ≡ v ∷ guarded (drop (suc k) xs) =
      (λ i. cond (e i) (at xs k) 0 ∷ guarded (drop (suc k) xs)) ∙ ap (λ (w : ℕ). w ∷ guarded (drop (suc k) xs)) (sym s) in
      rw (add-one k)
      (record {
        within = omega (arith, g.long);
        long = length-set xs k v ∙ g.long;
        words =
            (λ i. take-suc-set xs k v h i ++ guarded (behind i))
            ∙ append_assoc (take k xs) (v ∷ []) (guarded (drop (suc k) xs))
            ∙ ap (λ (l : List ℕ). take k xs ++ l) (sym (guarded_here xs k h ∙ here))
            ∙ g.words;
        count = omega (arith, ap unusable behind, unusable_here xs k h, g.count, ap (λ (b : Bool). indicator (not b)) e);
        few = omega (arith, g.few, indicator_few (not u));
      })

  pub guarding_kept : usable (at xs k) ≡ true → Guarding xs₀ (set xs k (at xs k)) n (k + 1)
  guarding_kept e = let z : n + 0 ≡ n = omega arith in rw z at (guarding_next (at xs k) true e refl)

  pub guarding_replaced : usable (at xs k) ≡ false → Guarding xs₀ (set xs k 0) (n + 1) (k + 1)
  guarding_replaced e = guarding_next 0 false e refl

pub guarding_end : (xs₀ xs : List ℕ) (n k : ℕ) → Guarding xs₀ xs n k → length xs ≤ k → (xs ≡ guarded xs₀) × (n ≡ unusable xs₀)
unfolding guarded unusable
guarding_end xs₀ xs n k g h =
    let none = drop_of_length-le xs {i = k} h in
    let words : take k xs ++ guarded [] ≡ guarded xs₀ = ap (λ (l : List ℕ). take k xs ++ guarded l) (sym none) ∙ g.words in
    let count : n + unusable [] ≡ unusable xs₀ = ap (λ (l : List ℕ). n + unusable l) (sym none) ∙ g.count in
    (sym (append-nil (take k xs) ∙ take_all k xs h) ∙ words, (let q : n ≡ n + 0 = omega arith in q) ∙ count)

-- a list of usable samples stays as it is
pub all_usable : (xs : List ℕ) → unusable xs ≡ 0 → guarded xs ≡ xs
unfolding unusable guarded
all_usable [] e = refl
all_usable (x ∷ xs) e = go (usable x) refl (all_usable xs (omega arith))
  where
    go : (b : Bool) → usable x ≡ b → guarded xs ≡ xs → cond b x 0 ∷ guarded xs ≡ x ∷ xs
    go true u r = ap (λ (l : List ℕ). x ∷ l) r
    go false u r = absurd (let q : indicator (not (usable x)) ≡ 1 = ap (λ (b : Bool). indicator (not b)) u in omega arith)
