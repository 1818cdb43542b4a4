-- Loops over a group of 16 words that have come to place j. Assumes nothing.
use Rattle.std.specs.Prelude.{◌≡◌, ℕ, zero, suc, ◌+◌, ◌-◌, ◌<◌, ◌≤◌, Bool, true, T, ◌⊎◌, List, [], ◌∷◌, ◌++◌, map, length, take, drop, bit_or, slice_index, slice_set, refl}
use Rattle.std.proofs.Common.{sym, ap, ◌∙◌, subst, inl, inr, append_assoc, append-nil, le_of_suc-le-suc, not-suc-le-zero, arith, length-set, length-append, length-drop, take-append-drop, drop_of_length-le, get_or-set_same, get_or-set_other, ext_get_or, length-take-le, take_all, take_at, drop_at, drop-drop}
use Rattle.std.proofs.lemmas.List.{map-append, length-map}
use Rattle.std.specs.Float.Ieee.Fits.{and_l, and_r}
use Rattle.ieee.proofs.laws.Numbers.{le_or_lt}
use Rattle.rules.specs.Lists.{all_of}
use Rattle.amplitude_limit.specs.Limit.{under}
use Rattle.amplitude_limit.proofs.laws.LimitLaws.{parts_under}
use Rattle.iq_correction.specs.Groups.{FiniteWord, Clear, Mapping}
use Rattle.iq_correction.proofs.laws.GroupLaws.{clear_l, clear_r}

-- ---- a group of finite samples
all_at : (p : ℕ → Bool) (xs : List ℕ) (j : ℕ) → j < length xs → T (all_of p xs) → T (p (slice_index xs j))
unfolding all_of
all_at p [] j h t = absurd (not-suc-le-zero h)
all_at p (x ∷ xs) zero h t = and_l (p x) (all_of p xs) t
all_at p (x ∷ xs) (suc j) h t = all_at p xs j (le_of_suc-le-suc h) (and_r (p x) (all_of p xs) t)

finite : (w : ℕ) → T (under 0x7f7f_ffff w) → FiniteWord w
finite w t = let h = parts_under 0x7f7f_ffff w t in record { re = omega (arith, h.0); im = omega (arith, h.1) }

pub finite_at : (xs : List ℕ) (j : ℕ) → length xs ≡ 16 → j < 16 → all_of (under 0x7f7f_ffff) xs ≡ true → FiniteWord (slice_index xs j)
finite_at xs j n h e = finite (slice_index xs j) (all_at (under 0x7f7f_ffff) xs j (omega arith) (subst T (sym e) tt))

-- one more place
up_to : (P : ℕ → Type 0) (j : ℕ) → ((i : ℕ) → i < j → P i) → P j → (i : ℕ) → i < j + 1 → P i
up_to P j before here i h = go (le_or_lt j i)
  where
    go : (j ≤ i) ⊎ (i < j) → P i
    go (inl g) = let e : j ≡ i = omega arith in subst P e here
    go (inr g) = before i g

-- what is put at j
put_at : (P : ℕ → ℕ → Type 0) (xs : List ℕ) (j w : ℕ) → j < length xs → ((i : ℕ) → i < j → P i (slice_index xs i)) → P j w → (i : ℕ) → i < j + 1
    → P i (slice_index (slice_set xs j w) i)
put_at P xs j w h before here =
    up_to (λ (i : ℕ). P i (slice_index (slice_set xs j w) i)) j
    (λ i l. subst (P i) (sym (get_or-set_other xs j i w 0 (λ (e : i ≡ j). omega arith))) (before i l))
    (subst (P j) (sym (get_or-set_same xs j w 0 h)) here)

-- ---- words that are right if the mark is clear
pub record Trying (f : ℕ → ℕ) (xs out : List ℕ) (mark j : ℕ) : Type 0 where
  pub size : length out ≡ 16
  pub place : j ≤ 16
  pub right : Clear mark → (i : ℕ) → i < j → slice_index out i ≡ f (slice_index xs i)

pub trying_next : (f : ℕ → ℕ) (xs out : List ℕ) (mark j w m : ℕ) → j < 16 → (Clear m → w ≡ f (slice_index xs j)) → Trying f xs out mark j
    → Trying f xs (slice_set out j w) (bit_or mark m) (j + 1)
trying_next f xs out mark j w m h here g =
    let s = g.size in
    record {
      size = length-set out j w ∙ s;
      place = omega arith;
      right = λ t. put_at (λ (i v : ℕ). v ≡ f (slice_index xs i)) out j w (omega arith) (g.right (clear_l mark m t)) (here (clear_r mark m t));
    }

map_at : (f : ℕ → ℕ) (xs : List ℕ) (i : ℕ) → i < length xs → slice_index (map f xs) i ≡ f (slice_index xs i)
map_at f [] i h = absurd (not-suc-le-zero h)
map_at f (x ∷ xs) zero h = refl
map_at f (x ∷ xs) (suc i) h = map_at f xs i (le_of_suc-le-suc h)

pub trying_end : (f : ℕ → ℕ) (xs out : List ℕ) (mark j : ℕ) → length xs ≡ 16 → 16 ≤ j → Clear mark → Trying f xs out mark j → out ≡ map f xs
trying_end f xs out mark j n h t g =
    let s = g.size in
    let l : length out ≡ length (map f xs) = s ∙ sym (length-map xs f ∙ n) in
    ext_get_or 0 out (map f xs) l (λ i k. g.right t i (omega arith) ∙ sym (map_at f xs i (omega arith)))

-- ---- a group written in its place
mapping_group : (f : ℕ → ℕ) (xs₀ xs ys : List ℕ) (k : ℕ) → k + 16 ≤ length xs → ys ≡ map f (take 16 (drop k xs)) → Mapping f xs₀ xs k
    → Mapping f xs₀ (take k xs ++ (ys ++ drop (k + 16) xs)) (k + 16)
mapping_group f xs₀ xs ys k h e g =
    let s = g.same in
    let rest = drop (k + 16) xs in
    let zs = take k xs ++ (ys ++ rest) in
    let n : length (take k xs) ≡ k = length-take-le k xs (omega arith) in
    let m : length ys ≡ 16 = ap length e ∙ length-map (take 16 (drop k xs)) f ∙ length-take-le 16 (drop k xs) (simp length-drop (omega arith)) in
    let p = take k xs ++ ys in
    let split : zs ≡ p ++ rest = sym (append_assoc (take k xs) ys rest) in
    let size : length p ≡ k + 16 = length-append (take k xs) ys ∙ ap (λ (a : ℕ). a + length ys) n ∙ ap (λ (a : ℕ). k + a) m in
    record {
      same = ap length split ∙ length-append p rest ∙ simp length-drop (omega arith);
      place = omega arith;
      written = ap (λ (l : List ℕ). take (k + 16) l ++ map f (drop (k + 16) l)) split
          ∙ ap (λ (l : List ℕ). l ++ map f (drop (k + 16) (p ++ rest))) (take_at p rest (k + 16) size)
          ∙ ap (λ (l : List ℕ). p ++ map f l) (drop_at p rest (k + 16) size)
          ∙ append_assoc (take k xs) ys (map f rest)
          ∙ ap (λ (l : List ℕ). take k xs ++ l)
          (ap (λ (l : List ℕ). l ++ map f rest) e ∙ ap (λ (l : List ℕ). map f (take 16 (drop k xs)) ++ map f l) (sym (drop-drop 16 k xs))
          ∙ sym (map-append f (take 16 (drop k xs)) (drop 16 (drop k xs))) ∙ ap (map f) (take-append-drop 16 (drop k xs)))
          ∙ g.written;
    }

pub mapping_part : (f : ℕ → ℕ) (xs₀ xs ys : List ℕ) (k n m : ℕ) → n ≡ 16 → k + 16 ≡ m → m ≤ length xs → ys ≡ map f (take n (drop k xs)) → Mapping f xs₀ xs k
    → Mapping f xs₀ (take k xs ++ (ys ++ drop n (drop k xs))) m
mapping_part f xs₀ xs ys k n m long next h e g =
    subst (λ (j : ℕ). Mapping f xs₀ (take k xs ++ (ys ++ drop n (drop k xs))) j) next
    (subst (λ (n : ℕ). Mapping f xs₀ (take k xs ++ (ys ++ drop n (drop k xs))) (k + 16)) (sym long)
    (subst (λ (l : List ℕ). Mapping f xs₀ (take k xs ++ (ys ++ l)) (k + 16)) (sym (drop-drop 16 k xs))
    (mapping_group f xs₀ xs ys k (omega arith) (e ∙ ap (λ (n : ℕ). map f (take n (drop k xs))) long) g)))

-- ---- all that is left written in its place
pub mapping_rest : (f : ℕ → ℕ) (xs₀ xs ys : List ℕ) (k : ℕ) → ys ≡ map f (take (length xs - k) (drop k xs)) → Mapping f xs₀ xs k
    → take k xs ++ (ys ++ drop (length xs - k) (drop k xs)) ≡ map f xs₀
mapping_rest f xs₀ xs ys k e g =
    let l : length (drop k xs) ≤ length xs - k = simp length-drop (omega arith) in
    ap (λ (r : List ℕ). take k xs ++ (ys ++ r)) (drop_of_length-le (drop k xs) l)
    ∙ ap (λ (r : List ℕ). take k xs ++ r) (append-nil ys ∙ e ∙ ap (map f) (take_all (length xs - k) (drop k xs) l))
    ∙ g.written
