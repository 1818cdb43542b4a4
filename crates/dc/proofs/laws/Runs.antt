-- A run over a list that has come to place k. Assumes nothing.
use Rattle.std.specs.Prelude.{◌≡◌, ℕ, ◌+◌, ◌<◌, ◌≤◌, Bool, true, false, cond, ◌&&◌, List, ◌∷◌, ◌++◌, length, take, drop, set, ◌==◌, slice_index, slice_set, refl, Float}
use Rattle.std.proofs.Common.{sym, ap, ◌∙◌, subst, arith, length-set, drop_of_length-le}
use mir.Val.{bool_byte}
use Rattle.complex.specs.Complex.{Complex, sample_of}
use Rattle.rules.specs.Lists.{indicator}
use Rattle.rules.proofs.laws.ListLaws.{byte_is, bit}
use Rattle.rules.specs.Dc.{Level, blocked, is_zero, advanced, stepped, level_after, blocked_all, clamped_steps, restored_all}
use Rattle.amplitude_limit.proofs.laws.Slices.{left, put, behind, whole}
use Rattle.dc.specs.declared.DcBlocker.{DcBlocker}
use Rattle.dc.specs.declared.Taken.{Taken}
use Rattle.dc.proofs.laws.Steps.{moved, advanced_by}
use Rattle.dc.specs.Blocker.{level_of, processed, taken_of, restored, restored_word, blocker_after, clamped_in, processed_all, undone_all}

advanced_count : (a : Float) (l : Level) (y : Complex) → (advanced a l y).updates ≤ l.updates + 1
advanced_count a l y =
    subst (λ (z : Level). z.updates ≤ l.updates + 1) (sym (advanced_by a l y (l.updates == 0 && is_zero y) refl)) (go (l.updates == 0 && is_zero y))
  where
    go : (t : Bool) → (cond t l (moved a l y)).updates ≤ l.updates + 1
    go true = omega arith
    go false = omega arith

-- a sample is one update at most
pub processed_count : (b : DcBlocker) (x : ℕ) → (processed b x).n ≤ b.n + 1
unfolding processed stepped
processed_count b x = advanced_count b.a (level_of b) (blocked (level_of b).level (sample_of x))

pub restored_count : (b : DcBlocker) (y : ℕ) → (restored b y).n ≤ b.n + 1
unfolding restored
restored_count b y = advanced_count b.a (level_of b) (sample_of y)

-- ---- a run that has come to place k of its list

after_here : (b : DcBlocker) (xs : List ℕ) (k : ℕ) → k < length xs
    → blocker_after b (drop k xs) ≡ blocker_after (processed b (slice_index xs k)) (drop (k + 1) xs)
unfolding level_after processed
after_here b xs k h = ap (blocker_after b) (left xs k h)

clamped_here : (b : DcBlocker) (xs : List ℕ) (k : ℕ) → k < length xs
    → let x = slice_index xs k in clamped_in b (drop k xs) ≡ indicator (taken_of b x).clamped + clamped_in (processed b x) (drop (k + 1) xs)
unfolding clamped_steps processed taken_of
clamped_here b xs k h = ap (clamped_in b) (left xs k h)

processed_here : (b : DcBlocker) (xs : List ℕ) (k : ℕ) → k < length xs
    → let x = slice_index xs k in processed_all b (drop k xs) ≡ (taken_of b x).word ∷ processed_all (processed b x) (drop (k + 1) xs)
unfolding blocked_all processed taken_of
processed_here b xs k h = ap (processed_all b) (left xs k h)

undone_here : (b : DcBlocker) (ys : List ℕ) (k : ℕ) → k < length ys
    → let y = slice_index ys k in undone_all b (drop k ys) ≡ restored_word b y ∷ undone_all (restored b y) (drop (k + 1) ys)
unfolding restored_all restored restored_word
undone_here b ys k h = ap (undone_all b) (left ys k h)

-- the blocker b and the count n of a run that has come to place k: with the samples that are left in xs, they give the whole run's. Observing, xs stays xs₀
pub record Counting (b₀ : DcBlocker) (xs₀ : List ℕ) (b : DcBlocker) (n : ℕ) (xs : List ℕ) (k : ℕ) : Type 0 where
  pub place : k ≤ length xs₀
  pub updates : b.n ≤ b₀.n + k
  pub few : n ≤ k
  pub after : blocker_after b (drop k xs) ≡ blocker_after b₀ xs₀
  pub counted : n + clamped_in b (drop k xs) ≡ clamped_in b₀ xs₀

pub counting_start : (b : DcBlocker) (xs : List ℕ) → Counting b xs b 0 xs 0
counting_start b xs = record { place = omega arith; updates = omega arith; few = omega arith; after = refl; counted = omega arith }

-- by the blocker b' after sample k, and whether its update was clamped
pub counting_next : (b₀ : DcBlocker) (xs₀ : List ℕ) (b b' : DcBlocker) (n : ℕ) (t : Bool) (xs ys : List ℕ) (k : ℕ) → length xs ≡ length xs₀ → k < length xs
    → drop (k + 1) ys ≡ drop (k + 1) xs → b' ≡ processed b (slice_index xs k) → t ≡ (taken_of b (slice_index xs k)).clamped
    → Counting b₀ xs₀ b n xs k → Counting b₀ xs₀ b' (n + bool_byte t) ys (k + 1)
counting_next b₀ xs₀ b b' n t xs ys k same h rest e f g =
    let x = slice_index xs k in
    let b₁ = processed b x in
    let t₁ = (taken_of b x).clamped in
    let one_more = processed_count b x in
    let few = bit t₁ in
    let is = byte_is t₁ in
    let updates = g.updates in
    let counts = g.few in
    let here = clamped_here b xs k h in
    let left_over = ap (clamped_in b₁) rest in
    let all = g.counted in
    let next : Counting b₀ xs₀ b₁ (n + bool_byte t₁) ys (k + 1) = record {
      place = omega arith;
      updates = omega arith;
      few = omega arith;
      after = ap (blocker_after b₁) rest ∙ sym (after_here b xs k h) ∙ g.after;
      counted = omega arith;
    } in
    let P : DcBlocker → Bool → Type 0 = λ c s. Counting b₀ xs₀ c (n + bool_byte s) ys (k + 1) in
    subst (λ (c : DcBlocker). P c t) (sym e) (subst (P b₁) (sym f) next)

pub counting_end : (b₀ : DcBlocker) (xs₀ : List ℕ) (b : DcBlocker) (n : ℕ) (xs : List ℕ) (k : ℕ) → length xs ≤ k → Counting b₀ xs₀ b n xs k
    → (b ≡ blocker_after b₀ xs₀) × (n ≡ clamped_in b₀ xs₀)
unfolding level_after clamped_steps
counting_end b₀ xs₀ b n xs k h g =
    let none = drop_of_length-le xs h in
    let rest : clamped_in b (drop k xs) ≡ 0 = ap (clamped_in b) none in
    let all = g.counted in
    (ap (blocker_after b) (sym none) ∙ g.after, omega arith)

-- applying, at place k: xs is the slice as it is there
pub record Processing (b₀ : DcBlocker) (xs₀ : List ℕ) (b : DcBlocker) (n : ℕ) (xs : List ℕ) (k : ℕ) : Type 0 where
  pub same : length xs ≡ length xs₀
  pub counting : Counting b₀ xs₀ b n xs k
  pub written : take k xs ++ processed_all b (drop k xs) ≡ processed_all b₀ xs₀

pub processing_next : (b₀ : DcBlocker) (xs₀ : List ℕ) (b b' : DcBlocker) (n : ℕ) (t : Taken) (xs : List ℕ) (k : ℕ) → k < length xs
    → b' ≡ processed b (slice_index xs k) → t ≡ taken_of b (slice_index xs k) → Processing b₀ xs₀ b n xs k
    → Processing b₀ xs₀ b' (n + bool_byte t.clamped) (slice_set xs k t.word) (k + 1)
processing_next b₀ xs₀ b b' n t xs k h e f g =
    let x = slice_index xs k in
    let ys = set xs k t.word in
    let rest : drop (k + 1) ys ≡ drop (k + 1) xs = behind xs k t.word in
    record {
      same = length-set xs k t.word ∙ g.same;
      counting = counting_next b₀ xs₀ b b' n t.clamped xs ys k g.same h rest e (ap (λ (s : Taken). s.clamped) f) g.counting;
      written = ap (λ (zs : List ℕ). take (k + 1) ys ++ processed_all b' zs) rest
          ∙ put xs (processed_all b' (drop (k + 1) xs)) k t.word h
          ∙ (λ i. take k xs ++ ((f i).word ∷ processed_all (e i) (drop (k + 1) xs)))
          ∙ ap (λ (zs : List ℕ). take k xs ++ zs) (sym (processed_here b xs k h))
          ∙ g.written;
    }

pub processing_end : (b₀ : DcBlocker) (xs₀ : List ℕ) (b : DcBlocker) (n : ℕ) (xs : List ℕ) (k : ℕ) → length xs ≤ k → Processing b₀ xs₀ b n xs k
    → xs ≡ processed_all b₀ xs₀
unfolding blocked_all
processing_end b₀ xs₀ b n xs k h g =
    sym (whole xs k h) ∙ ap (λ (zs : List ℕ). take k xs ++ processed_all b zs) (sym (drop_of_length-le xs h)) ∙ g.written

-- undoing, at place k: out is the second slice as it is there
pub record Undoing (b₀ : DcBlocker) (ys : List ℕ) (b : DcBlocker) (out : List ℕ) (k : ℕ) : Type 0 where
  pub same : length out ≡ length ys
  pub place : k ≤ length ys
  pub updates : b.n ≤ b₀.n + k
  pub written : take k out ++ undone_all b (drop k ys) ≡ undone_all b₀ ys

pub undoing_next : (b₀ : DcBlocker) (ys : List ℕ) (b b' : DcBlocker) (w : ℕ) (out : List ℕ) (k : ℕ) → k < length ys
    → b' ≡ restored b (slice_index ys k) → w ≡ restored_word b (slice_index ys k) → Undoing b₀ ys b out k → Undoing b₀ ys b' (slice_set out k w) (k + 1)
undoing_next b₀ ys b b' w out k h e f g =
    let n = restored_count b (slice_index ys k) in
    let n' = ap (λ (c : DcBlocker). c.n) e in
    let m = g.updates in
    let s = g.same in
    record {
      same = length-set out k w ∙ s;
      place = omega arith;
      updates = omega arith;
      written = put out (undone_all b' (drop (k + 1) ys)) k w (omega arith)
          ∙ (λ i. take k out ++ (f i ∷ undone_all (e i) (drop (k + 1) ys)))
          ∙ ap (λ (zs : List ℕ). take k out ++ zs) (sym (undone_here b ys k h))
          ∙ g.written;
    }

pub undoing_end : (b₀ : DcBlocker) (ys : List ℕ) (b : DcBlocker) (out : List ℕ) (k : ℕ) → length ys ≤ k → Undoing b₀ ys b out k → out ≡ undone_all b₀ ys
unfolding restored_all
undoing_end b₀ ys b out k h g =
    let s = g.same in
    sym (whole out k (omega arith)) ∙ ap (λ (zs : List ℕ). take k out ++ undone_all b zs) (sym (drop_of_length-le ys h)) ∙ g.written
