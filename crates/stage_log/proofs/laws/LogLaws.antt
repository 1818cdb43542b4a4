-- A mark in one of the twelve parts of the span store is the rules' mark on that ring, and no other ring is touched; the log as the list of its rings. Assumes
-- nothing.
use Rattle.std.specs.Prelude.{◌≡◌, length, get_or, set, take, replicate}
use Rattle.std.proofs.Math.Path.{ap}
use Rattle.std.proofs.Common.{sym, ◌∙◌, zero-mul, suc-mul, mul-le-mul_right, arith, drop-drop, take_at, drop_at}
use mathlib.Core.List.{List, [], ◌∷◌, ◌++◌, append_assoc}
use Prim.Native.Nat.{ℕ, zero, suc, ◌+◌, ◌*◌, ◌≤◌, ◌<◌}
use Rattle.std.proofs.Math.ListN.{drop, length-set, get_or-map}
use Rattle.std.proofs.lemmas.List.{replicate-append-replicate, length-replicate, get_or-replicate}
use Rattle.std.proofs.Math.Seq.{get_or-set_same, get_or-set_other, drop-append-add, take-append-add}
use Rattle.rules.specs.Log as rules
use Rattle.rules.specs.Log.{Span, write, mark, no_marks, Sound, store_width}
use Rattle.rules.specs.Lists.{All}
use Rattle.rules.proofs.laws.RingLaws.{entry_written, entry_kept, length_write, write_split}
use Rattle.rules.proofs.laws.MarkLaws.{mark_sound}
use Rattle.stage_log.specs.View.{marks_in, bare_marks, Logged, fresh_marks, fresh_log, part_of, with_part, marks_at, with_marks, marked_at, joined, log_of}
use Rattle.stage_log.specs.Ready.{Twelve}

-- ---- a part of the store

-- part k of twelve lies in the store
pub part_inside : (size k : ℕ) → k < 12 → k * size + size ≤ size * 12
part_inside size k h = omega (arith, mul-le-mul_right size h, suc-mul k size)

module _ (size : ℕ) (ws p : List ℕ) (k : ℕ) (long : length ws ≡ size * 12) (n : length p ≡ size) (h : k < 12) where
  -- putting a part is writing its words
  part_write : with_part size ws k p ≡ write ws (k * length p) p
  part_write =
      let fits : k * length p + length p ≤ length ws = omega (arith, ap (λ (m : ℕ). k * m) n, part_inside size k h) in
      ap (λ (l : List ℕ). take (k * size) ws ++ (p ++ l)) (drop-drop size (k * size) ws)
      ∙ ap (λ (m : ℕ). take (k * m) ws ++ (p ++ drop (k * m + m) ws)) (sym n)
      ∙ sym (write_split ws (k * length p) p fits)

  pub part_same : part_of size (with_part size ws k p) k ≡ p
  part_same = ap (λ (l : List ℕ). part_of size l k) part_write ∙ entry_written size 12 ws p k long n h

  pub part_other : (j : ℕ) → (j ≡ k → ⊥) → part_of size (with_part size ws k p) j ≡ part_of size ws j
  part_other j d = ap (λ (l : List ℕ). part_of size l j) part_write ∙ entry_kept size ws p k j n d

  pub part_length : length (with_part size ws k p) ≡ length ws
  part_length = ap length part_write ∙ length_write ws (k * length p) p

-- ---- the log with its store

module _ (cap : ℕ) (x : Logged) (k : ℕ) (m : rules.Marks) (t : Twelve cap x) (n : length m.ring.words ≡ cap * 2) (h : k < 12) where
  long : length x.spans ≡ cap * 2 * 12
  long = omega (arith, t.store)

  pub with_twelve : Twelve cap (with_marks cap x k m)
  unfolding with_marks
  with_twelve =
      record {
        marks = length-set x.log.marks k (bare_marks m) ∙ t.marks;
        store = part_length (cap * 2) x.spans m.ring.words k long n h ∙ t.store;
      }

  pub with_same : marks_at cap (with_marks cap x k m) k ≡ m
  unfolding with_marks marks_at
  with_same =
      let r = get_or-set_same x.log.marks k (bare_marks m) fresh_marks (omega (arith, t.marks)) in
      let w = part_same (cap * 2) x.spans m.ring.words k long n h in
      λ i. marks_in (r i) (w i)

  pub with_other : (j : ℕ) → (j ≡ k → ⊥) → marks_at cap (with_marks cap x k m) j ≡ marks_at cap x j
  unfolding with_marks marks_at
  with_other j d =
      let r = get_or-set_other x.log.marks k j (bare_marks m) fresh_marks d in
      let w = part_other (cap * 2) x.spans m.ring.words k long n h j d in
      λ i. marks_in (r i) (w i)

module _ (cap : ℕ) (x : Logged) (k : ℕ) (s : Span) (t : Twelve cap x) (sound : Sound 2 cap (marks_at cap x k).ring) (h : k < 12) where
  wide : length (mark cap (marks_at cap x k) s).ring.words ≡ cap * 2
  wide = omega (arith, (mark_sound cap (marks_at cap x k) sound s).long)

  pub marked_twelve : Twelve cap (marked_at cap x k s)
  unfolding marked_at
  marked_twelve = with_twelve cap x k (mark cap (marks_at cap x k) s) t wide h

  -- the ring that is marked
  pub marked_same : marks_at cap (marked_at cap x k s) k ≡ mark cap (marks_at cap x k) s
  unfolding marked_at
  marked_same = with_same cap x k (mark cap (marks_at cap x k) s) t wide h

  -- and every other
  pub marked_other : (j : ℕ) → (j ≡ k → ⊥) → marks_at cap (marked_at cap x k s) j ≡ marks_at cap x j
  unfolding marked_at
  marked_other j d = with_other cap x k (mark cap (marks_at cap x k) s) t wide h j d

-- ---- the log as the list of its rings

-- each ring has the words of a part
abbrev pub AllParts : ℕ → List rules.Marks → Type 0
AllParts cap ms = All (λ m. length m.ring.words ≡ cap * 2) ms

module _ (size : ℕ) where
  past_first : (w rest : List ℕ) (k : ℕ) → length w ≡ size → drop (suc k * size) (w ++ rest) ≡ drop (k * size) rest
  past_first w rest k n =
      ap (λ (m : ℕ). drop m (w ++ rest)) (let q : suc k * size ≡ length w + k * size = omega (arith, suc-mul k size) in q) ∙ drop-append-add w rest (k * size)

  upto_first : (w rest : List ℕ) (k : ℕ) → length w ≡ size → take (suc k * size) (w ++ rest) ≡ w ++ take (k * size) rest
  upto_first w rest k n =
      ap (λ (m : ℕ). take m (w ++ rest)) (let q : suc k * size ≡ length w + k * size = omega (arith, suc-mul k size) in q) ∙ take-append-add w rest (k * size)

module _ (cap : ℕ) where
  joined_part : (ms : List rules.Marks) (k : ℕ) → AllParts cap ms → k < length ms → part_of (cap * 2) (joined ms) k ≡ (get_or ms k (no_marks cap)).ring.words
  unfolding joined
  joined_part [] k a h = absurd (omega arith)
  joined_part (m ∷ ms) zero a h = rw (zero-mul (cap * 2)) (take_at m.ring.words (joined ms) (cap * 2) a.0)
  joined_part (m ∷ ms) (suc k) a h = ap (take (cap * 2)) (past_first (cap * 2) m.ring.words (joined ms) k a.0) ∙ joined_part ms k a.1 (omega arith)

  joined_set : (ms : List rules.Marks) (k : ℕ) (m : rules.Marks) → AllParts cap ms → k < length ms
      → with_part (cap * 2) (joined ms) k m.ring.words ≡ joined (set ms k m)
  unfolding joined
  joined_set [] k m a h = absurd (omega arith)
  joined_set (x ∷ ms) zero m a h = rw (zero-mul (cap * 2)) (ap (λ (l : List ℕ). m.ring.words ++ l) (drop_at x.ring.words (joined ms) (cap * 2) a.0))
  joined_set (x ∷ ms) (suc k) m a h =
      let w = x.ring.words in
      (λ i. upto_first (cap * 2) w (joined ms) k a.0 i ++ (m.ring.words ++ drop (cap * 2) (past_first (cap * 2) w (joined ms) k a.0 i)))
      ∙ append_assoc w (take (k * (cap * 2)) (joined ms)) (m.ring.words ++ drop (cap * 2) (drop (k * (cap * 2)) (joined ms)))
      ∙ ap (λ (l : List ℕ). w ++ l) (joined_set ms k m a.1 (omega arith))

  -- the rings of the list are those of the log
  pub list_marks : (ms : List rules.Marks) (k : ℕ) → AllParts cap ms → k < length ms → marks_at cap (log_of ms) k ≡ get_or ms k (no_marks cap)
  unfolding marks_at log_of
  list_marks ms k a h =
      let r = get_or-map (λ (m : rules.Marks). bare_marks m) ms k (no_marks cap) in
      let w = joined_part ms k a h in
      λ i. marks_in (r i) (w i)

joined_zeros : (cap n : ℕ) → joined (replicate n (no_marks cap)) ≡ replicate (n * (2 * cap)) 0
unfolding joined
joined_zeros cap zero = rw (zero-mul (2 * cap))
joined_zeros cap (suc n) =
    ap (λ (l : List ℕ). replicate (2 * cap) 0 ++ l) (joined_zeros cap n)
    ∙ replicate-append-replicate (2 * cap) (n * (2 * cap)) 0
    ∙ ap (λ (k : ℕ). replicate k 0) (let q : 2 * cap + n * (2 * cap) ≡ suc n * (2 * cap) = omega (arith, suc-mul n (2 * cap)) in q)

-- the fresh log, with a store of zeros
pub list_fresh : (cap : ℕ) → log_of (replicate 12 (no_marks cap)) ≡ record { log = fresh_log; spans = replicate (cap * store_width) 0 }
unfolding log_of fresh_log
list_fresh cap =
    let w = joined_zeros cap 12 ∙ ap (λ (k : ℕ). replicate k 0) (let q : 12 * (2 * cap) ≡ cap * store_width = omega arith in q) in
    λ i. record { log = fresh_log; spans = w i }

fresh_parts : (cap n : ℕ) → AllParts cap (replicate n (no_marks cap))
fresh_parts cap zero = tt
fresh_parts cap (suc n) = (length-replicate (2 * cap) 0 ∙ (let q : 2 * cap ≡ cap * 2 = omega arith in q), fresh_parts cap n)

pub fresh_marks_at : (cap k : ℕ) → k < 12 → marks_at cap (record { log = fresh_log; spans = replicate (cap * store_width) 0 }) k ≡ no_marks cap
fresh_marks_at cap k h =
    let twelve = length-replicate 12 (no_marks cap) in
    ap (λ (x : Logged). marks_at cap x k) (sym (list_fresh cap))
    ∙ list_marks cap (replicate 12 (no_marks cap)) k (fresh_parts cap 12) (omega arith)
    ∙ get_or-replicate 12 k (no_marks cap) (no_marks cap) h
