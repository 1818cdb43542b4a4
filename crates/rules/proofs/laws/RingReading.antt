-- A ring read as the list of its entries, oldest first: appending in the words is appending to that list, the oldest going when it is full; marking in the
-- words is marking on the list of spans. Assumes nothing.
use Rattle.std.specs.Prelude.{◌≡◌, Bool, true, false, cond, ◌&&◌, ltb, eqb, set, drop}
use Rattle.std.proofs.Math.Path.{refl, sym}
use Rattle.std.proofs.Common.{ap, ◌∙◌, subst, add-one, mod-lt, mod-eq_of_lt, arith, lt-ltb, eq-eqb, ne_eqb, ltb-false, length-append, get_or-set_same, get_or-set_other, get_or-take, get_or-drop}
use mathlib.Core.List.{List, [], ◌∷◌, ◌++◌, append_assoc, append-nil, foldl, map, map-append}
use Prim.Native.Nat.{ℕ, zero, suc, ◌+◌, ◌*◌, ◌-◌, ◌%◌, ◌≤◌, ◌<◌}
use Rattle.std.proofs.Math.Nat.{mod-eq-sub-mod, mod-add-mod}
use Rattle.std.proofs.Math.Decide.{dec_lt}
use Rattle.std.proofs.Math.ListN.{length}
use Rattle.std.proofs.lemmas.List.{length-map}
use Rattle.rules.specs.Lists.{up_to, at, All}
use Rattle.rules.proofs.laws.ListLaws.{length_up_to, up_to_same}
use Rattle.rules.proofs.laws.SortLaws.{all_drop}
use Rattle.rules.specs.Log.{Ring, empty_ring, write, roomed, next_place, entered, append, Span, span_of, span_words, Marks, no_marks, joins, lengthened, mark}
use Rattle.rules.specs.Log.{marked, repair_width, repaired, Sound, span_in, spans_of}
use Rattle.rules.specs.Undo.{held_records}
use Rattle.rules.proofs.laws.RingLaws.{entry_at, entry_written, entry_kept, roomed_sound, append_sound, empty_sound, filled, filled_sound}
use Rattle.rules.proofs.laws.MarkLaws.{spanned, mark_cases, mark_sound, newest_fits}

-- ---- lists by an index

pub up_to_front : {A : Type 0} (f : ℕ → A) (n : ℕ) → up_to f (suc n) ≡ f 0 ∷ up_to (λ i. f (suc i)) n
unfolding up_to
up_to_front f zero = refl
up_to_front f (suc n) = ap (λ l. l ++ (f (suc n) ∷ [])) (up_to_front f n)

pub up_to_map : {A B : Type 0} (g : A → B) (f : ℕ → A) (n : ℕ) → map g (up_to f n) ≡ up_to (λ i. g (f i)) n
unfolding up_to
up_to_map g f zero = refl
up_to_map g f (suc n) = map-append g (up_to f n) (f n ∷ []) ∙ ap (λ l. l ++ (g (f n) ∷ [])) (up_to_map g f n)

-- ---- the entries of a ring

-- oldest first
unfoldable pub entries_of : ℕ → ℕ → Ring → List (List ℕ)
entries_of width cap r = up_to (λ i. entry_at width r.words ((r.head + i) % cap)) r.count

-- one more; the oldest goes when there are as many as there is room for
abbrev pub appended : {A : Type 0} → ℕ → List A → A → List A
appended cap l a = cond (ltb (length l) cap) l (drop 1 l) ++ (a ∷ [])

pub length_entries : (width cap : ℕ) (r : Ring) → length (entries_of width cap r) ≡ r.count
unfolding entries_of
length_entries width cap r = length_up_to (λ i. entry_at width r.words ((r.head + i) % cap)) r.count

pub empty_entries : (width cap size : ℕ) → entries_of width cap (empty_ring size) ≡ []
unfolding entries_of up_to
empty_entries width cap size = refl

-- the records that repair undo reads are the entries
pub held_entries : (cap : ℕ) (r : Ring) → held_records cap r ≡ entries_of repair_width cap r
unfolding held_records entries_of
held_entries cap r = refl

-- places less than a turn apart differ
turn : (cap a k : ℕ) → 0 < k → k < cap → (a + k) % cap ≡ a % cap → ⊥
turn cap a k hk hc e = go (dec_lt (a % cap + k) cap)
  where
    go : Dec (a % cap + k < cap) → ⊥
    go (yes h) = let f : a % cap + k ≡ a % cap = sym (mod-eq_of_lt h) ∙ mod-add-mod a cap k ∙ e in omega arith
    go (no h) =
        let r : a % cap < cap = mod-lt a (let z : 0 < cap = omega arith in z) in
        let l : cap ≤ a % cap + k = omega arith in
        let s : a % cap + k - cap < cap = omega arith in
        let f : a % cap + k - cap ≡ a % cap = sym (mod-eq_of_lt s) ∙ sym (mod-eq-sub-mod l) ∙ mod-add-mod a cap k ∙ e in
        omega arith

pub places_differ : (cap h i n : ℕ) → i < n → n < cap → (h + i) % cap ≡ (h + n) % cap → ⊥
places_differ cap h i n a b e =
    let q : h + n ≡ h + i + (n - i) = omega arith in
    turn cap (h + i) (n - i) (omega arith) (omega arith) (sym (ap (λ (m : ℕ). m % cap) q) ∙ sym e)

-- where there is room, the new entry is behind the others
module _ (width cap : ℕ) (r : Ring) (e : List ℕ) (k : Sound width cap r) (n : length e ≡ width) (room : r.count < cap) where
  entered_entries : entries_of width cap (entered cap r e) ≡ entries_of width cap r ++ (e ∷ [])
  unfolding entries_of up_to
  entered_entries =
      let ws = write r.words (next_place cap r * length e) e in
      rw (add-one r.count)
      (λ j.
      up_to_same (λ i. entry_at width ws ((r.head + i) % cap)) (λ i. entry_at width r.words ((r.head + i) % cap)) r.count
      (λ i h. entry_kept width r.words e (next_place cap r) ((r.head + i) % cap) n (places_differ cap r.head i r.count h room)) j
      ++ (entry_written width cap r.words e (next_place cap r) k.long n (mod-lt (r.head + r.count) k.some) j ∷ []))

-- from the second on
pub behind_first : {A : Type 0} (E : ℕ → A) (cap h n : ℕ) → up_to (λ i. E (((h + 1) % cap + i) % cap)) n ≡ drop 1 (up_to (λ i. E ((h + i) % cap)) (suc n))
behind_first E cap h n =
    up_to_same (λ i. E (((h + 1) % cap + i) % cap)) (λ i. E ((h + suc i) % cap)) n
    (λ i l. ap E (mod-add-mod (h + 1) cap i ∙ ap (λ (m : ℕ). m % cap) (let q : h + 1 + i ≡ h + suc i = omega arith in q)))
    ∙ sym (ap (drop 1) (up_to_front (λ i. E ((h + i) % cap)) n))

roomed_entries : (width cap : ℕ) (r : Ring) → 0 < cap
    → entries_of width cap (roomed cap r) ≡ cond (ltb r.count cap) (entries_of width cap r) (drop 1 (entries_of width cap r))
unfolding entries_of roomed
roomed_entries width cap r k = go (ltb r.count cap) refl
  where
    E : ℕ → List ℕ
    E i = entry_at width r.words i

    go : (b : Bool) → ltb r.count cap ≡ b
        → (let q = cond b r (record { head = (r.head + 1) % cap; count = r.count - 1; dropped = r.dropped + 1; words = r.words }) in
        up_to (λ i. entry_at width q.words ((q.head + i) % cap)) q.count)
        ≡ cond b (up_to (λ i. E ((r.head + i) % cap)) r.count) (drop 1 (up_to (λ i. E ((r.head + i) % cap)) r.count))
    go true e = refl
    go false e =
        let full = ltb-false r.count cap e in
        behind_first E cap r.head (r.count - 1)
        ∙ ap (λ (n : ℕ). drop 1 (up_to (λ i. E ((r.head + i) % cap)) n)) (let q : suc (r.count - 1) ≡ r.count = omega arith in q)

-- Appending in the words is appending to the list of entries.
pub append_entries : (width cap : ℕ) (r : Ring) (e : List ℕ) → Sound width cap r → length e ≡ width
    → entries_of width cap (append cap r e) ≡ appended cap (entries_of width cap r) e
unfolding append
append_entries width cap r e k n =
    let h = roomed_sound width cap r k in
    entered_entries width cap (roomed cap r) e h.sound n h.room
    ∙ ap (λ l. l ++ (e ∷ [])) (roomed_entries width cap r k.some)
    ∙ ap (λ (m : ℕ). cond (ltb m cap) (entries_of width cap r) (drop 1 (entries_of width cap r)) ++ (e ∷ [])) (sym (length_entries width cap r))

-- each entry has so many words
abbrev pub AllWide : ℕ → List (List ℕ) → Type 0
AllWide width es = All (λ e. length e ≡ width) es

pub filled_entries : (width cap : ℕ) (r : Ring) (es : List (List ℕ)) → Sound width cap r → AllWide width es
    → entries_of width cap (filled cap r es) ≡ foldl (appended cap) (entries_of width cap r) es
filled_entries width cap r [] k a = refl
filled_entries width cap r (e ∷ es) k a =
    filled_entries width cap (append cap r e) es (append_sound width cap r e k) a.1
    ∙ ap (λ l. foldl (appended cap) l es) (append_entries width cap r e k a.0)

-- as many as there is room for: none goes
pub appended_room : {A : Type 0} (cap : ℕ) (l es : List A) → length l + length es ≤ cap → foldl (appended cap) l es ≡ l ++ es
appended_room cap l [] h = sym (append-nil l)
appended_room cap l (e ∷ es) h =
    rw (lt-ltb (length l) cap (omega arith))
    (appended_room cap (l ++ (e ∷ [])) es (omega (arith, length-append l (e ∷ []))) ∙ append_assoc l (e ∷ []) es)

-- what each entry is, each entry that the list holds is
pub appended_all : {A : Type 0} (P : A → Type 0) (cap : ℕ) (l es : List A) → All P l → All P es → All P (foldl (appended cap) l es)
appended_all P cap l [] a b = a
appended_all P cap l (e ∷ es) a b = appended_all P cap (appended cap l e) es (snoc (cond (ltb (length l) cap) l (drop 1 l)) (kept (ltb (length l) cap))) b.1
  where
    kept : (t : Bool) → All P (cond t l (drop 1 l))
    kept true = a
    kept false = all_drop P 1 l a

    snoc : (m : List _) → All P m → All P (m ++ (e ∷ []))
    snoc [] g = (b.0, tt)
    snoc (x ∷ m) g = (g.0, snoc m g.1)

-- ---- the repair ring

pub repaired_entries : (cap : ℕ) (rs : List (List ℕ)) → 0 < cap → AllWide repair_width rs
    → entries_of repair_width cap (repaired cap rs) ≡ foldl (appended cap) [] rs
unfolding repaired
repaired_entries cap rs h a =
    filled_entries repair_width cap (empty_ring (repair_width * cap)) rs (empty_sound repair_width cap h) a
    ∙ ap (λ l. foldl (appended cap) l rs) (empty_entries repair_width cap (repair_width * cap))

-- where no repair was dropped, the ring holds them all, in their order, from its first place on
pub repaired_all : (cap : ℕ) (rs : List (List ℕ)) → 0 < cap → AllWide repair_width rs → length rs ≤ cap → entries_of repair_width cap (repaired cap rs) ≡ rs
repaired_all cap rs h a f = repaired_entries cap rs h a ∙ appended_room cap [] rs (omega arith)

pub repaired_sound : (cap : ℕ) (rs : List (List ℕ)) → 0 < cap → Sound repair_width cap (repaired cap rs)
unfolding repaired
repaired_sound cap rs h = filled_sound repair_width cap (empty_ring (repair_width * cap)) rs (empty_sound repair_width cap h)

-- ---- spans

-- the newest span ends at s
abbrev pub ends_at : List Span → ℕ → Bool
ends_at [] s = false
ends_at (a ∷ []) s = eqb (a.start + a.len) s
ends_at (a ∷ b ∷ l) s = ends_at (b ∷ l) s

-- the newest span with n more
abbrev pub longer : List Span → ℕ → List Span
longer [] n = []
longer (a ∷ []) n = span_of a.start (a.len + n) ∷ []
longer (a ∷ b ∷ l) n = a ∷ longer (b ∷ l) n

-- a mark, on the list of spans
unfoldable pub marked_spans : ℕ → List Span → Span → List Span
marked_spans cap l m = cond (eqb m.len 0) l (cond (ends_at l m.start) (longer l m.len) (appended cap l m))

ends_snoc : (l : List Span) (a : Span) (s : ℕ) → ends_at (l ++ (a ∷ [])) s ≡ eqb (a.start + a.len) s
ends_snoc [] a s = refl
ends_snoc (b ∷ []) a s = refl
ends_snoc (b ∷ c ∷ l) a s = ends_snoc (c ∷ l) a s

longer_snoc : (l : List Span) (a : Span) (n : ℕ) → longer (l ++ (a ∷ [])) n ≡ l ++ (span_of a.start (a.len + n) ∷ [])
longer_snoc [] a n = refl
longer_snoc (b ∷ []) a n = refl
longer_snoc (b ∷ c ∷ l) a n = ap (λ (t : List Span). b ∷ t) (longer_snoc (c ∷ l) a n)

-- the span that an entry's two words say
abbrev pub entry_span : List ℕ → Span
entry_span e = span_of (at e 0) (at e 1)

pub span_entry : (ws : List ℕ) (i : ℕ) → entry_span (entry_at 2 ws i) ≡ span_in ws i
span_entry ws i =
    let a = get_or-take 2 (drop (i * 2) ws) 0 0 (omega arith) ∙ get_or-drop (i * 2) ws 0 0 ∙ ap (at ws) (let q : i * 2 + 0 ≡ i * 2 = omega arith in q) in
    let b = get_or-take 2 (drop (i * 2) ws) 1 0 (omega arith) ∙ get_or-drop (i * 2) ws 1 0 in
    λ j. span_of (a j) (b j)

pub spans_entries : (cap : ℕ) (r : Ring) → spans_of cap r ≡ map entry_span (entries_of 2 cap r)
unfolding spans_of entries_of
spans_entries cap r =
    sym
    (up_to_map entry_span (λ i. entry_at 2 r.words ((r.head + i) % cap)) r.count
    ∙ up_to_same (λ i. entry_span (entry_at 2 r.words ((r.head + i) % cap))) (λ i. span_in r.words ((r.head + i) % cap)) r.count
    (λ i h. span_entry r.words ((r.head + i) % cap)))

pub length_spans : (cap : ℕ) (r : Ring) → length (spans_of cap r) ≡ r.count
unfolding spans_of
length_spans cap r = length_up_to (λ i. span_in r.words ((r.head + i) % cap)) r.count

map_behind : {A B : Type 0} (g : A → B) (l : List A) → map g (drop 1 l) ≡ drop 1 (map g l)
map_behind g [] = refl
map_behind g (x ∷ l) = refl

map_appended : {A B : Type 0} (g : A → B) (cap : ℕ) (l : List A) (a : A) → map g (appended cap l a) ≡ appended cap (map g l) (g a)
map_appended g cap l a =
    rw (length-map l g)
    (map-append g (cond (ltb (length l) cap) l (drop 1 l)) (a ∷ []) ∙ ap (λ m. m ++ (g a ∷ [])) (go (ltb (length l) cap)))
  where
    go : (t : Bool) → map g (cond t l (drop 1 l)) ≡ cond t (map g l) (drop 1 (map g l))
    go true = refl
    go false = map_behind g l

append_spans : (cap : ℕ) (r : Ring) (m : Span) → Sound 2 cap r → spans_of cap (append cap r (span_words m)) ≡ appended cap (spans_of cap r) m
append_spans cap r m k =
    spans_entries cap (append cap r (span_words m))
    ∙ ap (map entry_span) (append_entries 2 cap r (span_words m) k refl)
    ∙ map_appended entry_span cap (entries_of 2 cap r) (span_words m)
    ∙ ap (λ l. appended cap l m) (sym (spans_entries cap r))

module _ (cap : ℕ) (ws : List ℕ) (h : ℕ) where
  last_place : (c : ℕ) → (h + (suc c - 1)) % cap ≡ (h + c) % cap
  last_place c = ap (λ (m : ℕ). (h + m) % cap) (let q : suc c - 1 ≡ c = omega arith in q)

  ends_by : (c s : ℕ)
      → (let p = (h + (c - 1)) % cap in ltb 0 c && eqb (at ws (p * 2) + at ws (p * 2 + 1)) s) ≡ ends_at (up_to (λ i. span_in ws ((h + i) % cap)) c) s
  unfolding up_to
  ends_by zero s = refl
  ends_by (suc c) s =
      rw (lt-ltb 0 (suc c) (omega arith), last_place c)
      (sym (ends_snoc (up_to (λ i. span_in ws ((h + i) % cap)) c) (span_in ws ((h + c) % cap)) s))

  -- a length that is written is seen at its own place only
  other_span : (i p l : ℕ) → (i ≡ p → ⊥) → span_in (set ws (p * 2 + 1) l) i ≡ span_in ws i
  other_span i p l d =
      let a = get_or-set_other ws (p * 2 + 1) (i * 2) l 0 (omega arith) in
      let b = get_or-set_other ws (p * 2 + 1) (i * 2 + 1) l 0 (λ e. d (omega arith)) in
      λ j. span_of (a j) (b j)

  same_span : (p l : ℕ) → p * 2 + 1 < length ws → span_in (set ws (p * 2 + 1) l) p ≡ span_of (at ws (p * 2)) l
  same_span p l f =
      let a = get_or-set_other ws (p * 2 + 1) (p * 2) l 0 (omega arith) in
      let b = get_or-set_same ws (p * 2 + 1) l 0 f in
      λ j. span_of (a j) (b j)

  longer_by : (c n : ℕ) → c ≤ cap → ((h + (c - 1)) % cap * 2 + 1 < length ws)
      → (let p = (h + (c - 1)) % cap in up_to (λ i. span_in (set ws (p * 2 + 1) (at ws (p * 2 + 1) + n)) ((h + i) % cap)) c)
      ≡ longer (up_to (λ i. span_in ws ((h + i) % cap)) c) n
  unfolding up_to
  longer_by zero n f g = refl
  longer_by (suc c) n f g =
      let p = (h + c) % cap in
      let l = at ws (p * 2 + 1) + n in
      subst (λ (q : ℕ). up_to (λ i. span_in (set ws (q * 2 + 1) (at ws (q * 2 + 1) + n)) ((h + i) % cap)) (suc c)
      ≡ longer (up_to (λ i. span_in ws ((h + i) % cap)) (suc c)) n)
      (sym (last_place c))
      ((λ j.
      up_to_same (λ i. span_in (set ws (p * 2 + 1) l) ((h + i) % cap)) (λ i. span_in ws ((h + i) % cap)) c
      (λ i k. other_span ((h + i) % cap) p l (places_differ cap h i c k (omega arith))) j
      ++ (same_span p l (rw (last_place c) at g) j ∷ []))
      ∙ sym (longer_snoc (up_to (λ i. span_in ws ((h + i) % cap)) c) (span_in ws p) n))

-- joining is the newest span's end
pub joins_ends : (cap : ℕ) (r : Ring) (s : ℕ) → joins cap r s ≡ ends_at (spans_of cap r) s
unfolding joins spans_of
joins_ends cap r s = ends_by cap r.words r.head r.count s

lengthened_spans : (cap : ℕ) (r : Ring) (n : ℕ) → Sound 2 cap r → spans_of cap (lengthened cap r n) ≡ longer (spans_of cap r) n
unfolding lengthened spans_of
lengthened_spans cap r n k = longer_by cap r.words r.head r.count n k.count_in (newest_fits cap r k)

spanned_spans : (cap : ℕ) (r : Ring) (m : Span) → Sound 2 cap r
    → spans_of cap (spanned cap r m.start m.len)
    ≡ cond (ends_at (spans_of cap r) m.start) (longer (spans_of cap r) m.len) (appended cap (spans_of cap r) m)
spanned_spans cap r m k =
    go (joins cap r m.start) ∙ ap (λ (t : Bool). cond t (longer (spans_of cap r) m.len) (appended cap (spans_of cap r) m)) (joins_ends cap r m.start)
  where
    go : (t : Bool)
        → spans_of cap (cond t (lengthened cap r m.len) (append cap r (m.start ∷ m.len ∷ [])))
        ≡ cond t (longer (spans_of cap r) m.len) (appended cap (spans_of cap r) m)
    go true = lengthened_spans cap r m.len k
    go false = append_spans cap r m k

-- Marking in the words is marking on the list of spans.
pub mark_spans : (cap : ℕ) (r : Marks) (m : Span) → Sound 2 cap r.ring → spans_of cap (mark cap r m).ring ≡ marked_spans cap (spans_of cap r.ring) m
unfolding marked_spans
mark_spans cap r m k =
    mark_cases (λ q. spans_of cap q.ring ≡ cond (eqb m.len 0) l (marking l)) cap r m
    (λ z. rw (eq-eqb m.len 0 z))
    (λ z. rw (ne_eqb m.len 0 (λ e. omega arith)) (spanned_spans cap r.ring m k))
  where
    l : List Span
    l = spans_of cap r.ring

    marking : List Span → List Span
    marking l = cond (ends_at l m.start) (longer l m.len) (appended cap l m)

pub marks_spans : (cap : ℕ) (r : Marks) (ms : List Span) → Sound 2 cap r.ring
    → spans_of cap (foldl (mark cap) r ms).ring ≡ foldl (marked_spans cap) (spans_of cap r.ring) ms
marks_spans cap r [] k = refl
marks_spans cap r (m ∷ ms) k = marks_spans cap (mark cap r m) ms (mark_sound cap r k m) ∙ ap (λ l. foldl (marked_spans cap) l ms) (mark_spans cap r m k)

pub marked_spans_lem : (cap : ℕ) (ms : List Span) → 0 < cap → spans_of cap (marked cap ms).ring ≡ foldl (marked_spans cap) [] ms
unfolding marked spans_of up_to
marked_spans_lem cap ms h = marks_spans cap (no_marks cap) ms (empty_sound 2 cap h)
