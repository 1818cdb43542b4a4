-- A ring with entries of any width: what is written stands where it was written and nothing else moves, soundness is kept, and as many entries as there is room
-- for drop none. Assumes nothing.
use Rattle.std.specs.Prelude.{◌≡◌, refl, Bool, true, false, cond, ℕ, suc, ◌+◌, ◌*◌, ◌-◌, ◌%◌, ◌≤◌, ◌<◌, min, ltb, length, get_or, set, take, drop}
use Rattle.std.proofs.Common.{ap, sym, ◌∙◌, add-one, mod-lt, mul-le-mul_right, suc-mul, mul_comm, arith, lt-ltb, ltb-true, length-set, length-take, length-drop, get_or-set_other, get_or-take, get_or-drop, ext_get_or, drop_at, length-take-le}
use mathlib.Core.List.{List, [], ◌∷◌, ◌++◌, foldl, append_assoc}
use Rattle.std.proofs.Math.Decide.{dec_lt}
use Rattle.std.proofs.lemmas.List.{length-replicate}
use Rattle.std.proofs.lemmas.List.Edits.{sets, sets-eq}
use Rattle.std.proofs.Math.Seq.{take-append_seam}
use Rattle.rules.specs.Log.{Ring, empty_ring, write, roomed, next_place, entered, append, Sound}

-- ---- writing

pub length_write : (ws : List ℕ) (o : ℕ) (e : List ℕ) → length (write ws o e) ≡ length ws
unfolding write
length_write ws o [] = refl
length_write ws o (x ∷ e) = length_write (set ws o x) (o + 1) e ∙ length-set ws o x

write_sets : (ws : List ℕ) (o : ℕ) (e : List ℕ) → write ws o e ≡ sets ws o e
unfolding write
write_sets ws o [] = refl
write_sets ws o (x ∷ e) = ap (λ (n : ℕ). write (set ws o x) n e) (add-one o) ∙ write_sets (set ws o x) (suc o) e

-- the words before the entry, the entry, the words behind it
pub write_split : (ws : List ℕ) (o : ℕ) (e : List ℕ) → o + length e ≤ length ws → write ws o e ≡ take o ws ++ (e ++ drop (o + length e) ws)
write_split ws o e h = write_sets ws o e ∙ sets-eq e ws o h ∙ append_assoc (take o ws) e (drop (o + length e) ws)

pub written : (ws : List ℕ) (o : ℕ) (e : List ℕ) → o + length e ≤ length ws → take (length e) (drop o (write ws o e)) ≡ e
written ws o e h =
    let fits : length (take o ws) ≡ o = length-take-le o ws (omega arith) in
    ap (λ (l : List ℕ). take (length e) (drop o l)) (write_split ws o e h)
    ∙ ap (take (length e)) (drop_at (take o ws) (e ++ drop (o + length e) ws) o fits)
    ∙ take-append_seam e (drop (o + length e) ws)

pub write_other : (e ws : List ℕ) (o i : ℕ) → ((j : ℕ) → j < length e → i ≡ o + j → ⊥) → get_or (write ws o e) i 0 ≡ get_or ws i 0
unfolding write
write_other [] ws o i h = refl
write_other (x ∷ e) ws o i h =
    write_other e (set ws o x) (o + 1) i (λ j l q. h (suc j) (omega arith) (omega arith))
    ∙ get_or-set_other ws o i x 0 (λ q. h 0 (omega arith) (omega arith))

-- two lists that agree on a part
pub same_part : (a b : List ℕ) (p w : ℕ) → length a ≡ length b → ((i : ℕ) → i < w → get_or a (p + i) 0 ≡ get_or b (p + i) 0) → take w (drop p a) ≡ take w (drop p b)
same_part a b p w l h =
    ext_get_or 0 (take w (drop p a)) (take w (drop p b))
    (length-take w (drop p a) ∙ ap (min w) (length-drop p a ∙ ap (λ (n : ℕ). n - p) l ∙ sym (length-drop p b)) ∙ sym (length-take w (drop p b)))
    (λ i k.
    let short : i < w = omega (arith, length-take w (drop p a)) in
    get_or-take w (drop p a) i 0 short ∙ get_or-drop p a i 0 ∙ h i short ∙ sym (get_or-drop p b i 0) ∙ sym (get_or-take w (drop p b) i 0 short))

-- ---- entries

-- the entry at place i
abbrev pub entry_at : ℕ → List ℕ → ℕ → List ℕ
entry_at width ws i = take width (drop (i * width) ws)

pub place_fits : (width cap p : ℕ) → p < cap → p * width + width ≤ width * cap
place_fits width cap p h = omega (arith, mul-le-mul_right width h, suc-mul p width, mul_comm cap width)

-- places that differ have no word in common
apart : (width i p t j : ℕ) → (i ≡ p → ⊥) → t < width → j < width → i * width + t ≡ p * width + j → ⊥
apart width i p t j d ht hj e = go (dec_lt i p) (dec_lt p i)
  where
    go : Dec (i < p) → Dec (p < i) → ⊥
    go (yes h) q = omega (arith, mul-le-mul_right width h, suc-mul i width)
    go (no h) (yes k) = omega (arith, mul-le-mul_right width k, suc-mul p width)
    go (no h) (no k) = d (omega arith)

pub entry_written : (width cap : ℕ) (ws e : List ℕ) (p : ℕ) → length ws ≡ width * cap → length e ≡ width → p < cap
    → entry_at width (write ws (p * length e) e) p ≡ e
entry_written width cap ws e p l n h =
    let fits : p * length e + length e ≤ length ws = omega (arith, ap (λ (k : ℕ). p * k) n, place_fits width cap p h) in
    ap (λ (k : ℕ). take k (drop (p * k) (write ws (p * length e) e))) (sym n) ∙ written ws (p * length e) e fits

pub entry_kept : (width : ℕ) (ws e : List ℕ) (p i : ℕ) → length e ≡ width → (i ≡ p → ⊥) → entry_at width (write ws (p * length e) e) i ≡ entry_at width ws i
entry_kept width ws e p i n d =
    same_part (write ws (p * length e) e) ws (i * width) width (length_write ws (p * length e) e)
    (λ t ht. write_other e ws (p * length e) (i * width + t)
    (λ j hj q. apart width i p t j d ht (omega arith) (q ∙ ap (λ (k : ℕ). p * k + j) n)))

-- ---- soundness

pub empty_sound : (width cap : ℕ) → 0 < cap → Sound width cap (empty_ring (width * cap))
empty_sound width cap h = record { some = h; long = length-replicate (width * cap) 0; head_in = h; count_in = omega arith }

-- room was made: the ring is sound and not full, and at most one entry went
pub record HasRoom (width cap : ℕ) (r q : Ring) : Type 0 where
  pub sound : Sound width cap q
  pub room : q.count < cap
  pub same : q.words ≡ r.words
  pub drops : q.dropped ≤ r.dropped + 1

pub roomed_sound : (width cap : ℕ) (r : Ring) → Sound width cap r → HasRoom width cap r (roomed cap r)
unfolding roomed
roomed_sound width cap r k = go (ltb r.count cap) refl
  where
    go : (b : Bool) → ltb r.count cap ≡ b
        → HasRoom width cap r (cond b r (record { head = (r.head + 1) % cap; count = r.count - 1; dropped = r.dropped + 1; words = r.words }))
    go true e = record { sound = k; room = ltb-true _ _ e; same = refl; drops = omega arith }
    go false e =
        record {
          sound = record { some = k.some; long = k.long; head_in = mod-lt _ k.some; count_in = omega (arith, k.count_in) };
          room = omega (arith, k.count_in, k.some);
          same = refl;
          drops = omega arith;
        }

pub append_sound : (width cap : ℕ) (r : Ring) (e : List ℕ) → Sound width cap r → Sound width cap (append cap r e)
unfolding append
append_sound width cap r e k =
    let q = roomed cap r in
    let h = roomed_sound width cap r k in
    record {
      some = k.some;
      long = length_write q.words (next_place cap q * length e) e ∙ h.sound.long;
      head_in = h.sound.head_in;
      count_in = omega (arith, h.room);
    }

pub append_drops : (width cap : ℕ) (r : Ring) (e : List ℕ) → Sound width cap r → (append cap r e).dropped ≤ r.dropped + 1
unfolding append
append_drops width cap r e k = (roomed_sound width cap r k).drops

-- ---- entries one after another

abbrev pub filled : ℕ → Ring → List (List ℕ) → Ring
filled cap r es = foldl (append cap) r es

pub filled_sound : (width cap : ℕ) (r : Ring) (es : List (List ℕ)) → Sound width cap r → Sound width cap (filled cap r es)
filled_sound width cap r [] k = k
filled_sound width cap r (e ∷ es) k = filled_sound width cap (append cap r e) es (append_sound width cap r e k)

-- while there is room, nothing is dropped and the oldest entry stays where it is
pub append_room : (cap : ℕ) (r : Ring) (e : List ℕ) → r.count < cap → append cap r e ≡ entered cap r e
unfolding append roomed
append_room cap r e h = rw (lt-ltb r.count cap h)

pub record Unwrapped (r q : Ring) (n : ℕ) : Type 0 where
  pub head : q.head ≡ r.head
  pub count : q.count ≡ r.count + n
  pub dropped : q.dropped ≡ r.dropped

pub filled_unwrapped : (cap : ℕ) (r : Ring) (es : List (List ℕ)) → r.count + length es ≤ cap → Unwrapped r (filled cap r es) (length es)
filled_unwrapped cap r [] h = record { head = refl; count = omega arith; dropped = refl }
filled_unwrapped cap r (e ∷ es) h =
    let k = filled_unwrapped cap (entered cap r e) es (omega arith) in
    rw (append_room cap r e (omega arith)) (record { head = k.head; count = omega (arith, k.count); dropped = k.dropped })
