-- Bytes put into a store, one text behind the other. Assumes nothing.
use Rattle.std.specs.Prelude.{◌≡◌, ℕ, suc, ◌+◌, ◌≤◌, min, length, set, take, drop}
use Rattle.std.proofs.Math.Path.{refl, sym, ap}
use Rattle.std.proofs.Common.{subst, ◌∙◌, arith, length-append}
use mathlib.Core.List.{List, [], ◌∷◌, ◌++◌, append_assoc, append-nil}
use Rattle.std.proofs.Math.Decide.{dec_le}
use Rattle.std.proofs.Math.Seq.{set_out, length-sets, take-append_seam}
use Rattle.std.proofs.lemmas.List.Edits.{sets-eq}
use Rattle.replay_text.specs.declared.Text.{Text}
use Rattle.replay_text.specs.Text.{each, put, stop_at, Written, Added}

-- ---- the store

pub length_put : (text : List ℕ) (place : ℕ) (bs : List ℕ) → length (put text place bs) ≡ length text
unfolding put
length_put text place bs = length-sets text place bs

-- behind the end nothing is written
pub put_beyond : (text : List ℕ) (place : ℕ) (bs : List ℕ) → length text ≤ place → put text place bs ≡ text
unfolding put
put_beyond text place [] h = refl
put_beyond text place (b ∷ bs) h = rw (set_out text place b h) (put_beyond text (suc place) bs (omega arith))

pub put_append : (text : List ℕ) (place : ℕ) (cs bs : List ℕ) → put text place (cs ++ bs) ≡ put (put text place cs) (place + length cs) bs
unfolding put
put_append text place [] bs = ap (λ (p : ℕ). put text p bs) (omega arith)
put_append text place (a ∷ cs) bs =
    put_append (set text place a) (suc place) cs bs
    ∙ ap (λ (p : ℕ). put (put (set text place a) (suc place) cs) p bs) (omega arith)

-- a place that was cut at the store's end
pub put_cut : (text : List ℕ) (place n : ℕ) (bs : List ℕ) → put text (stop_at (length text) place n) bs ≡ put text (place + n) bs
put_cut text place n bs = go (dec_le (place + n) (length text))
  where
    go : Dec (place + n ≤ length text) → put text (stop_at (length text) place n) bs ≡ put text (place + n) bs
    go (yes h) = ap (λ (p : ℕ). put text p bs) (omega arith)
    go (no h) = put_beyond text (stop_at (length text) place n) bs (omega arith) ∙ sym (put_beyond text (place + n) bs (omega arith))

-- all of it, where there is room
pub put_whole : (text bs : List ℕ) → length bs ≤ length text → take (min (length text) (length bs)) (put text 0 bs) ≡ bs
unfolding put
put_whole text bs h =
    let n : min (length text) (length bs) ≡ length bs = omega arith in
    rw (n, sets-eq bs text 0 (omega arith)) (take-append_seam bs (drop (0 + length bs) text))

-- ---- one text behind the other

pub written_none : (text : List ℕ) (place : ℕ) → Written text place [] text place
unfolding put
written_none text place = record { store = refl; stop = omega arith }

module _ {text : List ℕ} {place : ℕ} {cs : List ℕ} {middle : List ℕ} {stop : ℕ} {bs : List ℕ} {after : List ℕ} {end : ℕ} where
  pub written_then : Written text place cs middle stop → Written middle stop bs after end → Written text place (cs ++ bs) after end
  written_then u v =
      let l : length middle ≡ length text = ap length u.store ∙ length_put text place cs in
      record {
        store =
            v.store
            ∙ ap (λ (p : ℕ). put middle p bs) u.stop
            ∙ ap (λ (m : ℕ). put middle (stop_at m place (length cs)) bs) (sym l)
            ∙ put_cut middle place (length cs) bs
            ∙ ap (λ (t : List ℕ). put t (place + length cs) bs) u.store
            ∙ sym (put_append text place cs bs);
        stop = omega (arith, u.stop, v.stop, l, length-append cs bs);
      }

-- ---- the same of texts in stores

pub added_none : (text : Text) → Added text [] text
added_none text = record { same_store = refl; written = written_none text.bytes.now text.length }

pub added_as : {text : Text} {cs bs : List ℕ} {after : Text} → cs ≡ bs → Added text cs after → Added text bs after
added_as {text} {cs} {bs} {after} e w = subst (λ (l : List ℕ). Added text l after) e w

pub added_then : {text : Text} {cs : List ℕ} {middle : Text} {bs : List ℕ} {after : Text} → Added text cs middle → Added middle bs after
    → Added text (cs ++ bs) after
added_then u v = record { same_store = v.same_store ∙ u.same_store; written = written_then u.written v.written }

pub added_last : {text : Text} {cs : List ℕ} {after : Text} → Added text cs after → Added text (cs ++ []) after
added_last {text} {cs} w = added_as (sym (append-nil cs)) w

-- what stands in a store that had no text before
pub added_first : {text : Text} {bs : List ℕ} {after : Text} {store : List ℕ} → text.bytes.now ≡ store → text.length ≡ 0 → Added text bs after
    → Written store 0 bs after.bytes.now after.length
added_first {text} {bs} {after} {store} e z w =
    subst (λ (l : List ℕ). Written l 0 bs after.bytes.now after.length) e
    (subst (λ (k : ℕ). Written text.bytes.now k bs after.bytes.now after.length) z w.written)

-- ---- the texts of a list's members

module _ {A : Type 0} (f : A → List ℕ) where
  pub each_append : (l m : List A) → each f (l ++ m) ≡ each f l ++ each f m
  unfolding each
  each_append [] m = refl
  each_append (a ∷ l) m = ap (λ (t : List ℕ). f a ++ t) (each_append l m) ∙ sym (append_assoc (f a) (each f l) (each f m))

  pub each_snoc : (l : List A) (a : A) → each f (l ++ (a ∷ [])) ≡ each f l ++ f a
  unfolding each
  each_snoc l a = each_append l (a ∷ []) ∙ ap (λ (t : List ℕ). each f l ++ t) (append-nil (f a))
