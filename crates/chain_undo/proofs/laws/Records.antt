-- A record of a store by its words, and the held records one after another. Assumes nothing.
use Rattle.std.specs.Prelude.{◌≡◌, refl, Bool, true, false, ◌&&◌, List, [], ◌∷◌, ◌++◌, ℕ, zero, suc, ◌+◌, ◌*◌, ◌%◌, ◌≤◌, ◌<◌, ltb, leb, length, drop}
use Rattle.std.proofs.Common.{ap, sym, ◌∙◌, add-one, mod-lt, arith, lit<, get_or-take, get_or-drop, lt-ltb, le-leb, ltb-true, leb-true}
use Rattle.std.proofs.lemmas.Bool.{false≢true}
use Rattle.rules.specs.Impulse.{longest_run}
use Rattle.rules.specs.Lists.{at, up_to, All}
use Rattle.rules.specs.Log.{Ring, Sound, repair_width}
use Rattle.rules.specs.Undo.{held_records, returned, undone, undone_all}
use Rattle.rules.proofs.laws.RingLaws.{place_fits}
use Rattle.rules.specs.Constants.{total_limit}
use Rattle.stage_log.specs.Check.{all_to}
use Rattle.stage_log.proofs.laws.CheckLaws.{all_at}
use Rattle.chain_undo.specs.Undoing.{record_in, record_fits, records_fit}

-- ---- one record

-- word j of it
pub record_word : (ws : List ℕ) (place j : ℕ) → j < repair_width → at (record_in ws place) j ≡ at ws (place + j)
record_word ws place j h = get_or-take repair_width (drop place ws) j 0 h ∙ get_or-drop place ws j 0

pub record_start : (ws : List ℕ) (place : ℕ) → at (record_in ws place) 0 ≡ at ws place
record_start ws place = record_word ws place 0 (lit< tt) ∙ ap (at ws) (let q : place + 0 ≡ place = omega arith in q)

pub record_length : (ws : List ℕ) (place : ℕ) → at (record_in ws place) 1 ≡ at ws (place + 1)
record_length ws place = record_word ws place 1 (lit< tt)

-- what a record that fits keeps to
pub record Fit (e : List ℕ) : Type 0 where
  pub some : 0 < at e 1
  pub short : at e 1 ≤ longest_run
  pub early : at e 0 ≤ total_limit

pub record_fit : (e : List ℕ) → record_fits e ≡ true → Fit e
unfolding record_fits
record_fit e h = go (ltb 0 (at e 1)) (leb (at e 1) longest_run) (leb (at e 0) total_limit) refl refl refl h
  where
    go : (a b c : Bool) → ltb 0 (at e 1) ≡ a → leb (at e 1) longest_run ≡ b → leb (at e 0) total_limit ≡ c → (a && b && c) ≡ true → Fit e
    go true true true p q r h = record { some = ltb-true _ _ p; short = leb-true _ _ q; early = leb-true _ _ r }
    go true true false p q r h = absurd (false≢true h)
    go true false c p q r h = absurd (false≢true h)
    go false b c p q r h = absurd (false≢true h)

-- by its tests
pub record_by : (e : List ℕ) (a b c : Bool) → ltb 0 (at e 1) ≡ a → leb (at e 1) longest_run ≡ b → leb (at e 0) total_limit ≡ c → record_fits e ≡ (a && b && c)
unfolding record_fits
record_by e a b c p q r = λ i. p i && q i && r i

pub fit_record : (e : List ℕ) → Fit e → record_fits e ≡ true
fit_record e f = record_by e true true true (lt-ltb _ _ f.some) (le-leb _ _ f.short) (le-leb _ _ f.early)

-- ---- all of them

pub fit_records : (es : List (List ℕ)) → All Fit es → records_fit es ≡ true
unfolding records_fit
fit_records [] f = refl
fit_records (e ∷ es) f = λ i. fit_record e f.0 i && fit_records es f.1 i

and_assoc : (a b c : Bool) → (a && (b && c)) ≡ ((a && b) && c)
and_assoc true b c = refl
and_assoc false b c = refl

and_true : (a : Bool) → (a && true) ≡ a
and_true true = refl
and_true false = refl

fit_behind : (es : List (List ℕ)) (e : List ℕ) → records_fit (es ++ (e ∷ [])) ≡ (records_fit es && record_fits e)
unfolding records_fit
fit_behind [] e = and_true (record_fits e)
fit_behind (d ∷ es) e = ap (λ (b : Bool). record_fits d && b) (fit_behind es e) ∙ and_assoc (record_fits d) (records_fit es) (record_fits e)

-- by their numbers
pub fit_up_to : (f : ℕ → List ℕ) (n : ℕ) → records_fit (up_to f n) ≡ all_to (λ i. record_fits (f i)) n
unfolding up_to all_to records_fit
fit_up_to f zero = refl
fit_up_to f (suc n) = fit_behind (up_to f n) (f n) ∙ ap (λ (b : Bool). b && record_fits (f n)) (fit_up_to f n)

undone_behind : (first : ℕ) (es : List (List ℕ)) (e ys : List ℕ) → undone_all first (es ++ (e ∷ [])) ys ≡ undone first e (at e 1) (undone_all first es ys)
unfolding undone_all
undone_behind first [] e ys = refl
undone_behind first (d ∷ es) e ys = undone_behind first es e (undone first d (at d 1) ys)

-- one more is undone
pub undone_next : (first : ℕ) (f : ℕ → List ℕ) (n : ℕ) (xs ys zs : List ℕ) → ys ≡ undone_all first (up_to f n) xs → zs ≡ undone first (f n) (at (f n) 1) ys
    → zs ≡ undone_all first (up_to f (n + 1)) xs
unfolding up_to
undone_next first f n xs ys zs e r = rw (add-one n) (r ∙ ap (undone first (f n) (at (f n) 1)) e ∙ sym (undone_behind first (up_to f n) (f n) xs))

-- ---- the records of a ring

-- where record i stands
abbrev pub place_of : ℕ → ℕ → ℕ → ℕ
place_of cap head i = (head + i) % cap * repair_width

-- record i
abbrev pub held_at : ℕ → Ring → ℕ → List ℕ
held_at cap r i = record_in r.words (place_of cap r.head i)

pub held_are : (cap : ℕ) (r : Ring) → held_records cap r ≡ up_to (held_at cap r) r.count
unfolding held_records
held_are cap r = refl

-- its words are in the store
pub place_in : (cap : ℕ) (r : Ring) (i : ℕ) → Sound repair_width cap r → place_of cap r.head i + repair_width ≤ length r.words
place_in cap r i s = omega (arith, place_fits repair_width cap ((r.head + i) % cap) (mod-lt (r.head + i) s.some), s.long)

pub held_fit : (cap : ℕ) (r : Ring) → records_fit (held_records cap r) ≡ all_to (λ i. record_fits (held_at cap r i)) r.count
held_fit cap r = ap records_fit (held_are cap r) ∙ fit_up_to (held_at cap r) r.count

pub each_fits : (cap : ℕ) (r : Ring) (i : ℕ) → records_fit (held_records cap r) ≡ true → i < r.count → record_fits (held_at cap r i) ≡ true
each_fits cap r i e h = all_at (λ j. record_fits (held_at cap r j)) r.count i (sym (held_fit cap r) ∙ e) h

-- one original more, by the words read
pub undone_step : (first : ℕ) (ws : List ℕ) (place t : ℕ) (xs ys zs : List ℕ) → t < longest_run → ys ≡ undone first (record_in ws place) t xs
    → zs ≡ returned first ys (at ws place + t) (at ws (place + 2 + t)) → zs ≡ undone first (record_in ws place) (t + 1) xs
unfolding undone
undone_step first ws place t xs ys zs h e r =
    let w : at ws (place + 2 + t) ≡ at (record_in ws place) (2 + t) = ap (at ws) (let q : place + 2 + t ≡ place + (2 + t) = omega arith in q)
    ∙ sym (record_word ws place (2 + t) (omega arith)) in
    rw (add-one t)
    (r ∙ (λ i. returned first (e i) (sym (record_start ws place) i + t) (w i)))
