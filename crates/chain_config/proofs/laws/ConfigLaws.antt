-- Laws of what making declines: the settings first and then the lengths. Assumes nothing.
use Rattle.std.specs.Prelude.{◌≡◌, refl, Bool, true, false, not, ◌||◌, cond, [], ◌∷◌, ℕ, zero, suc, ◌*◌, ◌≤◌, ◌<◌, eqb, ltb, Float, Result, Ok, Err}
use Rattle.std.specs.Result.{is_ok}
use Rattle.std.proofs.Common.{sym, ap, ◌∙◌, arith, ltb-false}
use Rattle.std.proofs.lemmas.Bool.{false≢true}
use Rattle.rules.specs.Constants.{one, rate_limit}
use Rattle.rules.specs.Iq.{ranged}
use Rattle.rules.specs.Chain.{Config}
use Rattle.rules.specs.Refusals.{first_of, bad_size, bad_capacity, bad_length, making_refusal}
use Rattle.rules.specs.Log.{repair_width, store_width}
use Rattle.rules.specs.Monitor.{channel_width}
use Rattle.rules.specs.Answers.{number_in}
use Rattle.refusal.specs.declared.Refusal.{Refusal}
use Rattle.refusal.specs.declared.Refusal.TheVariants as why
use Rattle.refusal.specs.Words.{words_of, number_of}
use Rattle.chain_config.specs.Config.{setting_refusal, refusal}

-- a number by the answers of three tests, or another
abbrev pub by_three : Bool → Bool → Bool → ℕ → ℕ
by_three rate size capacity other = cond (not rate) 1 (cond size 2 (cond capacity 3 other))

-- the settings' number by the answers of their tests
abbrev pub setting_number : Bool → Bool → Bool → Bool → Bool → Bool → ℕ
setting_number rate size no_spans many_spans no_repairs many_repairs = by_three rate size (no_spans || many_spans || no_repairs || many_repairs) 0

pub setting_by : (fs : Float) (n spans repairs : ℕ) (rate size no_spans many_spans no_repairs many_repairs : Bool) → ranged one rate_limit fs ≡ rate
    → ltb 2048 n ≡ size → eqb spans 0 ≡ no_spans → ltb 256 spans ≡ many_spans → eqb repairs 0 ≡ no_repairs → ltb 4096 repairs ≡ many_repairs
    → setting_number rate size no_spans many_spans no_repairs many_repairs ≡ setting_refusal fs n spans repairs
unfolding setting_refusal first_of
setting_by fs n spans repairs rate size no_spans many_spans no_repairs many_repairs h1 h2 h3 h4 h5 h6 =
    sym
    (ap (λ (t : Bool). setting_number t (ltb 2048 n) (eqb spans 0) (ltb 256 spans) (eqb repairs 0) (ltb 4096 repairs)) h1
    ∙ ap (λ (t : Bool). setting_number rate t (eqb spans 0) (ltb 256 spans) (eqb repairs 0) (ltb 4096 repairs)) h2
    ∙ ap (λ (t : Bool). setting_number rate size t (ltb 256 spans) (eqb repairs 0) (ltb 4096 repairs)) h3
    ∙ ap (λ (t : Bool). setting_number rate size no_spans t (eqb repairs 0) (ltb 4096 repairs)) h4
    ∙ ap (λ (t : Bool). setting_number rate size no_spans many_spans t (ltb 4096 repairs)) h5
    ∙ ap (λ (t : Bool). setting_number rate size no_spans many_spans no_repairs t) h6)

-- the lengths' number by the answers of their tests
abbrev pub length_number : Bool → Bool → Bool → ℕ
length_number repairs spans words = cond (not repairs) 4 (cond (not spans) 4 (cond (not words) 4 0))

unfoldable pub length_refusal : Config → ℕ → ℕ → ℕ → ℕ
length_refusal c spans repairs words =
    first_of (bad_length (repair_width * c.repairs) repairs ∷ bad_length (store_width * c.spans) spans ∷ bad_length (channel_width * c.n) words ∷ [])

abbrev setting_of : Config → ℕ
setting_of c = setting_refusal c.fs c.n c.spans c.repairs

-- three causes before others
split : (rate size capacity : Bool) (k : ℕ) → cond (eqb (by_three rate size capacity 0) 0) k (by_three rate size capacity 0) ≡ by_three rate size capacity k
split false t u k = refl
split true true u k = refl
split true false true k = refl
split true false false k = refl

-- making asks for the settings, then for the lengths
making_split : (c : Config) (spans repairs words : ℕ)
    → cond (eqb (setting_of c) 0) (length_refusal c spans repairs words) (setting_of c) ≡ refusal c spans repairs words
unfolding setting_refusal length_refusal making_refusal first_of
making_split c spans repairs words =
    split (ranged one rate_limit c.fs) (bad_size c.n).holds (bad_capacity c.spans c.repairs).holds (length_refusal c spans repairs words)

-- unfit settings
pub unfit_setting : (c : Config) (spans repairs words : ℕ) → eqb (setting_of c) 0 ≡ false → setting_of c ≡ refusal c spans repairs words
unfit_setting c spans repairs words h =
    sym (ap (λ (t : Bool). cond t (length_refusal c spans repairs words) (setting_of c)) h) ∙ making_split c spans repairs words

-- what is refused has a number that is not 0
pub refusal_numbered : (e : Refusal) → eqb (number_in (words_of e)) 0 ≡ false
refusal_numbered why.BadRate = refl
refusal_numbered why.BadSize = refl
refusal_numbered why.BadCapacity = refl
refusal_numbered why.BadLength = refl
refusal_numbered why.BadState = refl
refusal_numbered why.Short = refl
refusal_numbered (why.OutOfRange k) = refl
refusal_numbered why.TooMany = refl
refusal_numbered why.Early = refl
refusal_numbered why.BadCoefficient = refl
refusal_numbered why.BadGain = refl
refusal_numbered why.BadPhase = refl
refusal_numbered why.BadCentre = refl
refusal_numbered why.BadHeader = refl
refusal_numbered why.BrokenTail = refl

-- an answer is good where its number is 0
pub is_ok_by_number : {A : Type 0} (r : Result A Refusal) → is_ok r ≡ eqb (number_of r) 0
is_ok_by_number (Ok a) = refl
is_ok_by_number (Err e) = sym (refusal_numbered e)

-- fit settings, and the answers of the tests of the lengths
pub length_by : (c : Config) (spans repairs words : ℕ) (s t u : Bool) → eqb (setting_of c) 0 ≡ true → eqb repairs (repair_width * c.repairs) ≡ s
    → eqb spans (store_width * c.spans) ≡ t → eqb words (channel_width * c.n) ≡ u → length_number s t u ≡ refusal c spans repairs words
unfolding length_refusal first_of
length_by c spans repairs words s r u h h1 h2 h3 =
    sym
    (ap (λ (t : Bool). length_number t (eqb spans (store_width * c.spans)) (eqb words (channel_width * c.n))) h1
    ∙ ap (λ (t : Bool). length_number s t (eqb words (channel_width * c.n))) h2
    ∙ ap (λ (t : Bool). length_number s r t) h3)
    ∙ sym (ap (λ (t : Bool). cond t (length_refusal c spans repairs words) (setting_of c)) h)
    ∙ making_split c spans repairs words

-- what fit settings keep to
pub record Limits (fs : Float) (n spans repairs : ℕ) : Type 0 where
  pub rate : ranged one rate_limit fs ≡ true
  pub size : n ≤ 2048
  pub some_spans : 0 < spans
  pub few_spans : spans ≤ 256
  pub some_repairs : 0 < repairs
  pub few_repairs : repairs ≤ 4096

not_zero : (k : ℕ) → eqb k 0 ≡ false → 0 < k
not_zero zero e = absurd (false≢true (sym e))
not_zero (suc k) e = omega arith

by_tests : (fs : Float) (n spans repairs : ℕ) (rate size no_spans many_spans no_repairs many_repairs : Bool) → ranged one rate_limit fs ≡ rate → ltb 2048 n ≡ size
    → eqb spans 0 ≡ no_spans → ltb 256 spans ≡ many_spans → eqb repairs 0 ≡ no_repairs → ltb 4096 repairs ≡ many_repairs
    → eqb (setting_number rate size no_spans many_spans no_repairs many_repairs) 0 ≡ true → Limits fs n spans repairs
by_tests fs n spans repairs true false false false false false a b c d f g e =
    record {
      rate = a;
      size = ltb-false _ _ b;
      some_spans = not_zero spans c;
      few_spans = ltb-false _ _ d;
      some_repairs = not_zero repairs f;
      few_repairs =
          ltb-false _ _ g;
    }
by_tests fs n spans repairs true false false false false true a b c d f g e = absurd (false≢true e)
by_tests fs n spans repairs true false false false true m a b c d f g e = absurd (false≢true e)
by_tests fs n spans repairs true false false true z m a b c d f g e = absurd (false≢true e)
by_tests fs n spans repairs true false true m z p a b c d f g e = absurd (false≢true e)
by_tests fs n spans repairs true true y m z p a b c d f g e = absurd (false≢true e)
by_tests fs n spans repairs false x y m z p a b c d f g e = absurd (false≢true e)

pub setting_limits : (fs : Float) (n spans repairs : ℕ) → eqb (setting_refusal fs n spans repairs) 0 ≡ true → Limits fs n spans repairs
setting_limits fs n spans repairs e =
    by_tests fs n spans repairs _ _ _ _ _ _ refl refl refl refl refl refl
    (ap (λ (k : ℕ). eqb k 0) (setting_by fs n spans repairs _ _ _ _ _ _ refl refl refl refl refl refl) ∙ e)
