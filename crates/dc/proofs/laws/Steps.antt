-- An update, a sample taken and a sample undone, from the equations of their steps. Assumes nothing.
use Rattle.std.specs.Prelude.{◌≡◌, ℕ, ◌+◌, Bool, true, false, cond, not, ◌&&◌, T, ◌==◌, refl, Float}
use Rattle.std.proofs.Common.{sym, ◌∙◌, subst, add-one}
use Rattle.std.proofs.Math.Path.{ap}
use Rattle.std.specs.Float.Ieee.{binary64, le}
use Rattle.complex.specs.declared.Complex64.{Complex64}
use Rattle.complex.specs.declared.Single.{Single}
use Rattle.complex.specs.Complex.{Complex, sum, difference, power, scaled, sample_of}
use Rattle.complex.specs.View.{view64, make64, single_of}
use Rattle.rules.specs.Constants.{one}
use Rattle.rules.specs.Dc as rules
use Rattle.rules.specs.Dc.{Level, blocked, weight, clamps, clamped, is_zero, advanced, stepped}
use Rattle.dc.specs.declared.DcBlocker.{DcBlocker}
use Rattle.dc.specs.declared.Push.{Push}
use Rattle.dc.specs.declared.Taken.{Taken}
use Rattle.dc.specs.Blocker.{level_of, blocker_of, pushed, push_of, moved_by, processed, taken_of, restored, restored_word}
use Rattle.dc.proofs.laws.Clamp.{unclamped, clamp_none}

-- what an update makes of a level
abbrev pub moved : Float → Level → Complex → Level
moved a l y = pushed a l (clamped y)

pub advanced_by : (a : Float) (l : Level) (y : Complex) (t : Bool) → (l.updates == 0 && is_zero y) ≡ t → advanced a l y ≡ cond t l (moved a l y)
unfolding advanced
advanced_by a l y t e = ap (λ (s : Bool). cond s l (moved a l y)) e

-- ---- an update, by the test t whether y moves nothing
pub rested_by : (b : DcBlocker) (y : Complex) {t : Bool} → t ≡ (b.n == 0 && is_zero y) → t ≡ true → b ≡ moved_by b y
rested_by b y tested rests = ap (blocker_of b.a) (sym (advanced_by b.a (level_of b) y true (sym tested ∙ rests)))

pub pushed_by : (b : DcBlocker) (y : Complex) {s l : Complex64} {g : Float} → g ≡ weight b.a b.n → s ≡ make64 (scaled binary64 y g)
    → l ≡ make64 (sum binary64 (view64 b.dc) (view64 s))
    → ◌≡◌ {A = DcBlocker} (record { a = b.a; n = b.n + 1; dc = l }) (blocker_of b.a (pushed b.a (level_of b) y))
pushed_by b y weighed times more =
    let l' = more ∙ ap (λ z. make64 (sum binary64 (view64 b.dc) (view64 z))) (times ∙ ap (λ x. make64 (scaled binary64 y x)) weighed) in
    λ i. record { a = b.a; n = add-one b.n i; dc = l' i }

pub stepped_by : (b : DcBlocker) (y : Complex) {t : Bool} {h : Push} {next : DcBlocker} → h ≡ push_of y → t ≡ (b.n == 0 && is_zero y) → t ≡ false
    → next ≡ blocker_of b.a (pushed b.a (level_of b) (view64 h.by)) → next ≡ moved_by b y
stepped_by b y clamp tested moves updated =
    updated
    ∙ ap (λ c. blocker_of b.a (pushed b.a (level_of b) (view64 c.by))) clamp
    ∙ ap (blocker_of b.a) (sym (advanced_by b.a (level_of b) y false (sym tested ∙ moves)))

-- where an update has happened and the power is at most 1, nothing rests and nothing is clamped
plain_by : (b : DcBlocker) (y : Complex) (s p : Bool) → (b.n == 0) ≡ s → le (power binary64 y) one ≡ p → (not s && p) ≡ true
    → (blocker_of b.a (pushed b.a (level_of b) y) ≡ moved_by b y) × (false ≡ clamps y)
plain_by b y true p e f h = absurd (subst T (sym h) tt)
plain_by b y false p e f h = (
  ap (λ z. blocker_of b.a (pushed b.a (level_of b) z)) (sym (clamp_none y (f ∙ h)))
      ∙ ap (blocker_of b.a) (sym (advanced_by b.a (level_of b) y false (ap (λ (s : Bool). s && is_zero y) e))),
  sym (unclamped y (f ∙ h)),
)

module _ (b : DcBlocker) (y : Complex) {t : Bool} (tested : t ≡ (not (b.n == 0) && le (power binary64 y) one)) (plain : t ≡ true) where
  pub plainly : {next : DcBlocker} → next ≡ blocker_of b.a (pushed b.a (level_of b) y) → next ≡ moved_by b y
  plainly updated = updated ∙ (plain_by b y _ _ refl refl (sym tested ∙ plain)).0

  pub unheld : false ≡ clamps y
  unheld = (plain_by b y _ _ refl refl (sym tested ∙ plain)).1

-- ---- a sample taken, and one undone
module _ (b : DcBlocker) (w : ℕ) {m d : Complex64} {y : Single} where
  less_by : m ≡ make64 (sample_of w) → d ≡ make64 (difference binary64 (view64 m) (view64 b.dc)) → y ≡ single_of (view64 d)
      → y ≡ single_of (difference binary64 (sample_of w) (view64 b.dc))
  less_by sampled less rounded =
      rounded ∙ ap (λ s. single_of (view64 s)) (less ∙ ap (λ s. make64 (difference binary64 (view64 s) (view64 b.dc))) sampled)

  pub processed_by : {next : DcBlocker} → m ≡ make64 (sample_of w) → d ≡ make64 (difference binary64 (view64 m) (view64 b.dc))
      → y ≡ single_of (view64 d) → next ≡ moved_by b (view64 y.value) → next ≡ processed b w
  unfolding processed stepped blocked
  processed_by sampled less rounded updated = updated ∙ ap (λ s. moved_by b (view64 s.value)) (less_by sampled less rounded)

  pub taken_by : {t : Bool} → m ≡ make64 (sample_of w) → d ≡ make64 (difference binary64 (view64 m) (view64 b.dc))
      → y ≡ single_of (view64 d) → t ≡ clamps (view64 y.value) → ◌≡◌ {A = Taken} (record { word = y.word; clamped = t }) (taken_of b w)
  unfolding taken_of blocked
  taken_by sampled less rounded held =
      let y' = less_by sampled less rounded in
      let t' = held ∙ ap (λ s. clamps (view64 s.value)) y' in
      λ i. record { word = (y' i).word; clamped = t' i }

  pub observed_by : {t : Bool} → m ≡ make64 (sample_of w) → d ≡ make64 (difference binary64 (view64 m) (view64 b.dc))
      → y ≡ single_of (view64 d) → t ≡ clamps (view64 y.value) → t ≡ (taken_of b w).clamped
  observed_by sampled less rounded held = ap (λ s. s.clamped) (taken_by sampled less rounded held)

  pub restored_word_by : m ≡ make64 (sample_of w) → d ≡ make64 (sum binary64 (view64 m) (view64 b.dc)) → y ≡ single_of (view64 d)
      → y.word ≡ restored_word b w
  unfolding restored_word rules.restored
  restored_word_by sampled more rounded =
      ap (λ s. s.word) (rounded ∙ ap (λ s. single_of (view64 s)) (more ∙ ap (λ s. make64 (sum binary64 (view64 s) (view64 b.dc))) sampled))

pub restored_by : (b : DcBlocker) (w : ℕ) {m : Complex64} {next : DcBlocker} → m ≡ make64 (sample_of w) → next ≡ moved_by b (view64 m) → next ≡ restored b w
unfolding restored
restored_by b w sampled updated = updated ∙ ap (λ s. moved_by b (view64 s)) sampled
