-- `ImageMonitor::words_fit` is `words_fit`: every word is tested, and then the signs of the powers. Assumes nothing.
use mathlib.Core.Path.{◌≡◌, refl, sym, ap, ◌∙◌}
use mathlib.Core.Bool.{Bool, true, false, ◌&&◌}
use mathlib.Core.List.{List, [], ◌∷◌}
use Prim.Native.Nat.{ℕ, zero, suc}
use lib.ListN.{take, drop}
use lib.Ieee.{Float}
use Rattle.ieee.specs.Plain.{sign_clear}
use Rattle.rules.specs.Lists.{all_of}
use Rattle.iq_monitor.specs.Words.{power_fits, sum_fits, words_fit}
use Rattle.iq_monitor.proofs.ImageMonitor.words_fit.Goals as goal

-- the words by both tests, whatever order
tested : (n : ℕ) (ws : List Float) → words_fit n ws ≡ (all_of sum_fits ws && all_of sign_clear (take n ws))
unfolding words_fit all_of power_fits sum_fits
tested zero ws = unit (all_of sum_fits ws)
  where
    unit : (b : Bool) → b ≡ (b && true)
    unit true = refl
    unit false = refl
tested (suc n) [] = refl
tested (suc n) (x ∷ ws) =
    both (sign_clear x) (sum_fits x) (all_of power_fits (take n ws)) (all_of sum_fits (drop n ws)) (all_of sum_fits ws) (all_of sign_clear (take n ws)) (tested n ws)
  where
    both : (s f p d a c : Bool) → (p && d) ≡ (a && c) → (((s && f) && p) && d) ≡ ((f && a) && (s && c))
    both true true p d a c e = e
    both true false p d a c e = refl
    both false true p d true c e = refl
    both false true p d false c e = refl
    both false false p d a c e = refl

pub returns-then-all_fit : goal.returns-then-all_fit
returns-then-all_fit c =
    let a = c.args in
    c.all_plain.ensures.0 ∙ sym (tested a.n a.words.now ∙ ap (λ (b : Bool). b && all_of sign_clear (take a.n a.words.now)) (sym c.if-all_fit.ensures))

pub returns-else-all_fit : goal.returns-else-all_fit
returns-else-all_fit c =
    let a = c.args in
    c.if-all_fit.false ∙ sym (tested a.n a.words.now ∙ ap (λ (b : Bool). b && all_of sign_clear (take a.n a.words.now)) (sym c.if-all_fit.ensures))
