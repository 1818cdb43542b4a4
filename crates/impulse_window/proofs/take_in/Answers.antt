-- `impulse_window::take_in` meets its contract. Assumes nothing.
use mathlib.Core.Path.{◌≡◌, ap, ◌∙◌}
use Prim.Native.Nat.{ℕ, ◌%◌}
use lib.ListN.{get_or, set}
use lib.Ieee.{Float, nan, binary32}
use Rattle.complex.specs.declared.Complex32.{Complex32}
use Rattle.complex.specs.View.{view32, make32}
use Rattle.complex.specs.Complex.{power, sample_of}
use Rattle.rules.specs.Impulse.{window_size, power_of}
use Rattle.impulse_window.specs.Ordered.{ordered}
use Rattle.impulse_window.proofs.take_in.Goals as goal

power_is : (x : ℕ) (z : Complex32) (p : Float) → z ≡ make32 (sample_of x) → p ≡ power binary32 (view32 z) → p ≡ power_of x
unfolding power_of
power_is x z p e f = f ∙ ap (λ (w : Complex32). power binary32 (view32 w)) e

pub returns : goal.returns
returns c =
    let a = c.args in
    let w = power_is a.x c.unpack.result c.norm_sqr-p.result
    c.unpack.ensures c.norm_sqr-p.ensures in
    record {
      powers = ap (set a.window.now (a.i % window_size)) w;
      ascending =
          c.order-rising.ensures.result
          ∙ ap (λ (p : Float). ordered window_size a.i (get_or a.window.now (a.i % window_size) nan) p a.sorted.now) w;
      rising = c.order-rising.ensures.rising;
    }
