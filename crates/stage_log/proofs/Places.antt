-- Where an entry goes, once there is room. Assumes nothing.
use mathlib.Core.Path.{◌≡◌, ap, sym, subst}
use mathlib.Core.List.{List}
use Prim.Native.Nat.{ℕ, ◌+◌, ◌*◌, ◌%◌, ◌≤◌, ◌<◌}
use native.Mathlib.Nat.{mod-lt}
use native.Mathlib.Omega.{arith}
use lib.ListN.{length}
use Rattle.rules.specs.Log as rules
use Rattle.rules.specs.Log.{roomed, entered, append, Sound}
use Rattle.rules.proofs.laws.RingLaws.{HasRoom, roomed_sound, place_fits}
use Rattle.stage_log.specs.declared.Ring.{Ring}
use Rattle.stage_log.specs.View.{ring_in}

-- the next entry's words are in the slice
pub record Next (width cap : ℕ) (q : Ring) (ws : List ℕ) : Type 0 where
  pub head_in : q.head < cap
  pub room : q.count < cap
  pub inside : (q.head + q.count) % cap * width + width ≤ length ws
  pub few : width * cap ≡ length ws

module _ (width cap : ℕ) (ring q : Ring) (ws : List ℕ) (e : ring_in q ws ≡ roomed cap (ring_in ring ws)) where
  pub next_in : Sound width cap (ring_in ring ws) → Next width cap q ws
  next_in k =
      let h : HasRoom width cap (ring_in ring ws) (ring_in q ws) =
      subst (λ (r : rules.Ring). HasRoom width cap (ring_in ring ws) r) (sym e) (roomed_sound width cap (ring_in ring ws) k) in
      record {
        head_in = h.sound.head_in;
        room = h.room;
        inside = omega (arith, place_fits width cap ((q.head + q.count) % cap) (mod-lt (q.head + q.count) k.some), k.long);
        few = sym k.long;
      }

  pub append_by : (es : List ℕ) → entered cap (ring_in q ws) es ≡ append cap (ring_in ring ws) es
  unfolding append
  append_by es = ap (λ (r : rules.Ring). entered cap r es) e
