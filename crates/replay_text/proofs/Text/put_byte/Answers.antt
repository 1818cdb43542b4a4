-- `replay_text::Text::put_byte`: a byte behind the store's end is left out.
use Rattle.std.proofs.Common.{refl, sym, arith}
use Rattle.std.proofs.Math.Seq.{set_out}
use Rattle.replay_text.specs.Text.{put}
use Rattle.replay_text.proofs.Text.put_byte.Goals as goal

pub returns-then-self : goal.returns-then-self
unfolding put
returns-then-self c = record { same_store = refl; written = record { store = refl; stop = omega arith } }

pub returns-else-self : goal.returns-else-self
unfolding put
returns-else-self c = record { same_store = refl; written = record { store = sym (set_out _ _ _ c.if-self.false); stop = omega arith } }
