-- Document 02, R-12, of a chain: where its DC stage applies and IQ does not correct, DC undo of the released samples. Definitions only.
use Rattle.std.specs.Prelude.{◌≡◌, false, List, [], ℕ, length}
use Rattle.rules.specs.Mode.{is_apply}
use Rattle.rules.specs.Chain.{after_impulse}
use Rattle.rules.specs.Iq.{Settled, Off, Observing, Correcting, Withheld}
use Rattle.dc.specs.Undo.{undo_returned, undo_words}
use Rattle.dc_bounds.specs.Undone.{stage_wrote, undo_writes, DcUndone}
use Rattle.stage_mode.specs.View.{mode_of}
use Rattle.chain_config.specs.declared.ConditioningConfig.{ConditioningConfig}
use Rattle.chain_config.specs.Config.{config_of}
use Rattle.one_record.specs.Lists.{Chain}

-- IQ is off, observes, or is withheld
abbrev pub NotCorrecting : Settled → Type 0
NotCorrecting Off = Unit {0}
NotCorrecting Observing = Unit {0}
NotCorrecting Withheld = Unit {0}
NotCorrecting (Correcting r) = ⊥

-- what the DC stage got of all the samples brought
abbrev pub handed_dc : ConditioningConfig → Chain → List ℕ
handed_dc g y = after_impulse (config_of g) y.brought

pub record ReleasedUndone (g : ConditioningConfig) (y : Chain) : Type 0 where
  -- where impulse does not apply, the stage got the samples as they were brought: the raw ones
  pub raw : is_apply (mode_of g.impulse) ≡ false → handed_dc g y ≡ y.brought
  -- the released samples are 'all that the stage wrote'
  pub wrote : y.released ≡ stage_wrote g.fs (handed_dc g y)
  -- so the statement speaks of them
  pub undone : DcUndone g.fs (handed_dc g y)
  -- and 'the undo, given its fs' and them, with a second slice of their length, refuses nothing and writes what the statement says
  pub accepts : (out : List ℕ) → length out ≡ length y.released → undo_returned g.fs out y.released ≡ []
  pub writes : (out : List ℕ) → length out ≡ length y.released → undo_words g.fs out y.released ≡ undo_writes g.fs (stage_wrote g.fs (handed_dc g y))
