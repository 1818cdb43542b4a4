-- `chain_call::mark_released` marks for DC and then for IQ. Assumes nothing.
use mathlib.Core.Path.{sym, ap, ◌∙◌, subst}
use Prim.Native.Nat.{◌^◌}
use native.Mathlib.Omega.{arith}
use Rattle.stage_log.specs.View.{Logged, span_in}
use Rattle.stage_log.specs.Ready.{Bounded}
use Rattle.iq.specs.View.{settled_of}
use Rattle.stage_mode.specs.View.{mode_of}
use Rattle.chain.specs.Stages.{noted_iq}
use Rattle.chain.proofs.laws.SliceLaws.{noted_dc_bounded}
use Rattle.chain_call.proofs.mark_released.Goals as goal

pub mark_iq-requires : goal.mark_iq-requires
mark_iq-requires c =
    let a = c.args in
    let short = c.requires.start_bound.1 in
    record {
      bounded =
          subst (Bounded a.capacity (2 ^ 55)) (sym c.mark_dc.ensures)
          (noted_dc_bounded a.capacity (2 ^ 54) (2 ^ 55) (mode_of a.mode) (record { log = a.log.now; spans = a.spans.now }) (span_in a.span)
          c.requires.bounded (omega arith));
      start_bound = c.requires.start_bound;
    }

pub returns : goal.returns
returns c =
    let a = c.args in
    c.mark_iq.ensures
    ∙ ap (λ (x : Logged). noted_iq a.capacity (settled_of a.iq) x (span_in a.span))
    c.mark_dc.ensures
