-- `iq_monitor::strongest_channel` is `strongest`: what lies between and around the two halves is not eligible. Assumes nothing.
use mathlib.Core.Path.{◌∙◌}
use native.Mathlib.Omega.{arith}
use lib.ListN.{length}
use Rattle.iq_monitor.specs.Observe.{power_at}
use Rattle.iq_monitor.proofs.Strength.{few, only_one, lower_start, lower_half, past_middle, upper_half, past_end}
use Rattle.iq_monitor.proofs.strongest_channel.Goals as goal

pub returns-then-n-lt11 : goal.returns-then-n-lt11
returns-then-n-lt11 c = let l = c.args.powers.now in (few (length l) (power_at l) c.if-n-lt11.true, tt)

pub returns-then-n-eq11 : goal.returns-then-n-eq11
returns-then-n-eq11 c = let l = c.args.powers.now in (only_one (length l) (power_at l) c.if-n-eq11.true, omega arith)

pub strongest_among-below-requires : goal.strongest_among-below-requires
strongest_among-below-requires c =
    let l = c.args.powers.now in
    record {
      first_in_bounds = omega arith;
      ordered = omega arith;
      end_in_bounds = omega arith;
      eligible = lower_half (length l) (power_at l) (omega arith);
      strongest_before = lower_start (length l) (power_at l) (omega arith);
    }

pub strongest_among-requires : goal.strongest_among-requires
strongest_among-requires c =
    let l = c.args.powers.now in
    let r = c.strongest_among-below.ensures in
    record {
      first_in_bounds = r.1;
      ordered = omega arith;
      end_in_bounds = omega arith;
      eligible = upper_half (length l) (power_at l) (omega arith);
      strongest_before = r.0 ∙ past_middle (length l) (power_at l) (omega arith);
    }

pub returns : goal.returns
returns c =
    let l = c.args.powers.now in
    let r = c.strongest_among.ensures in
    (r.0 ∙ past_end (length l) (power_at l) (omega arith), r.1)
