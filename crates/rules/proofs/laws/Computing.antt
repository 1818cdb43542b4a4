-- Names that stand for all that a closed case computes with, for its `unfolding` line.
use Rattle.std.specs.Float.Ieee.{lt, le, eq, neg, add, sub, mul, div, of_int, of_bits, to_bits}
use Rattle.ieee.specs.Narrow.{narrowed}
use Rattle.ieee.specs.Root.{rooted}
use Rattle.ieee.specs.Whole.{whole_by}
use Rattle.complex.specs.Complex.{sum, difference, product, power, quotient, one_minus, one_plus, conjugate, scaled, unscaled, norm, narrowed_parts, word_of}
use Rattle.complex.specs.Complex.{sample_of}
use Rattle.rules.specs.Lists.{up_to, count}
use Rattle.rules.specs.Sort.{insert, sort}
use Rattle.rules.specs.Guard.{magnitude, usable_part, usable, first_unusable_from, guarded, unusable}
use Rattle.rules.specs.Pauses.{above_entry, within_exit, paused}
use Rattle.rules.specs.Impulse.{power_of, reference, stands_out, flagged, before, touches, mends, between, mended_at, value, events_at, events}
use Rattle.rules.specs.Impulse.{happened, handed_on}
use Rattle.rules.specs.Dc.{corner, blocked, weight, clamps, clamped, advanced, stepped, level_after, blocked_all, clamped_steps, restored, restored_all}
use Rattle.rules.specs.Iq.{sine_series, sine, cosine_series, cosine, turned, coefficient, accepted, centres_agree, settled, corrected, uncorrected}
use Rattle.rules.specs.Log.{write, roomed, append, joins, lengthened, mark, marked, repair_words, repaired, marks_of, repairs_of, long_runs}
use Rattle.rules.specs.Monitor.{channel_power, channel_product, total, power_sum, real_sum, imag_sum, strongest, floor_of, coherence_of, suspicious, reported}
use Rattle.rules.specs.Monitor.{window_length, answers, open_window, monitor_words, suspected_spans}
use Rattle.rules.specs.Undo.{held_records, undone, undone_all}

unfoldable pub floats : Unit {0}
unfolding lt le eq neg add sub mul div of_int of_bits to_bits narrowed rooted whole_by sum difference product power quotient one_minus one_plus conjugate scaled
    unscaled norm narrowed_parts word_of sample_of
floats = tt

unfoldable pub guard_rules : Unit {0}
unfolding magnitude usable_part usable first_unusable_from guarded unusable
guard_rules = tt

unfoldable pub impulse_rules : Unit {0}
unfolding up_to count insert sort power_of reference stands_out flagged before above_entry within_exit paused touches mends between mended_at value events_at events happened handed_on
impulse_rules = tt

unfoldable pub dc_rules : Unit {0}
unfolding corner blocked weight clamps clamped advanced stepped level_after blocked_all clamped_steps restored restored_all
dc_rules = tt

unfoldable pub iq_rules : Unit {0}
unfolding magnitude sine_series sine cosine_series cosine turned coefficient accepted centres_agree settled corrected uncorrected
iq_rules = tt

unfoldable pub log_rules : Unit {0}
unfolding write roomed append joins lengthened mark marked repair_words repaired marks_of repairs_of long_runs up_to held_records undone undone_all
log_rules = tt

unfoldable pub monitor_rules : Unit {0}
unfolding up_to insert sort channel_power channel_product total power_sum real_sum imag_sum strongest floor_of coherence_of suspicious reported window_length answers
    open_window monitor_words suspected_spans
monitor_rules = tt
