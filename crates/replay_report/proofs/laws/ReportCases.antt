-- The texts that document 01 and document 02's R-7 give, computed. Assumes nothing.
use Rattle.std.specs.Prelude.{◌≡◌, refl, [], ◌∷◌, drop}
use Rattle.rules.specs.Constants.{one, zero_f}
use Rattle.rules.specs.Mode.{Mode, off, observe, apply}
use Rattle.rules.specs.Iq.{none, Off, Withheld, settled}
use Rattle.rules.specs.Log.{Stage, impulse, Mark, Repaired, span_of}
use Rattle.rules.specs.Pauses.{first}
use Rattle.rules.specs.Chain.{Config, no_level, level_is}
use Rattle.rules.proofs.laws.Computing.{floats}
use Rattle.replay_text.specs.Text.{letters, decimal_by, hexadecimal, line, each}
use Rattle.replay_report.specs.Lines.{ring_name, sample_lines, count_line, span_line, dropped_line, level_line, settled_line}
use Rattle.replay_report.specs.Report.{Ring, Report, rings_of, report_text, fresh_text}
use Rattle.replay_text.specs.Notices.{refused_text, off_text}

-- a ring that nothing was marked in
abbrev pub quiet : Stage → Mark → Ring
quiet s m = record { stage = s; mark = m; count = 0; spans = [] }

abbrev pub mended_once : Report
mended_once =
    record {
      replaced = 0;
      seen = 60;
      final = 39;
      held = 21;
      rings = record { stage = impulse; mark = Repaired; count = 1; spans = span_of 20 1 ∷ [] } ∷ drop 1 (rings_of quiet);
      dropped_spans = 0;
      dropped_repairs = 0;
      level = no_level;
      settled = Off;
    }

-- a header with these modes of DC and IQ, and no calibration
abbrev pub headed : Mode → Mode → Config
headed dc iq =
    record {
      impulse_mode = apply;
      dc_mode = dc;
      iq_mode = iq;
      fs = one;
      centre = one;
      n = 8;
      calibration = none;
      spans = 256;
      repairs = 1024;
      edition = first;
    }

pub record Texts : Type 0 where
  -- document 01's block
  pub block : report_text mended_once
      ≡ letters "replaced 0\nseen 60 final 39 held 21\ncount impulse repaired 1\nspan impulse repaired 20 1\ndropped 0 0\ndc none\niq off\n"
  pub level : level_line (level_is (record { re = one; im = zero_f })) ≡ letters "dc 3ff0000000000000 0000000000000000\n"
  pub mismatch : settled_line Withheld ≡ letters "iq mismatch\n"
  pub refused : refused_text 14 ≡ letters "refused 14\n"
  pub all_off : off_text ≡ letters "off\n"
  -- R-7's
  pub fresh_off : fresh_text (headed off observe) ≡ letters "replaced 0\nseen 0 final 0 held 0\ndropped 0 0\ndc none\niq observing\n"
  pub fresh_observing : fresh_text (headed observe off)
      ≡ letters "replaced 0\nseen 0 final 0 held 0\ndropped 0 0\ndc 0000000000000000 0000000000000000\niq off\n"
  pub fresh_applying : fresh_text (headed apply apply)
      ≡ letters "replaced 0\nseen 0 final 0 held 0\ndropped 0 0\ndc 0000000000000000 0000000000000000\niq mismatch\n"

pub texts : Texts
unfolding floats settled letters decimal_by hexadecimal line each ring_name sample_lines count_line span_line dropped_line level_line settled_line report_text
    fresh_text refused_text off_text
texts =
    record {
      block = refl;
      level = refl;
      mismatch = refl;
      refused = refl;
      all_off = refl;
      fresh_off = refl;
      fresh_observing = refl;
      fresh_applying = refl;
    }
