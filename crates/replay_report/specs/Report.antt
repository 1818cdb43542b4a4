-- Document 01, with document 02's R-4 and R-7: what the replay program prints. Definitions only.
use Rattle.std.specs.Prelude.{cond, ℕ, zero, suc, ◌+◌, length}
use mathlib.Core.List.{List, [], ◌∷◌, ◌++◌, map, sum}
use Rattle.rules.specs.Guard.{guarded, unusable}
use Rattle.rules.specs.Mode.{runs}
use Rattle.rules.specs.Dc.{origin}
use Rattle.rules.specs.Iq.{Settled}
use Rattle.rules.specs.Log.{Span, Marks, Stage, impulse, dc, iq, Mark, Repaired, Flagged, Corrected, Uncertain, spans_of}
use Rattle.rules.specs.Chain.{Config, DcLevel, no_level, level_is, released, held_of, ring_of, repair_ring, dc_level, settled_by}
use Rattle.rules.specs.Refusals.{first_of, too_many}
use Rattle.chain_config.specs.Config.{all_off, refusal}
use Rattle.replay_text.specs.Text.{each}
use Rattle.replay_text.specs.Notices.{refused_text, off_text}
use Rattle.replay_format.specs.Format.{config_in, samples_in, input_refusal}
use Rattle.replay_report.specs.Lines.{sample_lines, count_line, span_line, dropped_line, level_line, settled_line}

-- ---- what is reported

-- a ring: its stage and mark, its count, and its spans, the oldest first
pub record Ring : Type 0 where
  pub stage : Stage
  pub mark : Mark
  pub count : ℕ
  pub spans : List Span

-- the samples replaced, received, released and held; the rings, in ring order; and the rest
pub record Report : Type 0 where
  pub replaced : ℕ
  pub seen : ℕ
  pub final : ℕ
  pub held : ℕ
  pub rings : List Ring
  pub dropped_spans : ℕ
  pub dropped_repairs : ℕ
  pub level : DcLevel
  pub settled : Settled

-- ---- its text

abbrev pub ring_count : Ring → List ℕ
ring_count r = count_line r.stage r.mark r.count

abbrev pub count_lines : List Ring → List ℕ
count_lines rs = each ring_count rs

abbrev pub span_lines_of : Stage → Mark → List Span → List ℕ
span_lines_of s m xs = each (span_line s m) xs

abbrev pub ring_spans : Ring → List ℕ
ring_spans r = span_lines_of r.stage r.mark r.spans

abbrev pub span_lines : List Ring → List ℕ
span_lines rs = each ring_spans rs

unfoldable pub report_text : Report → List ℕ
report_text r =
    sample_lines r.replaced r.seen r.final r.held
    ++ (count_lines r.rings
    ++ (span_lines r.rings ++ (dropped_line r.dropped_spans r.dropped_repairs ++ (level_line r.level ++ settled_line r.settled))))

-- ---- by the rules, for the whole input

-- of each ring, in ring order: 'impulse, DC, IQ, then Repaired, Flagged, Corrected, Uncertain'
abbrev pub marks : List Mark
marks = Repaired ∷ Flagged ∷ Corrected ∷ Uncertain ∷ []

abbrev pub rings_of : {A : Type 0} → (Stage → Mark → A) → List A
rings_of f = map (f impulse) marks ++ (map (f dc) marks ++ map (f iq) marks)

-- a ring with its count
abbrev pub ring_by : ℕ → Stage → Mark → Marks → Ring
ring_by cap s m x = record { stage = s; mark = m; count = x.samples; spans = spans_of cap x.ring }

unfoldable pub report_by : Config → List ℕ → Report
report_by c raw =
    let xs = guarded raw in
    record {
      replaced = unusable raw;
      seen = length xs;
      final = length (released c xs);
      held = held_of c xs;
      rings = rings_of (λ s m. ring_by c.spans s m (ring_of c xs [] s m));
      dropped_spans = sum ◌+◌ 0 (rings_of (λ s m. (ring_of c xs [] s m).ring.dropped));
      dropped_repairs = (repair_ring c xs).dropped;
      level = dc_level c xs;
      settled = settled_by c;
    }

-- R-7, of no samples: 'It prints replaced 0, seen 0 final 0 held 0, the dropped, dc and iq lines. Under dc observe or apply the level is two zero
-- words.'
unfoldable pub fresh_text : Config → List ℕ
fresh_text c =
    sample_lines 0 0 0 0 ++ (dropped_line 0 0 ++ (level_line (cond (runs c.dc_mode) (level_is origin) no_level) ++ settled_line (settled_by c)))

-- a number in place of a text, and the text where there is none
abbrev pub text_unless : ℕ → List ℕ → List ℕ
text_unless zero text = text
text_unless (suc k) text = refused_text (suc k)

-- making, with stores of 24·256, 6·1,024 and 4·8 words: 'all off answers nothing, before 1, 2, 3, 4'
abbrev pub made_text : Config → List ℕ → List ℕ
made_text c text = cond (all_off c) off_text (text_unless (refusal c 6144 6144 32) text)

-- and then the calls: 'total above 2^48'
abbrev pub played_text : Config → List ℕ → List ℕ
played_text c raw = made_text c (text_unless (first_of (too_many 0 (length raw) ∷ [])) (report_text (report_by c raw)))

-- all that is printed: 'Replay: 14, 15, then making', with R-4's 17, and 'Number 15 is met no more' (R-7)
unfoldable pub printed : List ℕ → List ℕ
printed input = text_unless (input_refusal input) (played_text (config_in input) (samples_in input))
