-- No report is longer than 262,144 bytes: a store of that size holds any, whole. Assumes nothing.
use Rattle.std.specs.Prelude.{◌≡◌, Bool, true, false, cond, List, [], ◌∷◌, ◌++◌, ℕ, ◌*◌, ◌≤◌, min, eqb, length, take}
use Rattle.std.proofs.Common.{arith, length-append}
use Rattle.std.specs.Float.{binary64}
use Rattle.std.specs.Float.Ieee.{to_bits}
use Rattle.rules.specs.Iq.{Settled, Off, Observing, Withheld, Correcting}
use Rattle.rules.specs.Log.{Span, Stage, impulse, dc, iq, Mark, Repaired, Flagged, Corrected, Uncertain, ring_number}
use Rattle.rules.specs.Chain.{DcLevel, no_level, level_is}
use Rattle.stage_log.specs.Check.{count_of, dropped_in_all}
use Rattle.iq.specs.View.{settled_of}
use Rattle.chain_state.specs.declared.InputConditioner.{InputConditioner}
use Rattle.chain_log.specs.Reading.{state_level}
use Rattle.replay_text.specs.Text.{letters, decimal, hexadecimal, line, each, put}
use Rattle.replay_text.proofs.laws.PutLaws.{put_whole}
use Rattle.replay_text.proofs.laws.LengthLaws.{decimal_length, hexadecimal_length, line_length, each_length}
use Rattle.replay_report.specs.Lines.{stage_name, mark_name, settled_name, ring_name, sample_lines, count_line, span_line, dropped_line, level_line, settled_line}
use Rattle.replay_report.specs.Report.{marks, report_text}
use Rattle.replay_report.specs.Shown.{shown_spans, shown_count, shown_counts, shown_lines, all_lines, shown_rest, report_in}
use Rattle.replay_report.proofs.laws.ShownLaws.{shown_few, report_pieces}

-- ---- names

stage_length : (s : Stage) → length (letters (stage_name s)) ≤ 7
unfolding letters
stage_length impulse = omega arith
stage_length dc = omega arith
stage_length iq = omega arith

mark_length : (m : Mark) → length (letters (mark_name m)) ≤ 9
unfolding letters
mark_length Repaired = omega arith
mark_length Flagged = omega arith
mark_length Corrected = omega arith
mark_length Uncertain = omega arith

ring_length : (s : Stage) (m : Mark) → length (ring_name s m) ≤ 17
unfolding letters ring_name
ring_length s m = omega (arith, length-append (letters (stage_name s)) (letters " " ++ letters (mark_name m)), stage_length s, mark_length m)

settled_length : (s : Settled) → length (letters (settled_name s)) ≤ 10
unfolding letters
settled_length Off = omega arith
settled_length Observing = omega arith
settled_length (Correcting r) = omega arith
settled_length Withheld = omega arith

-- ---- lines

samples_length : (a b c d : ℕ) → length (sample_lines a b c d) ≤ 109
unfolding letters sample_lines
samples_length a b c d =
    let u = letters "replaced" ∷ decimal a ∷ [] in
    let v = letters "seen" ∷ decimal b ∷ letters "final" ∷ decimal c ∷ letters "held" ∷ decimal d ∷ [] in
    omega (
      arith,
      length-append (line u) (line v),
      line_length (letters "replaced") (decimal a ∷ []),
      line_length (letters "seen") (decimal b ∷ letters "final" ∷ decimal c ∷ letters "held" ∷ decimal d ∷ []),
      decimal_length 20 a,
      decimal_length 20 b,
      decimal_length 20 c,
      decimal_length 20 d,
    )

count_length : (s : Stage) (m : Mark) (n : ℕ) → length (count_line s m n) ≤ 45
unfolding letters count_line
count_length s m n = go (eqb n 0)
  where
    go : (b : Bool) → length (cond b [] (line (letters "count" ∷ ring_name s m ∷ decimal n ∷ []))) ≤ 45
    go true = omega arith
    go false = omega (arith, line_length (letters "count") (ring_name s m ∷ decimal n ∷ []), ring_length s m, decimal_length 20 n)

span_length : (s : Stage) (m : Mark) (x : Span) → length (span_line s m x) ≤ 65
unfolding letters span_line
span_length s m x =
    omega (
      arith,
      line_length (letters "span") (ring_name s m ∷ decimal x.start ∷ decimal x.len ∷ []),
      ring_length s m,
      decimal_length 20 x.start,
      decimal_length 20 x.len,
    )

dropped_length : (a b : ℕ) → length (dropped_line a b) ≤ 50
unfolding letters dropped_line
dropped_length a b = omega (arith, line_length (letters "dropped") (decimal a ∷ decimal b ∷ []), decimal_length 20 a, decimal_length 20 b)

level_length : (l : DcLevel) → length (level_line l) ≤ 37
unfolding letters line level_line
level_length no_level = omega arith
level_length (level_is z) =
    let a = to_bits binary64 z.re in
    let b = to_bits binary64 z.im in
    omega (arith, line_length (letters "dc") (hexadecimal a ∷ hexadecimal b ∷ []), hexadecimal_length a, hexadecimal_length b)

iq_length : (s : Settled) → length (settled_line s) ≤ 14
unfolding letters settled_line
iq_length s = omega (arith, line_length (letters "iq") (letters (settled_name s) ∷ []), settled_length s)

-- ---- the parts

-- the three stages
three_length : (f : Stage → Mark → List ℕ) (n : ℕ) → ((s : Stage) (m : Mark) → length (f s m) ≤ n)
    → length (each (f impulse) marks ++ (each (f dc) marks ++ each (f iq) marks)) ≤ 12 * n
three_length f n h =
    omega (
      arith,
      length-append (each (f impulse) marks) (each (f dc) marks ++ each (f iq) marks),
      length-append (each (f dc) marks) (each (f iq) marks),
      each_length (f impulse) n (h impulse) marks,
      each_length (f dc) n (h dc) marks,
      each_length (f iq) n (h iq) marks,
    )

module _ (c : InputConditioner) (ws : List ℕ) where
  ring_lines : (s : Stage) (m : Mark) → length (shown_lines c ws s m) ≤ 16640
  ring_lines s m =
      let xs = shown_spans c ws (ring_number s m) in
      omega (arith, each_length (span_line s m) 65 (span_length s m) xs, shown_few c ws (ring_number s m))

  rest_length : length (shown_rest c) ≤ 101
  rest_length =
      let u = dropped_line (dropped_in_all c.notes.log) c.notes.repairs.dropped in
      let v = level_line (state_level c) in
      let w = settled_line (settled_of c.settings.iq) in
      omega (
        arith,
        length-append u (v ++ w),
        length-append v w,
        dropped_length (dropped_in_all c.notes.log) c.notes.repairs.dropped,
        level_length (state_level c),
        iq_length (settled_of c.settings.iq),
      )

  -- for any state, any store and any numbers
  pub report_length : (replaced : ℕ) → length (report_text (report_in c ws replaced)) ≤ 262144
  report_length replaced =
      let u = sample_lines replaced c.counts.seen c.counts.released c.counts.held in
      let v = shown_counts c.notes.log in
      let w = all_lines c ws in
      let x = shown_rest c in
      let counts : length v ≤ 12 * 45 = three_length (shown_count c.notes.log) 45 (λ s m. count_length s m (count_of c.notes.log (ring_number s m))) in
      let spans : length w ≤ 12 * 16640 = three_length (shown_lines c ws) 16640 ring_lines in
      rw (← report_pieces c ws replaced)
      (omega (
        arith,
        length-append u (v ++ (w ++ x)),
        length-append v (w ++ x),
        length-append w x,
        samples_length replaced c.counts.seen c.counts.released c.counts.held,
        rest_length,
      ))

  -- what write_report leaves in such a store, up to where it stops
  pub report_whole : (replaced : ℕ) (text : List ℕ) → 262144 ≤ length text
      → take (min (length text) (length (report_text (report_in c ws replaced)))) (put text 0 (report_text (report_in c ws replaced)))
      ≡ report_text (report_in c ws replaced)
  report_whole replaced text h = put_whole text (report_text (report_in c ws replaced)) (omega (arith, report_length replaced))
