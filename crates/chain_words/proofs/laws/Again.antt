-- A state's words say that state. Assumes nothing.
use Rattle.impulse.specs.declared.Run.{Run}
use Rattle.std.specs.Prelude.{◌≡◌, refl, Bool, true, false, List, [], ◌∷◌, ◌++◌, map, ℕ, ◌+◌, ◌^◌, ◌<◌, length, take, drop, Float, Option, Some, None}
use Rattle.std.proofs.Common.{sym, ap, ◌∙◌, append_assoc, append-nil, arith, mod-eq_of_lt, length-append, take_at, drop_at}
use Rattle.std.specs.Float.{binary32, binary64}
use Rattle.std.specs.Float.Ieee.{to_bits, of_bits}
use Rattle.std.specs.Float.Ieee.Bits.{of_bits-to_bits, to_bits-lt}
use Rattle.rules.specs.Lists.{All}
use Rattle.rules.proofs.laws.ListLaws.{length-map}
use Rattle.impulse_window.specs.Rising.{Held}
use Rattle.stage_mode.specs.declared.StageMode.{StageMode}
use Rattle.stage_mode.specs.declared.StageMode.TheVariants as mode
use Rattle.impulse_pause.specs.declared.PauseEdition.{PauseEdition}
use Rattle.impulse_pause.specs.declared.PauseEdition.TheVariants as edition
use Rattle.impulse_pause.specs.View.{number_of, numbered}
use Rattle.complex.specs.declared.Complex64.{Complex64}
use Rattle.iq.specs.declared.Iq.{Iq}
use Rattle.iq.specs.declared.Iq.TheVariants as iq
use Rattle.chain_state.specs.declared.InputConditioner.{InputConditioner}
use Rattle.rules.specs.Impulse.{window_size, lookahead_size}
use Rattle.chain_words.specs.Words.{flag_word, power_word, mode_word, iq_parts, run_parts, powers_words, rings_words, samples_words, words_of, option_parts}
use Rattle.chain_words.specs.States.{flag_of, power_of, mode_at, complex_at, iq_at, run_at, marks_in, state_of, option_at}
use Rattle.chain_words.specs.Typed.{Double, Doubles, IqTyped, Typed}
use Rattle.chain_words.proofs.laws.Rings.{rings_words_length, marks_again}

-- ---- one word

flag_again : (b : Bool) → flag_of (flag_word b) ≡ b
flag_again true = refl
flag_again false = refl

pub mode_again : (m : StageMode) → mode_at (mode_word m) ≡ m
mode_again mode.Off = refl
mode_again mode.Observe = refl
mode_again mode.Apply = refl

pub edition_again : (e : PauseEdition) → numbered (number_of e) ≡ e
edition_again edition.First = refl
edition_again edition.Second = refl

pub double_again : (x : Float) → Double x → of_bits binary64 (to_bits binary64 x) ≡ x
double_again x h = of_bits-to_bits binary64 x h

power_again : (x : Float) → Held x → power_of (power_word x) ≡ x
power_again x h =
    let l : to_bits binary32 x < 2 ^ 32 = to_bits-lt binary32 x h in
    ap (of_bits binary32) (mod-eq_of_lt l) ∙ of_bits-to_bits binary32 x h

-- ---- enums

complex_again : (z : Complex64) → Doubles z → complex_at (to_bits binary64 z.re) (to_bits binary64 z.im) ≡ z
complex_again z h = λ i. record { re = double_again z.re h.0 i; im = double_again z.im h.1 i }

iq_again : (q : Iq) → IqTyped q → (let p = iq_parts q in iq_at p.0 p.1 p.2) ≡ q
iq_again iq.Off h = refl
iq_again iq.Observing h = refl
iq_again (iq.Correcting rho) h = ap iq.Correcting (complex_again rho h)
iq_again iq.Withheld h = refl

run_again : (o : Option Run) → (let p = run_parts o in run_at p.0 p.1 p.2 p.3) ≡ o
run_again (Some r) = λ i. Some (record { start = r.start; len = r.len; paused = flag_again r.paused i })
run_again None = refl

option_again : (o : Option ℕ) → (let p = option_parts o in option_at p.0 p.1) ≡ o
option_again (Some x) = refl
option_again None = refl

-- ---- lists

powers_again : (l : List Float) → All Held l → map power_of (powers_words l) ≡ l
powers_again [] h = refl
powers_again (x ∷ l) h = λ i. power_again x h.0 i ∷ powers_again l h.1 i

middle : (p q r : List ℕ) (at n : ℕ) → length p ≡ at → length q ≡ n → take n (drop at (p ++ (q ++ r))) ≡ q
middle p q r at n e f = ap (take n) (drop_at p (q ++ r) at e) ∙ take_at q r n f

module _ (s : InputConditioner) (t : Typed s) where
  abbrev w : List ℕ
  w = powers_words s.suppressor.window

  abbrev o : List ℕ
  o = powers_words s.suppressor.sorted

  abbrev p : List ℕ
  p = s.suppressor.pending

  abbrev r : List ℕ
  r = rings_words s.notes.log.marks

  abbrev k : List ℕ
  k = samples_words s.notes.log.marks

  w_long : length w ≡ window_size
  w_long = length-map power_word s.suppressor.window ∙ t.window_long

  o_long : length o ≡ window_size
  o_long = length-map power_word s.suppressor.sorted ∙ t.sorted_long

  r_long : length r ≡ 36
  r_long = let h = rings_words_length s.notes.log.marks in let l = t.marks_long in omega arith

  -- what stands behind the numbers
  abbrev rest : List ℕ
  rest = (w ++ (o ++ p)) ++ (r ++ k)

  arrays_long : length (w ++ (o ++ p)) ≡ 87
  arrays_long =
      let a = length-append w (o ++ p) in
      let b = length-append o p in
      let l = t.pending_long in
      omega (arith, w_long, o_long)

  window_there : take window_size rest ≡ w
  window_there = ap (take window_size) (append_assoc w (o ++ p) (r ++ k)) ∙ take_at w ((o ++ p) ++ (r ++ k)) window_size w_long

  split : rest ≡ w ++ (o ++ (p ++ (r ++ k)))
  split = append_assoc w (o ++ p) (r ++ k) ∙ ap (λ (l : List ℕ). w ++ l) (append_assoc o p (r ++ k))

  sorted_there : take window_size (drop window_size rest) ≡ o
  sorted_there =
      ap (λ (l : List ℕ). take window_size (drop window_size l)) split
      ∙ middle w o (p ++ (r ++ k)) window_size window_size w_long o_long

  pending_there : take lookahead_size (drop (window_size + window_size) rest) ≡ p
  pending_there =
      let n : length (w ++ o) ≡ window_size + window_size = let a = length-append w o in omega (arith, w_long, o_long) in
      ap (λ (l : List ℕ). take lookahead_size (drop (window_size + window_size) l)) (split ∙ sym (append_assoc w o (p ++ (r ++ k))))
      ∙ middle (w ++ o) p (r ++ k) (window_size + window_size) lookahead_size n t.pending_long

  log_there : drop 87 rest ≡ r ++ k
  log_there = drop_at (w ++ (o ++ p)) (r ++ k) 87 arrays_long

  counts_there : drop 123 rest ≡ k
  counts_there =
      let n : length ((w ++ (o ++ p)) ++ r) ≡ 123 = let a = length-append (w ++ (o ++ p)) r in omega (arith, arrays_long, r_long) in
      ap (drop 123) (sym (append_assoc (w ++ (o ++ p)) r k)) ∙ drop_at ((w ++ (o ++ p)) ++ r) k 123 n

  marks_there : marks_in 12 (drop 87 rest) (drop 123 rest) ≡ s.notes.log.marks
  marks_there =
      (λ i. marks_in (sym t.marks_long i) (log_there i) ((counts_there ∙ sym (append-nil k)) i))
      ∙ marks_again s.notes.log.marks k []

  -- ---- the state

  pub again : state_of (words_of s) ≡ s
  unfolding state_of words_of
  again =
      let set = s.settings in
      let g = s.suppressor.gate in
      let b = s.blocker in
      λ i.
      record {
        settings =
            record {
              fs = double_again set.fs t.fs i;
              n = set.n;
              spans = set.spans;
              repairs = set.repairs;
              impulse = flag_again set.impulse i;
              dc = mode_again set.dc i;
              iq = iq_again set.iq t.iq i;
            };
        counts = s.counts;
        suppressor =
            record {
              gate =
                  record {
                    settings =
                        record { apply = flag_again g.settings.apply i; edition = edition_again g.settings.edition i; blocklen = g.settings.blocklen };
                    received = g.received;
                    mending = record { run = run_again g.mending.run i; left = option_again g.mending.left i };
                    block = record { number = g.block.number; flagged = g.block.flagged; paused = flag_again g.block.paused i };
                  };
              window = (ap (map power_of) window_there ∙ powers_again s.suppressor.window t.window) i;
              sorted = (ap (map power_of) sorted_there ∙ powers_again s.suppressor.sorted t.sorted) i;
              pending = pending_there i;
            };
        blocker = record { a = double_again b.a t.a i; n = b.n; dc = complex_again b.dc t.dc i };
        monitor = record { first = option_again s.monitor.first i; end = s.monitor.end };
        notes =
            record {
              log = record { marks = marks_there i };
              repairs = s.notes.repairs;
              longruns = s.notes.longruns;
            };
      }
