-- Document 01's bench marks that it marks P, as one theorem on the rules: `bench_marks`. Each part is computed but `lone` and `sixteen`, which hold for any
-- such input. Assumes nothing.
--
-- The contracts cite definitions of their own, and these give the rules by theorems, for any input:
-- of the whole chain `one_record`, crates/one_record/proofs/laws/OneRecord.antt: its part `ruled` is `ByRules`, by `released`, `ring_of` and the others of
-- rules/Chain
--   impulse              `stage`, crates/impulse/proofs/laws/Stage.antt: pushed one by one, samples give `handed_on` and `happened`
--   DC                   `any_cutting`, crates/dc/proofs/laws/Cutting.antt: call by call, samples give `blocked_all` and `level_after`
--   IQ                   none is needed: the contract of `settle`, crates/iq/src/lib.rt, cites `settled`
use Rattle.std.specs.Prelude.{◌≡◌, refl, ◌≢◌, Bool, true, false, ◌&&◌, ◌||◌, List, [], ◌∷◌, ◌++◌, ℕ, ◌+◌, ◌-◌, leb, ltb, eqb, length, replicate, Float}
use Rattle.std.proofs.Common.{ap, ◌∙◌, arith, lit≤, lit<}
use Rattle.std.specs.Float.{binary64}
use Rattle.std.specs.Float.Ieee.{of_bits}
use Rattle.rules.specs.Lists.{at, up_to}
use Rattle.rules.specs.Guard.{usable}
use Rattle.rules.specs.Pauses as pause
use Rattle.rules.specs.Pauses.{Edition, always, paused}
use Rattle.rules.specs.Impulse.{Setting, standard, window, reference, flagged, kept, mended, uncertain, events, value, paused_in, happened, handed_on}
use Rattle.rules.specs.Dc.{corner, first_level, level_after, blocked_all}
use Rattle.rules.specs.Iq.{Calibration, with, Withheld, Correcting, coefficient, settled}
use Rattle.rules.specs.Mode.{apply}
use Rattle.rules.proofs.laws.ByFlags.{from, flags_of, quick_flags, quick_flags_lem, happened_by, handed_by}
use Rattle.rules.proofs.laws.Computing.{floats, impulse_rules, dc_rules, iq_rules}
use Rattle.bench_marks.proofs.laws.Lone.{lone_unflagged}

-- ---- samples (n, 0), as words
abbrev pub n0 : ℕ
n0 = 0

-- 0.5
abbrev pub n_half : ℕ
n_half = 0x3f00_0000

-- 1, 2, 3, 4, 5
abbrev pub n1 : ℕ
n1 = 0x3f80_0000

abbrev pub n2 : ℕ
n2 = 0x4000_0000

abbrev pub n3 : ℕ
n3 = 0x4040_0000

abbrev pub n4 : ℕ
n4 = 0x4080_0000

abbrev pub n5 : ℕ
n5 = 0x40a0_0000

-- 12, 13, 100
abbrev pub n12 : ℕ
n12 = 0x4140_0000

abbrev pub n13 : ℕ
n13 = 0x4150_0000

abbrev pub n100 : ℕ
n100 = 0x42c8_0000

abbrev pub times : ℕ → ℕ → List ℕ
times k w = replicate k w

-- samples 20 on among ones
abbrev pub among : List ℕ → List ℕ
among ws = times 20 n1 ++ (ws ++ times 22 n1)

-- an applying stage at 48,000, and with blocks of 1,000
abbrev pub usual : Setting
usual = standard 48000 true

abbrev pub by_thousand : Setting
by_thousand = standard 1000 true

-- document 01's pause rule
abbrev pub first_edition : ℕ → Edition
first_edition = always pause.first

abbrev paused_blocks : Setting → (ℕ → Bool) → ℕ → Bool
paused_blocks s F = paused first_edition s.block F

-- clicks in block 0, and one in block 1, at 1100
abbrev pub one_flagged : List ℕ
one_flagged = times 500 n1 ++ (n100 ∷ (times 599 n1 ++ (n100 ∷ times 21 n1)))

abbrev pub two_flagged : List ℕ
two_flagged = times 300 n1 ++ (n100 ∷ (times 199 n1 ++ (n100 ∷ (times 599 n1 ++ (n100 ∷ times 21 n1)))))

-- fs 48000
abbrev pub rate : Float
rate = of_bits binary64 0x40e7_7000_0000_0000

-- gain 1.1, phase 3, centre 100 MHz
abbrev pub calibrated : Calibration
calibrated =
    record { gain = of_bits binary64 0x3ff1_9999_9999_999a; phase = of_bits binary64 0x4008_0000_0000_0000; centre = of_bits binary64 0x4197_d784_0000_0000 }

pub record BenchMarks : Type 0 where
  -- 'among ones, (12,0) unflagged, (13,0) flagged; all zeros but one: unflagged'
  pub twelve : flagged usual (among (n12 ∷ [])) 20 ≡ false
  pub thirteen : flagged usual (among (n13 ∷ [])) 20 ≡ true
  pub lone : (xs : List ℕ) (k : ℕ) → usable (at xs k) ≡ true → ((i : ℕ) → i ≢ k → at xs i ≡ n0) → (j : ℕ) → flagged usual xs j ≡ false
  -- 'four (100,0) in a row repaired'
  pub four : happened usual first_edition (among (times 4 n100)) ≡ mended 20 4 (times 4 n100) ∷ []
  pub four_handed : handed_on usual first_edition (among (times 4 n100)) ≡ times 25 n1
  -- 'five kept, one long run'
  pub five : happened usual first_edition (among (times 5 n100)) ≡ kept 20 5 true ∷ []
  pub five_handed : handed_on usual first_edition (among (times 5 n100)) ≡ times 20 n1 ++ (times 5 n100 ++ times 1 n1)
  -- 'nine unflagged (full window, reference 400.96)'
  pub nine : happened usual first_edition (among (times 9 n100)) ≡ []
  pub nine_reference : reference usual (window usual (among (times 9 n100)) 24) ≡ of_bits binary64 0x4079_0f5c_28f5_c28f
  -- 'sample 0 = (100,0) becomes (1,0)'
  pub first : handed_on usual first_edition (n100 ∷ times 22 n1) ≡ times 2 n1
  -- '1, three (100,0), 5 mends to 2, 3, 4'
  pub bridge : handed_on usual first_edition (among (times 3 n100 ++ times 1 n5)) ≡ times 20 n1 ++ (n2 ∷ n3 ∷ n4 ∷ n5 ∷ times 1 n1)
  -- 'block 1000: one flagged goes on, two pause'
  pub goes_on : happened by_thousand first_edition one_flagged ≡ mended 500 1 (n100 ∷ []) ∷ mended 1100 1 (n100 ∷ []) ∷ []
  pub pauses : happened by_thousand first_edition two_flagged
      ≡ mended 300 1 (n100 ∷ []) ∷ mended 500 1 (n100 ∷ []) ∷ (up_to (λ i. uncertain (1000 + i)) 102 ++ (kept 1100 1 false ∷ up_to (λ i. uncertain (1102 + i)) 4))
  -- '16 samples judge none'
  pub sixteen : (xs : List ℕ) → length xs ≡ 16 → happened usual first_edition xs ≡ []
  -- 'fs 48000, DC first (2,0) gives level (1,0); (0.5,0) twice gives 0.5, 0'
  pub dc_two : (level_after (corner rate) first_level (n2 ∷ [])).level ≡ record { re = of_bits binary64 0x3ff0_0000_0000_0000; im = of_bits binary64 0 }
  pub dc_half : blocked_all (corner rate) first_level (n_half ∷ n_half ∷ []) ≡ n_half ∷ n0 ∷ []
  -- 'centre off by 1.0 corrects, by 1.5 withholds'
  pub centre_near_above : settled apply (with calibrated) (of_bits binary64 0x4197_d784_0400_0000) ≡ Correcting (coefficient calibrated)
  pub centre_near_below : settled apply (with calibrated) (of_bits binary64 0x4197_d783_fc00_0000) ≡ Correcting (coefficient calibrated)
  pub centre_far_above : settled apply (with calibrated) (of_bits binary64 0x4197_d784_0600_0000) ≡ Withheld
  pub centre_far_below : settled apply (with calibrated) (of_bits binary64 0x4197_d783_fa00_0000) ≡ Withheld

-- ---- the flags, each worked out once
abbrev in_run : ℕ → ℕ → ℕ → Bool
in_run a n j = leb a j && ltb j (a + n)

four_flags : flags_of usual (among (times 4 n100)) ≡ from (in_run 20 4) 30 0
unfolding floats impulse_rules flags_of from
four_flags = refl

five_flags : flags_of usual (among (times 5 n100)) ≡ from (in_run 20 5) 31 0
unfolding floats impulse_rules flags_of from
five_flags = refl

nine_flags : flags_of usual (among (times 9 n100)) ≡ from (in_run 0 0) 35 0
unfolding floats impulse_rules flags_of from
nine_flags = refl

first_flags : flags_of usual (n100 ∷ times 22 n1) ≡ from (in_run 0 1) 7 0
unfolding floats impulse_rules flags_of from
first_flags = refl

bridge_flags : flags_of usual (among (times 3 n100 ++ times 1 n5)) ≡ from (in_run 20 3) 30 0
unfolding floats impulse_rules flags_of from
bridge_flags = refl

abbrev one_at : ℕ → Bool
one_at j = eqb j 500 || eqb j 1100

abbrev two_at : ℕ → Bool
two_at j = eqb j 300 || (eqb j 500 || eqb j 1100)

one_quick : quick_flags by_thousand one_flagged ≡ from one_at 1106 0
unfolding floats impulse_rules quick_flags from
one_quick = refl

two_quick : quick_flags by_thousand two_flagged ≡ from two_at 1106 0
unfolding floats impulse_rules quick_flags from
two_quick = refl

-- ---- what follows from them
four_events : events usual (in_run 20 4) (paused_blocks usual (in_run 20 4)) (among (times 4 n100)) 30 ≡ mended 20 4 (times 4 n100) ∷ []
unfolding floats impulse_rules
four_events = refl

four_values : up_to (value usual (in_run 20 4) (paused_blocks usual (in_run 20 4)) (among (times 4 n100)) 30) 25 ≡ times 25 n1
unfolding floats impulse_rules
four_values = refl

five_events : events usual (in_run 20 5) (paused_blocks usual (in_run 20 5)) (among (times 5 n100)) 31 ≡ kept 20 5 true ∷ []
unfolding floats impulse_rules
five_events = refl

five_values : up_to (value usual (in_run 20 5) (paused_blocks usual (in_run 20 5)) (among (times 5 n100)) 31) 26 ≡ times 20 n1 ++ (times 5 n100 ++ times 1 n1)
unfolding floats impulse_rules
five_values = refl

nine_events : events usual (in_run 0 0) (paused_blocks usual (in_run 0 0)) (among (times 9 n100)) 35 ≡ []
unfolding floats impulse_rules
nine_events = refl

first_values : up_to (value usual (in_run 0 1) (paused_blocks usual (in_run 0 1)) (n100 ∷ times 22 n1) 7) 2 ≡ times 2 n1
unfolding floats impulse_rules
first_values = refl

bridge_values : up_to (value usual (in_run 20 3) (paused_blocks usual (in_run 20 3)) (among (times 3 n100 ++ times 1 n5)) 30) 25 ≡ times 20 n1 ++ (n2 ∷ n3 ∷ n4 ∷ n5 ∷ times 1 n1)
unfolding floats impulse_rules
bridge_values = refl

one_events : events by_thousand one_at (paused_blocks by_thousand one_at) one_flagged 1106 ≡ mended 500 1 (n100 ∷ []) ∷ mended 1100 1 (n100 ∷ []) ∷ []
unfolding floats impulse_rules
one_events = refl

two_events : events by_thousand two_at (paused_blocks by_thousand two_at) two_flagged 1106
    ≡ mended 300 1 (n100 ∷ []) ∷ mended 500 1 (n100 ∷ []) ∷ (up_to (λ i. uncertain (1000 + i)) 102 ++ (kept 1100 1 false ∷ up_to (λ i. uncertain (1102 + i)) 4))
unfolding floats impulse_rules
two_events = refl

-- ---- the others, each by computing
is_twelve : flagged usual (among (n12 ∷ [])) 20 ≡ false
unfolding floats impulse_rules
is_twelve = refl

is_thirteen : flagged usual (among (n13 ∷ [])) 20 ≡ true
unfolding floats impulse_rules
is_thirteen = refl

is_nine_reference : reference usual (window usual (among (times 9 n100)) 24) ≡ of_bits binary64 0x4079_0f5c_28f5_c28f
unfolding floats impulse_rules
is_nine_reference = refl

none_judged : (xs : List ℕ) → length xs ≡ 16 → happened usual first_edition xs ≡ []
unfolding happened events
none_judged xs h = let e : length xs - 16 ≡ 0 = omega arith in ap (events usual (flagged usual xs) (paused_in usual first_edition xs) xs) e

is_dc_two : (level_after (corner rate) first_level (n2 ∷ [])).level ≡ record { re = of_bits binary64 0x3ff0_0000_0000_0000; im = of_bits binary64 0 }
unfolding floats dc_rules
is_dc_two = refl

is_dc_half : blocked_all (corner rate) first_level (n_half ∷ n_half ∷ []) ≡ n_half ∷ n0 ∷ []
unfolding floats dc_rules
is_dc_half = refl

is_centre_near_above : settled apply (with calibrated) (of_bits binary64 0x4197_d784_0400_0000) ≡ Correcting (coefficient calibrated)
unfolding floats iq_rules
is_centre_near_above = refl

is_centre_near_below : settled apply (with calibrated) (of_bits binary64 0x4197_d783_fc00_0000) ≡ Correcting (coefficient calibrated)
unfolding floats iq_rules
is_centre_near_below = refl

is_centre_far_above : settled apply (with calibrated) (of_bits binary64 0x4197_d784_0600_0000) ≡ Withheld
unfolding floats iq_rules
is_centre_far_above = refl

is_centre_far_below : settled apply (with calibrated) (of_bits binary64 0x4197_d783_fa00_0000) ≡ Withheld
unfolding floats iq_rules
is_centre_far_below = refl

pub bench_marks : BenchMarks
bench_marks =
    record {
      twelve = is_twelve;
      thirteen = is_thirteen;
      lone = lone_unflagged usual (lit< tt);
      four = happened_by usual first_edition (among (times 4 n100)) (in_run 20 4) four_flags ∙ four_events;
      four_handed = handed_by usual first_edition (among (times 4 n100)) (in_run 20 4) four_flags ∙ four_values;
      five = happened_by usual first_edition (among (times 5 n100)) (in_run 20 5) five_flags ∙ five_events;
      five_handed = handed_by usual first_edition (among (times 5 n100)) (in_run 20 5) five_flags ∙ five_values;
      nine = happened_by usual first_edition (among (times 9 n100)) (in_run 0 0) nine_flags ∙ nine_events;
      nine_reference = is_nine_reference;
      first = handed_by usual first_edition (n100 ∷ times 22 n1) (in_run 0 1) first_flags ∙ first_values;
      bridge = handed_by usual first_edition (among (times 3 n100 ++ times 1 n5)) (in_run 20 3) bridge_flags ∙ bridge_values;
      goes_on = happened_by by_thousand first_edition one_flagged one_at (quick_flags_lem by_thousand one_flagged (lit≤ tt) ∙ one_quick) ∙ one_events;
      pauses = happened_by by_thousand first_edition two_flagged two_at (quick_flags_lem by_thousand two_flagged (lit≤ tt) ∙ two_quick) ∙ two_events;
      sixteen = none_judged;
      dc_two = is_dc_two;
      dc_half = is_dc_half;
      centre_near_above = is_centre_near_above;
      centre_near_below = is_centre_near_below;
      centre_far_above = is_centre_far_above;
      centre_far_below = is_centre_far_below;
    }
