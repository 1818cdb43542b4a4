-- Document 01, 'The replay program reads standard input', with document 02's R-4, R-6 and R-7: a recording's header and its samples. Bytes are
-- numbers. Definitions only.
use Rattle.std.specs.Prelude.{Bool, cond, not, ◌&&◌, ◌||◌, List, [], ◌∷◌, ℕ, zero, suc, ◌+◌, ◌*◌, ◌/◌, ◌%◌, leb, eqb, length, take, drop, Float}
use Rattle.std.specs.Float.{binary64}
use Rattle.std.specs.Float.Ieee.{of_bits}
use Rattle.rules.specs.Lists.{at, up_to}
use Rattle.rules.specs.Iq.{Calibration, Calibrated, none, with}
use Rattle.rules.specs.Mode.{Mode, off, observe, apply}
use Rattle.rules.specs.Pauses.{Edition, first, second}
use Rattle.rules.specs.Chain.{Config}
use Rattle.rules.specs.Refusals.{Cause, first_of}

-- 'little-endian'
unfoldable pub little_endian : List ℕ → ℕ
little_endian [] = 0
little_endian (b ∷ bs) = b + 256 * little_endian bs

-- the word of eight bytes from a place on
unfoldable pub word_at : List ℕ → ℕ → ℕ
word_at bytes k = little_endian (take 8 (drop k bytes))

-- 'samples from byte 49'
abbrev pub header_size : ℕ
header_size = 49

-- ---- the header: 'mark CND, u16 version 1, mode bytes impulse, DC, IQ (0 off, 1 observe, 2 apply), calibration present (0 or 1), then f64 fs, centre, gain,
-- phase, calibrated centre'

-- 'mark CND'
abbrev pub mark_fits : List ℕ → Bool
mark_fits input = eqb (at input 0) 67 && eqb (at input 1) 78 && eqb (at input 2) 68

-- 'u16 version'
abbrev pub version_in : List ℕ → ℕ
version_in input = little_endian (at input 3 ∷ at input 4 ∷ [])

-- 1, and R-6's 2
abbrev pub version_fits : ℕ → Bool
version_fits version = eqb version 1 || eqb version 2

-- R-6: 'The replay header's version 2 selects it; version 1 keeps the old rule.'
abbrev pub edition_by : ℕ → Edition
edition_by version = cond (eqb version 2) second first

-- 'mode bytes impulse, DC, IQ (0 off, 1 observe, 2 apply), calibration present (0 or 1)'
abbrev pub modes_fit : List ℕ → Bool
modes_fit input = leb (at input 5) 2 && leb (at input 6) 2 && leb (at input 7) 2 && leb (at input 8) 1

-- not: 'replay header under 49 bytes, or mark, version, mode or present byte not as above'
abbrev pub header_fits : List ℕ → Bool
header_fits input = leb header_size (length input) && mark_fits input && version_fits (version_in input) && modes_fit input

abbrev pub bad_header : List ℕ → Cause
bad_header input = record { holds = not (header_fits input); number = 14 }

abbrev pub mode_by : ℕ → Mode
mode_by zero = off
mode_by (suc zero) = observe
mode_by (suc (suc k)) = apply

-- f64 number k
abbrev pub real_at : List ℕ → ℕ → Float
real_at input k = of_bits binary64 (word_at input (9 + 8 * k))

abbrev pub calibration_by : ℕ → Calibration → Calibrated
calibration_by zero c = none
calibration_by (suc k) c = with c

abbrev pub calibration_in : List ℕ → Calibrated
calibration_in input = calibration_by (at input 8) (record { gain = real_at input 2; phase = real_at input 3; centre = real_at input 4 })

-- 'uses n = 8, 1,024 repairs, 256 spans'
unfoldable pub config_in : List ℕ → Config
config_in input =
    record {
      impulse_mode = mode_by (at input 5);
      dc_mode = mode_by (at input 6);
      iq_mode = mode_by (at input 7);
      fs = real_at input 0;
      centre = real_at input 1;
      n = 8;
      calibration = calibration_in input;
      spans = 256;
      repairs = 1024;
      edition = edition_by (version_in input);
    }

-- ---- 'then pairs of f32': each pair is a sample's word

-- the bytes of a sample
abbrev pub sample_size : ℕ
sample_size = 8

-- the words of the whole samples
unfoldable pub words_in : List ℕ → List ℕ
words_in bytes = up_to (λ k. word_at bytes (sample_size * k)) (length bytes / sample_size)

abbrev pub samples_in : List ℕ → List ℕ
samples_in input = words_in (drop header_size input)

-- ---- what is refused before a chain is made

-- R-4: 'A tail of 1 to 7 bytes, ignored so far, is therefore refused with 17', by the size of a sample, of the bytes behind the header
abbrev pub broken_tail : ℕ → List ℕ → Cause
broken_tail size bytes = record { holds = not (eqb (length bytes % size) 0); number = 17 }

-- of the whole recording: 'Replay: 14, 15, then making', with 17 'after 14 and before 15' (R-4) and 'Number 15 is met no more' (R-7)
unfoldable pub input_refusal : List ℕ → ℕ
input_refusal input = first_of (bad_header input ∷ broken_tail sample_size (drop header_size input) ∷ [])

-- of its last block
unfoldable pub tail_refusal : List ℕ → ℕ
tail_refusal bytes = first_of (broken_tail sample_size bytes ∷ [])
