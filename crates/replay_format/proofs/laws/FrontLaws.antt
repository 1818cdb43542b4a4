-- A header's first bytes say what all its bytes say. Assumes nothing.
use Rattle.std.specs.Prelude.{◌≡◌, Bool, true, false, cond, ◌&&◌, List, [], ◌∷◌, ◌++◌, ℕ, ◌+◌, ◌*◌, ◌≤◌, ◌<◌, leb, eqb, length, take, drop}
use Rattle.std.proofs.Common.{ap, sym, ◌∙◌, arith, le-leb, length-append, length-drop}
use Rattle.std.proofs.lemmas.List.{take-append-le, drop-append-le, length-take-le, take-append-drop}
use Rattle.std.proofs.lemmas.Bool.{lt-leb}
use Rattle.std.proofs.Math.ListN.{get_or-append}
use Rattle.std.specs.Float.{binary64}
use Rattle.std.specs.Float.Ieee.{of_bits}
use Rattle.rules.specs.Lists.{at}
use Rattle.replay_format.specs.Format.{little_endian, word_at, header_size, mark_fits, modes_fit, header_fits}
use Rattle.replay_format.specs.Format.{version_in, version_fits, edition_by, mode_by, calibration_by, config_in, real_at}
use Rattle.replay_format.specs.Header.{refused, config, header_said}

-- a word before the seam of two lists
pub word_front : (xs ys : List ℕ) (k : ℕ) → k + 8 ≤ length xs → word_at (xs ++ ys) k ≡ word_at xs k
unfolding word_at
word_front xs ys k h =
    ap (λ (l : List ℕ). little_endian (take 8 l)) (drop-append-le k xs ys (omega arith))
    ∙ ap little_endian (take-append-le 8 (drop k xs) ys (omega (arith, length-drop k xs)))

pub too_short : (l : List ℕ) → length l < header_size → header_fits l ≡ false
too_short l h = ap (λ (b : Bool). b && mark_fits l && version_fits (version_in l) && modes_fit l) (lt-leb 49 (length l) h)

module _ (head rest : List ℕ) (long : length head ≡ header_size) where
  byte : (k : ℕ) → k < 49 → at (head ++ rest) k ≡ at head k
  byte k h = get_or-append head rest 0 k (omega arith)

  real : (k : ℕ) → k < 5 → real_at (head ++ rest) k ≡ real_at head k
  real k h = ap (of_bits binary64) (word_front head rest (9 + 8 * k) (omega arith))

  same_version : version_in (head ++ rest) ≡ version_in head
  same_version = λ i. little_endian (byte 3 (omega arith) i ∷ byte 4 (omega arith) i ∷ [])

  pub same_fits : header_fits (head ++ rest) ≡ header_fits head
  same_fits =
      λ i.
      size i
      && (eqb (byte 0 (omega arith) i) 67 && eqb (byte 1 (omega arith) i) 78 && eqb (byte 2 (omega arith) i) 68)
      && version_fits (same_version i)
      && (leb (byte 5 (omega arith) i) 2 && leb (byte 6 (omega arith) i) 2 && leb (byte 7 (omega arith) i) 2 && leb (byte 8 (omega arith) i) 1)
    where
      size : leb header_size (length (head ++ rest)) ≡ leb header_size (length head)
      size = le-leb 49 (length (head ++ rest)) (omega (arith, length-append head rest)) ∙ sym (le-leb 49 (length head) (omega arith))

  pub same_config : config_in (head ++ rest) ≡ config_in head
  unfolding config_in
  same_config =
      λ i.
      record {
        impulse_mode = mode_by (byte 5 (omega arith) i);
        dc_mode = mode_by (byte 6 (omega arith) i);
        iq_mode = mode_by (byte 7 (omega arith) i);
        fs = real 0 (omega arith) i;
        centre = real 1 (omega arith) i;
        n = 8;
        calibration =
            calibration_by (byte 8 (omega arith) i) (record { gain = real 2 (omega arith) i; phase = real 3 (omega arith) i; centre = real 4 (omega arith) i });
        spans = 256;
        repairs = 1024;
        edition = edition_by (same_version i);
      }

-- the header's bytes alone, of a longer list
pub size_front : (bytes head : List ℕ) → header_size ≤ length bytes → head ≡ take header_size bytes → leb header_size (length head) ≡ true
size_front bytes head long e =
    let many : length head ≡ header_size = ap length e ∙ length-take-le header_size bytes long in
    le-leb 49 (length head) (omega arith)

pub said_front : (bytes head : List ℕ) → header_size ≤ length bytes → head ≡ take header_size bytes → header_said head ≡ header_said bytes
unfolding header_said
said_front bytes head long e =
    let rest = drop header_size bytes in
    let many : length head ≡ header_size = ap length e ∙ length-take-le header_size bytes long in
    let whole : head ++ rest ≡ bytes = ap (λ (l : List ℕ). l ++ rest) e ∙ take-append-drop header_size bytes in
    (λ i. cond (sym (same_fits head rest many) i) (config (sym (same_config head rest many) i)) (refused 14))
    ∙ ap header_said whole
