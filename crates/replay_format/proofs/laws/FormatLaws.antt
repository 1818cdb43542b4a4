-- A word by its bytes, the words of a list of bytes, and which number refuses a recording. Assumes nothing.
use Rattle.std.specs.Prelude.{◌≡◌, refl, Bool, not, List, ◌++◌, ℕ, suc, ◌+◌, ◌*◌, ◌/◌, ◌%◌, ◌≤◌, ◌<◌, eqb, length, take, drop, set}
use Rattle.std.proofs.Math.Path.{ap}
use Rattle.std.proofs.Common.{sym, ◌∙◌, append-nil, add-one, arith, eq-eqb, ne_eqb, length-set, drop-cons}
use Rattle.std.proofs.Math.Bool.{true, false, cond}
use Rattle.std.proofs.Math.Seq.{drop-length, paste, paste-zero, paste-suc}
use Rattle.rules.specs.Lists.{at}
use Rattle.rules.specs.Refusals.{first_of}
use Rattle.rules.proofs.laws.ListLaws.{length_up_to, get_d_up_to}
use Rattle.replay_format.specs.Format.{little_endian, word_at, header_size, header_fits, sample_size, words_in, input_refusal, tail_refusal}

-- one byte, and those behind it, from j on
little_next : (bytes : List ℕ) (k j n : ℕ) → suc k ≡ j → k < length bytes
    → little_endian (take (suc n) (drop k bytes)) ≡ at bytes k + 256 * little_endian (take n (drop j bytes))
unfolding little_endian
little_next bytes k j n e h = rw (drop-cons bytes k 0, e)

pub word_by_bytes : (bytes : List ℕ) (k : ℕ)
    → k + 8 ≤ length bytes
    → at bytes k
    + at bytes (k + 1) * 0x100
    + at bytes (k + 2) * 0x1_0000
    + at bytes (k + 3) * 0x100_0000
    + at bytes (k + 4) * 0x1_0000_0000
    + at bytes (k + 5) * 0x100_0000_0000
    + at bytes (k + 6) * 0x1_0000_0000_0000
    + at bytes (k + 7) * 0x100_0000_0000_0000
    ≡ word_at bytes k
unfolding little_endian word_at
word_by_bytes bytes k h =
    let b0 = little_next bytes k (k + 1) 7 (omega arith) (omega arith) in
    let b1 = little_next bytes (k + 1) (k + 2) 6 (omega arith) (omega arith) in
    let b2 = little_next bytes (k + 2) (k + 3) 5 (omega arith) (omega arith) in
    let b3 = little_next bytes (k + 3) (k + 4) 4 (omega arith) (omega arith) in
    let b4 = little_next bytes (k + 4) (k + 5) 3 (omega arith) (omega arith) in
    let b5 = little_next bytes (k + 5) (k + 6) 2 (omega arith) (omega arith) in
    let b6 = little_next bytes (k + 6) (k + 7) 1 (omega arith) (omega arith) in
    let b7 = little_next bytes (k + 7) (k + 8) 0 (omega arith) (omega arith) in
    omega arith

-- ---- the words of a list of bytes

pub words_many : (bytes : List ℕ) → length (words_in bytes) ≡ length bytes / sample_size
unfolding words_in
words_many bytes = length_up_to (λ k. word_at bytes (sample_size * k)) (length bytes / sample_size)

pub words_at : (bytes : List ℕ) (k : ℕ) → k < length bytes / sample_size → at (words_in bytes) k ≡ word_at bytes (sample_size * k)
unfolding words_in
words_at bytes k h = get_d_up_to 0 (λ k. word_at bytes (sample_size * k)) (length bytes / sample_size) k h

-- ---- words read one by one into a store: those before k are read, the others as they were

pub record Reading (bytes words₀ words : List ℕ) (k : ℕ) : Type 0 where
  pub within : k ≤ length words₀
  pub same : length words ≡ length words₀
  pub so_far : words ≡ paste words₀ 0 (words_in bytes) k

module _ (bytes words₀ : List ℕ) (enough : sample_size * length words₀ ≤ length bytes) where
  pub reading_start : Reading bytes words₀ words₀ 0
  reading_start = record { within = omega arith; same = refl; so_far = paste-zero words₀ 0 (words_in bytes) }

  pub reading_next : (words : List ℕ) (k : ℕ) → k < length words₀ → Reading bytes words₀ words k
      → Reading bytes words₀ (set words k (word_at bytes (sample_size * k))) (k + 1)
  reading_next words k h r =
      let many : k < length (words_in bytes) = omega (arith, words_many bytes) in
      record {
        within = omega arith;
        same = length-set words k (word_at bytes (sample_size * k)) ∙ r.same;
        so_far =
            ap (λ (ws : List ℕ). set ws k (word_at bytes (sample_size * k))) r.so_far
            ∙ ap (λ (w : ℕ). set (paste words₀ 0 (words_in bytes) k) k w) (sym (words_at bytes k (omega (arith, words_many bytes))))
            ∙ ap (λ (n : ℕ). set (paste words₀ 0 (words_in bytes) k) n (at (words_in bytes) k)) (let z : k ≡ 0 + k = omega arith in z)
            ∙ paste-suc words₀ 0 (words_in bytes) k 0 (omega arith) many
            ∙ ap (λ (n : ℕ). paste words₀ 0 (words_in bytes) n) (sym (add-one k));
      }

  pub reading_end : (words : List ℕ) (k : ℕ) → length words ≤ k → Reading bytes words₀ words k → words ≡ take (length words₀) (words_in bytes)
  reading_end words k h r =
      let all : k ≡ length words₀ = omega (arith, r.within, r.same) in
      let end : 0 + length words₀ ≡ length words₀ = omega arith in
      r.so_far
      ∙ ap (λ (n : ℕ). paste words₀ 0 (words_in bytes) n) all
      ∙ ap (λ (n : ℕ). take (length words₀) (words_in bytes) ++ drop n words₀) end
      ∙ ap (λ (ws : List ℕ). take (length words₀) (words_in bytes) ++ ws) (drop-length words₀)
      ∙ append-nil (take (length words₀) (words_in bytes))

-- ---- which number refuses a recording

module _ (bytes : List ℕ) where
  pub tail_refused : (length bytes % sample_size ≡ 0 → ⊥) → tail_refusal bytes ≡ 17
  unfolding tail_refusal first_of
  tail_refused n = ap (λ (b : Bool). cond (not b) 17 0) (ne_eqb (length bytes % sample_size) 0 n)

  pub tail_passes : length bytes % sample_size ≡ 0 → tail_refusal bytes ≡ 0
  unfolding tail_refusal first_of
  tail_passes e = ap (λ (b : Bool). cond (not b) 17 0) (eq-eqb (length bytes % sample_size) 0 e)

-- by what is left over of the bytes alone
pub tail_by : (xs ys : List ℕ) → length xs % sample_size ≡ length ys % sample_size → tail_refusal xs ≡ tail_refusal ys
unfolding tail_refusal first_of
tail_by xs ys e = ap (λ (n : ℕ). cond (not (eqb n 0)) 17 0) e

module _ (input : List ℕ) where
  -- by the answer of the header's test
  refusal_by : (fits : Bool) → header_fits input ≡ fits → input_refusal input ≡ cond fits (tail_refusal (drop header_size input)) 14
  unfolding input_refusal tail_refusal first_of
  refusal_by true e = ap (λ (b : Bool). cond (not b) 14 (tail_refusal (drop header_size input))) e
  refusal_by false e = ap (λ (b : Bool). cond (not b) 14 (tail_refusal (drop header_size input))) e

  pub bad_header_lem : header_fits input ≡ false → input_refusal input ≡ 14
  bad_header_lem e = refusal_by false e

  -- behind a header that fits only a tail is refused: 'Number 15 is met no more' (R-7)
  pub good_header : header_fits input ≡ true → input_refusal input ≡ tail_refusal (drop header_size input)
  good_header e = refusal_by true e
