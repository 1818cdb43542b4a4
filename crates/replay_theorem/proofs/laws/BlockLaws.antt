-- A recording read block by block: whole samples of whole blocks, a header that what follows it does not change, and what the last block
-- shows of all bytes. Assumes nothing.
use Rattle.std.specs.Prelude.{◌≡◌, refl, cond, List, [], ◌∷◌, ◌++◌, ℕ, zero, suc, ◌+◌, ◌*◌, ◌/◌, ◌%◌, length, take, drop}
use Rattle.std.proofs.Common.{ap, sym, ◌∙◌, append_assoc, append-nil, arith, length-append}
use Rattle.std.proofs.lemmas.List.{map-append}
use Rattle.std.proofs.Math.Numerals.{unary_clauses}
use Rattle.std.proofs.Math.Seq.{drop-append-add, drop-append_seam}
use Rattle.rules.specs.Lists.{up_to}
use Rattle.rules.proofs.laws.ListLaws.{up_to_same, length-map}
use Rattle.rules.specs.Guard.{usable, guarded, unusable}
use Rattle.replay_format.specs.Format.{little_endian, word_at, sample_size, words_in, header_size}
use Rattle.replay_format.proofs.laws.FrontLaws.{word_front}
use Rattle.replay_theorem.specs.Replay.{Block, joined, last_bytes, Read}

-- ---- words

up_to_append : {A : Type 0} (f : ℕ → A) (m n : ℕ) → up_to f (m + n) ≡ up_to f m ++ up_to (λ i. f (m + i)) n
unfolding up_to
up_to_append f m zero = simp unary_clauses (sym (append-nil (up_to f m)))
up_to_append f m (suc n) =
    simp unary_clauses (ap (λ l. l ++ (f (m + n) ∷ [])) (up_to_append f m n) ∙ append_assoc (up_to f m) (up_to (λ i. f (m + i)) n) (f (m + n) ∷ []))

-- a word behind the seam of two lists
word_back : (xs ys : List ℕ) (k : ℕ) → word_at (xs ++ ys) (length xs + k) ≡ word_at ys k
unfolding word_at
word_back xs ys k = ap (λ (l : List ℕ). little_endian (take 8 l)) (drop-append-add xs ys k)

-- a first part of whole words
pub words_append : (xs ys : List ℕ) (m : ℕ) → length xs ≡ sample_size * m → words_in (xs ++ ys) ≡ words_in xs ++ words_in ys
unfolding words_in
words_append xs ys m e =
    let a : length (xs ++ ys) / sample_size ≡ m + length ys / sample_size = omega (arith, length-append xs ys) in
    let b : length xs / sample_size ≡ m = omega arith in
    ap (up_to (λ k. word_at (xs ++ ys) (sample_size * k))) a
    ∙ up_to_append (λ k. word_at (xs ++ ys) (sample_size * k)) m (length ys / sample_size)
    ∙ (λ i.
    (up_to_same (λ k. word_at (xs ++ ys) (sample_size * k)) (λ k. word_at xs (sample_size * k)) m (λ k l. word_front xs ys (sample_size * k) (omega arith))
    ∙ ap (up_to (λ k. word_at xs (sample_size * k))) (sym b)) i
    ++ up_to_same (λ k. word_at (xs ++ ys) (sample_size * (m + k))) (λ k. word_at ys (sample_size * k)) (length ys / sample_size)
    (λ k l. ap (word_at (xs ++ ys)) (let q : sample_size * (m + k) ≡ length xs + sample_size * k = omega arith in q) ∙ word_back xs ys (sample_size * k)) i)

pub no_words : words_in [] ≡ []
unfolding words_in up_to
no_words = refl

-- ---- the header

module _ (head rest : List ℕ) (long : length head ≡ header_size) where
  pub behind_header : drop header_size (head ++ rest) ≡ rest
  behind_header = ap (λ (n : ℕ). drop n (head ++ rest)) (sym long) ∙ drop-append_seam head rest

-- ---- what the last block shows of all bytes

pub same_tail : (bs : List Block) → Read bs → length (last_bytes bs) % sample_size ≡ length (joined bs) % sample_size
same_tail [] t = refl
same_tail (b ∷ []) t = ap (λ (l : List ℕ). length l % sample_size) (sym (append-nil b.bytes))
same_tail (b ∷ c ∷ bs) t = let r = same_tail (c ∷ bs) t.1.1 in omega (arith, r, length-append b.bytes (joined (c ∷ bs)), t.1.0)

-- ---- guarding

pub guarded_append : (xs ys : List ℕ) → guarded (xs ++ ys) ≡ guarded xs ++ guarded ys
unfolding guarded
guarded_append xs ys = map-append (λ w. cond (usable w) w 0) xs ys

pub guarded_count : (xs : List ℕ) → length (guarded xs) ≡ length xs
unfolding guarded
guarded_count xs = length-map (λ w. cond (usable w) w 0) xs

pub unusable_append : (xs ys : List ℕ) → unusable (xs ++ ys) ≡ unusable xs + unusable ys
unfolding unusable
unusable_append [] ys = omega arith
unusable_append (x ∷ xs) ys = let r = unusable_append xs ys in omega (arith, r)
