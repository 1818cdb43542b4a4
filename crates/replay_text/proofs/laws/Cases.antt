-- Numbers and lines as text, computed. Assumes nothing.
use Rattle.std.specs.Prelude.{◌≡◌, refl, [], ◌∷◌, ◌*◌, ◌^◌}
use Rattle.replay_text.specs.Text.{letters, decimal_by, decimal, hexadecimal, line, put}

pub record NumberTexts : Type 0 where
  pub nought : decimal 0 ≡ letters "0"
  pub nine : decimal 9 ≡ letters "9"
  pub ten : decimal 10 ≡ letters "10"
  pub zeros : decimal 1000 ≡ letters "1000"
  pub greatest : decimal 18446744073709551615 ≡ letters "18446744073709551615"
  pub nought_word : hexadecimal 0 ≡ letters "0000000000000000"
  pub half : hexadecimal (1022 * 2 ^ 52) ≡ letters "3fe0000000000000"
  pub greatest_word : hexadecimal 18446744073709551615 ≡ letters "ffffffffffffffff"

pub number_texts : NumberTexts
unfolding letters decimal_by hexadecimal
number_texts =
    record { nought = refl; nine = refl; ten = refl; zeros = refl; greatest = refl; nought_word = refl; half = refl; greatest_word = refl }

pub a_line : line (letters "dropped" ∷ decimal 12 ∷ decimal 0 ∷ []) ≡ letters "dropped 12 0\n"
unfolding letters decimal_by line
a_line = refl

-- a store with room for two of three bytes
pub cut : put (letters "....") 2 (letters "abc") ≡ letters "..ab"
unfolding letters put
cut = refl
