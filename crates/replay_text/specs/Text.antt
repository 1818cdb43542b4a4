-- Text as the codes of its letters, numbers as text, and text put into a lent store. Definitions only.
use Rattle.std.specs.Prelude.{◌≡◌, cond, List, [], ◌∷◌, ◌++◌, ℕ, zero, suc, ◌+◌, ◌/◌, ◌%◌, min, max, ltb, length}
use Prim.Native.Char.{code}
use Prim.Native.String.{String, [] as end, ◌∷◌ as ◌then◌}
use Rattle.std.proofs.lemmas.List.Edits.{sets}
use Rattle.io.specs.Digits.{hex_digit_ascii, last_digits}
use Rattle.replay_text.specs.declared.Text as declared

-- the codes of a text's letters
unfoldable pub letters : String → List ℕ
letters end = []
letters (c then s) = code c ∷ letters s

-- a number in decimal, by at most so many steps: the digits of its tenth, and the last one
unfoldable pub decimal_by : ℕ → ℕ → List ℕ
decimal_by zero n = []
decimal_by (suc k) n = cond (ltb n 10) (hex_digit_ascii n ∷ []) (decimal_by k (n / 10) ++ (hex_digit_ascii (n % 10) ∷ []))

-- a word has at most 20 digits
abbrev pub decimal : ℕ → List ℕ
decimal n = decimal_by 20 n

-- 'as 16-digit lower-case hexadecimal'
unfoldable pub hexadecimal : ℕ → List ℕ
hexadecimal n = last_digits 16 16 n

-- words with a space between them, and a line end
unfoldable pub line : List (List ℕ) → List ℕ
line [] = letters "\n"
line (w ∷ []) = w ++ letters "\n"
line (w ∷ v ∷ ws) = w ++ (letters " " ++ line (v ∷ ws))

-- the texts of a list's members, one behind the other
unfoldable pub each : {A : Type 0} → (A → List ℕ) → List A → List ℕ
each f [] = []
each f (a ∷ l) = f a ++ each f l

-- ---- in a lent store

-- bytes put into a store from a place on; what lies behind its end is left out
unfoldable pub put : List ℕ → ℕ → List ℕ → List ℕ
put text place bytes = sets text place bytes

-- the place behind so many bytes, or the store's end if they go beyond it; a place behind the end stays
abbrev pub stop_at : ℕ → ℕ → ℕ → ℕ
stop_at size place n = max place (min size (place + n))

-- a store with those bytes in it, and where they stop
pub record Written (text : List ℕ) (place : ℕ) (bytes : List ℕ) (after : List ℕ) (r : ℕ) : Type 0 where
  pub store : after ≡ put text place bytes
  pub stop : r ≡ stop_at (length text) place (length bytes)

-- a text with those bytes behind it, in the same store
pub record Added (text : declared.Text) (bytes : List ℕ) (after : declared.Text) : Type 0 where
  pub same_store : after.bytes.ghost_name ≡ text.bytes.ghost_name
  pub written : Written text.bytes.now text.length bytes after.bytes.now after.length
