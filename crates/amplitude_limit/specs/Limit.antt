-- A part within 1e18, parts under a limit by their bits, and what the table of document 01 returns. Definitions only.
use Rattle.std.specs.Prelude.{Bool, ◌&&◌, cond, List, [], ◌∷◌, ℕ, ◌/◌, ◌%◌, ◌^◌, ltb, leb, eqb, length, Float, Result, Ok, Err}
use Rattle.std.specs.Float.Ieee.{le}
use Rattle.rules.specs.Constants.{part_limit}
use Rattle.rules.specs.Guard.{magnitude}
use Rattle.rules.specs.Refusals.{first_beyond_from}
use Rattle.refusal.specs.declared.Refusal.{Refusal}
use Rattle.refusal.specs.declared.Refusal.TheVariants as why

-- one of the two tests of `within_limit`
unfoldable pub limited : Float → Bool
limited x = le (magnitude x) part_limit

-- the patterns of both parts of a sample, their signs aside, are up to a limit
unfoldable pub under : ℕ → ℕ → Bool
under limit w = leb (w % 2 ^ 31) limit && leb (w / 2 ^ 32 % 2 ^ 31) limit

-- the highest bit of both halves of a word is clear
unfoldable pub halves_clear : ℕ → Bool
halves_clear n = ltb (n % 2 ^ 32) (2 ^ 31) && ltb n (2 ^ 63)

-- the table's column 'returned' for the refusal n: 'number, first place in the slice' for 7, the number alone for another. Nothing for 0, which is no refusal
unfoldable pub returned : ℕ → ℕ → List ℕ
returned n place = cond (eqb n 0) [] (cond (eqb n 7) (n ∷ place ∷ []) (n ∷ []))

-- samples are refused at the first that is beyond the limit
unfoldable pub checked : List ℕ → Result (Unit {0}) Refusal
checked ws = let place = first_beyond_from 0 ws in cond (ltb place (length ws)) (Err (why.OutOfRange place)) (Ok tt)
