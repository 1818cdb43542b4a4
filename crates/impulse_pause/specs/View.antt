-- An edition of the code as the rules', and its number. Definitions only.
use Rattle.std.specs.Prelude.{ℕ, cond, ◌==◌}
use Rattle.rules.specs.Pauses.{Edition, first, second}
use Rattle.impulse_pause.specs.declared.PauseEdition.{PauseEdition}
use Rattle.impulse_pause.specs.declared.PauseEdition.TheVariants.{First, Second}

abbrev pub edition_of : PauseEdition → Edition
edition_of First = first
edition_of Second = second

abbrev pub number_of : PauseEdition → ℕ
number_of First = 1
number_of Second = 2

-- the edition of a number: 2 says the second, every other the first
abbrev pub numbered : ℕ → PauseEdition
numbered n = cond (n == 2) Second First
