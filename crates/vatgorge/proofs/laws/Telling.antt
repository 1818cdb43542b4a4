-- A refusal's number, by what the table returns. Assumes nothing.
use Rattle.std.specs.Prelude.{◌≡◌, refl, Result, Ok, Err}
use Rattle.rules.specs.Answers.{number_in}
use Rattle.refusal.specs.declared.Refusal.{Refusal}
use Rattle.refusal.specs.Words.{number_of, returned_by}

pub number_returned : (r : Result (Unit {0}) Refusal) → number_of r ≡ number_in (returned_by r)
number_returned (Ok v) = refl
number_returned (Err e) = refl
