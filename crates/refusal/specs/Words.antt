-- What is refused, in the documents' words. Definitions only.
use Rattle.std.specs.Prelude.{List, [], ◌∷◌, ℕ, Result, Ok, Err}
use Rattle.rules.specs.Answers.{Said, refused, number_in}
use Rattle.refusal.specs.declared.Refusal.{Refusal}
use Rattle.refusal.specs.declared.Refusal.TheVariants as why

-- what the table returns: the number, and with 7 the place
abbrev pub words_of : Refusal → List ℕ
words_of why.BadRate = 1 ∷ []
words_of why.BadSize = 2 ∷ []
words_of why.BadCapacity = 3 ∷ []
words_of why.BadLength = 4 ∷ []
words_of why.BadState = 5 ∷ []
words_of why.Short = 6 ∷ []
words_of (why.OutOfRange k) = 7 ∷ k ∷ []
words_of why.TooMany = 8 ∷ []
words_of why.Early = 9 ∷ []
words_of why.BadCoefficient = 10 ∷ []
words_of why.BadGain = 11 ∷ []
words_of why.BadPhase = 12 ∷ []
words_of why.BadCentre = 13 ∷ []
words_of why.BadHeader = 14 ∷ []
words_of why.BrokenTail = 17 ∷ []

-- an answer in the documents' words: what a value says, or what the table returns
abbrev pub said_by : {A B : Type 0} → (A → Said B) → Result A Refusal → Said B
said_by says (Ok a) = says a
said_by says (Err e) = refused (words_of e)

-- the number of an answer, and 0 where nothing is refused
abbrev pub number_of : {A : Type 0} → Result A Refusal → ℕ
number_of (Ok a) = 0
number_of (Err e) = number_in (words_of e)

-- what the table returns, and nothing where nothing is refused
abbrev pub returned_by : {A : Type 0} → Result A Refusal → List ℕ
returned_by (Ok a) = []
returned_by (Err e) = words_of e
