-- vg_log: the words of a log. Definitions only.
use Rattle.std.specs.Prelude.{Option, Some, None, List, [], ◌∷◌, ◌++◌, ℕ, ◌+◌}
use Rattle.std.specs.Float.{binary64}
use Rattle.std.specs.Float.Ieee.{to_bits}
use Rattle.complex.specs.declared.Complex64.{Complex64}
use Rattle.chain_log.specs.declared.ConditioningLog.{ConditioningLog}
use Rattle.chain_log.specs.Reading.{log_of}
use Rattle.chain_words.specs.Words as words
use Rattle.chain_words.specs.Words.{iq_words, ring_words}
use Rattle.chain_words.specs.States.{state_of}

-- a tag, and the level's parts, 0 where there is none
abbrev pub level_parts : Option Complex64 → ℕ × ℕ × ℕ
level_parts None = (0, 0, 0)
level_parts (Some z) = (1, to_bits binary64 z.re, to_bits binary64 z.im)

abbrev pub level_words : Option Complex64 → List ℕ
level_words l = let p = level_parts l in p.0 ∷ p.1 ∷ p.2 ∷ []

-- the samples seen, released and held, the dropped spans, the repair ring, the runs that were too long, the DC level and how often its update was clamped, what
-- IQ settled
abbrev pub number_words : ConditioningLog → List ℕ
number_words l =
    (l.counts.seen ∷ l.counts.released ∷ l.counts.held ∷ l.dropped ∷ ring_words l.notes.repairs)
    ++ (l.notes.longruns ∷ level_words l.dclevel ++ (l.counts.clamped ∷ iq_words l.iq))

-- behind them the rings and the counts
abbrev pub log_words : ConditioningLog → List ℕ
log_words l = number_words l ++ words.log_words l.notes.log

-- how many numbers, and how many words in all: three of each of twelve rings, and twelve counts
abbrev pub number_count : ℕ
number_count = 15

abbrev pub word_count : ℕ
word_count = number_count + 48

-- every lent word, of the log of the state that the words say
abbrev pub after : List ℕ → List ℕ
after ws = log_words (log_of (state_of ws))
