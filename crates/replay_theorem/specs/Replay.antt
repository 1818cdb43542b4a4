-- A replay as the program runs it: the header, the start, the blocks one after another up to one that is refused, the last block's tail, and
-- the report. Definitions only.
use Rattle.std.specs.Prelude.{◌≡◌, List, [], ◌∷◌, ◌++◌, ℕ, ◌+◌, ◌≤◌, length, Float}
use Rattle.chain_make.specs.Making as making
use Rattle.chain_make.specs.Making.{nothing, made, made_words}
use Rattle.chain.specs.Stages.{Machine, machine_of}
use Rattle.rules.specs.Answers as answers
use Rattle.rules.specs.Answers.{Said, accepted, refused, number_of}
use Rattle.replay_format.specs.Format.{tail_refusal}
use Rattle.replay_format.specs.Header.{header_number, header_said}
use Rattle.replay_feed.specs.Feeding.{fed}
use Rattle.replay_start.specs.Starting.{start_said, start_state}
use Rattle.replay_report.specs.Report.{report_text, text_unless}
use Rattle.replay_text.specs.Notices.{refused_text, off_text}
use Rattle.replay_report.specs.Shown.{report_in}

-- a block of bytes, and the store of samples that it is read into, whatever stands there
pub record Block : Type 0 where
  pub bytes : List ℕ
  pub store : List ℕ

abbrev pub joined : List Block → List ℕ
joined [] = []
joined (b ∷ bs) = b.bytes ++ joined bs

abbrev pub last_bytes : List Block → List ℕ
last_bytes [] = []
last_bytes (b ∷ []) = b.bytes
last_bytes (b ∷ c ∷ bs) = last_bytes (c ∷ bs)

-- ---- what is printed

-- the text, unless the call was refused
abbrev pub after_call : Said ℕ → List ℕ → List ℕ
after_call (accepted k) text = text
after_call answers.nothing text = text
after_call (refused r) text = refused_text (number_of {A = ℕ} (refused r))

-- from a chain, with so many samples replaced so far
unfoldable pub played : Machine → ℕ → List Block → List ℕ
played m replaced [] = report_text (report_in m.state m.spans replaced)
played m replaced (b ∷ bs) = let o = fed m b.bytes b.store in after_call o.said (played o.machine (replaced + o.replaced) bs)

abbrev pub answered_by : making.Said → List ℕ → List ℕ
answered_by nothing text = off_text
answered_by (making.refused k) text = refused_text k
answered_by made text = text

-- by the start and the blocks, with a span store, a repair store and monitor words, whatever stands there
abbrev pub started_text : List ℕ → List Block → List ℕ → List ℕ → List Float → List ℕ
started_text head blocks spans repairs words =
    let said = start_said head (length spans) (length repairs) (length words) in
    answered_by said (played (machine_of (start_state head) (made_words 0 said spans) (made_words 0 said repairs)) 0 blocks)

-- a broken tail, seen at the end, comes before all that the start and the blocks have answered
abbrev pub ended_text : List ℕ → List Block → List ℕ → List ℕ → List Float → List ℕ
ended_text head blocks spans repairs words = text_unless (tail_refusal (last_bytes blocks)) (started_text head blocks spans repairs words)

-- a bad header is answered at once
unfoldable pub replayed : List ℕ → List Block → List ℕ → List ℕ → List Float → List ℕ
replayed head blocks spans repairs words = text_unless (header_number (header_said head)) (ended_text head blocks spans repairs words)

-- ---- how a recording is read

-- 65,536 bytes a block but for the last, and a store of 8,192 samples behind the 21 that may be held
pub record Fits (b : Block) : Type 0 where
  pub most : length b.bytes ≤ 65536
  pub room : length b.store ≡ 8213

abbrev pub Read : List Block → Type 0
Read [] = Unit {0}
Read (b ∷ []) = Fits b
Read (b ∷ c ∷ bs) = Fits b × ((length b.bytes ≡ 65536) × Read (c ∷ bs))
