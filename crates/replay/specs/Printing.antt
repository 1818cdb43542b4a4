-- What the program prints of what was played, and what making leaves before any block. Definitions only.
use Rattle.std.specs.Prelude.{ℕ, List, Option, Some, None, Result, Ok, Err}
use Rattle.rules.specs.Answers.{number_in}
use Rattle.refusal.specs.declared.Refusal.{Refusal}
use Rattle.refusal.specs.Words.{words_of}
use Rattle.chain_state.specs.declared.InputConditioner.{InputConditioner}
use Rattle.replay_text.specs.Notices.{refused_text, off_text}
use Rattle.replay_report.specs.Report.{report_text}
use Rattle.replay_report.specs.Shown.{report_in}
use Rattle.replay.specs.declared.Playing.{Playing}

-- what making leaves, before any block
abbrev pub begun : Result (Option InputConditioner) Refusal → Result (Option Playing) Refusal
begun (Ok None) = Ok None
begun (Ok (Some state)) = Ok (Some (record { state = state; replaced = 0 }))
begun (Err e) = Err e

-- `off`, the report, or a refusal
abbrev pub text_of : Result (Option Playing) Refusal → List ℕ → List ℕ
text_of (Ok None) spans = off_text
text_of (Ok (Some p)) spans = report_text (report_in p.state spans p.replaced)
text_of (Err e) spans = refused_text (number_in (words_of e))
