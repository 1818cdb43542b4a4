-- The lines of a report as the pieces that they are put by. Assumes nothing.
use Rattle.std.specs.Prelude.{◌≡◌, ◌++◌, ℕ}
use Rattle.std.proofs.Common.{append_assoc}
use Rattle.replay_text.specs.Text.{letters, decimal, line}
use Rattle.rules.specs.Log.{Stage, Mark, span_of}
use Rattle.replay_report.specs.Lines.{ring_name, sample_lines, span_line, dropped_line}

pub samples_pieces : (replaced seen final held : ℕ)
    → (letters "replaced " ++ (decimal replaced ++ letters "\n"))
    ++ ((letters "seen " ++ (decimal seen ++ letters " "))
    ++ ((letters "final " ++ (decimal final ++ letters " ")) ++ (letters "held " ++ (decimal held ++ letters "\n"))))
    ≡ sample_lines replaced seen final held
unfolding letters line sample_lines
samples_pieces replaced seen final held = simp append_assoc

pub span_pieces : (s : Stage) (m : Mark) (start len : ℕ)
    → letters "span " ++ (ring_name s m ++ ((letters " " ++ (decimal start ++ letters " ")) ++ (letters "" ++ (decimal len ++ letters "\n"))))
    ≡ span_line s m (span_of start len)
unfolding letters line span_line
span_pieces s m start len = simp append_assoc

pub dropped_pieces : (spans repairs : ℕ)
    → (letters "dropped " ++ (decimal spans ++ letters " ")) ++ (letters "" ++ (decimal repairs ++ letters "\n"))
    ≡ dropped_line spans repairs
unfolding letters line dropped_line
dropped_pieces spans repairs = simp append_assoc
