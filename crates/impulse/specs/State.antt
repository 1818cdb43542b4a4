-- What stands when the first n samples of an input have come, given by the rules for the whole input; and what the n-th push says. Definitions only.
use Rattle.std.specs.Prelude.{Bool, false, cond, List, ◌++◌, map, ℕ, suc, ◌-◌, ltb, eqb, length, take, drop, replicate, Float, Option, Some, None}
use Rattle.std.specs.Float.Ieee.{lt}
use Rattle.rules.specs.Constants.{zero_f}
use Rattle.rules.specs.Lists.{at}
use Rattle.rules.specs.Sort.{sort}
use Rattle.rules.specs.Pauses.{always}
use Rattle.rules.specs.Impulse.{Setting, width, lookahead, power_of, judged, flagged, before, start, closes, block_of, touches, mendable, value}
use Rattle.rules.specs.Impulse.{newest_block, flags_in, paused_in}
use Rattle.impulse_pause.specs.declared.PauseEdition.{PauseEdition}
use Rattle.impulse_pause.specs.View.{edition_of}
use Rattle.impulse.specs.declared.Run.{Run}
use Rattle.impulse.specs.declared.Mending.{Mending}
use Rattle.impulse.specs.declared.Block.{Block}
use Rattle.impulse.specs.declared.Gate.{Gate}
use Rattle.impulse.specs.declared.ImpulseSuppressor.{ImpulseSuppressor}
use Rattle.impulse.specs.Machine.{gate_settings, Ending, going, kept_run, mended_run, Outcome}
use Rattle.impulse.specs.Circle.{circle}

-- ---- by the flags F and the paused blocks P, when j are judged

module _ (s : Setting) (F P : ℕ → Bool) where
  -- the run right before j
  abbrev pub run_before : ℕ → Run
  run_before j = record { start = start F j; len = before F j; paused = touches s P (start F j) (before F j) }

  unfoldable pub open_at : ℕ → Option Run
  open_at j = cond (ltb 0 (before F j)) (Some (run_before j)) None

-- the last sample that is not flagged stands right before the run
unfoldable pub left_at : (ℕ → Bool) → List ℕ → ℕ → Option ℕ
left_at F xs j = cond (eqb (start F j) 0) None (Some (at xs (start F j - 1)))

abbrev pub mending_at : Setting → (ℕ → Bool) → (ℕ → Bool) → List ℕ → ℕ → Mending
mending_at s F P xs j = record { run = open_at s F P j; left = left_at F xs j }

-- block b, when j are judged
abbrev pub block_at : Setting → (ℕ → Bool) → (ℕ → Bool) → ℕ → ℕ → Block
block_at s F P j b = record { number = b; flagged = flags_in s F b j; paused = P b }

-- n have come, and block b is the newest judged sample's
abbrev pub gate_in : Setting → PauseEdition → (ℕ → Bool) → (ℕ → Bool) → List ℕ → ℕ → ℕ → ℕ → Gate
gate_in s e F P xs n j b = record { settings = gate_settings s e; received = n; mending = mending_at s F P xs j; block = block_at s F P j b }

abbrev pub gate_at : Setting → PauseEdition → (ℕ → Bool) → (ℕ → Bool) → List ℕ → ℕ → ℕ → Gate
gate_at s e F P xs n j = gate_in s e F P xs n j (newest_block s j)

-- what becomes of a run when j is judged
unfoldable pub ending_at : Setting → (ℕ → Bool) → (ℕ → Bool) → List ℕ → ℕ → Ending
ending_at s F P xs j =
    cond (closes F j)
    (cond (mendable s (touches s P (start F j) (before F j)) (before F j))
    (mended_run (start F j) (before F j) (take (before F j) (drop (start F j) xs)))
    (kept_run (start F j) (before F j) (ltb s.run (before F j))))
    going

-- ---- the state, where every block begins with the edition e

abbrev pub paused_by : Setting → PauseEdition → List ℕ → ℕ → Bool
paused_by s e xs = paused_in s (always (edition_of e)) xs

-- the powers of the newest samples, oldest first
abbrev pub newest_powers : Setting → List ℕ → ℕ → List Float
newest_powers s xs n = map power_of (drop (n - width s) (take n xs))

abbrev pub padded : ℕ → List Float → List Float
padded w l = l ++ replicate (w - length l) zero_f

unfoldable pub state_at : Setting → PauseEdition → List ℕ → ℕ → ImpulseSuppressor
state_at s e xs n =
    record {
      gate = gate_at s e (flagged s xs) (paused_by s e xs) xs n (judged s n);
      window = circle zero_f (width s) n (λ k. power_of (at xs k));
      sorted = padded (width s) (sort lt (newest_powers s xs n));
      pending = circle 0 (lookahead s) n (value s (flagged s xs) (paused_by s e xs) xs (judged s n));
    }

-- ---- what the push of sample n (from 0) says

unfoldable pub answer_at : Setting → PauseEdition → List ℕ → ℕ → Option ℕ
answer_at s e xs n =
    cond s.apply
    (cond (ltb n (lookahead s)) None (Some (value s (flagged s xs) (paused_by s e xs) xs (judged s (length xs)) (n - lookahead s))))
    (Some (at xs n))

abbrev pub outcome_at : Setting → PauseEdition → List ℕ → ℕ → Outcome
outcome_at s e xs n =
    record {
      state = state_at s e xs (suc n);
      answer = answer_at s e xs n;
      uncertain = cond (ltb n s.half) false (paused_by s e xs (block_of s (n - s.half)));
      ended = cond (ltb n s.half) going (ending_at s (flagged s xs) (paused_by s e xs) xs (n - s.half));
    }
