-- The impulse stage as a machine that takes one sample after the other, for any setting: what the code's contracts say of each function. Definitions only.
use Rattle.std.specs.Prelude.{Bool, true, false, cond, ◌||◌, List, [], ◌∷◌, ◌++◌, ℕ, zero, suc, ◌+◌, ◌-◌, ◌/◌, ◌%◌, min, ltb, eqb, get_or, set, take, replicate, Float, Option, Some, None, unwrap_or}
use Rattle.std.specs.Float.{nan}
use Rattle.complex.specs.Complex.{word_of, sample_of}
use Rattle.rules.specs.Constants.{zero_f}
use Rattle.rules.specs.Pauses.{pauses}
use Rattle.rules.specs.Impulse.{Setting, standard, width, lookahead, power_of, stands_out, mendable, between}
use Rattle.impulse_pause.specs.declared.PauseEdition.{PauseEdition}
use Rattle.impulse_pause.specs.View.{edition_of}
use Rattle.impulse_window.specs.Ordered.{ordered, mean}
use Rattle.impulse.specs.declared.Run.{Run}
use Rattle.impulse.specs.declared.GateSettings.{GateSettings}
use Rattle.impulse.specs.declared.Mending.{Mending}
use Rattle.impulse.specs.declared.Block.{Block}
use Rattle.impulse.specs.declared.Gate.{Gate}
use Rattle.impulse.specs.declared.ImpulseSuppressor.{ImpulseSuppressor}

-- the setting that the code has: the standard one, with the gate's block length and mode
abbrev pub setting_of : Gate → Setting
setting_of g = standard g.settings.blocklen g.settings.apply

-- what a gate has of a setting, and its edition
abbrev pub gate_settings : Setting → PauseEdition → GateSettings
gate_settings s e = record { apply = s.apply; edition = e; blocklen = s.block }

-- ---- the beginning

abbrev pub no_run : Mending
no_run = record { run = None; left = None }

abbrev pub first_block : Block
first_block = record { number = 0; flagged = 0; paused = false }

abbrev pub fresh : Setting → PauseEdition → ImpulseSuppressor
fresh s e =
    record {
      gate = record { settings = gate_settings s e; received = 0; mending = no_run; block = first_block };
      window = replicate (width s) zero_f;
      sorted = replicate (width s) zero_f;
      pending = replicate (lookahead s) 0;
    }

-- ---- the gate

-- one more sample has come
abbrev pub arrived : Gate → Gate
arrived g = record { settings = g.settings; received = g.received + 1; mending = g.mending; block = g.block }

abbrev pub with_mending : Gate → Mending → Gate
with_mending g m = record { settings = g.settings; received = g.received; mending = m; block = g.block }

abbrev pub with_block : Gate → Block → Gate
with_block g b = record { settings = g.settings; received = g.received; mending = g.mending; block = b }

-- the block that follows the gate's, with no sample judged yet
abbrev pub next_block : Gate → ℕ → Block
next_block g number =
    let s = g.settings in
    record { number = number; flagged = 0; paused = pauses (edition_of s.edition) s.blocklen g.block.paused g.block.flagged }

-- sample j comes to be judged: the gate in its block
unfoldable pub entered : Gate → ℕ → Gate
entered g j =
    let number = j / g.settings.blocklen in
    cond (eqb number g.block.number) g (with_block g (next_block g number))

-- a flagged sample j opens a run or lengthens it
abbrev pub grown : Option Run → ℕ → Bool → Run
grown None j paused = record { start = j; len = 1; paused = paused }
grown (Some r) j paused = record { start = r.start; len = r.len + 1; paused = r.paused || paused }

-- with so many of its samples flagged
abbrev pub with_flagged : Block → ℕ → Block
with_flagged b n = record { number = b.number; flagged = n; paused = b.paused }

-- after a flagged sample
abbrev pub with_run : Gate → Run → Gate
with_run g r = with_block (with_mending g (record { run = Some r; left = g.mending.left })) (with_flagged g.block (g.block.flagged + 1))

-- after a sample x that is not flagged
abbrev pub with_neighbour : Gate → ℕ → Gate
with_neighbour g x = with_mending g (record { run = None; left = Some x })

-- ---- a run in the circular array of pending samples

-- the first t of the run that starts at a, as they stand
unfoldable pub read_run : ℕ → List ℕ → ℕ → ℕ → List ℕ
read_run size l a zero = []
read_run size l a (suc t) = read_run size l a t ++ (get_or l ((a + t) % size) 0 ∷ [])

-- sample t of a run of n, mended
unfoldable pub mended_word : ℕ → ℕ → ℕ → ℕ → ℕ
mended_word left right t n = word_of (between (sample_of left) (sample_of right) t n)

-- the first t of the run of n that starts at a, mended
unfoldable pub write_run : ℕ → List ℕ → ℕ → ℕ → ℕ → ℕ → ℕ → List ℕ
write_run size l left right a n zero = l
write_run size l left right a n (suc t) = set (write_run size l left right a n t) ((a + t) % size) (mended_word left right t n)

-- ---- judging

-- what becomes of a run when a sample that is not flagged is judged
pub data Ending : Type 0 where
  going : Ending
  kept_run : ℕ → ℕ → Bool → Ending
  mended_run : ℕ → ℕ → List ℕ → Ending

unfoldable pub closing : Setting → Run → List ℕ → Ending
closing s r l =
    cond (mendable s r.paused r.len) (mended_run r.start r.len (read_run (lookahead s) l r.start r.len))
    (kept_run r.start r.len (ltb s.run r.len))

unfoldable pub closing_pending : Setting → Run → Option ℕ → ℕ → List ℕ → List ℕ
closing_pending s r left right l =
    cond (mendable s r.paused r.len) (write_run (lookahead s) l (unwrap_or left right) right r.start r.len r.len) l

abbrev pub ending : Setting → Option Run → List ℕ → Ending
ending s None l = going
ending s (Some r) l = closing s r l

abbrev pub ending_pending : Setting → Option Run → Option ℕ → ℕ → List ℕ → List ℕ
ending_pending s None left right l = l
ending_pending s (Some r) left right l = closing_pending s r left right l

pub record Judgement : Type 0 where
  pub gate : Gate
  pub uncertain : Bool
  pub ended : Ending
  pub pending : List ℕ

-- by sample j's flag, the gate being in its block
abbrev pub decided : Setting → Gate → ℕ → List ℕ → Bool → Judgement
decided s g j l true =
    let m = g.mending in
    let p = g.block.paused in
    record { gate = with_run g (grown m.run j p); uncertain = p; ended = going; pending = l }
decided s g j l false =
    let m = g.mending in
    let x = get_or l (j % lookahead s) 0 in
    record { gate = with_neighbour g x; uncertain = g.block.paused; ended = ending s m.run l; pending = ending_pending s m.run m.left x l }

-- a sample of power p is flagged, when n samples have come: the strongest `trim` of the window are left out of the mean
unfoldable pub flagged_by : ℕ → ℕ → ℕ → List Float → Float → Bool
flagged_by w trim n sorted p = stands_out (mean (take (min n w - trim) sorted)) p

-- sample j has power p
unfoldable pub judge : Setting → Gate → ℕ → Float → List Float → List ℕ → Judgement
judge s g j p sorted l = decided s (entered g j) j l (flagged_by (width s) s.trim (entered g j).received sorted p)

-- 'Sample j is judged when j+16 arrives': sample i has come, and is in the arrays. The first ones judge none.
unfoldable pub verdict : Setting → Gate → ℕ → List Float → List Float → List ℕ → Judgement
verdict s g i window sorted l =
    let j = i - s.half in
    let d = judge s g j (get_or window (j % width s) nan) sorted l in
    cond (ltb i s.half) (record { gate = g; uncertain = false; ended = going; pending = l }) d

-- ---- pushing

-- 'If applying, sample k is released when k+21 arrives, otherwise with its own call': x is the i-th sample, and `out` stands in its place
unfoldable pub released : ℕ → Bool → ℕ → ℕ → ℕ → Option ℕ
released size apply i out x = cond apply (cond (ltb i size) None (Some out)) (Some x)

-- the arrays with sample x in them
abbrev pub window_with : Setting → ImpulseSuppressor → ℕ → List Float
window_with s m x = set m.window (m.gate.received % width s) (power_of x)

abbrev pub sorted_with : Setting → ImpulseSuppressor → ℕ → List Float
sorted_with s m x = ordered (width s) m.gate.received (get_or m.window (m.gate.received % width s) nan) (power_of x) m.sorted

abbrev pub pending_with : Setting → ImpulseSuppressor → ℕ → List ℕ
pending_with s m x = set m.pending (m.gate.received % lookahead s) x

pub record Outcome : Type 0 where
  pub state : ImpulseSuppressor
  pub answer : Option ℕ
  pub uncertain : Bool
  pub ended : Ending

unfoldable pub push : Setting → ImpulseSuppressor → ℕ → Outcome
push s m x =
    let v = verdict s (arrived m.gate) m.gate.received (window_with s m x) (sorted_with s m x) (pending_with s m x) in
    record {
      state = record { gate = v.gate; window = window_with s m x; sorted = sorted_with s m x; pending = v.pending };
      answer = released (lookahead s) s.apply m.gate.received (get_or m.pending (m.gate.received % lookahead s) 0) x;
      uncertain = v.uncertain;
      ended = v.ended;
    }
