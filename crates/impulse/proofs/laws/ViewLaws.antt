-- The code's structs say what the machine says: a repair's words are the log's, and its originals are the run's. What the machine tells and hands on can be
-- read off them. Assumes nothing.
use Rattle.std.specs.Prelude.{◌≡◌, refl, Bool, true, false, cond, not, ◌&&◌, List, [], ◌∷◌, ℕ, ◌-◌, ◌%◌, ◌≤◌, ltb, leb, length, get_or, Float, Option, Some, None}
use Rattle.std.proofs.Common.{ap, sym, ◌∙◌, arith, leb-true}
use Rattle.std.proofs.lemmas.Bool.{false≢true}
use Rattle.std.specs.Float.{nan}
use Rattle.rules.specs.Impulse.{Setting, standard, width, lookahead, mendable, mended, longest_run}
use Rattle.rules.specs.Log.{repair_words}
use Rattle.impulse_pause.specs.declared.PauseEdition.{PauseEdition}
use Rattle.impulse.specs.declared.Run.{Run}
use Rattle.impulse.specs.declared.Gate.{Gate}
use Rattle.impulse.specs.declared.ImpulseSuppressor.{ImpulseSuppressor}
use Rattle.impulse.specs.Machine.{setting_of, arrived, entered, read_run, going, kept_run, mended_run, Ending, closing, ending, Judgement, decided, judge}
use Rattle.impulse.specs.Machine.{window_with, sorted_with, pending_with, verdict, push, flagged_by}
use Rattle.stage_log.specs.View.{words_of_repair}
use Rattle.impulse.specs.View.{repair_of, originals_of, ended_of, ended_events, ending_events, told, pushed_of, pushed_events}
use Rattle.impulse.proofs.laws.RunLaws.{read_length}
use Rattle.impulse.specs.State.{state_at}
use Rattle.impulse.specs.Running.{news}

-- ---- a repair

pub repair_words_lem : (a n : ℕ) (os : List ℕ) → words_of_repair (repair_of a n os) ≡ repair_words a n os
unfolding repair_of repair_words
repair_words_lem a n [] = refl
repair_words_lem a n (o ∷ []) = refl
repair_words_lem a n (o ∷ p ∷ []) = refl
repair_words_lem a n (o ∷ p ∷ q ∷ []) = refl
repair_words_lem a n (o ∷ p ∷ q ∷ r ∷ os) = refl

originals_all : (a : ℕ) (os : List ℕ) → length os ≤ longest_run → originals_of (repair_of a (length os) os) ≡ os
unfolding repair_of
originals_all a [] h = refl
originals_all a (o ∷ []) h = refl
originals_all a (o ∷ p ∷ []) h = refl
originals_all a (o ∷ p ∷ q ∷ []) h = refl
originals_all a (o ∷ p ∷ q ∷ r ∷ []) h = refl
originals_all a (o ∷ p ∷ q ∷ r ∷ t ∷ os) h = absurd (omega arith)

pub repair_originals : (a n : ℕ) (os : List ℕ) → length os ≡ n → n ≤ longest_run → originals_of (repair_of a n os) ≡ os
repair_originals a n os e h = ap (λ (k : ℕ). originals_of (repair_of a k os)) (sym e) ∙ originals_all a os (omega arith)

-- ---- what a push tells, of any state

-- the struct says the same
abbrev Same : Ending → Type 0
Same e = ended_events (ended_of e) ≡ ending_events e

mended_same : (a n : ℕ) (os : List ℕ) → length os ≡ n → n ≤ longest_run → Same (mended_run a n os)
unfolding repair_of
mended_same a n os e h = ap (λ (l : List ℕ). mended a n l ∷ []) (repair_originals a n os e h)

closing_same : (s : Setting) → s.run ≤ longest_run → (r : Run) (l : List ℕ) → Same (closing s r l)
unfolding closing
closing_same s h r l = go (mendable s r.paused r.len) (short s.apply (leb r.len s.run) r.paused refl)
  where
    short : (a b c : Bool) → leb r.len s.run ≡ b → a && (b && not c) ≡ true → r.len ≤ s.run
    short a true c e q = leb-true r.len s.run e
    short true false c e q = absurd (false≢true q)
    short false false c e q = absurd (false≢true q)

    go : (b : Bool) → (b ≡ true → r.len ≤ s.run)
        → Same (cond b (mended_run r.start r.len (read_run (lookahead s) l r.start r.len)) (kept_run r.start r.len (ltb s.run r.len)))
    go true w =
        mended_same r.start r.len (read_run (lookahead s) l r.start r.len) (read_length (lookahead s) l r.start r.len)
        (let k = w refl in omega arith)
    go false w = refl

ending_same : (s : Setting) → s.run ≤ longest_run → (o : Option Run) (l : List ℕ) → Same (ending s o l)
ending_same s h None l = refl
ending_same s h (Some r) l = closing_same s h r l

judge_same : (s : Setting) → s.run ≤ longest_run → (g : Gate) (j : ℕ) (p : Float) (sorted : List Float) (l : List ℕ) → Same (judge s g j p sorted l).ended
unfolding judge
judge_same s h g j p sorted l = go (entered g j) (flagged_by (width s) s.trim (entered g j).received sorted p)
  where
    go : (g : Gate) (b : Bool) → Same (decided s g j l b).ended
    go g true = refl
    go g false = ending_same s h g.mending.run l

verdict_same : (s : Setting) → s.run ≤ longest_run → (g : Gate) (i : ℕ) (window sorted : List Float) (l : List ℕ) → Same (verdict s g i window sorted l).ended
unfolding verdict
verdict_same s h g i window sorted l =
    go (ltb i s.half) (judge s g (i - s.half) (get_or window ((i - s.half) % width s) nan) sorted l)
    (judge_same s h g (i - s.half) (get_or window ((i - s.half) % width s) nan) sorted l)
  where
    go : (b : Bool) (d : Judgement) → Same d.ended → Same (cond b (record { gate = g; uncertain = false; ended = going; pending = l }) d).ended
    go true d q = refl
    go false d q = q

pub told_same : (s : Setting) → s.run ≤ longest_run → (m : ImpulseSuppressor) (x : ℕ)
    → pushed_events s.half m.gate.received (pushed_of (push s m x)) ≡ news s m x
unfolding push
told_same s h m x =
    let g = arrived m.gate in
    let i = m.gate.received in
    let v = verdict s g i (window_with s m x) (sorted_with s m x) (pending_with s m x) in
    ap (told (i - s.half) v.uncertain) (verdict_same s h g i (window_with s m x) (sorted_with s m x) (pending_with s m x))

-- ---- the code's setting, and its room

pub setting_is : (block : ℕ) (apply : Bool) (ed : PauseEdition) (xs : List ℕ) (n : ℕ) → setting_of (state_at (standard block apply) ed xs n).gate ≡ standard block apply
unfolding state_at
setting_is block apply ed xs n = refl
