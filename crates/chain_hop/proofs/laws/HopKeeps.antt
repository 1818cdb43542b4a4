-- A HOP THAT IS REFUSED, or answered by nothing, leaves the state and every lent word. Assumes nothing.
use Rattle.std.specs.Prelude.{◌≡◌, Bool, true, false, cond, Float, Result, Ok, Err}
use Rattle.std.proofs.Math.Path.{refl}
use Rattle.std.proofs.Common.{sym, subst}
use Rattle.std.proofs.lemmas.Bool.{false≢true}
use mathlib.Core.List.{List, [], foldl}
use Prim.Native.Nat.{ℕ, zero, suc}
use Rattle.rules.specs.Log.{Span}
use Rattle.rules.specs.Answers.{is_accepted}
use Rattle.rules.specs.Refusals.{bad_start, any_beyond, first_beyond_from}
use Rattle.stage_log.specs.View.{Logged}
use Rattle.iq.specs.View.{settled_of}
use Rattle.refusal.specs.declared.Refusal.{Refusal}
use Rattle.refusal.specs.declared.Refusal.TheVariants as why
use Rattle.iq_monitor.specs.declared.Heard.{Heard}
use Rattle.iq_monitor.specs.declared.Heard.TheVariants as heard
use Rattle.iq_monitor.specs.Observe.{said, Seen, first_or, end_of, full, closing, adding, accepted_of, leaving, is_none, observed}
use Rattle.iq_monitor.proofs.laws.ObserveLaws.{observed_by, accepted_by}
use Rattle.chain_state.specs.declared.InputConditioner.{InputConditioner}
use Rattle.chain_state.specs.Changed.{after_hop}
use Rattle.chain_hop.specs.Hops.{hop_refusal, is_off_iq, is_observing, watched, suspected_by, uncertain, Hopped, followed, taken, by_number}
use Rattle.chain_hop.specs.Hops.{hop_of}
use Rattle.chain_hop.proofs.laws.HopLaws.{watched_by}

-- all as it was
pub record Keeps (c : InputConditioner) (store : List ℕ) (ws : List Float) (h : Hopped) : Type 0 where
  pub state : h.state ≡ c
  pub spans : h.spans ≡ store
  pub words : h.words ≡ ws

module _ (c : InputConditioner) (xs : List ℕ) (start : ℕ) (spans : List ℕ) (ws : List Float) where
  unmarked : (cap : ℕ) (t : Bool) (x : Logged) (l : List Span) → l ≡ [] → foldl (uncertain cap) x (cond t l []) ≡ x
  unmarked cap true x l e = subst (λ (m : List Span). foldl (uncertain cap) x m ≡ x) (sym e) refl
  unmarked cap false x l e = refl

  keeps_leaving : (a : Result Heard Refusal) → suspected_by a ≡ [] → Keeps c spans ws (followed c spans (leaving c.monitor ws a))
  keeps_leaving a e =
      let n = unmarked c.settings.spans (is_observing (settled_of c.settings.iq)) (record { log = c.notes.log; spans = spans }) (suspected_by a) e in
      record {
        state = λ i. after_hop c c.monitor (n i).log;
        spans = λ i. (n i).spans;
        words = refl;
      }

  -- not an accepted hop's answer, and so all is kept
  abbrev Kept : Seen → Type 0
  Kept s = is_accepted (said s.answer) ≡ false → Keeps c spans ws (followed c spans s)

  kept_accepted : (t : Bool) → Kept (cond t (closing c.monitor xs start ws) (adding c.monitor xs start ws))
  kept_accepted true e = absurd (false≢true (sym e))
  kept_accepted false e = absurd (false≢true (sym e))

  kept_by : (a b d : Bool)
      → Kept (cond a (leaving c.monitor ws (Ok heard.Nothing))
      (cond b (leaving c.monitor ws (Err why.Early))
      (cond d (leaving c.monitor ws (Err (why.OutOfRange (first_beyond_from 0 xs)))) (accepted_of c.monitor c.settings.fs xs start ws))))
  kept_by true b d = λ e. keeps_leaving (Ok heard.Nothing) refl
  kept_by false true d = λ e. keeps_leaving (Err why.Early) refl
  kept_by false false true = λ e. keeps_leaving (Err (why.OutOfRange (first_beyond_from 0 xs))) refl
  kept_by false false false =
      let t = full c.settings.fs (first_or c.monitor.first start) (end_of xs start) in
      subst Kept (sym (accepted_by t c.monitor c.settings.fs xs start ws refl)) (kept_accepted t)

  kept_off : (t : Bool) → Kept (cond t (leaving c.monitor ws (Ok heard.Nothing)) (observed c.monitor c.settings.fs c.settings.n xs start ws))
  kept_off true = λ e. keeps_leaving (Ok heard.Nothing) refl
  kept_off false =
      let a = is_none c.settings.n xs in
      let b = (bad_start c.monitor.end start).holds in
      let d = (any_beyond xs).holds in
      subst Kept (sym (observed_by c.monitor c.settings.fs c.settings.n xs start ws a b d refl refl refl)) (kept_by a b d)

  kept_watched : Kept (watched c xs start ws)
  kept_watched = let t = is_off_iq (settled_of c.settings.iq) in subst Kept (sym (watched_by c xs start ws t refl)) (kept_off t)

  kept_number : (k : ℕ) → let h = by_number k c spans ws (taken c xs start spans ws) in is_accepted (said h.answer) ≡ false → Keeps c spans ws h
  unfolding taken
  kept_number zero = kept_watched
  kept_number (suc k) = λ e. record { state = refl; spans = refl; words = refl }

  pub hop_keeps : is_accepted (said (hop_of c xs start spans ws).answer) ≡ false → Keeps c spans ws (hop_of c xs start spans ws)
  unfolding hop_of
  hop_keeps = kept_number (hop_refusal c spans ws)
