-- Undoing on a repair ring that was made by appending: none of its records is refused, and where none was dropped the input returns. Assumes nothing.
use Rattle.std.specs.Prelude.{◌≡◌, Bool, true, false, cond, ℕ, ◌+◌, ◌*◌, ◌≤◌, ◌<◌, length, take, drop}
use Rattle.std.proofs.Math.Path.{ap}
use Rattle.std.proofs.Common.{sym, ◌∙◌, arith, eq-eqb, lit≤}
use mathlib.Core.List.{List, [], ◌∷◌, foldl}
use Rattle.std.proofs.Math.Seq.{take-length}
use Rattle.rules.specs.Answers.{accepted}
use Rattle.rules.specs.Lists.{at, All}
use Rattle.rules.specs.Pauses.{Edition}
use Rattle.rules.specs.Impulse.{Setting, flagged, judged, value, events, paused_in, handed_on, happened, longest_run}
use Rattle.rules.specs.Log as rules
use Rattle.rules.specs.Log.{repair_width, repaired, repairs_of}
use Rattle.rules.specs.Undo.{held_records, undone_all}
use Rattle.rules.proofs.laws.RingReading.{AllWide, appended, appended_all, held_entries, repaired_entries, repaired_all, repaired_sound}
use Rattle.rules.specs.Chain.{Config, setting_of, editions_of, impulse_events, after_impulse, repair_ring}
use Rattle.rules.specs.Mode.{runs}
use Rattle.rules.proofs.laws.EventLaws.{repairs_wide}
use Rattle.rules.specs.Constants.{total_limit}
use Rattle.stage_log.specs.View.{ring_in}
use Rattle.impulse.proofs.laws.Repairs.{Original, all_original, undo_slice, undo_handed}
use Rattle.chain_state.specs.declared.InputConditioner.{InputConditioner}
use Rattle.chain_state.specs.Fits.{state_fits}
use Rattle.chain_state.proofs.laws.FitsLaws.{state_fit}
use Rattle.chain_undo.specs.Undoing.{records_of, undo_refusal, undo_of}
use Rattle.chain_undo.proofs.laws.Records.{Fit, fit_records}
use Rattle.chain_undo.proofs.laws.UndoTests.{refusal_by, outcome_by}

-- ---- the records of a ring that was made by appending

-- all of them, where none was dropped
pub held_repaired : (cap : ℕ) (rs : List (List ℕ)) → 0 < cap → AllWide repair_width rs → length rs ≤ cap → held_records cap (repaired cap rs) ≡ rs
held_repaired cap rs z w h = held_entries cap (repaired cap rs) ∙ repaired_all cap rs z w h

-- the newest, in any case
pub held_newest : (cap : ℕ) (rs : List (List ℕ)) → 0 < cap → AllWide repair_width rs → held_records cap (repaired cap rs) ≡ foldl (appended cap) [] rs
held_newest cap rs z w = held_entries cap (repaired cap rs) ∙ repaired_entries cap rs z w

-- ---- what is not refused

pub not_refused : (c : InputConditioner) (repairs : List ℕ) → state_fits c ≡ true → length repairs ≡ repair_width * c.settings.repairs
    → All Fit (records_of c repairs) → undo_refusal c repairs ≡ 0
not_refused c repairs f l r = refusal_by c repairs true true true f (eq-eqb _ _ l) (fit_records (records_of c repairs) r)

-- a fit state whose repair ring was made by appending records that fit
pub record Made (c : InputConditioner) (repairs : List ℕ) (rs : List (List ℕ)) : Type 0 where
  pub fits : state_fits c ≡ true
  pub ring : ring_in c.notes.repairs repairs ≡ repaired c.settings.repairs rs
  pub wide : AllWide repair_width rs
  pub each : All Fit rs

module _ (c : InputConditioner) (repairs : List ℕ) (rs : List (List ℕ)) (m : Made c repairs rs) where
  some : 0 < c.settings.repairs
  some = (state_fit c m.fits).settings.some_repairs

  pub made_length : length repairs ≡ repair_width * c.settings.repairs
  made_length = ap (λ (r : rules.Ring). length r.words) m.ring ∙ (repaired_sound c.settings.repairs rs some).long

  pub made_newest : records_of c repairs ≡ foldl (appended c.settings.repairs) [] rs
  made_newest = ap (held_records c.settings.repairs) m.ring ∙ held_newest c.settings.repairs rs some m.wide

  -- none is refused, whether or not some were dropped
  pub made_accepted : undo_refusal c repairs ≡ 0
  made_accepted = not_refused c repairs m.fits made_length (rw made_newest (appended_all Fit c.settings.repairs [] rs tt m.each))

  -- where none was dropped, all are undone
  pub made_undone : length rs ≤ c.settings.repairs → (ys : List ℕ) (first : ℕ)
      → undo_of c repairs ys first ≡ record { said = accepted tt; samples = undone_all first rs ys }
  made_undone h ys first =
      outcome_by c repairs ys first 0 made_accepted
      ∙ ap (λ (es : List (List ℕ)). record { said = accepted tt; samples = undone_all first es ys })
      (ap (held_records c.settings.repairs) m.ring ∙ held_repaired c.settings.repairs rs some m.wide h)

-- ---- the repairs of the impulse stage

all_fit : (xs : List ℕ) (es : List (List ℕ)) → length xs ≤ total_limit → All (Original xs) es → All Fit es
all_fit xs [] h o = tt
all_fit xs (e ∷ es) h o = (record { some = o.0.some; short = o.0.short; early = omega (arith, o.0.inside) }, all_fit xs es h o.1)

-- their records fit
pub repairs_fit : (s : Setting) → s.run ≤ longest_run → (E : ℕ → Edition) (xs : List ℕ) → length xs ≤ total_limit → All Fit (repairs_of (happened s E xs))
unfolding happened
repairs_fit s r E xs h =
    all_fit xs (repairs_of (events s (flagged s xs) (paused_in s E xs) xs (judged s (length xs)))) h
    (all_original s (flagged s xs) (paused_in s E xs) xs r (judged s (length xs)) (omega arith))

-- a state whose repair ring stands as the rules say for an input
module _ (c : InputConditioner) (repairs xs : List ℕ) (s : Setting) (r : s.run ≤ longest_run) (E : ℕ → Edition) (long : length xs ≤ total_limit) (f : state_fits c ≡ true)
    (ring : ring_in c.notes.repairs repairs ≡ repaired c.settings.repairs (repairs_of (happened s E xs))) where
  stage_made : Made c repairs (repairs_of (happened s E xs))
  stage_made = record { fits = f; ring = ring; wide = repairs_wide (happened s E xs); each = repairs_fit s r E xs long }

  -- no repair was dropped: any slice of what the stage hands on becomes that of the input
  pub slice_returns : length (repairs_of (happened s E xs)) ≤ c.settings.repairs → (ys : List ℕ) (first : ℕ) → first + length ys ≤ length xs
      → ((i : ℕ) → i < length ys → at ys i ≡ value s (flagged s xs) (paused_in s E xs) xs (judged s (length xs)) (first + i))
      → undo_of c repairs ys first ≡ record { said = accepted tt; samples = take (length ys) (drop first xs) }
  slice_returns h ys first w same =
      made_undone c repairs (repairs_of (happened s E xs)) stage_made h ys first
      ∙ ap (λ (l : List ℕ). record { said = accepted tt; samples = l }) (undo_slice s r E xs ys first w same)

-- ---- a chain, by its configuration

-- what a configuration repairs in an input fits, whether or not its impulse stage runs
chain_fit : (k : Config) (xs : List ℕ) → length xs ≤ total_limit → All Fit (repairs_of (impulse_events k xs))
unfolding impulse_events repairs_of
chain_fit k xs long = go (runs k.impulse_mode)
  where
    go : (b : Bool) → All Fit (repairs_of (cond b (happened (setting_of k) (editions_of k) xs) []))
    go true = repairs_fit (setting_of k) (lit≤ tt) (editions_of k) xs long
    go false = tt

chain_back : (k : Config) (xs : List ℕ) → undone_all 0 (repairs_of (impulse_events k xs)) (after_impulse k xs) ≡ take (length (after_impulse k xs)) xs
unfolding impulse_events after_impulse repairs_of undone_all
chain_back k xs = go (runs k.impulse_mode)
  where
    go : (b : Bool)
        → undone_all 0 (repairs_of (cond b (happened (setting_of k) (editions_of k) xs) [])) (cond b (handed_on (setting_of k) (editions_of k) xs) xs)
        ≡ take (length (cond b (handed_on (setting_of k) (editions_of k) xs) xs)) xs
    go true = undo_handed (setting_of k) (lit≤ tt) (editions_of k) xs
    go false = sym (take-length xs)

-- a state whose repair ring stands as the rules say for a configuration and an input
module _ (k : Config) (c : InputConditioner) (repairs xs : List ℕ) (long : length xs ≤ total_limit) (f : state_fits c ≡ true)
    (same : c.settings.repairs ≡ k.repairs) (ring : ring_in c.notes.repairs repairs ≡ repair_ring k xs) where
  pub chain_made : Made c repairs (repairs_of (impulse_events k xs))
  unfolding repair_ring
  chain_made =
      record {
        fits = f;
        ring = ring ∙ ap (λ (cap : ℕ). repaired cap (repairs_of (impulse_events k xs))) (sym same);
        wide = repairs_wide (impulse_events k xs);
        each = chain_fit k xs long;
      }

  pub chain_accepted : undo_refusal c repairs ≡ 0
  chain_accepted = made_accepted c repairs (repairs_of (impulse_events k xs)) chain_made

  -- no repair was dropped: what the impulse stage handed on becomes the input
  pub chain_returns : length (repairs_of (impulse_events k xs)) ≤ k.repairs
      → undo_of c repairs (after_impulse k xs) 0 ≡ record { said = accepted tt; samples = take (length (after_impulse k xs)) xs }
  chain_returns h =
      made_undone c repairs (repairs_of (impulse_events k xs)) chain_made (omega arith) (after_impulse k xs) 0
      ∙ ap (λ (l : List ℕ). record { said = accepted tt; samples = l }) (chain_back k xs)
