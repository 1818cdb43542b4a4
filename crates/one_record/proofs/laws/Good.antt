-- Number 5 is not met by the chain after any samples and hops. Assumes nothing.
use Rattle.std.specs.Prelude.{◌≡◌, Bool, true, false, cond, ◌&&◌, ℕ, zero, suc, ◌-◌, ◌≤◌, ◌<◌, min, length}
use Rattle.std.proofs.Math.Path.{refl, ap}
use Rattle.std.proofs.Common.{◌∙◌}
use mathlib.Core.List.{List, []}
use native.Mathlib.Omega.{arith}
use Rattle.rules.specs.Pauses.{Edition}
use Rattle.rules.specs.Impulse.{Setting, standard, block_length, paused_in, handed_on, lookahead, value, flagged, judged}
use Rattle.rules.specs.Dc.{corner, first_level, level_after}
use Rattle.rules.specs.Mode.{Mode, off, observe, apply, is_apply, runs}
use Rattle.rules.specs.Log as rules
use Rattle.rules.specs.Log.{Stage, impulse, dc, iq, Mark, Repaired, Flagged, Corrected, Uncertain, ring_number}
use Rattle.rules.specs.Monitor.{Hop}
use Rattle.rules.proofs.laws.TestLaws.{and_so}
use Rattle.rules.specs.Lists.{up_to}
use Rattle.rules.proofs.laws.ListLaws.{length_up_to}
use Rattle.rules.specs.Chain.{Config, setting_of, editions_of, after_impulse, settled_by, clamped_of, repair_ring, long_runs_of}
use Rattle.stage_log.specs.View.{Logged, bare, ring_in, marks_at}
use Rattle.stage_log.specs.Check.{ring_fits, ring_of, count_of, log_fits, end_fits, ends_fit}
use Rattle.stage_log.proofs.laws.CheckLaws.{all_of}
use Rattle.impulse.specs.declared.ImpulseSuppressor.{ImpulseSuppressor}
use Rattle.impulse.specs.Machine.{fresh}
use Rattle.impulse.proofs.laws.Theorem.{state_of}
use Rattle.dc.specs.Blocker.{blocker_of}
use Rattle.iq.specs.View.{settled_of}
use Rattle.stage_mode.specs.View.{mode_of}
use Rattle.iq_monitor.specs.Words.{words_fit}
use Rattle.chain_config.specs.declared.ConditioningConfig.{ConditioningConfig}
use Rattle.chain_config.specs.Config.{config_of}
use Rattle.chain_state.specs.Fits.{held_by, applies, settings_fit, counts_fit, gate_fits, suppressor_fits, blocker_fits, coefficient_fits, monitor_fits, front_fits}
use Rattle.chain_state.specs.Fits.{logs_fit, stages_fit, state_fits}
use Rattle.chain_make.specs.Making.{fresh_state, fresh_settings}
use Rattle.chain_make.proofs.laws.MakingLaws.{settled_again}
use Rattle.chain.specs.Stages.{impulse_out, process}
use Rattle.one_record.proofs.laws.Append.{setting_same}
use Rattle.one_record.proofs.laws.Hopping.{with_hops, hop_logged}
use Rattle.one_record.proofs.laws.Reaching.{fresh_machine, hop_marks, core, chain_at, Reached}
use Rattle.one_record.proofs.laws.ByRules.{impulse_out_lem, impulse_state, dc_state, dc_clamped, repairs_is, long_is, rings_are}
use Rattle.one_record.proofs.laws.Made.{Fit}
use Rattle.one_record.proofs.laws.GoodImpulse.{gate_good, suppressor_good, fresh_gate_good, fresh_suppressor_good}
use Rattle.one_record.proofs.laws.GoodStages.{blocker_good, fresh_blocker_good, coefficient_good, monitor_good, words_good, counts_good, held_most}
use Rattle.one_record.proofs.laws.GoodStages.{clamped_most, settings_good}
use Rattle.one_record.proofs.laws.GoodRings.{ring_good}
use Rattle.one_record.proofs.laws.GoodRepairs.{repairs_good}

-- what holds of each stage's and mark's ring holds of every ring by its number
by_ring : (P : ℕ → Type 0) → ((st : Stage) (m : Mark) → P (ring_number st m)) → (k : ℕ) → k < 12 → P k
by_ring P f zero h = f impulse Repaired
by_ring P f (suc zero) h = f impulse Flagged
by_ring P f (suc (suc zero)) h = f impulse Corrected
by_ring P f (suc (suc (suc zero))) h = f impulse Uncertain
by_ring P f (suc (suc (suc (suc zero)))) h = f dc Repaired
by_ring P f (suc (suc (suc (suc (suc zero))))) h = f dc Flagged
by_ring P f (suc (suc (suc (suc (suc (suc zero)))))) h = f dc Corrected
by_ring P f (suc (suc (suc (suc (suc (suc (suc zero))))))) h = f dc Uncertain
by_ring P f (suc (suc (suc (suc (suc (suc (suc (suc zero)))))))) h = f iq Repaired
by_ring P f (suc (suc (suc (suc (suc (suc (suc (suc (suc zero))))))))) h = f iq Flagged
by_ring P f (suc (suc (suc (suc (suc (suc (suc (suc (suc (suc zero)))))))))) h = f iq Corrected
by_ring P f (suc (suc (suc (suc (suc (suc (suc (suc (suc (suc (suc zero))))))))))) h = f iq Uncertain
by_ring P f (suc (suc (suc (suc (suc (suc (suc (suc (suc (suc (suc (suc k)))))))))))) h = absurd (omega arith)

min_less : (n a : ℕ) → n - a ≡ n - min a n
min_less n a = omega arith

-- a stage that applies runs
applies_runs : (m : Mode) → (runs m && is_apply m) ≡ is_apply m
applies_runs off = refl
applies_runs observe = refl
applies_runs apply = refl

-- how many an impulse stage hands on: all but those held
handed_length : (s : Setting) (E : ℕ → Edition) (xs : List ℕ) → length (handed_on s E xs) ≡ length xs - cond s.apply (min (lookahead s) (length xs)) 0
unfolding handed_on
handed_length s E xs = go s.apply
  where
    go : (b : Bool)
        → length (cond b (up_to (value s (flagged s xs) (paused_in s E xs) xs (judged s (length xs))) (length xs - lookahead s)) xs)
        ≡ length xs - cond b (min (lookahead s) (length xs)) 0
    go true = length_up_to (value s (flagged s xs) (paused_in s E xs) xs (judged s (length xs))) (length xs - lookahead s) ∙ min_less (length xs) (lookahead s)
    go false = omega arith

after_length : (c : Config) (xs : List ℕ) → length (after_impulse c xs) ≡ length xs - held_by (is_apply c.impulse_mode) (length xs)
unfolding after_impulse
after_length c xs = go c.impulse_mode refl
  where
    go : (m : Mode) → c.impulse_mode ≡ m → length (cond (runs m) (handed_on (setting_of c) (editions_of c) xs) xs) ≡ length xs - held_by (is_apply m) (length xs)
    go off e = omega arith
    go observe e = handed_length (setting_of c) (editions_of c) xs ∙ ap (λ (m : Mode). length xs - held_by (is_apply m) (length xs)) e
    go apply e = handed_length (setting_of c) (editions_of c) xs ∙ ap (λ (m : Mode). length xs - held_by (is_apply m) (length xs)) e

module _ (g : ConditioningConfig) (f : Fit g) (xs : List ℕ) (hs : List Hop) (r : Reached g xs hs) where
  abbrev mode : Mode
  mode = mode_of g.impulse

  abbrev setting : Setting
  setting = setting_of (config_of g)

  -- ---- the parts of the state

  suppressor_is : (chain_at g xs hs).machine.state.suppressor ≡ cond (runs mode) (state_of setting g.edition xs) (fresh setting g.edition)
  unfolding chain_at with_hops core process
  suppressor_is = impulse_state g f.blocks xs r.usable

  setting_is : standard (chain_at g xs hs).machine.state.suppressor.gate.settings.blocklen
      (chain_at g xs hs).machine.state.suppressor.gate.settings.apply ≡ setting
  unfolding chain_at with_hops core fresh_state
  setting_is = setting_same (fresh_machine g) xs []

  settings_is : (chain_at g xs hs).machine.state.settings ≡ fresh_settings g
  unfolding chain_at with_hops core process fresh_state
  settings_is = refl

  running : (chain_at g xs hs).machine.state.settings.impulse ≡ runs mode
  unfolding chain_at with_hops core process fresh_state fresh_settings
  running = refl

  pub settled_is : settled_of (chain_at g xs hs).machine.state.settings.iq ≡ settled_by (config_of g)
  unfolding chain_at with_hops core process fresh_state fresh_settings
  settled_is = settled_again (settled_by (config_of g))

  applies_is : applies (chain_at g xs hs).machine.state ≡ is_apply mode
  applies_is = (λ i. running i && (setting_is i).apply) ∙ applies_runs mode

  -- ---- seen, released and held

  held_less : held_by (is_apply mode) (length xs) ≤ length xs
  held_less = held_most (is_apply mode) (length xs)

  pub seen_is : (chain_at g xs hs).machine.state.counts.seen ≡ length xs
  unfolding chain_at with_hops core process fresh_state
  seen_is = omega arith

  out_is : length (impulse_out (fresh_state g) xs) ≡ length xs - held_by (is_apply mode) (length xs)
  out_is = ap length (impulse_out_lem g f.blocks xs r.usable) ∙ after_length (config_of g) xs

  pub released_count : (chain_at g xs hs).machine.state.counts.released ≡ length xs - held_by (is_apply mode) (length xs)
  unfolding chain_at with_hops core process fresh_state
  released_count = let o = out_is in omega arith

  pub held_is : (chain_at g xs hs).machine.state.counts.held ≡ held_by (is_apply mode) (length xs)
  unfolding chain_at with_hops core process fresh_state
  held_is = let o = out_is in let l = held_less in omega arith

  pub clamped_count : (chain_at g xs hs).machine.state.counts.clamped ≡ clamped_of (config_of g) xs
  unfolding chain_at with_hops core process fresh_state fresh_settings
  clamped_count = let e = dc_clamped g f.blocks xs r.usable in omega arith

  -- ---- the groups of tests

  settings_fit_lem : settings_fit (chain_at g xs hs).machine.state.settings (chain_at g xs hs).machine.state.suppressor.gate.settings.blocklen ≡ true
  unfolding chain_at with_hops core process fresh_state fresh_settings
  settings_fit_lem =
      settings_good (fresh_settings g) (chain_at g xs hs).machine.state.suppressor.gate.settings.blocklen f.setting
      (ap (λ (s : Setting). s.block) setting_is)

  counts_fit_lem : let c = (chain_at g xs hs).machine.state in counts_fit (applies c) c.counts ≡ true
  counts_fit_lem =
      (λ i. counts_fit (applies_is i) (record { seen = seen_is i; released = released_count i; held = held_is i; clamped = clamped_count i }))
      ∙ counts_good (is_apply mode) (length xs) (clamped_of (config_of g) xs) (clamped_most (config_of g) xs) (let l = r.few in omega arith)

  gate_by : (b : Bool) → gate_fits (cond b (state_of setting g.edition xs) (fresh setting g.edition)).gate ≡ true
  gate_by true = gate_good (block_length g.fs) (is_apply mode) g.edition xs r.usable r.few
  gate_by false = fresh_gate_good setting g.edition

  gate_fit : gate_fits (chain_at g xs hs).machine.state.suppressor.gate ≡ true
  gate_fit = ap (λ (m : ImpulseSuppressor). gate_fits m.gate) suppressor_is ∙ gate_by (runs mode)

  front_fit : front_fits (chain_at g xs hs).machine.state ≡ true
  unfolding front_fits
  front_fit = and_so _ _ (and_so _ _ settings_fit_lem counts_fit_lem) gate_fit

  suppressor_by : (b : Bool) → suppressor_fits (cond b (state_of setting g.edition xs) (fresh setting g.edition)) b (length xs) ≡ true
  suppressor_by true = suppressor_good (block_length g.fs) (is_apply mode) g.edition xs r.usable r.few
  suppressor_by false = fresh_suppressor_good setting g.edition (length xs)

  suppressor_fit : let c = (chain_at g xs hs).machine.state in suppressor_fits c.suppressor c.settings.impulse c.counts.seen ≡ true
  suppressor_fit = (λ i. suppressor_fits (suppressor_is i) (running i) (seen_is i)) ∙ suppressor_by (runs mode)

  -- ---- the rings

  logged_is : ◌≡◌ {A = Logged} (record { log = (chain_at g xs hs).machine.state.notes.log; spans = (chain_at g xs hs).machine.spans })
      (hop_logged (core g xs) (hop_marks g hs))
  unfolding chain_at with_hops
  logged_is = refl

  rings_fit : log_fits g.spans (hop_logged (core g xs) (hop_marks g hs)).log ≡ true
  unfolding log_fits marks_at
  rings_fit =
      all_of (λ k. ring_fits g.spans (ring_of (hop_logged (core g xs) (hop_marks g hs)).log k) (count_of (hop_logged (core g xs) (hop_marks g hs)).log k)) 12
      (by_ring
      (λ k. ring_fits g.spans (ring_of (hop_logged (core g xs) (hop_marks g hs)).log k) (count_of (hop_logged (core g xs) (hop_marks g hs)).log k) ≡ true)
      (λ st m.
      ap (λ (q : rules.Marks). ring_fits g.spans (bare q.ring) q.samples) (rings_are g f.blocks xs r.usable f.limits.some_spans hs st m)
      ∙ (ring_good (config_of g) xs hs f.limits.some_spans r.few f.limits.size r.order st m).0))

  ends_good : ends_fit g.spans (hop_logged (core g xs) (hop_marks g hs)) ≡ true
  unfolding ends_fit
  ends_good =
      all_of (λ k. end_fits g.spans (marks_at g.spans (hop_logged (core g xs) (hop_marks g hs)) k).ring) 12
      (by_ring (λ k. end_fits g.spans (marks_at g.spans (hop_logged (core g xs) (hop_marks g hs)) k).ring ≡ true)
      (λ st m.
      ap (λ (q : rules.Marks). end_fits g.spans q.ring) (rings_are g f.blocks xs r.usable f.limits.some_spans hs st m)
      ∙ (ring_good (config_of g) xs hs f.limits.some_spans r.few f.limits.size r.order st m).1))

  pub repair_ring_lem : ring_in (chain_at g xs hs).machine.state.notes.repairs (chain_at g xs hs).machine.repairs ≡ repair_ring (config_of g) xs
  unfolding chain_at with_hops core process
  repair_ring_lem = repairs_is g f.blocks xs r.usable

  pub long_runs_lem : (chain_at g xs hs).machine.state.notes.longruns ≡ long_runs_of (config_of g) xs
  unfolding chain_at with_hops core process
  long_runs_lem = long_is g f.blocks xs r.usable

  logs_fit_lem : logs_fit (chain_at g xs hs).machine.state ≡ true
  unfolding logs_fit fresh_settings
  logs_fit_lem =
      and_so _ _
      ((λ i. log_fits (settings_is i).spans (logged_is i).log) ∙ rings_fit)
      ((λ i. ring_fits (settings_is i).repairs (bare (repair_ring_lem i)) (long_runs_lem i)) ∙ repairs_good (config_of g) xs f.limits.some_repairs r.few)

  -- ---- the other stages

  blocker_by : (b : Bool)
      → blocker_fits
      (cond b (blocker_of (corner g.fs) (level_after (corner g.fs) first_level (after_impulse (config_of g) xs))) (blocker_of (corner g.fs) first_level))
      ≡ true
  blocker_by true = blocker_good (config_of g) xs f.limits.rate r.usable r.few
  blocker_by false = fresh_blocker_good g.fs

  pub blocker_is : (chain_at g xs hs).machine.state.blocker
      ≡ cond (runs (mode_of g.dc)) (blocker_of (corner g.fs) (level_after (corner g.fs) first_level (after_impulse (config_of g) xs)))
      (blocker_of (corner g.fs) first_level)
  unfolding chain_at with_hops core process fresh_state fresh_settings
  blocker_is = dc_state g f.blocks xs r.usable

  monitor_fit : monitor_fits (chain_at g xs hs).machine.state.monitor ≡ true
  unfolding chain_at with_hops
  monitor_fit = monitor_good g.fs g.n hs f.limits.size r.order

  stages_fit_lem : stages_fit (chain_at g xs hs).machine.state ≡ true
  unfolding stages_fit
  stages_fit_lem =
      and_so _ _
      (and_so _ _ (ap blocker_fits blocker_is ∙ blocker_by (runs (mode_of g.dc))) (ap coefficient_fits settled_is ∙ coefficient_good (config_of g)))
      monitor_fit

  -- ---- number 5 finds nothing

  pub state_good : state_fits (chain_at g xs hs).machine.state ≡ true
  unfolding state_fits
  state_good = and_so _ _ (and_so _ _ (and_so _ _ front_fit suppressor_fit) logs_fit_lem) stages_fit_lem

  pub spans_good : let c = (chain_at g xs hs).machine.state in
      ends_fit c.settings.spans (record { log = c.notes.log; spans = (chain_at g xs hs).machine.spans }) ≡ true
  unfolding fresh_settings
  spans_good = (λ i. ends_fit (settings_is i).spans (logged_is i)) ∙ ends_good

  pub words_fit_lem : words_fit (chain_at g xs hs).machine.state.settings.n (chain_at g xs hs).words ≡ true
  unfolding chain_at with_hops core process fresh_state fresh_settings
  words_fit_lem = words_good g.fs g.n hs f.limits.size r.order
