-- DC undo of the released samples: the record `ReleasedUndone` of Undone.antt, after any list of operations. Assumes nothing.
use Rattle.std.specs.Prelude.{◌≡◌, refl, Bool, true, false, cond, List, ℕ, ◌-◌, length, Float}
use Rattle.std.proofs.Common.{sym, ap, ◌∙◌, arith}
use Rattle.rules.specs.Chain as rules
use Rattle.rules.specs.Chain.{Config, setting_of, editions_of, after_impulse, after_dc, settled_by}
use Rattle.rules.specs.Dc.{corner, first_level, blocked_all}
use Rattle.rules.specs.Iq.{Settled, Off, Observing, Correcting, Withheld, corrected_by}
use Rattle.rules.specs.Impulse.{Setting, lookahead, flagged, judged, value, paused_in, handed_on}
use Rattle.rules.specs.Lists.{up_to}
use Rattle.rules.specs.Mode.{apply, is_apply, runs}
use Rattle.stage_mode.specs.View.{mode_of}
use Rattle.iq_correction.proofs.laws.Maps.{unchanged}
use Rattle.dc.specs.Undo.{undo_returned, undo_words}
use Rattle.dc_bounds.specs.Undone.{stage_wrote, Handed}
use Rattle.dc.proofs.laws.Cutting.{blocked_length}
use Rattle.dc_bounds.proofs.laws.DcUndone.{dc_undone}
use Rattle.chain_config.specs.declared.ConditioningConfig.{ConditioningConfig}
use Rattle.chain_config.specs.Config.{config_of}
use Rattle.chain_make.specs.Making.{made, making_said}
use Rattle.one_record.specs.Lists.{Operation, Proper, made_chain, run}
use Rattle.one_record.specs.Undone.{NotCorrecting, handed_dc, ReleasedUndone}
use Rattle.one_record.proofs.laws.GoodStages.{after_given, after_most}
use Rattle.one_record.proofs.laws.Made.{made_fit}
use Rattle.one_record.proofs.laws.OneRecord.{brought_fits, one_record}

left_alone : (s : Settled) → NotCorrecting s → (w : ℕ) → corrected_by s w ≡ w
left_alone Off n w = refl
left_alone Observing n w = refl
left_alone Withheld n w = refl
left_alone (Correcting r) n w = absurd n

-- an impulse stage that does not apply hands on what it gets
handed_raw : (c : Config) (xs : List ℕ) → is_apply c.impulse_mode ≡ false → after_impulse c xs ≡ xs
unfolding after_impulse handed_on
handed_raw c xs e = go (runs c.impulse_mode)
  where
    s : Setting
    s = setting_of c

    mended : List ℕ
    mended = up_to (value s (flagged s xs) (paused_in s (editions_of c) xs) xs (judged s (length xs))) (length xs - lookahead s)

    go : (b : Bool) → cond b (cond (is_apply c.impulse_mode) mended xs) xs ≡ xs
    go true = ap (λ (b : Bool). cond b mended xs) e
    go false = refl

-- what is released is what the stage wrote
released_is : (c : Config) (xs : List ℕ) → c.dc_mode ≡ apply → NotCorrecting (settled_by c) → rules.released c xs ≡ stage_wrote c.fs (after_impulse c xs)
unfolding rules.released after_dc
released_is c xs d n =
    sym (unchanged (settled_by c) (left_alone (settled_by c) n) (after_dc c xs))
    ∙ ap (λ m. cond (is_apply m) (blocked_all (corner c.fs) first_level (after_impulse c xs)) (after_impulse c xs)) d

pub released_undone : (g : ConditioningConfig)
    → (spans repairs : List ℕ) (words : List Float) → making_said (config_of g) (length spans) (length repairs) (length words) ≡ made
    → let y = made_chain g spans repairs words in
    (os : List Operation) → Proper y os → mode_of g.dc ≡ apply → NotCorrecting (settled_by (config_of g))
    → ReleasedUndone g (run y os)
released_undone g spans repairs words e os p d n =
    let y = run (made_chain g spans repairs words) os in
    let xs = handed_dc g y in
    let fit = (made_fit g (length spans) (length repairs) (length words) e).fit in
    let b = brought_fits g spans repairs words e os p in
    let w = (one_record g spans repairs words e spans repairs words e os os p p refl refl).ruled.released ∙ released_is (config_of g) y.brought d n in
    let long = ap length w ∙ blocked_length (corner g.fs) first_level xs in
    let h : (out : List ℕ) → length out ≡ length y.released → Handed g.fs xs out =
    λ out l. record {
      rate = fit.limits.rate;
      samples = after_given (config_of g) y.brought b.0;
      few = omega (arith, b.1, after_most (config_of g) y.brought);
      room = l ∙ long;
    } in
    let u = dc_undone g.fs xs in
    record {
      raw = handed_raw (config_of g) y.brought;
      wrote = w;
      undone = u;
      accepts = λ out l. ap (undo_returned g.fs out) w ∙ u.accepts out (h out l);
      writes = λ out l. ap (undo_words g.fs out) w ∙ u.writes out (h out l);
    }
