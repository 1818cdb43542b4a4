-- What an accepted configuration has: fit settings, and stores of the right lengths. Assumes nothing.
use Rattle.std.specs.Prelude.{◌≡◌, refl, Bool, true, false, cond, not, ℕ, zero, suc, ◌*◌, ◌<◌, eqb}
use Rattle.std.proofs.Common.{ap, arith, eqb-true, eq-eqb}
use Rattle.std.proofs.lemmas.Bool.{false≢true}
use Rattle.rules.specs.Constants.{one, rate_limit}
use Rattle.rules.specs.Iq.{ranged}
use Rattle.rules.specs.Impulse.{block_length}
use Rattle.rules.specs.Refusals.{first_of, bad_size, bad_capacity, making_refusal}
use Rattle.rules.specs.Log.{repair_width, store_width}
use Rattle.rules.specs.Monitor.{channel_width}
use Rattle.chain_config.specs.declared.ConditioningConfig.{ConditioningConfig}
use Rattle.chain_config.specs.Config.{config_of, all_off, setting_refusal, refusal}
use Rattle.chain_config.proofs.laws.ConfigLaws.{Limits, setting_limits}
use Rattle.chain_state.proofs.laws.Blocks.{block_some}
use Rattle.chain_make.specs.Making.{nothing, made, is_made, numbered, making_said}

pub record Fit (g : ConditioningConfig) : Type 0 where
  pub setting : setting_refusal g.fs g.n g.spans g.repairs ≡ 0
  pub limits : Limits g.fs g.n g.spans g.repairs
  pub blocks : 0 < block_length g.fs

pub record Lent (g : ConditioningConfig) (spans repairs words : ℕ) : Type 0 where
  pub fit : Fit g
  pub spans_long : spans ≡ store_width * g.spans
  pub repairs_long : repairs ≡ repair_width * g.repairs
  pub words_long : words ≡ channel_width * g.n

-- making's number by the answers of its tests
abbrev making_number : Bool → Bool → Bool → Bool → Bool → Bool → ℕ
making_number rate size capacity repairs spans words =
    cond (not rate) 1 (cond size 2 (cond capacity 3 (cond (not repairs) 4 (cond (not spans) 4 (cond (not words) 4 0)))))

number_none : (k : ℕ) → is_made (numbered k) ≡ true → k ≡ 0
number_none zero e = refl
number_none (suc k) e = absurd (false≢true e)

pub made_fit : (g : ConditioningConfig) (spans repairs words : ℕ) → making_said (config_of g) spans repairs words ≡ made → Lent g spans repairs words
unfolding making_said making_refusal setting_refusal first_of
made_fit g spans repairs words e = from_off (all_off (config_of g)) (ap is_made e)
  where
    tests : (rate size capacity r s w : Bool)
        → ranged one rate_limit g.fs ≡ rate → (bad_size g.n).holds ≡ size → (bad_capacity g.spans g.repairs).holds ≡ capacity
        → eqb repairs (repair_width * g.repairs) ≡ r → eqb spans (store_width * g.spans) ≡ s → eqb words (channel_width * g.n) ≡ w
        → making_number rate size capacity r s w ≡ 0
        → Lent g spans repairs words
    tests true false false true true true a b d p q t z =
        let none : setting_refusal g.fs g.n g.spans g.repairs ≡ 0 = (λ i. making_number (a i) (b i) (d i) true true true) in
        let l = setting_limits g.fs g.n g.spans g.repairs (eq-eqb _ _ none) in
        record {
          fit = record { setting = none; limits = l; blocks = block_some g.fs l.rate };
          spans_long = eqb-true spans (store_width * g.spans) q;
          repairs_long = eqb-true repairs (repair_width * g.repairs) p;
          words_long = eqb-true words (channel_width * g.n) t;
        }
    tests true false false true true false a b d p q t z = absurd (omega arith)
    tests true false false true false w a b d p q t z = absurd (omega arith)
    tests true false false false s w a b d p q t z = absurd (omega arith)
    tests true false true r s w a b d p q t z = absurd (omega arith)
    tests true true capacity r s w a b d p q t z = absurd (omega arith)
    tests false size capacity r s w a b d p q t z = absurd (omega arith)

    from_off : (b : Bool) → is_made (cond b nothing (numbered (refusal (config_of g) spans repairs words))) ≡ true → Lent g spans repairs words
    from_off true h = absurd (false≢true h)
    from_off false h = tests _ _ _ _ _ _ refl refl refl refl refl refl (number_none (refusal (config_of g) spans repairs words) h)
