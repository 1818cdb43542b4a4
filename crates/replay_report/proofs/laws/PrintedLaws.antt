-- What is printed of a recording that was cut off (document 02, R-4) and of a header alone (R-7), and that number 15 is met no more. Assumes
-- nothing.
use Rattle.std.specs.Prelude.{◌≡◌, refl, Bool, true, false, cond, ◌&&◌, List, [], ◌∷◌, ℕ, zero, suc, ◌%◌, eqb, length, drop}
use Rattle.std.proofs.Common.{ap, sym, ◌∙◌, arith}
use Rattle.std.proofs.Math.Seq.{drop-length}
use Rattle.rules.specs.Lists.{at, up_to, All}
use Rattle.rules.specs.Refusals.{Cause, first_of, making_refusal}
use Rattle.chain_config.specs.Config.{all_off}
use Rattle.replay_format.specs.Format.{header_size, header_fits, config_in, sample_size, words_in, samples_in, input_refusal, tail_refusal}
use Rattle.replay_format.proofs.laws.FormatLaws.{good_header, tail_refused}
use Rattle.replay_text.specs.Text.{letters, decimal_by, line}
use Rattle.replay_text.specs.Notices.{refused_text, off_text}
use Rattle.replay_report.specs.Lines.{sample_lines}
use Rattle.replay_report.specs.Report.{report_text, fresh_text, text_unless, made_text, played_text, printed}
use Rattle.replay_report.proofs.laws.FreshReport.{fresh_report}

-- R-4: one that was cut off in the middle of a sample is refused with 17, whatever its modes, its rate and its length
pub cut_off : (input : List ℕ) → header_fits input ≡ true → (length (drop header_size input) % sample_size ≡ 0 → ⊥) → printed input ≡ refused_text 17
unfolding printed
cut_off input e n = ap (λ (k : ℕ). text_unless k (played_text (config_in input) (samples_in input))) (good_header input e ∙ tail_refused _ n)

-- R-7: 'Such an input now means a fresh chain. .. All off still prints `off`', and what making refuses is refused by its number
pub header_alone : (input : List ℕ) → header_fits input ≡ true → length input ≡ header_size → printed input ≡ made_text (config_in input) (fresh_text (config_in input))
unfolding printed tail_refusal first_of words_in up_to
header_alone input e l =
    (λ i. text_unless ((good_header input e ∙ ap tail_refusal none) i) (played_text (config_in input) (words_in (none i))))
    ∙ ap (made_text (config_in input)) (fresh_report (config_in input))
  where
    none : drop header_size input ≡ []
    none = ap (λ (n : ℕ). drop n input) (sym l) ∙ drop-length input

-- ---- R-7: 'Number 15 is met no more.'

-- the two letters that tell `refused 15` from all that is printed
abbrev looks_fifteen : List ℕ → Bool
looks_fifteen text = eqb (at text 2) (at (refused_text 15) 2) && eqb (at text 9) (at (refused_text 15) 9)

abbrev Other : List ℕ → Type 0
Other text = looks_fifteen text ≡ false

-- where none of the causes has that number
causes_other : (causes : List Cause) (text : List ℕ) → All (λ (c : Cause). Other (refused_text c.number)) causes → Other text
    → Other (text_unless (first_of causes) text)
unfolding first_of
causes_other [] text all t = t
causes_other (c ∷ cs) text all t = go c.holds c.number all.0 (causes_other cs text all.1 t)
  where
    number : (n : ℕ) → Other (refused_text n) → Other (text_unless n text)
    number zero o = t
    number (suc k) o = o

    go : (b : Bool) (n : ℕ) → Other (refused_text n) → Other (text_unless (first_of cs) text) → Other (text_unless (cond b n (first_of cs)) text)
    go true n o rest = number n o
    go false n o rest = rest

either_other : (b : Bool) (t u : List ℕ) → Other t → Other u → Other (cond b t u)
either_other true t u p q = p
either_other false t u p q = q

pub not_fifteen : (input : List ℕ) → printed input ≡ refused_text 15 → ⊥
unfolding printed input_refusal making_refusal letters decimal_by line refused_text off_text sample_lines report_text
not_fifteen input e =
    let other : Other (printed input) =
    causes_other _ _ (refl, (refl, tt))
    (either_other (all_off (config_in input)) _ _ refl
    (causes_other _ _ (refl, (refl, (refl, (refl, (refl, (refl, tt)))))) (causes_other _ _ (refl, tt) refl))) in
    let z : ◌≡◌ {A = ℕ} 0 1 = ap (λ (b : Bool). cond b 0 1) (sym (ap looks_fifteen e) ∙ other) in
    absurd (omega (arith, z))
