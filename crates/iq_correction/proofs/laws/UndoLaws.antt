-- IQ undo: by its divisor, and by the answers of its two tests. Assumes nothing.
use Rattle.std.specs.Prelude.{◌≡◌, ℕ, Bool, true, false, cond, not, List, map, length, ◌==◌, nat_lt, refl}
use Rattle.std.proofs.Common.{sym, ap, ◌∙◌}
use Rattle.complex.specs.Complex.{Complex}
use Rattle.rules.specs.Iq.{accepted, uncorrected}
use Rattle.rules.specs.Refusals.{first_of, iq_undo_refusal, first_beyond_from}
use Rattle.amplitude_limit.specs.Limit.{returned}
use Rattle.iq_correction.specs.Undo.{divisor_of, uncorrected_by, undo_returned, undo_words}

-- by document 01's divisor the loop's formula is document 01's
pub by_the_formula : (r : Complex) → uncorrected_by r (divisor_of r) ≡ uncorrected r
unfolding uncorrected_by uncorrected
by_the_formula r = refl

-- by whether the coefficient is fit, and a part is beyond the limit
abbrev pub undo_number : Bool → Bool → ℕ
undo_number fit beyond = cond fit (cond beyond 7 0) 10

in_order : (fit beyond : Bool) → cond (not fit) 10 (cond beyond 7 0) ≡ undo_number fit beyond
in_order true beyond = refl
in_order false beyond = refl

refusal_by : (r : Complex) (ys : List ℕ) (fit beyond : Bool) → accepted r ≡ fit → nat_lt (first_beyond_from 0 ys) (length ys) ≡ beyond
    → iq_undo_refusal r ys ≡ undo_number fit beyond
unfolding iq_undo_refusal first_of
refusal_by r ys fit beyond f b =
    in_order (accepted r) (nat_lt (first_beyond_from 0 ys) (length ys))
    ∙ ap (λ (t : Bool). undo_number t (nat_lt (first_beyond_from 0 ys) (length ys))) f
    ∙ ap (undo_number fit) b

pub undo_by : (r : Complex) (ys : List ℕ) (fit beyond : Bool) → accepted r ≡ fit → nat_lt (first_beyond_from 0 ys) (length ys) ≡ beyond
    → let n = undo_number fit beyond in (returned n (first_beyond_from 0 ys) ≡ undo_returned r ys) × (cond (n == 0) (map (uncorrected r) ys) ys ≡ undo_words r ys)
unfolding undo_returned undo_words
undo_by r ys fit beyond f b =
    let e = sym (refusal_by r ys fit beyond f b) in
    (ap (λ (n : ℕ). returned n (first_beyond_from 0 ys)) e, ap (λ (n : ℕ). cond (n == 0) (map (uncorrected r) ys) ys) e)
