-- DC undo by the answers of its three tests. Assumes nothing.
use Rattle.std.specs.Prelude.{◌≡◌, ℕ, Bool, true, false, cond, not, List, length, ◌==◌, nat_lt, refl, Float}
use Rattle.std.proofs.Common.{sym, ap, ◌∙◌}
use Rattle.rules.specs.Constants.{one, rate_limit}
use Rattle.rules.specs.Dc.{corner, first_level, restored_all}
use Rattle.rules.specs.Iq.{ranged}
use Rattle.rules.specs.Refusals.{first_of, dc_undo_refusal, first_beyond_from}
use Rattle.amplitude_limit.specs.Limit.{returned}
use Rattle.dc.specs.Undo.{undo_returned, undo_words}

-- by whether the rate fits, the lengths agree, and a part is beyond the limit
abbrev pub undo_number : Bool → Bool → Bool → ℕ
undo_number fits same beyond = cond fits (cond same (cond beyond 7 0) 4) 1

in_order : (fits same beyond : Bool) → cond (not fits) 1 (cond (not same) 4 (cond beyond 7 0)) ≡ undo_number fits same beyond
in_order true true beyond = refl
in_order true false beyond = refl
in_order false same beyond = refl

refusal_by : (fs : Float) (out ys : List ℕ) (fits same beyond : Bool) → ranged one rate_limit fs ≡ fits → (length out == length ys) ≡ same
    → nat_lt (first_beyond_from 0 ys) (length ys) ≡ beyond
    → dc_undo_refusal fs (length out) ys ≡ undo_number fits same beyond
unfolding dc_undo_refusal first_of
refusal_by fs out ys fits same beyond f s b =
    in_order (ranged one rate_limit fs) (length out == length ys) (nat_lt (first_beyond_from 0 ys) (length ys))
    ∙ ap (λ (t : Bool). undo_number t (length out == length ys) (nat_lt (first_beyond_from 0 ys) (length ys))) f
    ∙ ap (λ (t : Bool). undo_number fits t (nat_lt (first_beyond_from 0 ys) (length ys))) s
    ∙ ap (undo_number fits same) b

pub undo_by : (fs : Float) (out ys : List ℕ) (fits same beyond : Bool) → ranged one rate_limit fs ≡ fits → (length out == length ys) ≡ same
    → nat_lt (first_beyond_from 0 ys) (length ys) ≡ beyond
    → let n = undo_number fits same beyond in
    (returned n (first_beyond_from 0 ys) ≡ undo_returned fs out ys) × (cond (n == 0) (restored_all (corner fs) first_level ys) out ≡ undo_words fs out ys)
unfolding undo_returned undo_words
undo_by fs out ys fits same beyond f s b =
    let e = sym (refusal_by fs out ys fits same beyond f s b) in
    (ap (λ (n : ℕ). returned n (first_beyond_from 0 ys)) e, ap (λ (n : ℕ). cond (n == 0) (restored_all (corner fs) first_level ys) out) e)
