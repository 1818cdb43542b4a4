-- A rate of document 01's range has a block length above 0. Assumes nothing.
use Rattle.std.specs.Prelude.{◌≡◌, true, false, ◌&&◌, ◌||◌, ℕ, ◌+◌, ◌-◌, ◌*◌, ◌^◌, ◌≤◌, ◌<◌, min, T, eqb, Float}
use Rattle.std.proofs.Common.{sym, subst, le_trans, le_of_eq, one-mul, le-div_iff_mul-le, arith, eqb→eq, lit<}
use Rattle.std.specs.Float.{nan, inf, fin}
use Rattle.std.specs.Float.Ieee.{up, down, le, of_bits}
use Rattle.std.specs.Float.Ieee.Fits.{down_pos, and_l, and_r}
use Rattle.ieee.proofs.laws.Bounds.{or_le}
use Rattle.ieee.specs.Whole.{round_div, whole_by}
use Rattle.rules.specs.Constants.{one, rate_limit}
use Rattle.rules.specs.Iq.{ranged}
use Rattle.rules.specs.Impulse.{block_length}

-- a number that is not below 1 does not round to 0
round_some : (a c : ℕ) → 0 < c → c ≤ a → 0 < round_div a c
round_some a c C h = (le-div_iff_mul-le {k = 2 * c} {x = 1} {y = 2 * a + c} (omega arith)).1 (omega arith)

some_min : (a b : ℕ) → 0 < a → 0 < b → 0 < min a b
some_min a b h k = omega arith

no_less : (a b : ℕ) → 0 < a → T (false || (eqb a b && (false || eqb a 0))) → ⊥
no_less a b A t = let z : a ≡ 0 = eqb→eq a 0 (and_r (eqb a b) (eqb a 0) t) in omega arith

whole_some : (x : Float) → T (le one x) → T (le x rate_limit) → 0 < whole_by round_div x
unfolding le of_bits whole_by
whole_some nan t u = absurd t
whole_some (inf true) t u = absurd t
whole_some (inf false) t u = absurd u
whole_some (fin true m e) t u = absurd (no_less (1 * down e) (m * up e * 1) (le_trans (down_pos e) (le_of_eq (sym (one-mul (down e))))) t)
whole_some (fin false m e) t u =
    let h : 1 * down e ≤ m * up e * 1 = or_le (1 * down e) (m * up e * 1) true t in
    some_min (round_div (m * up e) (down e)) (2 ^ 64 - 1) (round_some (m * up e) (down e) (down_pos e) (omega arith)) (lit< tt)

pub block_some : (fs : Float) → ranged one rate_limit fs ≡ true → 0 < block_length fs
unfolding block_length
block_some fs e =
    let t : T (ranged one rate_limit fs) = subst T (sym e) tt in
    whole_some fs (and_l (le one fs) (le fs rate_limit) t) (and_r (le one fs) (le fs rate_limit) t)
