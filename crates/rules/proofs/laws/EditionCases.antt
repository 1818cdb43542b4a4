-- Document 02, R-6: which blocks each edition pauses, computed. Each case tells a wrong reading apart. The second reading has the same answers
-- (oracle/tests/editions.rs). Assumes nothing.
use Rattle.std.specs.Prelude.{◌≡◌, refl, Bool, true, false, List, [], ◌∷◌, ℕ, suc, ◌/◌, ◌%◌, ltb, length}
use Rattle.rules.specs.Lists.{at, up_to}
use Rattle.rules.specs.Pauses.{Edition, first, second, always, paused}
use Rattle.rules.proofs.laws.Computing.{floats, impulse_rules}

-- so many of each block are flagged, the first ones
abbrev flagging : ℕ → List ℕ → ℕ → Bool
flagging block counts j = ltb (j % block) (at counts (j / block))

-- those blocks and the one behind them
abbrev paused_of : Edition → ℕ → List ℕ → List Bool
paused_of e block counts = up_to (paused (always e) block (flagging block counts)) (suc (length counts))

-- 'pauses as now': one of 1000 is not above 0.001 × 1000, though it is above 0.0005 × 1000, at first and after a stretch
pub entry_limit : paused_of second 1000 (1 ∷ []) ≡ false ∷ false ∷ []
unfolding floats impulse_rules
entry_limit = refl

pub entry_limit_again : paused_of second 1000 (2 ∷ 0 ∷ 1 ∷ []) ≡ false ∷ true ∷ false ∷ false ∷ []
unfolding floats impulse_rules
entry_limit_again = refl

-- 'ends after its first block with at most': the quiet block itself, the second one here, is paused
pub quiet_block : paused_of second 1000 (2 ∷ 0 ∷ []) ≡ false ∷ true ∷ false ∷ []
unfolding floats impulse_rules
quiet_block = refl

-- 'at most 0.0005 × block length': one of 2000 ends a stretch, two do not
pub exit_limit : paused_of second 2000 (3 ∷ 1 ∷ []) ≡ false ∷ true ∷ false ∷ []
unfolding floats impulse_rules
exit_limit = refl

pub above_exit_limit : paused_of second 2000 (3 ∷ 2 ∷ []) ≡ false ∷ true ∷ true ∷ []
unfolding floats impulse_rules
above_exit_limit = refl

-- a stretch ends by the exit limit, not by the entry limit; edition 1 knows the entry limit alone
pub stretch : paused_of second 1000 (2 ∷ 1 ∷ 1 ∷ 0 ∷ 1 ∷ []) ≡ false ∷ true ∷ true ∷ true ∷ false ∷ false ∷ []
unfolding floats impulse_rules
stretch = refl

pub no_stretch : paused_of first 1000 (2 ∷ 1 ∷ 1 ∷ 0 ∷ 1 ∷ []) ≡ false ∷ true ∷ false ∷ false ∷ false ∷ false ∷ []
unfolding floats impulse_rules
no_stretch = refl
