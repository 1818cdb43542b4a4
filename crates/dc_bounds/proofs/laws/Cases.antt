-- A closed case of DC undo, computed: what comes back is not always the input's bits. The answers are those of the Rust original (`compare/run`).
-- Assumes nothing.
use Rattle.std.specs.Prelude.{◌≡◌, refl, List, [], ◌∷◌, ℕ, ◌+◌, ◌^◌, Float}
use Rattle.std.proofs.Common.{not-le_of_lt, lit≤, lit<}
use Rattle.std.specs.Float.{binary64}
use Rattle.std.specs.Float.Ieee.{of_bits}
use Rattle.ieee.specs.Bound.{Near}
use Rattle.complex.specs.Complex.{sample_of}
use Rattle.rules.specs.Constants.{zero_f, one}
use Rattle.rules.proofs.laws.Computing.{floats, dc_rules}
use Rattle.dc_bounds.specs.Undone.{stage_wrote, undo_writes, level_at, undo_scale}

-- 48000 Hz; 1, then -0.5 less 2 ^ -24. Less the level, which is 1, that is midway between two f32, and the even one is -1.5
abbrev rate : Float
rate = of_bits binary64 0x40e7_7000_0000_0000

abbrev fine : ℕ
fine = 0xbf000001

-- -0.5
abbrev back : ℕ
back = 0xbf000000

abbrev input : List ℕ
input = 0x3f800000 ∷ fine ∷ []

pub level_one : (level_at rate input 1).level ≡ record { re = one; im = zero_f }
unfolding floats dc_rules
level_one = refl

pub undone_fine : undo_writes rate (stage_wrote rate input) ≡ 0x3f800000 ∷ back ∷ []
unfolding floats dc_rules
undone_fine = refl

-- it is off by 2 ^ -24, and by no less, which the bound allows
pub off_by : Near (sample_of fine).re (sample_of back).re 1 (2 ^ 24)
unfolding floats
off_by = lit≤ tt

pub no_nearer : Near (sample_of fine).re (sample_of back).re 1 (2 ^ 24 + 1) → ⊥
unfolding floats
no_nearer h = not-le_of_lt (lit< tt) h

pub allowed : Near (sample_of fine).re (sample_of back).re 1 undo_scale
unfolding floats
allowed = lit≤ tt
