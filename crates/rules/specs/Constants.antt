-- The paper's numbers: floats by their bit patterns, and the limits of 'When the conditioner declines'. Definitions only.
use Rattle.std.specs.Prelude.{ℕ, ◌^◌, Float}
use Rattle.std.specs.Float.{binary32, binary64}
use Rattle.std.specs.Float.Ieee.{of_bits}

-- ---- f32

-- 1.0e17
abbrev pub usable_limit : Float
usable_limit = of_bits binary32 0x5bb1_a2bc

-- ---- f64

-- 0.0
abbrev pub zero_f : Float
zero_f = of_bits binary64 0

-- 0.5
abbrev pub one_half : Float
one_half = of_bits binary64 0x3fe0_0000_0000_0000

-- 1.0
abbrev pub one : Float
one = of_bits binary64 0x3ff0_0000_0000_0000

-- 2.0
abbrev pub two : Float
two = of_bits binary64 0x4000_0000_0000_0000

-- 5.0
abbrev pub five : Float
five = of_bits binary64 0x4014_0000_0000_0000

-- 45.0 and -45.0
abbrev pub forty_five : Float
forty_five = of_bits binary64 0x4046_8000_0000_0000

abbrev pub minus_forty_five : Float
minus_forty_five = of_bits binary64 0xc046_8000_0000_0000

-- 144.0
abbrev pub impulse_ratio : Float
impulse_ratio = of_bits binary64 0x4062_0000_0000_0000

-- 0.001
abbrev pub entry_fraction : Float
entry_fraction = of_bits binary64 0x3f50_624d_d2f1_a9fc

-- 0.0005
abbrev pub exit_fraction : Float
exit_fraction = of_bits binary64 0x3f40_624d_d2f1_a9fc

-- 6.283185307179586
abbrev pub tau : Float
tau = of_bits binary64 0x4019_21fb_5444_2d18

-- 0.017453292519943295
abbrev pub radians_per_degree : Float
radians_per_degree = of_bits binary64 0x3f91_df46_a252_9d39

-- 1e-12
abbrev pub coefficient_margin : Float
coefficient_margin = of_bits binary64 0x3d71_9799_812d_ea11

-- 1000.0
abbrev pub thousand : Float
thousand = of_bits binary64 0x408f_4000_0000_0000

-- 3.9810717055349725, 10^0.6
abbrev pub mirror_ratio : Float
mirror_ratio = of_bits binary64 0x400f_d93c_1f52_6de0

-- 1e7, of fs
abbrev pub rate_limit : Float
rate_limit = of_bits binary64 0x4163_12d0_0000_0000

-- 1e18, of a part
abbrev pub part_limit : Float
part_limit = of_bits binary64 0x43ab_c16d_674e_c800

-- 1e36, of a window power
abbrev pub power_limit : Float
power_limit = of_bits binary64 0x4768_12f9_cf79_20e3

-- 1e60, of a monitor word
abbrev pub word_limit : Float
word_limit = of_bits binary64 0x4c63_e9e4_e4c2_f344

-- ---- whole numbers

-- of n, the channels
abbrev pub size_limit : ℕ
size_limit = 2048

-- of the capacities
abbrev pub span_limit : ℕ
span_limit = 256

abbrev pub repair_limit : ℕ
repair_limit = 4096

-- of the total, a hop's start and a repair's
abbrev pub total_limit : ℕ
total_limit = 2 ^ 48

-- of the newest span's sum, start and length
abbrev pub span_end_limit : ℕ
span_end_limit = 2 ^ 49

-- of a counter
abbrev pub counter_limit : ℕ
counter_limit = 2 ^ 52
