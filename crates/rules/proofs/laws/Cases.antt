-- Closed cases of the rules, computed. The answers are those of the Rust original, and of the second reading for flags.
-- Made by `cd oracle && cargo run --release --bin closed_cases`. Assumes nothing.
use Rattle.std.specs.Prelude.{◌≡◌, refl, Bool, true, false, List, [], ◌∷◌, map, ℕ, take}
use Rattle.std.specs.Float.{binary64}
use Rattle.std.specs.Float.Ieee.{of_bits}
use Rattle.rules.specs.Lists.{up_to}
use Rattle.rules.specs.Guard.{usable, guarded, unusable}
use Rattle.rules.specs.Impulse.{standard, flagged, value}
use Rattle.rules.specs.Dc.{corner, first_level, level_after, blocked_all, clamped_steps, restored_all}
use Rattle.rules.specs.Iq.{Calibration, coefficient, corrected, uncorrected}
use Rattle.rules.specs.Monitor.{Hop, no_report, report, window_length, answers, open_window, monitor_words}
use Rattle.rules.proofs.laws.ByFlags.{look}
use Rattle.rules.proofs.laws.Computing.{floats, guard_rules, impulse_rules, dc_rules, iq_rules, monitor_rules}

-- ---- guard

abbrev guard_input : List ℕ
guard_input =
    0xdbb1a2bc00000000 ∷ 0x3f00000000000000 ∷ 0x5bb1a2bdbf800000 ∷ 0x3f000000bf800000 ∷ 0x7f8000005bb1a2bc ∷ 0x3f0000005bb1a2bc ∷ 0x7fc00000dbb1a2bc ∷
    0x3f000000dbb1a2bc ∷ 0x25bb1a2bd ∷ 0x3f0000005bb1a2bd ∷ 0x7f800000 ∷ 0x3f0000007f800000 ∷ 0xbf8000007fc00000 ∷ 0x3f0000007fc00000 ∷ 0x5bb1a2bc00000002 ∷
    0x3f00000000000002 ∷ []

pub guard_usable : map usable guard_input
    ≡ true ∷ true ∷ false ∷ true ∷ false ∷ true ∷ false ∷ true ∷ false ∷ false ∷ false ∷ false ∷ false ∷ false ∷ true ∷ true ∷ []
unfolding floats guard_rules
guard_usable = refl

pub guard_replaced : guarded guard_input
    ≡ 0xdbb1a2bc00000000 ∷ 0x3f00000000000000 ∷ 0x0 ∷ 0x3f000000bf800000 ∷ 0x0 ∷ 0x3f0000005bb1a2bc ∷ 0x0 ∷ 0x3f000000dbb1a2bc ∷ 0x0 ∷ 0x0 ∷ 0x0 ∷ 0x0 ∷ 0x0 ∷
    0x0 ∷ 0x5bb1a2bc00000002 ∷ 0x3f00000000000002 ∷ []
unfolding floats guard_rules
guard_replaced = refl

pub guard_count : unusable guard_input ≡ 9
unfolding floats guard_rules
guard_count = refl

-- ---- impulse: what is handed on by known flags, and a flag that depends on the order of a sum

abbrev beside_input : List ℕ
beside_input =
    0x3f0000003f800000 ∷ 0x3f0000003f820000 ∷ 0x3f0000003f840000 ∷ 0x3f0000003f860000 ∷ 0x3f0000003f880000 ∷ 0x3f0000003f8a0000 ∷ 0x3f0000003f8c0000 ∷
    0x3f0000003f8e0000 ∷ 0x3f0000003f900000 ∷ 0x3f0000003f920000 ∷ 0x3f0000003f940000 ∷ 0x3f0000003f960000 ∷ 0xc1a0000042c80000 ∷ 0x3f0000003f9a0000 ∷
    0xc1a0000042c80000 ∷ 0x3f0000003f9e0000 ∷ 0x3f0000003fa00000 ∷ 0x3f0000003fa20000 ∷ 0x3f0000003fa40000 ∷ 0x3f0000003fa60000 ∷ 0x3f0000003fa80000 ∷
    0x3f0000003faa0000 ∷ 0x3f0000003fac0000 ∷ 0x3f0000003fae0000 ∷ 0x3f0000003fb00000 ∷ 0x3f0000003fb20000 ∷ 0x3f0000003fb40000 ∷
    0x3f0000003fb60000 ∷ 0x3f0000003fb80000 ∷ 0x3f0000003fba0000 ∷ 0x3f0000003fbc0000 ∷ 0x3f0000003fbe0000 ∷ 0x3f0000003fc00000 ∷
    0x3f0000003fc20000 ∷ 0x3f0000003fc40000 ∷ 0x3f0000003fc60000 ∷ 0x3f0000003fc80000 ∷ 0x3f0000003fca0000 ∷ 0x3f0000003fcc0000 ∷
    0x3f0000003fce0000 ∷ []

abbrev beside_flags : List Bool
beside_flags =
    false ∷ false ∷ false ∷ false ∷ false ∷ false ∷ false ∷ false ∷ false ∷ false ∷ false ∷ false ∷ true ∷ false ∷ true ∷ false ∷ false ∷ false ∷ false ∷
    false ∷ false ∷ false ∷ false ∷ false ∷ []

pub beside_handed : up_to (value (standard 48000 true) (look beside_flags) (λ b. false) beside_input 24) 19
    ≡ 0x3f0000003f800000 ∷ 0x3f0000003f820000 ∷ 0x3f0000003f840000 ∷ 0x3f0000003f860000 ∷ 0x3f0000003f880000 ∷ 0x3f0000003f8a0000 ∷ 0x3f0000003f8c0000 ∷
    0x3f0000003f8e0000 ∷ 0x3f0000003f900000 ∷ 0x3f0000003f920000 ∷ 0x3f0000003f940000 ∷ 0x3f0000003f960000 ∷ 0x3f0000003f980000 ∷ 0x3f0000003f9a0000 ∷
    0x3f0000003f9c0000 ∷ 0x3f0000003f9e0000 ∷ 0x3f0000003fa00000 ∷ 0x3f0000003fa20000 ∷ 0x3f0000003fa40000 ∷ []
unfolding floats impulse_rules
beside_handed = refl

abbrev order_input : List ℕ
order_input =
    0x41200000 ∷ 0x41200000 ∷ 0x41200000 ∷ 0x41200000 ∷ 0x41200000 ∷ 0x41200000 ∷ 0x41200000 ∷ 0x400000003f800000 ∷ 0x400000003f800000 ∷ 0x400000003f800000 ∷
    0x400000003f800000 ∷ 0x3f8000003f800000 ∷ 0x3f800000 ∷ 0x3f800000 ∷ 0x398000003f7fffff ∷ 0x33800000397fffff ∷ 0x41400000 ∷ 0x32800000 ∷ 0x32800000 ∷
    0x32800000 ∷ 0x32800000 ∷ 0x32800000 ∷ 0x32800000 ∷ 0x32800000 ∷ 0x32800000 ∷ 0x32800000 ∷ 0x32800000 ∷ 0x32800000 ∷ 0x32800000 ∷ 0x32800000 ∷
    0x32800000 ∷ 0x32800000 ∷ 0x32800000 ∷ []

pub order_flag : flagged (standard 48000 true) order_input 16 ≡ false
unfolding floats impulse_rules
order_flag = refl

-- ---- DC: levels on the way, outputs, how often the limit acted, undo

pub zero_counts : (level_after (corner (of_bits binary64 0x40e7700000000000)) first_level (0x3f000000 ∷ 0x3f000000 ∷ 0x3f800000 ∷ [])).level
    ≡ record { re = of_bits binary64 0x3fe5555555555555; im = of_bits binary64 0x0 }
unfolding floats dc_rules
zero_counts = refl

pub norm_one_clamped : clamped_steps (corner (of_bits binary64 0x40e7700000000000)) first_level (0x0 ∷ 0x328000003f800000 ∷ []) ≡ 0
unfolding floats dc_rules
norm_one_clamped = refl

pub above_one_clamped : clamped_steps (corner (of_bits binary64 0x40e7700000000000)) first_level (0x0 ∷ 0x330000003f800000 ∷ []) ≡ 1
unfolding floats dc_rules
above_one_clamped = refl

pub loud_sample_clamped : clamped_steps (corner (of_bits binary64 0x40e7700000000000)) first_level (0x3f400000 ∷ 0x3fc00000 ∷ []) ≡ 0
unfolding floats dc_rules
loud_sample_clamped = refl

pub loud_difference_clamped : clamped_steps (corner (of_bits binary64 0x40e7700000000000)) first_level (0x3f400000 ∷ 0xbf400000 ∷ []) ≡ 1
unfolding floats dc_rules
loud_difference_clamped = refl

abbrev slow_input : List ℕ
slow_input = 0x8000000000000000 ∷ 0xbde000003e9aaaab ∷ 0x3da00000be2aaaab ∷ 0x3ec800003baaaaab ∷ 0x3f0c0000be0aaaab ∷ 0x0 ∷ 0x42340000c2700000 ∷ 0x25bb1a2bc ∷ []

pub slow_level_1 : (level_after (corner (of_bits binary64 0x3ff0000000000000)) first_level (take 1 slow_input)).level
    ≡ record { re = of_bits binary64 0x0; im = of_bits binary64 0x0 }
unfolding floats dc_rules
slow_level_1 = refl

pub slow_level_3 : (level_after (corner (of_bits binary64 0x3ff0000000000000)) first_level (take 3 slow_input)).level
    ≡ record { re = of_bits binary64 0xc034081aa105d12c; im = of_bits binary64 0x401d3a91a776328b }
unfolding floats dc_rules
slow_level_3 = refl

pub slow_level_4 : (level_after (corner (of_bits binary64 0x3ff0000000000000)) first_level (take 4 slow_input)).level
    ≡ record { re = of_bits binary64 0x4023545d135372ec; im = of_bits binary64 0xc0078cdd68e92b0e }
unfolding floats dc_rules
slow_level_4 = refl

pub slow_level_6 : (level_after (corner (of_bits binary64 0x3ff0000000000000)) first_level (take 6 slow_input)).level
    ≡ record { re = of_bits binary64 0x4022d9d3b2db17aa; im = of_bits binary64 0xc00cbe7761c92eda }
unfolding floats dc_rules
slow_level_6 = refl

pub slow_level_7 : (level_after (corner (of_bits binary64 0x3ff0000000000000)) first_level (take 7 slow_input)).level
    ≡ record { re = of_bits binary64 0xc0304ff47abcd83c; im = of_bits binary64 0x402cd7e2e8d9befa }
unfolding floats dc_rules
slow_level_7 = refl

pub slow_blocked : blocked_all (corner (of_bits binary64 0x3ff0000000000000)) first_level slow_input
    ≡ 0x8000000000000000 ∷ 0xbde000003e9aaaab ∷ 0x4060e957c11a82a4 ∷ 0xc0dd548d41a04b80 ∷ 0x405f66ebc11ccd93 ∷ 0xc0f31d53419f7076 ∷ 0x42425f3cc28ad9d4 ∷
    0xc166bf175bb1a2bc ∷ []
unfolding floats dc_rules
slow_blocked = refl

pub slow_clamped : clamped_steps (corner (of_bits binary64 0x3ff0000000000000)) first_level slow_input ≡ 6
unfolding floats dc_rules
slow_clamped = refl

pub slow_restored : restored_all (corner (of_bits binary64 0x3ff0000000000000)) first_level
    (0x8000000000000000 ∷ 0xbde000003e9aaaab ∷ 0x4060e957c11a82a4 ∷ 0xc0dd548d41a04b80 ∷ 0x405f66ebc11ccd93 ∷ 0xc0f31d53419f7076 ∷ 0x42425f3cc28ad9d4 ∷
    0xc166bf175bb1a2bc ∷
    []) ≡ 0x0 ∷ 0xbde000003e9aaaab ∷ 0x3d9ffffcbe2aaaa4 ∷ 0x3ec800043baaaf7d ∷
    0x3f0bffffbe0aaa99 ∷ 0x3423b007b4aa883b ∷ 0x42340000c2700001 ∷ 0x348d9bf05bb1a2bc ∷ []
unfolding floats dc_rules
slow_restored = refl

abbrev usual_input : List ℕ
usual_input =
    0x8000000000000000 ∷ 0xbde000003e9aaaab ∷ 0x3da00000be2aaaab ∷ 0x3ec800003baaaaab ∷ 0x3f0c0000be0aaaab ∷ 0x0 ∷ 0x42340000c2700000 ∷ 0x25bb1a2bc ∷ []

pub usual_level_1 : (level_after (corner (of_bits binary64 0x40e5889000000000)) first_level (take 1 usual_input)).level
    ≡ record { re = of_bits binary64 0x0; im = of_bits binary64 0x0 }
unfolding floats dc_rules
usual_level_1 = refl

pub usual_level_3 : (level_after (corner (of_bits binary64 0x40e5889000000000)) first_level (take 3 usual_input)).level
    ≡ record { re = of_bits binary64 0x3fb1555580000000; im = of_bits binary64 0xbf90000000000000 }
unfolding floats dc_rules
usual_level_3 = refl

pub usual_level_4 : (level_after (corner (of_bits binary64 0x40e5889000000000)) first_level (take 4 usual_input)).level
    ≡ record { re = of_bits binary64 0x3fa8000040000000; im = of_bits binary64 0x3fbeaaaaaaaaaaaa }
unfolding floats dc_rules
usual_level_4 = refl

pub usual_level_6 : (level_after (corner (of_bits binary64 0x40e5889000000000)) first_level (take 6 usual_input)).level
    ≡ record { re = of_bits binary64 0x3f51111333333333; im = of_bits binary64 0x3fc7333338888888 }
unfolding floats dc_rules
usual_level_6 = refl

pub usual_level_7 : (level_after (corner (of_bits binary64 0x40e5889000000000)) first_level (take 7 usual_input)).level
    ≡ record { re = of_bits binary64 0xbfc0f54bf237e5bc; im = of_bits binary64 0x3fd1fbbfc9c541bf }
unfolding floats dc_rules
usual_level_7 = refl

pub usual_blocked : blocked_all (corner (of_bits binary64 0x40e5889000000000)) first_level usual_input
    ≡ 0x8000000000000000 ∷ 0xbde000003e9aaaab ∷ 0x3e400000bef00000 ∷ 0x3ed00000bd800001 ∷ 0x3edaaaabbe3aaaac ∷ 0xbe680000baaaaac0 ∷ 0x42334666c2700111 ∷
    0xbe8fddfe5bb1a2bc ∷ []
unfolding floats dc_rules
usual_blocked = refl

pub usual_clamped : clamped_steps (corner (of_bits binary64 0x40e5889000000000)) first_level usual_input ≡ 2
unfolding floats dc_rules
usual_clamped = refl

pub usual_restored : restored_all (corner (of_bits binary64 0x40e5889000000000)) first_level
    (0x8000000000000000 ∷ 0xbde000003e9aaaab ∷ 0x3e400000bef00000 ∷ 0x3ed00000bd800001 ∷ 0x3edaaaabbe3aaaac ∷ 0xbe680000baaaaac0 ∷ 0x42334666c2700111 ∷
    0xbe8fddfe5bb1a2bc ∷
    []) ≡ 0x0 ∷ 0xbde000003e9aaaab ∷ 0x3da00000be2aaaaa ∷ 0x3ec800003baaaab0 ∷
    0x3f0c0000be0aaaac ∷ 0x312aaaab00000000 ∷ 0x42340000c2700000 ∷ 0x321c541c5bb1a2bc ∷ []
unfolding floats dc_rules
usual_restored = refl

-- ---- IQ: coefficients, correction, undo

abbrev level_calibration : Calibration
level_calibration = record { gain = of_bits binary64 0x3ff199999999999a; phase = of_bits binary64 0x4008000000000000; centre = of_bits binary64 0x416312d000000000 }

pub level_coefficient : coefficient level_calibration ≡ record { re = of_bits binary64 0xbfa865cb3ec3cdc6; im = of_bits binary64 0x3f9ac0e7e6218dbf }
unfolding floats iq_rules
level_coefficient = refl

pub level_corrected : map (corrected (record { re = of_bits binary64 0xbfa865cb3ec3cdc6; im = of_bits binary64 0x3f9ac0e7e6218dbf }))
    (0xbf4000003e800000 ∷ 0x3f800000cd8f0d18 ∷ 0x116c2 ∷ []) ≡ 0xbf3885e23e9021ca ∷ 0x4aef31ffcd95de26 ∷ 0x800007480001240b ∷ []
unfolding floats iq_rules
level_corrected = refl

pub level_uncorrected : map (uncorrected (record { re = of_bits binary64 0xbfa865cb3ec3cdc6; im = of_bits binary64 0x3f9ac0e7e6218dbf }))
    (0xbf3885e23e9021ca ∷ 0x4aef31ffcd95de26 ∷ 0x800007480001240b ∷ []) ≡ 0xbf4000003e800000 ∷ 0x3f4d6877cd8f0d18 ∷ 0x116c2 ∷ []
unfolding floats iq_rules
level_uncorrected = refl

abbrev turned_calibration : Calibration
turned_calibration =
    record { gain = of_bits binary64 0x3fe0000000000000; phase = of_bits binary64 0xc046800000000000; centre = of_bits binary64 0x416312d000000000 }

pub turned_coefficient : coefficient turned_calibration ≡ record { re = of_bits binary64 0x3fd886a7e7c4d8c1; im = of_bits binary64 0xbfd71f92d30d4168 }
unfolding floats iq_rules
turned_coefficient = refl

pub turned_corrected : map (corrected (record { re = of_bits binary64 0x3fd886a7e7c4d8c1; im = of_bits binary64 0xbfd71f92d30d4168 }))
    (0xbf4000003e800000 ∷ 0x3f800000cd8f0d18 ∷ 0x116c2 ∷ []) ≡ 0xbf727465bdef2b03 ∷ 0xcccebd1ccd307669 ∷ 0x64b70000abef ∷ []
unfolding floats iq_rules
turned_corrected = refl

pub turned_uncorrected : map (uncorrected (record { re = of_bits binary64 0x3fd886a7e7c4d8c1; im = of_bits binary64 0xbfd71f92d30d4168 }))
    (0xbf727465bdef2b03 ∷ 0xcccebd1ccd307669 ∷ 0x64b70000abef ∷ []) ≡ 0xbf4000003e800000 ∷ 0x40ec0a7bcd8f0d18 ∷ 0x80000000000116c3 ∷ []
unfolding floats iq_rules
turned_uncorrected = refl

abbrev steep_calibration : Calibration
steep_calibration = record { gain = of_bits binary64 0x4000000000000000; phase = of_bits binary64 0x4046733333333333; centre = of_bits binary64 0x416312d000000000 }

pub steep_coefficient : coefficient steep_calibration ≡ record { re = of_bits binary64 0xbfd882b3db33d049; im = of_bits binary64 0x3fd711831fe4999c }
unfolding floats iq_rules
steep_coefficient = refl

pub steep_corrected : map (corrected (record { re = of_bits binary64 0xbfd882b3db33d049; im = of_bits binary64 0x3fd711831fe4999c }))
    (0xbf4000003e800000 ∷ 0x3f800000cd8f0d18 ∷ 0x116c2 ∷ []) ≡ 0xbf0d89683f1db73d ∷ 0x4cce3f65cdc5d626 ∷ 0x8000647a00018184 ∷ []
unfolding floats iq_rules
steep_corrected = refl

pub steep_uncorrected : map (uncorrected (record { re = of_bits binary64 0xbfd882b3db33d049; im = of_bits binary64 0x3fd711831fe4999c }))
    (0xbf0d89683f1db73d ∷ 0x4cce3f65cdc5d626 ∷ 0x8000647a00018184 ∷ []) ≡ 0xbf4000013e7ffffe ∷ 0xc023a8c5cd8f0d18 ∷ 0x80000000000116c2 ∷ []
unfolding floats iq_rules
steep_uncorrected = refl

abbrev plain_calibration : Calibration
plain_calibration = record { gain = of_bits binary64 0x3ff0000000000000; phase = of_bits binary64 0x0; centre = of_bits binary64 0x416312d000000000 }

pub plain_coefficient : coefficient plain_calibration ≡ record { re = of_bits binary64 0x0; im = of_bits binary64 0x0 }
unfolding floats iq_rules
plain_coefficient = refl

pub plain_corrected : map (corrected (record { re = of_bits binary64 0x0; im = of_bits binary64 0x0 })) (0xbf4000003e800000 ∷ 0x3f800000cd8f0d18 ∷ 0x116c2 ∷ [])
    ≡ 0xbf4000003e800000 ∷ 0x3f800000cd8f0d18 ∷ 0x116c2 ∷ []
unfolding floats iq_rules
plain_corrected = refl

pub plain_uncorrected : map (uncorrected (record { re = of_bits binary64 0x0; im = of_bits binary64 0x0 }))
    (0xbf4000003e800000 ∷ 0x3f800000cd8f0d18 ∷ 0x116c2 ∷ []) ≡ 0xbf4000003e800000 ∷ 0x3f800000cd8f0d18 ∷ 0x116c2 ∷ []
unfolding floats iq_rules
plain_uncorrected = refl

-- ---- the mirror monitor: answers, and the words at the end

abbrev odd_hops : List Hop
odd_hops =
    record {
      start = 0;
      channels =
          0xbc640000bc740000 ∷ 0xbbb800003c180000 ∷ 0x3bd80000bc500000 ∷ 0xbe0000003e800000 ∷ 0x3bf00000ba800000 ∷ 0x3bf800003c3c0000 ∷ 0x3f80000040000000 ∷
          0x3a800000bb000000 ∷ 0xbc000000bbe00000 ∷ [];
    } ∷ record {
      start = 2;
      channels =
          0xbc1400003c580000 ∷ 0x3bf00000bba00000 ∷ 0x3c780000bc5c0000 ∷ 0xbe0000003e800000 ∷ 0xbc8000003c2c0000 ∷ 0xbbc00000bac00000 ∷
          0x3f80000040000000 ∷ 0x39800000bc080000 ∷ 0xbb3000003ac00000 ∷ [];
    } ∷ record {
      start = 5;
      channels =
          0xbc7000003b200000 ∷ 0xbb600000bb980000 ∷ 0xbc2c00003be00000 ∷ 0xbe0000003e800000 ∷ 0xbbe00000bc4c0000 ∷ 0x3c200000b9800000 ∷
          0x3f80000040000000 ∷ 0x3a8000003b400000 ∷ 0xbaa000003c700000 ∷ [];
    } ∷ record {
      start = 9;
      channels =
          0x3c240000bc4c0000 ∷ 0x3b0000003c440000 ∷ 0x3c2c0000bc3c0000 ∷ 0xbe0000003e800000 ∷ 0xbc4800003b980000 ∷ 0x3b100000bba80000 ∷
          0x3f80000040000000 ∷ 0x3be800003b200000 ∷ 0xbc5000003c100000 ∷ [];
    } ∷ []

pub odd_evidence : answers 9 (window_length (of_bits binary64 0x3ff0000000000000)) [] odd_hops
    ≡ (no_report) ∷ (no_report) ∷
    (report (record {
      start = 0;
      end = 7;
      suspected = false;
      coherence = of_bits binary64 0x0;
      floor = of_bits binary64 0x3f44030000000000;
      strongest =
          of_bits binary64 0x0;
      mirror = of_bits binary64 0x0;
    })) ∷ (no_report) ∷ []
unfolding floats monitor_rules
odd_evidence = refl

pub odd_words : monitor_words 9 (open_window 9 (window_length (of_bits binary64 0x3ff0000000000000)) [] odd_hops)
    ≡ (of_bits binary64 0x3f30ba0000000000) ∷ (of_bits binary64 0x3f23420000000000) ∷ (of_bits binary64 0x3f2fb40000000000) ∷
    (of_bits binary64 0x3fb4000000000000) ∷ (of_bits binary64 0x3f265a0000000000) ∷ (of_bits binary64 0x3f00500000000000) ∷
    (of_bits binary64 0x4014000000000000) ∷ (of_bits binary64 0x3f0d680000000000) ∷ (of_bits binary64 0x3f2f400000000000) ∷
    (of_bits binary64 0x3f0cc00000000000) ∷ (of_bits binary64 0x3f21080000000000) ∷ (of_bits binary64 0xbf1ad40000000000) ∷
    (of_bits binary64 0x3fe4000000000000) ∷ (of_bits binary64 0x3ec9800000000000) ∷ (of_bits binary64 0x3ec9800000000000) ∷
    (of_bits binary64 0x3fe4000000000000) ∷ (of_bits binary64 0xbf1ad40000000000) ∷ (of_bits binary64 0x3f21080000000000) ∷
    (of_bits binary64 0xbf30560000000000) ∷ (of_bits binary64 0xbf21a80000000000) ∷ (of_bits binary64 0xbf0d280000000000) ∷
    (of_bits binary64 0x0) ∷ (of_bits binary64 0x3f13140000000000) ∷ (of_bits binary64 0x3f13140000000000) ∷ (of_bits binary64 0x0) ∷
    (of_bits binary64 0xbf0d280000000000) ∷ (of_bits binary64 0xbf21a80000000000) ∷ (of_bits binary64 0x0) ∷
    (of_bits binary64 0x0) ∷ (of_bits binary64 0x0) ∷ (of_bits binary64 0x0) ∷ (of_bits binary64 0x0) ∷ (of_bits binary64 0x0) ∷
    (of_bits binary64 0x0) ∷ (of_bits binary64 0x0) ∷ (of_bits binary64 0x0) ∷ []
unfolding floats monitor_rules
odd_words = refl

abbrev even_hops : List Hop
even_hops =
    record {
      start = 3;
      channels =
          0x3c580000bc3c0000 ∷ 0x3c5c00003c040000 ∷ 0xbb9000003c4c0000 ∷ 0xbe0000003e800000 ∷ 0xc000000041100000 ∷ 0xc000000041100000 ∷ 0x3c800000bc100000 ∷
          0xbc300000bb400000 ∷ 0x3a4000003b300000 ∷ 0x3c240000bb500000 ∷ 0xbc7400003c600000 ∷ 0x3f0000003f000000 ∷ 0x3a800000bc1c0000 ∷ 0x3f80000040000000 ∷
          0xbc4c0000bc140000 ∷ 0xbb800000bc440000 ∷ [];
    } ∷ record {
      start = 7;
      channels =
          0x3c440000bc440000 ∷ 0x3c1c00003c700000 ∷ 0x3c0c0000bc080000 ∷ 0xbe0000003e800000 ∷ 0xc000000041100000 ∷ 0xc000000041100000 ∷
          0x3bf80000bb100000 ∷ 0x3ba00000bc100000 ∷ 0xbc180000ba400000 ∷ 0xbc6c00003c700000 ∷ 0x3a0000003bf80000 ∷ 0x3f0000003f000000 ∷
          0xbbd800003c6c0000 ∷ 0x3f80000040000000 ∷ 0xbb100000bc5c0000 ∷ 0x3c6000003bd00000 ∷ [];
    } ∷ record {
      start = 20;
      channels =
          0x3a0000003c180000 ∷ 0xbae00000bbe80000 ∷ 0x3ae000003c300000 ∷ 0xbe0000003e800000 ∷ 0xc000000041100000 ∷ 0xc000000041100000 ∷
          0x3c240000bc600000 ∷ 0x3c2400003a800000 ∷ 0xbc780000bbe00000 ∷ 0x3be00000bc740000 ∷ 0xbb9800003c180000 ∷
          0x3f0000003f000000 ∷ 0x3b100000bbd00000 ∷ 0x3f80000040000000 ∷ 0xbac00000bc100000 ∷ 0xbc3800003b700000 ∷ [];
    } ∷ []

pub even_evidence : answers 16 (window_length (of_bits binary64 0x3ff0000000000000)) [] even_hops
    ≡ (no_report) ∷
    (report (record {
      start = 3;
      end = 11;
      suspected = true;
      coherence = of_bits binary64 0x3ff0000000000000;
      floor = of_bits binary64 0x3f405c4000000000;
      strongest =
          of_bits binary64 0x4065400000000000;
      mirror = of_bits binary64 0x3ff0000000000000;
    })) ∷ (no_report) ∷ []
unfolding floats monitor_rules
even_evidence = refl

pub even_words : monitor_words 16 (open_window 16 (window_length (of_bits binary64 0x3ff0000000000000)) [] even_hops)
    ≡ (of_bits binary64 0x3f16a00000000000) ∷ (of_bits binary64 0x3f0bd00000000000) ∷ (of_bits binary64 0x3f1f040000000000) ∷
    (of_bits binary64 0x3fb4000000000000) ∷ (of_bits binary64 0x4055400000000000) ∷ (of_bits binary64 0x4055400000000000) ∷
    (of_bits binary64 0x3f32d10000000000) ∷ (of_bits binary64 0x3f1a840000000000) ∷ (of_bits binary64 0x3f32140000000000) ∷
    (of_bits binary64 0x3f31990000000000) ∷ (of_bits binary64 0x3f1c340000000000) ∷ (of_bits binary64 0x3fe0000000000000) ∷
    (of_bits binary64 0x3f07a80000000000) ∷ (of_bits binary64 0x4014000000000000) ∷ (of_bits binary64 0x3f14d00000000000) ∷
    (of_bits binary64 0x3f224a0000000000) ∷ (of_bits binary64 0x3f16800000000000) ∷ (of_bits binary64 0xbf07a80000000000) ∷
    (of_bits binary64 0xbf18180000000000) ∷ (of_bits binary64 0x3fe4000000000000) ∷ (of_bits binary64 0xbfab000000000000) ∷
    (of_bits binary64 0x4016000000000000) ∷ (of_bits binary64 0xbf15140000000000) ∷ (of_bits binary64 0xbf15c00000000000) ∷
    (of_bits binary64 0xbf27e80000000000) ∷ (of_bits binary64 0xbf15c00000000000) ∷ (of_bits binary64 0xbf15140000000000) ∷
    (of_bits binary64 0x4016000000000000) ∷ (of_bits binary64 0xbfab000000000000) ∷ (of_bits binary64 0x3fe4000000000000) ∷
    (of_bits binary64 0xbf18180000000000) ∷ (of_bits binary64 0xbf07a80000000000) ∷ (of_bits binary64 0x3ee3000000000000) ∷
    (of_bits binary64 0x3f13340000000000) ∷ (of_bits binary64 0xbf00200000000000) ∷ (of_bits binary64 0x0) ∷
    (of_bits binary64 0x3fa0a00000000000) ∷ (of_bits binary64 0x400c000000000000) ∷
    (of_bits binary64 0x3f247c0000000000) ∷ (of_bits binary64 0xbf22aa0000000000) ∷
    (of_bits binary64 0x3f2b200000000000) ∷ (of_bits binary64 0xbf22aa0000000000) ∷
    (of_bits binary64 0x3f247c0000000000) ∷ (of_bits binary64 0x400c000000000000) ∷
    (of_bits binary64 0x3fa0a00000000000) ∷ (of_bits binary64 0x0) ∷
    (of_bits binary64 0xbf00200000000000) ∷ (of_bits binary64 0x3f13340000000000) ∷
    (of_bits binary64 0x0) ∷ (of_bits binary64 0x0) ∷ (of_bits binary64 0x0) ∷
    (of_bits binary64 0x0) ∷ (of_bits binary64 0x0) ∷ (of_bits binary64 0x0) ∷
    (of_bits binary64 0x0) ∷ (of_bits binary64 0x0) ∷ (of_bits binary64 0x0) ∷
    (of_bits binary64 0x0) ∷ (of_bits binary64 0x0) ∷ (of_bits binary64 0x0) ∷
    (of_bits binary64 0x0) ∷ (of_bits binary64 0x0) ∷
    (of_bits binary64 0x0) ∷ (of_bits binary64 0x0) ∷ []
unfolding floats monitor_rules
even_words = refl
