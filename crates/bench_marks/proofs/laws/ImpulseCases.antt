-- Closed cases of the impulse stage's rules, computed: flags, and by the flags what is handed on, repairs, rings of spans and of repairs,
-- long runs. The answers are those of the Rust original, and of the second reading for flags and ring words.
-- Made by `cd oracle && cargo run --release --bin closed_cases impulse`. Assumes nothing.
use Rattle.std.specs.Prelude.{◌≡◌, refl, Bool, true, false, List, [], ◌∷◌, ℕ}
use Rattle.std.proofs.Common.{ap, ◌∙◌}
use Rattle.rules.specs.Lists.{up_to}
use Rattle.rules.specs.Pauses.{first, always, paused}
use Rattle.rules.specs.Impulse.{Setting, standard, Event, value, events, happened, handed_on}
use Rattle.rules.specs.Log.{marked, repaired, Repaired, Flagged, Uncertain, marks_of, repairs_of, long_runs}
use Rattle.rules.proofs.laws.ByFlags.{from, flags_of, look, happened_by, handed_by}
use Rattle.rules.proofs.laws.Computing.{floats, impulse_rules, log_rules}

abbrev paused_setting : Setting
paused_setting = standard 7 true

abbrev paused_input : List ℕ
paused_input =
    0x3f800000 ∷ 0x3f800000 ∷ 0x3f800000 ∷ 0x3f800000 ∷ 0x3f800000 ∷ 0x3f800000 ∷ 0x3f800000 ∷ 0x3f800000 ∷ 0x3f800000 ∷ 0xc1a0000042c80000 ∷ 0x3f800000 ∷
    0x3f800000 ∷ 0x3f800000 ∷ 0x3f800000 ∷ 0x3f800000 ∷ 0x3f800000 ∷ 0xc1a0000042c80000 ∷ 0xc1a0000042c80000 ∷ 0xc1a0000042c80000 ∷ 0xc1a0000042c80000 ∷
    0x3f800000 ∷ 0x3f800000 ∷ 0x3f800000 ∷ 0x3f800000 ∷ 0xc1a0000042c80000 ∷ 0xc1a0000042c80000 ∷ 0xc1a0000042c80000 ∷ 0xc1a0000042c80000 ∷
    0xc1a0000042c80000 ∷ 0x3f800000 ∷ 0x3f800000 ∷ 0x3f800000 ∷ 0x3f800000 ∷ 0x3f800000 ∷ 0x3f800000 ∷ 0x3f800000 ∷ 0x3f800000 ∷ 0x3f800000 ∷
    0xc1a0000042c80000 ∷ 0xc1a0000042c80000 ∷ 0x3f800000 ∷ 0x3f800000 ∷ 0x3f800000 ∷ 0x3f800000 ∷ 0x3f800000 ∷ 0x3f800000 ∷ 0x3f800000 ∷
    0x3f800000 ∷ 0x3f800000 ∷ 0x3f800000 ∷ 0x3f800000 ∷ 0x3f800000 ∷ 0x3f800000 ∷ 0x3f800000 ∷ 0x3f800000 ∷ 0x3f800000 ∷ 0x3f800000 ∷
    0x3f800000 ∷ []

abbrev paused_flags : List Bool
paused_flags =
    false ∷ false ∷ false ∷ false ∷ false ∷ false ∷ false ∷ false ∷ false ∷ true ∷ false ∷ false ∷ false ∷ false ∷ false ∷ false ∷ false ∷ false ∷ false ∷
    false ∷ false ∷ false ∷ false ∷ false ∷ false ∷ false ∷ false ∷ false ∷ false ∷ false ∷ false ∷ false ∷ false ∷ false ∷ false ∷ false ∷ false ∷ false ∷
    true ∷ true ∷ false ∷ false ∷ []

abbrev paused_blocks : ℕ → Bool
paused_blocks = paused (always first) paused_setting.block (look paused_flags)

pub paused_flags_lem : flags_of paused_setting paused_input ≡ from (look paused_flags) 42 0
unfolding floats impulse_rules flags_of from
paused_flags_lem = refl

paused_handed_known : up_to (value paused_setting (look paused_flags) paused_blocks paused_input 42) 37
    ≡ 0x3f800000 ∷ 0x3f800000 ∷ 0x3f800000 ∷ 0x3f800000 ∷ 0x3f800000 ∷ 0x3f800000 ∷ 0x3f800000 ∷ 0x3f800000 ∷ 0x3f800000 ∷ 0x3f800000 ∷ 0x3f800000 ∷
    0x3f800000 ∷ 0x3f800000 ∷ 0x3f800000 ∷ 0x3f800000 ∷ 0x3f800000 ∷ 0xc1a0000042c80000 ∷ 0xc1a0000042c80000 ∷ 0xc1a0000042c80000 ∷ 0xc1a0000042c80000 ∷
    0x3f800000 ∷ 0x3f800000 ∷ 0x3f800000 ∷ 0x3f800000 ∷ 0xc1a0000042c80000 ∷ 0xc1a0000042c80000 ∷ 0xc1a0000042c80000 ∷ 0xc1a0000042c80000 ∷
    0xc1a0000042c80000 ∷ 0x3f800000 ∷ 0x3f800000 ∷ 0x3f800000 ∷ 0x3f800000 ∷ 0x3f800000 ∷ 0x3f800000 ∷ 0x3f800000 ∷ 0x3f800000 ∷ []
unfolding floats impulse_rules log_rules
paused_handed_known = refl

pub paused_handed : handed_on paused_setting (always first) paused_input
    ≡ 0x3f800000 ∷ 0x3f800000 ∷ 0x3f800000 ∷ 0x3f800000 ∷ 0x3f800000 ∷ 0x3f800000 ∷ 0x3f800000 ∷ 0x3f800000 ∷ 0x3f800000 ∷ 0x3f800000 ∷ 0x3f800000 ∷
    0x3f800000 ∷ 0x3f800000 ∷ 0x3f800000 ∷ 0x3f800000 ∷ 0x3f800000 ∷ 0xc1a0000042c80000 ∷ 0xc1a0000042c80000 ∷ 0xc1a0000042c80000 ∷ 0xc1a0000042c80000 ∷
    0x3f800000 ∷ 0x3f800000 ∷ 0x3f800000 ∷ 0x3f800000 ∷ 0xc1a0000042c80000 ∷ 0xc1a0000042c80000 ∷ 0xc1a0000042c80000 ∷ 0xc1a0000042c80000 ∷
    0xc1a0000042c80000 ∷ 0x3f800000 ∷ 0x3f800000 ∷ 0x3f800000 ∷ 0x3f800000 ∷ 0x3f800000 ∷ 0x3f800000 ∷ 0x3f800000 ∷ 0x3f800000 ∷ []
paused_handed = handed_by paused_setting (always first) paused_input (look paused_flags) paused_flags_lem ∙ paused_handed_known

paused_repairs_known : repairs_of (events paused_setting (look paused_flags) paused_blocks paused_input 42)
    ≡ (0x9 ∷ 0x1 ∷ 0xc1a0000042c80000 ∷ 0x0 ∷ 0x0 ∷ 0x0 ∷ []) ∷ (0x26 ∷ 0x2 ∷ 0xc1a0000042c80000 ∷ 0xc1a0000042c80000 ∷ 0x0 ∷ 0x0 ∷ []) ∷ []
unfolding floats impulse_rules log_rules
paused_repairs_known = refl

pub paused_repairs : repairs_of (happened paused_setting (always first) paused_input)
    ≡ (0x9 ∷ 0x1 ∷ 0xc1a0000042c80000 ∷ 0x0 ∷ 0x0 ∷ 0x0 ∷ []) ∷ (0x26 ∷ 0x2 ∷ 0xc1a0000042c80000 ∷ 0xc1a0000042c80000 ∷ 0x0 ∷ 0x0 ∷ []) ∷ []
paused_repairs = ap (λ (es : List Event). repairs_of es) (happened_by paused_setting (always first) paused_input (look paused_flags) paused_flags_lem) ∙ paused_repairs_known

paused_long_known : long_runs (events paused_setting (look paused_flags) paused_blocks paused_input 42) ≡ 0
unfolding floats impulse_rules log_rules
paused_long_known = refl

pub paused_long : long_runs (happened paused_setting (always first) paused_input) ≡ 0
paused_long = ap (λ (es : List Event). long_runs es) (happened_by paused_setting (always first) paused_input (look paused_flags) paused_flags_lem) ∙ paused_long_known

paused_repaired_known : marked 2 (marks_of Repaired (events paused_setting (look paused_flags) paused_blocks paused_input 42))
    ≡ record { samples = 3; ring = record { head = 0; count = 2; dropped = 0; words = 0x9 ∷ 0x1 ∷ 0x26 ∷ 0x2 ∷ [] } }
unfolding floats impulse_rules log_rules
paused_repaired_known = refl

pub paused_repaired : marked 2 (marks_of Repaired (happened paused_setting (always first) paused_input))
    ≡ record { samples = 3; ring = record { head = 0; count = 2; dropped = 0; words = 0x9 ∷ 0x1 ∷ 0x26 ∷ 0x2 ∷ [] } }
paused_repaired = ap (λ (es : List Event). marked 2 (marks_of Repaired es)) (happened_by paused_setting (always first) paused_input (look paused_flags) paused_flags_lem)
    ∙ paused_repaired_known

paused_flagged_known : marked 2 (marks_of Flagged (events paused_setting (look paused_flags) paused_blocks paused_input 42))
    ≡ record { samples = 0; ring = record { head = 0; count = 0; dropped = 0; words = 0x0 ∷ 0x0 ∷ 0x0 ∷ 0x0 ∷ [] } }
unfolding floats impulse_rules log_rules
paused_flagged_known = refl

pub paused_flagged : marked 2 (marks_of Flagged (happened paused_setting (always first) paused_input))
    ≡ record { samples = 0; ring = record { head = 0; count = 0; dropped = 0; words = 0x0 ∷ 0x0 ∷ 0x0 ∷ 0x0 ∷ [] } }
paused_flagged = ap (λ (es : List Event). marked 2 (marks_of Flagged es)) (happened_by paused_setting (always first) paused_input (look paused_flags) paused_flags_lem)
    ∙ paused_flagged_known

paused_uncertain_known : marked 2 (marks_of Uncertain (events paused_setting (look paused_flags) paused_blocks paused_input 42))
    ≡ record { samples = 7; ring = record { head = 0; count = 1; dropped = 0; words = 0xe ∷ 0x7 ∷ 0x0 ∷ 0x0 ∷ [] } }
unfolding floats impulse_rules log_rules
paused_uncertain_known = refl

pub paused_uncertain : marked 2 (marks_of Uncertain (happened paused_setting (always first) paused_input))
    ≡ record { samples = 7; ring = record { head = 0; count = 1; dropped = 0; words = 0xe ∷ 0x7 ∷ 0x0 ∷ 0x0 ∷ [] } }
paused_uncertain = ap (λ (es : List Event). marked 2 (marks_of Uncertain es)) (happened_by paused_setting (always first) paused_input (look paused_flags) paused_flags_lem)
    ∙ paused_uncertain_known

paused_ring_known : repaired 3 (repairs_of (events paused_setting (look paused_flags) paused_blocks paused_input 42))
    ≡ record {
      head = 0;
      count = 2;
      dropped = 0;
      words =
          0x9 ∷ 0x1 ∷ 0xc1a0000042c80000 ∷ 0x0 ∷ 0x0 ∷ 0x0 ∷ 0x26 ∷ 0x2 ∷ 0xc1a0000042c80000 ∷ 0xc1a0000042c80000 ∷ 0x0 ∷ 0x0 ∷ 0x0 ∷ 0x0 ∷ 0x0 ∷ 0x0 ∷ 0x0 ∷
          0x0 ∷ [];
    }
unfolding floats impulse_rules log_rules
paused_ring_known = refl

pub paused_ring : repaired 3 (repairs_of (happened paused_setting (always first) paused_input))
    ≡ record {
      head = 0;
      count = 2;
      dropped = 0;
      words =
          0x9 ∷ 0x1 ∷ 0xc1a0000042c80000 ∷ 0x0 ∷ 0x0 ∷ 0x0 ∷ 0x26 ∷ 0x2 ∷ 0xc1a0000042c80000 ∷ 0xc1a0000042c80000 ∷ 0x0 ∷ 0x0 ∷ 0x0 ∷ 0x0 ∷ 0x0 ∷ 0x0 ∷ 0x0 ∷
          0x0 ∷ [];
    }
paused_ring = ap (λ (es : List Event). repaired 3 (repairs_of es)) (happened_by paused_setting (always first) paused_input (look paused_flags) paused_flags_lem) ∙ paused_ring_known

abbrev noise_setting : Setting
noise_setting = standard 48000 true

abbrev noise_input : List ℕ
noise_input =
    0xc0f0000041f00000 ∷ 0x3ec800003ee00000 ∷ 0xbf3000003e600000 ∷ 0x3ea800003f800000 ∷ 0xbe7000003f540000 ∷ 0xbe7000003f580000 ∷ 0x3f780000bf680000 ∷
    0x3e980000bd400000 ∷ 0x3d800000bf800000 ∷ 0xbf540000bef80000 ∷ 0x3e800000bea00000 ∷ 0xbf040000bef00000 ∷ 0xc0f0000042280000 ∷ 0xbf74000000000000 ∷
    0xc0f0000042300000 ∷ 0x3f4800003f6c0000 ∷ 0x3f4000003f800000 ∷ 0x3f780000bf540000 ∷ 0x3f6400003e600000 ∷ 0xbf4c0000bf400000 ∷ 0xbf2c00003f4c0000 ∷
    0xbde000003f680000 ∷ 0x3f280000be500000 ∷ 0x3f340000bf4c0000 ∷ 0x3e9800003f000000 ∷ 0x3f2400003f800000 ∷ 0xbec800003f300000 ∷
    0xbee800003e700000 ∷ 0xbf3400003ea00000 ∷ 0xbf4000003f000000 ∷ 0xc0f0000042700000 ∷ 0xc0f0000042740000 ∷ 0xc0f0000042780000 ∷
    0xbea000003d000000 ∷ 0xbf780000bf400000 ∷ 0xbf3c0000bf440000 ∷ 0x3f3000003f180000 ∷ 0xbf440000bf000000 ∷ 0x3f7000003e900000 ∷
    0xbf000000 ∷ 0xc0f00000428c0000 ∷ 0x3e0000003f480000 ∷ 0xbe500000bf680000 ∷ 0xc0f0000042920000 ∷ 0x3e8000003ec00000 ∷
    0x3f1c00003f800000 ∷ 0x3de00000bea00000 ∷ 0x3e8800003f180000 ∷ 0xbdc000003f500000 ∷ 0x3e880000bf540000 ∷ 0x3e400000bf540000 ∷
    0xbe600000bf080000 ∷ 0xbee800003da00000 ∷ 0x3f7c00003f380000 ∷ 0xbde000003f600000 ∷ 0xbea80000bf0c0000 ∷
    0x3f7400003ef00000 ∷ 0x3f380000bef00000 ∷ 0x3f5c0000bf7c0000 ∷ 0xbea00000bd000000 ∷ []

abbrev noise_flags : List Bool
noise_flags =
    true ∷ false ∷ false ∷ false ∷ false ∷ false ∷ false ∷ false ∷ false ∷ false ∷ false ∷ false ∷ true ∷ false ∷ true ∷ false ∷ false ∷ false ∷ false ∷ false ∷
    false ∷ false ∷ false ∷ false ∷ false ∷ false ∷ false ∷ false ∷ false ∷ false ∷ true ∷ true ∷ true ∷ false ∷ false ∷ false ∷ false ∷ false ∷ false ∷
    false ∷ true ∷ false ∷ false ∷ true ∷ []

abbrev noise_blocks : ℕ → Bool
noise_blocks = paused (always first) noise_setting.block (look noise_flags)

pub noise_flags_lem : flags_of noise_setting noise_input ≡ from (look noise_flags) 44 0
unfolding floats impulse_rules flags_of from
noise_flags_lem = refl

noise_handed_known : up_to (value noise_setting (look noise_flags) noise_blocks noise_input 44) 39
    ≡ 0x3ec800003ee00000 ∷ 0x3ec800003ee00000 ∷ 0xbf3000003e600000 ∷ 0x3ea800003f800000 ∷ 0xbe7000003f540000 ∷ 0xbe7000003f580000 ∷ 0x3f780000bf680000 ∷
    0x3e980000bd400000 ∷ 0x3d800000bf800000 ∷ 0xbf540000bef80000 ∷ 0x3e800000bea00000 ∷ 0xbf040000bef00000 ∷ 0xbf3c0000be700000 ∷ 0xbf74000000000000 ∷
    0xbdb000003eec0000 ∷ 0x3f4800003f6c0000 ∷ 0x3f4000003f800000 ∷ 0x3f780000bf540000 ∷ 0x3f6400003e600000 ∷ 0xbf4c0000bf400000 ∷ 0xbf2c00003f4c0000 ∷
    0xbde000003f680000 ∷ 0x3f280000be500000 ∷ 0x3f340000bf4c0000 ∷ 0x3e9800003f000000 ∷ 0x3f2400003f800000 ∷ 0xbec800003f300000 ∷
    0xbee800003e700000 ∷ 0xbf3400003ea00000 ∷ 0xbf4000003f000000 ∷ 0xbf2400003ec40000 ∷ 0xbf0800003e880000 ∷ 0xbed800003e180000 ∷
    0xbea000003d000000 ∷ 0xbf780000bf400000 ∷ 0xbf3c0000bf440000 ∷ 0x3f3000003f180000 ∷ 0xbf440000bf000000 ∷ 0x3f7000003e900000 ∷ []
unfolding floats impulse_rules log_rules
noise_handed_known = refl

pub noise_handed : handed_on noise_setting (always first) noise_input
    ≡ 0x3ec800003ee00000 ∷ 0x3ec800003ee00000 ∷ 0xbf3000003e600000 ∷ 0x3ea800003f800000 ∷ 0xbe7000003f540000 ∷ 0xbe7000003f580000 ∷ 0x3f780000bf680000 ∷
    0x3e980000bd400000 ∷ 0x3d800000bf800000 ∷ 0xbf540000bef80000 ∷ 0x3e800000bea00000 ∷ 0xbf040000bef00000 ∷ 0xbf3c0000be700000 ∷ 0xbf74000000000000 ∷
    0xbdb000003eec0000 ∷ 0x3f4800003f6c0000 ∷ 0x3f4000003f800000 ∷ 0x3f780000bf540000 ∷ 0x3f6400003e600000 ∷ 0xbf4c0000bf400000 ∷ 0xbf2c00003f4c0000 ∷
    0xbde000003f680000 ∷ 0x3f280000be500000 ∷ 0x3f340000bf4c0000 ∷ 0x3e9800003f000000 ∷ 0x3f2400003f800000 ∷ 0xbec800003f300000 ∷
    0xbee800003e700000 ∷ 0xbf3400003ea00000 ∷ 0xbf4000003f000000 ∷ 0xbf2400003ec40000 ∷ 0xbf0800003e880000 ∷ 0xbed800003e180000 ∷
    0xbea000003d000000 ∷ 0xbf780000bf400000 ∷ 0xbf3c0000bf440000 ∷ 0x3f3000003f180000 ∷ 0xbf440000bf000000 ∷ 0x3f7000003e900000 ∷ []
noise_handed = handed_by noise_setting (always first) noise_input (look noise_flags) noise_flags_lem ∙ noise_handed_known

noise_repairs_known : repairs_of (events noise_setting (look noise_flags) noise_blocks noise_input 44)
    ≡ (0x0 ∷ 0x1 ∷ 0xc0f0000041f00000 ∷ 0x0 ∷ 0x0 ∷ 0x0 ∷ []) ∷ (0xc ∷ 0x1 ∷ 0xc0f0000042280000 ∷ 0x0 ∷ 0x0 ∷ 0x0 ∷ []) ∷
    (0xe ∷ 0x1 ∷ 0xc0f0000042300000 ∷ 0x0 ∷ 0x0 ∷ 0x0 ∷ []) ∷ (0x1e ∷ 0x3 ∷ 0xc0f0000042700000 ∷ 0xc0f0000042740000 ∷ 0xc0f0000042780000 ∷ 0x0 ∷ []) ∷
    (0x28 ∷ 0x1 ∷ 0xc0f00000428c0000 ∷ 0x0 ∷ 0x0 ∷ 0x0 ∷ []) ∷ []
unfolding floats impulse_rules log_rules
noise_repairs_known = refl

pub noise_repairs : repairs_of (happened noise_setting (always first) noise_input)
    ≡ (0x0 ∷ 0x1 ∷ 0xc0f0000041f00000 ∷ 0x0 ∷ 0x0 ∷ 0x0 ∷ []) ∷ (0xc ∷ 0x1 ∷ 0xc0f0000042280000 ∷ 0x0 ∷ 0x0 ∷ 0x0 ∷ []) ∷
    (0xe ∷ 0x1 ∷ 0xc0f0000042300000 ∷ 0x0 ∷ 0x0 ∷ 0x0 ∷ []) ∷ (0x1e ∷ 0x3 ∷ 0xc0f0000042700000 ∷ 0xc0f0000042740000 ∷ 0xc0f0000042780000 ∷ 0x0 ∷ []) ∷
    (0x28 ∷ 0x1 ∷ 0xc0f00000428c0000 ∷ 0x0 ∷ 0x0 ∷ 0x0 ∷ []) ∷ []
noise_repairs = ap (λ (es : List Event). repairs_of es) (happened_by noise_setting (always first) noise_input (look noise_flags) noise_flags_lem) ∙ noise_repairs_known

noise_long_known : long_runs (events noise_setting (look noise_flags) noise_blocks noise_input 44) ≡ 0
unfolding floats impulse_rules log_rules
noise_long_known = refl

pub noise_long : long_runs (happened noise_setting (always first) noise_input) ≡ 0
noise_long = ap (λ (es : List Event). long_runs es) (happened_by noise_setting (always first) noise_input (look noise_flags) noise_flags_lem) ∙ noise_long_known

noise_repaired_known : marked 3 (marks_of Repaired (events noise_setting (look noise_flags) noise_blocks noise_input 44))
    ≡ record { samples = 7; ring = record { head = 2; count = 3; dropped = 2; words = 0x1e ∷ 0x3 ∷ 0x28 ∷ 0x1 ∷ 0xe ∷ 0x1 ∷ [] } }
unfolding floats impulse_rules log_rules
noise_repaired_known = refl

pub noise_repaired : marked 3 (marks_of Repaired (happened noise_setting (always first) noise_input))
    ≡ record { samples = 7; ring = record { head = 2; count = 3; dropped = 2; words = 0x1e ∷ 0x3 ∷ 0x28 ∷ 0x1 ∷ 0xe ∷ 0x1 ∷ [] } }
noise_repaired = ap (λ (es : List Event). marked 3 (marks_of Repaired es)) (happened_by noise_setting (always first) noise_input (look noise_flags) noise_flags_lem)
    ∙ noise_repaired_known

noise_flagged_known : marked 3 (marks_of Flagged (events noise_setting (look noise_flags) noise_blocks noise_input 44))
    ≡ record { samples = 0; ring = record { head = 0; count = 0; dropped = 0; words = 0x0 ∷ 0x0 ∷ 0x0 ∷ 0x0 ∷ 0x0 ∷ 0x0 ∷ [] } }
unfolding floats impulse_rules log_rules
noise_flagged_known = refl

pub noise_flagged : marked 3 (marks_of Flagged (happened noise_setting (always first) noise_input))
    ≡ record { samples = 0; ring = record { head = 0; count = 0; dropped = 0; words = 0x0 ∷ 0x0 ∷ 0x0 ∷ 0x0 ∷ 0x0 ∷ 0x0 ∷ [] } }
noise_flagged = ap (λ (es : List Event). marked 3 (marks_of Flagged es)) (happened_by noise_setting (always first) noise_input (look noise_flags) noise_flags_lem)
    ∙ noise_flagged_known

noise_uncertain_known : marked 3 (marks_of Uncertain (events noise_setting (look noise_flags) noise_blocks noise_input 44))
    ≡ record { samples = 0; ring = record { head = 0; count = 0; dropped = 0; words = 0x0 ∷ 0x0 ∷ 0x0 ∷ 0x0 ∷ 0x0 ∷ 0x0 ∷ [] } }
unfolding floats impulse_rules log_rules
noise_uncertain_known = refl

pub noise_uncertain : marked 3 (marks_of Uncertain (happened noise_setting (always first) noise_input))
    ≡ record { samples = 0; ring = record { head = 0; count = 0; dropped = 0; words = 0x0 ∷ 0x0 ∷ 0x0 ∷ 0x0 ∷ 0x0 ∷ 0x0 ∷ [] } }
noise_uncertain = ap (λ (es : List Event). marked 3 (marks_of Uncertain es)) (happened_by noise_setting (always first) noise_input (look noise_flags) noise_flags_lem)
    ∙ noise_uncertain_known

noise_ring_known : repaired 3 (repairs_of (events noise_setting (look noise_flags) noise_blocks noise_input 44))
    ≡ record {
      head = 2;
      count = 3;
      dropped = 2;
      words =
          0x1e ∷ 0x3 ∷ 0xc0f0000042700000 ∷ 0xc0f0000042740000 ∷ 0xc0f0000042780000 ∷ 0x0 ∷ 0x28 ∷ 0x1 ∷ 0xc0f00000428c0000 ∷ 0x0 ∷ 0x0 ∷ 0x0 ∷ 0xe ∷ 0x1 ∷
          0xc0f0000042300000 ∷ 0x0 ∷ 0x0 ∷ 0x0 ∷ [];
    }
unfolding floats impulse_rules log_rules
noise_ring_known = refl

pub noise_ring : repaired 3 (repairs_of (happened noise_setting (always first) noise_input))
    ≡ record {
      head = 2;
      count = 3;
      dropped = 2;
      words =
          0x1e ∷ 0x3 ∷ 0xc0f0000042700000 ∷ 0xc0f0000042740000 ∷ 0xc0f0000042780000 ∷ 0x0 ∷ 0x28 ∷ 0x1 ∷ 0xc0f00000428c0000 ∷ 0x0 ∷ 0x0 ∷ 0x0 ∷ 0xe ∷ 0x1 ∷
          0xc0f0000042300000 ∷ 0x0 ∷ 0x0 ∷ 0x0 ∷ [];
    }
noise_ring = ap (λ (es : List Event). repaired 3 (repairs_of es)) (happened_by noise_setting (always first) noise_input (look noise_flags) noise_flags_lem) ∙ noise_ring_known
