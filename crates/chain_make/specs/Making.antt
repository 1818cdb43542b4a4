-- Making a chain: what it answers in document 01's words, the state that it makes, and the lent words after it. Definitions only.
use Rattle.std.specs.Prelude.{Bool, true, false, cond, List, ℕ, zero, suc, length, replicate, Option, Some, None, Result, Ok, Err}
use Rattle.complex.specs.View.{make64}
use Rattle.rules.specs.Dc.{corner, first_level}
use Rattle.rules.specs.Iq.{Settled, Off, Observing, Withheld, Correcting}
use Rattle.rules.specs.Chain.{Config, settled_by, setting_of}
use Rattle.rules.specs.Mode.{runs}
use Rattle.rules.specs.Answers.{number_in}
use Rattle.refusal.specs.declared.Refusal.{Refusal}
use Rattle.refusal.specs.Words.{words_of}
use Rattle.stage_log.specs.View.{fresh_notes}
use Rattle.impulse.specs.Machine as impulse
use Rattle.dc.specs.Blocker.{blocker_of}
use Rattle.iq.specs.declared.Iq.{Iq}
use Rattle.iq.specs.declared.Iq.TheVariants as decision
use Rattle.stage_mode.specs.View.{mode_of}
use Rattle.iq_monitor.specs.Observe as image
use Rattle.chain_config.specs.declared.ConditioningConfig.{ConditioningConfig}
use Rattle.chain_config.specs.Config.{config_of, all_off, refusal}
use Rattle.chain_state.specs.declared.Settings.{Settings}
use Rattle.chain_state.specs.declared.InputConditioner.{InputConditioner}

-- ---- the state

-- what the chain settles, in the code's type
abbrev pub iq_of : Settled → Iq
iq_of Off = decision.Off
iq_of Observing = decision.Observing
iq_of (Correcting r) = decision.Correcting (make64 r)
iq_of Withheld = decision.Withheld

unfoldable pub fresh_settings : ConditioningConfig → Settings
fresh_settings g =
    record {
      fs = g.fs;
      n = g.n;
      spans = g.spans;
      repairs = g.repairs;
      impulse = runs (mode_of g.impulse);
      dc = g.dc;
      iq = iq_of (settled_by (config_of g));
    }

-- before any sample
unfoldable pub fresh_state : ConditioningConfig → InputConditioner
fresh_state g =
    record {
      settings = fresh_settings g;
      counts = record { seen = 0; released = 0; held = 0; clamped = 0 };
      suppressor = impulse.fresh (setting_of (config_of g)) g.edition;
      blocker = blocker_of (corner g.fs) first_level;
      monitor = image.fresh;
      notes = fresh_notes;
    }

-- ---- the answer

-- nothing, a number, or a chain
pub data Said : Type 0 where
  nothing : Said
  refused : ℕ → Said
  made : Said

abbrev pub said_making : Result (Option InputConditioner) Refusal → Said
said_making (Ok None) = nothing
said_making (Ok (Some s)) = made
said_making (Err e) = refused (number_in (words_of e))

-- of the state that was made, if one was
abbrev pub IfMade : Result (Option InputConditioner) Refusal → (InputConditioner → Type 0) → Type 0
IfMade (Ok None) P = Unit {0}
IfMade (Ok (Some s)) P = P s
IfMade (Err e) P = Unit {0}

-- its number, and 0 for none
abbrev pub making_number : Said → ℕ
making_number nothing = 0
making_number (refused k) = k
making_number made = 0

-- a chain where no cause holds
abbrev pub numbered : ℕ → Said
numbered zero = made
numbered (suc k) = refused (suc k)

-- 'all off answers nothing, before 1, 2, 3, 4', by the lengths of the span store, the repair store and the monitor's words
unfoldable pub making_said : Config → ℕ → ℕ → ℕ → Said
making_said c spans repairs words = cond (all_off c) nothing (numbered (refusal c spans repairs words))

-- ---- the lent words

abbrev pub is_made : Said → Bool
is_made nothing = false
is_made (refused k) = false
is_made made = true

-- 'Making fills lent words with 0', and another answer leaves them
abbrev pub made_words : {A : Type 0} → A → Said → List A → List A
made_words z s ws = cond (is_made s) (replicate (length ws) z) ws
