-- The stage in one statement: over any usable samples, in any setting that is offered and under either edition, the machine run from fresh is the
-- rules, and its state is sound. Assumes nothing.
use Rattle.std.specs.Prelude.{◌≡◌, List, [], ◌∷◌, ℕ, ◌^◌, length}
use Rattle.std.proofs.Common.{sym, subst, arith}
use Rattle.rules.specs.Guard.{Usable}
use Rattle.rules.specs.Lists.{All}
use Rattle.rules.specs.Pauses.{always}
use Rattle.rules.specs.Impulse.{Setting, Offered, handed_on, happened}
use Rattle.impulse_pause.specs.declared.PauseEdition.{PauseEdition}
use Rattle.impulse_pause.specs.View.{edition_of}
use Rattle.impulse.specs.Machine.{fresh}
use Rattle.impulse.specs.Running.{after, outs, step, emit, news}
use Rattle.impulse.specs.Sound.{Sound}
use Rattle.impulse.proofs.laws.Theorem.{Clean, state_of, whole, Goes, goes_on}
use Rattle.impulse.proofs.laws.PartBounds.{usable_within, within_clean}
use Rattle.impulse.proofs.laws.StateBounds.{state_sound}

pub usable_clean : (xs : List ℕ) → Usable xs → All Clean xs
usable_clean [] g = tt
usable_clean (x ∷ xs) g = (within_clean (2 ^ 57) x (usable_within x g.0), usable_clean xs g.1)

pub record Stage (s : Setting) (ed : PauseEdition) (xs : List ℕ) : Type 0 where
  -- what stands is what the rules give
  pub stands : after (step s) (fresh s ed) xs ≡ state_of s ed xs
  -- so is what was handed on, and all that happened, in order
  pub hands_on : outs (step s) (emit s) (fresh s ed) xs ≡ handed_on s (always (edition_of ed)) xs
  pub tells : outs (step s) (news s) (fresh s ed) xs ≡ happened s (always (edition_of ed)) xs
  -- number 5 finds nothing
  pub sound : Sound s (length xs) (after (step s) (fresh s ed) xs)

pub stage : (s : Setting) → Offered s → (ed : PauseEdition) (xs : List ℕ) → Usable xs → Stage s ed xs
stage s o ed xs g =
    let w = whole s ed o.blocks xs (usable_clean xs g) in
    record {
      stands = w.stands_so;
      hands_on = w.hands_on;
      tells = w.tells;
      sound = subst (Sound s (length xs)) (sym w.stands_so) (state_sound s (omega (arith, o.longest)) ed xs g (length xs) (omega arith));
    }

-- more samples, from where the first ones lead: any cutting gives the same
pub cut_anywhere : (s : Setting) → (o : Offered s) → (ed : PauseEdition) (xs ys : List ℕ) → Usable xs → Usable ys → Goes s ed o.blocks xs ys
cut_anywhere s o ed xs ys a b = goes_on s ed o.blocks xs ys (usable_clean xs a) (usable_clean ys b)
