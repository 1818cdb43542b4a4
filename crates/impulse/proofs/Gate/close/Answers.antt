-- `impulse::Gate::close` meets its contract: a run is mended where it is short, applied and in no paused block. Assumes nothing.
use mathlib.Core.Path.{◌≡◌, refl, sym, ap, ◌∙◌}
use mathlib.Core.List.{List}
use Rattle.std.specs.Prelude.{Option, unwrap_or}
use mathlib.Core.Bool.{Bool, true, false, not, ◌&&◌}
use native.Mathlib.Omega.{arith}
use Prim.Native.Nat.{ℕ}
use lib.Dec.{ltb, leb}
use borrow.Author.Tests.{le-leb, lt-leb}
use Rattle.rules.specs.Impulse.{Setting, lookahead, mendable, lookahead_size, longest_run}
use Rattle.impulse.specs.declared.Run.{Run}
use Rattle.impulse.specs.declared.Ended.TheVariants.{Kept, Mended}
use Rattle.impulse.specs.Machine.{setting_of, read_run, write_run, closing, closing_pending}
use Rattle.impulse.specs.View.{repair_of, ended_of}
use Rattle.impulse.proofs.Gate.close.Goals as goal
use Rattle.impulse.proofs.Gate.close.Goals.{then-long-via-then-long, then-long-via-else-long+then-r, then-long-via-else-long+else-r+then-not-self}

module _ (s : Setting) (r : Run) (left : Option ℕ) (right : ℕ) (l : List ℕ) where
  kept_is : mendable s r.paused r.len ≡ false → ended_of (closing s r l) ≡ Kept r.start r.len (ltb s.run r.len)
  unfolding closing
  kept_is e = rw e

  kept_pending : mendable s r.paused r.len ≡ false → closing_pending s r left right l ≡ l
  unfolding closing_pending
  kept_pending e = rw e

  mended_is : mendable s r.paused r.len ≡ true
      → ended_of (closing s r l) ≡ Mended (repair_of r.start r.len (read_run (lookahead s) l r.start r.len))
  unfolding closing
  mended_is e = rw e

  mended_pending : mendable s r.paused r.len ≡ true
      → closing_pending s r left right l ≡ write_run (lookahead s) l (unwrap_or left right) right r.start r.len r.len
  unfolding closing_pending
  mended_pending e = rw e

too_long : (a b c : Bool) → b ≡ false → a && (b && not c) ≡ false
too_long true b c e = rw e
too_long false b c e = refl

observed : (a b c : Bool) → a ≡ false → a && (b && not c) ≡ false
observed a b c e = rw e

in_pause : (a b c : Bool) → c ≡ true → a && (b && not c) ≡ false
in_pause true true c e = rw e
in_pause true false c e = refl
in_pause false b c e = refl

all_well : (a b c : Bool) → a ≡ true → b ≡ true → c ≡ false → a && (b && not c) ≡ true
all_well a b c d e f = rw (d, e, f)

pub returns-then-long : goal.returns-then-long
returns-then-long c =
    let a = c.args in
    let s = setting_of a.self.now in
    let m : mendable s a.r.paused a.r.len ≡ false = elim c.then-long.branch [
      | then-long-via-then-long w ↦ too_long s.apply (leb a.r.len longest_run) a.r.paused (lt-leb a.r.len longest_run (omega (arith, w.if-long.true)))
      | then-long-via-else-long+then-r w ↦ in_pause s.apply (leb a.r.len longest_run) a.r.paused w.if-r.true
      | then-long-via-else-long+else-r+then-not-self w ↦ observed s.apply (leb a.r.len longest_run) a.r.paused w.if-not-self.true
    ] in
    record {
      result = sym (kept_is s a.r a.self.now.mending.left a.right a.pending.now m);
      words = sym (kept_pending s a.r a.self.now.mending.left a.right a.pending.now m);
    }

pub returns : goal.returns
returns c =
    let a = c.args in
    let s = setting_of a.self.now in
    let m = all_well s.apply (leb a.r.len longest_run) a.r.paused
    c.if-not-self.false
    (le-leb a.r.len longest_run (omega (arith, c.if-long.false)))
    c.if-r.false in
    record {
      result = ap (λ (x : _). Mended x) c.repair-repair.ensures ∙ sym (mended_is s a.r a.self.now.mending.left a.right a.pending.now m);
      words =
          c.mend.ensures
          ∙ ap (λ (x : ℕ). write_run lookahead_size a.pending.now x a.right a.r.start a.r.len a.r.len) c.unwrap_or.ensures
          ∙ sym (mended_pending s a.r a.self.now.mending.left a.right a.pending.now m);
    }
