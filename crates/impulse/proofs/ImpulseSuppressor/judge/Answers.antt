-- `impulse::ImpulseSuppressor::judge` meets its contract. Assumes nothing.
use mathlib.Core.Path.{◌≡◌, sym, ap, ◌∙◌}
use mathlib.Core.Bool.{Bool, true, false}
use mathlib.Core.List.{List}
use mathlib.Core.Path.{subst}
use Prim.Native.Nat.{ℕ, ◌≤◌, ◌^◌}
use native.Mathlib.Omega.{arith}
use lib.Ieee.{Float}
use borrow.Author.Rules.{rules}
use Rattle.rules.specs.Impulse.{Setting, width, window_size, trim_size}
use Rattle.impulse.specs.declared.Mending.{Mending}
use Rattle.impulse.specs.declared.Gate.{Gate}
use Rattle.impulse.specs.Room.{run_end}
use Rattle.impulse.proofs.laws.RoomLaws.{entered_keeps, entered_setting}
use Rattle.impulse.specs.Machine.{setting_of, entered, decided, judge, flagged_by}
use Rattle.impulse.specs.View.{judged_of, judged_by}
use Rattle.impulse.proofs.ImpulseSuppressor.judge.Goals as goal

-- judging by the flag that is found
by_flag : (s : Setting) (g : Gate) (j : ℕ) (p : Float) (sorted : List Float) (l : List ℕ) (b : Bool)
    → b ≡ flagged_by (width s) s.trim (entered g j).received sorted p → judge s g j p sorted l ≡ decided s (entered g j) j l b
unfolding judge
by_flag s g j p sorted l b e = ap (decided s (entered g j) j l) (sym e)

-- what is asked of the gate, in the block of j
keeps_run : (g h : Gate) (j : ℕ) → h ≡ entered g j → run_end g.mending.run ≤ 2 ^ 52 → run_end h.mending.run ≤ 2 ^ 52
keeps_run g h j e r = subst (λ (x : Mending). run_end x.run ≤ 2 ^ 52) (sym (ap (λ (x : Gate). x.mending) e ∙ (entered_keeps g j).mending)) r

keeps_flagged : (g h : Gate) (j : ℕ) → h ≡ entered g j → g.block.flagged ≤ 2 ^ 53 → h.block.flagged ≤ 2 ^ 53
keeps_flagged g h j e r = let q = ap (λ (x : Gate). x.block.flagged) e in omega (arith, (entered_keeps g j).flagged)

keeps_received : (g h : Gate) (j : ℕ) → h ≡ entered g j → trim_size ≤ g.received → trim_size ≤ h.received
keeps_received g h j e r = let q = ap (λ (x : Gate). x.received) e in omega (arith, (entered_keeps g j).received)

pub is_flagged-requires-clause-trimmed : goal.is_flagged-requires-clause-trimmed
is_flagged-requires-clause-trimmed c =
    let a = c.args in
    keeps_received a.self.now.gate c.enter.new.self a.j c.enter.ensures (search rules)

pub grown-run-requires : goal.grown-run-requires
grown-run-requires c =
    let a = c.args in
    keeps_run a.self.now.gate c.enter.new.self a.j c.enter.ensures (search rules)

pub take_flagged-requires : goal.take_flagged-requires
take_flagged-requires c =
    let a = c.args in
    keeps_flagged a.self.now.gate c.enter.new.self a.j c.enter.ensures (search rules)

pub returns-then-is_flagged : goal.returns-then-is_flagged
returns-then-is_flagged c =
    let a = c.args in
    let m = a.self.now in
    let e = c.enter.ensures in
    let f = sym c.if-is_flagged.true ∙ c.is_flagged.ensures
    ∙ ap (λ (x : Gate). flagged_by window_size trim_size x.received m.sorted a.p) e in
    let d = sym (by_flag (setting_of m.gate) m.gate a.j a.p m.sorted m.pending true f) in
    record {
      result = simp e (ap judged_of d);
      state = simp (c.take_flagged.ensures, c.grown-run.ensures, e) (ap (judged_by m) d);
    }

pub ending-ended-requires : goal.ending-ended-requires
ending-ended-requires c =
    let a = c.args in
    keeps_run a.self.now.gate c.enter.new.self a.j c.enter.ensures (search rules)

pub returns : goal.returns
returns c =
    let a = c.args in
    let m = a.self.now in
    let e = c.enter.ensures in
    let t = entered_setting m.gate a.j in
    let f = sym c.if-is_flagged.false ∙ c.is_flagged.ensures
    ∙ ap (λ (x : Gate). flagged_by window_size trim_size x.received m.sorted a.p) e in
    let d = sym (by_flag (setting_of m.gate) m.gate a.j a.p m.sorted m.pending false f) in
    record {
      result = simp (c.ending-ended.ensures.result, e, t) (ap judged_of d);
      state = simp (c.take_neighbour.ensures, c.ending-ended.ensures.words, c.place.ensures, e, t) (ap (judged_by m) d);
    }
