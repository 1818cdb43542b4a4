-- `impulse_slice::note_kept` meets its contract. Assumes nothing.
use mathlib.Core.Path.{◌≡◌, refl, ap, ◌∙◌}
use mathlib.Core.Bool.{Bool, true, false}
use mir.Val.{bool_byte}
use Prim.Native.Nat.{ℕ, ◌+◌}
use native.Mathlib.Omega.{arith}
use lib.Dec.{lit<}
use Rattle.rules.specs.Lists.{indicator}
use Rattle.rules.specs.Log.{span_of}
use Rattle.stage_log.proofs.laws.CheckLaws.{bounded_fits}
use Rattle.impulse_slice.proofs.Notings.{kept_noted}
use Rattle.impulse_slice.proofs.note_kept.Goals as goal

one_if : (b : Bool) → bool_byte b ≡ indicator b
one_if true = refl
one_if false = refl

pub mark-requires : goal.mark-requires
mark-requires c =
    let a = c.args in
    bounded_fits _ _ _ _ (span_of a.start a.len) c.requires.bounded (lit< tt) (omega (arith, c.requires.longruns_bound.1)) (omega (arith, c.requires.longruns_bound.1))

pub returns : goal.returns
returns c repair_capacity rs =
    let a = c.args in
    let m = c.mark in
    let n = a.notes.now.longruns in
    kept_noted a.span_capacity repair_capacity a.notes.now m.new.self a.spans.now m.new.spans rs a.start a.len (n + c.from.result) a.long
    (ap (λ (k : ℕ). n + k) (c.from.ensures ∙ one_if a.long))
    m.ensures
