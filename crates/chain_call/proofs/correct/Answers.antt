-- `chain_call::correct` maps the correction over what is ready. Assumes nothing.
use mathlib.Core.Path.{sym, ap}
use mathlib.Core.List.{List, ◌++◌}
use Prim.Native.Nat.{ℕ}
use lib.ListN.{drop}
use lib.Seq.{length-take-le}
use Rattle.chain_call.proofs.correct.Goals as goal

pub slice_bounds-process-end-2 : goal.slice_bounds-process-end-2
slice_bounds-process-end-2 c = sym (length-take-le _ _ c.requires)

pub returns : goal.returns
returns c =
    let a = c.args in
    ap (λ (l : List ℕ). l ++ drop a.ready a.samples.now) c.process.ensures
