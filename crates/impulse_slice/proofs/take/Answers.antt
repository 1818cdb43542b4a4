-- `impulse_slice::take` meets its contract. Assumes nothing.
use mathlib.Core.Path.{ap, ◌∙◌}
use mathlib.Core.List.{List}
use Prim.Native.Nat.{ℕ, ◌+◌}
use native.Mathlib.Omega.{arith}
use lib.ListN.{length, get_or}
use Rattle.impulse_slice.specs.Noted.{noted_of, placed}
use Rattle.impulse_slice.proofs.Turns.{emitted, said, ended_early}
use Rattle.impulse_slice.proofs.take.Goals as goal

pub note-requires : goal.note-requires
note-requires c =
    let a = c.args in
    let p = c.push-p in
    let j = c.next_judged-j.ensures in
    record {
      roomy = c.requires.roomy;
      j_bound = (
        omega (arith, j, c.requires.room.early),
        ended_early a.suppressor.now (get_or a.samples.now a.k 0) p.result p.ensures.result c.requires.room,
      );
    }

pub put-requires : goal.put-requires
put-requires c =
    omega (arith, c.requires.k_in_bounds.0, c.requires.k_in_bounds.1)

pub returns : goal.returns
returns c =
    let a = c.args in
    let j = c.next_judged-j in
    let p = c.push-p in
    let n = c.note in
    let q = c.put.ensures in
    let x = get_or a.samples.now a.k 0 in
    let is = emitted a.suppressor.now x p.result p.ensures.result in
    record {
      suppressor = p.ensures.state;
      noted =
          said a.suppressor.now x p.result p.ensures.result a.span_capacity a.repair_capacity
          (noted_of a.notes.now a.spans.now a.repairs.now) _ j.result j.ensures n.ensures;
      ready = q.result ∙ ap (λ (l : List ℕ). a.out + length l) is;
      written = q.words ∙ ap (placed a.samples.now a.out) is;
    }
