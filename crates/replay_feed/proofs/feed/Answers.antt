-- `replay_feed::feed`: what is refused is told first; else the new part is read and guarded behind the held places, and the slice up to its
-- end is taken. Assumes nothing.
use mathlib.Core.Path.{◌≡◌, refl, sym, ap, ◌∙◌}
use mathlib.Core.List.{List, ◌++◌}
use Prim.Native.Nat.{ℕ, ◌+◌, ◌*◌}
use native.Mathlib.Omega.{arith}
use Rattle.rules.specs.Answers.{accepted}
use Rattle.rules.specs.Guard.{unusable}
use Rattle.chain.specs.Stages.{machine_of}
use Rattle.chain.specs.Calls.{unread_refusal, taken}
use Rattle.chain.proofs.laws.CallTests.{unread_none, unread_some}
use Rattle.std.proofs.lemmas.Result.{err_from_is_err_and}
use Rattle.replay_format.specs.Format.{sample_size}
use Rattle.replay_feed.specs.Feeding.{BlockOutcome}
use Rattle.replay_feed.proofs.laws.FeedingLaws.{many, block_refused, block_taken}
use Rattle.replay_feed.proofs.Parts.{part_words, call_slice, call_long, call_behind}
use Rattle.replay_feed.proofs.feed.Goals as goal
use Rattle.replay_feed.proofs.feed.Goals.{In_ok-refusal}

-- nothing is refused
none : (c : In_ok-refusal) → let a = c.args in
    unread_refusal a.state.now (c.min-held.result + c.min-new.result) a.spans.now a.repairs.now ≡ 0
none c = unread_none _ c.in_ok-refusal.ensures

pub returns-in_err-refusal : goal.returns-in_err-refusal
returns-in_err-refusal c =
    let a = c.args in
    let h = c.in_err-refusal.ensures in
    let p = err_from_is_err_and c.from_residual.result c.from_residual.ensures.1 in
    let e = sym
    (block_refused a.state.now a.bytes.now a.samples.now _ _ c.min-held.ensures
    c.min-new.ensures a.spans.now a.repairs.now _ refl (unread_some _ _ h)) in
    record {
      answer = rw (p.1, p.2) (h ∙ ap (λ (o : BlockOutcome). o.said) e);
      chain = ap (λ (o : BlockOutcome). o.machine) e;
      written = ap (λ (o : BlockOutcome). o.samples) e;
      replaced = rw p.1 (ap (λ (o : BlockOutcome). o.replaced) e);
      taken = rw p.1 (ap (λ (o : BlockOutcome). o.taken) e);
    }

pub slice_bounds-accept-end-2 : goal.slice_bounds-accept-end-2
slice_bounds-accept-end-2 c =
    let a = c.args in
    call_long a.state.now a.bytes.now a.samples.now _ _
    c.min-held.ensures
    c.min-new.ensures _
    c.read_guarded-replaced.ensures.words

pub accept-ready-requires : goal.accept-ready-requires
accept-ready-requires c =
    let a = c.args in
    let long =
    call_long a.state.now a.bytes.now a.samples.now _ _
    c.min-held.ensures
    c.min-new.ensures _
    c.read_guarded-replaced.ensures.words in
    ap (λ (l : ℕ). unread_refusal a.state.now l a.spans.now a.repairs.now) (sym long) ∙ none (goal.at.accept-ready-requires c).In_ok-refusal

pub overflow_mul-result : goal.overflow_mul-result
overflow_mul-result c = let new =
    c.min-new.ensures in
    let few =
    c.well_formed.1.0 in omega arith

pub returns : goal.returns
returns c =
    let a = c.args in
    let m = machine_of a.state.now a.spans.now a.repairs.now in
    let held =
    c.min-held.ensures in
    let new =
    c.min-new.ensures in
    let read = c.read_guarded-replaced.ensures in
    let r = c.accept-ready.ensures in
    let front = call_slice a.state.now a.bytes.now a.samples.now _ _ held new _ read.words in
    let back = call_behind a.state.now a.bytes.now a.samples.now _ _ held new _ read.words in
    let out = r.written ∙ ap (λ (l : List ℕ). (taken m l).samples) front in
    let e = sym
    (block_taken a.state.now a.bytes.now a.samples.now _ _ held new a.spans.now a.repairs.now
    (none (goal.at.returns c).In_ok-refusal)) in
    record {
      answer = ap accepted r.ready ∙ ap (λ (l : List ℕ). (taken m l).said) front ∙ ap (λ (o : BlockOutcome). o.said) e;
      chain = r.chain ∙ ap (λ (l : List ℕ). (taken m l).machine) front ∙ ap (λ (o : BlockOutcome). o.machine) e;
      written = (λ i. out i ++ back i) ∙ ap (λ (o : BlockOutcome). o.samples) e;
      replaced = read.count ∙ ap unusable (part_words a.state.now a.bytes.now a.samples.now _ _ held new) ∙ ap (λ (o : BlockOutcome). o.replaced) e;
      taken = ap (λ (k : ℕ). sample_size * k) (sym (many a.state.now a.bytes.now a.samples.now _ _ held new)) ∙ ap (λ (o : BlockOutcome). o.taken) e;
    }
