-- `stage_log::Marks::mark` meets its contract. Assumes nothing.
use mathlib.Core.Path.{◌≡◌, ap, sym, ◌∙◌}
use mathlib.Core.Bool.{Bool, true, false, cond}
use Prim.Native.Nat.{ℕ, ◌+◌, ◌<◌}
use native.Mathlib.Omega.{arith}
use borrow.Author.Tests.{eq-eqb}
use Rattle.rules.specs.Log as rules
use Rattle.rules.specs.Log.{Span, span_words, mark, joins, lengthened, append}
use Rattle.rules.proofs.laws.MarkLaws.{mark_some}
use Rattle.stage_log.specs.View.{ring_in, marks_in, span_in}
use Rattle.stage_log.proofs.Marks.mark.Goals as goal

-- what the two ways come to
module _ (cap : ℕ) (r : rules.Marks) (m : Span) (q : rules.Ring) (some : 0 < m.len) where
  by_test : (t : Bool) → joins cap r.ring m.start ≡ t → q ≡ cond t (lengthened cap r.ring m.len) (append cap r.ring (span_words m))
      → ◌≡◌ {A = rules.Marks} (record { samples = r.samples + m.len; ring = q }) (mark cap r m)
  by_test t j e =
      (λ i. record {
        samples = r.samples + m.len;
        ring =
            (e ∙ sym (ap (λ (b : Bool). cond b (lengthened cap r.ring m.len) (append cap r.ring (span_words m))) j)) i;
      })
      ∙ sym (mark_some cap r m some)

pub returns-then-span-eq0 : goal.returns-then-span-eq0
unfolding mark
returns-then-span-eq0 c = rw (eq-eqb c.args.span.len 0 c.if-span-eq0.true)

pub lengthen-requires : goal.lengthen-requires
lengthen-requires c =
    let p = c.requires in
    record {
      room = p.ring;
      joins = sym c.joins_newest.ensures ∙ c.if-joins_newest.true;
      end = omega (arith, p.last);
    }

pub returns-then-joins_newest : goal.returns-then-joins_newest
returns-then-joins_newest c =
    let a = c.args in
    by_test a.capacity (marks_in a.self.now a.words.now) (span_in a.span) (ring_in a.self.now.ring c.lengthen.new.words)
    (omega (arith, c.if-span-eq0.false))
    true (sym c.joins_newest.ensures ∙ c.if-joins_newest.true)
    c.lengthen.ensures

pub returns-else-joins_newest : goal.returns-else-joins_newest
returns-else-joins_newest c =
    let a = c.args in
    by_test a.capacity (marks_in a.self.now a.words.now) (span_in a.span)
    (ring_in c.enter.new.self c.enter.new.words)
    (omega (arith, c.if-span-eq0.false))
    false (sym c.joins_newest.ensures ∙ c.if-joins_newest.false)
    c.enter.ensures
