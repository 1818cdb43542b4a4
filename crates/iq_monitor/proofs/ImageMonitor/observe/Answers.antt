-- `ImageMonitor::observe` is `observed`, test by test. Assumes nothing.
use mathlib.Core.Path.{◌≡◌, refl, sym, ap, ◌∙◌}
use mathlib.Core.Bool.{true, false}
use lib.ListN.{length}
use native.Mathlib.Omega.{arith}
use borrow.Author.Tests.{lt-ltb, le-ltb, ltb-false}
use Rattle.std.proofs.lemmas.Result.{err_from_is_err_and}
use Rattle.std.specs.Prelude.{Err}
use Rattle.rules.specs.Refusals.{bad_start, any_beyond, first_beyond_from}
use Rattle.refusal.specs.declared.Refusal.{Refusal}
use Rattle.amplitude_limit.proofs.laws.LimitLaws.{first_place, checked_err, checked_ok}
use Rattle.iq_monitor.specs.Observe.{leaving, is_none, observed}
use Rattle.iq_monitor.proofs.laws.ObserveLaws.{observed_by, said_seen, wrong_length, right_length, start_above, start_within}
use Rattle.iq_monitor.proofs.ImageMonitor.observe.Goals as goal
use Rattle.iq_monitor.proofs.ImageMonitor.observe.Goals.{then-x-n-via-then-x-n, then-x-n-via-else-x-n+then-n-lt8}
use Rattle.iq_monitor.proofs.ImageMonitor.observe.Goals.{then-start-gt-TOTAL_LIMIT-via-then-start-gt-TOTAL_LIMIT, then-start-gt-TOTAL_LIMIT-via-else-start-gt-TOTAL_LIMIT+then-start-self}

pub returns-then-x-n : goal.returns-then-x-n
returns-then-x-n c =
    let a = c.args in
    let m = a.self.now in
    let none : is_none a.n a.x.now ≡ true = elim c.then-x-n.branch [
      | then-x-n-via-then-x-n w ↦ wrong_length a.n a.x.now w.if-x-n.true
      | then-x-n-via-else-x-n+then-n-lt8 w ↦ right_length true a.n a.x.now w.if-x-n.false (lt-ltb a.n 8 w.if-n-lt8.true)
    ] in
    let e = sym (observed_by m a.fs a.n a.x.now a.start a.words.now true (bad_start m.end a.start).holds (any_beyond a.x.now).holds none refl refl) in
    record { seen = e; said = said_seen m a.fs a.n a.x.now a.start a.words.now _ e }

pub returns-then-start-gt-TOTAL_LIMIT : goal.returns-then-start-gt-TOTAL_LIMIT
returns-then-start-gt-TOTAL_LIMIT c =
    let a = c.args in
    let m = a.self.now in
    let some = right_length false a.n a.x.now c.if-x-n.false (le-ltb a.n 8 c.if-n-lt8.false) in
    let early : (bad_start m.end a.start).holds ≡ true = elim c.then-start-gt-TOTAL_LIMIT.branch [
      | then-start-gt-TOTAL_LIMIT-via-then-start-gt-TOTAL_LIMIT w ↦ start_above m.end a.start w.if-start-gt-TOTAL_LIMIT.true
      | then-start-gt-TOTAL_LIMIT-via-else-start-gt-TOTAL_LIMIT+then-start-self w ↦
          start_within true m.end a.start w.if-start-gt-TOTAL_LIMIT.false (lt-ltb a.start m.end w.if-start-self.true)
    ] in
    let e = sym (observed_by m a.fs a.n a.x.now a.start a.words.now false true (any_beyond a.x.now).holds some early refl) in
    record { seen = e; said = said_seen m a.fs a.n a.x.now a.start a.words.now _ e }

pub returns-in_err-check : goal.returns-in_err-check
returns-in_err-check c =
    let a = c.args in
    let m = a.self.now in
    let p = err_from_is_err_and c.from_residual.result c.from_residual.ensures.1 in
    let some = right_length false a.n a.x.now c.if-x-n.false (le-ltb a.n 8 c.if-n-lt8.false) in
    let next = start_within false m.end a.start c.if-start-gt-TOTAL_LIMIT.false (le-ltb a.start m.end c.if-start-self.false) in
    let beyond = checked_err a.x.now _ c.in_err-check.ensures in
    let e : leaving m a.words.now c.from_residual.result ≡ observed m a.fs a.n a.x.now a.start a.words.now =
    rw (p.1, p.2)
    (ap (λ (r : Refusal). leaving m a.words.now (Err r)) beyond.1
    ∙ sym (observed_by m a.fs a.n a.x.now a.start a.words.now false false true some next beyond.0)) in
    record { seen = e; said = said_seen m a.fs a.n a.x.now a.start a.words.now _ e }

pub accept-requires : goal.accept-requires
accept-requires c =
    let most = (first_place c.args.x.now).most in
    let all = ltb-false (first_beyond_from 0 c.args.x.now) (length c.args.x.now) (checked_ok _ c.in_ok-check.ensures) in
    let within : first_beyond_from 0 c.args.x.now ≡ length c.args.x.now = omega arith in
    let n = c.if-x-n.false in
    record {
      lent = (omega (arith, c.requires.lent.0), omega (arith, c.requires.lent.1));
      any = omega (arith, c.if-n-lt8.false);
      start_in_range = c.if-start-gt-TOTAL_LIMIT.false;
      within = within;
    }

pub returns : goal.returns
returns c =
    let a = c.args in
    let m = a.self.now in
    let some = right_length false a.n a.x.now c.if-x-n.false (le-ltb a.n 8 c.if-n-lt8.false) in
    let next = start_within false m.end a.start c.if-start-gt-TOTAL_LIMIT.false (le-ltb a.start m.end c.if-start-self.false) in
    let all = checked_ok _ c.in_ok-check.ensures in
    let e = c.accept.ensures ∙ sym (observed_by m a.fs a.n a.x.now a.start a.words.now false false false some next all) in
    record { seen = e; said = said_seen m a.fs a.n a.x.now a.start a.words.now _ e }
