-- `iq_monitor::coherence` is `coherence_of`, test by test. Assumes nothing.
use mathlib.Core.Path.{sym}
use Rattle.rules.specs.Monitor.{coherence_of}
use Rattle.iq_monitor.proofs.coherence.Goals as goal

pub returns-then-c : goal.returns-then-c
unfolding coherence_of
returns-then-c c = simp (c.if-d.true, sym c.norm_sqr.ensures, c.if-c.true)

pub returns-then-c-2 : goal.returns-then-c-2
unfolding coherence_of
returns-then-c-2 c = simp (c.if-d.true, sym c.norm_sqr.ensures, c.if-c.false, c.if-c-2.true)

pub returns-then-d : goal.returns-then-d
unfolding coherence_of
returns-then-d c = simp (c.if-d.true, sym c.norm_sqr.ensures, c.if-c.false, c.if-c-2.false)

pub returns : goal.returns
unfolding coherence_of
returns c = simp c.if-d.false
