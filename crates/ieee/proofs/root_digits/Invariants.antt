-- `ieee::root_digits` meets its contract. Its invariant is `Found` of `proofs/Rooting.antt`. Assumes nothing.
use Rattle.ieee.proofs.Rooting.{Found}
use Rattle.ieee.proofs.root_digits.Given as goal

abbrev pub invariant-loop : goal.invariant-loop
invariant-loop l = Found l.w l.m l.rest l.r l.counter
