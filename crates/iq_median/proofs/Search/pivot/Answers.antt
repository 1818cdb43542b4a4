-- `iq_median::Search::pivot` is one of the words or a number that was tested. Assumes nothing.
use mathlib.Core.Path.{sym, ◌∙◌, subst}
use Prim.Native.Nat.{◌+◌, ◌/◌}
use native.Mathlib.Omega.{arith}
use lib.Dec.{T}
use lib.ListN.{length}
use lib.Ieee.{binary64, nan}
use Rattle.ieee.specs.Plain.{Plain}
use Rattle.rules.proofs.laws.SortLaws.{all_get_d}
use Rattle.iq_median.proofs.Search.pivot.Goals as goal

pub returns-then-is_plain : goal.returns-then-is_plain
returns-then-is_plain c = let t = c.is_plain.ensures in (subst T (sym c.if-is_plain.true ∙ t.0) tt, t.1)

pub returns-then-self-le64 : goal.returns-then-self-le64
returns-then-self-le64 c = let l = c.args.part.now in
    all_get_d (Plain binary64) l (length l / 2) nan c.requires.plain (omega (arith, c.requires.some))

pub median-requires : goal.median-requires
median-requires c =
    let l = c.args.part.now in
    let n = length l in
    let h = c.requires.some in (
      all_get_d (Plain binary64) l (n / 4) nan c.requires.plain (omega arith),
      (all_get_d (Plain binary64) l (n / 2) nan c.requires.plain (omega arith), all_get_d (Plain binary64) l (n / 2 + n / 4) nan c.requires.plain (omega arith)),
    )
