-- `ieee::whole_positive` meets its contract, by the cases of `proofs/Wholes.antt`. Assumes nothing.
use Rattle.std.proofs.Common.{◌≡◌, ℕ, ◌+◌, ◌-◌, ◌*◌, ◌%◌, ◌^◌, ◌<◌, ◌≤◌, min, false, leb, ap, ◌∙◌, mod-lt, arith, pow_pos}
use lib.Ieee.{binary64, of_bits}
use borrow.Author.Tests.{lt-leb}
use Rattle.ieee.specs.declared.Normal.{Normal}
use Rattle.ieee.specs.Normal.{exponent_in, significand_in, shift_of, Normalised}
use Rattle.ieee.specs.Whole.{whole_by, Rule}
use Rattle.ieee.proofs.laws.Fields.{Meaning, meaning_bits, number_bits}
use Rattle.ieee.proofs.laws.NormalLaws.{placed}
use Rattle.ieee.proofs.Wholes.{low, middle, large}
use Rattle.ieee.proofs.whole_positive.Goals as goal

record Ground (b : ℕ) (n : Normal) : Type 0 where
  high : n.digits < 2 ^ 62
  near : n.shift ≤ 62

ground : (b : ℕ) (n : Normal) → Normalised b n → Ground b n
ground b n u = let p = placed (significand_in b) (omega arith) in record { high = omega arith; near = omega arith }

-- the cases, from what the code has
module _ (b : ℕ) (n : Normal) (g : ℕ → ℕ → ℕ) (G : Rule g) (L : b ≤ 2047 * 2 ^ 52) (u : Normalised b n) where
  means : Meaning (of_bits binary64 b) (leb (2 ^ 63) b) (exponent_in b) (b % 2 ^ 52)
  means = meaning_bits b (number_bits b L)

  sign : leb (2 ^ 63) b ≡ false
  sign = lt-leb (2 ^ 63) b (omega arith)

  few : b % 2 ^ 52 < 2 ^ 52
  few = mod-lt b (pow_pos 52)

  cut : (q r : ℕ) → n.place ≤ 1074 + n.shift → r ≡ min (1074 + n.shift - n.place) 63 → q ≡ g n.digits (2 ^ r)
      → q ≡ whole_by g (of_bits binary64 b)
  cut q r h e f =
      f ∙ ap (λ (w : ℕ). g w (2 ^ r)) u.digits
      ∙ low g G (of_bits binary64 b) (leb (2 ^ 63) b) (exponent_in b) (b % 2 ^ 52) few sign r (omega arith) (cc) means

  grown : 1074 + n.shift < n.place → n.place ≤ 1074 + n.shift + 2
      → n.digits * 2 ^ (n.place - (1074 + n.shift)) % 2 ^ 64 ≡ whole_by g (of_bits binary64 b)
  grown h l =
      ap (λ (w : ℕ). w * 2 ^ (n.place - (1074 + n.shift)) % 2 ^ 64) u.digits
      ∙ ap (λ (k : ℕ). significand_in b * 2 ^ shift_of (significand_in b) * 2 ^ k % 2 ^ 64) (cc)
      ∙ middle g G (of_bits binary64 b) (leb (2 ^ 63) b) (exponent_in b) (b % 2 ^ 52) few sign (omega arith) (omega arith) means

  past : 1074 + n.shift + 2 < n.place → 2 ^ 64 - 1 ≡ whole_by g (of_bits binary64 b)
  past h = large g G (of_bits binary64 b) (leb (2 ^ 63) b) (exponent_in b) (b % 2 ^ 52) few sign (omega arith) means

pub dropped-requires-clause-digits : goal.dropped-requires-clause-digits
dropped-requires-clause-digits g c = (ground _ _ c.normalise-n.ensures).high

pub returns-then-n-first : goal.returns-then-n-first
returns-then-n-first g c =
    λ rule a.
    let d = c.dropped.ensures in
    cut c.args.b c.normalise-n.result rule a.rule c.requires.number c.normalise-n.ensures _ _ c.if-n-first.true
    c.min.ensures (d.2 ∙ a.cut c.normalise-n.result.digits c.min.result d.0 (omega (arith, c.min.ensures)) d.1)

pub returns-then-n-first-2 : goal.returns-then-n-first-2
returns-then-n-first-2 g c =
    λ rule a.
    grown c.args.b c.normalise-n.result rule a.rule c.requires.number c.normalise-n.ensures c.if-n-first.false (omega arith)

pub returns : goal.returns
returns g c = λ rule a. past c.args.b c.normalise-n.result rule a.rule c.requires.number c.normalise-n.ensures (omega arith)
