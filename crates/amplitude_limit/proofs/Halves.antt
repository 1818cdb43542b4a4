-- The highest bits of a word's halves: of words put together by `|`, and of a sample's. Assumes nothing.
use mathlib.Core.Path.{◌≡◌, refl, sym, ap, ◌∙◌}
use mathlib.Core.Bool.{Bool, true, false, ◌&&◌}
use Prim.Native.Nat.{ℕ, ◌+◌, ◌-◌, ◌*◌, ◌/◌, ◌%◌, ◌^◌, ◌≤◌, ◌<◌}
use native.Mathlib.Nat.{div-add-mod', mod-lt}
use native.Mathlib.Omega.{arith}
use lib.Bits.{bit_and, bit_or, and_le_l, and_le_r, or_add_and, or_lt, or_mod, and_block, and_mask}
use lib.Dec.{ltb, leb, lit<}
use lib.Pow.{pow_pos}
use borrow.Author.Tests.{ltb-true, ltb-false, lt-ltb, le-ltb, leb-true, leb-false}
use Rattle.amplitude_limit.specs.Limit.{under, halves_clear}

-- ---- words put together

below_or : (k a b : ℕ) → ltb (bit_or a b) (2 ^ k) ≡ (ltb b (2 ^ k) && ltb a (2 ^ k))
below_or k a b = go (ltb b (2 ^ k)) (ltb a (2 ^ k)) refl refl
  where
    above : (o t x y m : ℕ) → o + t ≡ x + y → t ≤ y → m ≤ x → m ≤ o
    above o t x y m e l h = omega arith

    above' : (o t x y m : ℕ) → o + t ≡ x + y → t ≤ x → m ≤ y → m ≤ o
    above' o t x y m e l h = omega arith

    go : (q p : Bool) → ltb b (2 ^ k) ≡ q → ltb a (2 ^ k) ≡ p → ltb (bit_or a b) (2 ^ k) ≡ (q && p)
    go true true e f = lt-ltb (bit_or a b) (2 ^ k) (or_lt k a b (ltb-true a (2 ^ k) f) (ltb-true b (2 ^ k) e))
    go true false e f = le-ltb (bit_or a b) (2 ^ k) (above (bit_or a b) (bit_and a b) a b (2 ^ k) (or_add_and a b) (and_le_r a b) (ltb-false a (2 ^ k) f))
    go false p e f = le-ltb (bit_or a b) (2 ^ k) (above' (bit_or a b) (bit_and a b) a b (2 ^ k) (or_add_and a b) (and_le_l a b) (ltb-false b (2 ^ k) e))

pub or_clear : (a b : ℕ) → halves_clear (bit_or a b) ≡ (halves_clear b && halves_clear a)
unfolding halves_clear
or_clear a b =
    (λ i. (ap (λ (m : ℕ). ltb m (2 ^ 31)) (or_mod a b 32) ∙ below_or 31 (a % 2 ^ 32) (b % 2 ^ 32)) i && below_or 63 a b i)
    ∙ shuffled (ltb (b % 2 ^ 32) (2 ^ 31)) (ltb (a % 2 ^ 32) (2 ^ 31)) (ltb b (2 ^ 63)) (ltb a (2 ^ 63))
  where
    shuffled : (p q r s : Bool) → ((p && q) && (r && s)) ≡ ((p && r) && (q && s))
    shuffled false q r s = refl
    shuffled true true r s = refl
    shuffled true false true s = refl
    shuffled true false false s = refl

-- ---- a sample

masked : (w : ℕ) → bit_and w 0x7fff_ffff_7fff_ffff ≡ w / 2 ^ 32 % 2 ^ 31 * 2 ^ 32 + w % 2 ^ 31
masked w =
    ap (λ (n : ℕ). bit_and n 0x7fff_ffff_7fff_ffff) (sym (div-add-mod' w (2 ^ 32)))
    ∙ and_block 32 (w / 2 ^ 32) (2 ^ 31 - 1) (w % 2 ^ 32) (2 ^ 31 - 1) (mod-lt w (pow_pos 32)) (lit< {m = 2 ^ 31 - 1} {n = 2 ^ 32} tt)
    ∙ (λ i. and_mask (w / 2 ^ 32) 31 i * 2 ^ 32 + (and_mask (w % 2 ^ 32) 31 ∙ (let e : w % 2 ^ 32 % 2 ^ 31 ≡ w % 2 ^ 31 = omega arith in e)) i)

-- a part h above a part l, both raised by r: what a limit m is below 2^31 - 1
low : (h l r m : ℕ) → l < 2 ^ 31 → r + m ≡ 2 ^ 31 - 1 → ltb ((h * 2 ^ 32 + l + r * (2 ^ 32 + 1)) % 2 ^ 32) (2 ^ 31) ≡ leb l m
low h l r m k s = ap (λ (n : ℕ). ltb n (2 ^ 31)) (let e : (h * 2 ^ 32 + l + r * (2 ^ 32 + 1)) % 2 ^ 32 ≡ l + r = omega arith in e) ∙ go (leb l m) refl
  where
    go : (t : Bool) → leb l m ≡ t → ltb (l + r) (2 ^ 31) ≡ t
    go true e = let q = leb-true l m e in lt-ltb (l + r) (2 ^ 31) (omega arith)
    go false e = let q = leb-false l m e in le-ltb (l + r) (2 ^ 31) (omega arith)

high : (h l r m : ℕ) → l < 2 ^ 31 → r + m ≡ 2 ^ 31 - 1 → ltb (h * 2 ^ 32 + l + r * (2 ^ 32 + 1)) (2 ^ 63) ≡ leb h m
high h l r m k s = go (leb h m) refl
  where
    go : (t : Bool) → leb h m ≡ t → ltb (h * 2 ^ 32 + l + r * (2 ^ 32 + 1)) (2 ^ 63) ≡ t
    go true e = let q = leb-true h m e in lt-ltb (h * 2 ^ 32 + l + r * (2 ^ 32 + 1)) (2 ^ 63) (omega arith)
    go false e = let q = leb-false h m e in le-ltb (h * 2 ^ 32 + l + r * (2 ^ 32 + 1)) (2 ^ 63) (omega arith)

pub bits_tell : (w m : ℕ) → m < 2 ^ 31 → halves_clear (bit_and w 0x7fff_ffff_7fff_ffff + (0x7fff_ffff - m) * 0x1_0000_0001) ≡ under m w
unfolding halves_clear under
bits_tell w m k =
    let h = w / 2 ^ 32 % 2 ^ 31 in
    let l = w % 2 ^ 31 in
    let r = 0x7fff_ffff - m in
    let s : r + m ≡ 2 ^ 31 - 1 = omega arith in
    ap (λ (n : ℕ). halves_clear (n + r * 0x1_0000_0001)) (masked w)
    ∙ (λ i. low h l r m (mod-lt w (pow_pos 31)) s i && high h l r m (mod-lt w (pow_pos 31)) s i)
