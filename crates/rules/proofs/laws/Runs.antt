-- Laws of the impulse rules, for any flags F: the run before j and its left neighbour, blocks and their counts; and for any paused blocks P, the value of a
-- sample while runs end.
-- Assumes nothing.
use Rattle.std.specs.Prelude.{◌≡◌, ◌⊎◌, ◌≢◌, Bool, ◌&&◌, ◌||◌, List}
use Rattle.std.proofs.Math.Path.{refl, ap}
use Rattle.std.proofs.Common.{sym, ◌∙◌, inl, inr, mul-le-mul_right}
use Rattle.std.proofs.Math.Bool.{true, false, cond, not, false≢true}
use Prim.Native.Nat.{ℕ, zero, suc, ◌+◌, ◌*◌, ◌-◌, ◌≤◌, ◌<◌}
use Rattle.std.proofs.Math.Decide.{dec_lt, ℕ_discrete}
use Rattle.std.proofs.Math.Nat.{div-mul-le_self, lt-div-mul-add, suc-mul}
use native.Mathlib.Omega.{arith}
use Rattle.std.proofs.Math.Dec.{ltb, leb}
use borrow.Author.Tests.{ltb-true, leb-true}
use Rattle.rules.specs.Lists.{at, count, indicator}
use Rattle.rules.specs.Pauses.{Edition, pauses, paused}
use Rattle.rules.specs.Impulse.{Setting, before, start, block_of, touches, mends, mended_at, covers, value, newest_block, flags_in}

-- ---- the run right before j

module _ (F : ℕ → Bool) where
  pub before_le : (j : ℕ) → before F j ≤ j
  unfolding before
  before_le zero = omega arith
  before_le (suc j) = go (F j) (before_le j)
    where
      go : (b : Bool) → before F j ≤ j → cond b (suc (before F j)) 0 ≤ suc j
      go true h = omega arith
      go false h = omega arith

  pub before_on : (j : ℕ) → F j ≡ true → before F (suc j) ≡ suc (before F j)
  unfolding before
  before_on j e = rw e

  pub before_off : (j : ℕ) → F j ≡ false → before F (suc j) ≡ 0
  unfolding before
  before_off j e = rw e

  pub start_on : (j : ℕ) → F j ≡ true → start F (suc j) ≡ start F j
  start_on j e = let p = before_on j e in omega arith

  pub start_off : (j : ℕ) → F j ≡ false → start F (suc j) ≡ suc j
  start_off j e = let p = before_off j e in omega arith

  -- its samples are flagged
  pub run_flagged : (j k : ℕ) → start F j ≤ k → k < j → F k ≡ true
  unfolding before
  run_flagged zero k a h = absurd (omega arith)
  run_flagged (suc j) k a h = go (F j) refl (λ x y. run_flagged j k x y)
    where
      go : (b : Bool) → F j ≡ b → (start F j ≤ k → k < j → F k ≡ true) → F k ≡ true
      go false e r = let z = before_off j e in absurd (omega arith)
      go true e r = same (before_on j e) (ℕ_discrete k j)
        where
          same : before F (suc j) ≡ suc (before F j) → Dec (k ≡ j) → F k ≡ true
          same z (yes q) = ap F q ∙ e
          same z (no q) = r (omega arith) (omega arith)

-- ---- blocks

module _ (F : ℕ → Bool) where
  pub count_le : (a n : ℕ) → count F a n ≤ n
  unfolding count
  count_le a zero = omega arith
  count_le a (suc n) = go (F (a + n)) (count_le a n)
    where
      go : (b : Bool) → count F a n ≤ n → indicator b + count F a n ≤ suc n
      go true h = omega arith
      go false h = omega arith

module _ (s : Setting) (F : ℕ → Bool) where
  module _ (l : 0 < s.block) where
    -- the block of j is that of the one before, or the next and begins with j
    pub next_block_lem : (j : ℕ) → (block_of s j ≡ newest_block s j) ⊎ ((block_of s j ≡ suc (newest_block s j)) × (j ≡ suc (newest_block s j) * s.block))
    next_block_lem j =
        let a = newest_block s j in
        let b = block_of s j in
        let p = div-mul-le_self (j - 1) s.block in
        let q = lt-div-mul-add {a = j - 1} l in
        let r = div-mul-le_self j s.block in
        let t = lt-div-mul-add {a = j} l in
        let u = suc-mul a s.block in
        let v = suc-mul b s.block in
        let w = suc-mul (suc a) s.block in
        go p q r t u v w (dec_lt a b) (dec_lt (suc a) b) (dec_lt b a)
      where
        go : newest_block s j * s.block ≤ j - 1 → j - 1 < newest_block s j * s.block + s.block → block_of s j * s.block ≤ j
            → j < block_of s j * s.block + s.block
            → suc (newest_block s j) * s.block ≡ newest_block s j * s.block + s.block → suc (block_of s j) * s.block ≡ block_of s j * s.block + s.block
            → suc (suc (newest_block s j)) * s.block ≡ suc (newest_block s j) * s.block + s.block
            → Dec (newest_block s j < block_of s j) → Dec (suc (newest_block s j) < block_of s j) → Dec (block_of s j < newest_block s j)
            → (block_of s j ≡ newest_block s j) ⊎ ((block_of s j ≡ suc (newest_block s j)) × (j ≡ suc (newest_block s j) * s.block))
        go p q r t u v w (yes x) (yes y) d = let m = mul-le-mul_right s.block y in absurd (omega arith)
        go p q r t u v w (yes x) (no y) d =
            let e : block_of s j ≡ suc (newest_block s j) = omega arith in
            let f = ap (λ (n : ℕ). n * s.block) e in
            inr (e, omega arith)
        go p q r t u v w (no x) d (yes z) = let m = mul-le-mul_right s.block z in absurd (omega arith)
        go p q r t u v w (no x) d (no z) = inl (omega arith)

    -- another block begins at j: the one before is full, and its flags say whether the next one is paused
    next_is : (j : ℕ) → block_of s j ≢ newest_block s j → (block_of s j ≡ suc (newest_block s j)) × (j ≡ suc (newest_block s j) * s.block)
    next_is j other = go (next_block_lem j)
      where
        go : (block_of s j ≡ newest_block s j) ⊎ ((block_of s j ≡ suc (newest_block s j)) × (j ≡ suc (newest_block s j) * s.block))
            → (block_of s j ≡ suc (newest_block s j)) × (j ≡ suc (newest_block s j) * s.block)
        go (inl e) = absurd (other e)
        go (inr p) = p

    pub enter_paused : (E : ℕ → Edition) (j : ℕ) → block_of s j ≢ newest_block s j
        → pauses (E (block_of s j)) s.block (paused E s.block F (newest_block s j)) (flags_in s F (newest_block s j) j)
        ≡ paused E s.block F (block_of s j)
    unfolding paused
    enter_paused E j other =
        let p = next_is j other in
        let u = suc-mul (newest_block s j) s.block in
        let full : j - newest_block s j * s.block ≡ s.block = omega (arith, p.1) in
        rw (p.0, full)

    pub enter_flags : (j : ℕ) → block_of s j ≢ newest_block s j → flags_in s F (block_of s j) j ≡ 0
    unfolding count
    enter_flags j other =
        let p = next_is j other in
        let none_yet : j - suc (newest_block s j) * s.block ≡ 0 = omega (arith, p.1) in
        rw (p.0, none_yet)

  -- one more of the block
  pub tally_flags : (j : ℕ) → flags_in s F (block_of s j) (suc j) ≡ indicator (F j) + flags_in s F (block_of s j) j
  unfolding count
  tally_flags j =
      let a = block_of s j * s.block in
      let le = div-mul-le_self j s.block in
      let more : suc j - a ≡ suc (j - a) = omega arith in
      let here : a + (j - a) ≡ j = omega arith in
      rw (more, here)

  -- a run touches a paused block once one of its samples lies in one
  pub touches_more : (P : ℕ → Bool) (j : ℕ) → F j ≡ true
      → touches s P (start F (suc j)) (before F (suc j)) ≡ touches s P (start F j) (before F j) || P (block_of s j)
  unfolding touches
  touches_more P j e =
      let b = before_on F j e in
      let a = start_on F j e in
      let le = before_le F j in
      let last : start F j + before F j ≡ j = omega arith in
      rw (a, b, last)

-- ---- values

module _ (s : Setting) (F P : ℕ → Bool) (xs : List ℕ) where
  abbrev hit : ℕ → ℕ → Bool
  hit j k = mends s F P j && covers F j k

  pub value_hit : (j k : ℕ) → hit j k ≡ true → value s F P xs (suc j) k ≡ mended_at F xs j k
  unfolding value
  value_hit j k e = rw e

  pub value_miss : (j k : ℕ) → hit j k ≡ false → value s F P xs (suc j) k ≡ value s F P xs j k
  unfolding value
  value_miss j k e = rw e

  -- what a hit says
  pub record Hit (j k : ℕ) : Type 0 where
    pub off : F j ≡ false
    pub some_run : 0 < before F j
    pub applies : s.apply ≡ true
    pub short : before F j ≤ s.run
    pub free : touches s P (start F j) (before F j) ≡ false
    pub from : start F j ≤ k
    pub upto : k < j

  pub hit_says : (j k : ℕ) → hit j k ≡ true → Hit j k
  unfolding mends
  hit_says j k =
      go (F j) (ltb 0 (before F j)) s.apply (leb (before F j) s.run) (touches s P (start F j) (before F j)) (leb (start F j) k)
      (ltb k j) refl refl refl refl refl refl refl
    where
      go : (a b c d e f g : Bool) → F j ≡ a → ltb 0 (before F j) ≡ b → s.apply ≡ c → leb (before F j) s.run ≡ d
          → touches s P (start F j) (before F j) ≡ e → leb (start F j) k ≡ f → ltb k j ≡ g
          → not a && b && (c && (d && not e)) && (f && g) ≡ true → Hit j k
      go false true true true false true true p1 p2 p3 p4 p5 p6 p7 q =
          record {
            off = p1;
            some_run = ltb-true 0 (before F j) p2;
            applies = p3;
            short = leb-true (before F j) s.run p4;
            free = p5;
            from = leb-true (start F j) k p6;
            upto = ltb-true k j p7;
          }
      go true b c d e f g p1 p2 p3 p4 p5 p6 p7 q = absurd (false≢true q)
      go false false c d e f g p1 p2 p3 p4 p5 p6 p7 q = absurd (false≢true q)
      go false true false d e f g p1 p2 p3 p4 p5 p6 p7 q = absurd (false≢true q)
      go false true true false e f g p1 p2 p3 p4 p5 p6 p7 q = absurd (false≢true q)
      go false true true true true f g p1 p2 p3 p4 p5 p6 p7 q = absurd (false≢true q)
      go false true true true false false g p1 p2 p3 p4 p5 p6 p7 q = absurd (false≢true q)
      go false true true true false true false p1 p2 p3 p4 p5 p6 p7 q = absurd (false≢true q)

  -- where no hit is possible the value stays
  pub value_missed : (j k : ℕ) → (Hit j k → ⊥) → value s F P xs (suc j) k ≡ value s F P xs j k
  value_missed j k no_hit = go (hit j k) refl
    where
      go : (b : Bool) → hit j k ≡ b → value s F P xs (suc j) k ≡ value s F P xs j k
      go true e = absurd (no_hit (hit_says j k e))
      go false e = value_miss j k e

  -- in the open run and after it everything is as it was received
  pub value_raw : (j k : ℕ) → j ≤ k + before F j → value s F P xs j k ≡ at xs k
  unfolding value
  value_raw zero k h = refl
  value_raw (suc j) k h = go (F j) refl (value_raw j k)
    where
      go : (b : Bool) → F j ≡ b → (j ≤ k + before F j → value s F P xs j k ≡ at xs k) → value s F P xs (suc j) k ≡ at xs k
      go true e r = let z = before_on F j e in value_missed j k (λ t. false≢true (sym t.off ∙ e)) ∙ r (omega arith)
      go false e r = let z = before_off F j e in value_missed j k (λ t. omega (arith, t.upto)) ∙ r (omega arith)

  -- a value is fixed once its run has ended for certain
  pub value_fixed : (d j k : ℕ) → k + s.run < j → value s F P xs (j + d) k ≡ value s F P xs j k
  value_fixed zero j k h = ap (λ (n : ℕ). value s F P xs n k) (let e : j + 0 ≡ j = omega arith in e)
  value_fixed (suc d) j k h =
      ap (λ (n : ℕ). value s F P xs n k) (let e : j + suc d ≡ suc (j + d) = omega arith in e)
      ∙ value_missed (j + d) k (λ t. omega (arith, t.from, t.upto, t.short))
      ∙ value_fixed d j k h
