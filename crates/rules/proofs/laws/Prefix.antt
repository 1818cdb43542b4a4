-- What the impulse rules say of a front part of the input stays said when more samples come. Of the rules alone, and for any samples. Assumes nothing.
use Rattle.std.specs.Prelude.{◌≡◌, Bool, true, false, cond, List, ◌++◌, eqb, length, drop}
use Rattle.std.proofs.Math.Path.{refl}
use Rattle.std.proofs.Common.{ap, arith}
use Prim.Native.Nat.{ℕ, zero, suc, ◌+◌, ◌*◌, ◌-◌, ◌≤◌, ◌<◌}
use Rattle.std.proofs.Math.Nat.{div-mul-le_self, suc-mul}
use Rattle.std.proofs.Math.ListN.{length-drop, get_or-append}
use Rattle.std.proofs.Math.Seq.{take-append-le, drop-append-le}
use Rattle.complex.specs.Complex.{word_of, sample_of}
use Rattle.rules.specs.Lists.{at, count}
use Rattle.rules.specs.Pauses.{Edition, paused}
use Rattle.rules.specs.Impulse.{Setting, flagged, judged, before, start, block_of, touches, mends, between, left_of, mended_at, value, events_at, events}
use Rattle.rules.specs.Impulse.{paused_in}
use Rattle.rules.proofs.laws.Runs.{before_le}

-- ---- flags that agree below J

module _ (s : Setting) (F G : ℕ → Bool) (J : ℕ) (same : (i : ℕ) → i < J → F i ≡ G i) where
  pub before_same : (j : ℕ) → j ≤ J → before F j ≡ before G j
  unfolding before
  before_same zero h = refl
  before_same (suc j) h = rw (same j h, before_same j (omega arith))

  pub count_same : (a n : ℕ) → a + n ≤ J → count F a n ≡ count G a n
  unfolding count
  count_same a zero h = refl
  count_same a (suc n) h = rw (same (a + n) (omega arith), count_same a n (omega arith))

  pub paused_same : (E : ℕ → Edition) (b : ℕ) → b * s.block ≤ J → paused E s.block F b ≡ paused E s.block G b
  unfolding paused
  paused_same E zero h = refl
  paused_same E (suc b) h =
      let m = suc-mul b s.block in
      rw (paused_same E b (omega arith), count_same (b * s.block) s.block (omega arith))

-- ---- paused blocks that agree up to J

module _ (s : Setting) (P Q : ℕ → Bool) (J : ℕ) (paused_agree : (b : ℕ) → b * s.block ≤ J → P b ≡ Q b) where
  pub touches_same : (a n : ℕ) → a + n ≤ J → touches s P a n ≡ touches s Q a n
  unfolding touches
  touches_same a zero h = refl
  touches_same a (suc n) h =
      let d = div-mul-le_self (a + n) s.block in
      rw (touches_same a n (omega arith), paused_agree (block_of s (a + n)) (omega arith))

-- ---- and samples that agree there

module _ (s : Setting) (F G P Q : ℕ → Bool) (xs ys : List ℕ) (J : ℕ) (same : (i : ℕ) → i < J → F i ≡ G i)
    (paused_agree : (b : ℕ) → b * s.block ≤ J → P b ≡ Q b) (alike : (i : ℕ) → i < J → at xs i ≡ at ys i) where
  mends_same : (j : ℕ) → j < J → mends s F P j ≡ mends s G Q j
  unfolding mends
  mends_same j h =
      let b = before_le G j in
      rw (same j h, before_same s F G J same j (omega arith), touches_same s P Q J paused_agree (j - before G j) (before G j) (omega arith))

  -- the left neighbour of a run that starts at a
  left_same : (a right : ℕ) → a < J → left_of xs a right ≡ left_of ys a right
  left_same a right h = go (eqb a 0)
    where
      go : (b : Bool) → cond b right (at xs (a - 1)) ≡ cond b right (at ys (a - 1))
      go true = refl
      go false = alike (a - 1) (omega arith)

  mended_same : (j k : ℕ) → j < J → mended_at F xs j k ≡ mended_at G ys j k
  unfolding mended_at
  mended_same j k h =
      let l = left_same (start G j) (at ys j) (omega arith) in
      rw (before_same s F G J same j (omega arith), alike j h)
      (ap (λ (x : ℕ). word_of (between (sample_of x) (sample_of (at ys j)) (k - start G j) (before G j))) l)

  pub value_same : (j k : ℕ) → j ≤ J → at xs k ≡ at ys k → value s F P xs j k ≡ value s G Q ys j k
  unfolding value
  value_same zero k h e = e
  value_same (suc j) k h e =
      rw (mends_same j h, mended_same j k h, value_same j k (omega arith) e, before_same s F G J same j (omega arith))

-- ---- a front part

module _ (s : Setting) (E : ℕ → Edition) (xs ys : List ℕ) where
  abbrev all : List ℕ
  all = xs ++ ys

  -- a judged sample's flag
  pub flag_stays : (j : ℕ) → j + s.half < length xs → flagged s all j ≡ flagged s xs j
  unfolding flagged
  flag_stays j h =
      rw (take-append-le (j + s.half + 1) xs ys (omega arith), get_or-append xs ys 0 j (omega arith))

  alike : (i : ℕ) → i < judged s (length xs) → at all i ≡ at xs i
  alike i h = get_or-append xs ys 0 i (omega arith)

  flags : (i : ℕ) → i < judged s (length xs) → flagged s all i ≡ flagged s xs i
  flags i h = flag_stays i (omega arith)

  paused_agree : (b : ℕ) → b * s.block ≤ judged s (length xs) → paused_in s E all b ≡ paused_in s E xs b
  paused_agree = paused_same s (flagged s all) (flagged s xs) (judged s (length xs)) flags E

  -- what happened at a judged sample
  pub events_stay : (j : ℕ) → j ≤ judged s (length xs) → events s (flagged s all) (paused_in s E all) all j ≡ events s (flagged s xs) (paused_in s E xs) xs j
  unfolding events events_at
  events_stay zero h = refl
  events_stay (suc j) h =
      let F = flagged s all in
      let G = flagged s xs in
      let J = judged s (length xs) in
      let b = before_le G j in
      let d = div-mul-le_self j s.block in
      let c = length-drop (j - before G j) xs in
      rw (
        events_stay j (omega arith),
        flags j h,
        before_same s F G J flags j (omega arith),
        touches_same s (paused_in s E all) (paused_in s E xs) J paused_agree (j - before G j) (before G j) (omega arith),
        paused_agree (block_of s j) (omega arith),
        drop-append-le (j - before G j) xs ys (omega arith),
        take-append-le (before G j) (drop (j - before G j) xs) ys (omega arith),
      )
