-- The DC level stays within 64 for each update, and what the stage writes is within 1e18, for up to 2 ^ 48 samples that the chain can hand it. Assumes
-- nothing.
use Rattle.std.specs.Prelude.{◌≡◌, refl, ℕ, suc, ◌+◌, ◌*◌, ◌/◌, ◌^◌, ◌≤◌, ◌<◌, Bool, true, false, ◌&&◌, ◌||◌, cond, List, [], ◌∷◌, pos, length, T, eqb, Float}
use Rattle.std.proofs.Common.{sym, subst, le_trans, le_of_eq, one-mul, le-add_right, arith, eqb→eq, lit<}
use Rattle.std.proofs.Math.Dec.{lit≤}
use Rattle.std.specs.Float.{nan, inf, fin, binary32, binary64}
use Rattle.std.specs.Float.Ieee.{up, down, add, sub, mul, div, lt, le, of_int, of_bits}
use Rattle.std.specs.Float.Ieee.Bits.{is_true}
use Rattle.std.specs.Float.Ieee.Fits.{down_pos, and_l, and_r}
use Rattle.std.specs.Float.Ieee.Scale.{finite}
use Rattle.ieee.specs.Bound.{Within, Beyond}
use Rattle.ieee.specs.Narrow.{narrowed}
use Rattle.ieee.proofs.laws.NarrowLaws.{narrowed_fits}
use Rattle.ieee.proofs.laws.Bounds.{or_le, within_mono, add_within, sub_within, mul_within, div_within, narrowed_within, whole_value, scaled_value}
use Rattle.ieee.proofs.laws.LowerBounds.{fine, round_beyond, scale_value}
use Rattle.complex.specs.Complex as complex
use Rattle.complex.specs.Complex.{Complex, scaled, narrowed_parts, difference, word_of, sample_of, PartsWithin, WordWithin}
use Rattle.complex.proofs.laws.Words.{sample_of_word}
use Rattle.rules.specs.Constants.{one, five, tau, rate_limit, part_limit}
use Rattle.rules.specs.Dc.{Level, first_level, corner, blocked, weight, clamped, is_zero, advanced, stepped, level_after, blocked_all}
use Rattle.rules.specs.Guard.{magnitude}
use Rattle.rules.specs.Iq.{ranged}
use Rattle.rules.specs.Lists.{All}
use Rattle.rules.proofs.laws.SizeLaws.{part_limited}
use Rattle.amplitude_limit.specs.Limit.{limited}
use Rattle.dc.proofs.laws.Steps.{moved, advanced_by}
use Rattle.dc_bounds.specs.Undone.{given_most, Given}
use Rattle.dc_bounds.proofs.laws.NormBounds.{part_most, Part, clamped_within}

-- ---- the weight: at most 32
one_beyond : (x : Float) → T (le one x) → T (finite x) → Beyond x 1 1
unfolding le of_bits
one_beyond nan t F = absurd F
one_beyond (inf s) t F = absurd F
one_beyond (fin true n d) t F = absurd (no_one (1 * down d) (n * up d * 1) (le_trans (down_pos d) (le_of_eq (sym (one-mul (down d))))) t)
  where
    no_one : (a b : ℕ) → 0 < a → T (false || (eqb a b && (false || eqb a 0))) → ⊥
    no_one a b A t = let z : a ≡ 0 = eqb→eq a 0 (and_r (eqb a b) (eqb a 0) t) in omega arith
one_beyond (fin false n d) t F = or_le (1 * down d) (n * up d * 1) true t

between_finite : (x : Float) → T (le one x) → T (le x rate_limit) → T (finite x)
unfolding le of_bits
between_finite nan t u = u
between_finite (inf true) t u = t
between_finite (inf false) t u = u
between_finite (fin s n d) t u = tt

-- a rate of document 01's range is at least 1
rate_beyond : (fs : Float) → T (ranged one rate_limit fs) → Beyond fs 1 1
rate_beyond fs t =
    let l : T (le one fs) = and_l (le one fs) (le fs rate_limit) t in
    one_beyond fs l (between_finite fs l (and_r (le one fs) (le fs rate_limit) t))

pub corner_within : (fs : Float) → T (ranged one rate_limit fs) → Within (corner fs) 32 1
unfolding corner of_bits
corner_within fs t =
    div_within binary64 (mul binary64 tau five) fs 32 1 1 1 32 1 (lit< tt) (lit< tt) (lit< tt) (whole_value binary64 32 (lit< tt)) (lit≤ tt)
    (within_mono (mul binary64 tau five) (32 * 2 ^ 47) (2 ^ 47 * 1) 32 1 (lit< tt) (lit≤ tt)
    (mul_within binary64 tau five 884279719003555 (2 ^ 47) 5 1 (32 * 2 ^ 47) (lit< tt) (lit< tt)
    (scale_value binary64 32 1 (2 ^ 47) (whole_value binary64 32 (lit< tt))) (lit≤ tt) (lit≤ tt) (lit≤ tt)))
    (rate_beyond fs t)

cond_within : (b : Bool) (x y : Float) (a c : ℕ) → Within x a c → Within y a c → Within (cond b x y) a c
cond_within true x y a c h k = h
cond_within false x y a c h k = k

count_beyond : (k : ℕ) → 1 ≤ k → k ≤ 2 ^ 48 → Beyond (of_int binary64 (pos k)) 1 1
unfolding of_int
count_beyond k l h =
    round_beyond binary64 false k 1 1 1 (lit< tt) (lit< tt) (whole_value binary64 1 (lit< tt)) (omega arith)
    (fine binary64 k 1 (2 ^ 48) 1 (lit< tt) (lit< tt) (whole_value binary64 (2 ^ 48) (lit< tt)) (omega arith))

weight_within : (a : Float) (n : ℕ) → n < 2 ^ 48 → Within a 32 1 → Within (weight a n) 32 1
unfolding weight of_bits
weight_within a n h w =
    let d = of_int binary64 (pos (n + 1)) in
    cond_within (lt a (div binary64 one d)) (div binary64 one d) a 32 1
    (div_within binary64 one d 1 1 1 1 32 1 (lit< tt) (lit< tt) (lit< tt) (whole_value binary64 32 (lit< tt)) (lit≤ tt) (lit≤ tt)
    (count_beyond (n + 1) (omega arith) (omega arith)))
    w

-- ---- one step

-- each part of the level is within 64 for each update
pub record Steady (l : Level) : Type 0 where
  pub re : Within l.level.re (l.updates * 2 ^ 6) 1
  pub im : Within l.level.im (l.updates * 2 ^ 6) 1

-- a sample less the level: values of binary32, and finite
pub record Parts (y : Complex) : Type 0 where
  pub re : Part y.re
  pub im : Part y.im

part : (x l : Float) (n : ℕ) → n ≤ 2 ^ 48 → Within x given_most 1 → Within l (n * 2 ^ 6) 1 → Part (narrowed (sub binary64 x l))
part x l n h w v = record {
  single = narrowed_fits (sub binary64 x l);
  small = narrowed_within (sub binary64 x l) part_most 1 (lit< tt) (scaled_value binary32 (part_most / 2 ^ 54) 54 (lit< tt) (lit≤ tt))
      (sub_within binary64 x l given_most (n * 2 ^ 6) part_most 1 (lit< tt) (scaled_value binary64 (part_most / 2 ^ 54) 54 (lit< tt) (lit≤ tt)) (omega arith) w v);
}

pub blocked_parts : (l : Level) (x : ℕ) → l.updates ≤ 2 ^ 48 → Steady l → Given x → Parts (blocked l.level (sample_of x))
unfolding blocked narrowed_parts difference
blocked_parts l x h s g = record {
  re = part (sample_of x).re l.level.re l.updates h g.0 s.re;
  im = part (sample_of x).im l.level.im l.updates h g.1 s.im;
}

grown : (l v g : Float) (n : ℕ) → n < 2 ^ 48 → Within l (n * 2 ^ 6) 1 → Within v 2 1 → Within g 32 1
    → Within (add binary64 l (mul binary64 v g)) (suc n * 2 ^ 6) 1
grown l v g n h a b c =
    add_within binary64 l (mul binary64 v g) (n * 2 ^ 6) 64 (suc n * 2 ^ 6) 1 (lit< tt) (scaled_value binary64 (suc n) 6 (omega arith) (lit≤ tt))
    (omega arith) a
    (mul_within binary64 v g 2 1 32 1 64 (lit< tt) (lit< tt) (whole_value binary64 64 (lit< tt)) (lit≤ tt) b c)

-- a step is at most one update
pub record Stepped (n : ℕ) (l : Level) : Type 0 where
  pub steady : Steady l
  pub count : l.updates ≤ suc n

pub advanced_steady : (a : Float) (l : Level) (y : Complex) → l.updates < 2 ^ 48 → Within a 32 1 → Steady l → Parts y → Stepped l.updates (advanced a l y)
unfolding complex.sum scaled
advanced_steady a l y h w s p =
    subst (Stepped l.updates) (sym (advanced_by a l y (eqb l.updates 0 && is_zero y) refl)) (go (eqb l.updates 0 && is_zero y))
  where
    go : (q : Bool) → Stepped l.updates (cond q l (moved a l y))
    go true = record { steady = s; count = omega arith }
    go false =
        let c = clamped_within y p.re p.im in
        let g = weight_within a l.updates h w in
        record {
          steady =
              record {
                re = grown l.level.re (clamped y).re (weight a l.updates) l.updates h s.re c.re g;
                im =
                    grown l.level.im (clamped y).im (weight a l.updates) l.updates h s.im c.im g;
              };
          count = omega arith;
        }

-- ---- all samples

-- a word that the stage writes
written : (y : Complex) → Parts y → WordWithin part_most (word_of y)
written y p =
    subst (PartsWithin part_most) (sym (sample_of_word y (record { re = p.re.single; im = p.im.single }))) (p.re.small, p.im.small)

-- after samples, from any steady level
pub record Run (a : Float) (l : Level) (xs : List ℕ) : Type 0 where
  pub steady : Steady (level_after a l xs)
  pub count : (level_after a l xs).updates ≤ l.updates + length xs
  pub outputs : All (WordWithin part_most) (blocked_all a l xs)

pub run_steady : (a : Float) (l : Level) (xs : List ℕ) → Within a 32 1 → Steady l → All Given xs → l.updates + length xs ≤ 2 ^ 48 → Run a l xs
unfolding level_after blocked_all stepped
run_steady a l [] w s g h = record { steady = s; count = omega arith; outputs = tt }
run_steady a l (x ∷ xs) w s g h =
    let y = blocked l.level (sample_of x) in
    let p = blocked_parts l x (le_trans (le-add_right l.updates (length (x ∷ xs))) h) s g.0 in
    let t = advanced_steady a l y (omega arith) w s p in
    let c = t.count in
    let r = run_steady a (advanced a l y) xs w t.steady g.1 (omega arith) in
    let n = r.count in
    record { steady = r.steady; count = omega arith; outputs = (written y p, r.outputs) }

-- ---- as number 5 asks of a level's part: within 1e18
limited_of : (x : Float) → Within x (2 ^ 54) 1 → limited x ≡ true
unfolding limited
limited_of x w = is_true (le (magnitude x) part_limit) (part_limited x (2 ^ 54) (lit≤ tt) w)

-- THE BOUND: from fresh, at a rate that document 01 takes
pub record Bounded (fs : Float) (xs : List ℕ) : Type 0 where
  pub updates : (level_after (corner fs) first_level xs).updates ≤ length xs
  pub re : Within (level_after (corner fs) first_level xs).level.re ((level_after (corner fs) first_level xs).updates * 64) 1
  pub im : Within (level_after (corner fs) first_level xs).level.im ((level_after (corner fs) first_level xs).updates * 64) 1
  pub re_limited : limited (level_after (corner fs) first_level xs).level.re ≡ true
  pub im_limited : limited (level_after (corner fs) first_level xs).level.im ≡ true
  pub outputs : All (WordWithin part_most) (blocked_all (corner fs) first_level xs)

first_steady : Steady first_level
first_steady = unfold of_bits in record { re = lit≤ tt; im = lit≤ tt }

pub level_bounded : (fs : Float) (xs : List ℕ) → T (ranged one rate_limit fs) → All Given xs → length xs ≤ 2 ^ 48 → Bounded fs xs
level_bounded fs xs r g h =
    let a = corner fs in
    let p = run_steady a first_level xs (corner_within fs r) first_steady g (omega arith) in
    let c = p.count in
    let l = level_after a first_level xs in
    let top : l.updates * 64 * 1 ≤ 2 ^ 54 * 1 = omega arith in
    record {
      updates = omega arith;
      re = p.steady.re;
      im = p.steady.im;
      re_limited = limited_of l.level.re (within_mono l.level.re (l.updates * 64) 1 (2 ^ 54) 1 (lit< tt) top p.steady.re);
      im_limited = limited_of l.level.im (within_mono l.level.im (l.updates * 64) 1 (2 ^ 54) 1 (lit< tt) top p.steady.im);
      outputs = p.outputs;
    }
