-- Number 5's tests on the other stages, the counts and the settings find nothing: the DC stage after usable samples, at most 2 ^ 48 of them; the monitor after
-- accepted hops. Assumes nothing.
use Rattle.std.specs.Prelude.{◌≡◌, refl, Bool, true, false, cond, ◌&&◌, List, [], ◌∷◌, ℕ, zero, suc, ◌+◌, ◌-◌, ◌^◌, ◌≤◌, ◌<◌, T, leb, eqb, Float, length}
use Rattle.std.proofs.Common.{sym, subst, arith, le-leb, eq-eqb, lit≤}
use Rattle.std.specs.Float.Ieee.{le, of_bits}
use Rattle.complex.specs.Complex.{WordWithin}
use Rattle.rules.specs.Constants.{one, rate_limit, size_limit, total_limit}
use Rattle.rules.proofs.laws.TestLaws.{both, and_so}
use Rattle.rules.specs.Lists.{up_to, at, All}
use Rattle.rules.proofs.laws.ListLaws.{length_up_to}
use Rattle.rules.specs.Guard.{magnitude, usable, Usable}
use Rattle.rules.proofs.laws.SortLaws.{all_as, all_append, all_get_d}
use Rattle.rules.specs.Pauses.{Edition}
use Rattle.rules.specs.Impulse.{Setting, lookahead, block_length, flagged, judged, value, paused_in, handed_on}
use Rattle.rules.specs.Dc.{Level, first_level, corner, level_after, clamped_steps}
use Rattle.rules.specs.Iq.{Calibrated, none, with, Correcting, Withheld, ranged, coefficient, accepted, correctable, settled}
use Rattle.rules.specs.Mode.{Mode, off, observe, apply, runs}
use Rattle.rules.specs.Chain.{Config, setting_of, editions_of, after_impulse, clamped_of, settled_by}
use Rattle.rules.specs.Monitor.{Hop, window_start, window_length, open_window}
use Rattle.amplitude_limit.specs.Limit.{limited}
use Rattle.impulse.proofs.laws.PartBounds.{usable_within, within_more, mended_within}
use Rattle.impulse.proofs.laws.StateBounds.{value_keeps}
use Rattle.dc.specs.Blocker.{blocker_of}
use Rattle.dc.proofs.laws.Cutting.{clamped_few}
use Rattle.dc_bounds.specs.Undone.{given_most, Given}
use Rattle.dc_bounds.proofs.laws.LevelBounds.{level_bounded}
use Rattle.iq_monitor.specs.Words.{words_fit}
use Rattle.iq_monitor.specs.Hops.{InOrder, last_end, window_state, by_rules}
use Rattle.iq_monitor.proofs.laws.WordBounds.{no_five}
use Rattle.chain_config.specs.Config.{setting_refusal}
use Rattle.chain_state.specs.declared.Settings.{Settings}
use Rattle.chain_state.specs.Fits.{counter, settings_fit, held_by, counts_fit, blocker_fits, coefficient_fits, monitor_fits}

-- ---- the samples that the DC stage gets

-- mended or not
value_given : (s : Setting) → s.run ≤ 32 → (F P : ℕ → Bool) (xs : List ℕ) → ((i : ℕ) → i < length xs → WordWithin (2 ^ 57) (at xs i))
    → (j k : ℕ) → j ≤ length xs → k < length xs → Given (value s F P xs j k)
value_given s short F P xs each =
    value_keeps (WordWithin (2 ^ 57)) Given s F P xs (λ x w. within_more (2 ^ 57) given_most x (lit≤ tt) w)
    (λ l r t n wl wr a b. mended_within l r t n a (omega arith) wl wr) each

all_up_to : (P : ℕ → Type 0) (f : ℕ → ℕ) (n : ℕ) → ((k : ℕ) → k < n → P (f k)) → All P (up_to f n)
unfolding up_to
all_up_to P f zero h = tt
all_up_to P f (suc n) h = all_append P (up_to f n) (f n ∷ []) (all_up_to P f n (λ k l. h k (omega arith))) (h n (omega arith), tt)

usable_given : (xs : List ℕ) → Usable xs → All Given xs
usable_given xs u = all_as (λ w. T (usable w)) Given (λ w t. within_more (2 ^ 57) given_most w (lit≤ tt) (usable_within w t)) xs u

handed_given : (s : Setting) → s.run ≤ 32 → (E : ℕ → Edition) (xs : List ℕ) → Usable xs → All Given (handed_on s E xs)
unfolding handed_on
handed_given s short E xs u = go s.apply
  where
    f : ℕ → ℕ
    f = value s (flagged s xs) (paused_in s E xs) xs (judged s (length xs))

    each : (i : ℕ) → i < length xs → WordWithin (2 ^ 57) (at xs i)
    each i q = usable_within (at xs i) (all_get_d (λ w. T (usable w)) xs i 0 u q)

    go : (b : Bool) → All Given (cond b (up_to f (length xs - lookahead s)) xs)
    go true =
        all_up_to Given f (length xs - lookahead s)
        (λ k l. value_given s short (flagged s xs) (paused_in s E xs) xs each (judged s (length xs)) k (omega arith) (omega arith))
    go false = usable_given xs u

handed_most : (s : Setting) (E : ℕ → Edition) (xs : List ℕ) → length (handed_on s E xs) ≤ length xs
unfolding handed_on
handed_most s E xs = go s.apply
  where
    f : ℕ → ℕ
    f = value s (flagged s xs) (paused_in s E xs) xs (judged s (length xs))

    go : (b : Bool) → length (cond b (up_to f (length xs - lookahead s)) xs) ≤ length xs
    go true = omega (arith, length_up_to f (length xs - lookahead s))
    go false = omega arith

pub after_given : (c : Config) (xs : List ℕ) → Usable xs → All Given (after_impulse c xs)
unfolding after_impulse
after_given c xs u = go (runs c.impulse_mode)
  where
    go : (b : Bool) → All Given (cond b (handed_on (setting_of c) (editions_of c) xs) xs)
    go true = handed_given (setting_of c) (lit≤ tt) (editions_of c) xs u
    go false = usable_given xs u

-- the stage hands on no more than it gets
pub after_most : (c : Config) (xs : List ℕ) → length (after_impulse c xs) ≤ length xs
unfolding after_impulse
after_most c xs = go (runs c.impulse_mode)
  where
    go : (b : Bool) → length (cond b (handed_on (setting_of c) (editions_of c) xs) xs) ≤ length xs
    go true = handed_most (setting_of c) (editions_of c) xs
    go false = omega arith

-- ---- the DC level

level_good : (a : Float) (l : Level) → l.updates ≤ 2 ^ 52 → limited l.level.re ≡ true → limited l.level.im ≡ true → blocker_fits (blocker_of a l) ≡ true
unfolding blocker_fits
level_good a l h r m = let n : counter l.updates ≡ true = le-leb l.updates (2 ^ 52) h in λ i. n i && r i && m i

pub blocker_good : (c : Config) (xs : List ℕ) → ranged one rate_limit c.fs ≡ true → Usable xs → length xs ≤ total_limit
    → blocker_fits (blocker_of (corner c.fs) (level_after (corner c.fs) first_level (after_impulse c xs))) ≡ true
blocker_good c xs r u h =
    let ys = after_impulse c xs in
    let few : length ys ≤ total_limit = omega (arith, after_most c xs) in
    let b = level_bounded c.fs ys (subst T (sym r) tt) (after_given c xs u) few in
    let n : (level_after (corner c.fs) first_level ys).updates ≤ 2 ^ 52 = omega (arith, b.updates) in
    level_good (corner c.fs) (level_after (corner c.fs) first_level ys) n b.re_limited b.im_limited

zero_limited : (limited first_level.level.re ≡ true) × (limited first_level.level.im ≡ true)
unfolding limited magnitude le of_bits
zero_limited = (refl, refl)

pub fresh_blocker_good : (fs : Float) → blocker_fits (blocker_of (corner fs) first_level) ≡ true
fresh_blocker_good fs = level_good (corner fs) first_level (lit≤ tt) zero_limited.0 zero_limited.1

-- ---- how often its limit acted

pub clamped_most : (c : Config) (xs : List ℕ) → clamped_of c xs ≤ length xs
unfolding clamped_of
clamped_most c xs = go (runs c.dc_mode)
  where
    go : (b : Bool) → cond b (clamped_steps (corner c.fs) first_level (after_impulse c xs)) 0 ≤ length xs
    go true = omega (arith, clamped_few (corner c.fs) first_level (after_impulse c xs), after_most c xs)
    go false = omega arith

-- ---- the coefficient

settled_good : (m : Mode) (k : Calibrated) (centre : Float) → coefficient_fits (settled m k centre) ≡ true
unfolding settled
settled_good off k centre = refl
settled_good observe k centre = refl
settled_good apply none centre = refl
settled_good apply (with k) centre = go (correctable k centre && accepted (coefficient k)) refl
  where
    go : (b : Bool) → (correctable k centre && accepted (coefficient k)) ≡ b → coefficient_fits (cond b (Correcting (coefficient k)) Withheld) ≡ true
    go true e = (both (correctable k centre) (accepted (coefficient k)) e).1
    go false e = refl

pub coefficient_good : (c : Config) → coefficient_fits (settled_by c) ≡ true
coefficient_good c = settled_good c.iq_mode c.calibration c.centre

-- ---- the monitor

window_good : (w : List Hop) (end : ℕ) → window_start w ≤ end → end ≤ 2 ^ 52 → monitor_fits (window_state w end) ≡ true
unfolding monitor_fits
window_good [] e h k = and_so (counter e) true (le-leb e (2 ^ 52) k) refl
window_good (a ∷ w) e h k = and_so (counter e) (leb a.start e) (le-leb e (2 ^ 52) k) (le-leb a.start e h)

module _ (fs : Float) (n : ℕ) (hs : List Hop) (few : n ≤ size_limit) (o : InOrder n 0 hs) where
  pub monitor_good : monitor_fits (by_rules fs n [] 0 hs).monitor ≡ true
  monitor_good = let r = no_five fs n hs few o in window_good (open_window n (window_length fs) [] hs) (last_end n 0 hs) r.first r.end

  pub words_good : words_fit n (by_rules fs n [] 0 hs).words ≡ true
  words_good = (no_five fs n hs few o).words

-- ---- the counts and the settings

pub held_most : (a : Bool) (n : ℕ) → held_by a n ≤ n
held_most true n = omega arith
held_most false n = omega arith

pub counts_good : (a : Bool) (n k : ℕ) → k ≤ n → n ≤ 2 ^ 52
    → counts_fit a (record { seen = n; released = n - held_by a n; held = held_by a n; clamped = k }) ≡ true
unfolding counts_fit
counts_good a n k l h =
    let m = held_most a n in
    let seen : counter n ≡ true = le-leb n (2 ^ 52) h in
    let released : counter (n - held_by a n) ≡ true = le-leb (n - held_by a n) (2 ^ 52) (few n (held_by a n) h) in
    let clamped : counter k ≡ true = le-leb k (2 ^ 52) (omega arith) in
    let held : eqb (held_by a n) (held_by a n) ≡ true = eq-eqb (held_by a n) (held_by a n) refl in
    let total : eqb (n - held_by a n + held_by a n) n ≡ true = eq-eqb (n - held_by a n + held_by a n) n (back n (held_by a n) m) in
    λ i. seen i && released i && clamped i && held i && total i
  where
    few : (n k : ℕ) → n ≤ 2 ^ 52 → n - k ≤ 2 ^ 52
    few n k h = omega arith

    back : (n k : ℕ) → k ≤ n → n - k + k ≡ n
    back n k h = omega arith

pub settings_good : (s : Settings) (block : ℕ) → setting_refusal s.fs s.n s.spans s.repairs ≡ 0 → block ≡ block_length s.fs
    → settings_fit s block ≡ true
unfolding settings_fit
settings_good s block e b =
    let r = setting_refusal s.fs s.n s.spans s.repairs in
    and_so (eqb r 0) (eqb block (block_length s.fs)) (eq-eqb r 0 e) (eq-eqb block (block_length s.fs) b)
