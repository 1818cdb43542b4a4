-- HOW CLOSE DC UNDO COMES: the record `DcUndone` of Undone.antt holds of any rate and any samples. Assumes nothing.
use Rattle.std.specs.Prelude.{◌≡◌, refl, Bool, ◌&&◌, cond, List, [], ◌∷◌, ℕ, zero, suc, ◌<◌, eqb, length, take, Float}
use Rattle.std.proofs.Math.Path.{sym}
use Rattle.std.proofs.Common.{ap, ◌∙◌, subst, not-suc-le-zero, le_of_suc-le-suc, arith, eq-eqb, le-ltb, lit≤}
use Rattle.std.proofs.Math.Bool.{true, false}
use Rattle.std.proofs.Math.Dec.{T}
use Rattle.std.specs.Float.{binary64}
use Rattle.std.specs.Float.Ieee.{fits, of_bits}
use Rattle.std.specs.Float.Ieee.Fits.{add-fits}
use Rattle.ieee.proofs.laws.NarrowLaws.{narrowed_fits}
use Rattle.complex.specs.Complex as complex
use Rattle.complex.specs.Complex.{Complex, difference, narrowed_parts, word_of, sample_of, WordWithin}
use Rattle.complex.proofs.laws.Words.{sample_parts, sample_of_word}
use Rattle.rules.specs.Lists.{at}
use Rattle.rules.proofs.laws.SizeLaws.{word_limited}
use Rattle.rules.proofs.laws.SortLaws.{all_as}
use Rattle.rules.specs.Dc.{Level, corner, first_level, blocked, is_zero, advanced, stepped, level_after, blocked_all, restored, restored_all}
use Rattle.rules.specs.Refusals.{within_limit, first_beyond_from}
use Rattle.amplitude_limit.specs.Limit.{returned}
use Rattle.amplitude_limit.proofs.laws.LimitLaws.{scan_within}
use Rattle.dc.specs.Undo.{undo_returned, undo_words}
use Rattle.dc_bounds.specs.Undone.{stage_wrote, undo_writes, rebuilt_after, level_at, rebuilt_at, SampleUndone, Handed, DcUndone}
use Rattle.dc.proofs.laws.Steps.{moved, advanced_by}
use Rattle.dc.proofs.laws.Cutting.{blocked_length}
use Rattle.dc_bounds.proofs.laws.NormBounds.{part_most}
use Rattle.dc_bounds.proofs.laws.LevelBounds.{level_bounded}
use Rattle.dc_bounds.proofs.laws.PartUndone.{part_undone}
use Rattle.dc.proofs.laws.UndoLaws.{undo_by}

-- ---- a written word is its sample

blocked_word : (l x : Complex) → sample_of (word_of (blocked l x)) ≡ blocked l x
unfolding blocked narrowed_parts
blocked_word l x = sample_of_word (narrowed_parts (difference binary64 x l)) (record { re = narrowed_fits _; im = narrowed_fits _ })

restored_word : (l y : Complex) → sample_of (word_of (restored l y)) ≡ restored l y
unfolding restored narrowed_parts
restored_word l y = sample_of_word (narrowed_parts (complex.sum binary64 y l)) (record { re = narrowed_fits _; im = narrowed_fits _ })

-- ---- from any level

rebuilt_same : (a : Float) (l : Level) (xs : List ℕ) (i : ℕ) → rebuilt_after a l (take i (blocked_all a l xs)) ≡ level_after a l (take i xs)
unfolding rebuilt_after level_after blocked_all stepped
rebuilt_same a l xs zero = refl
rebuilt_same a l [] (suc i) = refl
rebuilt_same a l (x ∷ xs) (suc i) =
    ap (λ (y : Complex). rebuilt_after a (advanced a l y) (take i (blocked_all a (stepped a l x) xs))) (blocked_word l.level (sample_of x))
    ∙ rebuilt_same a (stepped a l x) xs i

blocked_at : (a : Float) (l : Level) (xs : List ℕ) (i : ℕ) → i < length xs
    → at (blocked_all a l xs) i ≡ word_of (blocked (level_after a l (take i xs)).level (sample_of (at xs i)))
unfolding level_after blocked_all
blocked_at a l [] i h = absurd (not-suc-le-zero h)
blocked_at a l (x ∷ xs) zero h = refl
blocked_at a l (x ∷ xs) (suc i) h = blocked_at a (stepped a l x) xs i (le_of_suc-le-suc h)

restored_at : (a : Float) (l : Level) (ys : List ℕ) (i : ℕ) → i < length ys
    → at (restored_all a l ys) i ≡ word_of (restored (rebuilt_after a l (take i ys)).level (sample_of (at ys i)))
unfolding rebuilt_after restored_all
restored_at a l [] i h = absurd (not-suc-le-zero h)
restored_at a l (y ∷ ys) zero h = refl
restored_at a l (y ∷ ys) (suc i) h = restored_at a (advanced a l (sample_of y)) ys i (le_of_suc-le-suc h)

-- ---- a level's parts are values of binary64

record Fits64 (l : Complex) : Type 0 where
  re : T (fits binary64 l.re)
  im : T (fits binary64 l.im)

advanced_fits : (a : Float) (l : Level) (y : Complex) → Fits64 l.level → Fits64 (advanced a l y).level
unfolding complex.sum
advanced_fits a l y h =
    subst (λ (z : Level). Fits64 z.level) (sym (advanced_by a l y (eqb l.updates 0 && is_zero y) refl)) (go (eqb l.updates 0 && is_zero y))
  where
    go : (q : Bool) → Fits64 (cond q l (moved a l y)).level
    go true = h
    go false = record { re = add-fits binary64 _ _; im = add-fits binary64 _ _ }

after_fits : (a : Float) (l : Level) (xs : List ℕ) → Fits64 l.level → Fits64 (level_after a l xs).level
unfolding level_after stepped
after_fits a l [] h = h
after_fits a l (x ∷ xs) h = after_fits a (stepped a l x) xs (advanced_fits a l (blocked l.level (sample_of x)) h)

first_fits : Fits64 first_level.level
unfolding fits of_bits
first_fits = record { re = tt; im = tt }

-- ---- a sample

there_and_back : (l : Complex) (w : ℕ) → Fits64 l → SampleUndone (sample_of w) l (restored l (blocked l (sample_of w)))
unfolding restored blocked narrowed_parts difference complex.sum
there_and_back l w F =
    let p = sample_parts w in
    record { re = part_undone (sample_of w).re l.re p.re F.re; im = part_undone (sample_of w).im l.im p.im F.im }

module _ (fs : Float) (xs : List ℕ) where
  -- the stage's words are as many as its samples
  long : length (stage_wrote fs xs) ≡ length xs
  long = blocked_length (corner fs) first_level xs

  undone_is : (i : ℕ) → i < length xs
      → sample_of (at (undo_writes fs (stage_wrote fs xs)) i) ≡ restored (level_at fs xs i).level (blocked (level_at fs xs i).level (sample_of (at xs i)))
  undone_is i h =
      let l = (level_at fs xs i).level in
      ap sample_of (restored_at (corner fs) first_level (stage_wrote fs xs) i (omega (arith, h, long)))
      ∙ restored_word (rebuilt_at fs (stage_wrote fs xs) i).level (sample_of (at (stage_wrote fs xs) i))
      ∙ (λ k. restored (rebuilt_same (corner fs) first_level xs i k).level (sample_of (blocked_at (corner fs) first_level xs i h k)))
      ∙ ap (restored l) (blocked_word l (sample_of (at xs i)))

  nears : (i : ℕ) → i < length xs → SampleUndone (sample_of (at xs i)) (level_at fs xs i).level (sample_of (at (undo_writes fs (stage_wrote fs xs)) i))
  nears i h =
      subst (SampleUndone (sample_of (at xs i)) (level_at fs xs i).level) (sym (undone_is i h))
      (there_and_back (level_at fs xs i).level (at xs i) (after_fits (corner fs) first_level (take i xs) first_fits))

  -- ---- the operation

  undoes : (out : List ℕ) → Handed fs xs out
      → (undo_returned fs out (stage_wrote fs xs) ≡ []) × (undo_words fs out (stage_wrote fs xs) ≡ undo_writes fs (stage_wrote fs xs))
  unfolding returned
  undoes out h =
      let ys = stage_wrote fs xs in
      let b = level_bounded fs xs (subst T (sym h.rate) tt) h.samples h.few in
      let e = scan_within 0 ys (all_as (WordWithin part_most) (λ w. T (within_limit w)) (λ w o. word_limited w part_most (lit≤ tt) o) ys b.outputs) in
      let n = undo_by fs out ys true true false h.rate (eq-eqb (length out) (length ys) (h.room ∙ sym long))
      (le-ltb (first_beyond_from 0 ys) (length ys) (omega (arith, e))) in
      (sym n.0, sym n.1)

pub dc_undone : (fs : Float) (xs : List ℕ) → DcUndone fs xs
dc_undone fs xs = record {
  rebuilds = rebuilt_same (corner fs) first_level xs;
  nears = nears fs xs;
  by_level = blocked_at (corner fs) first_level xs;
  by_rebuilt = restored_at (corner fs) first_level;
  accepts = λ out h. (undoes fs xs out h).0;
  writes = λ out h. (undoes fs xs out h).1;
}
