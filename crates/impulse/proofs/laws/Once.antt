-- Each sample is marked at most once in a ring: the spans of a ring climb, and end before what is not judged. So a ring's count is at most the judged. Assumes
-- nothing.
use Rattle.std.specs.Prelude.{◌≡◌, true, false, cond, ltb, take, drop}
use Rattle.std.proofs.Math.Path.{refl, subst}
use Rattle.std.proofs.Common.{sym}
use Rattle.std.proofs.Math.Bool.{Bool}
use Rattle.std.proofs.lemmas.Bool.{false≢true}
use mathlib.Core.List.{List, [], ◌∷◌, ◌++◌}
use Prim.Native.Nat.{ℕ, zero, suc, ◌+◌, ◌≤◌}
use native.Mathlib.Omega.{arith}
use Rattle.rules.specs.Impulse.{Setting, before, start, closes, block_of, touches, mendable, Event, uncertain, kept, mended, events_at, events}
use Rattle.rules.proofs.laws.Runs.{before_le, before_off, start_on}
use Rattle.rules.proofs.laws.EventLaws.{marks_append}
use Rattle.rules.specs.Log.{Span, Mark, Repaired, Flagged, Corrected, Uncertain, marks_of}

-- each span starts at the end of the one before or later
abbrev pub Climbs : ℕ → List Span → Type 0
Climbs lo [] = Unit {0}
Climbs lo (p ∷ ps) = (lo ≤ p.start) × Climbs (p.start + p.len) ps

abbrev pub end_of : ℕ → List Span → ℕ
end_of lo [] = lo
end_of lo (p ∷ ps) = end_of (p.start + p.len) ps

abbrev pub total : List Span → ℕ
total [] = 0
total (p ∷ ps) = p.len + total ps

-- as many as it says
pub total_fits : (lo : ℕ) (ps : List Span) → Climbs lo ps → lo + total ps ≤ end_of lo ps
total_fits lo [] c = omega arith
total_fits lo (p ∷ ps) c = let r = total_fits (p.start + p.len) ps c.1 in omega (arith, c.0)

climbs_append : (lo : ℕ) (ps qs : List Span) → Climbs lo ps → Climbs (end_of lo ps) qs → Climbs lo (ps ++ qs)
climbs_append lo [] qs c d = d
climbs_append lo (p ∷ ps) qs c d = (c.0, climbs_append (p.start + p.len) ps qs c.1 d)

end_append : (lo : ℕ) (ps qs : List Span) → end_of lo (ps ++ qs) ≡ end_of (end_of lo ps) qs
end_append lo [] qs = refl
end_append lo (p ∷ ps) qs = end_append (p.start + p.len) ps qs

-- what a ring may hold when j are judged: all of it before this
abbrev pub bound : Mark → (ℕ → Bool) → ℕ → ℕ
bound Repaired F j = start F j
bound Flagged F j = start F j
bound Corrected F j = 0
bound Uncertain F j = j

module _ (s : Setting) (F P : ℕ → Bool) (xs : List ℕ) where
  pub record Once (r : Mark) (j : ℕ) : Type 0 where
    pub climb : Climbs 0 (marks_of r (events s F P xs j))
    pub ended : end_of 0 (marks_of r (events s F P xs j)) ≤ bound r F j

  -- the marks at j, for a ring
  abbrev doubts : Bool → ℕ → List Event
  doubts p j = cond p (uncertain j ∷ []) []

  abbrev closing : Bool → Bool → ℕ → List Event
  closing c m j =
      cond c (cond m (mended (start F j) (before F j) (take (before F j) (drop (start F j) xs))) (kept (start F j) (before F j) (ltb s.run (before F j))) ∷
      []) []

  at_step : (r : Mark) (j e : ℕ) (p c m : Bool) → closes F j ≡ c → e ≤ bound r F j
      → Climbs e (marks_of r (doubts p j ++ closing c m j)) × (end_of e (marks_of r (doubts p j ++ closing c m j)) ≤ bound r F (suc j))
  unfolding marks_of
  at_step r j e p c m q h = go (F j) refl r p c m q h
    where
      Goal : Mark → Bool → Bool → Bool → Type 0
      Goal r p c m = Climbs e (marks_of r (doubts p j ++ closing c m j)) × (end_of e (marks_of r (doubts p j ++ closing c m j)) ≤ bound r F (suc j))

      go : (f : Bool) → F j ≡ f → (r : Mark) (p c m : Bool) → closes F j ≡ c → e ≤ bound r F j → Goal r p c m
      go true t r p true m q h = absurd (false≢true (rw t at q))
      go true t Repaired true false m q h = let a = start_on F j t in (tt, omega arith)
      go true t Repaired false false m q h = let a = start_on F j t in (tt, omega arith)
      go true t Flagged true false m q h = let a = start_on F j t in (tt, omega arith)
      go true t Flagged false false m q h = let a = start_on F j t in (tt, omega arith)
      go true t Corrected true false m q h = (tt, h)
      go true t Corrected false false m q h = (tt, h)
      go true t Uncertain true false m q h = ((h, tt), omega arith)
      go true t Uncertain false false m q h = (tt, omega arith)
      go false t Repaired true true true q h = let b = before_le F j in let z = before_off F j t in ((h, tt), omega arith)
      go false t Repaired true true false q h = let b = before_le F j in let z = before_off F j t in (tt, omega arith)
      go false t Repaired true false m q h = let b = before_le F j in let z = before_off F j t in (tt, omega arith)
      go false t Repaired false true true q h = let b = before_le F j in let z = before_off F j t in ((h, tt), omega arith)
      go false t Repaired false true false q h = let b = before_le F j in let z = before_off F j t in (tt, omega arith)
      go false t Repaired false false m q h = let b = before_le F j in let z = before_off F j t in (tt, omega arith)
      go false t Flagged true true true q h = let b = before_le F j in let z = before_off F j t in (tt, omega arith)
      go false t Flagged true true false q h = let b = before_le F j in let z = before_off F j t in ((h, tt), omega arith)
      go false t Flagged true false m q h = let b = before_le F j in let z = before_off F j t in (tt, omega arith)
      go false t Flagged false true true q h = let b = before_le F j in let z = before_off F j t in (tt, omega arith)
      go false t Flagged false true false q h = let b = before_le F j in let z = before_off F j t in ((h, tt), omega arith)
      go false t Flagged false false m q h = let b = before_le F j in let z = before_off F j t in (tt, omega arith)
      go false t Corrected true true true q h = (tt, h)
      go false t Corrected true true false q h = (tt, h)
      go false t Corrected true false m q h = (tt, h)
      go false t Corrected false true true q h = (tt, h)
      go false t Corrected false true false q h = (tt, h)
      go false t Corrected false false m q h = (tt, h)
      go false t Uncertain true true true q h = ((h, tt), omega arith)
      go false t Uncertain true true false q h = ((h, tt), omega arith)
      go false t Uncertain true false m q h = ((h, tt), omega arith)
      go false t Uncertain false true true q h = (tt, omega arith)
      go false t Uncertain false true false q h = (tt, omega arith)
      go false t Uncertain false false m q h = (tt, omega arith)

  pub once : (r : Mark) (j : ℕ) → Once r j
  unfolding events events_at before marks_of
  once Repaired zero = record { climb = tt; ended = omega arith }
  once Flagged zero = record { climb = tt; ended = omega arith }
  once Corrected zero = record { climb = tt; ended = omega arith }
  once Uncertain zero = record { climb = tt; ended = omega arith }
  once r (suc j) =
      let i = once r j in
      let ps = marks_of r (events s F P xs j) in
      let qs = marks_of r (events_at s F P xs j) in
      let more = marks_append r (events s F P xs j) (events_at s F P xs j) in
      let t = at_step r j (end_of 0 ps) (P (block_of s j)) (closes F j) (mendable s (touches s P (start F j) (before F j)) (before F j)) refl
      i.ended in
      record {
        climb = subst (Climbs 0) (sym more) (climbs_append 0 ps qs i.climb t.0);
        ended = subst (λ (l : List Span). end_of 0 l ≤ bound r F (suc j)) (sym more)
            (subst (λ (n : ℕ). n ≤ bound r F (suc j)) (sym (end_append 0 ps qs)) t.1);
      }

  -- so a ring's count is at most the number of judged samples
  pub counted : (r : Mark) (j : ℕ) → total (marks_of r (events s F P xs j)) ≤ j
  counted r j =
      let i = once r j in
      let t = total_fits 0 (marks_of r (events s F P xs j)) i.climb in
      let b = in_all r in
      omega (arith, i.ended)
    where
      in_all : (r : Mark) → bound r F j ≤ j
      in_all Repaired = omega arith
      in_all Flagged = omega arith
      in_all Corrected = omega arith
      in_all Uncertain = omega arith
