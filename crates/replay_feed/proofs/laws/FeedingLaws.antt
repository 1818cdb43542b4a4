-- The slice of a call by its parts, a held places and k new samples, and what is fed by what is refused. Assumes nothing.
use Rattle.std.specs.Prelude.{◌≡◌, refl, Bool, true, T}
use Rattle.std.proofs.Math.Path.{ap, sym}
use Rattle.std.proofs.Common.{◌∙◌, subst, arith, le-ltb, length-append}
use Rattle.std.proofs.Math.Bool.{false, cond}
use mathlib.Core.List.{List, [], ◌∷◌, ◌++◌}
use Prim.Native.Nat.{ℕ, zero, suc, ◌+◌, ◌-◌, ◌/◌, min, ◌≤◌}
use Rattle.std.proofs.Math.Dec.{eqb}
use Rattle.std.specs.Float.Ieee.{of_bits, le}
use Rattle.std.proofs.Math.ListN.{length, take, drop}
use Rattle.std.proofs.Math.Seq.{length-take-le, drop-append_seam}
use Rattle.complex.specs.Complex as complex
use Rattle.rules.specs.Answers.{number_of}
use Rattle.rules.proofs.laws.ListLaws.{length-map}
use Rattle.rules.specs.Guard.{magnitude, usable_part, usable, guarded, Usable}
use Rattle.rules.specs.Refusals.{unusable_at}
use Rattle.chain_state.specs.declared.InputConditioner.{InputConditioner}
use Rattle.chain.specs.Stages.{new_part, Machine, machine_of}
use Rattle.chain.specs.Calls.{unread_refusal, told_unread, Outcome, taken, called}
use Rattle.chain.proofs.laws.CallTests.{scan_all, passes, unread_declined, accepted_call}
use Rattle.replay_format.specs.Format.{sample_size, words_in}
use Rattle.replay_format.proofs.laws.FormatLaws.{words_many}
use Rattle.replay_feed.specs.Feeding.{held_in, new_many, new_words, slice, behind, taken_block, refused_block, fed}

-- ---- guarding

zero_usable : T (usable 0)
unfolding usable usable_part magnitude le complex.sample_of of_bits
zero_usable = tt

-- what guarding leaves is usable
pub guarded_usable : (xs : List ℕ) → Usable (guarded xs)
unfolding guarded
guarded_usable [] = tt
guarded_usable (x ∷ xs) = (go (usable x) refl, guarded_usable xs)
  where
    go : (b : Bool) → usable x ≡ b → T (usable (cond b x 0))
    go true e = subst T (sym e) tt
    go false e = zero_usable

-- a block is answered as the call of its slice
pub fed_said : (m : Machine) (bytes samples : List ℕ) → (fed m bytes samples).said ≡ (called m (slice m.state bytes samples)).said
unfolding fed
fed_said m bytes samples = go (eqb (number_of o.said) 0)
  where
    o : Outcome
    o = called m (slice m.state bytes samples)

    go : (b : Bool) → (cond b (taken_block m bytes samples o) (refused_block m samples o.said)).said ≡ o.said
    go true = refl
    go false = refl

-- ---- the slice

module _ (c : InputConditioner) (bytes samples : List ℕ) (a k : ℕ) (held : a ≡ held_in c samples)
    (new : k ≡ min (length bytes / sample_size) (length samples - a)) where
  pub many : new_many c bytes samples ≡ k
  many = ap (λ (n : ℕ). min (length bytes / sample_size) (length samples - n)) (sym held) ∙ sym new

  pub inside : a + k ≤ length samples
  inside = omega (arith, held, new)

  pub words_are : take k (words_in bytes) ≡ new_words c bytes samples
  unfolding new_words
  words_are = ap (λ (n : ℕ). take n (words_in bytes)) (sym many)

  -- as many as are read, guarded or not
  pub guarded_many : length (guarded (new_words c bytes samples)) ≡ k
  unfolding guarded
  guarded_many =
      length-map _ (new_words c bytes samples)
      ∙ ap (λ (ws : List ℕ). length ws) (sym words_are)
      ∙ length-take-le k (words_in bytes) (omega (arith, words_many bytes, new))

  pub slice_is : take a samples ++ guarded (new_words c bytes samples) ≡ slice c bytes samples
  unfolding slice
  slice_is = ap (λ (n : ℕ). take n samples ++ guarded (new_words c bytes samples)) held

  front_long : length (take a samples) ≡ a
  front_long = length-take-le a samples (omega (arith, inside))

  pub slice_long : length (slice c bytes samples) ≡ a + k
  slice_long =
      let words = guarded (new_words c bytes samples) in
      let q : length (take a samples ++ words) ≡ a + k = omega (arith, length-append (take a samples) words, front_long, guarded_many) in
      ap (λ (l : List ℕ). length l) (sym slice_is) ∙ q

  pub behind_is : drop (a + k) samples ≡ behind c bytes samples
  unfolding behind
  behind_is = λ i. drop (held i + sym many i) samples

  -- where there is room for what is held, the new part is what was read, guarded
  pub new_part_lem : c.counts.held ≤ a + k → new_part c (slice c bytes samples) ≡ guarded (new_words c bytes samples)
  new_part_lem h =
      let all : c.counts.held ≡ length (take a samples) = omega (arith, held, new, front_long, h) in
      (λ i. drop (all i) (sym slice_is i)) ∙ drop-append_seam (take a samples) (guarded (new_words c bytes samples))

  -- ---- a block, by what is refused before its samples are read

  module _ (spans repairs : List ℕ) where
    slice_refusal : (n : ℕ) → unread_refusal c (a + k) spans repairs ≡ n → unread_refusal c (length (slice c bytes samples)) spans repairs ≡ n
    slice_refusal n e = ap (λ (l : ℕ). unread_refusal c l spans repairs) slice_long ∙ e

    pub block_refused : (n : ℕ) → unread_refusal c (a + k) spans repairs ≡ n → eqb n 0 ≡ false
        → fed (machine_of c spans repairs) bytes samples ≡ refused_block (machine_of c spans repairs) samples (told_unread n)
    unfolding fed
    block_refused n e z =
        let m = machine_of c spans repairs in
        let o = called m (slice c bytes samples) in
        let d = unread_declined c (slice c bytes samples) spans repairs n (slice_refusal n e) z in
        ap (λ (b : Bool). cond b (taken_block m bytes samples o) (refused_block m samples o.said)) (ap (λ s. eqb (number_of s) 0) (sym d.0) ∙ go n z)
        ∙ ap (refused_block m samples) (sym d.0)
      where
        go : (n : ℕ) → eqb n 0 ≡ false → eqb (number_of (told_unread n)) 0 ≡ false
        go zero z = z
        go (suc n) z = z

    -- a call that is taken
    pub fed_taken : called (machine_of c spans repairs) (slice c bytes samples) ≡ taken (machine_of c spans repairs) (slice c bytes samples)
        → fed (machine_of c spans repairs) bytes samples
        ≡ taken_block (machine_of c spans repairs) bytes samples (taken (machine_of c spans repairs) (slice c bytes samples))
    unfolding fed
    fed_taken e =
        let m = machine_of c spans repairs in
        ap (λ (o : Outcome). cond (eqb (number_of o.said) 0) (taken_block m bytes samples o) (refused_block m samples o.said)) e

    pub block_taken : unread_refusal c (a + k) spans repairs ≡ 0
        → fed (machine_of c spans repairs) bytes samples
        ≡ taken_block (machine_of c spans repairs) bytes samples (taken (machine_of c spans repairs) (slice c bytes samples))
    block_taken z =
        let part = new_part_lem (passes c (a + k) spans repairs z).held_in in
        let scan = scan_all c.counts.held (new_part c (slice c bytes samples)) (subst Usable (sym part) (guarded_usable (new_words c bytes samples))) in
        let end = c.counts.held + length (new_part c (slice c bytes samples)) in
        let fine = le-ltb (unusable_at c.counts.held (new_part c (slice c bytes samples))) end (omega (arith, scan)) in
        fed_taken (accepted_call c (slice c bytes samples) spans repairs (slice_refusal 0 z) fine)
