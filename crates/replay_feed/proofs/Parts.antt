-- The slice of a call, when the part behind the held places was lent, read and is back. Assumes nothing.
use mathlib.Core.Path.{◌≡◌, ap, sym, ◌∙◌}
use mathlib.Core.List.{List, ◌++◌, append_assoc}
use Prim.Native.Nat.{ℕ, ◌+◌, ◌-◌, ◌/◌, min, ◌≤◌}
use native.Mathlib.Omega.{arith}
use lib.ListN.{length, take, drop, length-append}
use lib.Seq.{take_at, length-take-le}
use borrow.Rule.Slice.PartMut.{mid_of, post_of, put_mid, mid_len, drop_put}
use Rattle.rules.specs.Guard.{guarded}
use Rattle.chain_state.specs.declared.InputConditioner.{InputConditioner}
use Rattle.replay_format.specs.Format.{sample_size, words_in}
use Rattle.replay_feed.specs.Feeding.{held_in, new_words, slice, behind}
use Rattle.replay_feed.proofs.laws.FeedingLaws.{inside, words_are, guarded_many, slice_is, behind_is}

-- all up to the part's end
put_front : (a k : ℕ) (xs ys : List ℕ) → a + k ≤ length xs → length ys ≡ k → take (a + k) (put_mid a (a + k - a) xs ys) ≡ take a xs ++ ys
put_front a k xs ys h many =
    ap (λ (l : List ℕ). take (a + k) l) (sym (append_assoc (take a xs) ys (post_of a (a + k - a) xs)))
    ∙ take_at (take a xs ++ ys) (post_of a (a + k - a) xs) (a + k) (let t = length-take-le a xs (omega arith) in omega (arith, length-append (take a xs) ys))

module _ (c : InputConditioner) (bytes samples : List ℕ) (a k : ℕ) (held : a ≡ held_in c samples)
    (new : k ≡ min (length bytes / sample_size) (length samples - a)) where
  pub part_words : take (length (mid_of a (a + k - a) samples)) (words_in bytes) ≡ new_words c bytes samples
  part_words =
      ap (λ (n : ℕ). take n (words_in bytes)) (mid_len a (a + k) samples (inside c bytes samples a k held new) ∙ (let q : a + k - a ≡ k = omega arith in q))
      ∙ words_are c bytes samples a k held new

  module _ (part : List ℕ) (read : part ≡ guarded (take (length (mid_of a (a + k - a) samples)) (words_in bytes))) where
    words : part ≡ guarded (new_words c bytes samples)
    words = read ∙ ap guarded part_words

    pub part_many : length part ≡ k
    part_many = ap (λ (l : List ℕ). length l) words ∙ guarded_many c bytes samples a k held new

    pub call_slice : take (a + k) (put_mid a (a + k - a) samples part) ≡ slice c bytes samples
    call_slice =
        put_front a k samples part (inside c bytes samples a k held new) part_many
        ∙ ap (λ (l : List ℕ). take a samples ++ l) words
        ∙ slice_is c bytes samples a k held new

    pub call_long : a + k ≡ length (take (a + k) (put_mid a (a + k - a) samples part))
    call_long =
        let t = length-take-le a samples (omega (arith, inside c bytes samples a k held new)) in
        let n : a + k ≡ length (take a samples ++ part) = omega (arith, length-append (take a samples) part, part_many) in
        n ∙ ap (λ (l : List ℕ). length l) (sym (put_front a k samples part (inside c bytes samples a k held new) part_many))

    pub call_behind : drop (a + k) (put_mid a (a + k - a) samples part) ≡ behind c bytes samples
    call_behind =
        drop_put a (a + k) samples part (omega arith) (inside c bytes samples a k held new) (omega (arith, part_many))
        ∙ behind_is c bytes samples a k held new
