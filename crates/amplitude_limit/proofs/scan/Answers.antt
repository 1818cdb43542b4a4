-- `amplitude_limit::scan` is `first_beyond_from` from place 0: the first place that is found, or the length. Assumes nothing.
use Rattle.std.proofs.Common.{◌≡◌, Bool, true, false, not, cond, List, [], ◌∷◌, ℕ, suc, ◌+◌, ◌≤◌, length, ltb, sym, ◌∙◌, ap, add-zero, zero-add, arith, rules, refl, Some, None}
use Rattle.std.specs.List.{position_or_len}
use Rattle.std.proofs.lemmas.List.Sums.{prefix_len-le-length}
use Rattle.std.specs.Option.{unwrap_or}
use Rattle.std.proofs.lemmas.Iterator.{YieldsList-from_slice}
use Rattle.std.proofs.lemmas.Iterator.Search.{position_from_yields_List}
use borrow.Author.Tests.{ltb-false}
use Rattle.rules.specs.Refusals.{within_limit, first_beyond_from}
use Rattle.amplitude_limit.proofs.scan.Goals as goal

abbrev beyond : ℕ → Bool
beyond w = not (within_limit w)

scanned : (k : ℕ) (ws : List ℕ) → k + position_or_len beyond ws ≡ first_beyond_from k ws
unfolding first_beyond_from
scanned k [] = add-zero k
scanned k (w ∷ ws) = go (within_limit w) (scanned (suc k) ws)
  where
    go : (t : Bool) → suc k + position_or_len beyond ws ≡ first_beyond_from (suc k) ws
        → k + cond (not (not t)) (1 + position_or_len beyond ws) 0 ≡ cond t (first_beyond_from (suc k) ws) k
    go true e = omega arith
    go false e = add-zero k

most : (ws : List ℕ) → position_or_len beyond ws ≤ length ws
most ws = prefix_len-le-length (λ w. not (beyond w)) ws

-- the place, where it is one, and the length where none is
placed : (m n : ℕ) → m ≤ n → unwrap_or (cond (ltb m n) (Some m) None) n ≡ m
placed m n h = go (ltb m n) refl
  where
    go : (t : Bool) → ltb m n ≡ t → unwrap_or (cond t (Some m) None) n ≡ m
    go true e = refl
    go false e = let l = ltb-false m n e in omega arith

pub returns : goal.returns
returns c =
    let ws = c.args.samples.now in
    c.unwrap_or.ensures
    ∙ ap (λ o. unwrap_or o (length ws))
    (position_from_yields_List beyond _ _ _ c.position.ensures.ran (YieldsList-from_slice ws c.iter.ensures.rest) (λ w b q k. search rules))
    ∙ placed (position_or_len beyond ws) (length ws) (most ws)
    ∙ sym (zero-add (position_or_len beyond ws))
    ∙ scanned 0 ws
