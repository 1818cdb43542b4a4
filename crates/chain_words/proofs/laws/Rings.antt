-- Rings and their counts as words, one behind another. Assumes nothing.
use Rattle.std.specs.Prelude.{◌≡◌, refl, List, [], ◌∷◌, ◌++◌, ℕ, zero, suc, ◌+◌, ◌*◌, ◌<◌, length, get_or, take, drop}
use Rattle.std.proofs.Common.{ap, ◌∙◌, arith, add-one, get_or-drop, drop-drop, take-suc}
use Rattle.stage_log.specs.declared.Marks.{Marks}
use Rattle.chain_words.specs.Words.{ring_words, rings_words, samples_words}
use Rattle.chain_words.specs.States.{word, ring_in, marks_in}

-- ---- rings in words

pub marks_length : (n : ℕ) (ws ns : List ℕ) → length (marks_in n ws ns) ≡ n
unfolding marks_in
marks_length zero ws ns = refl
marks_length (suc n) ws ns = ap suc (marks_length n (drop 3 ws) (drop 1 ns))

ring_drop : (j : ℕ) (ws : List ℕ) → ring_in (drop j ws) 0 ≡ ring_in ws j
ring_drop j ws =
    let e : j + 0 ≡ j = omega arith in
    λ i.
    record {
      head = (get_or-drop j ws 0 0 ∙ ap (λ (k : ℕ). get_or ws k 0) e) i;
      count = get_or-drop j ws 1 0 i;
      dropped = get_or-drop j ws 2 0 i;
    }

marks_at : (n k : ℕ) (ws ns : List ℕ) (d : Marks) → k < n
    → get_or (marks_in n ws ns) k d ≡ record { samples = word ns k; ring = ring_in (drop (k * 3) ws) 0 }
unfolding marks_in
marks_at zero k ws ns d h = absurd (let z : ⊥ = omega arith in z)
marks_at (suc n) zero ws ns d h = refl
marks_at (suc n) (suc k) ws ns d h =
    let e : 3 + k * 3 ≡ suc k * 3 = omega arith in
    let f : 1 + k ≡ suc k = omega arith in
    let r = drop-drop (k * 3) 3 ws ∙ ap (λ (j : ℕ). drop j ws) e in
    let s = get_or-drop 1 ns k 0 ∙ ap (λ (j : ℕ). get_or ns j 0) f in
    marks_at n k (drop 3 ws) (drop 1 ns) d (omega arith) ∙ (λ i. record { samples = s i; ring = ring_in (r i) 0 })

pub marks_there : (at from n k : ℕ) (ws : List ℕ) (d : Marks) → k < n
    → get_or (marks_in n (drop at ws) (drop from ws)) k d ≡ record { samples = word ws (from + k); ring = ring_in ws (at + k * 3) }
marks_there at from n k ws d h =
    let r = ap (λ (l : List ℕ). ring_in l 0) (drop-drop (k * 3) at ws) ∙ ring_drop (at + k * 3) ws in
    marks_at n k (drop at ws) (drop from ws) d h ∙ (λ i. record { samples = get_or-drop from ws k 0 i; ring = r i })

-- ---- words of rings

rings_append : (a b : List Marks) → rings_words (a ++ b) ≡ rings_words a ++ rings_words b
unfolding rings_words
rings_append [] b = refl
rings_append (m ∷ a) b = ap (λ (l : List ℕ). m.ring.head ∷ m.ring.count ∷ m.ring.dropped ∷ l) (rings_append a b)

pub rings_none : (l : List Marks) → rings_words (take 0 l) ≡ []
unfolding rings_words
rings_none l = refl

pub rings_next : (l : List Marks) (k : ℕ) (d : Marks) → k < length l
    → rings_words (take (k + 1) l) ≡ rings_words (take k l) ++ ring_words (get_or l k d).ring
unfolding rings_words
rings_next l k d h =
    ap rings_words (ap (λ (i : ℕ). take i l) (add-one k) ∙ take-suc l k d h) ∙ rings_append (take k l) (get_or l k d ∷ [])

pub rings_words_length : (l : List Marks) → length (rings_words l) ≡ length l * 3
unfolding rings_words
rings_words_length [] = refl
rings_words_length (m ∷ l) = let h = rings_words_length l in omega arith

-- ---- there and back

pub marks_again : (l : List Marks) (x y : List ℕ) → marks_in (length l) (rings_words l ++ x) (samples_words l ++ y) ≡ l
unfolding marks_in rings_words
marks_again [] x y = refl
marks_again (m ∷ l) x y = ap (λ (k : List Marks). m ∷ k) (marks_again l x y)
