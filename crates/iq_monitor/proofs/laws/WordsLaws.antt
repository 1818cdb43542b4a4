-- Laws of the monitor's words: a hop added to the words of a window gives those of the window with the hop. Assumes nothing.
use Rattle.std.specs.Prelude.{◌≡◌, refl, ℕ, zero, suc, ◌+◌, ◌*◌, ◌≤◌, ◌<◌, length, get_or, set, take, drop, replicate, Float}
use Rattle.std.proofs.Common.{sym, ap, ◌∙◌, suc-add, arith, length-set, length-append, drop_of_length-le, drop-cons, get_or-append-add, take_at, drop_at}
use mathlib.Core.List.{List, [], ◌∷◌, ◌++◌, append_assoc, append-nil, map, foldl}
use Rattle.std.proofs.lemmas.List.{length-replicate, set-append_left, set_at, get_or_at}
use Rattle.std.proofs.Math.ListN.{get_or-append}
use Rattle.std.specs.Float.{nan, binary64}
use Rattle.std.specs.Float.Ieee.{add}
use Rattle.complex.specs.Complex.{Complex, product}
use Rattle.rules.specs.Constants.{zero_f}
use Rattle.rules.specs.Lists.{up_to}
use Rattle.rules.proofs.laws.ListLaws.{length_up_to, get_d_up_to, up_to_same}
use Rattle.rules.proofs.laws.SortLaws.{map_snoc}
use Rattle.rules.specs.Monitor.{Hop, channel, mirror_of, channel_power, channel_product, total, power_sum, real_sum, imag_sum, monitor_words, channel_width}
use Rattle.iq_monitor.specs.Words.{more, power_in, product_in, added_terms, added_hop}

pub length_terms : (n : ℕ) (ws : List Float) (k : ℕ) (p : Float) (c : Complex) → length (added_terms n ws k p c) ≡ length ws
unfolding added_terms
length_terms n ws k p c = simp length-set

-- ---- the four parts of the words

set_behind : (a l : List Float) (n i : ℕ) (x : Float) → length a ≡ n → set (a ++ l) (n + i) x ≡ a ++ set l i x
set_behind a l n i x e = ap (λ (m : ℕ). set (a ++ l) (m + i) x) (sym e) ∙ go a
  where
    go : (a : List Float) → set (a ++ l) (length a + i) x ≡ a ++ set l i x
    go [] = ap (λ (m : ℕ). set l m x) (let z : 0 + i ≡ i = omega arith in z)
    go (y ∷ a) = ap (λ (m : ℕ). set (y ∷ (a ++ l)) m x) (suc-add (length a) i) ∙ ap (λ (t : List Float). y ∷ t) (go a)

more_front : (a l : List Float) (k : ℕ) (x : Float) → k < length a → more (a ++ l) k x ≡ more a k x ++ l
more_front a l k x h =
    ap (λ (y : Float). set (a ++ l) k (add binary64 y x)) (get_or-append a l nan k h) ∙ set-append_left a l k (add binary64 (get_or a k nan) x) h

more_behind : (a l : List Float) (n i : ℕ) (x : Float) → length a ≡ n → more (a ++ l) (n + i) x ≡ a ++ more l i x
more_behind a l n i x e =
    ap (λ (y : Float). set (a ++ l) (n + i) (add binary64 y x)) (ap (λ (m : ℕ). get_or (a ++ l) (m + i) nan) (sym e) ∙ get_or-append-add a l i nan)
    ∙ set_behind a l n i (add binary64 (get_or l i nan) x) e

-- the words of channel k, of n, in the four parts
terms_parts : (n : ℕ) (a b c d : List Float) (k : ℕ) (p : Float) (z : Complex) → length a ≡ n → length b ≡ n → length c ≡ n → k < n
    → added_terms n (a ++ (b ++ (c ++ d))) k p z ≡ more a k p ++ (more b k z.re ++ (more c k z.im ++ set d k zero_f))
unfolding added_terms
terms_parts n a b c d k p z la lb lc h =
    let a' = more a k p in
    let b' = more b k z.re in
    let c' = more c k z.im in
    let la' : length a' ≡ n = length-set a k (add binary64 (get_or a k nan) p) ∙ la in
    let lb' : length b' ≡ n = length-set b k (add binary64 (get_or b k nan) z.re) ∙ lb in
    let lc' : length c' ≡ n = length-set c k (add binary64 (get_or c k nan) z.im) ∙ lc in
    let e : 2 * n + k ≡ n + (n + k) = omega arith in
    let f : 3 * n + k ≡ n + (n + (n + k)) = omega arith in
    ap (λ (l : List Float). set (more (more l (n + k) z.re) (2 * n + k) z.im) (3 * n + k) zero_f) (more_front a (b ++ (c ++ d)) k p (omega arith))
    ∙ ap (λ (l : List Float). set (more l (2 * n + k) z.im) (3 * n + k) zero_f)
    (more_behind a' (b ++ (c ++ d)) n k z.re la' ∙ ap (λ (l : List Float). a' ++ l) (more_front b (c ++ d) k z.re (omega arith)))
    ∙ ap (λ (m : ℕ). set (more (a' ++ (b' ++ (c ++ d))) m z.im) (3 * n + k) zero_f) e
    ∙ ap (λ (l : List Float). set l (3 * n + k) zero_f)
    (more_behind a' (b' ++ (c ++ d)) n (n + k) z.im la'
    ∙ ap (λ (l : List Float). a' ++ l) (more_behind b' (c ++ d) n k z.im lb' ∙ ap (λ (l : List Float). b' ++ l) (more_front c d k z.im (omega arith))))
    ∙ ap (λ (m : ℕ). set (a' ++ (b' ++ (c' ++ d))) m zero_f) f
    ∙ set_behind a' (b' ++ (c' ++ d)) n (n + (n + k)) zero_f la'
    ∙ ap (λ (l : List Float). a' ++ l) (set_behind b' (c' ++ d) n (n + k) zero_f lb' ∙ ap (λ (l : List Float). b' ++ l) (set_behind c' d n k zero_f lc'))

-- the first k places of a part turned, each by g
turned : (Float → ℕ → Float) → List Float → ℕ → List Float
turned g l zero = l
turned g l (suc k) = set (turned g l k) k (g (get_or (turned g l k) k nan) k)

length_turned : (g : Float → ℕ → Float) (l : List Float) (k : ℕ) → length (turned g l k) ≡ length l
unfolding turned
length_turned g l zero = refl
length_turned g l (suc k) = length-set (turned g l k) k (g (get_or (turned g l k) k nan) k) ∙ length_turned g l k

turned_is : (g : Float → ℕ → Float) (l : List Float) (k : ℕ) → k ≤ length l → turned g l k ≡ up_to (λ i. g (get_or l i nan) i) k ++ drop k l
unfolding up_to turned
turned_is g l zero h = refl
turned_is g l (suc k) h =
    let F : ℕ → Float = λ i. g (get_or l i nan) i in
    let e : turned g l k ≡ up_to F k ++ (get_or l k nan ∷ drop (suc k) l) = turned_is g l k (omega arith)
    ∙ ap (λ (t : List Float). up_to F k ++ t) (drop-cons l k nan (omega arith)) in
    ap (λ (t : List Float). set t k (g (get_or t k nan) k)) e
    ∙ set_at (up_to F k) (get_or l k nan) (drop (suc k) l) (g (get_or (up_to F k ++ (get_or l k nan ∷ drop (suc k) l)) k nan) k) k (length_up_to F k)
    ∙ ap (λ (x : Float). up_to F k ++ (g x k ∷ drop (suc k) l)) (get_or_at (up_to F k) (get_or l k nan) (drop (suc k) l) nan k (length_up_to F k))
    ∙ sym (append_assoc (up_to F k) (F k ∷ []) (drop (suc k) l))

-- the whole of a part
turned_all : (g : Float → ℕ → Float) (f F : ℕ → Float) (n : ℕ) → ((i : ℕ) → i < n → g (f i) i ≡ F i) → turned g (up_to f n) n ≡ up_to F n
turned_all g f F n h =
    turned_is g (up_to f n) n (let l = length_up_to f n in omega arith)
    ∙ ap (λ (l : List Float). up_to (λ i. g (get_or (up_to f n) i nan) i) n ++ l) (drop_of_length-le (up_to f n) {i = n} (let l = length_up_to f n in omega arith))
    ∙ append-nil (up_to (λ i. g (get_or (up_to f n) i nan) i) n)
    ∙ up_to_same (λ i. g (get_or (up_to f n) i nan) i) F n (λ i k. ap (λ (x : Float). g x i) (get_d_up_to nan f n i k) ∙ h i k)

added_parts : (xs : List ℕ) (a b c d : List Float) (k : ℕ) → length a ≡ length xs → length b ≡ length xs → length c ≡ length xs → k ≤ length xs
    → added_hop xs (a ++ (b ++ (c ++ d))) k
    ≡ turned (λ x i. add binary64 x (power_in xs i)) a k
    ++ (turned (λ x i. add binary64 x (product_in xs i).re) b k ++ (turned (λ x i. add binary64 x (product_in xs i).im) c k ++ turned (λ x i. zero_f) d k))
unfolding added_hop turned
added_parts xs a b c d zero la lb lc h = refl
added_parts xs a b c d (suc k) la lb lc h =
    let n = length xs in
    let ga : Float → ℕ → Float = λ x i. add binary64 x (power_in xs i) in
    let gb : Float → ℕ → Float = λ x i. add binary64 x (product_in xs i).re in
    let gc : Float → ℕ → Float = λ x i. add binary64 x (product_in xs i).im in
    ap (λ (l : List Float). added_terms n l k (power_in xs k) (product_in xs k)) (added_parts xs a b c d k la lb lc (omega arith))
    ∙ terms_parts n (turned ga a k) (turned gb b k) (turned gc c k) (turned (λ x i. zero_f) d k) k (power_in xs k) (product_in xs k) (length_turned ga a k ∙ la)
    (length_turned gb b k ∙ lb) (length_turned gc c k ∙ lc) (omega arith)

-- ---- the sums of a window

total_snoc : (xs : List Float) (x : Float) → total (xs ++ (x ∷ [])) ≡ add binary64 (total xs) x
unfolding total
total_snoc xs x = go zero_f xs
  where
    go : (w : Float) (xs : List Float) → foldl (add binary64) w (xs ++ (x ∷ [])) ≡ add binary64 (foldl (add binary64) w xs) x
    go w [] = refl
    go w (y ∷ xs) = go (add binary64 w y) xs

sum_snoc : (f : Hop → Float) (w : List Hop) (h : Hop) → total (map f (w ++ (h ∷ []))) ≡ add binary64 (total (map f w)) (f h)
sum_snoc f w h = ap total (map_snoc f w h) ∙ total_snoc (map f w) (f h)

zeros : (n : ℕ) → replicate n zero_f ≡ up_to (λ i. zero_f) n
unfolding up_to
zeros zero = refl
zeros (suc n) = snoc n ∙ ap (λ (l : List Float). l ++ (zero_f ∷ [])) (zeros n)
  where
    snoc : (n : ℕ) → replicate (suc n) zero_f ≡ replicate n zero_f ++ (zero_f ∷ [])
    snoc zero = refl
    snoc (suc n) = ap (λ (l : List Float). zero_f ∷ l) (snoc n)

-- A HOP ADDED to a window's words
pub added_words : (n : ℕ) (w : List Hop) (h : Hop) → length h.channels ≡ n → added_hop h.channels (monitor_words n w) n ≡ monitor_words n (w ++ (h ∷ []))
unfolding monitor_words power_sum real_sum imag_sum channel_power channel_product
added_words n w h e =
    let xs = h.channels in
    let all = w ++ (h ∷ []) in
    let cross : (i : ℕ) → product_in xs i ≡ channel_product n i h = λ i. ap (λ (m : ℕ). product binary64 (channel h i) (channel h (mirror_of m i))) e in
    let p = turned_all (λ x i. add binary64 x (power_in xs i)) (power_sum w) (power_sum all) n (λ i k. sym (sum_snoc (channel_power i) w h)) in
    let r = turned_all (λ x i. add binary64 x (product_in xs i).re) (real_sum n w) (real_sum n all) n
    (λ i k. ap (λ (z : Complex). add binary64 (real_sum n w i) z.re) (cross i) ∙ sym (sum_snoc (λ g. (channel_product n i g).re) w h)) in
    let m = turned_all (λ x i. add binary64 x (product_in xs i).im) (imag_sum n w) (imag_sum n all) n
    (λ i k. ap (λ (z : Complex). add binary64 (imag_sum n w i) z.im) (cross i) ∙ sym (sum_snoc (λ g. (channel_product n i g).im) w h)) in
    let s : turned (λ x i. zero_f) (replicate n zero_f) n ≡ replicate n zero_f = ap (λ (l : List Float). turned (λ x i. zero_f) l n) (zeros n)
    ∙ turned_all (λ x i. zero_f) (λ i. zero_f) (λ i. zero_f) n (λ i k. refl) ∙ sym (zeros n) in
    added_parts xs (up_to (power_sum w) n) (up_to (real_sum n w) n) (up_to (imag_sum n w) n) (replicate n zero_f) n (length_up_to (power_sum w) n ∙ sym e)
    (length_up_to (real_sum n w) n ∙ sym e) (length_up_to (imag_sum n w) n ∙ sym e) (omega arith)
    ∙ (λ i. p i ++ (r i ++ (m i ++ s i)))

-- with no hop all words are 0
pub no_words : (n : ℕ) → monitor_words n [] ≡ replicate (channel_width * n) zero_f
unfolding monitor_words power_sum real_sum imag_sum total
no_words n =
    let z = sym (zeros n) in
    (λ i. z i ++ (z i ++ (z i ++ replicate n zero_f)))
    ∙ ap (λ (l : List Float). replicate n zero_f ++ (replicate n zero_f ++ l)) (joined n n)
    ∙ ap (λ (l : List Float). replicate n zero_f ++ l) (joined n (n + n))
    ∙ joined n (n + (n + n))
    ∙ ap (λ (m : ℕ). replicate m zero_f) (let q : n + (n + (n + n)) ≡ channel_width * n = omega arith in q)
  where
    joined : (a b : ℕ) → replicate a zero_f ++ replicate b zero_f ≡ replicate (a + b) zero_f
    joined zero b = ap (λ (m : ℕ). replicate m zero_f) (let q : b ≡ 0 + b = omega arith in q)
    joined (suc a) b = ap (λ (l : List Float). zero_f ∷ l) (joined a b) ∙ ap (λ (m : ℕ). replicate m zero_f) (sym (suc-add a b))

pub length_words : (n : ℕ) (w : List Hop) → length (monitor_words n w) ≡ channel_width * n
unfolding monitor_words
length_words n w =
    let p = up_to (power_sum w) n in
    let r = up_to (real_sum n w) n in
    let m = up_to (imag_sum n w) n in
    let s = replicate n zero_f in
    let a = length-append p (r ++ (m ++ s)) in
    let b = length-append r (m ++ s) in
    let c = length-append m s in
    let lp = length_up_to (power_sum w) n in
    let lr = length_up_to (real_sum n w) n in
    let lm = length_up_to (imag_sum n w) n in
    let ls = length-replicate n zero_f in
    omega arith

pub powers_are : (n : ℕ) (w : List Hop) → take n (monitor_words n w) ≡ up_to (power_sum w) n
unfolding monitor_words
powers_are n w = take_at (up_to (power_sum w) n) (up_to (real_sum n w) n ++ (up_to (imag_sum n w) n ++ replicate n zero_f)) n (length_up_to (power_sum w) n)

pub others_are : (n : ℕ) (w : List Hop) → drop n (monitor_words n w) ≡ up_to (real_sum n w) n ++ (up_to (imag_sum n w) n ++ replicate n zero_f)
unfolding monitor_words
others_are n w = drop_at (up_to (power_sum w) n) (up_to (real_sum n w) n ++ (up_to (imag_sum n w) n ++ replicate n zero_f)) n (length_up_to (power_sum w) n)
