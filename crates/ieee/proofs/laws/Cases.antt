-- Closed cases of the definitions, computed: ties, subnormals, the largest and the smallest values, overflow, signs. Assumes nothing.
use Rattle.std.specs.Prelude.{◌≡◌, ◌-◌, ◌^◌, true, false, pos, negsuc, refl}
use Rattle.std.specs.Float.{nan, inf, fin}
use Rattle.std.specs.Float.Ieee.{round}
use Rattle.ieee.specs.Narrow.{narrowed}
use Rattle.ieee.specs.Root.{rooted}
use Rattle.ieee.specs.Whole.{ceil_div, round_div, whole_by}

-- ---- narrowing
-- 1 + 2 ^ -24 is a tie, to the even 1; 1 + 3 * 2 ^ -24 is one to the even 1 + 2 ^ -22; with one more digit it is none
narrow_tie_down : narrowed (fin false 16777217 (negsuc 23)) ≡ fin false 1 (pos 0)
unfolding narrowed round
narrow_tie_down = refl

narrow_tie_up : narrowed (fin false 16777219 (negsuc 23)) ≡ fin false 4194305 (negsuc 21)
unfolding narrowed round
narrow_tie_up = refl

narrow_above_tie : narrowed (fin false 33554435 (negsuc 24)) ≡ fin false 8388609 (negsuc 22)
unfolding narrowed round
narrow_above_tie = refl

-- half the smallest value is a tie to 0, which keeps its sign; a little more is the smallest value
narrow_half_least : narrowed (fin true 1 (negsuc 149)) ≡ fin true 0 (pos 0)
unfolding narrowed round
narrow_half_least = refl

narrow_least : narrowed (fin true 3 (negsuc 150)) ≡ fin true 1 (negsuc 148)
unfolding narrowed round
narrow_least = refl

-- halfway from the largest value to 2 ^ 128 is an infinity, and one digit less is the largest value
narrow_overflow : narrowed (fin true (2 ^ 25 - 1) (pos 103)) ≡ inf true
unfolding narrowed round
narrow_overflow = refl

narrow_largest : narrowed (fin false (2 ^ 26 - 3) (pos 102)) ≡ fin false (2 ^ 24 - 1) (pos 104)
unfolding narrowed round
narrow_largest = refl

-- ---- the root
root_of_2 : rooted (fin false 1 (pos 1)) ≡ fin false 6369051672525773 (negsuc 51)
unfolding rooted round
root_of_2 = refl

root_of_9 : rooted (fin false 9 (pos 0)) ≡ fin false 3 (pos 0)
unfolding rooted round
root_of_9 = refl

root_of_least : rooted (fin false 1 (negsuc 1073)) ≡ fin false 1 (negsuc 536)
unfolding rooted round
root_of_least = refl

root_of_largest : rooted (fin false (2 ^ 53 - 1) (pos 971)) ≡ fin false (2 ^ 53 - 1) (pos 459)
unfolding rooted round
root_of_largest = refl

root_of_minus_zero : rooted (fin true 0 (pos 0)) ≡ fin true 0 (pos 0)
unfolding rooted
root_of_minus_zero = refl

root_of_minus_one : rooted (fin true 1 (pos 0)) ≡ nan
unfolding rooted
root_of_minus_one = refl

-- ---- whole numbers
ceil_half : whole_by ceil_div (fin false 1 (negsuc 0)) ≡ 1
unfolding whole_by
ceil_half = refl

ceil_least : whole_by ceil_div (fin false 1 (negsuc 1073)) ≡ 1
unfolding whole_by
ceil_least = refl

ceil_whole : whole_by ceil_div (fin false 3 (pos 0)) ≡ 3
unfolding whole_by
ceil_whole = refl

round_half : whole_by round_div (fin false 5 (negsuc 0)) ≡ 3
unfolding whole_by
round_half = refl

-- the largest value below one half
round_below_half : whole_by round_div (fin false (2 ^ 53 - 1) (negsuc 53)) ≡ 0
unfolding whole_by
round_below_half = refl

round_past : whole_by round_div (fin false 1 (pos 64)) ≡ 2 ^ 64 - 1
unfolding whole_by
round_past = refl

round_minus : whole_by round_div (fin true 5 (pos 0)) ≡ 0
unfolding whole_by
round_minus = refl
