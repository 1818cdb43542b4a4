-- Document 01, 'Undoing repairs': logged originals return to their places. Definitions only.
use Rattle.std.specs.Prelude.{cond, ◌&&◌, List, [], ◌∷◌, ℕ, zero, suc, ◌+◌, ◌*◌, ◌-◌, ◌%◌, ltb, leb, length, set, take, drop}
use Rattle.rules.specs.Lists.{at, up_to}
use Rattle.rules.specs.Log.{Ring, repair_width}

-- the records that a repair ring holds, oldest first
unfoldable pub held_records : ℕ → Ring → List (List ℕ)
held_records cap r = up_to (λ i. take repair_width (drop ((r.head + i) % cap * repair_width) r.words)) r.count

-- 'those outside the slice are skipped': the slice ys begins with sample `first`
abbrev pub returned : ℕ → List ℕ → ℕ → ℕ → List ℕ
returned first ys k original = cond (leb first k && ltb (k - first) (length ys)) (set ys (k - first) original) ys

-- the first n originals of a record
unfoldable pub undone : ℕ → List ℕ → ℕ → List ℕ → List ℕ
undone first e zero ys = ys
undone first e (suc t) ys = returned first (undone first e t ys) (at e 0 + t) (at e (2 + t))

-- 'Logged originals return to their places, oldest first'
unfoldable pub undone_all : ℕ → List (List ℕ) → List ℕ → List ℕ
undone_all first [] ys = ys
undone_all first (e ∷ es) ys = undone_all first es (undone first e (at e 1) ys)
