-- A mark, a count and a record are one event in the notes. Assumes nothing.
use mathlib.Core.Path.{◌≡◌}
use mathlib.Core.Bool.{Bool}
use mathlib.Core.List.{List, [], ◌∷◌}
use Prim.Native.Nat.{ℕ, ◌+◌}
use Rattle.rules.specs.Lists.{indicator}
use Rattle.rules.specs.Impulse.{uncertain}
use Rattle.rules.specs.Log.{ring_number, impulse, Repaired, Flagged, Uncertain, span_of, append}
use Rattle.stage_log.specs.declared.Ring.{Ring}
use Rattle.stage_log.specs.declared.Log.{Log}
use Rattle.stage_log.specs.declared.Repair.{Repair}
use Rattle.stage_log.specs.View.{Logged, ring_in, marked_at, words_of_repair}
use Rattle.impulse.specs.declared.Ended.TheVariants.{Kept, Mended}
use Rattle.stage_log.specs.declared.Notes.{Notes}
use Rattle.impulse_slice.specs.Noted.{noted_of, note_all, filled_events}

-- the log with its store
abbrev pub logged : Log → List ℕ → Logged
logged l ws = record { log = l; spans = ws }

abbrev pub notes_of : Log → Ring → ℕ → Notes
notes_of l r n = record { log = l; repairs = r; longruns = n }

module _ (span_capacity repair_capacity : ℕ) (n : Notes) (l : Log) (ws ws' : List ℕ) where
  pub doubt_noted : (rs : List ℕ) (j : ℕ) → logged l ws' ≡ marked_at span_capacity (logged n.log ws) (ring_number impulse Uncertain) (span_of j 1)
      → noted_of (notes_of l n.repairs n.longruns) ws' rs ≡ note_all span_capacity repair_capacity (noted_of n ws rs) (uncertain j ∷ [])
  unfolding note_all
  doubt_noted rs j e = λ i. record { logged = e i; repairs = ring_in n.repairs rs; longruns = n.longruns }

  pub kept_noted : (rs : List ℕ) (a len runs : ℕ) (long : Bool) → runs ≡ n.longruns + indicator long
      → logged l ws' ≡ marked_at span_capacity (logged n.log ws) (ring_number impulse Flagged) (span_of a len)
      → noted_of (notes_of l n.repairs runs) ws' rs ≡ note_all span_capacity repair_capacity (noted_of n ws rs) (filled_events (Kept a len long))
  unfolding note_all
  kept_noted rs a len runs long r e = λ i. record { logged = e i; repairs = ring_in n.repairs rs; longruns = r i }

  pub mended_noted : (rs rs' : List ℕ) (r : Repair) (q : Ring) → ring_in q rs' ≡ append repair_capacity (ring_in n.repairs rs) (words_of_repair r)
      → logged l ws' ≡ marked_at span_capacity (logged n.log ws) (ring_number impulse Repaired) (span_of r.start r.len)
      → noted_of (notes_of l q n.longruns) ws' rs' ≡ note_all span_capacity repair_capacity (noted_of n ws rs) (filled_events (Mended r))
  unfolding note_all
  mended_noted rs rs' r q f e = λ i. record { logged = e i; repairs = f i; longruns = n.longruns }
