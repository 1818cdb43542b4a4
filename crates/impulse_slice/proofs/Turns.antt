-- What holds between two pushes of a run: suppressor, notes and samples stand as the samples taken so far lead; and what one push adds. Assumes nothing.
use mathlib.Core.Path.{◌≡◌, ap, sym, ◌∙◌, subst}
use mathlib.Core.List.{List, [], ◌∷◌, ◌++◌, append-nil}
use Prim.Native.Nat.{ℕ, suc, ◌+◌, ◌-◌, ◌^◌, ◌≤◌, ◌<◌}
use native.Mathlib.Nat.{add-sub_of_le}
use native.Mathlib.Omega.{arith}
use lib.ListN.{length, get_or, take, drop, length-append, length-drop}
use lib.Seq.{drop-drop, take_all, take-suc, take-append_seam, drop-append-add, get_or-drop, get_or-append-add, length-take-le}
use Rattle.rules.specs.Impulse.{Setting, next_judged}
use Rattle.impulse.specs.declared.Pushed.{Pushed}
use Rattle.impulse.specs.declared.ImpulseSuppressor.{ImpulseSuppressor}
use Rattle.impulse.specs.Machine.{setting_of, push}
use Rattle.impulse.specs.View.{pushed_of, given}
use Rattle.impulse.specs.Room.{Room}
use Rattle.impulse.specs.Running.{outs, step, emit, news}
use Rattle.impulse.proofs.laws.RunningLaws.{after_append, outs_append}
use Rattle.impulse_slice.specs.Noted.{Noted, note_all, doubts, filled_events, ended_end, state_after, handed, told, placed, over, Roomy}
use Rattle.impulse_slice.proofs.laws.NotesLaws.{note_none, note_append, said_same, roomy_up}
use Rattle.impulse_slice.proofs.laws.MoveLaws.{push_moves}
use Rattle.impulse_slice.proofs.laws.StageLaws.{setting_after, room_after, handed_most, roomy_after}

-- ---- one push, by what the code answers

module _ (m : ImpulseSuppressor) (x : ℕ) (p : Pushed) (e : p ≡ pushed_of (push (setting_of m.gate) m x)) where
  pub emitted : given p.answer ≡ emit (setting_of m.gate) m x
  emitted = ap (λ (q : Pushed). given q.answer) e

  pub said : (span_capacity repair_capacity : ℕ) (n n' : Noted) (j : ℕ) → j ≡ next_judged m.gate.received
      → n' ≡ note_all span_capacity repair_capacity n (doubts j p.uncertain ++ filled_events p.ended)
      → n' ≡ note_all span_capacity repair_capacity n (news (setting_of m.gate) m x)
  said span_capacity repair_capacity n n' j f h =
      let o = push (setting_of m.gate) m x in
      h
      ∙ (λ i. note_all span_capacity repair_capacity n (doubts (f i) (e i).uncertain ++ filled_events (e i).ended))
      ∙ said_same span_capacity repair_capacity n (next_judged m.gate.received) o.uncertain o.ended

  -- a run that ended lies before the sample
  pub ended_early : Room m.gate → ended_end p.ended ≤ 2 ^ 60
  ended_early r =
      let q = (push_moves (setting_of m.gate) m x).last in
      subst (λ (q : Pushed). ended_end q.ended ≤ 2 ^ 60) (sym e) (omega (arith, q, r.behind, r.early))

-- ---- a list with others in front

over_read : (ys xs : List ℕ) (k : ℕ) → length ys ≤ k → get_or (over ys xs) k 0 ≡ get_or xs k 0
over_read ys xs k h =
    ap (λ (n : ℕ). get_or (over ys xs) n 0) (sym (add-sub_of_le h))
    ∙ get_or-append-add ys (drop (length ys) xs) (k - length ys) 0
    ∙ get_or-drop (length ys) xs (k - length ys) 0
    ∙ ap (λ (n : ℕ). get_or xs n 0) (add-sub_of_le h)

over_length : (ys xs : List ℕ) → length ys ≤ length xs → length (over ys xs) ≡ length xs
over_length ys xs h = omega (arith, length-append ys (drop (length ys) xs), length-drop (length ys) xs)

over_placed : (ys new xs : List ℕ) → placed (over ys xs) (length ys) new ≡ over (ys ++ new) xs
over_placed ys new xs =
    let a = take-append_seam ys (drop (length ys) xs) in
    let b = drop-append-add ys (drop (length ys) xs) (length new) ∙ drop-drop (length new) (length ys) xs
    ∙ ap (λ (n : ℕ). drop n xs) (sym (length-append ys new)) in
    λ i. (a i ++ new) ++ b i

-- ---- all of them

module _ (span_capacity repair_capacity held : ℕ) (m₀ : ImpulseSuppressor) (n₀ : Noted) (xs₀ : List ℕ) where
  -- the samples taken before k
  abbrev pub taken : ℕ → List ℕ
  taken k = take (k - held) (drop held xs₀)

  abbrev s : Setting
  s = setting_of m₀.gate

  pub record Going (m : ImpulseSuppressor) (n : Noted) (xs : List ℕ) (out k : ℕ) : Type 0 where
    pub from : held ≤ k
    pub inside : k ≤ length xs₀
    pub state : m ≡ state_after (setting_of m₀.gate) m₀ (taken k)
    pub notes : n ≡ note_all span_capacity repair_capacity n₀ (told (setting_of m₀.gate) m₀ (taken k))
    pub ready : out ≡ length (handed (setting_of m₀.gate) m₀ (taken k))
    pub written : xs ≡ over (handed (setting_of m₀.gate) m₀ (taken k)) xs₀

  taken_length : (k : ℕ) → k ≤ length xs₀ → length (taken k) ≡ k - held
  taken_length k h = length-take-le (k - held) (drop held xs₀) (omega (arith, length-drop held xs₀))

  taken_next : (k : ℕ) → held ≤ k → k < length xs₀ → taken (k + 1) ≡ taken k ++ (get_or xs₀ k 0 ∷ [])
  taken_next k f h =
      let a : k + 1 - held ≡ suc (k - held) = omega arith in
      let b : k - held < length (drop held xs₀) = omega (arith, length-drop held xs₀) in
      ap (λ (n : ℕ). take n (drop held xs₀)) a
      ∙ take-suc (drop held xs₀) (k - held) 0 b
      ∙ ap (λ (x : ℕ). taken k ++ (x ∷ [])) (get_or-drop held xs₀ (k - held) 0 ∙ ap (λ (n : ℕ). get_or xs₀ n 0) (add-sub_of_le f))

  outs_next : {Y : Type 0} (e : ImpulseSuppressor → ℕ → List Y) (k : ℕ) → held ≤ k → k < length xs₀
      → outs (step s) e m₀ (taken (k + 1)) ≡ outs (step s) e m₀ (taken k) ++ e (state_after s m₀ (taken k)) (get_or xs₀ k 0)
  outs_next e k f h =
      let x = get_or xs₀ k 0 in
      ap (outs (step s) e m₀) (taken_next k f h)
      ∙ outs_append (step s) e m₀ (taken k) (x ∷ [])
      ∙ ap (λ l. outs (step s) e m₀ (taken k) ++ l) (append-nil (e (state_after s m₀ (taken k)) x))

  handed_few : (k : ℕ) → k ≤ length xs₀ → length (handed s m₀ (taken k)) ≤ k - held
  handed_few k h = omega (arith, handed_most s m₀ (taken k), taken_length k h)

  -- ---- what a turn may ask

  module _ (m : ImpulseSuppressor) (n : Noted) (xs : List ℕ) (out k : ℕ) (g : Going m n xs out k) where
    pub out_few : out ≤ k
    out_few = omega (arith, g.ready, handed_few k g.inside)

    pub length_same : length xs ≡ length xs₀
    length_same = ap length g.written ∙ over_length (handed s m₀ (taken k)) xs₀ (omega (arith, handed_few k g.inside, g.inside))

    pub going_room : k < length xs₀ → (held < length xs₀ → Room m₀.gate × (m₀.gate.received + (length xs₀ - held) ≤ 2 ^ 50)) → Room m.gate
    going_room h may =
        let e : held < length xs₀ = omega (arith, g.from) in
        let l = taken_length k g.inside in
        let w = (may e).1 in
        subst (λ (q : ImpulseSuppressor). Room q.gate) (sym g.state) (room_after s m₀ (taken k) (may e).0 (omega arith))

    pub going_roomy : k < length xs₀ → (held < length xs₀ → Room m₀.gate × (m₀.gate.received + (length xs₀ - held) ≤ 2 ^ 50))
        → Roomy span_capacity repair_capacity (2 ^ 52) n₀ → Roomy span_capacity repair_capacity (2 ^ 60) n
    going_roomy h may r =
        let e : held < length xs₀ = omega (arith, g.from) in
        let l = taken_length k g.inside in
        let w = (may e).1 in
        let few : m₀.gate.received + length (taken k) ≤ 2 ^ 50 = omega arith in
        subst (λ (q : Noted). Roomy span_capacity repair_capacity (2 ^ 60) q) (sym g.notes)
        (roomy_up span_capacity repair_capacity (2 ^ 53) (2 ^ 60) (note_all span_capacity repair_capacity n₀ (told s m₀ (taken k))) (omega arith)
        (roomy_after span_capacity repair_capacity n₀ s m₀ (taken k) (λ z. ((may e).0, few)) r))

    -- ---- the next turn

    pub going_next : (m' : ImpulseSuppressor) (n' : Noted) (xs' : List ℕ) (out' : ℕ) → k < length xs₀
        → m' ≡ step (setting_of m.gate) m (get_or xs k 0)
        → n' ≡ note_all span_capacity repair_capacity n (news (setting_of m.gate) m (get_or xs k 0))
        → out' ≡ out + length (emit (setting_of m.gate) m (get_or xs k 0))
        → xs' ≡ placed xs out (emit (setting_of m.gate) m (get_or xs k 0))
        → Going m' n' xs' out' (k + 1)
    going_next m' n' xs' out' h a b c d =
        let x = get_or xs₀ k 0 in
        let ys = handed s m₀ (taken k) in
        let now = state_after s m₀ (taken k) in
        let read : get_or xs k 0 ≡ x = ap (λ (l : List ℕ). get_or l k 0) g.written ∙ over_read ys xs₀ k (omega (arith, handed_few k g.inside)) in
        let is : setting_of m.gate ≡ s = ap (λ (q : ImpulseSuppressor). setting_of q.gate) g.state ∙ setting_after s m₀ (taken k) in
        let hands = outs_next (emit s) k g.from h in
        let tells = outs_next (news s) k g.from h in
        record {
          from = omega (arith, g.from);
          inside = omega arith;
          state =
              a
              ∙ (λ i. step (is i) (g.state i) (read i))
              ∙ sym (after_append (step s) m₀ (taken k) (x ∷ []))
              ∙ ap (state_after s m₀) (sym (taken_next k g.from h));
          notes =
              b
              ∙ (λ i. note_all span_capacity repair_capacity (g.notes i) (news (is i) (g.state i) (read i)))
              ∙ sym (note_append span_capacity repair_capacity n₀ (told s m₀ (taken k)) (news s now x))
              ∙ ap (note_all span_capacity repair_capacity n₀) (sym tells);
          ready =
              c
              ∙ (λ i. g.ready i + length (emit (is i) (g.state i) (read i)))
              ∙ sym (length-append ys (emit s now x))
              ∙ ap length (sym hands);
          written =
              d
              ∙ (λ i. placed (g.written i) (g.ready i) (emit (is i) (g.state i) (read i)))
              ∙ over_placed ys (emit s now x) xs₀
              ∙ ap (λ (l : List ℕ). over l xs₀) (sym hands);
        }

    pub going_last : length xs₀ ≤ k → taken k ≡ drop held xs₀
    going_last h = take_all (k - held) (drop held xs₀) (omega (arith, length-drop held xs₀))

  pub going_first : held ≤ length xs₀ → Going m₀ n₀ xs₀ 0 held
  going_first h =
      let z : 0 ≡ held - held = omega arith in
      let none : [] ≡ taken held = ap (λ (n : ℕ). take n (drop held xs₀)) z in
      record {
        from = omega arith;
        inside = h;
        state = ap (state_after s m₀) none;
        notes = sym (note_none span_capacity repair_capacity n₀) ∙ ap (λ (l : List ℕ). note_all span_capacity repair_capacity n₀ (told s m₀ l)) none;
        ready = ap (λ (l : List ℕ). length (handed s m₀ l)) none;
        written = ap (λ (l : List ℕ). over (handed s m₀ l) xs₀) none;
      }
