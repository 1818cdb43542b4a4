-- A call by the answers of its tests. Assumes nothing.
use Rattle.std.specs.Prelude.{◌≡◌, Bool, Some, None, ℕ, zero, suc, ◌+◌, ◌-◌, ◌*◌, ◌≤◌, T, ltb, length, drop}
use Rattle.std.proofs.Math.Path.{refl, ap}
use Rattle.std.proofs.Common.{sym, ◌∙◌, arith}
use Rattle.std.proofs.Math.Bool.{true, false, not, cond}
use Rattle.std.proofs.lemmas.Bool.{false≢true}
use mathlib.Core.List.{List, [], ◌∷◌, ◌++◌}
use Rattle.std.proofs.Math.Dec.{eqb}
use borrow.Author.Tests.{ne_eqb, lt-ltb, le-ltb, eqb-true, ltb-true, ltb-false, not-false}
use Rattle.rules.specs.Guard.{usable, first_unusable_from, Usable}
use Rattle.rules.specs.Answers.{Said, accepted, refused, number_of}
use Rattle.rules.specs.Refusals.{Cause, first_of, too_many, unusable_at, any_unusable}
use Rattle.rules.specs.Lists.{All}
use Rattle.rules.specs.Log.{repair_width, store_width}
use Rattle.rules.specs.Constants.{total_limit}
use Rattle.amplitude_limit.specs.Limit.{returned}
use Rattle.stage_log.specs.Check.{ends_fit}
use Rattle.sample_guard.specs.Found.{found}
use Rattle.chain_state.specs.declared.InputConditioner.{InputConditioner}
use Rattle.chain_state.specs.Fits.{state_fits}
use Rattle.chain.specs.Stages.{new_part, Machine, machine_of, Acceptable}
use Rattle.chain.specs.Calls.{unread_causes, unread_refusal, call_refusal, told_unread, told_read, Outcome, taken, declined, called}

-- ---- the first cause of a list

-- what each cause's number has, and 0
number_in : (P : ℕ → Type 0) → P 0 → (l : List Cause) → All (λ c. P c.number) l → P (first_of l)
unfolding first_of
number_in P z [] a = z
number_in P z (c ∷ l) a = go c.holds (number_in P z l a.1)
  where
    go : (b : Bool) → P (first_of l) → P (cond b c.number (first_of l))
    go true rest = a.0
    go false rest = rest

abbrev Numbered : List Cause → Type 0
Numbered l = All (λ c. eqb c.number 0 ≡ false) l

-- more causes behind them
first_append : (l more : List Cause) → Numbered l → first_of (l ++ more) ≡ cond (eqb (first_of l) 0) (first_of more) (first_of l)
unfolding first_of
first_append [] more a = refl
first_append (c ∷ l) more a = go c.holds (first_append l more a.1)
  where
    go : (b : Bool) → first_of (l ++ more) ≡ cond (eqb (first_of l) 0) (first_of more) (first_of l)
        → cond b c.number (first_of (l ++ more)) ≡ cond (eqb (cond b c.number (first_of l)) 0) (first_of more) (cond b c.number (first_of l))
    go true rest = sym (ap (λ (z : Bool). cond z (first_of more) c.number) a.0)
    go false rest = rest

-- at 0 none holds
none_holds : (l : List Cause) → Numbered l → first_of l ≡ 0 → All (λ c. c.holds ≡ false) l
unfolding first_of
none_holds [] a z = tt
none_holds (c ∷ l) a z = go c.holds refl (none_holds l a.1) z
  where
    go : (b : Bool) → c.holds ≡ b → (first_of l ≡ 0 → All (λ d. d.holds ≡ false) l) → cond b c.number (first_of l) ≡ 0 → All (λ d. d.holds ≡ false) (c ∷ l)
    go true e rest q = absurd (false≢true (sym a.0 ∙ ap (λ (n : ℕ). eqb n 0) q))
    go false e rest q = (e, rest q)

-- ---- a call's causes

-- a call's number by the answers of its tests
abbrev pub call_number : Bool → Bool → Bool → Bool → Bool → Bool → Bool → ℕ
call_number fits repairs spans ends short many unusable =
    cond (not fits) 5 (cond (not repairs) 4 (cond (not spans) 4 (cond (not ends) 5 (cond short 6 (cond many 8 (cond unusable 7 0))))))

-- what is told unread tells whether there is a number
pub unread_none : (n : ℕ) → accepted 0 ≡ told_unread n → n ≡ 0
unread_none zero e = refl
unread_none (suc k) e = cc

pub unread_some : (n : ℕ) (ws : List ℕ) → refused ws ≡ told_unread n → eqb n 0 ≡ false
unread_some zero ws e = cc
unread_some (suc k) ws e = ne_eqb (suc k) 0 (λ h. omega arith)

-- what is told of the new samples tells whether one is not usable
told_some : (held : ℕ) (xs ws : List ℕ) → refused ws ≡ told_read held xs → (any_unusable held xs).holds ≡ true
told_some held xs ws e = go (any_unusable held xs).holds e
  where
    go : (b : Bool) → ◌≡◌ {A = Said ℕ} (refused ws) (cond b (refused (7 ∷ unusable_at held xs ∷ [])) (accepted 0)) → b ≡ true
    go true e = refl
    go false e = cc

told_none : (held : ℕ) (xs : List ℕ) → accepted 0 ≡ told_read held xs → (any_unusable held xs).holds ≡ false
told_none held xs e = go (any_unusable held xs).holds e
  where
    go : (b : Bool) → ◌≡◌ {A = Said ℕ} (accepted 0) (cond b (refused (7 ∷ unusable_at held xs ∷ [])) (accepted 0)) → b ≡ false
    go true e = cc
    go false e = refl

module _ (c : InputConditioner) (len : ℕ) (spans repairs : List ℕ) where
  pub unread_by : (f r s e h t : Bool)
      → state_fits c ≡ f
      → eqb (length repairs) (repair_width * c.settings.repairs) ≡ r
      → eqb (length spans) (store_width * c.settings.spans) ≡ s
      → ends_fit c.settings.spans (record { log = c.notes.log; spans = spans }) ≡ e
      → ltb len c.counts.held ≡ h
      → (too_many c.counts.seen (len - c.counts.held)).holds ≡ t
      → unread_refusal c len spans repairs ≡ call_number f r s e h t false
  unfolding unread_refusal first_of
  unread_by f r s e h t a1 a2 a3 a4 a5 a6 = λ i. call_number (a1 i) (a2 i) (a3 i) (a4 i) (a5 i) (a6 i) false

  -- what is not refused unread has passed all its tests
  pub record Passes : Type 0 where
    pub fits : state_fits c ≡ true
    pub repairs_long : length repairs ≡ repair_width * c.settings.repairs
    pub spans_long : length spans ≡ store_width * c.settings.spans
    pub ends : ends_fit c.settings.spans (record { log = c.notes.log; spans = spans }) ≡ true
    pub held_in : c.counts.held ≤ len
    pub few : len - c.counts.held ≤ total_limit - c.counts.seen

  numbered : Numbered (unread_causes c len spans repairs)
  numbered = (refl, (refl, (refl, (refl, (refl, (refl, tt))))))

  pub passes : unread_refusal c len spans repairs ≡ 0 → Passes
  unfolding unread_refusal
  passes z =
      let a = none_holds (unread_causes c len spans repairs) numbered z in
      let long = ltb-false len c.counts.held a.1.1.1.1.0 in
      let few = ltb-false total_limit (c.counts.seen + (len - c.counts.held)) a.1.1.1.1.1.0 in
      record {
        fits = not-false _ a.0;
        repairs_long = eqb-true _ _ (not-false _ a.1.0);
        spans_long = eqb-true _ _ (not-false _ a.1.1.0);
        ends = not-false _ a.1.1.1.0;
        held_in = omega arith;
        few = omega arith;
      }

  -- 7 is not among them
  no_seven : eqb (unread_refusal c len spans repairs) 7 ≡ false
  unfolding unread_refusal
  no_seven = number_in (λ n. eqb n 7 ≡ false) refl (unread_causes c len spans repairs) (refl, (refl, (refl, (refl, (refl, (refl, tt))))))

module _ (c : InputConditioner) (samples spans repairs : List ℕ) where
  pub refusal_by : (f r s e h t u : Bool)
      → state_fits c ≡ f
      → eqb (length repairs) (repair_width * c.settings.repairs) ≡ r
      → eqb (length spans) (store_width * c.settings.spans) ≡ s
      → ends_fit c.settings.spans (record { log = c.notes.log; spans = spans }) ≡ e
      → ltb (length samples) c.counts.held ≡ h
      → (too_many c.counts.seen (length samples - c.counts.held)).holds ≡ t
      → (any_unusable c.counts.held (new_part c samples)).holds ≡ u
      → call_refusal c samples spans repairs ≡ call_number f r s e h t u
  unfolding call_refusal first_of
  refusal_by f r s e h t u a1 a2 a3 a4 a5 a6 a7 = λ i. call_number (a1 i) (a2 i) (a3 i) (a4 i) (a5 i) (a6 i) (a7 i)

  -- a refusal, by its number
  pub declined_by : (n : ℕ) → call_refusal c samples spans repairs ≡ n → eqb n 0 ≡ false
      → called (machine_of c spans repairs) samples
      ≡ declined (machine_of c spans repairs) samples (returned n (unusable_at c.counts.held (new_part c samples)))
  unfolding called
  declined_by n e z =
      ap (λ (k : ℕ). cond (eqb k 0) (taken (machine_of c spans repairs) samples)
      (declined (machine_of c spans repairs) samples (returned k (unusable_at c.counts.held (new_part c samples))))) e
      ∙ ap (λ (b : Bool). cond b (taken (machine_of c spans repairs) samples)
      (declined (machine_of c spans repairs) samples (returned n (unusable_at c.counts.held (new_part c samples))))) z

  pub taken_by : call_refusal c samples spans repairs ≡ 0 → called (machine_of c spans repairs) samples ≡ taken (machine_of c spans repairs) samples
  unfolding called
  taken_by e =
      ap (λ (k : ℕ). cond (eqb k 0) (taken (machine_of c spans repairs) samples)
      (declined (machine_of c spans repairs) samples (returned k (unusable_at c.counts.held (new_part c samples))))) e

-- ---- the first unusable place, counted from another place on

pub first_shift : (k j : ℕ) (ws : List ℕ) → first_unusable_from (k + j) ws ≡ k + first_unusable_from j ws
unfolding first_unusable_from
first_shift k j [] = refl
first_shift k j (w ∷ ws) =
    go (usable w) (ap (λ (n : ℕ). first_unusable_from n ws) (let q : suc (k + j) ≡ k + suc j = omega arith in q) ∙ first_shift k (suc j) ws)
  where
    go : (b : Bool) → first_unusable_from (suc (k + j)) ws ≡ k + first_unusable_from (suc j) ws
        → cond b (first_unusable_from (suc (k + j)) ws) (k + j) ≡ k + cond b (first_unusable_from (suc j) ws) j
    go true rest = rest
    go false rest = refl

-- a scan of usable samples goes to the end
pub scan_all : (k : ℕ) (ws : List ℕ) → Usable ws → first_unusable_from k ws ≡ k + length ws
unfolding first_unusable_from
scan_all k [] u = omega arith
scan_all k (w ∷ ws) u = go (usable w) u.0 (scan_all (suc k) ws u.1)
  where
    go : (b : Bool) → T b → first_unusable_from (suc k) ws ≡ suc k + length ws → cond b (first_unusable_from (suc k) ws) k ≡ k + length (w ∷ ws)
    go true t e = omega (arith, e)
    go false t e = absurd t

-- ---- what the scan found

at_found : (n f k : ℕ) → Some k ≡ found n f → (ltb f n ≡ true) × (k ≡ f)
unfolding found
at_found n f k e = go (ltb f n) refl e
  where
    go : (b : Bool) → ltb f n ≡ b → Some k ≡ cond b (Some f) None → (ltb f n ≡ true) × (k ≡ f)
    go true t h = (t, cc)
    go false t h = cc

nothing_found : (n f : ℕ) → None ≡ found n f → ltb f n ≡ false
unfolding found
nothing_found n f e = go (ltb f n) refl e
  where
    go : (b : Bool) → ltb f n ≡ b → None ≡ cond b (Some f) None → ltb f n ≡ false
    go true t h = cc
    go false t h = t

-- adding the same on both sides leaves a comparison
ltb_shift : (k a b : ℕ) → ltb (k + a) (k + b) ≡ ltb a b
ltb_shift k a b = go (ltb a b) refl
  where
    go : (t : Bool) → ltb a b ≡ t → ltb (k + a) (k + b) ≡ t
    go true e = let h = ltb-true a b e in lt-ltb (k + a) (k + b) (omega arith)
    go false e = let h = ltb-false a b e in le-ltb (k + a) (k + b) (omega arith)

module _ (held : ℕ) (samples : List ℕ) (part : List ℕ) (is : part ≡ drop held samples) where
  -- the scan of the new part, in the table's words
  shifted : unusable_at held (drop held samples) ≡ held + first_unusable_from 0 part
  shifted = ap (λ (n : ℕ). first_unusable_from n (drop held samples)) (let q : held ≡ held + 0 = omega arith in q) ∙ first_shift held 0 (drop held samples)
      ∙ ap (λ (l : List ℕ). held + first_unusable_from 0 l) (sym is)

  tested : (b : Bool) → ltb (first_unusable_from 0 part) (length part) ≡ b → (any_unusable held (drop held samples)).holds ≡ b
  tested b e = (λ i. ltb (shifted i) (held + length (sym is i))) ∙ ltb_shift held (first_unusable_from 0 part) (length part) ∙ e

  pub scan_at : (k : ℕ) → Some k ≡ found (length part) (first_unusable_from 0 part)
      → ((any_unusable held (drop held samples)).holds ≡ true) × (unusable_at held (drop held samples) ≡ held + k)
  scan_at k e = let f = at_found (length part) (first_unusable_from 0 part) k e in (tested true f.0, shifted ∙ ap (λ (n : ℕ). held + n) (sym f.1))

  pub scan_fine : None ≡ found (length part) (first_unusable_from 0 part) → (any_unusable held (drop held samples)).holds ≡ false
  scan_fine e = tested false (nothing_found (length part) (first_unusable_from 0 part) e)

-- ---- the outcome of a call, by the test that ends it

-- what a function returns, as the definition has it
abbrev pub Is : Outcome → Said ℕ → Machine → List ℕ → Type 0
Is o s m samples = (s ≡ o.said) × ((m ≡ o.machine) × (samples ≡ o.samples))

is_by : (o : Outcome) (s : Said ℕ) (m : Machine) (samples : List ℕ) → o ≡ record { said = s; machine = m; samples = samples } → Is o s m samples
is_by o s m samples e = (sym (ap (λ (p : Outcome). p.said) e), (sym (ap (λ (p : Outcome). p.machine) e), sym (ap (λ (p : Outcome). p.samples) e)))

module _ (c : InputConditioner) (samples spans repairs : List ℕ) where
  by_number : (n : ℕ) → call_refusal c samples spans repairs ≡ n → eqb n 0 ≡ false → eqb n 7 ≡ false
      → Is (called (machine_of c spans repairs) samples) (refused (n ∷ [])) (machine_of c spans repairs) samples
  unfolding returned
  by_number n e z p =
      is_by (called (machine_of c spans repairs) samples) (refused (n ∷ [])) (machine_of c spans repairs) samples
      (declined_by c samples spans repairs n e z
      ∙ ap (λ (b : Bool). declined (machine_of c spans repairs) samples
      (cond b [] (cond (eqb n 7) (n ∷ unusable_at c.counts.held (new_part c samples) ∷ []) (n ∷ [])))) z
      ∙ ap (λ (b : Bool). declined (machine_of c spans repairs) samples (cond b (n ∷ unusable_at c.counts.held (new_part c samples) ∷ []) (n ∷ []))) p)

  -- 7 is told last
  by_order : (n : ℕ) (u : Bool) → unread_refusal c (length samples) spans repairs ≡ n → (any_unusable c.counts.held (new_part c samples)).holds ≡ u
      → call_refusal c samples spans repairs ≡ cond (eqb n 0) (cond u 7 0) n
  unfolding call_refusal unread_refusal first_of
  by_order n u e q =
      first_append (unread_causes c (length samples) spans repairs) (any_unusable c.counts.held (new_part c samples) ∷ [])
      (numbered c (length samples) spans repairs)
      ∙ (λ i. cond (eqb (e i) 0) (cond (q i) 7 0) (e i))

  -- what is refused unread leaves all
  pub unread_declined : (n : ℕ) → unread_refusal c (length samples) spans repairs ≡ n → eqb n 0 ≡ false
      → Is (called (machine_of c spans repairs) samples) (told_unread n) (machine_of c spans repairs) samples
  unread_declined zero e z = absurd (false≢true (sym z))
  unread_declined (suc k) e z =
      let u = (any_unusable c.counts.held (new_part c samples)).holds in
      by_number (suc k) (by_order (suc k) u e refl ∙ ap (λ (b : Bool). cond b (cond u 7 0) (suc k)) z) z
      (ap (λ (m : ℕ). eqb m 7) (sym e) ∙ no_seven c (length samples) spans repairs)

  module _ (z : unread_refusal c (length samples) spans repairs ≡ 0) where
    -- what is refused for a sample leaves all
    pub read_declined : (ws : List ℕ) → refused ws ≡ told_read c.counts.held (new_part c samples)
        → Is (called (machine_of c spans repairs) samples) (refused ws) (machine_of c spans repairs) samples
    unfolding returned
    read_declined ws e =
        let place = unusable_at c.counts.held (new_part c samples) in
        let u = told_some c.counts.held (new_part c samples) ws e in
        let seven = e ∙ ap (λ (b : Bool). cond b (refused (7 ∷ place ∷ [])) (accepted 0)) u in
        let d = is_by (called (machine_of c spans repairs) samples) (refused (7 ∷ place ∷ [])) (machine_of c spans repairs) samples
        (declined_by c samples spans repairs 7 (by_order 0 true z u) refl) in
        (seven ∙ d.0, d.1)

    pub accepted_call : (any_unusable c.counts.held (new_part c samples)).holds ≡ false
        → called (machine_of c spans repairs) samples ≡ taken (machine_of c spans repairs) samples
    accepted_call u = taken_by c samples spans repairs (by_order 0 false z u)

    -- what is not refused for a sample either is accepted
    pub read_accepted : accepted 0 ≡ told_read c.counts.held (new_part c samples)
        → called (machine_of c spans repairs) samples ≡ taken (machine_of c spans repairs) samples
    read_accepted e = accepted_call (told_none c.counts.held (new_part c samples) e)

    pub acceptable : length c.notes.log.marks ≡ 12 → Acceptable c samples spans repairs
    acceptable marks =
        let p = passes c (length samples) spans repairs z in
        record {
          stored =
              record { fits = p.fits; marks = marks; repairs_long = p.repairs_long; spans_long = p.spans_long; ends = p.ends };
          held_in =
              p.held_in;
          few = p.few;
        }
