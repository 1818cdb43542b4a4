-- Acts that bring samples and acts that are hops, merged in any order: each leads as it does alone, since neither reads what the other moves. Knows no act.
-- Assumes nothing.
use Rattle.std.specs.Prelude.{◌≡◌, refl, Bool, true, false, List, [], ◌∷◌, ◌++◌, ℕ}
use Rattle.std.proofs.Common.{sym, subst}
use Rattle.rules.specs.Monitor.{Hop}
use Rattle.chain_config.specs.declared.ConditioningConfig.{ConditioningConfig}
use Rattle.one_record.specs.Lists.{Act, Operation, ownly, Chain, run, Proper, AllAccepted, own_all, merged}
use Rattle.one_record.proofs.laws.Reaching.{chain_at, Reached, Step}

-- all are accepted, each with the chain's own, and they lead to a chain
abbrev pub Ends : Chain → List Operation → Chain → Type 0
Ends y os z = AllAccepted y os × (Proper y os × (run y os ≡ z))

module _ (g : ConditioningConfig) where
  -- whatever hops came before, they lead from some samples to others
  abbrev pub Brings : List ℕ → List Act → List ℕ → Type 0
  Brings xs [] zs = xs ≡ zs
  Brings xs (a ∷ l) zs = (ys : List ℕ) × ((hs : List Hop) → Reached g xs hs → Step g xs hs a ys hs) × Brings ys l zs

  -- whatever samples came before, they lead from some hops to others
  abbrev pub Hops : List Hop → List Act → List Hop → Type 0
  Hops hs [] ks = hs ≡ ks
  Hops hs (a ∷ l) ks = (es : List Hop) × ((xs : List ℕ) → Reached g xs hs → Step g xs hs a xs es) × Hops es l ks

  then : (xs xs' : List ℕ) (hs hs' : List Hop) (a : Act) (os : List Operation) (z : Chain) → Step g xs hs a xs' hs' → Ends (chain_at g xs' hs') os z
      → Ends (chain_at g xs hs) (ownly a ∷ os) z
  then xs xs' hs hs' a os z s e =
      let q = subst (λ (y : Chain). Ends y os z) (sym s.is) e in
      ((s.taken, q.0), ((λ t. refl, q.1.0), q.1.1))

  joined : (l r : List Act) (xs zs : List ℕ) (hs ks : List Hop) → Hops hs l ks → Brings xs r zs → Reached g xs hs
      → Ends (chain_at g xs hs) (own_all (l ++ r)) (chain_at g zs ks)
  joined [] [] xs zs hs ks p q t = (tt, (tt, λ i. chain_at g (q i) (p i)))
  joined [] (b ∷ r) xs zs hs ks p q t = let s = q.1 hs t in
      then xs q.0 hs hs b (own_all r) (chain_at g zs ks) s (joined [] r q.0 zs hs ks p q.2 s.reached)
  joined (a ∷ l) r xs zs hs ks p q t = let s = p.1 xs t in
      then xs xs hs p.0 a (own_all (l ++ r)) (chain_at g zs ks) s (joined l r xs zs p.0 ks p.2 q s.reached)

  pub merging : (turns : List Bool) (l r : List Act) (xs zs : List ℕ) (hs ks : List Hop) → Hops hs l ks → Brings xs r zs → Reached g xs hs
      → Ends (chain_at g xs hs) (own_all (merged turns l r)) (chain_at g zs ks)
  merging [] l r xs zs hs ks p q t = joined l r xs zs hs ks p q t
  merging (true ∷ turns) [] r xs zs hs ks p q t = merging turns [] r xs zs hs ks p q t
  merging (true ∷ turns) (a ∷ l) r xs zs hs ks p q t = let s = p.1 xs t in
      then xs xs hs p.0 a (own_all (merged turns l r)) (chain_at g zs ks) s (merging turns l r xs zs p.0 ks p.2 q s.reached)
  merging (false ∷ turns) l [] xs zs hs ks p q t = merging turns l [] xs zs hs ks p q t
  merging (false ∷ turns) l (b ∷ r) xs zs hs ks p q t = let s = q.1 hs t in
      then xs q.0 hs hs b (own_all (merged turns l r)) (chain_at g zs ks) s (merging turns l r q.0 zs hs ks p q.2 s.reached)
