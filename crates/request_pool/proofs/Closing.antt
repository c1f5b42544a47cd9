-- Links are closed one after another.
use Rattle.std.proofs.Common.{ℕ, ◌≡◌, ◌<◌, ◌≤◌, Option, Some, refl, sym, ap, subst, arith, List, [], ◌∷◌, ◌++◌, length}
use Rattle.tpf_base.specs.Links.{WireState}
use Rattle.std.proofs.Math.ListN.{length-append}
use Rattle.request_pool.specs.declared.asks.Flight.{Flight}
use Rattle.request_pool.specs.declared.asks.Spare.{Spare}
use Rattle.request_pool.specs.Pools.{Pooled}
use Rattle.request_pool.specs.Owned.{on_link, flights_on, spare_on, open_on}
use Rattle.request_pool.specs.Closing.{ClosesSome, PopsLink}
use Rattle.request_pool.proofs.Owned.{flights_on-append, spare_on-append}

-- What is closed so far: all that is held no longer. What is still held is open, and was held.
pub record Closing (was is : ℕ → ℕ) (a b : WireState) : Type 0 where
  pub closes : ClosesSome was is a b
  pub few : (k : ℕ) → is k ≤ was k
  pub owned : (k : ℕ) → is k ≤ open_on b k

-- ---- what is held, one less

longer : {X : Type 0} (xs ys : List X) (x : X) → ys ≡ xs ++ x ∷ [] → length xs < length ys
longer xs ys x e = omega (arith, ap length e, length-append xs (x ∷ []))

pub pops_due : (p q : Pooled) (f : Flight) (rest : List Flight) (o : Option ℕ) → p.due ≡ rest ++ f ∷ [] → q ≡ record p { due = rest } → o ≡ f.exchange.link → PopsLink o p q
pops_due p q f rest o e h i = subst (λ (x : Pooled). PopsLink o p x) (sym h) (record {
  held = λ k. omega (arith, ap (λ (l : List Flight). flights_on l k) e, flights_on-append rest (f ∷ []) k, ap (λ (x : Option ℕ). on_link x k) i);
  kept = refl;
  fewer = omega (arith, longer rest p.due f e);
})

pub pops_polled : (p q : Pooled) (f : Flight) (rest : List Flight) (o : Option ℕ) → p.polled ≡ rest ++ f ∷ [] → q ≡ record p { polled = rest } → o ≡ f.exchange.link → PopsLink o p q
pops_polled p q f rest o e h i = subst (λ (x : Pooled). PopsLink o p x) (sym h) (record {
  held = λ k. omega (arith, ap (λ (l : List Flight). flights_on l k) e, flights_on-append rest (f ∷ []) k, ap (λ (x : Option ℕ). on_link x k) i);
  kept = refl;
  fewer = omega (arith, longer rest p.polled f e);
})

pub pops_spare : (p q : Pooled) (s : Spare) (rest : List Spare) → p.spare ≡ rest ++ s ∷ [] → q ≡ record p { spare = rest } → PopsLink (Some s.link) p q
pops_spare p q s rest e h = subst (λ (x : Pooled). PopsLink (Some s.link) p x) (sym h) (record {
  held = λ k. omega (arith, ap (λ (l : List Spare). spare_on l k) e, spare_on-append rest (s ∷ []) k);
  kept = refl;
  fewer = omega (arith, longer rest p.spare s e);
})
