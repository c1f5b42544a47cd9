-- A pool that holds no link below a number holds none after a step.
use Rattle.std.proofs.Common.{ℕ, ◌≡◌, ◌+◌, ◌<◌, ◌≤◌, inl, inr, List, ◌∷◌, Option, Some, None, ap, arith}
use Rattle.std.proofs.lemmas.Bool.{cases_lt}
use Rattle.tpf_base.specs.Addresses.{Address}
use Rattle.tpf_base.specs.Links.{WireState, OpensGiven}
use Rattle.exchange.specs.Exchanges.{Exchanging, IsLinked}
use Rattle.exchange.specs.Polls.{Touches, LinkAfter}
use Rattle.request_pool.specs.declared.asks.Flight.{Flight}
use Rattle.request_pool.specs.Pools.{Pooled}
use Rattle.request_pool.specs.Runs.{Begins}
use Rattle.request_pool.specs.Owned.{on_link, flights_on, held_on}
use Rattle.request_pool.specs.Polls.{Shuts}
use Rattle.request_pool.proofs.Risen.{on_its, given_is}
use Rattle.pool_laws.specs.Causes.{HoldsNoneBelow}
use Rattle.pool_laws.proofs.Owning.{after_link}
use Rattle.pool_laws.proofs.HeldLinks.{LinksKept, Owning, owning_is_kept, any_asks, begun}
use Rattle.pool_laws.proofs.KeptBySteps.{IsKept}

-- so many links were given, and none below is held
pub record NoneBelow (n : ℕ) (times : ℕ → ℕ) (a : WireState) : Type 0 where
  pub given : n ≤ a.given
  pub none : (k : ℕ) → k < n → times k ≡ 0

-- whatever the asks are for
abbrev pub Below : ℕ → Pooled → WireState → Type 0
Below n p a = Owning (λ address. Unit {0}) (NoneBelow n) p a

module _ (n : ℕ) where
  poll_below : (e f : Exchanging) (rest : ℕ → ℕ) (a b : WireState) → Touches e f a b → NoneBelow n (λ k. on_link e.link k + rest k) a → NoneBelow n (λ k. on_link f.link k + rest k) b
  poll_below e f rest a b t h =
      let after = after_link e.address e.link f.link a b t.link t.others in
      record { given = omega (arith, h.given, after.given); none = λ k low. omega (arith, after.same_old k (omega (arith, low, h.given)), h.none k low) }

  less_below : (o : Option ℕ) (rest : ℕ → ℕ) (a b : WireState) → a.given ≤ b.given → NoneBelow n (λ k. on_link o k + rest k) a → NoneBelow n rest b
  less_below o rest a b l h = record { given = omega (arith, h.given, l); none = λ k low. omega (arith, h.none k low) }

  shut_given : (o : Option ℕ) (a b : WireState) → Shuts o a b → a.given ≤ b.given
  shut_given None a b s = omega (arith, ap (λ (w : WireState). w.given) s)
  shut_given (Some i) a b c = omega (arith, c.only.given)

  below_kept : LinksKept (λ address. Unit {0}) (NoneBelow n)
  below_kept = record {
    same = λ was is a same h. record { given = h.given; none = λ k low. omega (arith, same k, h.none k low) };
    poll = λ e f rest a b u t h. poll_below e f rest a b t h;
    drop = λ o rest a closed h. less_below o rest a a (omega arith) h;
    shut = λ o rest a b s h. less_below o rest a b (shut_given o a b s) h;
    woken = λ times a b given nature same h. record { given = omega (arith, h.given, given); none = h.none };
  }

  pub below_in : (p : Pooled) (a : WireState) → HoldsNoneBelow n p a → Below n p a
  below_in p a h = record { asks = any_asks p; known = record { given = h.given; none = h.none } }

  pub below_is_kept : IsKept (Below n)
  below_is_kept = owning_is_kept (λ address. Unit {0}) (NoneBelow n) below_kept

  -- so the link of a poll is no lower
  pub polled_above : (e f : Exchanging) (rest : ℕ → ℕ) (a b : WireState) (k : ℕ) → Touches e f a b → f.link ≡ Some k → NoneBelow n (λ i. on_link e.link i + rest i) a → n ≤ k
  polled_above e f rest a b k t is h = elim (cases_lt k n) [ inl low ↦ absurd (omega (arith, (poll_below e f rest a b t h).none k low, on_its f.link k is)) | inr high ↦ high ]

  -- of an exchange that is taken out
  pub begun_below : (p q : Pooled) (f : Flight) (a : WireState) → Below n p a → Begins p q f → NoneBelow n (λ k. on_link f.exchange.link k + held_on q k) a
  begun_below p q f a h b = (begun (λ address. Unit {0}) (NoneBelow n) below_kept p q f a h b).known

  pub next_below : (p : Pooled) (f : Flight) (rest : List Flight) (a : WireState) → Below n p a → p.due ≡ f ∷ rest → NoneBelow n (λ k. on_link f.exchange.link k + held_on (record p { due = rest }) k) a
  next_below p f rest a h e = record { given = h.known.given; none = λ k low. omega (arith, h.known.none k low, ap (λ (x : List Flight). flights_on x k) e) }

-- ---- the link of a poll was given

pub polled_given : (address : Address) (o p : Option ℕ) (a b : WireState) → LinkAfter address o p a b → OpensGiven a → IsLinked o a → (k : ℕ) → p ≡ Some k → k < b.given
polled_given address (Some j) (Some i) a b l g linked k e = let same : i ≡ k = cc in omega (arith, same, l.0, l.1, given_is a j g linked)
polled_given address (Some j) None a b l g linked k e = absurd l
polled_given address None None a b l g linked k e = cc
polled_given address None (Some i) a b l g linked k e = let same : i ≡ k = cc in omega (arith, same, l.0, l.1)
