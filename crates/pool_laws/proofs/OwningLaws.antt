-- From an empty pool to its close.
use Rattle.std.proofs.Common.{ℕ, ◌≡◌, ◌<◌, ◌≤◌, inl, inr, ◌++◌, List, [], ◌∷◌, map, Bool, true, false, refl, sym, ◌∙◌, ap, subst, arith}
use Rattle.std.specs.List.{AllByRecursion}
use Rattle.std.proofs.lemmas.Bool.{cases_lt}
use Rattle.tpf_base.specs.Addresses.{Address}
use Rattle.tpf_base.specs.Links.{Link, WireState}
use Rattle.request_pool.specs.declared.asks.Waiting.{Waiting}
use Rattle.request_pool.specs.declared.asks.Flight.{Flight}
use Rattle.request_pool.specs.Pools.{Pooled, Ask, ask_waiting, ask_flying, held, in_flight}
use Rattle.request_pool.specs.Owned.{held_on, times_open}
use Rattle.request_pool.specs.Closing.{ClosesSome}
use Rattle.request_pool.proofs.Owned.{closed_none}
use Rattle.list_laws.proofs.Each.{all_append, all_map}
use Rattle.pool_laws.specs.Owning.{IsAsBefore, Same}
use Rattle.pool_laws.specs.Hosts.{IsAtOneOf, GivesAtHosts, OwnsAtHosts, EmptyPoolsOwnAtHosts, PutsOwnAtHosts, FaultsOwnAtHosts, StepsOwnAtHosts, ClosesAtHosts, ClosingAtHosts}
use Rattle.pool_laws.proofs.KeptBySteps.{by_step}
use Rattle.pool_laws.proofs.Owning.{same_dialled, Keeps, keeps_as, poll_keeps, drop_keeps, shut_keeps, woken_keeps}
use Rattle.pool_laws.proofs.HeldLinks.{LinksKept, AsksAt, Owning, owning_is_kept, asks_in}

-- ---- the asks

module _ (homes : List Address) where
  asks_out : (p : Pooled) → AsksAt (IsAtOneOf homes) p → AllByRecursion (λ ask. IsAtOneOf homes ask.address) (held p)
  asks_out p h =
      all_append (λ (ask : Ask). IsAtOneOf homes ask.address) (map ask_waiting p.waiting) (map ask_flying (in_flight p))
      (all_map ask_waiting (λ (ask : Ask). IsAtOneOf homes ask.address) p.waiting h.waiting)
      (all_map ask_flying (λ (ask : Ask). IsAtOneOf homes ask.address) (in_flight p) (all_append (λ (f : Flight). IsAtOneOf homes f.exchange.address) p.polled p.due h.polled h.due))

  owns_in : (since : WireState) (p : Pooled) (a : WireState) → OwnsAtHosts homes since p a → Owning (IsAtOneOf homes) (Keeps homes since) p a
  owns_in since p a h = record { asks = asks_in (IsAtOneOf homes) p h.asks; known = record { gives = h.gives; owned = h.owned; none = h.none_before } }

  owns_out : (since : WireState) (p : Pooled) (a : WireState) → Owning (IsAtOneOf homes) (Keeps homes since) p a → OwnsAtHosts homes since p a
  owns_out since p a h = record { asks = asks_out p h.asks; gives = h.known.gives; owned = h.known.owned; none_before = h.known.none }

links_kept : (homes : List Address) (since : WireState) → LinksKept (IsAtOneOf homes) (Keeps homes since)
links_kept homes since = record {
  same = keeps_as homes since;
  poll = poll_keeps homes since;
  drop = drop_keeps homes since;
  shut = shut_keeps homes since;
  woken = woken_keeps homes since;
}

pub empty_owns : EmptyPoolsOwnAtHosts
empty_owns homes links retries budget limit wire = record {
  asks = tt;
  gives = record { later = omega arith; nature = refl; peers = λ k low below. absurd (omega (arith, low, below)); before = λ k low. Same refl };
  owned = λ k low below. absurd (omega (arith, low, below));
  none_before = λ k low. refl;
}

pub put_owns : PutsOwnAtHosts
put_owns homes since ticket address pool wire is h =
    let o = owns_in homes since pool wire h in
    owns_out homes since (record pool { waiting = pool.waiting ++ (record { ticket = ticket; address = address; failed = 0 }) ∷ [] }) wire (record {
      asks = record {
        waiting = all_append (λ (w : Waiting). IsAtOneOf homes w.address) pool.waiting ((record { ticket = ticket; address = address; failed = 0 }) ∷ []) o.asks.waiting (is, tt);
        polled = o.asks.polled;
        due = o.asks.due;
      };
      known = record { gives = h.gives; owned = h.owned; none = h.none_before };
    })

pub fault_owns : FaultsOwnAtHosts
fault_owns homes since pool wire h = record { asks = h.asks; gives = h.gives; owned = h.owned; none_before = h.none_before }

pub step_owns : StepsOwnAtHosts
step_owns homes since result old new wire wire' given suits h to =
    owns_out homes since new wire' (by_step (Owning (IsAtOneOf homes) (Keeps homes since)) (owning_is_kept (IsAtOneOf homes) (Keeps homes since) (links_kept homes since)) result old new wire wire' given suits (owns_in homes since old wire h) to)

-- ---- the close

none_open : (b : Bool) → times_open b ≤ 0 → b ≡ false
none_open false h = refl
none_open true h = absurd (omega (arith, h))

module _ (homes : List Address) (since : WireState) (p : Pooled) (a b : WireState) (h : OwnsAtHosts homes since p a) (c : ClosesSome (held_on p) (λ k. 0) a b) where
  closed_peer : (k : ℕ) → (b.links k).peer ≡ (a.links k).peer
  closed_peer k = elim (cases_lt 0 (held_on p k)) [ inl some ↦ (c.closed k some).peer | inr none ↦ ap (λ (x : Link). x.peer) (c.others k (omega (arith, none))) ]

  before_closed : (k : ℕ) → k < since.given → IsAsBefore (since.links k) (b.links k)
  before_closed k low = subst (λ (x : Link). IsAsBefore (since.links k) x) (sym (c.others k (sym (h.none_before k low)))) (h.gives.before k low)

  gives_closed : GivesAtHosts homes since b
  gives_closed = record {
    later = omega (arith, h.gives.later, c.given);
    nature = c.nature ∙ h.gives.nature;
    peers = λ k low below. same_dialled homes since.nature.tells (a.links k).peer (b.links k).peer (closed_peer k) (h.gives.peers k low (omega (arith, below, c.given)));
    before = before_closed;
  }

  all_closed : (k : ℕ) → since.given ≤ k → k < b.given → (b.links k).is_open ≡ false
  all_closed k low below = elim (cases_lt 0 (held_on p k)) [
    | inl some ↦ (c.closed k some).is_open
    | inr none ↦ ap (λ (x : Link). x.is_open) (c.others k (omega (arith, none))) ∙ none_open (a.links k).is_open (omega (arith, none, h.owned k low (omega (arith, below, c.given))))
  ]

  closes_all : ClosesAtHosts homes since (record p { waiting = []; polled = []; due = []; spare = [] }) b
  closes_all = record {
    owns = record { asks = tt; gives = gives_closed; owned = λ k low below. omega (arith, closed_none (b.links k).is_open (all_closed k low below)); none_before = λ k low. refl };
    closed = record { gives = gives_closed; closed = all_closed };
  }

pub closing_closes : ClosingAtHosts
closing_closes homes since old new wire wire' h e c =
    subst (λ (x : Pooled). ClosesAtHosts homes since x wire') (sym e)
    (closes_all homes since old wire wire' h (subst (λ (x : Pooled). ClosesSome (held_on old) (held_on x) wire wire') e c))
