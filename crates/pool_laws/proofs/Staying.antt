-- What is told of a link that was given and is not held stays, whatever a pool does.
use Rattle.std.proofs.Common.{ℕ, ◌≡◌, ◌+◌, ◌<◌, ◌++◌, [], Option, Some, None, Result, refl, sym, ◌∙◌, ap, subst, arith}
use Rattle.tpf_base.specs.Links.{Link, Nature, WireState, OpensGiven}
use Rattle.tpf_base.specs.declared.fault.Fault.{Fault}
use Rattle.tpf_base.specs.declared.wire.Ready.{Ready}
use Rattle.exchange.specs.Exchanges.{Exchanging}
use Rattle.exchange.specs.Polls.{Touches}
use Rattle.request_pool.specs.declared.fault.Polled.{Polled}
use Rattle.request_pool.specs.declared.fault.PoolFault.{PoolFault}
use Rattle.request_pool.specs.declared.fault.Stepped.{Stepped}
use Rattle.request_pool.specs.Pools.{Pooled}
use Rattle.request_pool.specs.Owned.{SuitsWire, on_link, held_on}
use Rattle.request_pool.specs.Polls.{Shuts}
use Rattle.request_pool.specs.Runs.{Starts, PollsNext}
use Rattle.request_pool.specs.Steps.{IsWait, GivesUp}
use Rattle.request_pool.proofs.Owned.{on_same}
use Rattle.pool_laws.specs.Owning.{IsAsBefore, Same, Woken}
use Rattle.pool_laws.proofs.Settled.{SameWhole, whole_same}
use Rattle.pool_laws.proofs.Owning.{after_link}
use Rattle.pool_laws.proofs.KeptBySteps.{IsKept}
use Rattle.pool_laws.proofs.HeldLinks.{LinksKept, Owning, owning_is_kept, any_asks}

-- the link was given, it is held so often as not at all, and this is told of it
pub record Still (k : ℕ) (link : Link) (nature : Nature) (times : ℕ → ℕ) (a : WireState) : Type 0 where
  pub given : k < a.given
  pub none : times k ≡ 0
  pub same : SameWhole link (a.links k)
  pub is_nature : a.nature ≡ nature

pub whole_then : (l m n : Link) → SameWhole l m → SameWhole m n → SameWhole l n
whole_then l m n h i = record {
  peer = i.peer ∙ h.peer;
  sent = i.sent ∙ h.sent;
  received = i.received ∙ h.received;
  owed = i.owed ∙ h.owed;
  ended = i.ended ∙ h.ended;
}

pub woken_whole : (l m : Link) → IsAsBefore l m → SameWhole l m
woken_whole l m (Same e) = whole_same l m e
woken_whole l m (Woken o e) = record {
  peer = ap (λ (x : Link). x.peer) e;
  sent = ap (λ (x : Link). x.sent) e;
  received = ap (λ (x : Link). x.received) e;
  owed = ap (λ (x : Link). x.owed) e;
  ended = ap (λ (x : Link). x.ended) e;
}

module _ (k : ℕ) (link : Link) (nature : Nature) where
  poll_still : (e f : Exchanging) (rest : ℕ → ℕ) (a b : WireState) → Touches e f a b → Still k link nature (λ i. on_link e.link i + rest i) a → Still k link nature (λ i. on_link f.link i + rest i) b
  poll_still e f rest a b t h =
      let after = after_link e.address e.link f.link a b t.link t.others in
      record {
        given = omega (arith, h.given, after.given);
        none = omega (arith, after.same_old k h.given, h.none);
        same = whole_then link (a.links k) (b.links k) h.same (whole_same (a.links k) (b.links k) (after.same k (omega (arith, after.same_old k h.given, h.none))));
        is_nature = t.nature ∙ h.is_nature;
      }

  off_link : (i : ℕ) (rest : ℕ → ℕ) → on_link (Some i) k + rest k ≡ 0 → k ≡ i → ⊥
  off_link i rest z e = omega (arith, z, on_same i k (sym e))

  less_still : (o : Option ℕ) (rest : ℕ → ℕ) (a : WireState) → Still k link nature (λ i. on_link o i + rest i) a → Still k link nature rest a
  less_still o rest a h = record { given = h.given; none = omega (arith, h.none); same = h.same; is_nature = h.is_nature }

  shut_still : (o : Option ℕ) (rest : ℕ → ℕ) (a b : WireState) → Shuts o a b → Still k link nature (λ i. on_link o i + rest i) a → Still k link nature rest b
  shut_still None rest a b s h = subst (λ (x : WireState). Still k link nature rest x) (sym s) (less_still None rest a h)
  shut_still (Some i) rest a b c h = record {
    given = omega (arith, h.given, c.only.given);
    none = omega (arith, h.none);
    same = whole_then link (a.links k) (b.links k) h.same (whole_same (a.links k) (b.links k) (c.only.others k (off_link i rest h.none)));
    is_nature = c.only.nature ∙ h.is_nature;
  }

  still_kept : LinksKept (λ address. Unit {0}) (Still k link nature)
  still_kept = record {
    same = λ was is a same h. record { given = h.given; none = same k ∙ h.none; same = h.same; is_nature = h.is_nature };
    poll = λ e f rest a b u t h. poll_still e f rest a b t h;
    drop = λ o rest a closed h. less_still o rest a h;
    shut = shut_still;
    woken = λ times a b given nature same h. record {
      given = omega (arith, h.given, given);
      none = h.none;
      same = whole_then link (a.links k) (b.links k) h.same (woken_whole (a.links k) (b.links k) (same k));
      is_nature = nature ∙ h.is_nature;
    };
  }

  still_is_kept : IsKept (Owning (λ address. Unit {0}) (Still k link nature))
  still_is_kept = owning_is_kept (λ address. Unit {0}) (Still k link nature) still_kept

-- so of each link that was given and is not held
pub record Stays (p q : Pooled) (a b : WireState) : Type 0 where
  pub still : (k : ℕ) → k < a.given → held_on p k ≡ 0 → Still k (a.links k) a.nature (held_on q) b

still_now : (k : ℕ) (p : Pooled) (a : WireState) → k < a.given → held_on p k ≡ 0 → Owning (λ address. Unit {0}) (Still k (a.links k) a.nature) p a
still_now k p a given none = record { asks = any_asks p; known = record { given = given; none = none; same = whole_same (a.links k) (a.links k) refl; is_nature = refl } }

pub starts_stay : (result : Result Polled PoolFault) (p q : Pooled) (a b : WireState) → OpensGiven a → SuitsWire p a → Starts result p q a b → Stays p q a b
starts_stay result p q a b g s t = record { still = λ k given none. ((still_is_kept k (a.links k) a.nature).starts result p q a b g s (still_now k p a given none) t).known }

pub polls_stay : (result : Result Polled PoolFault) (p q : Pooled) (a b : WireState) → OpensGiven a → SuitsWire p a → PollsNext result p q a b → Stays p q a b
polls_stay result p q a b g s t = record { still = λ k given none. ((still_is_kept k (a.links k) a.nature).polls result p q a b g s (still_now k p a given none) t).known }

pub round_stays : (p : Pooled) (a : WireState) → Stays p (record p { polled = []; due = p.polled ++ p.due }) a a
round_stays p a = record { still = λ k given none. ((still_is_kept k (a.links k) a.nature).rounds p a (still_now k p a given none)).known }

pub gathers_stay : (p : Pooled) (a : WireState) → Stays p (record p { polled = p.polled ++ p.due; due = [] }) a a
gathers_stay p a = record { still = λ k given none. ((still_is_kept k (a.links k) a.nature).gathers p a (still_now k p a given none)).known }

pub waits_stay : (answer : Result Ready Fault) (p : Pooled) (a b : WireState) → SuitsWire p a → IsWait answer a b → Stays p p a b
waits_stay answer p a b s w = record { still = λ k given none. ((still_is_kept k (a.links k) a.nature).waits answer p a b s (still_now k p a given none) w).known }

pub gives_up_stays : (fault : PoolFault) (result : Result Stepped PoolFault) (p q : Pooled) (a b : WireState) → SuitsWire p a → GivesUp fault result p q a b → Stays p q a b
gives_up_stays fault result p q a b s u = record { still = λ k given none. ((still_is_kept k (a.links k) a.nature).gives_up fault result p q a b s (still_now k p a given none) u).known }
