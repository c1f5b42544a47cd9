-- What keeps what is known of the links of a pool beside its steps.
use Rattle.std.proofs.Common.{[], ◌∷◌, refl}
use Rattle.request_pool.specs.declared.asks.Waiting.{Waiting}
use Rattle.request_pool.proofs.Suits.{owns_next}
use Rattle.list_laws.proofs.Each.{all_append}
use Rattle.pool_laws.specs.Following.{IsWebAddress, EmptyPoolsFollow, PutsFollow, ClosedPoolsFollow, FaultsFollow, OthersFollow, FlightsFollow}
use Rattle.pool_laws.proofs.Following.{told_same, pool_told, flight_follows}

pub empty_follows : EmptyPoolsFollow
empty_follows links retries budget limit wire = record { waiting = tt; polled = tt; due = tt; spare = tt }

pub put_follows : PutsFollow
put_follows ticket address pool wire is h = record {
  waiting = all_append (λ (w : Waiting). IsWebAddress w.address) pool.waiting ((record { ticket = ticket; address = address; failed = 0 }) ∷ []) h.waiting (is, tt);
  polled = h.polled;
  due = h.due;
  spare = h.spare;
}

pub closed_follows : ClosedPoolsFollow
closed_follows pool wire = record { waiting = tt; polled = tt; due = tt; spare = tt }

pub fault_follows : FaultsFollow
fault_follows pool wire h = record { waiting = h.waiting; polled = h.polled; due = h.due; spare = h.spare }

pub others_follow : OthersFollow
others_follow pool old new same nature h = pool_told pool old new nature (λ k l. told_same (old.links k) (new.links k) (same k l)) h

pub flights_follow : FlightsFollow
flights_follow result f old new wire wire' given suits h to =
    flight_follows result f old new wire wire' given (owns_next (record old { due = f ∷ old.due }) f old.due wire suits refl) h.due.0
    (record { waiting = h.waiting; polled = h.polled; due = h.due.1; spare = h.spare }) to
