-- A step dials for the asks that were held at its entry; and what is so for the hosts of some addresses is so for one host and port.
use Rattle.std.proofs.Common.{ℕ, ◌≡◌, ◌+◌, ◌<◌, ◌≤◌, inl, inr, ◌++◌, List, [], ◌∷◌, map, Option, Some, None, refl, sym, ◌∙◌, ap, subst, arith}
use Rattle.std.specs.List.{Contains}
use Rattle.std.proofs.lemmas.Bool.{cases_lt, cases_eq}
use Rattle.std.proofs.lemmas.List.Elements.{All-contains, All-contains_itself, All-from_recursion, recursion_from_All}
use Rattle.tpf_base.specs.Addresses.{Address}
use Rattle.tpf_base.specs.Links.{Link, Nature, WireState, told_by}
use Rattle.exchange.specs.Exchanges.{Exchanging}
use Rattle.exchange.specs.Polls.{Touches}
use Rattle.request_pool.specs.Pools.{Pooled, Ask, empty_pool, held}
use Rattle.request_pool.specs.Polls.{Shuts}
use Rattle.pool_laws.specs.Owning.{IsAt, IsAsBefore, Same, Woken, GivesAt, OwnsSince, EmptyPoolsOwn, PutsOwn, FaultsOwn, StepsOwn, ClosingCloses}
use Rattle.pool_laws.specs.Hosts.{IsAtOneOf, IsDialledFor, GivesAtHosts, OwnsAtHosts, StepsDialHeld}
use Rattle.list_laws.proofs.Each.{all_so}
use Rattle.pool_laws.proofs.KeptBySteps.{by_step}
use Rattle.pool_laws.proofs.Owning.{after_link, same_dialled}
use Rattle.pool_laws.proofs.OwningLaws.{empty_owns, put_owns, fault_owns, step_owns, closing_closes}
use Rattle.pool_laws.proofs.HeldLinks.{LinksKept, Owning, owning_is_kept, asks_in, all_held}

-- ---- one step

-- the links that were given since were dialled for these
record Dials (homes : List Address) (since now : WireState) : Type 0 where
  later : since.given ≤ now.given
  nature : now.nature ≡ since.nature
  peers : (k : ℕ) → since.given ≤ k → k < now.given → IsDialledFor homes since.nature.tells (now.links k).peer

pub woken_peer : (a b : Link) → IsAsBefore a b → b.peer ≡ a.peer
woken_peer a b (Same e) = ap (λ (x : Link). x.peer) e
woken_peer a b (Woken o e) = ap (λ (x : Link). x.peer) e

module _ (homes : List Address) (since : WireState) where
  same_peers : (a b : WireState) → b.given ≡ a.given → b.nature ≡ a.nature → ((k : ℕ) → (b.links k).peer ≡ (a.links k).peer) → Dials homes since a → Dials homes since b
  same_peers a b given nature same h = record {
    later = omega (arith, h.later, given);
    nature = nature ∙ h.nature;
    peers = λ k low below. same_dialled homes since.nature.tells (a.links k).peer (b.links k).peer (same k) (h.peers k low (omega (arith, below, given)));
  }

  poll_dials : (e f : Exchanging) (a b : WireState) → Contains homes e.address → Touches e f a b → Dials homes since a → Dials homes since b
  poll_dials e f a b is t h =
      let after = after_link e.address e.link f.link a b t.link t.others in
      record {
        later = omega (arith, h.later, after.given);
        nature = t.nature ∙ h.nature;
        peers = λ k low below. elim (cases_lt k a.given) [
          | inl l ↦ same_dialled homes since.nature.tells (a.links k).peer (b.links k).peer (after.peer_old k l) (h.peers k low l)
          | inr l ↦ record {
            home = e.address;
            is_home = is;
            is_peer = (after.is_new k l below).0 ∙ ap (λ (x : Nature). told_by {A = List ℕ × ℕ} x.tells (e.address.host, e.address.port)) h.nature;
          }
        ];
      }

  shut_dials : (o : Option ℕ) (a b : WireState) → Shuts o a b → Dials homes since a → Dials homes since b
  shut_dials None a b s h = subst (λ (x : WireState). Dials homes since x) (sym s) h
  shut_dials (Some i) a b c h =
      same_peers a b c.only.given c.only.nature
      (λ k. elim (cases_eq i k) [ inl e ↦ subst (λ (x : ℕ). (b.links x).peer ≡ (a.links x).peer) e c.peer | inr n ↦ ap (λ (x : Link). x.peer) (c.only.others k (λ e. n (sym e))) ]) h

  dials_kept : LinksKept (Contains homes) (λ times a. Dials homes since a)
  dials_kept = record {
    same = λ was is a same h. h;
    poll = λ e f rest a b is t h. poll_dials e f a b is t h;
    drop = λ o rest a closed h. h;
    shut = λ o rest a b s h. shut_dials o a b s h;
    woken = λ times a b given nature same h. same_peers a b given nature (λ k. woken_peer (a.links k) (b.links k) (same k)) h;
  }

pub steps_dial_held : StepsDialHeld
steps_dial_held result old new wire wire' given suits to k low below =
    let homes : List Address = map (λ (ask : Ask). ask.address) (held old) in
    let first : Dials homes wire wire = record { later = omega arith; nature = refl; peers = λ j l b. absurd (omega (arith, l, b)) } in
    let last = by_step (Owning (Contains homes) (λ times a. Dials homes wire a)) (owning_is_kept (Contains homes) (λ times a. Dials homes wire a) (dials_kept homes wire)) result old new wire wire' given suits
    (record { asks = asks_in (Contains homes) old (all_held (held old)); known = first }) to in
    last.known.peers k low below

-- ---- one host and port

abbrev home_at : List ℕ → ℕ → Address
home_at host port = record { host = host; port = port; path = []; query = None }

module _ (host : List ℕ) (port : ℕ) where
  abbrev homes : List Address
  homes = home_at host port ∷ []

  is_home : Contains homes (home_at host port)
  is_home = (recursion_from_All (Contains homes) homes (All-contains_itself homes)).0

  only_home : (home : Address) → Contains homes home → home ≡ home_at host port
  only_home home c = All-contains (λ (x : Address). x ≡ home_at host port) homes home (All-from_recursion (λ (x : Address). x ≡ home_at host port) homes (refl, tt)) c

  at_in : (address : Address) → IsAt host port address → IsAtOneOf homes address
  at_in address h = record { home = home_at host port; is_home = is_home; same_host = h.same_host; same_port = h.same_port }

  at_out : (address : Address) → IsAtOneOf homes address → IsAt host port address
  at_out address h =
      let e = only_home h.home h.is_home in
      record { same_host = h.same_host ∙ ap (λ (x : Address). x.host) e; same_port = h.same_port ∙ ap (λ (x : Address). x.port) e }

  gives_in : (since now : WireState) → GivesAt host port since now → GivesAtHosts homes since now
  gives_in since now h = record {
    later = h.later;
    nature = h.nature;
    peers = λ k low below. record { home = home_at host port; is_home = is_home; is_peer = h.peers k low below };
    before = h.before;
  }

  gives_out : (since now : WireState) → GivesAtHosts homes since now → GivesAt host port since now
  gives_out since now h = record {
    later = h.later;
    nature = h.nature;
    peers = λ k low below. let d = h.peers k low below in d.is_peer ∙ ap (λ (x : Address). told_by {A = List ℕ × ℕ} since.nature.tells (x.host, x.port)) (only_home d.home d.is_home);
    before = h.before;
  }

  one_in : (since : WireState) (p : Pooled) (a : WireState) → OwnsSince host port since p a → OwnsAtHosts homes since p a
  one_in since p a h = record {
    asks = all_so (λ (ask : Ask). IsAt host port ask.address) (λ (ask : Ask). IsAtOneOf homes ask.address) (λ ask. at_in ask.address) (held p) h.asks;
    gives = gives_in since a h.gives;
    owned = h.owned;
    none_before = h.none_before;
  }

  one_out : (since : WireState) (p : Pooled) (a : WireState) → OwnsAtHosts homes since p a → OwnsSince host port since p a
  one_out since p a h = record {
    asks = all_so (λ (ask : Ask). IsAtOneOf homes ask.address) (λ (ask : Ask). IsAt host port ask.address) (λ ask. at_out ask.address) (held p) h.asks;
    gives = gives_out since a h.gives;
    owned = h.owned;
    none_before = h.none_before;
  }

pub empty_owns_one : EmptyPoolsOwn
empty_owns_one host port links retries budget limit wire = one_out host port wire (empty_pool links retries budget limit) wire (empty_owns (homes host port) links retries budget limit wire)

pub put_owns_one : PutsOwn
put_owns_one host port since ticket address pool wire is h =
    one_out host port since (record pool { waiting = pool.waiting ++ (record { ticket = ticket; address = address; failed = 0 }) ∷ [] }) wire
    (put_owns (homes host port) since ticket address pool wire (at_in host port address is) (one_in host port since pool wire h))

pub fault_owns_one : FaultsOwn
fault_owns_one host port since pool wire h = one_out host port since pool wire (fault_owns (homes host port) since pool wire (one_in host port since (record pool { fault = None }) wire h))

pub step_owns_one : StepsOwn
step_owns_one host port since result old new wire wire' given suits h to = one_out host port since new wire' (step_owns (homes host port) since result old new wire wire' given suits (one_in host port since old wire h) to)

pub closing_closes_one : ClosingCloses
closing_closes_one host port since old new wire wire' h e c =
    let all = closing_closes (homes host port) since old new wire wire' (one_in host port since old wire h) e c in
    record { owns = one_out host port since new wire' all.owns; closed = record { gives = gives_out host port since wire' all.closed.gives; closed = all.closed.closed } }
