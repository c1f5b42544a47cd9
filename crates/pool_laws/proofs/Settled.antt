-- A link that an exchange left is left as it is, or closed.
use Rattle.std.proofs.Common.{ℕ, ◌≡◌, inl, inr, Option, Some, None, sym, ap, subst}
use Rattle.tpf_base.specs.Addresses.{Address}
use Rattle.tpf_base.specs.Links.{Link, WireState}
use Rattle.tpf_base.specs.Calls.{Closes}
use Rattle.request_pool.specs.Pools.{Pooled}
use Rattle.request_pool.specs.Polls.{Shuts, Settles, NoLink, Kept, Shut}
use Rattle.std.proofs.lemmas.Bool.{cases_eq}

-- the same is told of it
pub record SameWhole (old new : Link) : Type 0 where
  pub peer : new.peer ≡ old.peer
  pub sent : new.sent ≡ old.sent
  pub received : new.received ≡ old.received
  pub owed : new.owed ≡ old.owed
  pub ended : new.ended ≡ old.ended

pub whole_same : (old new : Link) → new ≡ old → SameWhole old new
whole_same old new e = record {
  peer = ap (λ (x : Link). x.peer) e;
  sent = ap (λ (x : Link). x.sent) e;
  received = ap (λ (x : Link). x.received) e;
  owed = ap (λ (x : Link). x.owed) e;
  ended = ap (λ (x : Link). x.ended) e;
}

pub closed_whole : (i : ℕ) (a b : WireState) → Closes i a b → (k : ℕ) → SameWhole (a.links k) (b.links k)
closed_whole i a b c k = elim (cases_eq k i) [
  | inl e ↦ subst (λ (x : ℕ). SameWhole (a.links x) (b.links x)) (sym e) (record { peer = c.peer; sent = c.sent; received = c.received; owed = c.owed; ended = c.ended })
  | inr n ↦ whole_same (a.links k) (b.links k) (c.only.others k n)
]

pub shut_whole : (o : Option ℕ) (a b : WireState) → Shuts o a b → (k : ℕ) → SameWhole (a.links k) (b.links k)
shut_whole None a b s k = whole_same (a.links k) (b.links k) (ap (λ (w : WireState). w.links k) s)
shut_whole (Some i) a b c k = closed_whole i a b c k

pub settles_whole : (o : Option ℕ) (address : Address) (p q : Pooled) (a b : WireState) → Settles o address p q a b → (k : ℕ) → SameWhole (a.links k) (b.links k)
settles_whole o address p q a b (NoLink e f h) k = whole_same (a.links k) (b.links k) (ap (λ (w : WireState). w.links k) h)
settles_whole o address p q a b (Kept i e room f h) k = whole_same (a.links k) (b.links k) (ap (λ (w : WireState). w.links k) h)
settles_whole o address p q a b (Shut i e full f c) k = closed_whole i a b c k

pub settles_given : (o : Option ℕ) (address : Address) (p q : Pooled) (a b : WireState) → Settles o address p q a b → b.given ≡ a.given
settles_given o address p q a b (NoLink e f h) = ap (λ (w : WireState). w.given) h
settles_given o address p q a b (Kept i e room f h) = ap (λ (w : WireState). w.given) h
settles_given o address p q a b (Shut i e full f c) = c.only.given

pub settles_nature : (o : Option ℕ) (address : Address) (p q : Pooled) (a b : WireState) → Settles o address p q a b → b.nature ≡ a.nature
settles_nature o address p q a b (NoLink e f h) = ap (λ (w : WireState). w.nature) h
settles_nature o address p q a b (Kept i e room f h) = ap (λ (w : WireState). w.nature) h
settles_nature o address p q a b (Shut i e full f c) = c.only.nature
