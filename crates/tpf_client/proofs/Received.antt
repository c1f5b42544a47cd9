-- What a fault keeps was received in reply to a request of the call.
use Rattle.std.proofs.Common.{ℕ, ◌≡◌, ◌<◌, ◌++◌, List, [], ◌∷◌, Option, None, inl, inr, sym, ap, subst, ◌∙◌, ⊎_elim, arith}
use Rattle.std.specs.Prelude.{◌⊎◌}
use Rattle.std.specs.List.{Contains}
use Rattle.std.proofs.lemmas.Bool.{cases_lt}
use Rattle.std.specs.List.Sorted.{IsPermutation}
use Rattle.std.proofs.lemmas.List.Sorted.{IsPermutation-sym, Contains-permutation}
use Rattle.list_laws.proofs.Members.{at_head, in_tail, head_or_tail, none_in}
use Rattle.tpf_base.specs.Addresses.{Address}
use Rattle.tpf_base.specs.Links.{Link, Nature, WireState, told_by}
use Rattle.request_pool.specs.Faults.{kept_of}
use Rattle.request_pool.specs.Pools.{Pooled, Ask, held}
use Rattle.request_pool.specs.Owned.{held_on}
use Rattle.request_pool.specs.Closing.{ClosesSome, IsClosed}
use Rattle.tpf_base.specs.Sending.{Holds}
use Rattle.http_ends.specs.Requests.{request_for}
use Rattle.http_ends.specs.Cuts.{bytes_of, sent_of, received_of}
use Rattle.pool_laws.specs.Causes.{RepliedOn}
use Rattle.tpf_client.specs.Traffic.{PoolEvent, Asked, Came, Waited, Broke, Travels, Comes, StepWaits, StepBreaks}
use Rattle.tpf_client.specs.Turns.{asked_in}
use Rattle.tpf_client.proofs.Distinct.{put-held}
use Rattle.tpf_client.proofs.Fewest.{no-break}

-- ---- what is held was asked

-- an ask that is held after an event was held before, or is the one that was put
put-back : (ask a : Ask) (p q : Pooled) → IsPermutation (held q) (ask ∷ held p) → Contains (held q) a → (ask ≡ a) ⊎ Contains (held p) a
put-back ask a p q h c = head_or_tail ask a (held p) (Contains-permutation (held q) (ask ∷ held p) a h c)

came-back : (ask a : Ask) (p q : Pooled) → IsPermutation (held p) (ask ∷ held q) → Contains (held q) a → Contains (held p) a
came-back ask a p q h c = Contains-permutation (ask ∷ held q) (held p) a (IsPermutation-sym (held p) (ask ∷ held q) h) (in_tail ask a (held q) c)

wait-back : (a : Ask) (p q : Pooled) → IsPermutation (held p) (held q) → Contains (held q) a → Contains (held p) a
wait-back a p q h c = Contains-permutation (held q) (held p) a (IsPermutation-sym (held p) (held q) h) c

or-asked : (ask a : Ask) (p q : Pooled) (events : List PoolEvent) → IsPermutation (held q) (ask ∷ held p) → Contains (held q) a ⊎ Contains (asked_in events) a → Contains (held p) a ⊎ Contains (ask ∷ asked_in events) a
or-asked ask a p q events h (inl c) =
    ⊎_elim (λ (e : ask ≡ a). inr (subst (λ (x : Ask). Contains (ask ∷ asked_in events) x) e (at_head ask (asked_in events)))) (λ (m : Contains (held p) a). inl m) (put-back ask a p q h c)
or-asked ask a p q events h (inr m) = inr (in_tail ask a (asked_in events) m)

or-before : (a : Ask) (p q : Pooled) (asks : List Ask) → (Contains (held q) a → Contains (held p) a) → Contains (held q) a ⊎ Contains asks a → Contains (held p) a ⊎ Contains asks a
or-before a p q asks f (inl c) = inl (f c)
or-before a p q asks f (inr m) = inr m

pub held-asked : (allows : List ℕ → ℕ → List ℕ → List ℕ → Type 0) (events : List PoolEvent) (p q : Pooled) (v w : WireState) → Travels allows events p q v w → q.fault ≡ None → (a : Ask) → Contains (held q) a → Contains (held p) a ⊎ Contains (asked_in events) a
held-asked allows [] p q v w t none a c = inl (subst (λ (x : Pooled). Contains (held x) a) t.0 c)
held-asked allows (Asked ask ∷ events) p q v w t none a c = or-asked ask a p t.0.pool events (put-held ask p t.0.pool t.1.happens.0) (held-asked allows events t.0.pool q t.0.wire w t.2 none a c)
held-asked allows (Came ask reply ∷ events) p q v w t none a c =
    let h : Comes ask reply p t.0.pool v t.0.wire = t.1.happens in
    or-before a p t.0.pool (asked_in events) (came-back ask a p t.0.pool h.others) (held-asked allows events t.0.pool q t.0.wire w t.2 none a c)
held-asked allows (Waited ∷ events) p q v w t none a c =
    let h : StepWaits p t.0.pool v t.0.wire = t.1.happens in
    or-before a p t.0.pool (asked_in events) (wait-back a p t.0.pool h.others) (held-asked allows events t.0.pool q t.0.wire w t.2 none a c)
held-asked allows (Broke fault ∷ events) p q v w t none a c = let h : StepBreaks fault p t.0.pool v t.0.wire = t.1.happens in absurd (no-break allows (kept_of fault) events t.0.pool q t.0.wire w h.kept t.2 none)

asked-front : (a : Ask) (first second : List PoolEvent) → Contains (asked_in first) a → Contains (asked_in (first ++ second)) a
asked-front a [] second c = absurd (none_in a c)
asked-front a (Asked ask ∷ first) second c =
    ⊎_elim (λ (e : ask ≡ a). subst (λ (x : Ask). Contains (ask ∷ asked_in (first ++ second)) x) e (at_head ask (asked_in (first ++ second))))
    (λ (m : Contains (asked_in first) a). in_tail ask a (asked_in (first ++ second)) (asked-front a first second m)) (head_or_tail ask a (asked_in first) c)
asked-front a (Came ask reply ∷ first) second c = asked-front a first second c
asked-front a (Waited ∷ first) second c = asked-front a first second c
asked-front a (Broke fault ∷ first) second c = asked-front a first second c

-- an ask that a pool lost was asked, where it held nothing at first
pub lost-asked : (allows : List ℕ → ℕ → List ℕ → List ℕ → Type 0) (before more : List PoolEvent) (p q r : Pooled) (v w : WireState) → Travels allows before p q v w → held p ≡ [] → q.fault ≡ None → (a : Ask) → IsPermutation (held q) (a ∷ held r) → Contains (asked_in (before ++ more)) a
lost-asked allows before more p q r v w t e none a h =
    ⊎_elim (λ (c : Contains (held p) a). absurd (none_in a (subst (λ (l : List Ask). Contains l a) e c))) (λ (m : Contains (asked_in before) a). asked-front a before more m)
    (held-asked allows before p q v w t none a (Contains-permutation (a ∷ held r) (held q) a (IsPermutation-sym (held q) (a ∷ held r) h) (at_head a (held r))))

-- ---- what is told of a link stays when it is closed

pub record IsToldAlike (old new : Link) : Type 0 where
  pub peer : new.peer ≡ old.peer
  pub sent : new.sent ≡ old.sent
  pub received : new.received ≡ old.received
  pub ended : new.ended ≡ old.ended

told-alike : (old new : Link) → new ≡ old → IsToldAlike old new
told-alike old new e = record { peer = ap (λ (x : Link). x.peer) e; sent = ap (λ (x : Link). x.sent) e; received = ap (λ (x : Link). x.received) e; ended = ap (λ (x : Link). x.ended) e }

told-closed : (old new : Link) → IsClosed old new → IsToldAlike old new
told-closed old new c = record { peer = c.peer; sent = c.sent; received = c.received; ended = c.ended }

zero-or : (n : ℕ) → (0 ≡ n) ⊎ (0 < n)
zero-or n = elim (cases_lt 0 n) [ inl low ↦ inr low | inr high ↦ inl (omega (arith, high)) ]

pub closes-told : (p : Pooled) (v w : WireState) → ClosesSome (held_on p) (λ k. 0) v w → (k : ℕ) → IsToldAlike (v.links k) (w.links k)
closes-told p v w c k = ⊎_elim (λ (e : 0 ≡ held_on p k). told-alike (v.links k) (w.links k) (c.others k e)) (λ (l : 0 < held_on p k). told-closed (v.links k) (w.links k) (c.closed k l)) (zero-or (held_on p k))

abbrev pub replied-closed : (limit : ℕ) (address : Address) (received : List ℕ) (v w : WireState) → ((k : ℕ) → IsToldAlike (v.links k) (w.links k)) → w.nature ≡ v.nature → RepliedOn limit address received v → RepliedOn limit address received w
replied-closed limit address received v w same n r = record {
  k = r.k;
  is_address = r.is_address;
  peer = (same r.k).peer ∙ subst (λ (x : Nature). (v.links r.k).peer ≡ told_by x.tells (address.host, address.port)) (sym n) r.peer;
  before = r.before;
  replied = r.replied;
  sent_is = subst (λ (x : Option (List ℕ)). Holds x (bytes_of (sent_of r.before) ++ request_for address)) (sym (same r.k).sent) r.sent_is;
  received_is = subst (λ (x : Option (List ℕ)). Holds x (received_of r.before ++ received)) (sym (same r.k).received) r.received_is;
}
