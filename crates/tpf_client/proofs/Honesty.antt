-- Where other ends are honest each reply that comes is an answer of the server, over a version that is served.
use Rattle.std.proofs.Common.{ℕ, ◌≡◌, ◌<◌, ◌^◌, Bool, true, List, [], ◌∷◌, length, None, sym, ap, subst, ◌∙◌, arith}
use Rattle.std.specs.Prelude.{Ok, Err}
use Rattle.std.specs.List.{AllByRecursion, Contains}
use Rattle.std.proofs.lemmas.List.Sorted.{IsPermutation-sym, Contains-permutation}
use Rattle.list_laws.proofs.Members.{at_head, one_of}
use Rattle.rdf_terms.specs.declared.term.Triple.{Triple}
use Rattle.tpf_base.specs.Addresses.{Address, address_text}
use Rattle.tpf_base.specs.Links.{All, WireState, OpensGiven}
use Rattle.http_wire.specs.declared.message.Reply.{Reply}
use Rattle.template_fill.specs.Metadata.{Config}
use Rattle.template_fill.specs.Authorities.{ShareAuthority}
use Rattle.template_fill.specs.Bodies.{version_of}
use Rattle.template_fill.specs.Configurations.{IsConfig, IsHistory}
use Rattle.template_fill.specs.Responses.{answering, IsHonestAt}
use Rattle.request_pool.specs.declared.fault.Stepped.TheVariants as stepped
use Rattle.request_pool.specs.Pools.{Pooled, Ask, held}
use Rattle.request_pool.specs.Owned.{SuitsWire}
use Rattle.pool_laws.specs.Following.{AnswersSoFar, PutsFollow, StepsFollow, FaultsFollow}
use Rattle.pool_laws.specs.Answers.{TellsAll, IsHonestOver, IsBodyOf, IsBodyOver, Brings, RepliesAreAnswers}
use Rattle.pool_laws.proofs.Answers.{over_any}
use Rattle.request_plan.specs.Evaluations.{HasHome}
use Rattle.tpf_client.specs.Traffic.{PoolEvent, Asked, Came, Waited, Broke, Moves, Travels, AreDistinct, without_fault, Puts, Comes, StepWaits, StepBreaks}
use Rattle.tpf_client.specs.Honest.{IsHonestWire}
use Rattle.tpf_client.proofs.Came.{CameFrom}
use Rattle.tpf_client.proofs.Distinct.{one-ask}
use Rattle.tpf_client.proofs.Onward.{onward_step, onward_same, Onward}

-- ---- honest at one host and port

-- what is owed over some versions is owed over any
pub any-over : (allows : List ℕ → ℕ → List ℕ → List ℕ → Type 0) (host : List ℕ) (port : ℕ) (history : List (List Triple)) (config : Config) (served : ℕ → Bool) → IsHonestOver allows host port history config served → IsHonestAt allows host port (answering history config)
any-over allows host port history config served honest = λ sent owed may.
    let o = honest sent owed may in
    (o.marks, (o.marked, o.owed_is))

-- so it is at each address with the same authority
pub over-share : (allows : List ℕ → ℕ → List ℕ → List ℕ → Type 0) (history : List (List Triple)) (config : Config) (served : ℕ → Bool) (start address : Address) → ShareAuthority start address
    → IsHonestOver allows start.host start.port history config served → IsHonestOver allows address.host address.port history config served
over-share allows history config served start address s honest =
    subst (λ (port : ℕ). IsHonestOver allows address.host port history config served) (sym s.port)
    (subst (λ (host : List ℕ). IsHonestOver allows host start.port history config served) (sym s.host) honest)

-- an address with the authority of the one start
pub one-home : (start address : Address) → HasHome (start ∷ []) address → ShareAuthority start address
one-home start address own = subst (λ (home : Address). ShareAuthority home address) (sym (one_of start own.0 own.1)) own.2

-- A server whose other end, at the host and the port of a start, answers over versions that are served, on a wire that tells all.
pub record ServesAt (allows : List ℕ → ℕ → List ℕ → List ℕ → Type 0) (start : Address) (history : List (List Triple)) (config : Config) (served : ℕ → Bool) (wire : WireState) : Type 0 where
  pub tells : wire.nature.tells ≡ All
  pub is_history : IsHistory history
  pub is_config : IsConfig config
  pub few : (version : ℕ) → served version ≡ true → length (version_of history version) < 2 ^ 64
  pub is_honest : IsHonestOver allows start.host start.port history config served

-- where the other end is honest there, over any version
pub serves-any : (allows : List ℕ → ℕ → List ℕ → List ℕ → Type 0) (start : Address) (history : List (List Triple)) (config : Config) (wire : WireState) → IsHonestWire allows start history config wire → ServesAt allows start history config (λ version. true) wire
serves-any allows start history config wire honest = record {
  tells = honest.tells;
  is_history = honest.is_history;
  is_config = honest.is_config;
  few = λ version is. honest.few version;
  is_honest = over_any allows start.host start.port history config honest.is_honest;
}

-- ---- the replies

-- of whichever server the other end at its address answers as, the body of a reply is that of an answer
pub record IsAnswerOfAny (allows : List ℕ → ℕ → List ℕ → List ℕ → Type 0) (ask : Ask) (reply : Reply) : Type 0 where
  pub body : (history : List (List Triple)) (config : Config) → IsHonestAt allows ask.address.host ask.address.port (answering history config) → IsBodyOf history config ask.address reply.body
  pub over : (history : List (List Triple)) (config : Config) (served : ℕ → Bool) → IsHonestOver allows ask.address.host ask.address.port history config served → IsBodyOver history config served ask.address reply.body

abbrev pub IsAnyAnswer : (List ℕ → ℕ → List ℕ → List ℕ → Type 0) → PoolEvent → Type 0
IsAnyAnswer allows (Asked ask) = Unit {0}
IsAnyAnswer allows (Came ask reply) = IsAnswerOfAny allows ask reply
IsAnyAnswer allows Waited = Unit {0}
IsAnyAnswer allows (Broke fault) = Unit {0}

-- a reply is the body of the server's answer to the request for its address, over a version that is served
abbrev pub IsAnswer : List (List Triple) → Config → (ℕ → Bool) → PoolEvent → Type 0
IsAnswer history config served (Asked ask) = Unit {0}
IsAnswer history config served (Came ask reply) = IsBodyOver history config served ask.address reply.body
IsAnswer history config served Waited = Unit {0}
IsAnswer history config served (Broke fault) = Unit {0}

module _ (allows : List ℕ → ℕ → List ℕ → List ℕ → Type 0) (puts : PutsFollow) (steps : StepsFollow) (faults : FaultsFollow) where
  -- what is kept from event to event
  pub record Keeps (p : Pooled) (v : WireState) : Type 0 where
    pub given : OpensGiven v
    pub suits : SuitsWire p v
    pub answers : AnswersSoFar p v
    pub distinct : p.fault ≡ None → AreDistinct (held p)
    pub limit : p.limit < 2 ^ 64
    pub tells : v.nature.tells ≡ All

  after-put : (ask : Ask) (p q : Pooled) (v w : WireState) → Puts ask p q → w ≡ v → AnswersSoFar p v → AnswersSoFar q w
  after-put ask p q v w h e a =
      subst (λ (x : WireState). AnswersSoFar q x) (sym e) (subst (λ (x : Pooled). AnswersSoFar x v) (sym h.put) (puts ask.ticket ask.address p v (address_text ask.address, h.is_address) a))

  goes : (event : PoolEvent) (p q : Pooled) (v w : WireState) → Keeps p v → Moves allows event p q v w → AnswersSoFar q w × Onward v w
  goes (Asked ask) p q v w k m = (after-put ask p q v w m.happens.0 m.happens.1 k.answers, onward_same v w m.happens.1)
  goes (Came ask reply) p q v w k m = let h : Comes ask reply p q v w = m.happens in (steps (Ok (stepped.Came ask.ticket ask.address reply)) p q v w k.given k.suits k.answers h.steps, onward_step (Ok (stepped.Came ask.ticket ask.address reply)) p q v w h.steps)
  goes Waited p q v w k m = let h : StepWaits p q v w = m.happens in (steps (Ok stepped.Waited) p q v w k.given k.suits k.answers h.steps, onward_step (Ok stepped.Waited) p q v w h.steps)
  goes (Broke fault) p q v w k m = let h : StepBreaks fault p q v w = m.happens in
      (faults q w (steps (Err fault) p (without_fault q) v w k.given k.suits k.answers h.steps), onward_step (Err fault) p (without_fault q) v w h.steps)

  keeps-on : (event : PoolEvent) (p q : Pooled) (v w : WireState) → Keeps p v → Moves allows event p q v w → Keeps q w
  keeps-on event p q v w k m =
      let g = goes event p q v w k m in
      let same : q.limit ≡ p.limit = ap (λ (x : Pooled). x.limit) m.bounds in
      let low = k.limit in
      record {
        given = m.lawful.given;
        suits = m.suits;
        answers = g.0;
        distinct = m.distinct;
        limit = omega arith;
        tells = ap (λ x. x.tells) g.1.nature ∙ k.tells;
      }

  module _ (replies : (after : WireState) → RepliesAreAnswers allows after) where
    answer-of-any : (ask : Ask) (reply : Reply) (p q : Pooled) (v w : WireState) → Keeps p v → Moves allows (Came ask reply) p q v w → IsAnswerOfAny allows ask reply
    answer-of-any ask reply p q v w k m =
        let h : Comes ask reply p q v w = m.happens in
        let n = keeps-on (Came ask reply) p q v w k m in
        let tells : TellsAll allows w = record { all = n.tells; told = m.lawful.told; received = m.lawful.received; owed = m.lawful.owed } in
        let b : Brings allows ask.ticket ask.address reply p q = replies w ask.ticket ask.address reply p q v k.given k.suits k.answers k.limit tells h.steps in
        let theirs : Contains (held p) b.hands.ask = Contains-permutation _ _ b.hands.ask (IsPermutation-sym _ _ b.hands.others) (at_head b.hands.ask (held q)) in
        let mine : Contains (held p) ask = Contains-permutation _ _ ask (IsPermutation-sym _ _ h.others) (at_head ask (held q)) in
        let same : b.hands.ask ≡ ask = one-ask (held p) b.hands.ask ask (k.distinct h.had_none) theirs mine b.hands.is_ticket in
        record {
          body = λ history config honest.
              subst (λ (a : Ask). IsBodyOf history config a.address reply.body) same
              (b.body history config (subst (λ (a : Ask). IsHonestAt allows a.address.host a.address.port (answering history config)) (sym same) honest));
          over = λ history config served honest.
              subst (λ (a : Ask). IsBodyOver history config served a.address reply.body) same
              (b.over history config served (subst (λ (a : Ask). IsHonestOver allows a.address.host a.address.port history config served) (sym same) honest));
        }

    any-answer : (event : PoolEvent) (p q : Pooled) (v w : WireState) → Keeps p v → Moves allows event p q v w → IsAnyAnswer allows event
    any-answer (Asked ask) p q v w k m = tt
    any-answer (Came ask reply) p q v w k m = answer-of-any ask reply p q v w k m
    any-answer Waited p q v w k m = tt
    any-answer (Broke fault) p q v w k m = tt

    pub any-answers : (events : List PoolEvent) (p q : Pooled) (v w : WireState) → Keeps p v → Travels allows events p q v w → AllByRecursion (IsAnyAnswer allows) events
    any-answers [] p q v w k t = tt
    any-answers (event ∷ events) p q v w k t = (any-answer event p t.0.pool v t.0.wire k t.1, any-answers events t.0.pool q t.0.wire w (keeps-on event p t.0.pool v t.0.wire k t.1) t.2)

-- where one server answers at the start that all have the authority of
module _ (allows : List ℕ → ℕ → List ℕ → List ℕ → Type 0) (start : Address) (history : List (List Triple)) (config : Config) (served : ℕ → Bool) (honest : IsHonestOver allows start.host start.port history config served) where
  is-answer : (event : PoolEvent) → IsAnyAnswer allows event → CameFrom (λ ask. HasHome (start ∷ []) ask.address) event → IsAnswer history config served event
  is-answer (Asked ask) a own = tt
  is-answer (Came ask reply) a own = a.over history config served (over-share allows history config served start ask.address (one-home start ask.address own) honest)
  is-answer Waited a own = tt
  is-answer (Broke fault) a own = tt

  pub all-answers : (events : List PoolEvent) → AllByRecursion (IsAnyAnswer allows) events → AllByRecursion (CameFrom (λ ask. HasHome (start ∷ []) ask.address)) events → AllByRecursion (IsAnswer history config served) events
  all-answers [] a own = tt
  all-answers (event ∷ events) a own = (is-answer event a.0 own.0, all-answers events a.1 own.1)
