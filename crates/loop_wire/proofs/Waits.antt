-- A wait, and a link that was just given.
use Rattle.std.proofs.Common.{ℕ, ◌≡◌, ◌<◌, ◌++◌, Bool, true, false, List, [], ◌∷◌, length, set, get_or, Option, Some, None, Result, Ok, Err, if◌then◌else◌, is_some, is_ok, is_err, refl, ap, sym, subst, ◌∙◌, arith}
use Rattle.std.proofs.lemmas.List.{get_or-set_same, get_or-set_other, map-append}
use Rattle.tpf_base.specs.Failures.{CallCounts}
use Rattle.tpf_base.specs.Links.{IsRipe, ToSend, ToReceive, WireState}
use Rattle.tpf_base.specs.Calls.{Wakes, WakesRipe, WaitsSteadily}
use Rattle.tpf_base.specs.declared.fault.Fault.TheVariants as fault
use Rattle.tpf_base.specs.declared.wire.Ready.{Ready}
use Rattle.tpf_base.specs.declared.wire.Ready.TheVariants as ready
use Rattle.connections.specs.Kinds.{Kind, Opens}
use Rattle.connections.specs.Versions.{Serving}
use Rattle.loop_wire.specs.declared.link.LoopLink.{LoopLink}
use Rattle.loop_wire.specs.Held.{Held, Owing, no_link, new_link, told_there, woken_now, IsHeld, IsKept}
use Rattle.loop_wire.specs.Waits.{WaitCounts}
use Rattle.loop_wire.specs.Looped.{wire_of, idle_of, held_of, AreServed}
use Rattle.loop_wire.proofs.Lists.{served_push, length_held}
use Rattle.loop_wire.proofs.Wires.{open_below}

-- ---- waits

ripe_is_open : (owes : Owing) (h : Held) → IsRipe (told_there owes h) → h.is_open ≡ true
ripe_is_open owes h up = elim up [ ToSend free s ↦ free | ToReceive free s short ↦ free ]

asleep : (woke : Bool) → idle_of woke ≡ 0 → woke ≡ false
asleep true none = let e : 1 ≡ 0 = none in absurd (omega (arith, e))
asleep false none = refl

-- a wait that answers a ripe link, where the one before it answered none
pub wakes_as : (everywhere : Bool) (owes : Owing) (k : ℕ) (links links' : List Held) (counts counts' : CallCounts) (provoked : ℕ) (waits waits' : WaitCounts) (woke : Bool)
    → k < length links → (get_or links k no_link).ripe ≡ true → IsHeld (owes (get_or links k no_link).peer) (get_or links k no_link) → links' ≡ set links k (woken_now (get_or links k no_link)) → woke ≡ false
    → Wakes (ready.Link k) (wire_of everywhere owes links counts provoked waits woke) (wire_of everywhere owes links' counts' provoked waits' true)
wakes_as everywhere owes k links links' counts counts' provoked waits waits' woke below ripe held is none = (
  ripe_is_open owes (get_or links k no_link) (held.ripe ripe),
  ap (λ (ls : List Held). told_there owes (get_or ls k no_link)) is ∙ ap (told_there owes) (get_or-set_same links k (woken_now (get_or links k no_link)) no_link below),
  (λ j other. ap (λ (ls : List Held). told_there owes (get_or ls j no_link)) is ∙ ap (told_there owes) (get_or-set_other links k j (woken_now (get_or links k no_link)) no_link other)),
  rw (none) refl,
)

pub waits_found : (everywhere : Bool) (owes : Owing) (k : ℕ) (links links' : List Held) (counts counts' : CallCounts) (provoked : ℕ) (waits waits' : WaitCounts) (woke woke' : Bool)
    → (get_or links k no_link).ripe ≡ true → IsHeld (owes (get_or links k no_link).peer) (get_or links k no_link) → counts'.faults ≡ counts.faults
    → WaitsSteadily (wire_of everywhere owes links counts provoked waits woke) (wire_of everywhere owes links' counts' provoked waits' woke') (Ok (ready.Link k))
waits_found everywhere owes k links links' counts counts' provoked waits waits' woke woke' ripe held faults =
    let old = wire_of everywhere owes links counts provoked waits woke in
    record {
      ripe = λ answer same. let e : ready.Link k ≡ answer = cc in subst (λ (a : Ready). WakesRipe a old) e (held.ripe ripe);
      unprovoked = λ j up idle. (refl, λ e every. record { same = faults; answer = λ f. absurd cc });
    }

module _ {C : Type 0} where
  -- the same of the links behind a slice of them
  pub none_along : (links seen : List (LoopLink C)) (woke : Bool) → seen ≡ links → (woke ≡ false → (k : ℕ) → k < length seen → (get_or (held_of seen) k no_link).ripe ≡ false)
      → woke ≡ false → (k : ℕ) → k < length (held_of links) → (get_or (held_of links) k no_link).ripe ≡ false
  none_along links seen woke is none = λ slept k below.
      let within : k < length seen = omega (arith, below, length_held links, ap length is) in
      subst (λ (ls : List (LoopLink C)). (get_or (held_of ls) k no_link).ripe ≡ false) is (none slept k within)

  pub ripe_along : (links seen : List (LoopLink C)) (k : ℕ) → seen ≡ links → (get_or (held_of seen) k no_link).ripe ≡ true → (get_or (held_of links) k no_link).ripe ≡ true
  ripe_along links seen k is ripe = subst (λ (ls : List (LoopLink C)). (get_or (held_of ls) k no_link).ripe ≡ true) is ripe

-- a wait that finds no ripe link, or comes behind one that succeeded
pub waits_none : (everywhere : Bool) (owes : Owing) (links : List Held) (counts : CallCounts) (provoked : ℕ) (waits : WaitCounts) (woke : Bool) (new : WireState)
    → (woke ≡ false → (k : ℕ) → k < length links → (get_or links k no_link).ripe ≡ false) → ((k : ℕ) → k < length links → IsHeld (owes (get_or links k no_link).peer) (get_or links k no_link))
    → WaitsSteadily (wire_of everywhere owes links counts provoked waits woke) new (Err fault.Failed)
waits_none everywhere owes links counts provoked waits woke new none held = record {
  ripe = λ answer same. absurd cc;
  unprovoked = λ k up idle.
      let below : k < length links = open_below links k (ripe_is_open owes (get_or links k no_link) up) in
      let yes : (get_or links k no_link).ripe ≡ true = (held k below).ripe_alone up in
      let no : (get_or links k no_link).ripe ≡ false = none (asleep woke idle) k below in
      absurd cc;
}

-- ---- dials

-- what a push that did not fail leaves
pub pushed : {A E X : Type 0} (r : Result A E) (old new : List X) (x : X) → new ≡ (if is_ok r then old ++ x ∷ [] else old) → is_err r ≡ false → new ≡ old ++ x ∷ []
pushed (Ok u) old new x is fine = is
pushed (Err e) old new x is fine = absurd cc

module _ {C : Type 0} where
  pub held_push : (links links' : List (LoopLink C)) (l : LoopLink C) (h : Held) → links' ≡ links ++ l ∷ [] → l.held ≡ h → held_of links' ≡ held_of links ++ h ∷ []
  held_push links links' l h is same = ap held_of is ∙ map-append (λ (x : LoopLink C). x.held) links (l ∷ []) ∙ ap (λ (x : Held). held_of links ++ x ∷ []) same

module _ {C Data Settings : Type 0} where
  -- a link on which nothing happened, with a connection on which no byte came
  pub kept_new : (kind : Kind C Data Settings) (suits : C → Type 0) (serving : Serving Data Settings) (owes : List ℕ → List ℕ) (peer : Option (List ℕ × ℕ)) (h : Held) (c : C)
      → h ≡ new_link peer → Opens kind c → suits c → IsKept kind suits serving owes h (Some c)
  kept_new kind suits serving owes peer h c is opens suited =
      let P : Held → Type 0 = λ x. IsKept kind suits serving owes x (Some c) in
      subst P (sym is) (record {
        is_held = record {
          ripe = λ up. absurd cc;
          ripe_alone = elim [ ToSend free s ↦ absurd cc | ToReceive free s short ↦ absurd cc ];
          awake = λ up. absurd cc;
          within = omega arith;
        };
        talks = record {
          suits = suited;
          answering = λ history past. record { marks = []; answers = opens.answers history serving.config; versions = tt; numbers = opens.numbers serving.config };
        };
      })

module _ {C Server Data Settings : Type 0} (kind : Kind C Data Settings) (Suits : Server → C → Type 0) (serving : Server → Serving Data Settings) (response_at : Serving Data Settings → List ℕ → List ℕ) (there : Option (List ℕ × ℕ) → Option Server) where
  -- a link that was given, of a server that stands there
  pub is_wire_push : (peer : Option (List ℕ × ℕ)) (server : Server) (links links' : List (LoopLink C)) (l : LoopLink C) (c : C)
      → AreServed kind Suits serving response_at there links → links' ≡ links ++ l ∷ [] → there peer ≡ Some server → l.held ≡ new_link peer → l.connection ≡ Some c → Opens kind c → Suits server c
      → AreServed kind Suits serving response_at there links'
  is_wire_push peer server links links' l c wire is stands made runs opens suited =
      let kept = kept_new kind (Suits server) (serving server) (response_at (serving server)) peer l.held c made opens suited in
      subst (λ (ls : List (LoopLink C)). AreServed kind Suits serving response_at there ls) (sym is)
      (served_push kind Suits serving response_at there links l wire (record {
        server = server;
        stands = ap (λ (h : Held). there h.peer) made ∙ stands;
        kept = subst (λ (o : Option C). IsKept kind (Suits server) (serving server) (response_at (serving server)) l.held o) (sym runs) kept;
      }))

-- whose server is told
pub some_of : {A : Type 0} (o : Option A) → is_some o ≡ true → (x : A) × (o ≡ Some x)
some_of None is = absurd cc
some_of (Some x) is = (x, refl)
