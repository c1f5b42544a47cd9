-- A wire's links behind a slice of them, its counts, and what a call needs.
use Rattle.std.proofs.Common.{ℕ, zero, suc, ◌≡◌, ◌<◌, ◌≤◌, ◌++◌, ◌&&◌, not, min, Bool, true, false, List, [], ◌∷◌, length, take, drop, set, get_or, Option, Some, refl, ap, sym, subst, ◌∙◌, arith}
use Rattle.std.proofs.lemmas.List.{append-nil}
use Rattle.std.proofs.Math.ListN.{drop_of_length-le}
use Rattle.std.proofs.Math.Seq.{take-length}
use Rattle.tpf_base.specs.Causes.{counted}
use Rattle.tpf_base.specs.Failures.{CallCounts, room}
use Rattle.tpf_base.specs.declared.failing.Failing.{Failing}
use Rattle.tpf_base.specs.Links.{Receiving, ToSend, ToReceive, is_short}
use Rattle.tpf_base.specs.declared.wire.Moved.{Moved}
use Rattle.connections.specs.Kinds.{Kind}
use Rattle.connections.specs.Versions.{Serving}
use Rattle.loop_wire.specs.declared.link.LoopLink.{LoopLink}
use Rattle.loop_wire.specs.Held.{Held, Owing, no_link, told_there, IsHeld, Hears, Gives}
use Rattle.loop_wire.specs.Looped.{Looped, held_of, is_steady, AreServed}
use Rattle.loop_wire.proofs.Calls.{CountsFine, CountsFailed}
use Rattle.loop_wire.proofs.Lists.{length_held}

-- an open link was given
pub open_below : (links : List Held) (k : ℕ) → (get_or links k no_link).is_open ≡ true → k < length links
open_below [] k is = absurd cc
open_below (held ∷ links) zero is = omega (arith)
open_below (held ∷ links) (suc k) is = omega (arith, open_below links k is)

-- what holds of the links that are seen holds of those behind it
pub open_seen : {Server : Type 0} (w seen : Looped Server) (k : ℕ) → w ≡ seen → (get_or seen.links k no_link).is_open ≡ true → (get_or w.links k no_link).is_open ≡ true
open_seen w seen k is up = ap (λ (v : Looped _). (get_or v.links k no_link).is_open) is ∙ up

pub below_seen : {Server : Type 0} (w seen : Looped Server) (k : ℕ) → w ≡ seen → (get_or seen.links k no_link).is_open ≡ true → k < length w.links
below_seen w seen k is up = open_below w.links k (open_seen w seen k is up)

-- a slice of all items, put back
pub put_back : {X : Type 0} (items seen new : List X) (len : ℕ) → seen ≡ items → length new ≡ length seen → length seen ≡ len → take len (new ++ drop (length new) items) ≡ new
put_back items seen new len is same all =
    let none : drop (length new) items ≡ [] = drop_of_length-le items (omega (arith, same, ap length is)) in
    let len' : len ≡ length new = omega (arith, same, all) in
    rw (none, append-nil, len') (take-length new)

-- ---- counts

pub counts_fine : (old new : CallCounts) (m : ℕ) → new ≡ record old { calls = m } → CountsFine old new
counts_fine old new m is = rw (is) (record { on = record { failing = refl; dials = refl; later = omega arith }; faults = refl })

pub counts_failed : (old mid new : CallCounts) (m : ℕ) → mid ≡ record old { calls = m } → new ≡ record mid { faults = counted mid.faults } → mid.faults ≤ new.faults → is_steady old.failing ≡ false → CountsFailed old new
counts_failed old mid new m is fails later unsteady = record {
  on = record {
    failing = ap (λ (c : CallCounts). c.failing) fails ∙ ap (λ (c : CallCounts). c.failing) is;
    dials = ap (λ (c : CallCounts). c.dials) fails ∙ ap (λ (c : CallCounts). c.dials) is;
    later = let same : mid.faults ≡ old.faults = ap (λ (c : CallCounts). c.faults) is in omega (arith, same, later);
  };
  faults = ap (λ (c : CallCounts). c.faults) fails ∙ ap (λ (c : CallCounts). counted c.faults) is;
  unsteady = unsteady;
}

-- ---- how many bytes may move

pub some_room : (failing failing' : Failing) (moved there n : ℕ) → failing' ≡ failing → n ≡ room failing' moved there → 0 < room failing moved there → 0 < n
some_room failing failing' moved there n same is some = let e : n ≡ room failing moved there = is ∙ ap (λ f. room f moved there) same in omega (arith, e, some)

-- of so many bytes that are there, at most so many
pub few_within : (n most cut there : ℕ) → n ≤ most → most ≡ min cut there → n ≤ there
few_within n most cut there few is = omega (arith, few, is)

pub some_within : (most cut there : ℕ) → 1 ≤ cut → 0 < there → most ≡ min cut there → 0 < most
some_within most cut there some room is = omega (arith, some, room, is)

-- ---- stalls

-- a call that stalls was not woken
pub asleep_as : (stalls woken fourth : Bool) → stalls ≡ (not woken && fourth) → stalls ≡ true → woken ≡ false
asleep_as stalls true fourth is stalling = absurd cc
asleep_as stalls false fourth is stalling = refl

pub awake_as : (stalls woken fourth : Bool) → stalls ≡ (not woken && fourth) → woken ≡ true → stalls ≡ false
awake_as stalls true fourth is woken = is
awake_as stalls false fourth is woken = absurd cc

-- a link that a wait answered and whose receive stalled is short, since it is ripe
pub ripe_short : (owes : Owing) (h : Held) → IsHeld (owes h.peer) h → h.ripe ≡ true → h.stalled ≡ Some Receiving → is_short (told_there owes h) ≡ true
ripe_short owes h held ripe way = elim (held.ripe ripe) [ ToSend up s ↦ absurd cc | ToReceive up s short ↦ short ]

module _ {C Server Data Settings : Type 0} (kind : Kind C Data Settings) (Suits : Server → C → Type 0) (serving : Server → Serving Data Settings) (response_at : Serving Data Settings → List ℕ → List ℕ) (there : Option (List ℕ × ℕ) → Option Server) where
  pub served_along : (links seen : List (LoopLink C)) → seen ≡ links → AreServed kind Suits serving response_at there links → AreServed kind Suits serving response_at there seen
  served_along links seen is kept = subst (λ (ls : List (LoopLink C)). AreServed kind Suits serving response_at there ls) (sym is) kept

  pub is_wire_put : (links seen new : List (LoopLink C)) (len : ℕ) → AreServed kind Suits serving response_at there links → seen ≡ links → length new ≡ length seen → length seen ≡ len
      → (AreServed kind Suits serving response_at there seen → AreServed kind Suits serving response_at there new)
      → AreServed kind Suits serving response_at there (take len (new ++ drop (length new) links))
  is_wire_put links seen new len wire is same all keeps =
      subst (λ (ls : List (LoopLink C)). AreServed kind Suits serving response_at there ls) (sym (put_back links seen new len is same all)) (keeps (served_along links seen is wire))

module _ {C : Type 0} where
  -- what is held, after a call that changed one link by this function
  pub held_put_by : (f : Held → Held) (k : ℕ) (links seen new : List (LoopLink C)) (len : ℕ) → seen ≡ links → length new ≡ length seen → length seen ≡ len
      → held_of new ≡ set (held_of seen) k (f (get_or (held_of seen) k no_link))
      → held_of (take len (new ++ drop (length new) links)) ≡ set (held_of links) k (f (get_or (held_of links) k no_link))
  held_put_by f k links seen new len is same all held =
      ap held_of (put_back links seen new len is same all) ∙ held ∙ ap (λ (ls : List (LoopLink C)). set (held_of ls) k (f (get_or (held_of ls) k no_link))) is

  pub held_put : (h : Held) (k : ℕ) (links seen new : List (LoopLink C)) (len : ℕ) → seen ≡ links → length new ≡ length seen → length seen ≡ len
      → held_of new ≡ set (held_of seen) k h → held_of (take len (new ++ drop (length new) links)) ≡ set (held_of links) k h
  held_put h k links seen new len is same all held =
      ap held_of (put_back links seen new len is same all) ∙ held ∙ ap (λ (ls : List (LoopLink C)). set (held_of ls) k h) is

  -- the same of the links behind a slice of them
  pub slice_open : (links seen : List (LoopLink C)) (k : ℕ) → seen ≡ links → (get_or (held_of links) k no_link).is_open ≡ true → (get_or (held_of seen) k no_link).is_open ≡ true
  slice_open links seen k is up = ap (λ (ls : List (LoopLink C)). (get_or (held_of ls) k no_link).is_open) is ∙ up

  pub slice_below : (links seen : List (LoopLink C)) (k : ℕ) → seen ≡ links → k < length (held_of links) → k < length seen
  slice_below links seen k is below = omega (arith, below, ap length is, length_held links)

  pub held_below : (links seen : List (LoopLink C)) (k : ℕ) → seen ≡ links → k < length seen → k < length (held_of links)
  held_below links seen k is below = omega (arith, below, ap length is, length_held links)

  pub hears_along : (k : ℕ) (links seen : List (LoopLink C)) (h : Held) (stalls : Bool) (front front' : List ℕ) (answer : Moved) → seen ≡ links → front ≡ front'
      → Hears stalls front (get_or (held_of seen) k no_link) h answer → Hears stalls front' (get_or (held_of links) k no_link) h answer
  hears_along k links seen h stalls front front' answer is same hears =
      let P : List (LoopLink C) → List ℕ → Type 0 = λ ls f. Hears stalls f (get_or (held_of ls) k no_link) h answer in
      subst (λ f. P links f) same (subst (λ ls. P ls front) is hears)

  pub gives_along : (k : ℕ) (links seen : List (LoopLink C)) (h : Held) (owes : Owing) (most : ℕ) (stalls : Bool) (to : List ℕ) (answer : Moved) → seen ≡ links
      → Gives (owes (get_or (held_of seen) k no_link).peer) most stalls to (get_or (held_of seen) k no_link) h answer
      → Gives (owes (get_or (held_of links) k no_link).peer) most stalls to (get_or (held_of links) k no_link) h answer
  gives_along k links seen h owes most stalls to answer is gives =
      let P : List (LoopLink C) → Type 0 = λ ls. Gives (owes (get_or (held_of ls) k no_link).peer) most stalls to (get_or (held_of ls) k no_link) h answer in subst P is gives
