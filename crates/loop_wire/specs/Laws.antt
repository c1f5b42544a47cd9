-- Serves proofs alone: what a wire in one process keeps.
use Rattle.std.specs.Prelude.{ℕ, ◌≡◌, ◌≤◌, Bool, true, false, List, length, take, drop, get_or, Some}
use Rattle.std.proofs.Common.{refl, ap, sym, lit<}
use Rattle.std.proofs.lemmas.List.{get_or_past, take-append-drop}
use Rattle.tpf_base.specs.Failures.{CallCounts}
use Rattle.tpf_base.specs.Links.{All, IsToldBy, ReceivesOwed, OwesAllowed, IsLively}
use Rattle.loop_wire.specs.Held.{Held, Owing, no_link, told, told_there}
use Rattle.loop_wire.specs.Waits.{WaitCounts}
use Rattle.loop_wire.specs.Looped.{wire_of}

told_of : (owes : List ℕ → List ℕ) (held : Held) → IsToldBy All (told owes held)
told_of owes held = (record { sent = held.sent; received = take held.received (owes held.sent); ended = held.ended; is_sent = refl; is_received = refl; is_ended = refl }, (owes held.sent, refl))

pub all_told : (owes : Owing) (links : List Held) (k : ℕ) → IsToldBy All (told_there owes (get_or links k no_link))
all_told owes links k = let held = get_or links k no_link in told_of (owes held.peer) held

pub none_open : (owes : Owing) (links : List Held) → (k : ℕ) → length links ≤ k → (told_there owes (get_or links k no_link)).is_open ≡ false
none_open owes links = λ k past. ap (λ (held : Held). held.is_open) (get_or_past links k no_link past)

received_front : (owes : List ℕ → List ℕ) (held : Held) → ReceivesOwed (told owes held)
received_front owes held = λ received owed is_received is_owed.
    let same : received ≡ take held.received (owes held.sent) = cc in
    let all : owed ≡ owes held.sent = cc in
    rw (same, all) (drop held.received (owes held.sent), sym (take-append-drop held.received (owes held.sent)))

pub front_received : (owes : Owing) (links : List Held) (k : ℕ) → ReceivesOwed (told_there owes (get_or links k no_link))
front_received owes links k = let held = get_or links k no_link in received_front (owes held.peer) held

-- what is owed on a link is owed to what was sent to its host and port
owed_front : (owes : Owing) (held : Held) → OwesAllowed (λ host port sent owed. owed ≡ owes (Some (host, port)) sent) (told_there owes held)
owed_front owes held = λ host port sent owed is_peer is_sent is_owed.
    let same : sent ≡ held.sent = cc in
    let all : owed ≡ owes held.peer held.sent = cc in
    let at : held.peer ≡ Some (host, port) = is_peer in
    rw (same, all, at) refl

pub front_owed : (owes : Owing) (links : List Held) (k : ℕ) → OwesAllowed (λ host port sent owed. owed ≡ owes (Some (host, port)) sent) (told_there owes (get_or links k no_link))
front_owed owes links k = owed_front owes (get_or links k no_link)

pub is_calm : (everywhere : Bool) (owes : Owing) (links : List Held) (counts : CallCounts) (provoked : ℕ) (waits : WaitCounts) (woke : Bool) → IsLively (wire_of everywhere owes links counts provoked waits woke)
is_calm everywhere owes links counts provoked waits true = λ lively. lit< tt
is_calm everywhere owes links counts provoked waits false = λ lively. lit< tt

-- several servers stand at hosts and ports of their own
pub nowhere : {Fact : Type 0} → false ≡ true → Fact
nowhere is = absurd cc
