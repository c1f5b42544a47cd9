-- Serves proofs alone: what a wire of scripts keeps.
use Rattle.std.specs.Prelude.{ℕ, get_or}
use Rattle.std.proofs.Common.{refl, ap}
use Rattle.std.proofs.lemmas.List.{get_or_past}
use Rattle.tpf_base.specs.Links.{SentAndReceived, IsToldBy, ReceivesOwed, OwesAllowed, OpensGiven, IsLively}
use Rattle.script_wire.specs.Scripts.{Scripted, no_link, told_link}
use Rattle.script_wire.specs.Held.{state_of}
use Rattle.script_wire.specs.declared.wire.ScriptWire.{ScriptWire}

-- the bytes of each link are told, and what is owed is not
told_of : (held : Scripted) → IsToldBy SentAndReceived (told_link held)
told_of held = (record { sent = held.sent; received = held.received; ended = held.ended; is_sent = refl; is_received = refl; is_ended = refl }, refl)

pub all_told : (wire : ScriptWire) (k : ℕ) → IsToldBy (state_of wire).nature.tells ((state_of wire).links k)
all_told wire k = told_of (get_or wire.links.items k no_link)

pub none_open : (wire : ScriptWire) → OpensGiven (state_of wire)
none_open wire = λ k past. ap (λ (held : Scripted). held.is_open) (get_or_past wire.links.items k no_link past)

owes_nothing : (held : Scripted) → ReceivesOwed (told_link held)
owes_nothing held = λ received owed told_received told_owed. cc

pub none_owed : (wire : ScriptWire) (k : ℕ) → ReceivesOwed ((state_of wire).links k)
none_owed wire k = owes_nothing (get_or wire.links.items k no_link)

allows_nothing : (held : Scripted) → OwesAllowed (λ host port sent owed. ⊥) (told_link held)
allows_nothing held = λ host port sent owed is_peer is_sent is_owed. cc

pub nothing_allowed : (wire : ScriptWire) (k : ℕ) → OwesAllowed (λ host port sent owed. ⊥) ((state_of wire).links k)
nothing_allowed wire k = allows_nothing (get_or wire.links.items k no_link)

pub not_lively : (wire : ScriptWire) → IsLively (state_of wire)
not_lively wire = λ lively. absurd cc
