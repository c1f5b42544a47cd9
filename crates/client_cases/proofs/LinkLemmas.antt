-- A link that is left is open.
use Rattle.std.proofs.Common.{ℕ, ◌≡◌, Option, Some, Result, Ok, Err, true, refl, sym, subst}
use Rattle.tpf_base.specs.Links.{WireState}
use Rattle.http_wire.specs.declared.message.Reply.{Reply}
use Rattle.exchange.specs.Exchanges.{Exchanging, IsLinked, left_by, left_link}
use Rattle.exchange.specs.Polls.{Answers}
use Rattle.exchange.specs.declared.exchange.Standing.{Standing}
use Rattle.exchange.specs.declared.exchange.Standing.TheVariants.{Underway, Left, Over}
use Rattle.exchange.specs.declared.fault.ExchangeFault.{ExchangeFault}
use Rattle.exchange.specs.declared.fault.ExchangeFault.TheVariants as faults

left_open : (s : Standing) (o : Option ℕ) (k : ℕ) (wire : WireState) → o ≡ Some k → (s ≡ Left → (wire.links k).is_open ≡ true) → IsLinked (left_by s o) wire
left_open Left o k wire e h = subst (λ (x : Option ℕ). IsLinked x wire) (sym e) (h refl)
left_open Underway o k wire e h = tt
left_open Over o k wire e h = tt

pub none_left : (s : Standing) (o : Option ℕ) (wire : WireState) → s ≡ Underway → IsLinked (left_by s o) wire
none_left Left o wire e = cc
none_left Underway o wire e = tt
none_left Over o wire e = tt

over_left : (s : Standing) (o : Option ℕ) (wire : WireState) → s ≡ Over → IsLinked (left_by s o) wire
over_left Left o wire e = cc
over_left Underway o wire e = tt
over_left Over o wire e = tt

pub ready_left : (old new : Exchanging) (wire wire' : WireState) (result : Result Reply ExchangeFault) → Answers old new wire wire' (Some result) → IsLinked (left_link new) wire'
ready_left old new wire wire' (Ok answer) w = left_open new.standing new.link w.k wire' w.link (λ e. (w.is_open e).0)
ready_left old new wire wire' (Err faults.Failed) w = over_left new.standing new.link wire' w.breaks.standing
ready_left old new wire wire' (Err (faults.Cut received)) w = over_left new.standing new.link wire' w.ends.standing
ready_left old new wire wire' (Err (faults.Bad fault received)) w = over_left new.standing new.link wire' w.ends.standing
ready_left old new wire wire' (Err faults.OutOfMemory) w = over_left new.standing new.link wire' w.standing
