use Rattle.std.proofs.Common.{◌≤◌, sym, subst}
use Rattle.tpf_base.specs.Calls.{Receives}
use Rattle.wire_real.specs.Accounts.{wire_of}
use Rattle.wire_real.specs.Sockets.{accounts, door_at}
use Rattle.wire_real.proofs.Held.{open_is_held}
use Rattle.wire_real.proofs.Moving.{receives}
use Rattle.wire_real.proofs.wire.NetWireWire.recv.Goals as goal

pub returns-clause-receives : goal.returns-clause-receives
returns-clause-receives g c =
    let before = c.args.self.now.counts in
    let door = door_at c.args.self.now.door in
    let was = accounts c.args.self.now.sockets in
    let now = accounts c.receive_on-answer.new.sockets in
    let held = open_is_held before.given c.args.link was c.requires.is_open in
    let exact = c.after-self.ensures.exact in
    let later = subst (λ counts. before.faults ≤ counts.faults) exact c.after-self.ensures.later in
    let moved =
    receives c.args.link c.receive_on-answer.new.to before door was now c.receive_on-answer.result held.1.0 held.0 held.1.1 c.receive_on-answer.ensures.moves
    c.receive_on-answer.ensures.within later in
    subst (λ counts. Receives c.args.link c.receive_on-answer.new.to (wire_of before door was) (wire_of counts door now) c.receive_on-answer.result) (sym exact) moved
