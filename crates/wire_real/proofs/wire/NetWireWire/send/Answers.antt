use Rattle.std.proofs.Common.{◌≤◌, sym, subst}
use Rattle.tpf_base.specs.Calls.{Sends}
use Rattle.wire_real.specs.Accounts.{wire_of}
use Rattle.wire_real.specs.Sockets.{accounts, door_at}
use Rattle.wire_real.proofs.Held.{open_is_held}
use Rattle.wire_real.proofs.Moving.{sends}
use Rattle.wire_real.proofs.wire.NetWireWire.send.Goals as goal

pub returns-clause-sends : goal.returns-clause-sends
returns-clause-sends g c =
    let before = c.args.self.now.counts in
    let door = door_at c.args.self.now.door in
    let was = accounts c.args.self.now.sockets in
    let now = accounts c.send_on-answer.new.sockets in
    let held = open_is_held before.given c.args.link was c.requires.is_open in
    let exact = c.after-self.ensures.exact in
    let later = subst (λ counts. before.faults ≤ counts.faults) exact c.after-self.ensures.later in
    let moved =
    sends c.args.link c.args.piece.now before door was now c.send_on-answer.result held.1.0 held.0 held.1.1 c.send_on-answer.ensures.moves
    c.send_on-answer.ensures.within c.send_on-answer.ensures.no_end later in
    subst (λ counts. Sends c.args.link c.args.piece.now (wire_of before door was) (wire_of counts door now) c.send_on-answer.result) (sym exact) moved
