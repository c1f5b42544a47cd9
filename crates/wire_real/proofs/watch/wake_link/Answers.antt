use Rattle.std.proofs.Common.{rules, sym, ◌∙◌, ap}
use Rattle.std.specs.Option.{option_copied_mut}
use Rattle.wire_real.proofs.Held.{woken_one}
use Rattle.wire_real.proofs.watch.wake_link.Goals as goal

pub returns-in-Some-clause-woken : goal.returns-in-Some-clause-woken
returns-in-Some-clause-woken c = λ is_woken.
    let found = sym c.get_mut.ensures.value ∙ ap option_copied_mut c.in-Some.is in
    woken_one c.args.sockets.now (c.get_mut.follows.lender c.wake.new.self) c.args.link c.args.given c.in-Some.socket.now c.wake.new.self (search rules) found
    ((c.get_mut.follows.holds c.wake.new.self).3 (search rules))
    (c.wake.ensures.woken is_woken)
