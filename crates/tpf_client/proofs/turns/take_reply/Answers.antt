-- A page is that of a ticket that is out, and tells the version or is refused.
use Rattle.tpf_client.specs.Turns.{keeps_both}
use Rattle.tpf_client.proofs.Taking.{no-stranger, take-fault, changed-fault, takes-page}
use Rattle.tpf_client.proofs.turns.take_reply.Goals as goal

pub unreachable-requires : goal.unreachable-requires
unreachable-requires g c = no-stranger c.in-Ok-answer.answered (g.E.Evaluates.standing c.args.evaluation.now) (g.E.Evaluates.standing c.answer.new.self) c.args.arrived.ticket c.in-Stranger.is c.in-Ok-answer.ensures.stands c.requires.out

pub returns-in-Taken-clause-ok : goal.returns-in-Taken-clause-ok
returns-in-Taken-clause-ok g c =
    takes-page g.E.Evaluates.suits g.E.Evaluates.account (keeps_both g.E.Evaluates.keeps_to g.E.Evaluates.keeps_small) g.E.Evaluates.standing g.E.Evaluates.is_true c.args.evaluation.now c.answer.new.self c.args.arrived c.args.version c.in-Ok.page c.in-Ok-answer.answered c.in-Taken.is c.in-Ok.ensures
    (c.tells_version.ensures.same c.if-not-tells_version.false) (c.pages_keep_authority.ensures _ c.args.arrived.reply.body c.args.arrived.address c.in-Ok.page c.is_valid.ensures c.in-Ok.ensures)
    c.in-Ok-answer.ensures.stands (λ limits k next. (c.in-Ok-answer.ensures.keeps limits.terms k.0 next, c.in-Ok-answer.ensures.small limits.sizes k.1)) c.in-Ok-answer.ensures.suits c.in-Ok-answer.ensures.owes

pub returns-then-not-tells_version-clause-err : goal.returns-then-not-tells_version-clause-err
returns-then-not-tells_version-clause-err g c = changed-fault c.args.arrived c.args.version c.in-Ok.page c.in-Ok.ensures (c.tells_version.ensures.other c.if-not-tells_version.true)

pub returns-in-Err-clause-err : goal.returns-in-Err-clause-err
returns-in-Err-clause-err g c = take-fault c.args.arrived (λ address. c.args.version) c.in-Err.fault c.in-Err.ensures
