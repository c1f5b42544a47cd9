use Rattle.federation.proofs.Answering.{joins-round}
use Rattle.federation.proofs.evaluation.join_round.Goals as goal

pub returns-clause-joins : goal.returns-clause-joins
returns-clause-joins c =
    let page = c.in_ok-page.ensures in
    let a = c.answer.ensures in
    joins-round c.args.join.now c.answer.new.self c.args.round c.in_ok-page.page c.number-number.result c.asks_one-alone.result c.answer.result c.number-number.ensures c.asks_one-alone.ensures page.joined page.together a.taken a.numbered a.stranger a.keeps a.small a.grows a.kept
