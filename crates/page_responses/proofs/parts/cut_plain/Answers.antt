use Rattle.std.proofs.lemmas.Result.{on_ok_weaker}
use Rattle.page_responses.proofs.PartLaws.{plain_cuts}
use Rattle.page_responses.proofs.parts.cut_plain.Goals as goal

pub returns-clause-ok : goal.returns-clause-ok
returns-clause-ok c = on_ok_weaker c.push.result (plain_cuts c.args.cut.now c.push.new.self c.args.text.now c.args.out.now.items c.push.new.out.items) c.push.ensures.ok
