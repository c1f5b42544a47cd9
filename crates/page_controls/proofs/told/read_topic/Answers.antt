use Rattle.std.proofs.Common.{Ok, Err}
use Rattle.std.proofs.lemmas.Result.{err_from_is_err_and}
use Rattle.page_controls.proofs.Asked.{page_answers}
use Rattle.page_controls.proofs.told.read_topic.Goals as goal

pub new-controls-requires-clause-topic : goal.new-controls-requires-clause-topic
new-controls-requires-clause-topic c = let found = c.requires.topic in (found.0, found.1)

pub returns : goal.returns
returns c = (
  page_answers c.args.quads.now c.args.address.now c.new-controls.result c.args.topic.now c.new-controls.ensures.quads c.new-controls.ensures.topic c.requires.topic (Ok c.in_ok-told.told) c.in_ok-told.ensures,
  c.in_ok-marks.ensures,
)

pub returns-in_err-told : goal.returns-in_err-told
returns-in_err-told c =
    let p = err_from_is_err_and c.from_residual-in_err-told.result c.from_residual-in_err-told.ensures.1 in
    rw (p.1, p.2) (page_answers c.args.quads.now c.args.address.now c.new-controls.result c.args.topic.now c.new-controls.ensures.quads c.new-controls.ensures.topic c.requires.topic (Err _) c.in_err-told.ensures)
