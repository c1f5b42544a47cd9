use Rattle.quad_feed.proofs.FedLaws.{takes_piece, refused_with}
use Rattle.quad_feed.proofs.feed.QuadFeed.feed.Goals as goal

pub returns-in-Ok-clause-taken : goal.returns-in-Ok-clause-taken
returns-in-Ok-clause-taken c = takes_piece c.args.self.now c.args.piece.now c.take.new.self c.in-Ok.ensures.same

pub returns-in-Err-clause-refused : goal.returns-in-Err-clause-refused
returns-in-Err-clause-refused c = λ e. refused_with (Unit {0}) (Unit {0}) c.in-Err.fault c.args.self.now c.args.piece.now c.in-Err.ensures.refused
