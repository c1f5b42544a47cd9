use Rattle.federation.proofs.Places.{handed-in}
use Rattle.federation.proofs.rounds.hand_out_at.Goals as goal

pub returns : goal.returns
returns c = handed-in c.args.rounds.now.items c.args.place c.args.ticket c.index_mut.result.now c.hand_out.new.self c.hand_out.result c.requires c.index_mut.ensures.value c.hand_out.ensures
