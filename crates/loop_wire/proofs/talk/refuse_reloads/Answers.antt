use Rattle.loop_wire.proofs.Feeding.{refused_behind}
use Rattle.loop_wire.proofs.talk.refuse_reloads.Goals as goal

pub loop-preserved : goal.loop-preserved
loop-preserved g c = record {
  suits = c.in_ok-reloaded.ensures.suits;
  stays = refused_behind _ _ _ _ _ c.loop.invariant.stays c.in_ok-reloaded.ensures.reloads;
}
