use Rattle.join_core.proofs.Evaluating.{begun-suits, begun-owes, begun-keeps, begun-small, begun-stands}
use Rattle.join_core.proofs.evaluates.JoinEvaluates.begin.Goals as goal

pub returns-clause-suits : goal.returns-clause-suits
returns-clause-suits c = λ w fits. begun-suits c.args.query.now c.args.forms c.args.window c.args.block c.in_blocks.result c.in_blocks.ensures w fits

pub returns-clause-owes : goal.returns-clause-owes
returns-clause-owes c = λ w fits. begun-owes c.args.query.now c.args.forms c.args.window c.args.block c.in_blocks.result c.in_blocks.ensures w fits

pub returns-clause-keeps : goal.returns-clause-keeps
returns-clause-keeps c = λ homes home. begun-keeps c.args.query.now c.args.forms c.args.window c.args.block c.in_blocks.result c.in_blocks.ensures homes home

pub returns-clause-small : goal.returns-clause-small
returns-clause-small c = begun-small c.args.query.now c.args.forms c.args.window c.args.block c.in_blocks.result c.in_blocks.ensures c.requires.some

pub returns-clause-stands : goal.returns-clause-stands
returns-clause-stands c = begun-stands c.args.query.now c.args.forms c.args.window c.args.block c.in_blocks.result c.in_blocks.ensures
