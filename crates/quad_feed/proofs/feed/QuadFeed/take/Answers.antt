use Rattle.std.proofs.Common.{refl, sym, ◌∙◌, arith}
use Rattle.quad_feed.proofs.PieceLaws.{none_kept, some_kept}
use Rattle.quad_feed.proofs.FedLaws.{made, unfinished_of, same_of, refused_of}
use Rattle.quad_feed.proofs.EndedLaws.{no_piece, taken_of}
use Rattle.quad_feed.proofs.feed.QuadFeed.take.Goals as goal

pub returns-then-is_empty-clause-unfinished : goal.returns-then-is_empty-clause-unfinished
returns-then-is_empty-clause-unfinished c =
    unfinished_of c.args.self.now c.self.inside.longest c.self.inside.quads.items c.self.inside.number c.self.inside.after_cr c.self.inside.kept.items c.self.inside.fault (sym c.self.view_is) c.self.invariant.0 c.self.invariant.1

pub returns-in-Ok-clause-same : goal.returns-in-Ok-clause-same
returns-in-Ok-clause-same c =
    same_of c.args.self.now c.self.inside.longest c.self.inside.quads.items c.read_ended.new.quads.items c.self.inside.number c.read_ended.new.number c.self.inside.after_cr c.in-Ok.cut c.self.inside.kept.items c.read_ended.new.kept.items c.self.inside.fault c.self.inside.fault
    c.args.piece.now c.begun-bytes.result.now (sym c.self.view_is) c.self.invariant.1 (some_kept c.args.piece.now (sym c.is_empty.ensures ∙ c.if-is_empty.false)) c.begun-bytes.ensures c.in-Ok.ensures.ok

pub returns-in-Err-clause-refused : goal.returns-in-Err-clause-refused
returns-in-Err-clause-refused c =
    refused_of (Unit {0}) (Unit {0}) c.in-Err.fault c.args.self.now c.self.inside.longest c.self.inside.quads.items c.self.inside.number c.self.inside.after_cr c.self.inside.kept.items c.self.inside.fault
    c.args.piece.now c.begun-bytes.result.now (sym c.self.view_is) c.self.invariant.1 (some_kept c.args.piece.now (sym c.is_empty.ensures ∙ c.if-is_empty.false)) c.begun-bytes.ensures c.in-Err.ensures.refused

pub returns-then-is_empty-clause-ended : goal.returns-then-is_empty-clause-ended
returns-then-is_empty-clause-ended c =
    no_piece c.args.self.now c.args.piece.now c.self.inside.longest c.self.inside.number c.self.inside.quads.items c.self.inside.after_cr c.self.inside.kept.items c.self.inside.fault (sym c.self.view_is) (none_kept c.args.piece.now (sym c.is_empty.ensures ∙ c.if-is_empty.true)) (omega arith)

pub returns-in-Ok-clause-ended : goal.returns-in-Ok-clause-ended
returns-in-Ok-clause-ended c =
    taken_of c.args.self.now (made c.self.inside.longest c.read_ended.new.quads.items c.read_ended.new.number c.in-Ok.cut c.read_ended.new.kept.items c.self.inside.fault) c.self.inside.longest c.self.inside.number c.read_ended.new.number c.self.inside.quads.items c.read_ended.new.quads.items c.self.inside.after_cr c.in-Ok.cut c.self.inside.kept.items c.read_ended.new.kept.items
    c.args.piece.now c.begun-bytes.result.now c.self.inside.fault c.self.inside.fault (sym c.self.view_is) refl c.self.invariant.1 (some_kept c.args.piece.now (sym c.is_empty.ensures ∙ c.if-is_empty.false)) c.begun-bytes.ensures c.in-Ok.ensures.inside c.in-Ok.ensures.ended
