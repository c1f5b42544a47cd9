-- What may follow, and why a reload fails, by whether there is the path of one.
use Rattle.std.proofs.Common.{is_some, ap, sym, ◌∙◌}
use Rattle.data_files.specs.KeptLaws.{shelf_none, only_none}
use Rattle.data_servers.specs.Servers.{serving}
use Rattle.serve_command.proofs.Sentences.{serves_links_from, follows, reloads_by, reloads_none}
use Rattle.serve_command.proofs.service.serve_source.Goals as goal

pub returns-then-source-clause-serves : goal.returns-then-source-clause-serves
returns-then-source-clause-serves g c =
    let config = (serving c.args.server.now).config in
    serves_links_from _ _ (follows _ _ _ config (sym c.requires.reloads ∙ c.if-source.true)) _ _ (reloads_by (g.F.Shelf.state c.args.shelf.now) (g.F.Shelf.state c.serve_again.new.shelf) c.args.source.now.name.now c.args.source.now.choice.now config) _ _ _ _ _ c.serve_again.ensures.serves

pub returns-clause-serves : goal.returns-clause-serves
returns-clause-serves g c =
    let config = (serving c.args.server.now).config in
    serves_links_from _ _ (λ triples none. absurd none) _ _ (reloads_none (g.F.Shelf.state c.args.shelf.now) (g.F.Shelf.state c.args.shelf.now) c.args.source.now.name.now c.args.source.now.choice.now config (sym c.requires.reloads ∙ c.if-source.false)) _ _ _ _ _ c.serve_once.ensures.serves

pub returns-clause-keeps : goal.returns-clause-keeps
returns-clause-keeps g c = shelf_none (g.F.Shelf.state c.args.shelf.now)

pub returns-clause-asks : goal.returns-clause-asks
returns-clause-asks g c = only_none _ (g.F.Shelf.state c.args.shelf.now)

pub serve_again-requires-clause-listens : goal.serve_again-requires-clause-listens
serve_again-requires-clause-listens g c = ap is_some c.requires.door

pub serve_once-requires-clause-listens : goal.serve_once-requires-clause-listens
serve_once-requires-clause-listens g c = ap is_some c.requires.door
