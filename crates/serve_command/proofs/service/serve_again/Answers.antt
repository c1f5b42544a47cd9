-- The supply is of the file, under the base that the server has, and stays so.
use Rattle.std.proofs.Common.{rules, ap, subst, ◌∙◌}
use Rattle.tpf_base.specs.Addresses.{authority_of}
use Rattle.data_files.specs.Data.{IsOfFile}
use Rattle.data_files.specs.Kept.{KeepsShelf, AsksOnly}
use Rattle.data_servers.specs.Servers.{serving}
use Rattle.data_servers.specs.Supplies.{FailedReading}
use Rattle.serve_command.specs.Services.{ServesLinks}
use Rattle.serve_command.proofs.Sentences.{serves_links_from, ended_shelf, same_file, failed_reading, reading_of}
use Rattle.serve_command.proofs.service.serve_again.Goals as goal

pub returns-clause-serves : goal.returns-clause-serves
returns-clause-serves g c =
    let of = c.new-supply.ensures in
    let same = same_file _ _ _ _ _ _ _ _ (ap (λ shelf. (g.F.Shelf.state shelf).told) of.shelf) of.name of.choice (of.base ∙ c.requires.base) in
    ended_shelf (λ shelf. (g.F.Shelf.state shelf)) _ c.serve_links.new.supply.shelf.now (search rules)
    (λ state. ServesLinks (IsOfFile (g.F.Shelf.state c.args.shelf.now).told c.args.source.now.name.now c.args.source.now.choice.now (authority_of (serving c.args.server.now).config.base)) (FailedReading (g.F.Shelf.state c.args.shelf.now) state c.args.source.now.name.now c.args.source.now.choice.now (authority_of (serving c.args.server.now).config.base)) (serving c.args.server.now) c.args.source.now.stop_after (g.W.Wire.state c.args.wire.now) (g.W.Wire.state c.serve_links.new.wire) c.serve_links.result)
    (serves_links_from _ _ same _ _
    (λ rose. reading_of (g.F.Shelf.state c.args.shelf.now) (g.F.Shelf.state c.new-supply.result.shelf.now) (g.F.Shelf.state c.serve_links.new.supply.shelf.now) _ _ _ _ _ _ (ap (λ shelf. (g.F.Shelf.state shelf)) of.shelf) of.name of.choice (of.base ∙ c.requires.base) (failed_reading _ _ of.faults c.serve_links.ensures.keeps.0 rose))
    _ _ _ _ _ c.serve_links.ensures.serves)

pub returns-clause-keeps : goal.returns-clause-keeps
returns-clause-keeps g c =
    ended_shelf (λ shelf. (g.F.Shelf.state shelf)) _ c.serve_links.new.supply.shelf.now (search rules)
    (λ state. KeepsShelf (g.F.Shelf.state c.args.shelf.now) state)
    (subst (λ shelf. KeepsShelf (g.F.Shelf.state shelf) (g.F.Shelf.state c.serve_links.new.supply.shelf.now)) c.new-supply.ensures.shelf c.serve_links.ensures.keeps.0.shelf)

pub returns-clause-asks : goal.returns-clause-asks
returns-clause-asks g c =
    ended_shelf (λ shelf. (g.F.Shelf.state shelf)) _ c.serve_links.new.supply.shelf.now (search rules)
    (λ state. AsksOnly c.args.source.now.name.now (g.F.Shelf.state c.args.shelf.now) state)
    (subst (λ name. AsksOnly name (g.F.Shelf.state c.args.shelf.now) (g.F.Shelf.state c.serve_links.new.supply.shelf.now)) c.new-supply.ensures.name
    (subst (λ shelf. AsksOnly c.new-supply.result.name.now (g.F.Shelf.state shelf) (g.F.Shelf.state c.serve_links.new.supply.shelf.now)) c.new-supply.ensures.shelf c.serve_links.ensures.keeps.0.asks))
