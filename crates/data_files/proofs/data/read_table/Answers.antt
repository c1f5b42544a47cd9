use Rattle.std.proofs.Common.{List, Err, sym, subst, rules}
use Rattle.rdf_terms.specs.declared.term.Quad.{Quad}
use Rattle.data_files.specs.Data.{OfContents, HoldsData}
use Rattle.data_files.specs.KeptLaws.{reads_as}
use Rattle.data_files.proofs.Causes.{gives}
use Rattle.data_files.proofs.Held.{held_served}
use Rattle.data_files.proofs.data.read_table.Goals as goal

pub returns-in-Err-clause-err : goal.returns-in-Err-clause-err
returns-in-Err-clause-err g c = c.in-Err.ensures.err c.args.choice.now c.args.authority.now

pub returns-in-Err-clause-exact : goal.returns-in-Err-clause-exact
returns-in-Err-clause-exact g c =
    gives (g.F.Shelf.state c.args.shelf.now) (g.F.Shelf.state c.read_quads.new.shelf) c.args.name.now c.args.choice.now c.args.authority.now (Err c.in-Err.fault) tt
    (c.in-Err.ensures.err c.args.choice.now c.args.authority.now)

pub returns-in-Err-clause-reads : goal.returns-in-Err-clause-reads
returns-in-Err-clause-reads g c = reads_as _ _ _ _ _ (λ e. cc) (λ e. cc) c.in-Err.ensures.reads

pub returns-clause-ok : goal.returns-clause-ok
returns-clause-ok g c =
    held_served (g.F.Shelf.state c.args.shelf.now).told c.args.name.now c.args.choice.now c.args.authority.now c.deref.result.now
    (subst (λ (quads : List Quad). OfContents (g.F.Shelf.state c.args.shelf.now).told (λ files. HoldsData files c.args.name.now quads)) (sym c.deref.ensures.value) c.in-Ok.ensures.ok) c.serve_quads.result c.serve_quads.ensures.free c.serve_quads.ensures.served c.serve_quads.ensures.few

pub returns-clause-err : goal.returns-clause-err
returns-clause-err g c = search rules

pub returns-clause-exact : goal.returns-clause-exact
returns-clause-exact g c =
    gives (g.F.Shelf.state c.args.shelf.now) (g.F.Shelf.state c.read_quads.new.shelf) c.args.name.now c.args.choice.now c.args.authority.now c.serve_quads.result
    (returns-clause-ok g c) (returns-clause-err g c)

pub returns-clause-reads : goal.returns-clause-reads
returns-clause-reads g c = reads_as _ _ _ _ _ (λ e. cc) (λ e. absurd (c.serve_quads.ensures.no_file e)) c.read_quads.ensures.reads
