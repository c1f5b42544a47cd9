use Rattle.std.proofs.Common.{sym, ◌∙◌}
use Rattle.control_triples.specs.Parts.{borrowed_triples}
use Rattle.control_triples.proofs.Versioned.{no_version, several, said_by}
use Rattle.control_triples.proofs.version.read_version.Goals as goal

pub returns-in-None : goal.returns-in-None
returns-in-None c = no_version c.args.controls.now.quads c.args.controls.now.topic (borrowed_triples c.triples-triples.result.now) c.triples-triples.ensures (sym c.in-None.ensures)

pub returns-then-several : goal.returns-then-several
returns-then-several c =
    several c.args.controls.now.quads c.args.controls.now.topic (borrowed_triples c.triples-triples.result.now) c.triples-triples.ensures c.in-Some.version.now (sym c.in-Some.ensures)
    (sym c.has_other_version-several.ensures ∙ c.if-several.true)

pub returns-else-several : goal.returns-else-several
returns-else-several c =
    said_by c.args.controls.now.quads c.args.controls.now.topic (borrowed_triples c.triples-triples.result.now) c.triples-triples.ensures c.in-Some.version.now (sym c.in-Some.ensures)
    (sym c.has_other_version-several.ensures ∙ c.if-several.false) c.number.result c.number.ensures
