use Rattle.std.proofs.Common.{[], ◌∷◌, ◌++◌}
use Rattle.std.specs.Prelude.{codes}
use Rattle.tpf_base.specs.Decimals.{decimal_text}
use Rattle.template_fill.specs.Metadata.{graph_at, owl, plain}
use Rattle.hydra_controls.specs.Facts.{addresses_on}
use Rattle.hydra_controls.proofs.LineRows.{behind_name, digits_stand, iri_line}
use Rattle.hydra_controls.proofs.facts.PageFacts.version_line.Goals as goal

pub returns : goal.returns
unfolding owl
returns c =
    let base = c.args.self.base.now in
    let version = c.args.self.version in
    iri_line (graph_at (addresses_on c.args.self)) (base ++ codes "#dataset") (34 ∷ []) (decimal_text version) (34 ∷ []) (owl (codes "versionInfo")) (plain (decimal_text version)) _ _ _ (digits_stand version)
    (behind_name base (codes "#dataset") (owl (codes "versionInfo")) (34 ∷ []) _ c.new-data_set.ensures) c.numbered-version.ensures c.line_of.ensures
