use Rattle.std.proofs.Common.{sym, ap, ◌∙◌}
use Rattle.rdf_terms.specs.Iri.{has_scheme}
use Rattle.own_controls.proofs.Web.{front_web}
use Rattle.own_controls.proofs.own.is_web_beside.Goals as goal

pub returns-in-Some : goal.returns-in-Some
returns-in-Some c = λ scheme.
    front_web c.args.page.now c.args.text.now _ (sym c.as_bytes.ensures.value ∙ c.in-Some.ensures) c.requires
    (ap has_scheme (sym c.as_bytes-in-Some.ensures.value) ∙ sym c.has_scheme.ensures ∙ scheme)
