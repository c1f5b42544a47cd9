use Rattle.std.proofs.Common.{sym, ◌∙◌}
use Rattle.std.specs.Prelude.{codes}
use Rattle.list_laws.proofs.Lists.{none_there}
use Rattle.own_controls.proofs.Pieces.{template_is}
use Rattle.own_controls.proofs.own.texts_of.Goals as goal

pub returns-clause-template : goal.returns-clause-template
returns-clause-template c =
    template_is c.args.template.now c.args.base.now c.in_ok-places.places.now c.in_ok-over.over.now (codes "{?subject,predicate,object}") (sym c.as_bytes.ensures.value ∙ c.in_ok-places.ensures) c.in_ok-over.ensures
    (none_there c.in_ok-over.over.now c.is_empty.result c.is_empty.ensures c.if-not-is_empty.false)
