use Rattle.own_controls.proofs.Written.{template_canonical}
use Rattle.own_controls.proofs.Pieces.{three_behind}
use Rattle.own_controls.proofs.own.behind_texts.Goals as goal

pub behind_form-requires : goal.behind_form-requires
behind_form-requires c = template_canonical c.args.texts.now.base.now c.args.texts.now.template.now c.requires.base c.requires.template

pub returns : goal.returns
returns c =
    let page = c.args.page.now in
    three_behind c.args.bytes.now _ _ _ c.in_ok-form.form.now c.in_ok-mappings.mappings.now c.behind_mappings.result c.in_ok-form.ensures (c.in_ok-mappings.ensures page c.requires.ending)
    (c.behind_mappings.ensures page c.requires.ending)
