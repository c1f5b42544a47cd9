use Rattle.list_laws.proofs.Each.{all_joined}
use Rattle.hydra_controls.specs.LineTexts.{is_plain_byte}
use Rattle.metadata_quads.proofs.term_text.plain.Goals as goal

pub of_texts-requires : goal.of_texts-requires
of_texts-requires c = all_joined is_plain_byte c.args.front.now c.args.end.now c.requires.front c.requires.end
