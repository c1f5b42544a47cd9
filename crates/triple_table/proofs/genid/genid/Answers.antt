use Rattle.triple_table.proofs.Iris.{genid_is_iri}
use Rattle.triple_table.proofs.genid.genid.Goals as goal

pub from_text-requires : goal.from_text-requires
from_text-requires c =
    rw (c.from_string-text.ensures, c.in_ok-genid_text.ensures)
    (genid_is_iri c.args.authority.now c.args.label.now c.requires.authority c.requires.label c.utf8.label)
