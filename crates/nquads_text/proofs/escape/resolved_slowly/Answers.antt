use Rattle.nquads_text.proofs.Escapes.{resolved_utf8}
use Rattle.nquads_text.proofs.escape.resolved_slowly.Goals as goal

pub from_utf8_unchecked-string-requires : goal.from_utf8_unchecked-string-requires
from_utf8_unchecked-string-requires c = resolved_utf8 c.args.iri c.args.bytes.now _ c.requires (rw c.in-Some.is at c.in_ok-resolve_all.ensures)
