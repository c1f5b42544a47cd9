use Rattle.std.proofs.Common.{ℕ, List, Err, subst}
use Rattle.rdf_terms.specs.declared.limits.TheConstants.{LONGEST_TERM}
use Rattle.nquads_text.specs.Reads.{Reads}
use Rattle.data_files.proofs.Causes.{no_file, file_failed, not_read}
use Rattle.data_files.proofs.Held.{held_data}
use Rattle.data_files.proofs.data.read_quads.Goals as goal

pub returns-in-Err-clause-reads : goal.returns-in-Err-clause-reads
returns-in-Err-clause-reads g c =
    not_read _ _ _ (Err c.in-Err.fault) _ (file_failed c.in-Err.fault _ c.unread.ensures) (no_file c.in-Err.fault _ c.unread.ensures)
    c.in-Err.ensures.asks c.in-Err.ensures.cause c.in-Err.ensures.holds

pub returns-in-Ok-read_all-clause-ok : goal.returns-in-Ok-read_all-clause-ok
returns-in-Ok-read_all-clause-ok g c =
    held_data (g.F.Shelf.state c.args.shelf.now).told c.args.name.now c.in-Ok.bytes.items c.in-Ok.ensures.whole c.in-Ok-read_all.quads.items c.in-Ok.ensures.within
    (subst (λ (b : List ℕ). Reads b LONGEST_TERM c.in-Ok-read_all.quads.items) c.deref.ensures.value c.in-Ok-read_all.ensures.read)
