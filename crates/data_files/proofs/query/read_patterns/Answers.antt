use Rattle.std.proofs.Common.{ℕ, List, Err, subst, rules}
use Rattle.pattern_parser.specs.Queries.{ReadsQuery}
use Rattle.data_files.proofs.Causes.{no_query_file, query_file_failed, not_read}
use Rattle.data_files.proofs.Held.{held_patterns}
use Rattle.data_files.proofs.query.read_patterns.Goals as goal

pub returns-in-Err-clause-reads : goal.returns-in-Err-clause-reads
returns-in-Err-clause-reads g c =
    not_read _ _ _ (Err c.in-Err.fault) _ (query_file_failed c.in-Err.fault _ c.unread.ensures) (no_query_file c.in-Err.fault _ c.unread.ensures)
    c.in-Err.ensures.asks c.in-Err.ensures.cause c.in-Err.ensures.holds

pub returns-in-Ok-parse-clause-ok : goal.returns-in-Ok-parse-clause-ok
returns-in-Ok-parse-clause-ok g c =
    held_patterns (g.F.Shelf.state c.args.shelf.now).told c.args.name.now c.in-Ok.bytes.items c.in-Ok.ensures.whole c.in-Ok-parse.query
    (subst (λ (b : List ℕ). ReadsQuery b c.in-Ok-parse.query) c.deref.ensures.value c.in-Ok-parse.ensures.query)

pub returns-in-Err-Bad-clause-err : goal.returns-in-Err-Bad-clause-err
returns-in-Err-Bad-clause-err g c = search rules
