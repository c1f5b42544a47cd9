use Rattle.std.proofs.Common.{ℕ, List, Err, subst, rules}
use Rattle.group_parser.specs.Asking.{IsAsked}
use Rattle.data_files.proofs.Causes.{no_query_file, query_file_failed, not_read}
use Rattle.data_files.proofs.Held.{held_query}
use Rattle.data_files.proofs.query.read_groups.Goals as goal

pub returns-in-Err-clause-reads : goal.returns-in-Err-clause-reads
returns-in-Err-clause-reads g c =
    not_read _ _ _ (Err c.in-Err.fault) _ (query_file_failed c.in-Err.fault _ c.unread.ensures) (no_query_file c.in-Err.fault _ c.unread.ensures)
    c.in-Err.ensures.asks c.in-Err.ensures.cause c.in-Err.ensures.holds

pub returns-in-Ok-parse_asked-clause-ok : goal.returns-in-Ok-parse_asked-clause-ok
returns-in-Ok-parse_asked-clause-ok g c =
    held_query (g.F.Shelf.state c.args.shelf.now).told c.args.name.now c.in-Ok.bytes.items c.in-Ok.ensures.whole c.in-Ok-parse_asked.asked
    (subst (λ (b : List ℕ). IsAsked b c.in-Ok-parse_asked.asked) c.deref.ensures.value c.in-Ok-parse_asked.ensures.query)

pub returns-in-Err-Bad-clause-err : goal.returns-in-Err-Bad-clause-err
returns-in-Err-Bad-clause-err g c = search rules
