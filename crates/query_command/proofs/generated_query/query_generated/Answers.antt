-- The numbers are those of the data and of their answers, by what the call over the wire promises.
-- What is said of the query is said of the file that holds it.
use Rattle.std.proofs.Common.{Result, Ok, Err, refl, ap}
use Rattle.list_laws.proofs.Results.{ok_not_err, err_same}
use Rattle.data_files.specs.declared.fault.DataFault.TheVariants as data_faults
use Rattle.data_files.specs.declared.query.Grammar.TheVariants as grammars
use Rattle.data_files.specs.KeptLaws.{reads_as}
use Rattle.tpf_client.specs.declared.fault.ClientFault.{ClientFault}
use Rattle.answer_faults.specs.declared.fault.Counts.{Counts}
use Rattle.answer_faults.specs.declared.fault.AnswerFault.{AnswerFault}
use Rattle.answer_faults.specs.declared.fault.AnswerFault.TheVariants as faults
use Rattle.query_command.specs.Groups as sums
use Rattle.query_command.specs.Over.{AsksGeneratedOver}
use Rattle.query_command.proofs.Counting.{CalledGenerated, generated_answers, generated_fault, generated_planned, generated_honest, generated_sent, generated_requested, generated_replied, generated_ends, memory_not_file}
use Rattle.query_command.proofs.Answered.{by_called}
use Rattle.query_command.proofs.Complete.{asks_generated, counts_none}
use Rattle.query_command.proofs.Locals.{valid_read}
use Rattle.query_command.proofs.GroupFiles.{plain_file, group_file, generated_ok, generated_err}
use Rattle.query_command.proofs.generated_query.query_generated.Goals as goal

pub returns-in-Err : goal.returns-in-Err
returns-in-Err g c =
    sums.Plain (counts_none _ _ c.args.persons c.args.query.now _ (faults.Query c.in-Err.fault) c.requires.none (c.in-Err.ensures.err, c.requires.none) (λ triples config q. tt) tt tt
    (reads_as _ _ _ _ _ err_same (ap Err) c.in-Err.ensures.reads))

pub returns-in_default : goal.returns-in_default
returns-in_default g c =
    sums.Plain (counts_none _ _ c.args.persons c.args.query.now _ (faults.Data data_faults.OutOfMemory) c.requires.none (refl, c.requires.none) (λ triples config q. tt) tt tt
    (reads_as _ _ _ _ _ (λ e. absurd (ok_not_err e)) (λ e. absurd (memory_not_file e)) c.in-Ok.ensures.reads))

pub returns-in_default-generated_server : goal.returns-in_default-generated_server
returns-in_default-generated_server g c =
    sums.Plain (counts_none _ _ c.args.persons c.args.query.now _ (faults.Data data_faults.OutOfMemory) c.requires.none (refl, c.requires.none) (λ triples config q. tt) tt tt
    (reads_as _ _ _ _ _ (λ e. absurd (ok_not_err e)) (λ e. absurd (memory_not_file e)) c.in-Ok.ensures.reads))

pub returns-in-Plain : goal.returns-in-Plain
returns-in-Plain g c =
    let server = c.in-Ok-generated_server.server in
    let starts = c.in-Ok-generated_server.ensures in
    let q = c.in-Plain.query in
    let read = plain_file grammars.Groups _ c.args.query.now c.in-Ok.query q c.in-Plain.is c.in-Ok.ensures.ok in
    let valid = valid_read q _ c.patterns-patterns.ensures.value c.patterns-patterns.ensures.valid in
    let one = c.served_is_one.ensures in
    let e = c.ask_generated.ensures in
    by_called (CalledGenerated server c.args.persons q c.ask_generated.new.inside) (λ (result : Result Counts AnswerFault). sums.GeneratedAsked (g.F.Shelf.state c.args.shelf.now) (g.F.Shelf.state c.read_query.new.shelf) c.ask_generated.new.inside c.args.persons c.args.query.now result) c.ask_generated.result _ c.answered.ensures.ok c.answered.ensures.err
    (record { counts = e.counts; answers = e.answers; cause = e.cause; sent = e.sent; requested = e.requested; replied = e.replied; ends = e.ends; honest = e.honest })
    (λ counts k. sums.Plain (asks_generated _ _ c.args.persons c.args.query.now _ (Ok counts)
    (generated_answers _ c.args.persons _ _ q read counts k.counts k.answers)
    tt
    (generated_sent _ c.args.persons _ _ server starts q read one k.sent)
    (generated_requested _ c.args.persons _ _ server starts q read one k.requested)
    (generated_replied _ c.args.persons _ _ server starts q read one counts k.replied)
    (λ files is triples q serves holds. tt)
    tt
    (generated_honest c.args.persons _ server starts k.honest)
    (reads_as _ _ _ _ _ ok_not_err (λ e. absurd e) c.in-Ok.ensures.reads)))
    (λ fault k. sums.Plain (asks_generated _ _ c.args.persons c.args.query.now _ (Err (faults.Client fault)) tt
    (generated_fault _ c.args.persons _ _ q read fault k.cause)
    (generated_sent _ c.args.persons _ _ server starts q read one k.sent)
    (generated_requested _ c.args.persons _ _ server starts q read one k.requested)
    tt
    (generated_ends _ c.args.persons _ c.ask_generated.new.inside server starts q read one c.commands_keep_limits.ensures.generated c.commands_keep_limits.ensures.queries c.requires.most valid fault k.ends)
    (generated_planned _ c.args.persons _ _ q read c.commands_keep_limits.ensures.generated c.commands_keep_limits.ensures.queries c.requires.most valid server starts fault k.honest k.ends)
    (generated_honest c.args.persons _ server starts k.honest)
    (reads_as _ _ _ _ _ ok_not_err (λ e. absurd e) c.in-Ok.ensures.reads)))

pub returns : goal.returns
returns g c =
    let q = c.in-Groups.query in
    let read = group_file grammars.Groups _ _ refl c.args.query.now c.in-Ok.query q c.in-Groups.is c.in-Ok.ensures.ok in
    by_called (λ (came : Result Counts ClientFault). AsksGeneratedOver c.in-Ok-generated_server.server c.args.persons q came c.count_groups.new.inside)
    (λ (result : Result Counts AnswerFault). sums.GeneratedAsked (g.F.Shelf.state c.args.shelf.now) (g.F.Shelf.state c.read_query.new.shelf) c.count_groups.new.inside c.args.persons c.args.query.now result) c.count_groups.result _ c.answered-in-Groups.ensures.ok c.answered-in-Groups.ensures.err
    c.count_groups.ensures
    (λ counts k. sums.Groups q (generated_ok _ _ c.args.persons c.args.query.now _ c.in-Ok-generated_server.server c.in-Ok-generated_server.ensures q read counts k
    (reads_as _ _ _ _ _ ok_not_err (λ e. absurd e) c.in-Ok.ensures.reads)))
    (λ fault k. sums.Groups q (generated_err _ _ c.args.persons c.args.query.now _ c.in-Ok-generated_server.server c.in-Ok-generated_server.ensures q read c.commands_keep_limits.ensures.generated c.commands_keep_limits.ensures.groups c.requires.most fault k
    (reads_as _ _ _ _ _ ok_not_err (λ e. absurd e) c.in-Ok.ensures.reads)))
