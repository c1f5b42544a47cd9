-- What is said of the server is said of the file that it serves.
use Rattle.std.proofs.Common.{Result, Ok, Err, refl, ap, subst}
use Rattle.list_laws.proofs.Results.{ok_not_err, err_same}
use Rattle.template_fill.specs.Metadata.{Config}
use Rattle.tpf_base.specs.Addresses.{authority_of}
use Rattle.data_files.specs.declared.fault.DataFault.TheVariants as data_faults
use Rattle.data_files.specs.declared.query.Grammar.{Grammar}
use Rattle.data_files.specs.Causes.{DataCause, QueryCause}
use Rattle.data_files.specs.Queries.{IsOfGroupFile}
use Rattle.data_files.specs.KeptLaws.{reads_keep, sink_none}
use Rattle.data_servers.specs.Servers.{Starts, serving}
use Rattle.tpf_client.specs.declared.options.Report.{Report}
use Rattle.tpf_client.specs.declared.fault.ClientFault.{ClientFault}
use Rattle.answer_faults.specs.declared.fault.AnswerFault.{AnswerFault}
use Rattle.answer_faults.specs.declared.fault.AnswerFault.TheVariants as faults
use Rattle.query_command.specs.Blocks.{grammar_of}
use Rattle.query_command.specs.Loops.{local_view}
use Rattle.query_command.specs.Groups as sums
use Rattle.query_command.specs.Over.{AsksGroups}
use Rattle.query_command.proofs.Answered.{by_called}
use Rattle.query_command.proofs.Complete.{asks_none}
use Rattle.query_command.proofs.Locals.{valid_read, is_config, may_ask, query_from}
use Rattle.query_command.proofs.Plain.{CalledLocal, local_ok, local_err}
use Rattle.query_command.proofs.GroupFiles.{plain_file, group_file, file_ok, file_err}
use Rattle.query_command.proofs.Opening.{opens_two, asked_two, reads_none, reads_one, reads_both, reads_refused}
use Rattle.query_command.proofs.local_query.local.Goals as goal

pub returns-in_default : goal.returns-in_default
returns-in_default g c =
    sums.Plain (asks_none _ _ _ _ _ (local_view c.args.asked.now) (faults.Data data_faults.OutOfMemory) c.requires.none (tt, refl, c.requires.none) (λ triples config q. tt) (λ small. tt) tt (reads_none _ _ _)
    (record { keeps = sink_none _; spared = λ fine. tt }))

pub returns-in_default-config_of : goal.returns-in_default-config_of
returns-in_default-config_of g c =
    sums.Plain (asks_none _ _ _ _ _ (local_view c.args.asked.now) (faults.Data data_faults.OutOfMemory) c.requires.none (tt, refl, c.requires.none) (λ triples config q. tt) (λ small. tt) tt (reads_none _ _ _)
    (record { keeps = sink_none _; spared = λ fine. tt }))

pub returns-in-Err : goal.returns-in-Err
returns-in-Err g c =
    sums.Plain (asks_none _ _ _ _ _ (local_view c.args.asked.now) (faults.Data c.in-Err.fault) c.requires.none
    (subst (λ (config : Config). DataCause (g.F.Shelf.state c.args.shelf.now) (g.F.Shelf.state c.server_of_file.new.shelf) c.args.asked.now.name.now c.args.asked.now.choice.now (authority_of config.base) c.in-Err.fault) (is_config _ _ c.args.asked.now.options _ c.in-Ok-config_of.ensures c.in_blocks.ensures) c.in-Err.ensures.err, refl, c.requires.none)
    (λ triples config q. tt) (λ small. tt) tt
    (reads_one _ _ _ _ c.in-Err.fault _ err_same (ap Err) c.in-Err.ensures.reads)
    (record { keeps = sink_none _; spared = λ fine. tt }))

pub returns-in-Err-read_query : goal.returns-in-Err-read_query
returns-in-Err-read_query g c =
    let first = c.in-Ok-server_of_file.ensures.reads in
    sums.Plain (asks_none _ _ _ _ _ (local_view c.args.asked.now) (faults.Query c.in-Err-read_query.fault) c.requires.none (
      query_from (grammar_of c.args.asked.now.options) (g.F.Shelf.state c.args.shelf.now) (g.F.Shelf.state c.server_of_file.new.shelf) (g.F.Shelf.state c.read_query.new.shelf) (reads_keep _ _ _ _ first) c.args.asked.now.query.now c.in-Err-read_query.fault
          (subst (λ (grammar : Grammar). QueryCause grammar (g.F.Shelf.state c.server_of_file.new.shelf) (g.F.Shelf.state c.read_query.new.shelf) c.args.asked.now.query.now c.in-Err-read_query.fault) c.grammar_of.ensures c.in-Err-read_query.ensures.err),
      (
        (serving c.in-Ok-server_of_file.server).data_set,
        (subst (λ (config : Config). Starts (g.F.Shelf.state c.args.shelf.now).told c.args.asked.now.name.now c.args.asked.now.choice.now config (serving c.in-Ok-server_of_file.server)) (is_config _ _ c.args.asked.now.options _ c.in-Ok-config_of.ensures c.in_blocks.ensures) c.in-Ok-server_of_file.ensures.starts).data_set,
      ),
      refl,
      c.requires.none,
    )
    (λ triples config q. tt) (λ small. tt) tt
    (reads_refused _ _ _ _ _ _ first ok_not_err c.in-Err-read_query.fault _ err_same (ap Err) c.in-Err-read_query.ensures.reads)
    (record { keeps = sink_none _; spared = λ fine. tt }))

pub returns-in-Plain : goal.returns-in-Plain
returns-in-Plain g c =
    let view = local_view c.args.asked.now in
    let first = c.in-Ok-server_of_file.ensures.reads in
    let second = c.in-Ok-read_query.ensures.reads in
    let told = first.asks.told in
    let server = c.in-Ok-server_of_file.server in
    let starts = subst (λ (config : Config). Starts (g.F.Shelf.state c.args.shelf.now).told view.name view.choice config (serving server)) (is_config _ _ c.args.asked.now.options _ c.in-Ok-config_of.ensures c.in_blocks.ensures) c.in-Ok-server_of_file.ensures.starts in
    let out = (g.K.Sink.state c.args.out.now) in
    let out' = (g.K.Sink.state c.ask_server.new.out) in
    let q = c.in-Plain.query in
    let read = plain_file _ _ view.query c.in-Ok-read_query.query q c.in-Plain.is c.in-Ok-read_query.ensures.ok in
    let valid = valid_read q _ c.patterns-patterns.ensures.value c.patterns-patterns.ensures.valid in
    let e = c.ask_server.ensures in
    let asked = asked_two _ _ _ _ _ _ first ok_not_err second.asks in
    let opened = opens_two _ _ _ first.asks.opened second.asks.opened in
    by_called (CalledLocal server view q c.ask_server.new.inside out out') (λ (result : Result Report AnswerFault). sums.FileAsked (g.F.Shelf.state c.args.shelf.now) (g.F.Shelf.state c.read_query.new.shelf) out out' c.ask_server.new.inside view result) c.ask_server.result _ c.answered.ensures.ok c.answered.ensures.err
    (record { answers = e.answers; cause = e.cause; answer = e.answer; front = e.front; sent = e.sent; requested = e.requested; replied = e.replied; ends = e.ends; honest = e.honest; output = e.output; spared = e.spared })
    (λ report k. sums.Plain (local_ok _ _ _ told view server starts _ out out' q read c.commands_keep_limits.ensures.files c.commands_keep_limits.ensures.queries valid report k
    (reads_both _ _ _ _ _ _ first ok_not_err (Ok report) asked opened (λ e. absurd e) _ ok_not_err second)))
    (λ fault k. sums.Plain (local_err _ _ _ told view server starts _ out out' q read c.commands_keep_limits.ensures.files c.commands_keep_limits.ensures.queries valid fault k
    (reads_both _ _ _ _ _ _ first ok_not_err (Err (faults.Client fault)) asked opened (λ e. absurd e) _ ok_not_err second)))

pub returns : goal.returns
returns g c =
    let view = local_view c.args.asked.now in
    let first = c.in-Ok-server_of_file.ensures.reads in
    let second = c.in-Ok-read_query.ensures.reads in
    let server = c.in-Ok-server_of_file.server in
    let starts = subst (λ (config : Config). Starts (g.F.Shelf.state c.args.shelf.now).told view.name view.choice config (serving server)) (is_config _ _ c.args.asked.now.options _ c.in-Ok-config_of.ensures c.in_blocks.ensures) c.in-Ok-server_of_file.ensures.starts in
    let q = c.in-Groups.query in
    let read = subst (λ (grammar : Grammar). IsOfGroupFile grammar (g.F.Shelf.state c.args.shelf.now).told view.query q) c.grammar_of.ensures (group_file _ _ _ first.asks.told view.query c.in-Ok-read_query.query q c.in-Groups.is c.in-Ok-read_query.ensures.ok) in
    let asked = asked_two _ _ _ _ _ _ first ok_not_err second.asks in
    let opened = opens_two _ _ _ first.asks.opened second.asks.opened in
    by_called (λ (came : Result Report ClientFault). AsksGroups server view.seed view.fail_every view.options q came c.ask_groups.new.inside (g.K.Sink.state c.args.out.now) (g.K.Sink.state c.ask_groups.new.out))
    (λ (result : Result Report AnswerFault). sums.FileAsked (g.F.Shelf.state c.args.shelf.now) (g.F.Shelf.state c.read_query.new.shelf) (g.K.Sink.state c.args.out.now) (g.K.Sink.state c.ask_groups.new.out) c.ask_groups.new.inside view result) c.ask_groups.result _ c.answered-in-Groups.ensures.ok c.answered-in-Groups.ensures.err
    c.ask_groups.ensures
    (λ report k. sums.Groups q (file_ok _ _ view server starts _ _ _ q read c.commands_keep_limits.ensures.files c.commands_keep_limits.ensures.groups report k
    (reads_both _ _ _ _ _ _ first ok_not_err (Ok report) asked opened (λ e. absurd e) _ ok_not_err second)))
    (λ fault k. sums.Groups q (file_err _ _ view server starts _ _ _ q read c.commands_keep_limits.ensures.files c.commands_keep_limits.ensures.groups fault k
    (reads_both _ _ _ _ _ _ first ok_not_err (Err (faults.Client fault)) asked opened (λ e. absurd e) _ ok_not_err second)))

pub ask_server-requires : goal.ask_server-requires
ask_server-requires g c = may_ask _ _ _ _ _ _ _ c.in-Ok.ensures c.requires.bounds c.in-Ok-server_of_file.ensures.starts (is_config _ _ c.args.asked.now.options _ c.in-Ok-config_of.ensures c.in_blocks.ensures)

pub ask_groups-requires : goal.ask_groups-requires
ask_groups-requires g c = may_ask _ _ _ _ _ _ _ c.in-Ok.ensures c.requires.bounds c.in-Ok-server_of_file.ensures.starts (is_config _ _ c.args.asked.now.options _ c.in-Ok-config_of.ensures c.in_blocks.ensures)
