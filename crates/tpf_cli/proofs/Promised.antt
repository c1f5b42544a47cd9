-- Which status may come of a run, and when a run succeeds.
use Rattle.std.proofs.Common.{ℕ, ◌≡◌, ◌<◌, ◌^◌, inl, inr, List, Option, Some, None, Result, Ok, Err, IfErr, refl, sym, subst, arith}
use Rattle.std.specs.List.{AllByRecursion}
use Rattle.rdf_terms.specs.declared.term.Triple.{Triple}
use Rattle.tpf_base.specs.Addresses.{Address, authority_of}
use Rattle.tpf_base.specs.Causes.{Rose}
use Rattle.tpf_base.specs.Wrote.{SinkState}
use Rattle.tpf_base.specs.declared.fault.Fault.{Fault}
use Rattle.tpf_base.specs.declared.fault.Fault.TheVariants as sinks
use Rattle.template_fill.specs.Metadata.{Config}
use Rattle.triple_table.specs.declared.choice.Choice.{Choice}
use Rattle.bgp_core.specs.Queries.{QueryData}
use Rattle.tpf_client.specs.declared.options.Options.{Options}
use Rattle.tpf_client.specs.Offers.{Publisher, Offer}
use Rattle.tpf_client.specs.declared.options.Report.{Report}
use Rattle.data_files.specs.declared.query.Grammar.TheVariants as grammars
use Rattle.data_files.specs.declared.fault.DataFault.{DataFault}
use Rattle.data_files.specs.Data.{IfTold, Serves, served}
use Rattle.data_files.specs.Kept.{KeepsShelf, KeepsSink}
use Rattle.data_files.specs.KeptLaws.{shelf_same, reads_keep, sink_same}
use Rattle.query_command.specs.Blocks.{grammar_of}
use Rattle.answer_faults.specs.declared.fault.AnswerFault.{AnswerFault}
use Rattle.answer_faults.specs.declared.fault.AnswerFault.TheVariants as answers
use Rattle.query_command.specs.Files.{FailsByFile}
use Rattle.query_command.specs.Answers.{FitsOver, OfQuery, IsWanting}
use Rattle.query_command.specs.Groups.{FileAsked, ServerAsked, GeneratedAsked, Plain, Groups}
use Rattle.answer_faults.specs.declared.fault.Counts.{Counts}
use Rattle.query_command.specs.Generated.{usual_options, usual_config}
use Rattle.query_command.specs.Loops.{LocalView, local_config}
use Rattle.query_command.specs.Plans.{plan_of, offer_of, EndsCounted, MayFail, OfFiles, OfGenerated, PlanIsWithin}
use Rattle.query_command.proofs.Complete.{data_memory}
use Rattle.serve_command.specs.declared.fault.ServiceFault.{ServiceFault}
use Rattle.serve_command.specs.declared.fault.ServiceFault.TheVariants as services
use Rattle.serve_command.specs.Services.{ServesFile}
use Rattle.command_words.specs.declared.command.ClientWords.{ClientWords}
use Rattle.query_command.specs.Servers.{FitsServers, ServersAsked}
use Rattle.command_words.specs.Commands.{Command, Federated, local, query, federate, serve, make}
use Rattle.command_endings.specs.Endings.{EndOfRun, answered, data_status, fault_status, answer_status, service_status, made_status, counted_status, Says}
use Rattle.tpf_cli.specs.Ranges.{IsInRange, IsTyped}
use Rattle.tpf_cli.specs.Runs.{Around, Writes, WritesNumbers, CountsFile, DoesOf, wire_inside, options_of, view_of, config_by}
use Rattle.tpf_cli.proofs.Among.{run_among}
use Rattle.tpf_cli.proofs.Ended.{budget_small, OfEach, each_ending, of_run}
use Rattle.tpf_cli.proofs.Answered.{answered_requests}
use Rattle.command_endings.proofs.Statuses.{known_fault}
use Rattle.tpf_cli.proofs.Tables.{done_table, memory_table, data_table, query_table, client_table, cut_table}
use Rattle.tpf_cli.proofs.Grouped.{no_plain, file_reads, file_output, server_reads, server_output, generated_reads}
use Rattle.tpf_cli.proofs.Refused.{run_group_table, run_refusal}
use Rattle.tpf_cli.proofs.Completed.{wanting_done, numbers_done, run_groups_done}
use Rattle.tpf_cli.proofs.GroupRequests.{run_group_requests}
use Rattle.tpf_cli.specs.Promises.{Keeps, KeepsTable, KeepsTableOf, TellsOfPlan, TellsRequestsOf, IsDone, SucceedsOf}

-- ---- the table

module _ (n : ℕ) (options : Options) (triples : List Triple) (config : Config) (q : QueryData) where
  abbrev offered : Offer
  offered = offer_of options triples config q

  abbrev planned : List Address
  planned = plan_of options triples config q

  fault_table : (fault : AnswerFault) → MayFail n options triples config q fault → KeepsTable n options triples config q (fault_status fault)
  fault_table (answers.Data fault) h = data_table n options offered planned fault
  fault_table (answers.Query fault) h = query_table n options offered planned fault
  fault_table (answers.Client fault) h = client_table n options offered planned fault h

not_twelve : (answer : Result Report AnswerFault) → answer_status answer ≡ 12 → ⊥
not_twelve (Ok report) e = omega (arith, e)
not_twelve (Err fault) e = let known = known_fault fault in omega (arith, known.1, e)

module _ (a : Around) where
  -- ---- a query in one process

  file_table : (view : LocalView) (answer : Result Report AnswerFault) → view.options.budget < 2 ^ 63 → FileAsked a.shelf a.shelf' a.out a.out' (wire_inside a.inside') view answer → OfFiles a.shelf.told view (λ triples q. KeepsTable view.fail_every view.options triples (local_config view.options view.page_size) q (answer_status answer))
  file_table view (Ok report) small h = λ files is triples q serves holds. done_table view.fail_every view.options (offer_of view.options triples (local_config view.options view.page_size) q) (plan_of view.options triples (local_config view.options view.page_size) q)
  file_table view (Err fault) small (Groups g h) = λ files is triples q serves holds. absurd (no_plain (grammar_of view.options) a.shelf.told view.query g h.is_read files is q holds)
  file_table view (Err fault) small (Plain h) = λ files is triples q serves holds. fault_table view.fail_every view.options triples (local_config view.options view.page_size) q fault (h.ends small files is triples q serves holds)

  file_succeeds : (view : LocalView) (answer : Result Report AnswerFault) → view.options.budget < 2 ^ 63 → FileAsked a.shelf a.shelf' a.out a.out' (wire_inside a.inside') view answer → ¬ (Rose a.shelf.faults a.shelf'.faults) → ¬ (Rose a.out.faults a.out'.faults)
      → OfFiles a.shelf.told view (λ triples q. PlanIsWithin view.fail_every view.options triples (local_config view.options view.page_size) q → IsDone (answer_status answer))
  file_succeeds view (Ok report) small h quiet fine = λ files is triples q serves holds within. inl refl
  file_succeeds view (Err fault) small (Groups g h) quiet fine = λ files is triples q serves holds within. absurd (no_plain (grammar_of view.options) a.shelf.told view.query g h.is_read files is q holds)
  file_succeeds view (Err fault) small (Plain h) quiet fine = λ files is triples q serves holds within. wanting_done fault (h.complete quiet fine small files is triples q serves holds within)

  numbers_table : (persons : ℕ) (name : List ℕ) (came : Result Counts AnswerFault) (result : Result (Unit {0}) AnswerFault) → WritesNumbers a.out a.out' came result
      → OfGenerated a.shelf.told persons name (λ triples q. EndsCounted usual_options triples usual_config q came) → OfGenerated a.shelf.told persons name (λ triples q. KeepsTable 0 usual_options triples usual_config q (counted_status result))
  numbers_table persons name came (Ok nothing) line ends = λ files is triples q serves holds. done_table 0 usual_options (offer_of usual_options triples usual_config q) (plan_of usual_options triples usual_config q)
  numbers_table persons name (Ok counts) (Err fault) line ends = λ files is triples q serves holds. subst (λ (f : AnswerFault). KeepsTable 0 usual_options triples usual_config q (fault_status f)) (sym line.is) (cut_table 0 usual_options (offer_of usual_options triples usual_config q) (plan_of usual_options triples usual_config q) line.cause)
  numbers_table persons name (Err cause) (Err fault) line ends = λ files is triples q serves holds.
      subst (λ (f : AnswerFault). KeepsTable 0 usual_options triples usual_config q (fault_status f)) line.0 (fault_table 0 usual_options triples usual_config q cause (ends files is triples q serves holds))

  generated_table : (persons : ℕ) (name : List ℕ) (result : Result (Unit {0}) AnswerFault) → CountsFile a.shelf a.shelf' a.out a.out' (wire_inside a.inside') persons name result
      → OfGenerated a.shelf.told persons name (λ triples q. KeepsTable 0 usual_options triples usual_config q (counted_status result))
  generated_table persons name result h = numbers_table persons name h.came result h.line (by h.came h.asks)
    where
      by : (came : Result Counts AnswerFault) → GeneratedAsked a.shelf a.shelf' (wire_inside a.inside') persons name came → OfGenerated a.shelf.told persons name (λ triples q. EndsCounted usual_options triples usual_config q came)
      by came (Plain g) = g.ends
      by came (Groups g d) = λ files is triples q serves holds. absurd (no_plain grammars.Groups a.shelf.told name g d.is_read files is q holds)

  generated_succeeds : (persons : ℕ) (name : List ℕ) (result : Result (Unit {0}) AnswerFault) → CountsFile a.shelf a.shelf' a.out a.out' (wire_inside a.inside') persons name result
      → ¬ (Rose a.shelf.faults a.shelf'.faults) → ¬ (Rose a.out.faults a.out'.faults)
      → OfGenerated a.shelf.told persons name (λ triples q. PlanIsWithin 0 usual_options triples usual_config q → IsDone (counted_status result))
  generated_succeeds persons name result h quiet fine = λ files is triples q serves holds within. numbers_done a h.came result fine h.line (by h.came h.asks files is triples q serves holds within)
    where
      by : (came : Result Counts AnswerFault) → GeneratedAsked a.shelf a.shelf' (wire_inside a.inside') persons name came
          → OfGenerated a.shelf.told persons name (λ triples q. PlanIsWithin 0 usual_options triples usual_config q → IfErr came IsWanting)
      by came (Plain g) = g.complete quiet
      by came (Groups g d) = λ files is triples q serves holds within. absurd (no_plain grammars.Groups a.shelf.told name g d.is_read files is q holds)

  -- ---- the other commands

  server_succeeds : (name : List ℕ) (client : ClientWords) (answer : Result Report AnswerFault) (url : Address) → IsTyped url → ServerAsked a.shelf a.shelf' a.allows a.wire a.wire' a.out a.out' name url (options_of client) answer → ¬ (Rose a.shelf.faults a.shelf'.faults) → ¬ (Rose a.out.faults a.out'.faults)
      → OfQuery a.shelf.told name (λ q. (p : Publisher) (version : ℕ) → FitsOver a.allows q url (options_of client) p version a.wire a.wire' → IsDone (answer_status answer))
  server_succeeds name client (Ok report) url typed h quiet fine = λ files is q holds p version fits. inl refl
  server_succeeds name client (Err fault) url typed (Groups g h) quiet fine = λ files is q holds p version fits. absurd (no_plain (grammar_of (options_of client)) a.shelf.told name g h.is_read files is q holds)
  server_succeeds name client (Err fault) url typed (Plain h) quiet fine = λ files is q holds p version fits. wanting_done fault (h.complete typed quiet fine files is q holds p version fits)

  servers_succeed : (several : Federated) (answer : Result Report AnswerFault) → AllByRecursion IsTyped several.urls → ServersAsked a.shelf a.shelf' a.allows a.wire a.wire' a.out a.out' several.query several.urls (options_of several.client) answer → ¬ (Rose a.shelf.faults a.shelf'.faults) → ¬ (Rose a.out.faults a.out'.faults)
      → OfQuery a.shelf.told several.query (λ q. (publishers : List Publisher) (versions : List ℕ) → FitsServers a.allows q several.urls (options_of several.client) publishers versions a.wire a.wire' → IsDone (answer_status answer))
  servers_succeed several (Ok report) typed h quiet fine = λ files is q holds publishers versions fits. inl refl
  servers_succeed several (Err fault) typed h quiet fine = λ files is q holds publishers versions fits. wanting_done fault (h.complete typed quiet fine files is q holds publishers versions fits)

  service_succeeds : (name : List ℕ) (choice : Choice) (config : Config) (stop_after : Option ℕ) (result : Result ℕ ServiceFault) → ServesFile a.shelf a.shelf' a.wire a.wire' a.out a.out' name choice config stop_after result
      → ¬ (Rose a.shelf.faults a.shelf'.faults) → ¬ (Rose a.out.faults a.out'.faults) → ¬ (Rose a.wire.door.faults a.wire'.door.faults)
      → IfTold a.shelf.told (λ files. (triples : List Triple) → Serves files name choice (authority_of config.base) triples → IsDone (service_status result))
  service_succeeds name choice config stop_after (Ok connections) s quiet fine calm = λ files is triples serves. inl refl
  service_succeeds name choice config stop_after (Err (services.Data fault)) s quiet fine calm = λ files is triples serves.
      subst (λ (f : DataFault). IsDone (data_status f)) (sym (data_memory triples fault (s.exact quiet files is (served triples) serves))) (inr refl)
  service_succeeds name choice config stop_after (Err services.Wire) s quiet fine calm = λ files is triples serves. absurd (calm s.cause.0.door)
  service_succeeds name choice config stop_after (Err services.Sink) s quiet fine calm = λ files is triples serves. absurd (fine s.cause.0)
  service_succeeds name choice config stop_after (Err services.OutOfMemory) s quiet fine calm = λ files is triples serves. inr refl

  made_succeeds : (count : ℕ) (result : Result (Unit {0}) Fault) → Writes a.out a.out' count result → ¬ (Rose a.out.faults a.out'.faults) → IsDone (made_status result)
  made_succeeds count (Ok nothing) h fine = inl refl
  made_succeeds count (Err sinks.Failed) h fine = absurd (fine h.1)
  made_succeeds count (Err sinks.OutOfMemory) h fine = inr refl

  -- ---- want of memory

  memory_keeps : (command : Option Command) → KeepsTableOf a command 8
  memory_keeps None = tt
  memory_keeps (Some (local name query_name choice page client seed fail_every)) = λ files is triples q serves holds. memory_table fail_every (options_of client) (offer_of (options_of client) triples (local_config (options_of client) page) q) (plan_of (options_of client) triples (local_config (options_of client) page) q)
  memory_keeps (Some (query url query_name client)) = λ e. omega (arith, e)
  memory_keeps (Some (federate several)) = λ e. omega (arith, e)
  memory_keeps (Some (serve name base choice page stop_after reload rows)) = tt
  memory_keeps (Some (make count None)) = tt
  memory_keeps (Some (make count (Some name))) = λ files is triples q serves holds. memory_table 0 usual_options (offer_of usual_options triples usual_config q) (plan_of usual_options triples usual_config q)

  memory_succeeds : (command : Option Command) → SucceedsOf a command 8
  memory_succeeds None = tt
  memory_succeeds (Some (local name query_name choice page client seed fail_every)) = λ quiet fine files is triples q serves holds within. inr refl
  memory_succeeds (Some (query url query_name client)) = λ quiet fine files is q holds triples config fits. inr refl
  memory_succeeds (Some (federate several)) = λ quiet fine files is q holds publishers versions fits. inr refl
  memory_succeeds (Some (serve name base choice page stop_after reload rows)) = λ quiet fine calm files is triples serves. inr refl
  memory_succeeds (Some (make count None)) = λ fine. inr refl
  memory_succeeds (Some (make count (Some name))) = λ quiet fine files is triples q serves holds within. inr refl

  -- ---- runs

  run_table : (command : Option Command) → ((c : Command) → command ≡ Some c → IsInRange c) → (end : EndOfRun) (result : ℕ) (err err' : SinkState) → DoesOf a command end → Says result end err err' → KeepsTableOf a command result
  run_table = of_run a (KeepsTableOf a) tt memory_keeps (record {
    of_local = λ name query_name choice page client seed fail_every data_name asked answer h r. file_table (view_of name query_name choice page client seed fail_every) answer (budget_small client.budget r.2.budget) h;
    of_query = λ url query_name client data_name asked answer h r. not_twelve answer;
    of_federate = λ several data_name asked answer h r. not_twelve answer;
    of_serve = λ name base choice page stop_after reload rows file service h r. tt;
    of_made = λ count written h r. tt;
    of_counted = λ count name asked result h r. generated_table count name result h;
  })

  run_succeeds : (command : Option Command) → ((c : Command) → command ≡ Some c → IsInRange c) → (end : EndOfRun) (result : ℕ) (err err' : SinkState) → DoesOf a command end → Says result end err err' → SucceedsOf a command result
  run_succeeds = of_run a (SucceedsOf a) tt memory_succeeds (record {
    of_local = λ name query_name choice page client seed fail_every data_name asked answer h r. file_succeeds (view_of name query_name choice page client seed fail_every) answer (budget_small client.budget r.2.budget) h;
    of_query = λ url query_name client data_name asked answer h r. server_succeeds query_name client answer url r.0 h;
    of_federate = λ several data_name asked answer h r. servers_succeed several answer r.2 h;
    of_serve = λ name base choice page stop_after reload rows file service h r. service_succeeds name choice (config_by base page reload rows) stop_after service h;
    of_made = λ count written h r. made_succeeds count written h.3;
    of_counted = λ count name asked result h r. generated_succeeds count name result h;
  })

  -- ---- the requests that are told

  told_requests : (view : LocalView) (answer : Result Report AnswerFault) → view.options.budget < 2 ^ 63 → FileAsked a.shelf a.shelf' a.out a.out' (wire_inside a.inside') view answer → (data_name asked : List ℕ) (result : ℕ) (err err' : SinkState) → Says result (answered data_name asked answer) err err'
      → result ≡ 0 → TellsOfPlan a view err err'
  told_requests view (Ok report) small (Groups g h) data_name asked result err err' (inl s) zero_status = λ files is triples q serves holds. absurd (no_plain (grammar_of view.options) a.shelf.told view.query g h.is_read files is q holds)
  told_requests view (Ok report) small (Plain h) data_name asked result err err' (inl s) zero_status = λ files is triples q serves holds.
      record { requests = report.requests; rows = report.rows; counts = h.ends small files is triples q serves holds; told = s.1 }
  told_requests view (Ok report) small h data_name asked result err err' (inr s) zero_status = let eight = s.0 in absurd (omega (arith, eight, zero_status))
  told_requests view (Err fault) small h data_name asked result err err' (inl s) zero_status = let known = known_fault fault in let is = s.0 in absurd (omega (arith, known.0, is, zero_status))
  told_requests view (Err fault) small h data_name asked result err err' (inr s) zero_status = let eight = s.0 in absurd (omega (arith, eight, zero_status))

  run_requests : (command : Option Command) → ((c : Command) → command ≡ Some c → IsInRange c) → (end : EndOfRun) (result : ℕ) (err err' : SinkState) → DoesOf a command end → Says result end err err' → TellsRequestsOf a command result err err'
  run_requests command ranged end result err err' h s = answered_requests a (TellsOfPlan a) told_requests command ranged end result err err' h s

  -- ---- what is left of shelf and output

  shelf_each : OfEach a (λ command end. KeepsShelf a.shelf a.shelf')
  shelf_each = record {
    of_local = λ name query_name choice page client seed fail_every data_name asked answer h. (file_reads a.shelf a.shelf' a.out a.out' (wire_inside a.inside') (view_of name query_name choice page client seed fail_every) answer h).keeps;
    of_query = λ url query_name client data_name asked answer h. reads_keep query_name a.shelf a.shelf' (FailsByFile answer) (server_reads a.shelf a.shelf' query_name a.allows a.wire a.wire' a.out a.out' url (options_of client) answer h);
    of_federate = λ several data_name asked answer h. reads_keep several.query a.shelf a.shelf' (FailsByFile answer) h.reads;
    of_serve = λ name base choice page stop_after reload rows file service h. h.keeps;
    of_made = λ count written h. shelf_same a.shelf a.shelf' h.1;
    of_counted = λ count name asked result h. reads_keep name a.shelf a.shelf' (FailsByFile h.came) (generated_reads a.shelf a.shelf' name (wire_inside a.inside') count h.came h.asks);
  }

  output_each : OfEach a (λ command end. KeepsSink a.out a.out')
  output_each = record {
    of_local = λ name query_name choice page client seed fail_every data_name asked answer h. (file_output a.shelf a.shelf' a.out a.out' (wire_inside a.inside') (view_of name query_name choice page client seed fail_every) answer h).keeps;
    of_query = λ url query_name client data_name asked answer h. (server_output a.shelf a.shelf' query_name a.allows a.wire a.wire' a.out a.out' url (options_of client) answer h).keeps;
    of_federate = λ several data_name asked answer h. h.output.keeps;
    of_serve = λ name base choice page stop_after reload rows file service h. h.output;
    of_made = λ count written h. h.2;
    of_counted = λ count name asked result h. h.output;
  }

  run_shelf : (command : Option Command) (end : EndOfRun) → DoesOf a command end → KeepsShelf a.shelf a.shelf'
  run_shelf None end h = shelf_same a.shelf a.shelf' h.1.3
  run_shelf (Some command) end (inl h) = each_ending a (λ c e. KeepsShelf a.shelf a.shelf') shelf_each command end h
  run_shelf (Some command) end (inr h) = shelf_same a.shelf a.shelf' h.1.3

  run_output : (command : Option Command) (end : EndOfRun) → DoesOf a command end → KeepsSink a.out a.out'
  run_output None end h = sink_same a.out a.out' h.1.0
  run_output (Some command) end (inl h) = each_ending a (λ c e. KeepsSink a.out a.out') output_each command end h
  run_output (Some command) end (inr h) = sink_same a.out a.out' h.1.0

  pub run_keeps : (command : Option Command) → ((c : Command) → command ≡ Some c → IsInRange c) → (end : EndOfRun) (result : ℕ) (err err' : SinkState) → DoesOf a command end → Says result end err err' → KeepsSink err err' → Keeps a command result err err'
  run_keeps command ranged end result err err' does says error = record {
    ending = (end, does, says);
    among = run_among a command ranged end result err err' does says;
    table = run_table command ranged end result err err' does says;
    groups = run_group_table a command ranged end result err err' does says;
    refusal = run_refusal a command ranged end result err err' does says;
    requests = run_requests command ranged end result err err' does says;
    group_requests = run_group_requests a command ranged end result err err' does says;
    complete = run_succeeds command ranged end result err err' does says;
    groups_complete = run_groups_done a command ranged end result err err' does says;
    shelf = run_shelf command end does;
    output = run_output command end does;
    error = error;
  }
