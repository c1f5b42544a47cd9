-- When a run over a query with groups succeeds.
use Rattle.std.proofs.Common.{ℕ, ◌≡◌, ◌<◌, ◌^◌, inl, inr, List, Option, Some, None, Result, Ok, Err, IfErr, codes, refl, sym, subst}
use Rattle.rdf_terms.specs.declared.term.Triple.{Triple}
use Rattle.tpf_base.specs.Addresses.{Address}
use Rattle.tpf_base.specs.Causes.{Rose}
use Rattle.tpf_base.specs.Wrote.{SinkState}
use Rattle.tpf_base.specs.declared.fault.Fault.{Fault}
use Rattle.tpf_base.specs.declared.fault.Fault.TheVariants as sinks
use Rattle.template_fill.specs.Metadata.{Config}
use Rattle.triple_table.specs.declared.choice.Choice.TheVariants.{DefaultGraph}
use Rattle.triple_table.specs.Chosen.{chosen}
use Rattle.triple_table.proofs.ServedData.{served_one}
use Rattle.generated_data.specs.Generated.{generated}
use Rattle.group_query.specs.Trees.{GroupData}
use Rattle.tpf_client.specs.Offers.{Publisher}
use Rattle.tpf_client.specs.declared.options.Report.{Report}
use Rattle.tpf_client.specs.declared.fault.ClientFault.{ClientFault}
use Rattle.tpf_client.specs.declared.fault.ClientFault.TheVariants as clients
use Rattle.data_files.specs.declared.query.Grammar.TheVariants as grammars
use Rattle.data_files.specs.declared.fault.DataFault.{DataFault}
use Rattle.data_files.specs.declared.fault.QueryFileFault.{QueryFileFault}
use Rattle.data_files.specs.declared.fault.QueryFileFault.TheVariants as query_faults
use Rattle.data_files.specs.Data.{served}
use Rattle.data_files.specs.Queries.{reads_groups}
use Rattle.data_files.specs.Causes.{GivesQuery}
use Rattle.data_files.proofs.Outcomes.{one_outcome, one_query}
use Rattle.data_servers.specs.Servers.{serving}
use Rattle.query_command.specs.Blocks.{grammar_of}
use Rattle.answer_faults.specs.declared.fault.AnswerFault.{AnswerFault}
use Rattle.answer_faults.specs.declared.fault.AnswerFault.TheVariants as answers
use Rattle.answer_faults.specs.declared.fault.Counts.{Counts}
use Rattle.query_command.specs.Answers.{IsWanting}
use Rattle.query_command.specs.Generated.{usual_options, usual_config}
use Rattle.query_command.specs.Loops.{LocalView, local_config}
use Rattle.query_command.specs.Groups.{FileAsked, ServerAsked, GeneratedAsked, Plain, Groups, GroupIsWithin, FitsGroupOver}
use Rattle.query_command.proofs.Complete.{data_memory}
use Rattle.command_words.specs.declared.command.ClientWords.{ClientWords}
use Rattle.command_words.specs.Commands.{Command, local, query, federate, serve, make}
use Rattle.command_endings.specs.Endings.{EndOfRun, data_status, query_status, client_status, fault_status, answer_status, counted_status, Says}
use Rattle.command_endings.specs.Lines.{sizes_text}
use Rattle.tpf_cli.specs.Ranges.{IsInRange, IsTyped}
use Rattle.tpf_cli.specs.Runs.{Around, WritesNumbers, CutsLine, CountsFile, DoesOf, unwritten, wire_inside, options_of, view_of}
use Rattle.tpf_cli.specs.Promises.{OfGroupFiles, OfGroupGenerated, OfGroupQuery, IsDone, SucceedsGroupsOf}
use Rattle.tpf_cli.proofs.Grouped.{no_groups}
use Rattle.query_command.proofs.Locals.{same_data}
use Rattle.tpf_cli.proofs.Refused.{carried, same_group}
use Rattle.tpf_cli.proofs.Ended.{budget_small, of_run}

-- ---- want of memory

pub wanting_done : (fault : AnswerFault) → IsWanting fault → IsDone (fault_status fault)
wanting_done (answers.Data fault) h = subst (λ (f : DataFault). IsDone (data_status f)) (sym h) (inr refl)
wanting_done (answers.Query fault) h = subst (λ (f : QueryFileFault). IsDone (query_status f)) (sym h) (inr refl)
wanting_done (answers.Client fault) h = subst (λ (f : ClientFault). IsDone (client_status f)) (sym h) (inr refl)

client_done : (fault : ClientFault) → fault ≡ clients.OutOfMemory → IsDone (client_status fault)
client_done fault h = wanting_done (answers.Client fault) h

-- a query that is read has no fault
group_memory : (g : GroupData) (fault : QueryFileFault) → GivesQuery (reads_groups g) (Err fault) → fault ≡ query_faults.OutOfMemory
group_memory g (query_faults.Bad at why) h = absurd cc
group_memory g query_faults.File h = absurd h
group_memory g query_faults.OutOfMemory h = refl

module _ (a : Around) where
  -- a line that was not written is a fault of the output, or want of memory
  cut_done : (line : List ℕ) (fault : AnswerFault) → ¬ (Rose a.out.faults a.out'.faults) → CutsLine a.out a.out' line fault → IsDone (fault_status fault)
  cut_done line fault fine w = subst (λ (f : AnswerFault). IsDone (fault_status f)) (sym w.is) (by w.cause refl)
    where
      by : (cause : Fault) → w.cause ≡ cause → IsDone (fault_status (unwritten cause))
      by sinks.Failed e = absurd (fine (w.failed e))
      by sinks.OutOfMemory e = inr refl

  pub numbers_done : (came : Result Counts AnswerFault) (result : Result (Unit {0}) AnswerFault) → ¬ (Rose a.out.faults a.out'.faults) → WritesNumbers a.out a.out' came result → IfErr came IsWanting → IsDone (counted_status result)
  numbers_done came (Ok nothing) fine line wanting = inl refl
  numbers_done (Ok counts) (Err fault) fine line wanting = cut_done (sizes_text counts) fault fine line
  numbers_done (Err cause) (Err fault) fine line wanting = subst (λ (f : AnswerFault). IsDone (fault_status f)) line.0 (wanting_done cause wanting)

  -- ---- a query in one process

  module _ (view : LocalView) where
    done_file : (answer : Result Report AnswerFault) → view.options.budget < 2 ^ 63 → FileAsked a.shelf a.shelf' a.out a.out' (wire_inside a.inside') view answer → ¬ (Rose a.shelf.faults a.shelf'.faults) → ¬ (Rose a.out.faults a.out'.faults)
        → OfGroupFiles a.shelf.told view (λ triples g. GroupIsWithin view.fail_every view.options triples (local_config view.options view.page_size) g → IsDone (answer_status answer))
    done_file (Ok report) small h quiet fine = λ files is triples g serves holds within. inl refl
    done_file (Err (answers.Data fault)) small (Plain h) quiet fine = λ files is triples g serves holds within. wanting_done (answers.Data fault) (data_memory triples fault (h.data_exact quiet files is (served triples) serves))
    done_file (Err (answers.Query fault)) small (Plain h) quiet fine = λ files is triples g serves holds within. wanting_done (answers.Query fault) (group_memory g fault (h.query_exact quiet files is (reads_groups g) holds))
    done_file (Err (answers.Client fault)) small (Plain h) quiet fine = λ files is triples g serves holds within. absurd (no_groups (grammar_of view.options) a.shelf.told view.query h.cause.0.q h.cause.0.is_read files is g holds)
    done_file (Err (answers.Data fault)) small (Groups own h) quiet fine = absurd h.cause
    done_file (Err (answers.Query fault)) small (Groups own h) quiet fine = absurd h.cause
    done_file (Err (answers.Client fault)) small (Groups own h) quiet fine = λ files is triples g serves holds within.
        let l = h.complete small fine in
        let there = one_outcome files view.name view.choice (codes "localhost") (served (serving l.server).data_set) (served triples) (l.starts.data_set.tells files is) serves in
        let asked = one_query (grammar_of view.options) files view.query (reads_groups own) (reads_groups g) (h.is_read.tells files is) holds in
        client_done fault
        (carried (λ (ts : List Triple) (c : Config) (x : GroupData). GroupIsWithin view.fail_every view.options ts c x → fault ≡ clients.OutOfMemory) (serving l.server).data_set triples (same_data (serving l.server).data_set triples there) (serving l.server).config (local_config view.options view.page_size) l.starts.config_is own g (same_group own g asked) l.loops.says within)

  -- ---- a query over a wire

  done_server : (name : List ℕ) (url : Address) (client : ClientWords) (answer : Result Report AnswerFault) → IsTyped url → ServerAsked a.shelf a.shelf' a.allows a.wire a.wire' a.out a.out' name url (options_of client) answer → ¬ (Rose a.shelf.faults a.shelf'.faults) → ¬ (Rose a.out.faults a.out'.faults)
      → OfGroupQuery (grammar_of (options_of client)) a.shelf.told name (λ g. (p : Publisher) (version : ℕ) → FitsGroupOver a.allows g url (options_of client) p version a.wire a.wire' → IsDone (answer_status answer))
  done_server name url client (Ok report) typed h quiet fine = λ files is g holds p version fits. inl refl
  done_server name url client (Err (answers.Data fault)) typed (Plain h) quiet fine = absurd h.cause
  done_server name url client (Err (answers.Query fault)) typed (Plain h) quiet fine = λ files is g holds p version fits. wanting_done (answers.Query fault) (group_memory g fault (h.exact quiet files is (reads_groups g) holds))
  done_server name url client (Err (answers.Client fault)) typed (Plain h) quiet fine = λ files is g holds p version fits. absurd (no_groups (grammar_of (options_of client)) a.shelf.told name h.cause.q h.cause.is_read files is g holds)
  done_server name url client (Err (answers.Data fault)) typed (Groups own h) quiet fine = absurd h.cause
  done_server name url client (Err (answers.Query fault)) typed (Groups own h) quiet fine = absurd h.cause
  done_server name url client (Err (answers.Client fault)) typed (Groups own h) quiet fine = λ files is g holds p version fits.
      let asked = one_query (grammar_of (options_of client)) files name (reads_groups g) (reads_groups own) holds (h.is_read.tells files is) in
      client_done fault (h.complete typed fine p version (subst (λ (x : GroupData). FitsGroupOver a.allows x url (options_of client) p version a.wire a.wire') (same_group g own asked) fits))

  -- ---- generated data

  module _ (persons : ℕ) (name : List ℕ) where
    came_done : (came : Result Counts AnswerFault) → GeneratedAsked a.shelf a.shelf' (wire_inside a.inside') persons name came → ¬ (Rose a.shelf.faults a.shelf'.faults)
        → OfGroupGenerated a.shelf.told persons name (λ triples g. GroupIsWithin 0 usual_options triples usual_config g → IfErr came IsWanting)
    came_done (Ok counts) h quiet = λ files is triples g serves holds within. tt
    came_done (Err (answers.Data fault)) (Plain h) quiet = λ files is triples g serves holds within. h.cause.0
    came_done (Err (answers.Query fault)) (Plain h) quiet = λ files is triples g serves holds within. group_memory g fault (h.exact quiet files is (reads_groups g) holds)
    came_done (Err (answers.Client fault)) (Plain h) quiet = λ files is triples g serves holds within. absurd (no_groups grammars.Groups a.shelf.told name h.cause.1.loops.says.q h.cause.1.loops.says.is_read files is g holds)
    came_done (Err (answers.Data fault)) (Groups own h) quiet = absurd h.cause
    came_done (Err (answers.Query fault)) (Groups own h) quiet = absurd h.cause
    came_done (Err (answers.Client fault)) (Groups own h) quiet = λ files is triples g serves holds within.
        let l = h.complete in
        let there = served_one (codes "localhost") (chosen DefaultGraph (generated persons)) (serving l.server).data_set triples l.starts.data_set serves in
        let asked = one_query grammars.Groups files name (reads_groups own) (reads_groups g) (h.is_read.tells files is) holds in
        carried (λ (ts : List Triple) (c : Config) (x : GroupData). GroupIsWithin 0 usual_options ts c x → fault ≡ clients.OutOfMemory) (serving l.server).data_set triples there (serving l.server).config usual_config l.starts.config_is own g (same_group own g asked) l.loops.says within

    done_counted : (result : Result (Unit {0}) AnswerFault) → CountsFile a.shelf a.shelf' a.out a.out' (wire_inside a.inside') persons name result → ¬ (Rose a.shelf.faults a.shelf'.faults) → ¬ (Rose a.out.faults a.out'.faults)
        → OfGroupGenerated a.shelf.told persons name (λ triples g. GroupIsWithin 0 usual_options triples usual_config g → IsDone (counted_status result))
    done_counted result h quiet fine = λ files is triples g serves holds within. numbers_done h.came result fine h.line (came_done h.came h.asks quiet files is triples g serves holds within)

  -- ---- runs

  memory_done : (command : Option Command) → SucceedsGroupsOf a command 8
  memory_done None = tt
  memory_done (Some (local name query_name choice page client seed fail_every)) = λ quiet fine files is triples g serves holds within. inr refl
  memory_done (Some (query url query_name client)) = λ quiet fine files is g holds p version fits. inr refl
  memory_done (Some (federate several)) = tt
  memory_done (Some (serve name base choice page stop_after reload rows)) = tt
  memory_done (Some (make count None)) = tt
  memory_done (Some (make count (Some name))) = λ quiet fine files is triples g serves holds within. inr refl

  pub run_groups_done : (command : Option Command) → ((c : Command) → command ≡ Some c → IsInRange c) → (end : EndOfRun) (result : ℕ) (err err' : SinkState) → DoesOf a command end → Says result end err err' → SucceedsGroupsOf a command result
  run_groups_done = of_run a (SucceedsGroupsOf a) tt memory_done (record {
    of_local = λ name query_name choice page client seed fail_every data_name asked answer h r. done_file (view_of name query_name choice page client seed fail_every) answer (budget_small client.budget r.2.budget) h;
    of_query = λ url query_name client data_name asked answer h r. done_server query_name url client answer r.0 h;
    of_federate = λ several data_name asked answer h r. tt;
    of_serve = λ name base choice page stop_after reload rows file service h r. tt;
    of_made = λ count written h r. tt;
    of_counted = λ count name asked result h r. done_counted count name result h;
  })
