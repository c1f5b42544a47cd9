-- Which statuses come of queries with groups in one process, and where a query is refused.
use Rattle.std.proofs.Common.{ℕ, ◌≡◌, ◌⊎◌, ◌<◌, ◌^◌, inl, inr, List, Option, Some, None, Result, Ok, Err, codes, refl, sym, ap, subst, arith}
use Rattle.rdf_terms.specs.declared.term.Triple.{Triple}
use Rattle.tpf_base.specs.Addresses.{Address}
use Rattle.tpf_base.specs.Causes.{Rose}
use Rattle.tpf_base.specs.Outside.{ShelfState}
use Rattle.tpf_base.specs.Wrote.{SinkState}
use Rattle.tpf_base.specs.declared.fault.Fault.{Fault}
use Rattle.tpf_base.specs.declared.fault.Fault.TheVariants as sinks
use Rattle.template_fill.specs.Metadata.{Config}
use Rattle.triple_table.specs.declared.choice.Choice.TheVariants.{DefaultGraph}
use Rattle.triple_table.specs.Chosen.{chosen}
use Rattle.triple_table.proofs.ServedData.{served_one}
use Rattle.generated_data.specs.Generated.{generated}
use Rattle.group_query.specs.Trees.{GroupData}
use Rattle.group_faults.specs.declared.fault.GroupWhy.{GroupWhy}
use Rattle.tpf_client.specs.declared.options.Options.{Options}
use Rattle.tpf_client.specs.declared.options.Report.{Report}
use Rattle.tpf_client.specs.declared.fault.ClientFault.{ClientFault}
use Rattle.data_files.specs.declared.query.Grammar.{Grammar}
use Rattle.data_files.specs.declared.query.Grammar.TheVariants as grammars
use Rattle.data_files.specs.declared.fault.DataFault.{DataFault}
use Rattle.data_files.specs.declared.fault.DataFault.TheVariants as data_faults
use Rattle.data_files.specs.declared.fault.QueryFileFault.{QueryFileFault}
use Rattle.data_files.specs.declared.fault.QueryFileFault.TheVariants as query_faults
use Rattle.data_files.specs.Data.{Files, IfTold, served}
use Rattle.data_files.specs.Queries.{HasQueryFault, reads_groups, refused}
use Rattle.data_files.specs.Causes.{DataCause, QueryCause, QueryDecides}
use Rattle.data_files.proofs.Outcomes.{one_outcome, one_query}
use Rattle.data_servers.specs.Servers.{serving}
use Rattle.query_command.specs.Blocks.{grammar_of}
use Rattle.answer_faults.specs.declared.fault.AnswerFault.{AnswerFault}
use Rattle.answer_faults.specs.declared.fault.AnswerFault.TheVariants as answers
use Rattle.answer_faults.specs.declared.fault.Counts.{Counts}
use Rattle.query_command.specs.Generated.{usual_options, usual_config}
use Rattle.query_command.specs.Loops.{LocalView, local_config}
use Rattle.query_command.specs.Groups.{group_plan_of, group_offer_of, MayEndGroup, FileAsked, ServerAsked, GeneratedAsked, Plain, Groups}
use Rattle.query_command.specs.Servers.{ServersAsked}
use Rattle.command_words.specs.Commands.{Command, Federated, local, query, federate, serve, make}
use Rattle.command_endings.specs.Endings.{EndOfRun, data_status, query_status, client_status, fault_status, answer_status, counted_status, Says}
use Rattle.tpf_cli.specs.Ranges.{IsInRange}
use Rattle.tpf_cli.specs.Runs.{Around, WritesNumbers, CountsFile, IsRead, GivesEnd, DoesOf, unwritten, wire_inside, options_of, view_of}
use Rattle.tpf_cli.specs.Promises.{KeepsGroupTable, KeepsGroupTableOf, OfGroupFiles, OfGroupGenerated, RefusesBy, RefusesQuery, RefusesOf}
use Rattle.query_command.proofs.Locals.{same_data}
use Rattle.command_endings.proofs.Statuses.{not_four}
use Rattle.tpf_cli.proofs.Tables.{done_table, memory_table, data_table, query_table, client_table, cut_table}
use Rattle.tpf_cli.proofs.Grouped.{no_groups, file_gives, server_gives}
use Rattle.tpf_cli.proofs.Ended.{budget_small, of_run}

-- ---- the table

pub same_group : (one other : GroupData) → reads_groups one ≡ reads_groups other → one ≡ other
same_group one other e = cc

-- what is said of some data, configuration and query is said of equal ones
pub carried : (P : List Triple → Config → GroupData → Type 0) (triples others : List Triple) → triples ≡ others → (config other : Config) → config ≡ other → (g h : GroupData) → g ≡ h → P triples config g → P others other h
carried P triples others same_triples config other same_config g h same p =
    subst (λ (x : GroupData). P others other x) same (subst (λ (c : Config). P others c g) same_config (subst (λ (ts : List Triple). P ts config g) same_triples p))

module _ (a : Around) where
  module _ (view : LocalView) where
    group_file : (answer : Result Report AnswerFault) → view.options.budget < 2 ^ 63 → FileAsked a.shelf a.shelf' a.out a.out' (wire_inside a.inside') view answer
        → OfGroupFiles a.shelf.told view (λ triples g. KeepsGroupTable view.fail_every view.options triples (local_config view.options view.page_size) g (answer_status answer))
    group_file (Ok report) small h = λ files is triples g serves holds. done_table view.fail_every view.options (group_offer_of triples (local_config view.options view.page_size) g) (group_plan_of triples (local_config view.options view.page_size) g)
    group_file (Err (answers.Data fault)) small h = λ files is triples g serves holds. data_table view.fail_every view.options (group_offer_of triples (local_config view.options view.page_size) g) (group_plan_of triples (local_config view.options view.page_size) g) fault
    group_file (Err (answers.Query fault)) small h = λ files is triples g serves holds. query_table view.fail_every view.options (group_offer_of triples (local_config view.options view.page_size) g) (group_plan_of triples (local_config view.options view.page_size) g) fault
    group_file (Err (answers.Client fault)) small (Plain h) = λ files is triples g serves holds. absurd (no_groups (grammar_of view.options) a.shelf.told view.query h.cause.0.q h.cause.0.is_read files is g holds)
    group_file (Err (answers.Client fault)) small (Groups own h) = λ files is triples g serves holds.
        let l = h.ends small in
        let there = one_outcome files view.name view.choice (codes "localhost") (served (serving l.server).data_set) (served triples) (l.starts.data_set.tells files is) serves in
        let asked = one_query (grammar_of view.options) files view.query (reads_groups own) (reads_groups g) (h.is_read.tells files is) holds in
        client_table view.fail_every view.options (group_offer_of triples (local_config view.options view.page_size) g) (group_plan_of triples (local_config view.options view.page_size) g) fault
        (carried (λ (ts : List Triple) (c : Config) (x : GroupData). MayEndGroup view.fail_every view.options ts c x fault) (serving l.server).data_set triples (same_data (serving l.server).data_set triples there) (serving l.server).config (local_config view.options view.page_size) l.starts.config_is own g (same_group own g asked) l.loops.says)

  module _ (persons : ℕ) (name : List ℕ) where
    group_counted : (fault : AnswerFault) → GeneratedAsked a.shelf a.shelf' (wire_inside a.inside') persons name (Err fault)
        → OfGroupGenerated a.shelf.told persons name (λ triples g. KeepsGroupTable 0 usual_options triples usual_config g (fault_status fault))
    group_counted (answers.Data fault) h = λ files is triples g serves holds. data_table 0 usual_options (group_offer_of triples usual_config g) (group_plan_of triples usual_config g) fault
    group_counted (answers.Query fault) h = λ files is triples g serves holds. query_table 0 usual_options (group_offer_of triples usual_config g) (group_plan_of triples usual_config g) fault
    group_counted (answers.Client fault) (Plain h) = λ files is triples g serves holds. absurd (no_groups grammars.Groups a.shelf.told name h.cause.1.loops.says.q h.cause.1.loops.says.is_read files is g holds)
    group_counted (answers.Client fault) (Groups own h) = λ files is triples g serves holds.
        let l = h.ends in
        let there = served_one (codes "localhost") (chosen DefaultGraph (generated persons)) (serving l.server).data_set triples l.starts.data_set serves in
        let asked = one_query grammars.Groups files name (reads_groups own) (reads_groups g) (h.is_read.tells files is) holds in
        client_table 0 usual_options (group_offer_of triples usual_config g) (group_plan_of triples usual_config g) fault
        (carried (λ (ts : List Triple) (c : Config) (x : GroupData). MayEndGroup 0 usual_options ts c x fault) (serving l.server).data_set triples there (serving l.server).config usual_config l.starts.config_is own g (same_group own g asked) l.loops.says)

    group_numbers : (came : Result Counts AnswerFault) (result : Result (Unit {0}) AnswerFault) → WritesNumbers a.out a.out' came result → GeneratedAsked a.shelf a.shelf' (wire_inside a.inside') persons name came
        → OfGroupGenerated a.shelf.told persons name (λ triples g. KeepsGroupTable 0 usual_options triples usual_config g (counted_status result))
    group_numbers came (Ok nothing) line asks = λ files is triples g serves holds. done_table 0 usual_options (group_offer_of triples usual_config g) (group_plan_of triples usual_config g)
    group_numbers (Ok counts) (Err fault) line asks = λ files is triples g serves holds.
        subst (λ (f : AnswerFault). KeepsGroupTable 0 usual_options triples usual_config g (fault_status f)) (sym line.is) (cut_table 0 usual_options (group_offer_of triples usual_config g) (group_plan_of triples usual_config g) line.cause)
    group_numbers (Err cause) (Err fault) line asks = λ files is triples g serves holds.
        subst (λ (f : AnswerFault). KeepsGroupTable 0 usual_options triples usual_config g (fault_status f)) line.0 (group_counted cause asks files is triples g serves holds)

  memory_groups : (command : Option Command) → KeepsGroupTableOf a command 8
  memory_groups None = tt
  memory_groups (Some (local name query_name choice page client seed fail_every)) = λ files is triples g serves holds. memory_table fail_every (options_of client) (group_offer_of triples (local_config (options_of client) page) g) (group_plan_of triples (local_config (options_of client) page) g)
  memory_groups (Some (query url query_name client)) = tt
  memory_groups (Some (federate several)) = tt
  memory_groups (Some (serve name base choice page stop_after reload rows)) = tt
  memory_groups (Some (make count None)) = tt
  memory_groups (Some (make count (Some name))) = λ files is triples g serves holds. memory_table 0 usual_options (group_offer_of triples usual_config g) (group_plan_of triples usual_config g)

  pub run_group_table : (command : Option Command) → ((c : Command) → command ≡ Some c → IsInRange c) → (end : EndOfRun) (result : ℕ) (err err' : SinkState) → DoesOf a command end → Says result end err err' → KeepsGroupTableOf a command result
  run_group_table = of_run a (KeepsGroupTableOf a) tt memory_groups (record {
    of_local = λ name query_name choice page client seed fail_every data_name asked answer h r. group_file (view_of name query_name choice page client seed fail_every) answer (budget_small client.budget r.2.budget) h;
    of_query = λ url query_name client data_name asked answer h r. tt;
    of_federate = λ several data_name asked answer h r. tt;
    of_serve = λ name base choice page stop_after reload rows file service h r. tt;
    of_made = λ count written h r. tt;
    of_counted = λ count name asked result h r. group_numbers count name h.came result h.line h.asks;
  })

-- ---- refused queries

-- what a fault shows of the files
abbrev Shows : Grammar → ShelfState → ShelfState → List ℕ → AnswerFault → Type 0
Shows grammar shelf shelf' name (answers.Data fault) = fault ≡ data_faults.File → Rose shelf.faults shelf'.faults
Shows grammar shelf shelf' name (answers.Query fault) = QueryCause grammar shelf shelf' name fault
Shows grammar shelf shelf' name (answers.Client fault) = Unit {0}

-- a file with a fault is not read
not_read : (at : ℕ) (why : GroupWhy) → IsRead (refused at why) → ⊥
not_read at why (inl q) = let e = q.1 in cc
not_read at why (inr g) = let e = g.1 in cc

module _ (grammar : Grammar) (shelf shelf' : ShelfState) (name : List ℕ) where
  abbrev Faulty : Type 0
  Faulty = IfTold shelf.told (λ files. (at : ℕ) × (why : GroupWhy) × HasQueryFault grammar files name at why)

  four_of_data : (fault : DataFault) → data_status fault ≡ 4 → Faulty
  four_of_data data_faults.TooLong e = absurd (omega (arith, e))
  four_of_data (data_faults.Bad line why) e = absurd (omega (arith, e))
  four_of_data (data_faults.GenidClash label) e = absurd (omega (arith, e))
  four_of_data data_faults.TooMany e = absurd (omega (arith, e))
  four_of_data data_faults.File e = absurd (omega (arith, e))
  four_of_data data_faults.OutOfMemory e = absurd (omega (arith, e))

  four_of_client : (fault : ClientFault) → client_status fault ≡ 4 → Faulty
  four_of_client fault e = absurd (not_four fault e)

  four_of : (fault : AnswerFault) → Shows grammar shelf shelf' name fault → fault_status fault ≡ 4 → Faulty
  four_of (answers.Data fault) h e = four_of_data fault e
  four_of (answers.Query (query_faults.Bad at why)) h e = λ files is. (at, why, h files is)
  four_of (answers.Query query_faults.File) h e = absurd (omega (arith, e))
  four_of (answers.Query query_faults.OutOfMemory) h e = absurd (omega (arith, e))
  four_of (answers.Client fault) h e = four_of_client fault e

  -- a query with a fault
  abbrev IsRefused : ℕ → Type 0
  IsRefused status = (status ≡ 3) ⊎ ((status ≡ 4) ⊎ (status ≡ 8))

  refused_data : (fault : DataFault) → (fault ≡ data_faults.File → ⊥) → IsRefused (data_status fault)
  refused_data data_faults.TooLong file = inl refl
  refused_data (data_faults.Bad line why) file = inl refl
  refused_data (data_faults.GenidClash label) file = inl refl
  refused_data data_faults.TooMany file = inl refl
  refused_data data_faults.File file = absurd (file refl)
  refused_data data_faults.OutOfMemory file = inr (inr refl)

  refused_of : (X : Type 0) (fault : AnswerFault) → Shows grammar shelf shelf' name fault → QueryDecides grammar shelf shelf' name (λ outcome. GivesEnd {X = X} outcome (Err fault)) → ¬ (Rose shelf.faults shelf'.faults)
      → IfTold shelf.told (λ files. (at : ℕ) (why : GroupWhy) → HasQueryFault grammar files name at why → IsRefused (fault_status fault))
  refused_of X (answers.Data fault) h gives quiet = λ files is at why bad. refused_data fault (λ e. quiet (h e))
  refused_of X (answers.Query (query_faults.Bad at why)) h gives quiet = λ files is place kind bad. inr (inl refl)
  refused_of X (answers.Query query_faults.File) h gives quiet = absurd (quiet h)
  refused_of X (answers.Query query_faults.OutOfMemory) h gives quiet = λ files is at why bad. inr (inr refl)
  refused_of X (answers.Client fault) h gives quiet = λ files is at why bad. absurd (not_read at why (gives quiet files is (refused at why) bad))

  fault_refuses : (X : Type 0) (fault : AnswerFault) → Shows grammar shelf shelf' name fault → QueryDecides grammar shelf shelf' name (λ outcome. GivesEnd {X = X} outcome (Err fault)) → RefusesQuery grammar shelf shelf' name (fault_status fault)
  fault_refuses X fault h gives = record { four = four_of fault h; refused = refused_of X fault h gives }

  done_refuses : {X : Type 0} (answer : X) → QueryDecides grammar shelf shelf' name (λ outcome. GivesEnd outcome (Ok answer)) → RefusesQuery grammar shelf shelf' name 0
  done_refuses answer gives = record {
    four = λ e. absurd (omega (arith, e));
    refused = λ quiet files is at why bad. absurd (not_read at why (gives quiet files is (refused at why) bad));
  }

  memory_refuses : RefusesQuery grammar shelf shelf' name 8
  memory_refuses = record { four = λ e. absurd (omega (arith, e)); refused = λ quiet files is at why bad. inr (inr refl) }

module _ (a : Around) where
  file_shows : (view : LocalView) (fault : AnswerFault) → FileAsked a.shelf a.shelf' a.out a.out' (wire_inside a.inside') view (Err fault) → Shows (grammar_of view.options) a.shelf a.shelf' view.query fault
  file_shows view (answers.Data fault) (Plain h) = λ e. subst (λ (f : DataFault). DataCause a.shelf a.shelf' view.name view.choice (codes "localhost") f) e h.cause.0
  file_shows view (answers.Query fault) (Plain h) = h.cause.0
  file_shows view (answers.Client fault) (Plain h) = tt
  file_shows view (answers.Data fault) (Groups g h) = absurd h.cause
  file_shows view (answers.Query fault) (Groups g h) = absurd h.cause
  file_shows view (answers.Client fault) (Groups g h) = tt

  refuses_file : (view : LocalView) (answer : Result Report AnswerFault) → FileAsked a.shelf a.shelf' a.out a.out' (wire_inside a.inside') view answer → RefusesQuery (grammar_of view.options) a.shelf a.shelf' view.query (answer_status answer)
  refuses_file view (Ok report) h = done_refuses (grammar_of view.options) a.shelf a.shelf' view.query report (file_gives a.shelf a.shelf' a.out a.out' (wire_inside a.inside') view (Ok report) h)
  refuses_file view (Err fault) h = fault_refuses (grammar_of view.options) a.shelf a.shelf' view.query Report fault (file_shows view fault h) (file_gives a.shelf a.shelf' a.out a.out' (wire_inside a.inside') view (Err fault) h)

  module _ (name : List ℕ) (url : Address) (options : Options) where
    server_shows : (fault : AnswerFault) → ServerAsked a.shelf a.shelf' a.allows a.wire a.wire' a.out a.out' name url options (Err fault) → Shows (grammar_of options) a.shelf a.shelf' name fault
    server_shows (answers.Data fault) (Plain h) = absurd h.cause
    server_shows (answers.Query fault) (Plain h) = h.cause.0
    server_shows (answers.Client fault) (Plain h) = tt
    server_shows (answers.Data fault) (Groups g h) = absurd h.cause
    server_shows (answers.Query fault) (Groups g h) = absurd h.cause
    server_shows (answers.Client fault) (Groups g h) = tt

    refuses_server : (answer : Result Report AnswerFault) → ServerAsked a.shelf a.shelf' a.allows a.wire a.wire' a.out a.out' name url options answer → RefusesQuery (grammar_of options) a.shelf a.shelf' name (answer_status answer)
    refuses_server (Ok report) h = done_refuses (grammar_of options) a.shelf a.shelf' name report (server_gives a.shelf a.shelf' name a.allows a.wire a.wire' a.out a.out' url options (Ok report) h)
    refuses_server (Err fault) h = fault_refuses (grammar_of options) a.shelf a.shelf' name Report fault (server_shows fault h) (server_gives a.shelf a.shelf' name a.allows a.wire a.wire' a.out a.out' url options (Err fault) h)

  module _ (persons : ℕ) (name : List ℕ) where
    generated_shows : (fault : AnswerFault) → GeneratedAsked a.shelf a.shelf' (wire_inside a.inside') persons name (Err fault) → Shows grammars.Groups a.shelf a.shelf' name fault
    generated_shows (answers.Data fault) (Plain h) = λ e. let memory = h.cause.0 in cc
    generated_shows (answers.Query fault) (Plain h) = h.cause.0
    generated_shows (answers.Client fault) (Plain h) = tt
    generated_shows (answers.Data fault) (Groups g h) = absurd h.cause
    generated_shows (answers.Query fault) (Groups g h) = absurd h.cause
    generated_shows (answers.Client fault) (Groups g h) = tt

    unwritten_shows : (cause : Fault) → Shows grammars.Groups a.shelf a.shelf' name (unwritten cause)
    unwritten_shows sinks.Failed = tt
    unwritten_shows sinks.OutOfMemory = tt

    numbers_show : (came : Result Counts AnswerFault) (fault : AnswerFault) → WritesNumbers a.out a.out' came (Err fault) → GeneratedAsked a.shelf a.shelf' (wire_inside a.inside') persons name came → Shows grammars.Groups a.shelf a.shelf' name fault
    numbers_show (Ok counts) fault line asks = subst (λ (f : AnswerFault). Shows grammars.Groups a.shelf a.shelf' name f) (sym line.is) (unwritten_shows line.cause)
    numbers_show (Err cause) fault line asks = subst (λ (f : AnswerFault). Shows grammars.Groups a.shelf a.shelf' name f) line.0 (generated_shows cause asks)

    refuses_counted : (result : Result (Unit {0}) AnswerFault) → CountsFile a.shelf a.shelf' a.out a.out' (wire_inside a.inside') persons name result → RefusesQuery grammars.Groups a.shelf a.shelf' name (counted_status result)
    refuses_counted (Ok nothing) h = done_refuses grammars.Groups a.shelf a.shelf' name nothing h.exact
    refuses_counted (Err fault) h = fault_refuses grammars.Groups a.shelf a.shelf' name (Unit {0}) fault (numbers_show h.came fault h.line h.asks) h.exact

  -- ---- a query of several servers

  module _ (several : Federated) where
    abbrev HasFault : Files → ℕ → GroupWhy → Type 0
    HasFault files at why = HasQueryFault grammars.Patterns files several.query at why

    four_of_patterns : (fault : QueryFileFault) → QueryCause grammars.Patterns a.shelf a.shelf' several.query fault → query_status fault ≡ 4 → IfTold a.shelf.told (λ files. (at : ℕ) × (why : GroupWhy) × HasFault files at why)
    four_of_patterns (query_faults.Bad at why) h e = λ files is. (at, why, h files is)
    four_of_patterns query_faults.File h e = absurd (omega (arith, e))
    four_of_patterns query_faults.OutOfMemory h e = absurd (omega (arith, e))

    refused_so : (fault : QueryFileFault) (at : ℕ) (why : GroupWhy) → (fault ≡ query_faults.Bad at why) ⊎ (fault ≡ query_faults.OutOfMemory) → (query_status fault ≡ 3) ⊎ ((query_status fault ≡ 4) ⊎ (query_status fault ≡ 8))
    refused_so fault at why (inl e) = inr (inl (ap query_status e))
    refused_so fault at why (inr e) = inr (inr (ap query_status e))

    refuses_servers : (answer : Result Report AnswerFault) → ServersAsked a.shelf a.shelf' a.allows a.wire a.wire' a.out a.out' several.query several.urls (options_of several.client) answer → RefusesBy a.shelf a.shelf' HasFault (answer_status answer)
    refuses_servers (Ok report) h = record { four = λ e. absurd (omega (arith, e)); refused = λ quiet files is at why bad. absurd (h.exact.refused quiet files is at why bad) }
    refuses_servers (Err (answers.Data fault)) h = absurd h.ends
    refuses_servers (Err (answers.Query fault)) h = record { four = four_of_patterns fault h.ends.0; refused = λ quiet files is at why bad. refused_so fault at why (h.exact.refused quiet files is at why bad) }
    refuses_servers (Err (answers.Client fault)) h = record { four = λ e. absurd (not_four fault e); refused = λ quiet files is at why bad. absurd (h.exact.refused quiet files is at why bad) }

    memory_refuses_servers : RefusesBy a.shelf a.shelf' HasFault 8
    memory_refuses_servers = record { four = λ e. absurd (omega (arith, e)); refused = λ quiet files is at why bad. inr (inr refl) }

  memory_refusal : (command : Option Command) → RefusesOf a command 8
  memory_refusal None = tt
  memory_refusal (Some (local name query_name choice page client seed fail_every)) = memory_refuses (grammar_of (options_of client)) a.shelf a.shelf' query_name
  memory_refusal (Some (query url query_name client)) = memory_refuses (grammar_of (options_of client)) a.shelf a.shelf' query_name
  memory_refusal (Some (federate several)) = memory_refuses_servers several
  memory_refusal (Some (serve name base choice page stop_after reload rows)) = tt
  memory_refusal (Some (make count None)) = tt
  memory_refusal (Some (make count (Some name))) = memory_refuses grammars.Groups a.shelf a.shelf' name

  pub run_refusal : (command : Option Command) → ((c : Command) → command ≡ Some c → IsInRange c) → (end : EndOfRun) (result : ℕ) (err err' : SinkState) → DoesOf a command end → Says result end err err' → RefusesOf a command result
  run_refusal = of_run a (RefusesOf a) tt memory_refusal (record {
    of_local = λ name query_name choice page client seed fail_every data_name asked answer h r. refuses_file (view_of name query_name choice page client seed fail_every) answer h;
    of_query = λ url query_name client data_name asked answer h r. refuses_server query_name url (options_of client) answer h;
    of_federate = λ several data_name asked answer h r. refuses_servers several answer h;
    of_serve = λ name base choice page stop_after reload rows file service h r. tt;
    of_made = λ count written h r. tt;
    of_counted = λ count name asked result h r. refuses_counted count name result h;
  })
