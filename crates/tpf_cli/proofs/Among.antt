-- The statuses with which a command may end.
use Rattle.std.proofs.Common.{ℕ, ◌≡◌, ◌==◌, ◌<◌, ◌^◌, Bool, true, false, List, [], ◌∷◌, Option, Some, None, Result, Ok, Err, refl, sym, subst, arith}
use Rattle.std.proofs.lemmas.Bool.Decides.{nat_tests}
use Rattle.rdf_terms.specs.declared.term.Triple.{Triple}
use Rattle.template_fill.specs.Metadata.{Config}
use Rattle.tpf_base.specs.Addresses.{Address}
use Rattle.tpf_base.specs.Wrote.{SinkState}
use Rattle.loop_wire.specs.Looped.{Looped}
use Rattle.fragment_server.specs.declared.server.FragmentServer.{FragmentServer}
use Rattle.tpf_base.specs.declared.fault.Fault.{Fault}
use Rattle.tpf_base.specs.declared.fault.Fault.TheVariants as sinks
use Rattle.bgp_core.specs.Queries.{QueryData}
use Rattle.group_query.specs.Trees.{GroupData}
use Rattle.tpf_client.specs.declared.options.Options.{Options}
use Rattle.tpf_client.specs.Offers.{Offer}
use Rattle.tpf_client.specs.declared.options.Report.{Report}
use Rattle.tpf_client.specs.declared.fault.ClientFault.{ClientFault}
use Rattle.tpf_client.specs.declared.fault.ClientFault.TheVariants as clients
use Rattle.data_files.specs.declared.fault.DataFault.{DataFault}
use Rattle.data_files.specs.declared.fault.DataFault.TheVariants as data_faults
use Rattle.data_files.specs.declared.fault.QueryFileFault.{QueryFileFault}
use Rattle.data_files.specs.declared.fault.QueryFileFault.TheVariants as query_faults
use Rattle.answer_faults.specs.declared.fault.AnswerFault.{AnswerFault}
use Rattle.answer_faults.specs.declared.fault.AnswerFault.TheVariants as answers
use Rattle.answer_faults.specs.declared.fault.Counts.{Counts}
use Rattle.query_command.specs.Groups.{group_plan_of, group_offer_of, MayEndGroup, FileAsked, ServerAsked, GeneratedAsked, Plain, Groups}
use Rattle.query_command.specs.Generated.{usual_options, GeneratedCause}
use Rattle.query_command.specs.Loops.{LocalView}
use Rattle.query_command.specs.Plans.{plan_of, offer_of, MayEnd, MayEndBy, EndsGenerated}
use Rattle.serve_command.specs.declared.fault.ServiceFault.{ServiceFault}
use Rattle.serve_command.specs.declared.fault.ServiceFault.TheVariants as services
use Rattle.query_command.specs.Servers.{ServersAsked}
use Rattle.command_words.specs.Commands.{Command, Federated, local, query, federate, serve, make}
use Rattle.command_endings.specs.Endings.{EndOfRun, data_status, query_status, client_status, fault_status, answer_status, service_status, made_status, counted_status, Says}
use Rattle.tpf_cli.specs.Ranges.{IsInRange}
use Rattle.tpf_cli.specs.Runs.{Around, WritesNumbers, CountsFile, DoesOf, unwritten, wire_inside, options_of, view_of}
use Rattle.tpf_cli.specs.Promises.{IsAmong, local_statuses, server_statuses, statuses_of}
use Rattle.tpf_cli.proofs.Ended.{budget_small, of_run}

-- ---- faults, by the statuses that they have

module _ (statuses : List ℕ) (memory : IsAmong statuses 8) where
  of_data : IsAmong statuses 3 → IsAmong statuses 10 → (fault : DataFault) → IsAmong statuses (data_status fault)
  of_data refused file data_faults.TooLong = refused
  of_data refused file (data_faults.Bad line why) = refused
  of_data refused file (data_faults.GenidClash label) = refused
  of_data refused file data_faults.TooMany = refused
  of_data refused file data_faults.File = file
  of_data refused file data_faults.OutOfMemory = memory

  of_query : IsAmong statuses 4 → IsAmong statuses 10 → (fault : QueryFileFault) → IsAmong statuses (query_status fault)
  of_query refused file (query_faults.Bad at why) = refused
  of_query refused file query_faults.File = file
  of_query refused file query_faults.OutOfMemory = memory

  of_client : IsAmong statuses 5 → IsAmong statuses 6 → IsAmong statuses 7 → IsAmong statuses 9 → IsAmong statuses 11 → (fault : ClientFault) → IsAmong statuses (client_status fault)
  of_client exchange reply budget sink changed clients.Exchange = exchange
  of_client exchange reply budget sink changed clients.Stalled = exchange
  of_client exchange reply budget sink changed (clients.Cut received) = exchange
  of_client exchange reply budget sink changed (clients.Reply fault received) = reply
  of_client exchange reply budget sink changed (clients.Page fault body) = reply
  of_client exchange reply budget sink changed (clients.Changed first other) = changed
  of_client exchange reply budget sink changed (clients.Budget n) = budget
  of_client exchange reply budget sink changed clients.Sink = sink
  of_client exchange reply budget sink changed clients.OutOfMemory = memory

  -- in one process
  of_inside : (n : ℕ) → (0 < n → IsAmong statuses 5) → IsAmong statuses 6 → IsAmong statuses 7 → IsAmong statuses 9
      → (options : Options) (offer : Offer) (plan : List Address) (fault : ClientFault) → MayEndBy n options offer plan fault → IsAmong statuses (client_status fault)
  of_inside n exchange reply budget sink options offer plan clients.Exchange may = exchange may.some
  of_inside n exchange reply budget sink options offer plan clients.Stalled may = absurd may
  of_inside n exchange reply budget sink options offer plan (clients.Cut received) may = exchange may.some
  of_inside n exchange reply budget sink options offer plan (clients.Reply fault received) may = reply
  of_inside n exchange reply budget sink options offer plan (clients.Page fault body) may = absurd may
  of_inside n exchange reply budget sink options offer plan (clients.Changed first other) may = absurd may
  of_inside n exchange reply budget sink options offer plan (clients.Budget most) may = budget
  of_inside n exchange reply budget sink options offer plan clients.Sink may = sink
  of_inside n exchange reply budget sink options offer plan clients.OutOfMemory may = memory

  -- of a query
  of_asked : (n : ℕ) → (0 < n → IsAmong statuses 5) → IsAmong statuses 6 → IsAmong statuses 7 → IsAmong statuses 9
      → (options : Options) (triples : List Triple) (config : Config) (q : QueryData) (fault : ClientFault) → MayEnd n options triples config q fault → IsAmong statuses (client_status fault)
  of_asked n exchange reply budget sink options triples config q fault may = of_inside n exchange reply budget sink options (offer_of options triples config q) (plan_of options triples config q) fault may

  -- the same of a query with groups
  of_groups : (n : ℕ) → (0 < n → IsAmong statuses 5) → IsAmong statuses 6 → IsAmong statuses 7 → IsAmong statuses 9
      → (options : Options) (triples : List Triple) (config : Config) (g : GroupData) (fault : ClientFault) → MayEndGroup n options triples config g fault → IsAmong statuses (client_status fault)
  of_groups n exchange reply budget sink options triples config g fault may = of_inside n exchange reply budget sink options (group_offer_of triples config g) (group_plan_of triples config g) fault may

-- ---- a query of a file in one process

-- the statuses that come whether a dial is to fail or not
all_0 : (b : Bool) → IsAmong (local_statuses b) 0
all_0 true = refl
all_0 false = refl

all_3 : (b : Bool) → IsAmong (local_statuses b) 3
all_3 true = refl
all_3 false = refl

all_4 : (b : Bool) → IsAmong (local_statuses b) 4
all_4 true = refl
all_4 false = refl

all_6 : (b : Bool) → IsAmong (local_statuses b) 6
all_6 true = refl
all_6 false = refl

all_7 : (b : Bool) → IsAmong (local_statuses b) 7
all_7 true = refl
all_7 false = refl

all_8 : (b : Bool) → IsAmong (local_statuses b) 8
all_8 true = refl
all_8 false = refl

all_9 : (b : Bool) → IsAmong (local_statuses b) 9
all_9 true = refl
all_9 false = refl

all_10 : (b : Bool) → IsAmong (local_statuses b) 10
all_10 true = refl
all_10 false = refl

is_some : (n : ℕ) → 0 < n → false ≡ (n == 0)
is_some n some = grind (arith, nat_tests)

some_5 : (n : ℕ) → 0 < n → IsAmong (local_statuses (n == 0)) 5
some_5 n some = subst (λ (b : Bool). IsAmong (local_statuses b) 5) (is_some n some) refl

module _ (a : Around) where
  among_file : (view : LocalView) (answer : Result Report AnswerFault) → view.options.budget < 2 ^ 63 → FileAsked a.shelf a.shelf' a.out a.out' (wire_inside a.inside') view answer
      → IsAmong (local_statuses (view.fail_every == 0)) (answer_status answer)
  among_file view (Ok report) small h = all_0 (view.fail_every == 0)
  among_file view (Err (answers.Data fault)) small h = let b = view.fail_every == 0 in of_data (local_statuses b) (all_8 b) (all_3 b) (all_10 b) fault
  among_file view (Err (answers.Query fault)) small h = let b = view.fail_every == 0 in of_query (local_statuses b) (all_8 b) (all_4 b) (all_10 b) fault
  among_file view (Err (answers.Client fault)) small (Plain h) =
      let b = view.fail_every == 0 in
      let l = h.planned small in
      of_asked (local_statuses b) (all_8 b) view.fail_every (some_5 view.fail_every) (all_6 b) (all_7 b) (all_9 b) view.options _ _ l.loops.says.q fault l.loops.says.ends
  among_file view (Err (answers.Client fault)) small (Groups g h) =
      let b = view.fail_every == 0 in
      let l = h.ends small in
      of_groups (local_statuses b) (all_8 b) view.fail_every (some_5 view.fail_every) (all_6 b) (all_7 b) (all_9 b) view.options _ _ g fault l.loops.says

  -- ---- a query over a wire

  among_server : (name : List ℕ) (url : Address) (options : Options) (result : Result Report AnswerFault) → ServerAsked a.shelf a.shelf' a.allows a.wire a.wire' a.out a.out' name url options result
      → IsAmong server_statuses (answer_status result)
  among_server name url options (Ok report) h = refl
  among_server name url options (Err (answers.Data fault)) (Plain h) = absurd h.cause
  among_server name url options (Err (answers.Data fault)) (Groups g h) = absurd h.cause
  among_server name url options (Err (answers.Query fault)) h = of_query server_statuses refl refl refl fault
  among_server name url options (Err (answers.Client fault)) h = of_client server_statuses refl refl refl refl refl refl fault

  among_servers : (several : Federated) (result : Result Report AnswerFault) → ServersAsked a.shelf a.shelf' a.allows a.wire a.wire' a.out a.out' several.query several.urls (options_of several.client) result → IsAmong server_statuses (answer_status result)
  among_servers several (Ok report) h = refl
  among_servers several (Err (answers.Data fault)) h = absurd h.ends
  among_servers several (Err (answers.Query fault)) h = of_query server_statuses refl refl refl fault
  among_servers several (Err (answers.Client fault)) h = of_client server_statuses refl refl refl refl refl refl fault

  -- ---- a service

  among_service : (result : Result ℕ ServiceFault) → IsAmong (0 ∷ 3 ∷ 8 ∷ 9 ∷ 10 ∷ 12 ∷ []) (service_status result)
  among_service (Ok connections) = refl
  among_service (Err (services.Data fault)) = of_data (0 ∷ 3 ∷ 8 ∷ 9 ∷ 10 ∷ 12 ∷ []) refl refl refl fault
  among_service (Err services.Wire) = refl
  among_service (Err services.Sink) = refl
  among_service (Err services.OutOfMemory) = refl

  -- ---- generated data

  among_made : (result : Result (Unit {0}) Fault) → IsAmong (0 ∷ 8 ∷ 9 ∷ []) (made_status result)
  among_made (Ok nothing) = refl
  among_made (Err sinks.Failed) = refl
  among_made (Err sinks.OutOfMemory) = refl

  abbrev counted_statuses : List ℕ
  counted_statuses = 0 ∷ 4 ∷ 6 ∷ 7 ∷ 8 ∷ 9 ∷ 10 ∷ []

  among_cut : (cause : Fault) → IsAmong counted_statuses (fault_status (unwritten cause))
  among_cut sinks.Failed = refl
  among_cut sinks.OutOfMemory = refl

  no_dial : 0 < 0 → IsAmong counted_statuses 5
  no_dial h = absurd (omega (arith, h))

  module _ (persons : ℕ) (name : List ℕ) where
    abbrev inside : Option (Looped FragmentServer)
    inside = wire_inside a.inside'

    among_fault : (fault : AnswerFault) → GeneratedCause a.shelf a.shelf' persons name inside fault → EndsGenerated a.shelf.told persons name inside (Err fault) → IsAmong counted_statuses (fault_status fault)
    among_fault (answers.Data fault) cause planned = subst (λ (f : DataFault). IsAmong counted_statuses (data_status f)) (sym cause.0) refl
    among_fault (answers.Query fault) cause planned = of_query counted_statuses refl refl refl fault
    among_fault (answers.Client fault) cause planned = of_asked counted_statuses refl 0 no_dial refl refl refl usual_options _ _ planned.loops.says.q fault planned.loops.says.ends

    among_asked : (fault : AnswerFault) → GeneratedAsked a.shelf a.shelf' inside persons name (Err fault) → IsAmong counted_statuses (fault_status fault)
    among_asked fault (Plain h) = among_fault fault h.cause h.planned
    among_asked (answers.Data fault) (Groups g h) = absurd h.cause
    among_asked (answers.Query fault) (Groups g h) = absurd h.cause
    among_asked (answers.Client fault) (Groups g h) = of_groups counted_statuses refl 0 no_dial refl refl refl usual_options _ _ g fault h.ends.loops.says

    among_numbers : (came : Result Counts AnswerFault) (result : Result (Unit {0}) AnswerFault) → WritesNumbers a.out a.out' came result
        → GeneratedAsked a.shelf a.shelf' inside persons name came → IsAmong counted_statuses (counted_status result)
    among_numbers came (Ok nothing) line asks = refl
    among_numbers (Ok counts) (Err fault) line asks = subst (λ (f : AnswerFault). IsAmong counted_statuses (fault_status f)) (sym line.is) (among_cut line.cause)
    among_numbers (Err came) (Err fault) line asks = subst (λ (f : AnswerFault). IsAmong counted_statuses (fault_status f)) line.0 (among_asked came asks)

    among_counted : (result : Result (Unit {0}) AnswerFault) → CountsFile a.shelf a.shelf' a.out a.out' inside persons name result → IsAmong counted_statuses (counted_status result)
    among_counted result h = among_numbers h.came result h.line h.asks

  -- ---- runs

  among_memory : (command : Option Command) → IsAmong (statuses_of command) 8
  among_memory None = refl
  among_memory (Some (local name query_name choice page client seed fail_every)) = all_8 (fail_every == 0)
  among_memory (Some (query url query_name client)) = refl
  among_memory (Some (federate several)) = refl
  among_memory (Some (serve name base choice page stop_after reload rows)) = refl
  among_memory (Some (make count None)) = refl
  among_memory (Some (make count (Some name))) = refl

  pub run_among : (command : Option Command) → ((c : Command) → command ≡ Some c → IsInRange c) → (end : EndOfRun) (result : ℕ) (err err' : SinkState) → DoesOf a command end → Says result end err err' → IsAmong (statuses_of command) result
  run_among = of_run a (λ command status. IsAmong (statuses_of command) status) refl among_memory (record {
    of_local = λ name query_name choice page client seed fail_every data_name asked answer h r. among_file (view_of name query_name choice page client seed fail_every) answer (budget_small client.budget r.2.budget) h;
    of_query = λ url query_name client data_name asked answer h r. among_server query_name url (options_of client) answer h;
    of_federate = λ several data_name asked answer h r. among_servers several answer h;
    of_serve = λ name base choice page stop_after reload rows file service h r. among_service service;
    of_made = λ count written h r. among_made written;
    of_counted = λ count name asked result h r. among_counted count name result h;
  })
