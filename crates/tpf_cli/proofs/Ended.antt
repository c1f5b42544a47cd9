-- What holds of each command, by the one way in which it ends, holds of every run.
use Rattle.std.proofs.Common.{ℕ, ◌≡◌, ◌≤◌, ◌<◌, ◌^◌, ◌⊎◌, inl, inr, Bool, List, Option, Some, None, Result, refl, sym, subst, arith}
use Rattle.tpf_base.specs.Addresses.{Address}
use Rattle.tpf_base.specs.Wrote.{SinkState}
use Rattle.tpf_base.specs.declared.fault.Fault.{Fault}
use Rattle.triple_table.specs.declared.choice.Choice.{Choice}
use Rattle.tpf_client.specs.declared.options.Report.{Report}
use Rattle.answer_faults.specs.declared.fault.AnswerFault.{AnswerFault}
use Rattle.query_command.specs.Groups.{FileAsked, ServerAsked}
use Rattle.serve_command.specs.declared.fault.ServiceFault.{ServiceFault}
use Rattle.serve_command.specs.Services.{ServesFile}
use Rattle.query_command.specs.Servers.{ServersAsked}
use Rattle.command_words.specs.declared.command.ClientWords.{ClientWords}
use Rattle.command_words.specs.declared.limits.TheConstants.{MOST_BUDGET}
use Rattle.command_words.specs.Commands.{Command, Federated, local, query, federate, serve, make}
use Rattle.command_endings.specs.Endings as ends
use Rattle.command_endings.specs.Endings.{EndOfRun, usage, no_words, answered, made, counted, status_of, Says}
use Rattle.tpf_cli.specs.Ranges.{IsInRange}
use Rattle.tpf_cli.specs.Runs.{Around, Makes, CountsFile, Does, DoesOf, wire_inside, options_of, view_of, config_by}

pub budget_small : (n : ℕ) → n ≤ MOST_BUDGET → n < 2 ^ 63
budget_small n h = omega (arith, h)

-- It holds of each command, by the one way in which the command ends.
pub record OfEach (a : Around) (Holds : Command → EndOfRun → Type 0) : Type 0 where
  pub of_local : (name query_name : List ℕ) (choice : Choice) (page : ℕ) (client : ClientWords) (seed fail_every : ℕ) (data_name asked : List ℕ) (answer : Result Report AnswerFault)
      → FileAsked a.shelf a.shelf' a.out a.out' (wire_inside a.inside') (view_of name query_name choice page client seed fail_every) answer → Holds (local name query_name choice page client seed fail_every) (answered data_name asked answer)
  pub of_query : (url : Address) (query_name : List ℕ) (client : ClientWords) (data_name asked : List ℕ) (answer : Result Report AnswerFault)
      → ServerAsked a.shelf a.shelf' a.allows a.wire a.wire' a.out a.out' query_name url (options_of client) answer → Holds (query url query_name client) (answered data_name asked answer)
  pub of_federate : (several : Federated) (data_name asked : List ℕ) (answer : Result Report AnswerFault)
      → ServersAsked a.shelf a.shelf' a.allows a.wire a.wire' a.out a.out' several.query several.urls (options_of several.client) answer → Holds (federate several) (answered data_name asked answer)
  pub of_serve : (name : List ℕ) (base : Address) (choice : Choice) (page : ℕ) (stop_after : Option ℕ) (reload : Option (List ℕ)) (rows : Bool) (file : List ℕ) (service : Result ℕ ServiceFault)
      → ServesFile a.shelf a.shelf' a.wire a.wire' a.out a.out' name choice (config_by base page reload rows) stop_after service → Holds (serve name base choice page stop_after reload rows) (ends.served file service)
  pub of_made : (count : ℕ) (written : Result (Unit {0}) Fault) → Makes a.shelf a.shelf' a.out a.out' a.inside' count None (made written) → Holds (make count None) (made written)
  pub of_counted : (count : ℕ) (name asked : List ℕ) (result : Result (Unit {0}) AnswerFault)
      → CountsFile a.shelf a.shelf' a.out a.out' (wire_inside a.inside') count name result → Holds (make count (Some name)) (counted asked result)

pub each_ending : (a : Around) (Holds : Command → EndOfRun → Type 0) → OfEach a Holds → (command : Command) (end : EndOfRun) → Does a command end → Holds command end
each_ending a Holds each (local name query_name choice page client seed fail_every) (answered data_name asked answer) h = each.of_local name query_name choice page client seed fail_every data_name asked answer h.3
each_ending a Holds each (local name query_name choice page client seed fail_every) usage h = absurd h
each_ending a Holds each (local name query_name choice page client seed fail_every) no_words h = absurd h
each_ending a Holds each (local name query_name choice page client seed fail_every) (ends.served file service) h = absurd h
each_ending a Holds each (local name query_name choice page client seed fail_every) (made written) h = absurd h
each_ending a Holds each (local name query_name choice page client seed fail_every) (counted asked result) h = absurd h
each_ending a Holds each (query url query_name client) (answered data_name asked answer) h = each.of_query url query_name client data_name asked answer h.2
each_ending a Holds each (query url query_name client) usage h = absurd h
each_ending a Holds each (query url query_name client) no_words h = absurd h
each_ending a Holds each (query url query_name client) (ends.served file service) h = absurd h
each_ending a Holds each (query url query_name client) (made written) h = absurd h
each_ending a Holds each (query url query_name client) (counted asked result) h = absurd h
each_ending a Holds each (federate several) (answered data_name asked answer) h = each.of_federate several data_name asked answer h.2
each_ending a Holds each (federate several) usage h = absurd h
each_ending a Holds each (federate several) no_words h = absurd h
each_ending a Holds each (federate several) (ends.served file service) h = absurd h
each_ending a Holds each (federate several) (made written) h = absurd h
each_ending a Holds each (federate several) (counted asked result) h = absurd h
each_ending a Holds each (serve name base choice page stop_after reload rows) (ends.served file service) h = each.of_serve name base choice page stop_after reload rows file service h.2
each_ending a Holds each (serve name base choice page stop_after reload rows) usage h = absurd h
each_ending a Holds each (serve name base choice page stop_after reload rows) no_words h = absurd h
each_ending a Holds each (serve name base choice page stop_after reload rows) (answered data_name asked answer) h = absurd h
each_ending a Holds each (serve name base choice page stop_after reload rows) (made written) h = absurd h
each_ending a Holds each (serve name base choice page stop_after reload rows) (counted asked result) h = absurd h
each_ending a Holds each (make count None) (made written) h = each.of_made count written h.1
each_ending a Holds each (make count None) usage h = absurd h.1
each_ending a Holds each (make count None) no_words h = absurd h.1
each_ending a Holds each (make count None) (answered data_name asked answer) h = absurd h.1
each_ending a Holds each (make count None) (ends.served file service) h = absurd h.1
each_ending a Holds each (make count None) (counted asked result) h = absurd h.1
each_ending a Holds each (make count (Some name)) (counted asked result) h = each.of_counted count name asked result h.1.1
each_ending a Holds each (make count (Some name)) usage h = absurd h.1
each_ending a Holds each (make count (Some name)) no_words h = absurd h.1
each_ending a Holds each (make count (Some name)) (answered data_name asked answer) h = absurd h.1
each_ending a Holds each (make count (Some name)) (ends.served file service) h = absurd h.1
each_ending a Holds each (make count (Some name)) (made written) h = absurd h.1

-- A status is that of the ending, or 8; so what holds of 8, of each command by how it ended, and of words that are no command, holds of each run.
module _ (a : Around) (Holds : Option Command → ℕ → Type 0) (no_command : Holds None 2) (memory : (command : Option Command) → Holds command 8) (each : OfEach a (λ command end. IsInRange command → Holds (Some command) (status_of end))) where
  of_none : (end : EndOfRun) → (end ≡ usage) ⊎ (end ≡ no_words) → Holds None (status_of end)
  of_none end (inl is) = subst (λ (e : EndOfRun). Holds None (status_of e)) (sym is) no_command
  of_none end (inr is) = subst (λ (e : EndOfRun). Holds None (status_of e)) (sym is) (memory None)

  of_ending : (command : Option Command) → ((c : Command) → command ≡ Some c → IsInRange c) → (end : EndOfRun) → DoesOf a command end → Holds command (status_of end)
  of_ending None ranged end h = of_none end h.0
  of_ending (Some command) ranged end (inl h) = each_ending a (λ c e. IsInRange c → Holds (Some c) (status_of e)) each command end h (ranged command refl)
  of_ending (Some command) ranged end (inr h) = subst (λ (e : EndOfRun). Holds (Some command) (status_of e)) (sym h.0) (memory (Some command))

  pub of_run : (command : Option Command) → ((c : Command) → command ≡ Some c → IsInRange c) → (end : EndOfRun) (result : ℕ) (err err' : SinkState) → DoesOf a command end → Says result end err err' → Holds command result
  of_run command ranged end result err err' h (inl s) = subst (Holds command) (sym s.0) (of_ending command ranged end h)
  of_run command ranged end result err err' h (inr s) = subst (Holds command) (sym s.0) (memory command)
