-- What is said of the query of a file that ended with status 0 is said of what the words command.
use Rattle.std.proofs.Common.{ℕ, ◌≡◌, ◌<◌, ◌^◌, inl, inr, List, Option, Some, None, Result, refl, subst, arith}
use Rattle.tpf_base.specs.Wrote.{SinkState}
use Rattle.tpf_client.specs.declared.options.Report.{Report}
use Rattle.answer_faults.specs.declared.fault.AnswerFault.{AnswerFault}
use Rattle.query_command.specs.Groups.{FileAsked}
use Rattle.query_command.specs.Loops.{LocalView}
use Rattle.command_words.specs.Commands.{Command, local, query, federate, serve, make}
use Rattle.command_endings.specs.Endings.{EndOfRun, no_words, answered, Says}
use Rattle.tpf_cli.specs.Ranges.{IsInRange}
use Rattle.tpf_cli.specs.Runs.{Around, DoesOf, wire_inside, view_of}
use Rattle.tpf_cli.specs.Promises.{OfAnswered}
use Rattle.tpf_cli.proofs.Ended.{budget_small, OfEach, each_ending}

module _ (a : Around) (holds : LocalView → SinkState → SinkState → Type 0)
    (told : (view : LocalView) (answer : Result Report AnswerFault) → view.options.budget < 2 ^ 63 → FileAsked a.shelf a.shelf' a.out a.out' (wire_inside a.inside') view answer → (data_name asked : List ℕ) (result : ℕ) (err err' : SinkState)
    → Says result (answered data_name asked answer) err err' → result ≡ 0 → holds view err err') where
  requests_each : OfEach a (λ command end. IsInRange command → (result : ℕ) (err err' : SinkState) → Says result end err err' → OfAnswered (Some command) result (λ view. holds view err err'))
  requests_each = record {
    of_local = λ name query_name choice page client seed fail_every data_name asked answer h r result err err' s. told (view_of name query_name choice page client seed fail_every) answer (budget_small client.budget r.2.budget) h data_name asked result err err' s;
    of_query = λ url query_name client data_name asked answer h r result err err' s. tt;
    of_federate = λ several data_name asked answer h r result err err' s. tt;
    of_serve = λ name base choice page stop_after reload rows file service h r result err err' s. tt;
    of_made = λ count written h r result err err' s. tt;
    of_counted = λ count name asked numbers h r result err err' s. tt;
  }

  -- memory ran out over the words
  no_requests : (command : Command) (end : EndOfRun) (result : ℕ) (err err' : SinkState) → end ≡ no_words → Says result end err err' → OfAnswered (Some command) result (λ view. holds view err err')
  no_requests (local name query_name choice page client seed fail_every) end result err err' e s = λ zero_status. absurd (eight (subst (λ (x : EndOfRun). Says result x err err') e s) zero_status)
    where
      eight : Says result no_words err err' → result ≡ 0 → ⊥
      eight (inl t) z = let is = t.0 in omega (arith, is, z)
      eight (inr t) z = let is = t.0 in omega (arith, is, z)
  no_requests (query url query_name client) end result err err' e s = tt
  no_requests (federate several) end result err err' e s = tt
  no_requests (serve name base choice page stop_after reload rows) end result err err' e s = tt
  no_requests (make count asked) end result err err' e s = tt

  pub answered_requests : (command : Option Command) → ((c : Command) → command ≡ Some c → IsInRange c) → (end : EndOfRun) (result : ℕ) (err err' : SinkState) → DoesOf a command end → Says result end err err' → OfAnswered command result (λ view. holds view err err')
  answered_requests None ranged end result err err' h s = tt
  answered_requests (Some command) ranged end result err err' (inl h) s =
      each_ending a (λ c e. IsInRange c → (status : ℕ) (error error' : SinkState) → Says status e error error' → OfAnswered (Some c) status (λ view. holds view error error')) requests_each command end h (ranged command refl) result err err' s
  answered_requests (Some command) ranged end result err err' (inr h) s = no_requests command end result err err' h.0 s
