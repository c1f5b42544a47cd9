-- What was done is what the words command.
use Rattle.std.proofs.Common.{ℕ, ◌≡◌, inl, inr, List, [], Option, Some, None, Result, refl, sym, subst}
use Rattle.std.specs.Option.{option_map}
use Rattle.tpf_base.specs.Addresses.{Address}
use Rattle.tpf_base.specs.Outside.{ShelfState}
use Rattle.tpf_base.specs.Wrote.{SinkState}
use Rattle.loop_wire.specs.Looped.{Looped}
use Rattle.fragment_server.specs.declared.server.FragmentServer.{FragmentServer}
use Rattle.tpf_client.specs.declared.options.Options.{Options}
use Rattle.tpf_client.specs.declared.options.Report.{Report}
use Rattle.answer_faults.specs.declared.fault.AnswerFault.{AnswerFault}
use Rattle.query_command.specs.Groups.{FileAsked, ServerAsked}
use Rattle.command_words.specs.declared.command.ClientWords.{ClientWords}
use Rattle.command_words.specs.declared.command.LocalWords.{LocalWords}
use Rattle.command_words.specs.CommandViews.{command_view}
use Rattle.command_words.specs.declared.command.Command as declared_command
use Rattle.query_command.specs.Servers.{ServersAsked}
use Rattle.command_words.specs.Commands.{Command, Federated, local, query, federate}
use Rattle.tpf_cli.specs.declared.top.Inside.TheVariants.{Unused}
use Rattle.command_endings.specs.Endings.{usage, no_words, answered}
use Rattle.tpf_cli.specs.Runs.{Around, IsIdle, Does, DoesOf, asked_of, options_of, wire_inside}

module _ (a : Around) where
  pub no_words_of : (given : Option Command) → IsIdle a → DoesOf a given no_words
  no_words_of None idle = (inr refl, idle)
  no_words_of (Some command) idle = inr (refl, idle)

  pub usage_of : (given : Option Command) → None ≡ given → IsIdle a → DoesOf a given usage
  usage_of given is idle = subst (λ (g : Option Command). DoesOf a g usage) is (inl refl, idle)

  -- a query of a file
  pub does_local : (given : Command) (words : LocalWords) (answer : Result Report AnswerFault)
      → given ≡ local words.name.now words.query.now words.choice words.page words.client words.seed words.fail_every → a.wire' ≡ a.wire
      → FileAsked a.shelf a.shelf' a.out a.out' (wire_inside a.inside') (asked_of words) answer → Does a given (answered words.name.now words.query.now answer)
  does_local given words answer is still asked = subst (λ (c : Command). Does a c (answered words.name.now words.query.now answer)) (sym is) (refl, refl, still, asked)

  -- a query of a server
  pub does_query : (given : Command) (url : Address) (query_name : List ℕ) (client : ClientWords) (answer : Result Report AnswerFault) → given ≡ query url query_name client → a.inside' ≡ Unused
      → ServerAsked a.shelf a.shelf' a.allows a.wire a.wire' a.out a.out' query_name url (options_of client) answer → Does a given (answered [] query_name answer)
  does_query given url query_name client answer is unused asked = subst (λ (c : Command). Does a c (answered [] query_name answer)) (sym is) (refl, unused, asked)

  -- a query of several servers
  pub does_federate : (given : Command) (several : Federated) (answer : Result Report AnswerFault) → given ≡ federate several → a.inside' ≡ Unused
      → ServersAsked a.shelf a.shelf' a.allows a.wire a.wire' a.out a.out' several.query several.urls (options_of several.client) answer → Does a given (answered [] several.query answer)
  does_federate given several answer is unused asked = subst (λ (c : Command). Does a c (answered [] several.query answer)) (sym is) (refl, unused, asked)

-- a query of a file, by the options that the words give, and the wire that it leaves inside
pub asked_file : (shelf shelf' : ShelfState) (out out' : SinkState) (made left : Option (Looped FragmentServer)) (words : LocalWords) (options : Options) (answer : Result Report AnswerFault) → left ≡ made → options ≡ options_of words.client
    → FileAsked shelf shelf' out out' made (record { name = words.name.now; query = words.query.now; choice = words.choice; page_size = words.page; options = options; seed = words.seed; fail_every = words.fail_every }) answer
    → FileAsked shelf shelf' out out' left (asked_of words) answer
asked_file shelf shelf' out out' made left words options answer same is asked =
    subst (λ (w : Option (Looped FragmentServer)). FileAsked shelf shelf' out out' w (asked_of words) answer) (sym same)
    (subst (λ (o : Options). FileAsked shelf shelf' out out' made (record { name = words.name.now; query = words.query.now; choice = words.choice; page_size = words.page; options = o; seed = words.seed; fail_every = words.fail_every }) answer) is asked)

-- the command that the words are, by what is read of them
pub words_are_none : (o : Option declared_command.Command) (given : Option Command) → o ≡ None → option_map command_view o ≡ given → None ≡ given
words_are_none o given is e = subst (λ (p : Option declared_command.Command). option_map command_view p ≡ given) is e

pub words_are : (o : Option declared_command.Command) (command : declared_command.Command) (given : Option Command) → o ≡ Some command → option_map command_view o ≡ given → Some (command_view command) ≡ given
words_are o command given is e = subst (λ (p : Option declared_command.Command). option_map command_view p ≡ given) is e
