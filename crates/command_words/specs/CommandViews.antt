-- A command without where its words lie in memory.
use Rattle.std.specs.Prelude.{option_map}
use Rattle.command_words.specs.Commands.{Command, Federated, local, query, federate, serve, make}
use Rattle.command_words.specs.declared.command.Command.TheVariants as commands
use Rattle.command_words.specs.declared.command.Command as declared_command
use Rattle.command_words.specs.declared.command.FederateWords as declared_words

abbrev pub federated_view : declared_words.FederateWords → Federated
federated_view words = record { query = words.query.now; urls = words.urls.items; client = words.client }

abbrev pub command_view : declared_command.Command → Command
command_view (commands.Local words) = local words.name.now words.query.now words.choice words.page words.client words.seed words.fail_every
command_view (commands.Query words) = query words.url words.query.now words.client
command_view (commands.Federate words) = federate (federated_view words)
command_view (commands.Serve words) = serve words.name.now words.base words.choice words.page words.stop_after words.reload words.rows
command_view (commands.Make count run) = make count (option_map (λ r. r.now) run)
