-- What a command's name stands for. It serves the reading of words alone.
use Rattle.std.specs.Prelude.{Option}
use Rattle.command_words.specs.Words.{Form, Values}
use Rattle.command_words.specs.Commands.{Command, local_form, query_form, federate_form, serve_form, make_form, local_from, query_from, federate_from, serve_from, make_from}
use Rattle.command_words.specs.declared.from.Name.{Name}
use Rattle.command_words.specs.declared.from.Name.TheVariants.{Local, Query, Federate, Serve, Make}

-- what may stand after it
abbrev pub form_by : Name → Form
form_by Local = local_form
form_by Query = query_form
form_by Federate = federate_form
form_by Serve = serve_form
form_by Make = make_form

-- the command with these arguments
abbrev pub from_by : Name → Values → Option Command
from_by Local = local_from
from_by Query = query_from
from_by Federate = federate_from
from_by Serve = serve_from
from_by Make = make_from
