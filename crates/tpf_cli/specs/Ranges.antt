-- What the words of a command keep to.
use Rattle.std.specs.Prelude.{◌≡◌, ◌≤◌, ◌<◌, length, None}
use Rattle.std.specs.List.{AllByRecursion}
use Rattle.tpf_base.specs.Addresses.{Address, address_text}
use Rattle.tpf_base.specs.declared.limits.TheConstants.{MOST_LINKS}
use Rattle.rdf_terms.specs.declared.limits.TheConstants.{MOST_ROWS}
use Rattle.template_fill.specs.declared.limits.TheConstants.{LARGEST_PAGE, LONGEST_START}
use Rattle.template_fill.specs.Configurations.{HasReloadPath}
use Rattle.generated_data.specs.declared.limits.TheConstants.{MOST_PERSONS}
use Rattle.command_words.specs.declared.command.ClientWords.{ClientWords}
use Rattle.command_words.specs.declared.limits.TheConstants.{MOST_BUDGET}
use Rattle.command_words.specs.Commands.{Command, local, query, federate, serve, make}
use Rattle.federated_query.specs.Servers.{AreApart}

-- the bounds of a client
pub record IsClient (client : ClientWords) : Type 0 where
  pub window : 1 ≤ client.window
  pub one : 1 ≤ client.block
  pub block : client.block ≤ MOST_ROWS
  pub some : 1 ≤ client.links
  pub few : client.links ≤ MOST_LINKS
  pub budget : client.budget ≤ MOST_BUDGET

-- an address is typed with at most LONGEST_TYPED bytes, and its text is not much longer
abbrev pub IsTyped : Address → Type 0
IsTyped url = length (address_text url) ≤ LONGEST_START

-- the numbers are in their ranges, no address is longer than it may be typed, there is a server and no two have one authority, a base has no query part, and the path of a reload is a written one beside the base's
abbrev pub IsInRange : Command → Type 0
IsInRange (local name query_name choice page client seed fail_every) = (1 ≤ page) × (page ≤ LARGEST_PAGE) × IsClient client
IsInRange (query url query_name client) = IsTyped url × IsClient client
IsInRange (federate several) = (0 < length several.urls) × AreApart several.urls × AllByRecursion IsTyped several.urls × IsClient several.client
IsInRange (serve name base choice page stop_after reload rows) = (1 ≤ page) × (page ≤ LARGEST_PAGE) × (base.query ≡ None) × HasReloadPath base reload
IsInRange (make count asked) = (1 ≤ count) × (count ≤ MOST_PERSONS)
