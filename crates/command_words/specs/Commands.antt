-- The words of the command line: which command they are.
use Rattle.std.specs.Prelude.{ℕ, Bool, true, false, not, List, [], ◌∷◌, ◌+◌, ◌-◌, ◌*◌, ◌&&◌, nat_le, length, is_some, Option, Some, None, if◌then◌else◌, codes}
use Rattle.std.specs.List.{list_all, list_any}
use Rattle.std.specs.Option.{option_map}
use Rattle.std.specs.Str.{bytes_eq}
use Rattle.list_laws.specs.Options.{◌>>=◌, when}
use Rattle.rdf_terms.specs.Iri.{is_iri, is_digit}
use Rattle.rdf_terms.specs.declared.limits.TheConstants.{MOST_ROWS}
use Rattle.tpf_base.specs.declared.limits.TheConstants.{HIGHEST_NUMBER, MOST_LINKS}
use Rattle.tpf_base.specs.declared.usual.TheConstants.{USUAL_WINDOW, USUAL_LINKS, USUAL_RETRIES, USUAL_BUDGET, USUAL_BODY, USUAL_PAGE}
use Rattle.tpf_base.specs.Addresses.{Address, authority_of}
use Rattle.template_fill.specs.ReadAddress.{read_address}
use Rattle.template_fill.specs.Configurations.{is_reload_path}
use Rattle.template_fill.specs.declared.limits.TheConstants.{LARGEST_PAGE}
use Rattle.generated_data.specs.declared.limits.TheConstants.{MOST_PERSONS}
use Rattle.triple_table.specs.declared.choice.Choice.{Choice}
use Rattle.triple_table.specs.declared.choice.Choice.TheVariants.{DefaultGraph, Named, Union}
use Rattle.command_words.specs.Words.{Form, Text, Values, arguments}
use Rattle.command_words.specs.declared.command.ClientWords.{ClientWords}
use Rattle.command_words.specs.declared.limits.TheConstants.{LONGEST_TYPED, MOST_WINDOW, MOST_RETRIES, MOST_BUDGET, LARGEST_BODY, MOST_CONNECTIONS, RAREST_FAILURE}

-- what is asked of several servers: the query, of each server the address of a page, and the client's options
pub record Federated : Type 0 where
  pub query : Text
  pub urls : List Address
  pub client : ClientWords

-- what the program is asked to do
pub data Command : Type 0 where
  -- to ask a query of a file of data, of which some graphs are served on pages of so many triples: the data, the query, the graphs, the page, the client's options, the seed, and each how-many-th dial fails
  local : Text → Text → Choice → ℕ → ClientWords → ℕ → ℕ → Command
  -- to ask a query of the server at an address
  query : Address → Text → ClientWords → Command
  -- to ask one of several servers together
  federate : Federated → Command
  -- to serve a file of data at a base: the data, the base, the graphs, the page, after how many connections to stop, the path of a reload, and whether rows in requests are read
  serve : Text → Address → Choice → ℕ → Option ℕ → Option Text → Bool → Command
  -- to write the data of so many persons, or to ask a query of them
  make : ℕ → Option Text → Command

-- ---- what may stand after the name of each command

unfoldable pub local_form : Form
local_form = record {
  positionals = codes "FILE" ∷ codes "QUERYFILE" ∷ [];
  options = codes "window" ∷ codes "block" ∷ codes "links" ∷ codes "retries" ∷ codes "budget" ∷ codes "max-body" ∷ codes "page" ∷ codes "seed" ∷ codes "fail-every" ∷ codes "graph" ∷ [];
  flags = codes "union" ∷ [];
}

unfoldable pub query_form : Form
query_form = record {
  positionals = codes "URL" ∷ codes "QUERYFILE" ∷ [];
  options = codes "window" ∷ codes "block" ∷ codes "links" ∷ codes "retries" ∷ codes "budget" ∷ codes "max-body" ∷ [];
  flags = [];
}

unfoldable pub serve_form : Form
serve_form = record {
  positionals = codes "FILE" ∷ [];
  options = codes "base" ∷ codes "page" ∷ codes "graph" ∷ codes "stop-after" ∷ codes "reload" ∷ [];
  flags = codes "union" ∷ codes "rows" ∷ [];
}

unfoldable pub make_form : Form
make_form = record {
  positionals = codes "N" ∷ [];
  options = codes "run" ∷ [];
  flags = [];
}

-- one address to eight
abbrev pub url_names : List Text
url_names = codes "URL" ∷ codes "URL2" ∷ codes "URL3" ∷ codes "URL4" ∷ codes "URL5" ∷ codes "URL6" ∷ codes "URL7" ∷ codes "URL8" ∷ []

unfoldable pub federate_form : Form
federate_form = record {
  positionals = codes "QUERYFILE" ∷ url_names;
  options = codes "window" ∷ codes "links" ∷ codes "retries" ∷ codes "budget" ∷ codes "max-body" ∷ [];
  flags = [];
}

-- ---- values

-- 1 to 19 digits
abbrev pub is_number : Text → Bool
is_number text = list_all is_digit text && (nat_le 1 (length text) && nat_le (length text) 19)

-- the number that digits write after those of n
abbrev pub number_after : ℕ → Text → ℕ
number_after n [] = n
number_after n (digit ∷ digits) = number_after (n * 10 + (digit - 48)) digits

-- the number that a text is, where it is in a range
abbrev pub number_of : ℕ → ℕ → Text → Option ℕ
number_of low high text = if is_number text && (nat_le low (number_after 0 text) && nat_le (number_after 0 text) high) then Some (number_after 0 text) else None

-- the number that is given, or the usual one
abbrev pub number_or : ℕ → ℕ → ℕ → Option Text → Option ℕ
number_or low high usual None = Some usual
number_or low high usual (Some text) = number_of low high text

-- the number of an option: the least, the greatest, and that which stands for none
abbrev pub number_in : Values → Text → ℕ → ℕ → ℕ → Option ℕ
number_in values name low high usual = number_or low high usual (values name)

-- a number that may be left out
abbrev pub count_of : ℕ → ℕ → Option Text → Option (Option ℕ)
count_of low high None = Some None
count_of low high (Some text) = option_map (λ n. Some n) (number_of low high text)

-- an address as it is typed has at most LONGEST_TYPED bytes
abbrev pub url_of : Text → Option Address
url_of text = when (nat_le (length text) LONGEST_TYPED) text >>= read_address

-- the address that a text is, and those behind it; none stands behind a text that is not given
abbrev pub url_and : Option Text → Option (List Address) → Option (List Address)
url_and None later = Some []
url_and (Some text) later = url_of text >>= (λ url. option_map (λ urls. url ∷ urls) later)

-- the addresses that are given under these names
abbrev pub urls_in : Values → List Text → Option (List Address)
urls_in values [] = Some []
urls_in values (name ∷ names) = url_and (values name) (urls_in values names)

abbrev pub has_authority : Address → Address → Bool
has_authority url other = bytes_eq (authority_of other) (authority_of url)

-- no two addresses have one authority
abbrev pub are_apart : List Address → Bool
are_apart [] = true
are_apart (url ∷ urls) = not (list_any (has_authority url) urls) && are_apart urls

-- one address or more, with different authorities
abbrev pub servers_in : Values → Option (List Address)
servers_in values = urls_in values url_names >>= (λ urls. when (nat_le 1 (length urls) && are_apart urls) urls)

-- a base is an address without a query
abbrev pub without_query : Option Address → Option Address
without_query None = None
without_query (Some address) = when (not (is_some address.query)) address

abbrev pub base_of : Text → Option Address
base_of text = without_query (url_of text)

-- the path of a reload is a path that the base does not have
abbrev pub reload_of : Address → Option Text → Option (Option Text)
reload_of base None = Some None
reload_of base (Some path) = when (is_reload_path base path) (Some path)

abbrev pub is_true : Option Text → Bool
is_true None = false
is_true (Some value) = bytes_eq value (codes "true")

-- the graphs chosen by the value of --graph and by --union: not both, and the value is an IRI with a scheme
abbrev pub choice_of : Option Text → Bool → Option Choice
choice_of None false = Some DefaultGraph
choice_of None true = Some Union
choice_of (Some name) false = if is_iri name then Some (Named name) else None
choice_of (Some name) true = None

-- ---- the arguments of each command

abbrev pub choice_in : Values → Option Choice
choice_in values = choice_of (values (codes "graph")) (is_true (values (codes "union")))

-- --page 1 to LARGEST_PAGE (1000), else USUAL_PAGE (100)
abbrev pub page_in : Values → Option ℕ
page_in values = number_in values (codes "page") 1 LARGEST_PAGE USUAL_PAGE

-- --window 1 to MOST_WINDOW (10000), else USUAL_WINDOW (16); --block 2 to MOST_ROWS (64), else 1; --links 1 to MOST_LINKS (256), else USUAL_LINKS (8); --retries 0 to MOST_RETRIES (100), else USUAL_RETRIES (2); --budget 1 to MOST_BUDGET (10^12), else USUAL_BUDGET (10^6); --max-body 1 to LARGEST_BODY (256 MiB), else USUAL_BODY (16 MiB)
abbrev pub client_in : Values → Option ClientWords
client_in values = do
  window ← number_in values (codes "window") 1 MOST_WINDOW USUAL_WINDOW
  block ← number_in values (codes "block") 2 MOST_ROWS 1
  links ← number_in values (codes "links") 1 MOST_LINKS USUAL_LINKS
  retries ← number_in values (codes "retries") 0 MOST_RETRIES USUAL_RETRIES
  budget ← number_in values (codes "budget") 1 MOST_BUDGET USUAL_BUDGET
  max_body ← number_in values (codes "max-body") 1 LARGEST_BODY USUAL_BODY
  Some (record { window = window; block = block; links = links; retries = retries; budget = budget; max_body = max_body })

-- --seed to HIGHEST_NUMBER (9999999999999999999), else 0; none is given beside --block
abbrev pub seed_beside : Bool → Option Text → Option ℕ
seed_beside false given = number_or 0 HIGHEST_NUMBER 0 given
seed_beside true None = Some 0
seed_beside true (Some text) = None

abbrev pub seed_in : Values → Option ℕ
seed_in values = seed_beside (is_some (values (codes "block"))) (values (codes "seed"))

-- local FILE QUERYFILE; --fail-every to RAREST_FAILURE (10^9), else 0, which is never
abbrev pub local_with : Values → Option Choice → Option ClientWords → Option Command
local_with values chosen asked = do
  name ← values (codes "FILE")
  query_name ← values (codes "QUERYFILE")
  choice ← chosen
  client ← asked
  page ← page_in values
  seed ← seed_in values
  fail_every ← number_in values (codes "fail-every") 0 RAREST_FAILURE 0
  Some (local name query_name choice page client seed fail_every)

abbrev pub local_from : Values → Option Command
local_from values = local_with values (choice_in values) (client_in values)

-- query URL QUERYFILE
abbrev pub query_with : Values → Option Address → Option ClientWords → Option Command
query_with values address asked = do
  url ← address
  query_name ← values (codes "QUERYFILE")
  client ← asked
  Some (query url query_name client)

abbrev pub query_from : Values → Option Command
query_from values = query_with values (values (codes "URL") >>= url_of) (client_in values)

-- federate QUERYFILE URL ..
abbrev pub federate_with : Values → Option (List Address) → Option ClientWords → Option Federated
federate_with values servers asked = do
  urls ← servers
  query_name ← values (codes "QUERYFILE")
  client ← asked
  Some (record { query = query_name; urls = urls; client = client })

abbrev pub federate_from : Values → Option Command
federate_from values = option_map federate (federate_with values (servers_in values) (client_in values))

-- whether rows are read, by --rows; not where there is the path of a reload
abbrev pub rows_beside : Option Text → Bool → Option Bool
rows_beside reload rows = when (not (rows && is_some reload)) rows

abbrev pub rows_in : Values → Option Text → Option Bool
rows_in values reload = rows_beside reload (is_true (values (codes "rows")))

-- serve FILE, with --base; --stop-after 1 to MOST_CONNECTIONS (10^9)
abbrev pub serve_with : Values → Option Choice → Address → Option Text → Option Command
serve_with values chosen base reload = do
  name ← values (codes "FILE")
  choice ← chosen
  page ← page_in values
  stop_after ← count_of 1 MOST_CONNECTIONS (values (codes "stop-after"))
  rows ← rows_in values reload
  Some (serve name base choice page stop_after reload rows)

abbrev pub serve_from : Values → Option Command
serve_from values = do
  base ← values (codes "base") >>= base_of
  reload ← reload_of base (values (codes "reload"))
  serve_with values (choice_in values) base reload

-- make N, 1 to MOST_PERSONS (1000000)
abbrev pub make_from : Values → Option Command
make_from values = do
  count ← values (codes "N") >>= number_of 1 MOST_PERSONS
  Some (make count (values (codes "run")))

-- ---- the words after the name of each command

abbrev pub words_of : Form → (Values → Option Command) → List Text → Option Command
words_of form from words = arguments form words >>= from

unfoldable pub local_of : List Text → Option Command
local_of words = words_of local_form local_from words

unfoldable pub query_of : List Text → Option Command
query_of words = words_of query_form query_from words

unfoldable pub federate_of : List Text → Option Command
federate_of words = words_of federate_form federate_from words

unfoldable pub serve_of : List Text → Option Command
serve_of words = words_of serve_form serve_from words

unfoldable pub make_of : List Text → Option Command
make_of words = words_of make_form make_from words

abbrev pub command_by : Text → List Text → Option Command
command_by name words =
    if bytes_eq name (codes "local") then local_of words
    else (if bytes_eq name (codes "query") then query_of words
    else (if bytes_eq name (codes "federate") then federate_of words
    else (if bytes_eq name (codes "serve") then serve_of words
    else (if bytes_eq name (codes "make") then make_of words
    else None))))

-- the command that the words are, if they are one; the first word is the program's name
abbrev pub command_of : List Text → Option Command
command_of (program ∷ name ∷ words) = command_by name words
command_of (program ∷ []) = None
command_of [] = None
