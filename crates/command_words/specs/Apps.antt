-- The command of clap that has the arguments of a form, and when it is fit to be asked. It serves the reading of words alone.
use Rattle.std.specs.Prelude.{◌<◌, ◌&&◌, ◌||◌, not, Bool, true, false, List, [], ◌∷◌, ◌++◌, map, length, codes, Some, None}
use Rattle.std.specs.Str.{bytes_eq}
use Rattle.clap.specs.Lexer.{usize_max}
use Rattle.clap.specs.Words.{App, Rule, Row, new_app, new_rule, first_of, found_of, rows_of}
use Rattle.clap.specs.declared.parser.matches.ArgMatches.{ArgMatches}
use Rattle.clap.specs.declared.builder.ArgAction.TheVariants.{Set, SetTrue}
use Rattle.command_words.specs.declared.arguments.Role.{Role}
use Rattle.command_words.specs.declared.arguments.Role.TheVariants as roles
use Rattle.command_words.specs.Words.{Form, Text, Kind, option, ends, refused, plain, Values, kind_of, is_among}

abbrev pub option_rule : Text → Rule
option_rule name = record (new_rule name) { long = Some name; action = Some Set }

abbrev pub flag_rule : Text → Rule
flag_rule name = record (new_rule name) { long = Some name; action = Some SetTrue }

abbrev pub positional_rule : Text → Rule
positional_rule name = record (new_rule name) { action = Some Set }

-- the rule of an argument by its role
abbrev pub rule_of : Role → Text → Rule
rule_of roles.Positional = positional_rule
rule_of roles.Option = option_rule
rule_of roles.Flag = flag_rule

-- a command with no help and no version, all whose words are its arguments
abbrev pub bare_app : App
bare_app =
    let plain = new_app (codes "tpf") in
    record plain {
      top = record plain.top {
        no_binary_name = true;
        disable_help_flag = true;
        disable_help_subcommand = true;
        disable_version_flag = true;
      };
    }

abbrev pub with_rules : App → List Rule → App
with_rules app rules = record app { top = record app.top { rules = app.top.rules ++ rules } }

abbrev pub app_of_form : Form → App
app_of_form form = with_rules (with_rules (with_rules bare_app (map positional_rule form.positionals)) (map option_rule form.options)) (map flag_rule form.flags)

-- each positional of the command has a place of its own
abbrev pub HasFew : List Text → Type 0
HasFew names = length names < usize_max

-- the word names an option whose value comes next
abbrev pub asks : List Text → Kind → Bool
asks options (option name None) = is_among name options
asks options (option name (Some value)) = false
asks options ends = false
asks options refused = false
asks options plain = false

-- an option's value that is a word of its own is - alone, which clap takes for a value
unfoldable pub has_lone_dash : List Text → Bool → List Text → Bool
has_lone_dash options waits [] = false
has_lone_dash options waits (word ∷ words) = (waits && bytes_eq word (codes "-")) || (not (bytes_eq word (codes "--")) && has_lone_dash options (asks options (kind_of word)) words)

-- the values that clap found
abbrev pub found_values : List Row → Values
found_values rows name = first_of name rows

abbrev pub found_in : ArgMatches → Values
found_in matches = found_values (rows_of (found_of matches))
