-- Queries whose requests carry rows.
use Rattle.std.specs.Prelude.{Bool, nat_lt, if◌then◌else◌}
use Rattle.tpf_client.specs.declared.options.Options.{Options}
use Rattle.data_files.specs.declared.query.Grammar.{Grammar}
use Rattle.data_files.specs.declared.query.Grammar.TheVariants as grammars

-- a request may carry more rows than one
abbrev pub in_blocks : Options → Bool
in_blocks options = nat_lt 1 options.block

-- then the text of the query is read as one basic graph pattern, and else it may have groups
abbrev pub grammar_of : Options → Grammar
grammar_of options = if in_blocks options then grammars.Patterns else grammars.Groups
