-- What the grammar says of tokens before they are read. It serves the reader and the proofs alone.
use Rattle.std.specs.Prelude.{ℕ, List, [], Option}
use Rattle.query_words.specs.declared.word.Word.{Word}
use Rattle.pattern_parser.specs.Items.{names_after}
use Rattle.group_query.specs.Trees.{Tree}
use Rattle.group_faults.specs.declared.limits.TheConstants.{MOST_OPEN}
use Rattle.group_parser.specs.Groups.{IsGroup}

-- the tokens of a SELECT part stand before those of some group, nested at most MOST_OPEN deep
abbrev pub IsProduced : (List ℕ → Option (List ℕ)) → List Word → List Word → Type 0
IsProduced iri select block = (t : Tree) × (names : List (List ℕ)) × IsGroup iri MOST_OPEN (names_after [] 0 select) block t names
