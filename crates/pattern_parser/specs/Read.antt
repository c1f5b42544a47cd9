-- What the productions of a block say of the texts that are read.
use Rattle.std.specs.Prelude.{ℕ, List}
use Rattle.query_words.specs.declared.word.Word.{Word}
use Rattle.pattern_parser.specs.Items.{items_after}
use Rattle.pattern_parser.specs.Productions.{Body}
use Rattle.pattern_parser.specs.Queries.{Reads, prefixes, body, block, select_names, triples_of}

-- between the braces of a text that is read stands a block of the productions, or nothing, and its patterns are those that the query has
abbrev pub ReadAsProduced : Type 0
ReadAsProduced = (text : List ℕ) (ws : List Word) → Reads text ws → Body (items_after (prefixes ws) (select_names (body ws)) 0 (block (body ws))) (triples_of (prefixes ws) (body ws))
