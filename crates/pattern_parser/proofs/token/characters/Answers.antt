use Rattle.query_tokens.specs.declared.piece.TheConstants.{LONGEST_QUERY}
use Rattle.query_words.proofs.Chars.{no_more_chars}
use Rattle.pattern_parser.proofs.token.characters.Goals as goal

pub returns-in-Ok-clause-short : goal.returns-in-Ok-clause-short
returns-in-Ok-clause-short c = no_more_chars c.args.text.now c.in-Ok.chars.items LONGEST_QUERY c.utf8.text c.in-Ok.ensures c.requires
