use Rattle.std.proofs.Common.{◌≡◌, ◌++◌, drop, map}
use Rattle.pattern_parser.specs.Tokens.{token_of}
use Rattle.pattern_parser.proofs.token.tokens_of.Given as goal

abbrev pub invariant-loop-piece : goal.invariant-loop-piece
invariant-loop-piece l = l.tokens.items ++ map token_of (drop l.piece-index l.pieces) ≡ map token_of l.pieces
