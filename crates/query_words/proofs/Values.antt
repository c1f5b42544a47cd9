-- What a kind of token says of the token.
use Rattle.std.proofs.Common.{◌≡◌, refl}
use Rattle.query_grammar.specs.declared.kind.Kind.TheVariants as kinds
use Rattle.query_words.specs.declared.word.Value.{Value}
use Rattle.query_words.specs.declared.word.Value.TheVariants as values
use Rattle.query_words.specs.Words.{kind_of}

pub open_value : (v : Value) → kind_of v ≡ kinds.OpenBrace → v ≡ values.OpenBrace
open_value values.OpenBrace e = refl
open_value _ e = cc

pub close_value : (v : Value) → kind_of v ≡ kinds.CloseBrace → v ≡ values.CloseBrace
close_value values.CloseBrace e = refl
close_value _ e = cc
