-- A failed call gives its error.
use Rattle.std.proofs.lemmas.Result.{IfOk-from_err}
use Rattle.query_words.proofs.word.value_of.Goals as goal

pub returns-in_err-resolved_text-in-Iri : goal.returns-in_err-resolved_text-in-Iri
returns-in_err-resolved_text-in-Iri c = IfOk-from_err _ _ c.from_residual.ensures.0

pub returns-in_err-prefix_text-in-Prefix : goal.returns-in_err-prefix_text-in-Prefix
returns-in_err-prefix_text-in-Prefix c = IfOk-from_err _ _ c.from_residual-in_err-prefix_text-in-Prefix.ensures.0

pub returns-in_err-prefix_text-in-Prefixed : goal.returns-in_err-prefix_text-in-Prefixed
returns-in_err-prefix_text-in-Prefixed c = IfOk-from_err _ _ c.from_residual-in_err-prefix_text-in-Prefixed.ensures.0

pub local_text-requires : goal.local_text-requires
local_text-requires c = c.requires

pub returns-in_err-local_text-in-Prefixed : goal.returns-in_err-local_text-in-Prefixed
returns-in_err-local_text-in-Prefixed c = IfOk-from_err _ _ c.from_residual-in_err-local_text-in-Prefixed.ensures.0

pub returns-in_err-text_after_first-in-Variable : goal.returns-in_err-text_after_first-in-Variable
returns-in_err-text_after_first-in-Variable c = IfOk-from_err _ _ c.from_residual-in_err-text_after_first-in-Variable.ensures.0

pub returns-in_err-text_of-in-Blank : goal.returns-in_err-text_of-in-Blank
returns-in_err-text_of-in-Blank c = IfOk-from_err _ _ c.from_residual-in_err-text_of-in-Blank.ensures.0

pub returns-in_err-resolved_text-in-Str : goal.returns-in_err-resolved_text-in-Str
returns-in_err-resolved_text-in-Str c = IfOk-from_err _ _ c.from_residual-in_err-resolved_text-in-Str.ensures.0

pub returns-in_err-text_after_first-in-Tag : goal.returns-in_err-text_after_first-in-Tag
returns-in_err-text_after_first-in-Tag c = IfOk-from_err _ _ c.from_residual-in_err-text_after_first-in-Tag.ensures.0

pub returns-in_err-number_value-in-Integer : goal.returns-in_err-number_value-in-Integer
returns-in_err-number_value-in-Integer c = IfOk-from_err _ _ c.from_residual-in_err-number_value-in-Integer.ensures.0
