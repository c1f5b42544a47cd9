-- What is left of the body of an answer that was begun.
use Rattle.std.specs.Prelude.{ℕ, ◌<◌, ◌≤◌, Bool, true, false, List, [], length}
use Rattle.template_fill.specs.HttpAnswer.{refusal}
use Rattle.page_responses.specs.declared.limits.TheConstants.{LONGEST_PART}
use Rattle.page_responses.specs.declared.rest.Rest.{Rest}
use Rattle.page_responses.specs.declared.rest.Rest.TheVariants.{Nothing, Line, Words, Page}
use Rattle.page_responses.specs.Statuses.{code}
use Rattle.page_responses.specs.PageRests.{ArePart, page_left, page_text}

-- the text that is left of a body
unfoldable pub rest_text : Rest → List ℕ
rest_text Nothing = []
rest_text (Line status) = (refusal (code status)).body
rest_text (Words text) = text
rest_text (Page page) = page_text page

abbrev pub is_left : Rest → Bool
is_left Nothing = false
is_left (Line status) = true
is_left (Words text) = true
is_left (Page page) = page_left page

-- the triples are of their table, and a text has a byte and is short
abbrev pub IsWithin : Rest → Type 0
IsWithin Nothing = Unit {0}
IsWithin (Line status) = Unit {0}
IsWithin (Words text) = (0 < length text) × (length text ≤ LONGEST_PART)
IsWithin (Page page) = ArePart page.table page.triples
