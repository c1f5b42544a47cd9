-- Words, and what they give by the definition.
use Rattle.std.proofs.Common.{◌≡◌, refl, List, [], ◌∷◌, Option, Some, None, codes}
use Rattle.command_words.specs.Words.{Form, Given, Text, given_by}
use Rattle.command_words.specs.Commands.{federate_form, make_form, serve_form}

abbrev given : Form → List Text → Option Given
given form words = given_by form words form.positionals None

value_behind_equals : given make_form (codes "3" ∷ codes "--run=q" ∷ []) ≡ Some ((codes "N", codes "3") ∷ (codes "run", codes "q") ∷ [])
unfolding given_by make_form
value_behind_equals = refl

value_of_its_own : given make_form (codes "--run" ∷ codes "q" ∷ codes "3" ∷ []) ≡ Some ((codes "run", codes "q") ∷ (codes "N", codes "3") ∷ [])
unfolding given_by make_form
value_of_its_own = refl

dash_behind_equals : given make_form (codes "--run=-" ∷ codes "3" ∷ []) ≡ Some ((codes "run", codes "-") ∷ (codes "N", codes "3") ∷ [])
unfolding given_by make_form
dash_behind_equals = refl

dash_of_its_own : given make_form (codes "--run" ∷ codes "-" ∷ codes "3" ∷ []) ≡ None
unfolding given_by make_form
dash_of_its_own = refl

dash_is_a_positional : given serve_form (codes "--union" ∷ codes "-" ∷ []) ≡ Some ((codes "union", codes "true") ∷ (codes "FILE", codes "-") ∷ [])
unfolding given_by serve_form
dash_is_a_positional = refl

option_behind_dashes : given make_form (codes "--" ∷ codes "--run=q" ∷ []) ≡ Some ((codes "N", codes "--run=q") ∷ [])
unfolding given_by make_form
option_behind_dashes = refl

dashes_twice : given make_form (codes "--" ∷ codes "--" ∷ []) ≡ Some ((codes "N", codes "--") ∷ [])
unfolding given_by make_form
dashes_twice = refl

dashes_for_a_value : given make_form (codes "3" ∷ codes "--run" ∷ codes "--" ∷ codes "q" ∷ []) ≡ None
unfolding given_by make_form
dashes_for_a_value = refl

no_value : given make_form (codes "3" ∷ codes "--run" ∷ []) ≡ None
unfolding given_by make_form
no_value = refl

empty_value : given make_form (codes "3" ∷ codes "--run=" ∷ []) ≡ Some ((codes "N", codes "3") ∷ (codes "run", []) ∷ [])
unfolding given_by make_form
empty_value = refl

given_twice : given make_form (codes "--run=q" ∷ codes "3" ∷ codes "--run=q" ∷ []) ≡ None
unfolding given_by make_form
given_twice = refl

flag_twice : given serve_form (codes "--union" ∷ codes "--union" ∷ []) ≡ None
unfolding given_by serve_form
flag_twice = refl

two_flags : given serve_form (codes "--rows" ∷ codes "d" ∷ codes "--union" ∷ []) ≡ Some ((codes "rows", codes "true") ∷ (codes "FILE", codes "d") ∷ (codes "union", codes "true") ∷ [])
unfolding given_by serve_form
two_flags = refl

flag_with_a_value : given serve_form (codes "--union=true" ∷ []) ≡ None
unfolding given_by serve_form
flag_with_a_value = refl

shortened : given make_form (codes "--ru=q" ∷ []) ≡ None
unfolding given_by make_form
shortened = refl

one_dash : given make_form (codes "-run=q" ∷ []) ≡ None
unfolding given_by make_form
one_dash = refl

one_too_many : given make_form (codes "3" ∷ codes "3" ∷ []) ≡ None
unfolding given_by make_form
one_too_many = refl

first_equals : given make_form (codes "--run=a=b" ∷ []) ≡ Some ((codes "run", codes "a=b") ∷ [])
unfolding given_by make_form
first_equals = refl

several_urls : given federate_form (codes "q" ∷ codes "http://a/" ∷ codes "--links=2" ∷ codes "http://b/" ∷ []) ≡ Some ((codes "QUERYFILE", codes "q") ∷ (codes "URL", codes "http://a/") ∷ (codes "links", codes "2") ∷ (codes "URL2", codes "http://b/") ∷ [])
unfolding given_by federate_form
several_urls = refl

nine_urls : given federate_form (codes "q" ∷ codes "a" ∷ codes "b" ∷ codes "c" ∷ codes "d" ∷ codes "e" ∷ codes "f" ∷ codes "g" ∷ codes "h" ∷ codes "i" ∷ []) ≡ None
unfolding given_by federate_form
nine_urls = refl
