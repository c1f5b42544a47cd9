-- The labels of the metadata's blank nodes.
use Rattle.std.proofs.Common.{◌≡◌, ℕ, List, true, not, refl}
use Rattle.std.specs.Prelude.{codes}
use Rattle.std.specs.List.{list_all}
use Rattle.std.specs.Char.{is_ascii}
use Rattle.std.specs.Str.{is_utf8, chars}
use Rattle.std.proofs.lemmas.Str.{chars-IsAscii, is_utf8-from_IsUtf8}
use Rattle.list_laws.proofs.Bytes.{ascii_list}
use Rattle.rdf_terms.specs.Label.{is_label, begins_label, are_label_chars, ends_in_dot}
use Rattle.template_fill.proofs.Addresses.{utf8-ascii}

-- a label of ASCII
ascii_label : (bytes : List ℕ) → list_all is_ascii bytes ≡ true → begins_label bytes ≡ true → are_label_chars bytes ≡ true → not (ends_in_dot bytes) ≡ true → is_label bytes ≡ true
unfolding is_label
ascii_label bytes all begins are dot =
    let valid : is_utf8 bytes ≡ true = is_utf8-from_IsUtf8 bytes (utf8-ascii bytes all) in
    let same : chars bytes ≡ bytes = chars-IsAscii bytes (ascii_list bytes all) in
    rw (valid, same, begins, are, dot) refl

pub form_is_label : is_label (codes "form") ≡ true
form_is_label = ascii_label (codes "form") refl refl refl refl

pub subject_is_label : is_label (codes "s") ≡ true
subject_is_label = ascii_label (codes "s") refl refl refl refl

pub predicate_is_label : is_label (codes "p") ≡ true
predicate_is_label = ascii_label (codes "p") refl refl refl refl

pub object_is_label : is_label (codes "o") ≡ true
object_is_label = ascii_label (codes "o") refl refl refl refl
