-- The datatype of numbers.
use Rattle.std.proofs.Common.{◌≡◌, ℕ, List, true, refl}
use Rattle.rdf_terms.specs.Datatype.{is_datatype, xsd_string, lang_string}
use Rattle.tpf_base.specs.Decimals.{decimal_text}
use Rattle.template_fill.specs.Metadata.{integer}
use Rattle.metadata_quads.specs.declared.term_text.TermKind.TheVariants as kinds
use Rattle.metadata_quads.specs.TermTexts.{term_as, xsd_integer}

integer_is_datatype : is_datatype xsd_integer ≡ true
unfolding xsd_string lang_string
integer_is_datatype = refl

pub is_datatype-is : (text : List ℕ) → text ≡ xsd_integer → is_datatype text ≡ true
is_datatype-is text e = rw e integer_is_datatype

-- the literal of a number
pub integer_is : (n : ℕ) → term_as kinds.Integer (decimal_text n) ≡ integer n
unfolding integer xsd_string
integer_is n = refl
