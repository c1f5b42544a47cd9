-- What the tests of terms and of triples say, and the order of texts where it is equal.
use Rattle.std.proofs.Common.{ℕ, ◌≡◌, true, List, refl, ap, ◌∙◌}
use Rattle.std.specs.Ordering.{is_eq}
use Rattle.std.specs.declared.cmp.Ordering.TheVariants.{Equal}
use Rattle.std.specs.Cmp.Lexicographic.{texts_ties}
use Rattle.list_laws.proofs.Bytes.{same_is}
use Rattle.rdf_terms.specs.declared.term.Term.{Term}
use Rattle.rdf_terms.specs.declared.term.Triple.{Triple}
use Rattle.rdf_terms.specs.Same.{term_eq, triple_eq}
use Rattle.rdf_terms.specs.EqualityLaws.{term_decides, triple_decides}
use Rattle.rdf_terms.specs.Order.{bytes_order}

pub term_same : (a b : Term) → term_eq a b ≡ true → a ≡ b
term_same a b e = (term_decides a b).0 e

pub term_self : (t : Term) → term_eq t t ≡ true
term_self t = (term_decides t t).1 refl

pub same_passes : (t s : Term) → t ≡ s → term_eq t s ≡ true
same_passes t s e = (term_decides t s).1 e

pub eq_same : (s t : Triple) → triple_eq s t ≡ true → s ≡ t
eq_same s t e = (triple_decides s t).0 e

pub equal : (x y : List ℕ) → bytes_order x y ≡ Equal → x ≡ y
equal x y e = same_is x y (texts_ties x y ∙ ap is_eq e)
