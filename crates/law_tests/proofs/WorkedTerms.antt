-- The definitions computed at examples.
use Rattle.std.proofs.Common.{◌≡◌, true, false, refl}
use Rattle.std.specs.Prelude.{codes}
use Rattle.std.specs.declared.cmp.Ordering.TheVariants.{Less}
use Rattle.rdf_terms.specs.declared.term.Term.TheVariants.{Iri, Blank, Literal}
use Rattle.rdf_terms.specs.declared.term.Kind.TheVariants.{Plain}
use Rattle.rdf_terms.specs.Iri.{is_iri}
use Rattle.rdf_terms.specs.Tag.{is_tag, is_lower_tag}
use Rattle.rdf_terms.specs.Canon.{canonical_term}
use Rattle.rdf_terms.specs.Order.{term_order}
use Rattle.rdf_terms.specs.Fragments.{last_page_of}

-- seven triples on pages of three, six, and none
seven : last_page_of 7 3 ≡ 3
seven = refl

six : last_page_of 6 3 ≡ 2
six = refl

none : last_page_of 0 3 ≡ 1
none = refl

quoted : canonical_term (Literal (codes "say \"hi\"^^x") Plain) ≡ codes "\"say \\\"hi\\\"^^x\""
quoted = refl

-- the closing mark counts: 1 is below >
closing : term_order (Iri (codes "http://a1")) (Iri (codes "http://a")) ≡ Less
unfolding term_order
closing = refl

classes : term_order (Iri (codes "http://z")) (Blank (codes "a")) ≡ Less
unfolding term_order
classes = refl

tags : is_tag (codes "en-US") ≡ true
unfolding is_tag
tags = refl

no_letters : is_tag (codes "1-a") ≡ false
unfolding is_tag
no_letters = refl

not_lower : is_lower_tag (codes "en-US") ≡ false
unfolding is_tag is_lower_tag
not_lower = refl

digit_first : is_iri (codes "1a:b") ≡ false
digit_first = refl
