use Rattle.std.proofs.Common.{refl, ap, ◌∙◌, inl, inr, List, ℕ}
use Rattle.rdf_terms.specs.declared.term.Term.TheVariants.{Iri}
use Rattle.tpf_base.specs.Addresses.{address_text}
use Rattle.control_triples.specs.Parts.{abouts}
use Rattle.page_controls.proofs.told.read_controls.Goals as goal

pub returns-in_default : goal.returns-in_default
returns-in_default c = inr (inl (refl, c.in_default.ensures c.args.quads.now (address_text c.args.address.now) (ap abouts c.as_slice.ensures.value ∙ c.in_ok-topics.ensures) (c.in_ok-own.ensures ∙ ap (λ (x : List ℕ). Iri x) c.text.ensures.text)))

pub read_topic-requires-clause-topics : goal.read_topic-requires-clause-topics
read_topic-requires-clause-topics c = ap abouts c.as_slice-2.ensures.value ∙ c.in_ok-topics.ensures

pub read_topic-requires-clause-topic : goal.read_topic-requires-clause-topic
read_topic-requires-clause-topic c = c.in-Some.ensures c.args.quads.now (address_text c.args.address.now) (ap abouts c.as_slice.ensures.value ∙ c.in_ok-topics.ensures) (c.in_ok-own.ensures ∙ ap (λ (x : List ℕ). Iri x) c.text.ensures.text)
