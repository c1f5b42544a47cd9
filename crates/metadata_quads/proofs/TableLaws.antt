-- The statements of the metadata by their places, and the addresses in them.
use Rattle.std.proofs.Common.{◌≡◌, ℕ, ◌+◌, ◌<◌, ◌==◌, Bool, true, false, List, [], ◌∷◌, ◌++◌, length, refl, sym, ap, subst, ◌∙◌, arith, if◌then◌else◌}
use Rattle.std.specs.Prelude.{Some, codes, slice_index_or}
use Rattle.std.specs.List.{list_all}
use Rattle.rdf_terms.proofs.Iris.{is_iri_append}
use Rattle.rdf_terms.specs.Iri.{is_iri, is_iri_byte}
use Rattle.rdf_terms.specs.declared.term.Term.{Term}
use Rattle.rdf_terms.specs.declared.term.Term.TheVariants.{Iri}
use Rattle.rdf_terms.specs.declared.term.Quad.{Quad}
use Rattle.tpf_base.specs.Decimals.{decimal_text}
use Rattle.template_fill.specs.Pages.{page_pair}
use Rattle.template_fill.specs.Metadata.{statement, mapping_quads}
use Rattle.hydra_controls.specs.declared.facts.PageFacts.{PageFacts}
use Rattle.hydra_controls.specs.Facts.{mapping_of, mappings_of, mark_of}
use Rattle.hydra_controls.proofs.Iris.{decimal-iri}
use Rattle.hydra_controls.proofs.TableLaws.{before, behind}

-- ---- the address of a page

mark-iri : (fixed : Bool) (more : List ℕ) → list_all is_iri_byte more ≡ true → list_all is_iri_byte ((mark_of fixed ∷ codes "page=") ++ more) ≡ true
mark-iri true more own = own
mark-iri false more own = own

pair-iri : (first_page fixed : Bool) (k : ℕ) → list_all is_iri_byte (if first_page then [] else mark_of fixed ∷ (codes "page=" ++ decimal_text k)) ≡ true
pair-iri true fixed k = refl
pair-iri false fixed k = mark-iri fixed (decimal_text k) (decimal-iri k)

-- the address of a page, with more characters of an IRI behind it, is an IRI
pub page_is_iri : (first name text : List ℕ) (fixed : Bool) (k : ℕ) → text ≡ (first ++ page_pair (mark_of fixed) k) ++ name → is_iri first ≡ true → list_all is_iri_byte name ≡ true → is_iri text ≡ true
page_is_iri first name text fixed k is own all =
    let page = is_iri_append first (page_pair (mark_of fixed) k) own (pair-iri (k == 1) fixed k) in
    subst (λ (l : List ℕ). is_iri l ≡ true) (sym is) (is_iri_append (first ++ page_pair (mark_of fixed) k) name page all)

-- ---- a statement in a list

-- a statement of terms that are equal to given ones
said : (graph : List ℕ) (s p o x y z : Term) → s ≡ x → p ≡ y → o ≡ z → statement graph s p o ≡ statement graph x y z
said graph s p o x y z es ep eo = λ i. statement graph (es i) (ep i) (eo i)

pub says_is : (s p o g : Term) (graph : List ℕ) → g ≡ Iri graph → (let quad : Quad = record { triple = record { subject = s; predicate = p; object = o }; graph = Some g } in quad ≡ statement graph s p o)
says_is s p o g graph is = ap (λ (t : Term). record { triple = record { subject = s; predicate = p; object = o }; graph = Some t }) is

-- the statement in place n of a list
pub row : (quads : List Quad) (i n : ℕ) (q : Quad) (graph : List ℕ) (s p o x y z : Term) (d : Quad) → i ≡ n → q ≡ statement graph s p o → s ≡ x → p ≡ y → o ≡ z
    → slice_index_or quads n d ≡ statement graph x y z → slice_index_or quads i d ≡ q
row quads i n q graph s p o x y z d is same es ep eo at = ap (λ (k : ℕ). slice_index_or quads k d) is ∙ at ∙ sym (same ∙ said graph s p o x y z es ep eo)

-- the statement that stands alone
pub alone : (quads : List Quad) (q : Quad) (graph : List ℕ) (s p o x y z : Term) → q ≡ statement graph s p o → s ≡ x → p ≡ y → o ≡ z → quads ≡ statement graph x y z ∷ [] → quads ≡ q ∷ []
alone quads q graph s p o x y z same es ep eo is = is ∙ ap (λ (x : Quad). x ∷ []) (sym (same ∙ said graph s p o x y z es ep eo))

-- ---- the three mappings

mapping_size : (f : PageFacts) (label name : List ℕ) → length (mapping_of f label name) ≡ 3
unfolding mapping_quads
mapping_size f label name = refl

pub first_mapping : (f : PageFacts) (i : ℕ) (d : Quad) → i < 3 → slice_index_or (mappings_of f) i d ≡ slice_index_or (mapping_of f (codes "s") (codes "subject")) i d
first_mapping f i d within =
    before (mapping_of f (codes "s") (codes "subject")) (mapping_of f (codes "p") (codes "predicate") ++ mapping_of f (codes "o") (codes "object")) i d (omega (arith, within, mapping_size f (codes "s") (codes "subject")))

behind_first : (f : PageFacts) (i j : ℕ) (d : Quad) → i ≡ 3 + j → slice_index_or (mappings_of f) i d ≡ slice_index_or (mapping_of f (codes "p") (codes "predicate") ++ mapping_of f (codes "o") (codes "object")) j d
behind_first f i j d is =
    behind (mapping_of f (codes "s") (codes "subject")) (mapping_of f (codes "p") (codes "predicate") ++ mapping_of f (codes "o") (codes "object")) 3 i j d (mapping_size f (codes "s") (codes "subject")) is

pub second_mapping : (f : PageFacts) (i j : ℕ) (d : Quad) → i ≡ 3 + j → j < 3 → slice_index_or (mappings_of f) i d ≡ slice_index_or (mapping_of f (codes "p") (codes "predicate")) j d
second_mapping f i j d is within =
    behind_first f i j d is ∙ before (mapping_of f (codes "p") (codes "predicate")) (mapping_of f (codes "o") (codes "object")) j d (omega (arith, within, mapping_size f (codes "p") (codes "predicate")))

pub third_mapping : (f : PageFacts) (i j : ℕ) (d : Quad) → i ≡ 6 + j → slice_index_or (mappings_of f) i d ≡ slice_index_or (mapping_of f (codes "o") (codes "object")) j d
third_mapping f i j d is =
    behind_first f i (3 + j) d (omega (arith, is)) ∙ behind (mapping_of f (codes "p") (codes "predicate")) (mapping_of f (codes "o") (codes "object")) 3 (3 + j) j d (mapping_size f (codes "p") (codes "predicate")) refl
