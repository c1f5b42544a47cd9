-- The chosen triples of one more quad.
use Rattle.std.proofs.Common.{ℕ, ◌≡◌, ◌+◌, ◌<◌, List, [], ◌∷◌, ◌++◌, sym, ap, ◌∙◌, length, get_or, take, map}
use Rattle.std.specs.Prelude.{Option}
use Rattle.std.specs.List.{filter_map}
use Rattle.std.proofs.lemmas.List.{map_more, take_more, map-append}
use Rattle.std.proofs.lemmas.List.Concat.{flat_map-append}
use Rattle.std.proofs.lemmas.List.Elements.{filter-append, filter_map-append}
use Rattle.rdf_terms.specs.declared.term.Term.{Term}
use Rattle.rdf_terms.specs.declared.term.Quad.{Quad}
use Rattle.rdf_terms.specs.declared.term.Triple.{Triple}
use Rattle.triple_table.specs.declared.choice.Choice.{Choice}
use Rattle.triple_table.specs.Chosen.{is_chosen, chosen}
use Rattle.triple_table.specs.Served.{terms_of, terms_in}

chosen-append : (choice : Choice) (xs ys : List Quad) → chosen choice (xs ++ ys) ≡ chosen choice xs ++ chosen choice ys
chosen-append choice xs ys =
    ap (λ qs. map (λ (q : Quad). q.triple) qs) (filter-append (λ (q : Quad). is_chosen choice q.graph) xs ys) ∙ map-append _ _ _

pub chosen_more : (choice : Choice) (quads : List Quad) (i : ℕ) (quad : Quad) → i < length quads → quad ≡ get_or quads i quad →
    chosen choice (take (i + 1) quads) ≡ chosen choice (take i quads) ++ chosen choice (quad ∷ [])
chosen_more choice quads i quad l e =
    ap (chosen choice) (take_more quads i quad l)
    ∙ chosen-append choice (take i quads) (get_or quads i quad ∷ [])
    ∙ ap (λ q. chosen choice (take i quads) ++ chosen choice (q ∷ [])) (sym e)

pub terms_more : (choice : Choice) (quads : List Quad) (i : ℕ) (quad : Quad) → i < length quads → quad ≡ get_or quads i quad →
    terms_of (chosen choice (take (i + 1) quads)) ≡ terms_of (chosen choice (take i quads)) ++ terms_of (chosen choice (quad ∷ []))
terms_more choice quads i quad l e = ap terms_of (chosen_more choice quads i quad l e) ∙ flat_map-append terms_in _ _

pub labels_more : {X : Type 0} (f : Term → Option X) (done : List X) (choice : Choice) (quads : List Quad) (i : ℕ) (quad : Quad) → i < length quads → quad ≡ get_or quads i quad →
    done ≡ filter_map f (terms_of (chosen choice (take i quads))) → done ++ filter_map f (terms_of (chosen choice (quad ∷ []))) ≡ filter_map f (terms_of (chosen choice (take (i + 1) quads)))
labels_more f done choice quads i quad l e h =
    ap (λ xs. xs ++ filter_map f (terms_of (chosen choice (quad ∷ [])))) h ∙ sym (ap (filter_map f) (terms_more choice quads i quad l e) ∙ filter_map-append f _ _)

pub triples_more : (f : Triple → Triple) (old new : List Triple) (choice : Choice) (quads : List Quad) (i : ℕ) (quad : Quad) → i < length quads → quad ≡ get_or quads i quad →
    new ≡ old ++ map f (chosen choice (quad ∷ [])) → old ≡ map f (chosen choice (take i quads)) → new ≡ map f (chosen choice (take (i + 1) quads))
triples_more f old new choice quads i quad l e n o =
    n ∙ ap (λ ts. ts ++ map f (chosen choice (quad ∷ []))) o ∙ sym (ap (map f) (chosen_more choice quads i quad l e) ∙ map-append f _ _)

-- the image of one element more
pub images_more : {X Y : Type 0} (f : X → Y) (from : List X) (i : ℕ) (d : X) (now new : List Y) (y : Y) → i < length from → y ≡ f (get_or from i d) → now ≡ map f (take i from) → new ≡ now ++ y ∷ [] → new ≡ map f (take (i + 1) from)
images_more f from i d now new y l same e h = h ∙ ap (λ ys. ys ++ y ∷ []) e ∙ ap (λ z. map f (take i from) ++ z ∷ []) same ∙ sym (map_more f from i d l)
