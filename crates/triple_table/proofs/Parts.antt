-- The parts of the IRI of a blank node.
use Rattle.std.proofs.Common.{ℕ, ◌≡◌, ◌≢◌, List, [], ◌∷◌, ◌++◌, Option, Some, None, sym, ap, ◌∙◌, append_assoc}
use Rattle.std.specs.Prelude.{MatchOption, codes}
use Rattle.std.specs.Borrow.{Bor}
use Rattle.list_laws.proofs.Lists.{tails}
use Rattle.triple_table.specs.Genid.{genid}

pub same_rest : (front xs ys : List ℕ) → front ++ xs ≡ front ++ ys → xs ≡ ys
same_rest [] xs ys e = e
same_rest (b ∷ front) xs ys e = same_rest front xs ys (tails b b _ _ e)

-- the IRI by its parts, one behind the other
pub genid_parts : (authority label : List ℕ) → genid authority label ≡ codes "http://" ++ (authority ++ (codes "/.well-known/genid/" ++ label))
genid_parts authority label = ap (λ rest. codes "http://" ++ rest) (append_assoc authority (codes "/.well-known/genid/") label)

pub label_of_parts : (r : Option (Bor (List ℕ))) (iri authority rest label : List ℕ) → iri ≡ codes "http://" ++ rest → rest ≡ authority ++ label →
    MatchOption r ((x : List ℕ) → label ≢ codes "/.well-known/genid/" ++ x) (λ x. label ≡ codes "/.well-known/genid/" ++ x.now) →
    MatchOption r ((x : List ℕ) → iri ≢ genid authority x) (λ x. iri ≡ genid authority x.now)
label_of_parts None iri authority rest label e f h =
    λ x g. h x (same_rest authority _ _ (sym f ∙ same_rest (codes "http://") rest _ (sym e ∙ g ∙ genid_parts authority x)))
label_of_parts (Some x) iri authority rest label e f h =
    e ∙ ap (λ rest. codes "http://" ++ rest) (f ∙ ap (λ label. authority ++ label) h) ∙ sym (genid_parts authority x.now)

-- two IRIs of one authority are the same only for the same label
pub genid_same : (authority a b : List ℕ) → genid authority a ≡ genid authority b → a ≡ b
genid_same authority a b e =
    same_rest (codes "/.well-known/genid/") a b (same_rest authority _ _ (same_rest (codes "http://") _ _ (sym (genid_parts authority a) ∙ e ∙ genid_parts authority b)))
