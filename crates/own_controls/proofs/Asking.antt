-- Which quads of a list pass a test, and which named quads a body holds.
use Rattle.std.proofs.Common.{◌≡◌, ◌⊎◌, inl, inr, Bool, true, ◌&&◌, List, [], ◌∷◌, ◌++◌, map, Some, None, refl, sym, ap, subst}
use Rattle.std.specs.List.{AllByRecursion, Contains, filter}
use Rattle.std.proofs.lemmas.List.Elements.{All-from_recursion, All-contains, Contains-append_cases, Contains-append_right}
use Rattle.std.proofs.lemmas.Bool.{and_from}
use Rattle.list_laws.proofs.Members.{at_head, from_filter, in_filter, none_in, one_of}
use Rattle.rdf_terms.specs.declared.term.Term.{Term}
use Rattle.rdf_terms.specs.declared.term.Triple.{Triple}
use Rattle.rdf_terms.specs.declared.term.Quad.{Quad}
use Rattle.rdf_terms.specs.Same.{term_eq}
use Rattle.rdf_terms.specs.EqualityLaws.{term_decides}
use Rattle.template_fill.specs.Bodies.{in_default_graph}
use Rattle.control_triples.specs.Controls.{Holds}

-- ---- those that pass

-- the only one that passes
pub one_passes : (test : Quad → Bool) (xs : List Quad) (one q : Quad) → filter test xs ≡ one ∷ [] → test q ≡ true → Contains xs q → q ≡ one
one_passes test xs one q e passes h = sym (one_of one q (subst (λ (ys : List Quad). Contains ys q) e (in_filter test xs q passes h)))

pub one_stands : (test : Quad → Bool) (xs : List Quad) (one : Quad) → filter test xs ≡ one ∷ [] → Contains xs one
one_stands test xs one e = from_filter test xs one (subst (λ (ys : List Quad). Contains ys one) (sym e) (at_head one []))

pub none_passes : (test : Quad → Bool) (xs : List Quad) (q : Quad) → filter test xs ≡ [] → test q ≡ true → Contains xs q → ⊥
none_passes test xs q e passes h = none_in q (subst (λ (ys : List Quad). Contains ys q) e (in_filter test xs q passes h))

-- ---- tests

abbrev pub asks : Term → Quad → Bool
asks predicate q = term_eq q.triple.predicate predicate

abbrev pub asks_object : Term → Term → Quad → Bool
asks_object predicate object q = term_eq q.triple.predicate predicate && term_eq q.triple.object object

abbrev pub asks_subject : Term → Term → Quad → Bool
asks_subject predicate subject q = term_eq q.triple.predicate predicate && term_eq q.triple.subject subject

-- ---- quads of named graphs

abbrev pub named : Term → Term → Term → Term → Quad
named graph subject predicate object = record { triple = record { subject = subject; predicate = predicate; object = object }; graph = Some graph }

pub asked : (g s p o : Term) → asks p (named g s p o) ≡ true
asked g s p o = (term_decides p p).1 refl

pub asked_object : (g s p o wanted : Term) → o ≡ wanted → asks_object p wanted (named g s p o) ≡ true
asked_object g s p o wanted e = and_from (term_eq p p) (term_eq o wanted) ((term_decides p p).1 refl) ((term_decides o wanted).1 e)

pub asked_subject : (g s p o wanted : Term) → s ≡ wanted → asks_subject p wanted (named g s p o) ≡ true
asked_subject g s p o wanted e = and_from (term_eq p p) (term_eq s wanted) ((term_decides p p).1 refl) ((term_decides s wanted).1 e)

in_default : (ts : List Triple) → AllByRecursion (λ (q : Quad). q.graph ≡ None) (map in_default_graph ts)
in_default [] = tt
in_default (t ∷ ts) = (refl, in_default ts)

not_default : (graph : Term) → Some graph ≡ None → ⊥
not_default graph e = cc

named_by : (ts : List Triple) (rest : List Quad) (g s p o : Term) → Contains (map in_default_graph ts) (named g s p o) ⊎ Contains rest (named g s p o) → Contains rest (named g s p o)
named_by ts rest g s p o (inl h) = absurd (not_default g (All-contains (λ (q : Quad). q.graph ≡ None) (map in_default_graph ts) (named g s p o) (All-from_recursion (λ (q : Quad). q.graph ≡ None) (map in_default_graph ts) (in_default ts)) h))
named_by ts rest g s p o (inr h) = h

-- the data holds none
pub named_stands : (ts : List Triple) (rest : List Quad) (g s p o : Term) → Holds (map in_default_graph ts ++ rest) g s p o → Contains rest (named g s p o)
named_stands ts rest g s p o h = named_by ts rest g s p o (Contains-append_cases (map in_default_graph ts) rest (named g s p o) h)

pub holds_named : (ts : List Triple) (rest : List Quad) (g s p o : Term) → Contains rest (named g s p o) → Holds (map in_default_graph ts ++ rest) g s p o
holds_named ts rest g s p o h = Contains-append_right (map in_default_graph ts) rest (named g s p o) h

-- ---- parts of equal quads

pub same_subject : (g s p o h t q r : Term) → named g s p o ≡ named h t q r → s ≡ t
same_subject g s p o h t q r e = ap (λ (x : Quad). x.triple.subject) e

pub same_object : (g s p o h t q r : Term) → named g s p o ≡ named h t q r → o ≡ r
same_object g s p o h t q r e = ap (λ (x : Quad). x.triple.object) e
