-- Each solution has as many places as the row that it extends.
use Rattle.std.proofs.Common.{ℕ, ◌≡◌, Bool, if◌then◌else◌, true, false, List, [], ◌∷◌, length, Option, Some, None, slice_get, replicate, sym, subst, ◌∙◌}
use Rattle.std.specs.List.{AllByRecursion, flat_map}
use Rattle.std.proofs.Math.ListN.{length-set, length-replicate}
use Rattle.list_laws.proofs.Each.{all_append}
use Rattle.rdf_terms.specs.Same.{term_eq}
use Rattle.rdf_terms.specs.declared.term.Term.{Term}
use Rattle.rdf_terms.specs.declared.term.Triple.{Triple}
use Rattle.bgp_core.specs.declared.pattern.Part.{Part}
use Rattle.bgp_core.specs.declared.pattern.Part.TheVariants.{Fixed, Name}
use Rattle.bgp_core.specs.declared.pattern.Pattern.{Pattern}
use Rattle.bgp_core.specs.Solutions.{Places, put, bind, extended, extension, rows_from, solutions}

-- a row that there may be has this length
abbrev pub IfLength : ℕ → Option Places → Type 0
IfLength n None = Unit {0}
IfLength n (Some row) = length row ≡ n

chosen : (n : ℕ) (b : Bool) (row : Places) → length row ≡ n → IfLength n (if b then Some row else None)
chosen n true row h = h
chosen n false row h = tt

put-length : (n : ℕ) (o : Option (Option Term)) (k : ℕ) (t : Term) (row : Places) → length row ≡ n → IfLength n (put o k t row)
put-length n None k t row h = tt
put-length n (Some None) k t row h = length-set row k (Some t) ∙ h
put-length n (Some (Some u)) k t row h = chosen n (term_eq u t) row h

bind-length : (n : ℕ) (p : Part) (t : Term) (row : Places) → length row ≡ n → IfLength n (bind p t row)
bind-length n (Fixed u) t row h = chosen n (term_eq u t) row h
bind-length n (Name k) t row h = put-length n (slice_get row k) k t row h

then-length : (n : ℕ) (o : Option Places) (f : Places → Option Places) → IfLength n o → ((row : Places) → length row ≡ n → IfLength n (f row)) → IfLength n (extended o f)
then-length n None f h g = tt
then-length n (Some row) f h g = g row h

pub extension-length : (n : ℕ) (p : Pattern) (row : Places) (t : Triple) → length row ≡ n → IfLength n (extension p row t)
unfolding extension
extension-length n p row t h =
    then-length n (extended (bind p.subject t.subject row) (bind p.predicate t.predicate)) (bind p.object t.object)
    (then-length n (bind p.subject t.subject row) (bind p.predicate t.predicate) (bind-length n p.subject t.subject row h) (bind-length n p.predicate t.predicate))
    (bind-length n p.object t.object)

abbrev pub HaveLength : ℕ → List Places → Type 0
HaveLength n rows = AllByRecursion (λ r. n ≡ length r) rows

from-have : (n : ℕ) (o : Option Places) (f : Places → List Places) → IfLength n o → ((row : Places) → length row ≡ n → HaveLength n (f row)) → HaveLength n (rows_from o f)
from-have n None f h g = tt
from-have n (Some row) f h g = g row h

each-have : (n : ℕ) (f : Triple → List Places) (ts : List Triple) → ((t : Triple) → HaveLength n (f t)) → HaveLength n (flat_map f ts)
each-have n f [] h = tt
each-have n f (t ∷ ts) h = all_append (λ r. n ≡ length r) (f t) (flat_map f ts) (h t) (each-have n f ts h)

pub solutions-have : (n : ℕ) (triples : List Triple) (ps : List Pattern) (row : Places) → length row ≡ n → HaveLength n (solutions triples ps row)
solutions-have n triples [] row h = (sym h, tt)
solutions-have n triples (p ∷ ps) row h = each-have n (λ t. rows_from (extension p row t) (solutions triples ps)) triples (λ t. from-have n (extension p row t) (solutions triples ps) (extension-length n p row t h) (solutions-have n triples ps))

pub all_fit : (n : ℕ) (triples : List Triple) (ps : List Pattern) (rows : List Places) → rows ≡ solutions triples ps (replicate n None) → HaveLength n rows
all_fit n triples ps rows e = subst (HaveLength n) (sym e) (solutions-have n triples ps (replicate n None) (length-replicate n None))
