-- A row has an extension only where it fits.
use Rattle.std.proofs.Common.{ℕ, ◌≡◌, Bool, true, false, not, nat_eq, ◌||◌, Option, Some, None, slice_get, refl, subst, arith}
use Rattle.rdf_terms.specs.Same.{term_eq}
use Rattle.rdf_terms.specs.declared.term.Term.{Term}
use Rattle.rdf_terms.specs.declared.term.Triple.{Triple}
use Rattle.rdf_terms.proofs.Equality.{same_passes}
use Rattle.bgp_core.specs.declared.pattern.Part.{Part}
use Rattle.bgp_core.specs.declared.pattern.Part.TheVariants.{Fixed, Name}
use Rattle.bgp_core.specs.declared.pattern.Pattern.{Pattern}
use Rattle.bgp_core.specs.Solutions.{Places, extension}
use Rattle.bgp_core.specs.Extends.{Becomes, Extends}
use Rattle.bgp_core.specs.Fits.{allows_at, allows, agree, fits}
use Rattle.bgp_core.proofs.Extending.{extension-some}

place_allows : (o : Option (Option Term)) (t : Term) → ((u : Term) → o ≡ Some (Some u) → u ≡ t) → allows_at o t ≡ true
place_allows None t h = refl
place_allows (Some None) t h = refl
place_allows (Some (Some u)) t h = same_passes u t (h u refl)

part_allows : (p : Part) (t : Term) (row new : Places) → Becomes new p t → ((k : ℕ) (u : Term) → slice_get row k ≡ Some (Some u) → slice_get new k ≡ Some (Some u)) → allows p t row ≡ true
part_allows (Fixed u) t row new b keeps = same_passes u t b
part_allows (Name n) t row new b keeps = place_allows (slice_get row n) t (λ u at. let there : slice_get new n ≡ Some (Some u) = keeps n u at in cc)

names_agree : (e : Bool) (n m : ℕ) (t s : Term) (new : Places) → nat_eq n m ≡ e → slice_get new n ≡ Some (Some t) → slice_get new m ≡ Some (Some s) → (not e || term_eq t s) ≡ true
names_agree false n m t s new e a b = refl
names_agree true n m t s new e a b =
    let same : n ≡ m = grind (arith, e) in
    let there : slice_get new m ≡ Some (Some t) = subst (λ k. slice_get new k ≡ Some (Some t)) same a in
    let terms : t ≡ s = cc in
    same_passes t s terms

parts_agree : (p q : Part) (t s : Term) (new : Places) → Becomes new p t → Becomes new q s → agree p t q s ≡ true
parts_agree (Fixed u) q t s new a b = refl
parts_agree (Name n) (Fixed v) t s new a b = refl
parts_agree (Name n) (Name m) t s new a b = names_agree (nat_eq n m) n m t s new refl a b

extension-fits : (p : Pattern) (row : Places) (t : Triple) (new : Places) → Extends p row t new → fits p row t ≡ true
extension-fits p row t new e =
    let a = part_allows p.subject t.subject row new e.subject e.grows.keeps in
    let b = part_allows p.predicate t.predicate row new e.predicate e.grows.keeps in
    let c = part_allows p.object t.object row new e.object e.grows.keeps in
    let d = parts_agree p.subject p.predicate t.subject t.predicate new e.subject e.predicate in
    let f = parts_agree p.subject p.object t.subject t.object new e.subject e.object in
    let g = parts_agree p.predicate p.object t.predicate t.object new e.predicate e.object in
    rw (a, b, c, d, f, g) refl

pub extension-none : (p : Pattern) (row : Places) (t : Triple) → fits p row t ≡ false → extension p row t ≡ None
extension-none p row t h = by (extension p row t) refl
  where
    by : (o : Option Places) → extension p row t ≡ o → o ≡ None
    by None e = refl
    by (Some new) e = let yes : fits p row t ≡ true = extension-fits p row t new (extension-some p row t new e) in cc
