-- A row that fits a triple is extended by it, part by part: what was tested before stays true while parts are bound.
use Rattle.std.proofs.Common.{ℕ, ◌≡◌, inl, inr, Bool, true, false, not, if◌then◌else◌, ◌&&◌, ◌||◌, nat_eq, Option, Some, None, slice_get, slice_set, refl, ap, sym, subst, ◌∙◌, arith}
use Rattle.std.proofs.lemmas.Bool.{and_parts, cases_eq}
use Rattle.rdf_terms.specs.Same.{term_eq}
use Rattle.rdf_terms.specs.declared.term.Term.{Term}
use Rattle.rdf_terms.specs.declared.term.Triple.{Triple}
use Rattle.bgp_core.specs.declared.pattern.Part.{Part}
use Rattle.bgp_core.specs.declared.pattern.Part.TheVariants.{Fixed, Name}
use Rattle.bgp_core.specs.declared.pattern.Pattern.{Pattern}
use Rattle.bgp_core.specs.Solutions.{Places, put, bind, extended, extension}
use Rattle.bgp_core.specs.Fits.{allows_at, allows, agree, fits}
use Rattle.bgp_core.proofs.Extending.{get-set, get-set_other}

-- what is tested before anything is bound
pub record Fitting (p : Pattern) (row : Places) (t : Triple) : Type 0 where
  pub subject : allows p.subject t.subject row ≡ true
  pub predicate : allows p.predicate t.predicate row ≡ true
  pub object : allows p.object t.object row ≡ true
  pub second : agree p.subject t.subject p.predicate t.predicate ≡ true
  pub third : agree p.subject t.subject p.object t.object ≡ true
  pub last : agree p.predicate t.predicate p.object t.object ≡ true

pub fitting : (p : Pattern) (row : Places) (t : Triple) → fits p row t ≡ true → Fitting p row t
fitting p row t h =
    let a = and_parts (allows p.subject t.subject row && allows p.predicate t.predicate row && allows p.object t.object row && agree p.subject t.subject p.predicate t.predicate && agree p.subject t.subject p.object t.object) (agree p.predicate t.predicate p.object t.object) h in
    let b = and_parts (allows p.subject t.subject row && allows p.predicate t.predicate row && allows p.object t.object row && agree p.subject t.subject p.predicate t.predicate) (agree p.subject t.subject p.object t.object) a.0 in
    let c = and_parts (allows p.subject t.subject row && allows p.predicate t.predicate row && allows p.object t.object row) (agree p.subject t.subject p.predicate t.predicate) b.0 in
    let d = and_parts (allows p.subject t.subject row && allows p.predicate t.predicate row) (allows p.object t.object row) c.0 in
    let e = and_parts (allows p.subject t.subject row) (allows p.predicate t.predicate row) d.0 in
    record { subject = e.0; predicate = e.1; object = d.1; second = c.1; third = b.1; last = a.1 }

passed : (b : Bool) (row new : Places) → ◌≡◌ {A = Option Places} (if b then Some row else None) (Some new) → row ≡ new
passed true row new e = cc
passed false row new e = cc

-- a name was bound to the term that another part of the same name is to become
same-name : (b : Bool) (t s : Term) → (not b || term_eq t s) ≡ true → b ≡ true → term_eq t s ≡ true
same-name true t s g e = g
same-name false t s g e = cc

filled-allows : (q : Part) (n : ℕ) (t s : Term) (row : Places) → slice_get row n ≡ Some None → allows q s row ≡ true → agree (Name n) t q s ≡ true → allows q s (slice_set row n (Some t)) ≡ true
filled-allows (Fixed v) n t s row at a g = a
filled-allows (Name m) n t s row at a g = elim (cases_eq n m) [
  | inl e ↦ (
      let there : slice_get (slice_set row n (Some t)) m ≡ Some (Some t) = subst (λ k. slice_get (slice_set row n (Some t)) k ≡ Some (Some t)) e (get-set row n None (Some t) at) in
      let equal : nat_eq n m ≡ true = grind (arith, e) in
      let one : term_eq t s ≡ true = same-name (nat_eq n m) t s g equal in
      subst (λ (o : Option (Option Term)). allows_at o s ≡ true) (sym there) one
      )
  | inr other ↦ subst (λ (o : Option (Option Term)). allows_at o s ≡ true) (sym (get-set_other row n m (Some t) other)) a
]

put-allows : (o : Option (Option Term)) (q : Part) (n : ℕ) (t s : Term) (row new : Places) → slice_get row n ≡ o → put o n t row ≡ Some new → allows q s row ≡ true → agree (Name n) t q s ≡ true → allows q s new ≡ true
put-allows None q n t s row new at e a g = cc
put-allows (Some None) q n t s row new at e a g =
    let is : slice_set row n (Some t) ≡ new = cc in
    subst (λ (r : Places). allows q s r ≡ true) is (filled-allows q n t s row at a g)
put-allows (Some (Some u)) q n t s row new at e a g = subst (λ (r : Places). allows q s r ≡ true) (passed (term_eq u t) row new e) a

-- a part is bound, and another is allowed as before
pub bound-allows : (p q : Part) (t s : Term) (row new : Places) → bind p t row ≡ Some new → allows q s row ≡ true → agree p t q s ≡ true → allows q s new ≡ true
bound-allows (Fixed u) q t s row new e a g = subst (λ (r : Places). allows q s r ≡ true) (passed (term_eq u t) row new e) a
bound-allows (Name n) q t s row new e a g = put-allows (slice_get row n) q n t s row new refl e a g

-- the three parts bound one after another
pub bound-all : (p : Pattern) (row first second third : Places) (t : Triple) → bind p.subject t.subject row ≡ Some first → bind p.predicate t.predicate first ≡ Some second → bind p.object t.object second ≡ Some third → Some third ≡ extension p row t
unfolding extension
bound-all p row first second third t a b c = sym (ap (λ (o : Option Places). extended (extended o (bind p.predicate t.predicate)) (bind p.object t.object)) a ∙ ap (λ (o : Option Places). extended o (bind p.object t.object)) b ∙ c)
