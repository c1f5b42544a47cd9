-- The solutions of patterns in another order are the same in another order.
use Rattle.std.proofs.Common.{ℕ, zero, suc, ◌≡◌, ◌⊎◌, inl, inr, Bool, true, false, if◌then◌else◌, List, [], ◌∷◌, Option, Some, None, slice_get, slice_set, refl, ap, sym, subst, ◌∙◌}
use Rattle.std.proofs.lemmas.Bool.{cases_eq}
use Rattle.rdf_terms.specs.Same.{term_eq}
use Rattle.rdf_terms.specs.declared.term.Term.{Term}
use Rattle.rdf_terms.specs.declared.term.Triple.{Triple}
use Rattle.rdf_terms.proofs.Equality.{term_same, term_self}
use Rattle.bgp_core.specs.declared.pattern.Part.{Part}
use Rattle.bgp_core.specs.declared.pattern.Part.TheVariants.{Fixed, Name}
use Rattle.bgp_core.specs.declared.pattern.Pattern.{Pattern}
use Rattle.bgp_core.specs.Solutions.{Places, put, bind, extended, extension}
use Rattle.bgp_core.proofs.Extending.{get-set, get-set_other}

-- ---- steps that may be taken in either order

extended-assoc : (o : Option Places) (f g : Places → Option Places) → extended (extended o f) g ≡ extended o (λ r. extended (f r) g)
extended-assoc None f g = refl
extended-assoc (Some x) f g = refl

extended-some : (o : Option Places) → o ≡ extended o (λ r. Some r)
extended-some None = refl
extended-some (Some x) = refl

extended-none : (o : Option Places) → None ≡ extended o (λ r. None)
extended-none None = refl
extended-none (Some x) = refl

extended-same : (o : Option Places) (f g : Places → Option Places) → ((r : Places) → o ≡ Some r → f r ≡ g r) → extended o f ≡ extended o g
extended-same None f g h = refl
extended-same (Some x) f g h = h x refl

abbrev pub Commute : (Places → Option Places) → (Places → Option Places) → Type 0
Commute f g = (r : Places) → extended (f r) g ≡ extended (g r) f

guard : (b : Bool) (g : Places → Option Places) (r : Places) → extended (if b then Some r else None) g ≡ extended (g r) (λ x. if b then Some x else None)
guard true g r = extended-some (g r)
guard false g r = extended-none (g r)

set-swap : {X : Type 0} (row : List X) (n m : ℕ) (x y : X) → (n ≡ m → ⊥) → slice_set (slice_set row n x) m y ≡ slice_set (slice_set row m y) n x
set-swap [] n m x y h = refl
set-swap (p ∷ row) zero zero x y h = absurd (h refl)
set-swap (p ∷ row) zero (suc m) x y h = refl
set-swap (p ∷ row) (suc n) zero x y h = refl
set-swap (p ∷ row) (suc n) (suc m) x y h = ap (λ l. p ∷ l) (set-swap row n m x y (λ e. h (ap suc e)))

-- what stands at another place stays
put-other : (o : Option (Option Term)) (n m : ℕ) (t : Term) (row new : Places) → (n ≡ m → ⊥) → put o n t row ≡ Some new → slice_get new m ≡ slice_get row m
put-other None n m t row new h e = cc
put-other (Some None) n m t row new h e =
    let is : slice_set row n (Some t) ≡ new = cc in
    subst (λ (r : Places). slice_get r m ≡ slice_get row m) is (get-set_other row n m (Some t) h)
put-other (Some (Some u)) n m t row new h e = passed (term_eq u t) row new m e where
  passed : (b : Bool) (row new : Places) (m : ℕ) → ◌≡◌ {A = Option Places} (if b then Some row else None) (Some new) → slice_get new m ≡ slice_get row m
  passed true row new m e = (let is : row ≡ new = cc in subst (λ (r : Places). slice_get r m ≡ slice_get row m) is refl)
  passed false row new m e = cc

puts : (a b : Option (Option Term)) (n m : ℕ) (t s : Term) (row : Places) → (n ≡ m → ⊥) → extended (put a n t row) (put b m s) ≡ extended (put b m s row) (put a n t)
puts None None n m t s row h = refl
puts None (Some None) n m t s row h = refl
puts None (Some (Some v)) n m t s row h = extended-none (put (Some (Some v)) m s row)
puts (Some None) None n m t s row h = refl
puts (Some None) (Some None) n m t s row h = ap (λ (x : Places). let y : Option Places = Some x in y) (set-swap row n m (Some t) (Some s) h)
puts (Some None) (Some (Some v)) n m t s row h = sym (guard (term_eq v s) (put (Some None) n t) row)
puts (Some (Some u)) b n m t s row h = guard (term_eq u t) (put b m s) row

apart : (n m : ℕ) (t s : Term) (row : Places) → (n ≡ m → ⊥) → extended (put (slice_get row n) n t row) (λ r. put (slice_get r m) m s r) ≡ extended (put (slice_get row m) m s row) (λ r. put (slice_get r n) n t r)
apart n m t s row h =
    let one = extended-same (put (slice_get row n) n t row) (λ r. put (slice_get r m) m s r) (put (slice_get row m) m s) (λ r e. ap (λ (o : Option (Option Term)). put o m s r) (put-other (slice_get row n) n m t row r h e)) in
    let two = extended-same (put (slice_get row m) m s row) (λ r. put (slice_get r n) n t r) (put (slice_get row n) n t) (λ r e. ap (λ (o : Option (Option Term)). put o n t r) (put-other (slice_get row m) m n s row r (λ q. h (sym q)) e)) in
    one ∙ puts (slice_get row n) (slice_get row m) n m t s row h ∙ sym two

either : (b c : Bool) (row : Places) (f : Places → Option Places) (g : Places → Option Places) → f row ≡ (if c then Some row else None) → g row ≡ (if b then Some row else None) → extended (if b then Some row else None) f ≡ extended (if c then Some row else None) g
either true true row f g h k = h ∙ sym k
either true false row f g h k = h
either false true row f g h k = sym k
either false false row f g h k = refl

one_term : (b c : Bool) (t s : Term) (n : ℕ) (row : Places) → term_eq t s ≡ b → term_eq s t ≡ c → ◌≡◌ {A = Option Places} (if b then Some (slice_set row n (Some t)) else None) (if c then Some (slice_set row n (Some s)) else None)
one_term true true t s n row h k = ap (λ (x : Term). let y : Option Places = Some (slice_set row n (Some x)) in y) (term_same t s h)
one_term false false t s n row h k = refl
one_term true false t s n row h k =
    let e : t ≡ s = term_same t s h in
    let f : term_eq s t ≡ true = subst (λ (x : Term). term_eq s x ≡ true) (sym e) (term_self s) in cc
one_term false true t s n row h k =
    let e : s ≡ t = term_same s t k in
    let f : term_eq t s ≡ true = subst (λ (x : Term). term_eq t x ≡ true) (sym e) (term_self t) in cc

together : (o : Option (Option Term)) (n : ℕ) (t s : Term) (row : Places) → slice_get row n ≡ o → extended (put o n t row) (λ r. put (slice_get r n) n s r) ≡ extended (put o n s row) (λ r. put (slice_get r n) n t r)
together None n t s row h = refl
together (Some None) n t s row h =
    let one : slice_get (slice_set row n (Some t)) n ≡ Some (Some t) = get-set row n None (Some t) h in
    let two : slice_get (slice_set row n (Some s)) n ≡ Some (Some s) = get-set row n None (Some s) h in
    ap (λ (o : Option (Option Term)). put o n s (slice_set row n (Some t))) one ∙ one_term (term_eq t s) (term_eq s t) t s n row refl refl ∙ sym (ap (λ (o : Option (Option Term)). put o n t (slice_set row n (Some s))) two)
together (Some (Some u)) n t s row h =
    either (term_eq u t) (term_eq u s) row (λ r. put (slice_get r n) n s r) (λ r. put (slice_get r n) n t r)
    (ap (λ (o : Option (Option Term)). put o n s row) h) (ap (λ (o : Option (Option Term)). put o n t row) h)

names : (n m : ℕ) (t s : Term) (row : Places) → (n ≡ m) ⊎ (n ≡ m → ⊥) → extended (put (slice_get row n) n t row) (λ r. put (slice_get r m) m s r) ≡ extended (put (slice_get row m) m s row) (λ r. put (slice_get r n) n t r)
names n m t s row (inl e) = subst (λ k. extended (put (slice_get row n) n t row) (λ r. put (slice_get r k) k s r) ≡ extended (put (slice_get row k) k s row) (λ r. put (slice_get r n) n t r)) e (together (slice_get row n) n t s row refl)
names n m t s row (inr h) = apart n m t s row h

bind-Commute : (a b : Part) (t s : Term) → Commute (bind a t) (bind b s)
bind-Commute (Fixed u) b t s row = guard (term_eq u t) (bind b s) row
bind-Commute (Name n) (Fixed v) t s row = sym (guard (term_eq v s) (bind (Name n) t) row)
bind-Commute (Name n) (Name m) t s row = names n m t s row (cases_eq n m)

Commute-sym : (f g : Places → Option Places) → Commute f g → Commute g f
Commute-sym f g h r = sym (h r)

Commute-then : (f g h : Places → Option Places) → Commute f g → Commute f h → Commute f (λ r. extended (g r) h)
Commute-then f g h a b r =
    sym (extended-assoc (f r) g h) ∙ ap (λ (o : Option Places). extended o h) (a r) ∙ extended-assoc (g r) f h ∙ extended-same (g r) (λ x. extended (f x) h) (λ x. extended (h x) f) (λ x e. b x) ∙ sym (extended-assoc (g r) h f)

step-extension : (f : Places → Option Places) (p : Pattern) (t : Triple) → Commute f (bind p.subject t.subject) → Commute f (bind p.predicate t.predicate) → Commute f (bind p.object t.object) → Commute f (λ r. extension p r t)
unfolding extension
step-extension f p t a b c = Commute-then f (λ r. extended (bind p.subject t.subject r) (bind p.predicate t.predicate)) (bind p.object t.object) (Commute-then f (bind p.subject t.subject) (bind p.predicate t.predicate) a b) c

bind-extension : (a : Part) (t : Term) (q : Pattern) (s : Triple) → Commute (bind a t) (λ r. extension q r s)
bind-extension a t q s = step-extension (bind a t) q s (bind-Commute a q.subject t s.subject) (bind-Commute a q.predicate t s.predicate) (bind-Commute a q.object t s.object)

-- two patterns take two triples in either order
pub extension-Commute : (p q : Pattern) (t s : Triple) → Commute (λ r. extension p r t) (λ r. extension q r s)
extension-Commute p q t s = Commute-sym (λ r. extension q r s) (λ r. extension p r t) (step-extension (λ r. extension q r s) p t
    (Commute-sym (bind p.subject t.subject) (λ r. extension q r s) (bind-extension p.subject t.subject q s))
    (Commute-sym (bind p.predicate t.predicate) (λ r. extension q r s) (bind-extension p.predicate t.predicate q s))
    (Commute-sym (bind p.object t.object) (λ r. extension q r s) (bind-extension p.object t.object q s)))
