-- Lists with the same members, and terms and triples that are gathered.
use Rattle.std.proofs.Common.{ℕ, true, false, ◌≡◌, ◌+◌, ◌<◌, List, [], ◌∷◌, ◌++◌, refl, sym, ap, subst, ◌∙◌, length, get_or, map, arith, ⊎_elim, append_assoc, append-nil, length-append, zero, suc, add-one, take, drop, drop-cons, All}
use Rattle.std.specs.Borrow.{Bor}
use Rattle.std.specs.List.{Contains, filter_map}
use Rattle.std.proofs.lemmas.List.{take_more, map-append, length-map, get_or-map}
use Rattle.std.proofs.lemmas.List.Concat.{flat_map-append}
use Rattle.std.proofs.lemmas.List.Elements.{filter_map-append, All-head, All-nil, All-push, All-tail, All-weaker, Contains-append_left, Contains-append_right, Contains-append_cases, Contains-get_or}
use Rattle.list_laws.proofs.Members.{head_or_tail, none_in}
use Rattle.rdf_terms.specs.declared.term.Term.{Term}
use Rattle.rdf_terms.specs.declared.term.Term.TheVariants.{Iri}
use Rattle.rdf_terms.specs.declared.term.Triple.{Triple}
use Rattle.rdf_terms.specs.declared.term.Quad.{Quad}
use Rattle.rdf_terms.specs.Same.{term_eq}
use Rattle.rdf_terms.specs.EqualityLaws.{term_decides}
use Rattle.triple_table.specs.declared.choice.Choice.{Choice}
use Rattle.triple_table.specs.declared.gather.Places.{Places}
use Rattle.triple_table.specs.Chosen.{is_chosen, chosen}
use Rattle.triple_table.specs.Genid.{skolem}
use Rattle.triple_table.specs.Ranking.{borrowed_terms, genid_of, placed, Gathers, GathersTriple, IsGathered, IsPlaced, Keeps, SameMembers, StandsAt}
use Rattle.triple_table.specs.Served.{terms_in, terms_of}

pub same_trans : {X : Type 0} (xs ys zs : List X) → SameMembers xs ys → SameMembers ys zs → SameMembers xs zs
same_trans xs ys zs h k x = (λ c. (k x).0 ((h x).0 c), λ c. (h x).1 ((k x).1 c))

more : {X : Type 0} (xs ys zs : List X) (x : X) → (Contains xs x → Contains ys x) → Contains (xs ++ zs) x → Contains (ys ++ zs) x
more xs ys zs x h c = ⊎_elim (λ k. Contains-append_left ys zs x (h k)) (λ k. Contains-append_right ys zs x k) (Contains-append_cases xs zs x c)

pub same_more : {X : Type 0} (xs ys zs : List X) → SameMembers xs ys → SameMembers (xs ++ zs) (ys ++ zs)
same_more xs ys zs h x = (more xs ys zs x (h x).0, more ys xs zs x (h x).1)

-- an element that is there already adds nothing
pub same_found : {X : Type 0} (xs : List X) (y : X) → Contains xs y → SameMembers xs (xs ++ y ∷ [])
same_found xs y h x = (
  λ c. Contains-append_left xs (y ∷ []) x c,
  λ c. ⊎_elim (λ k. k) (λ k. ⊎_elim (λ e. subst (Contains xs) e h) (λ n. absurd (none_in x n)) (head_or_tail y x [] k)) (Contains-append_cases xs (y ∷ []) x c),
)

pub same_three : {X : Type 0} (xs first second third : List X) (a b c : X) → SameMembers first (xs ++ a ∷ []) → SameMembers second (first ++ b ∷ []) → SameMembers third (second ++ c ∷ []) → SameMembers third (xs ++ a ∷ b ∷ c ∷ [])
same_three xs first second third a b c h k l =
    subst (SameMembers third) (append_assoc (xs ++ a ∷ []) (b ∷ []) (c ∷ []) ∙ append_assoc xs (a ∷ []) (b ∷ c ∷ []))
    (same_trans third (second ++ c ∷ []) (((xs ++ a ∷ []) ++ b ∷ []) ++ c ∷ []) l
    (same_more second ((xs ++ a ∷ []) ++ b ∷ []) (c ∷ []) (same_trans second (first ++ b ∷ []) ((xs ++ a ∷ []) ++ b ∷ []) k (same_more first (xs ++ a ∷ []) (b ∷ []) h))))

same_eq : {X : Type 0} (xs ys : List X) → xs ≡ ys → SameMembers xs ys
same_eq xs ys e x = (λ c. subst (λ l. Contains l x) e c, λ c. subst (λ l. Contains l x) (sym e) c)

-- ---- places

front_at : {X : Type 0} (xs ys : List X) (k : ℕ) (d : X) → k < length xs → get_or (xs ++ ys) k d ≡ get_or xs k d
front_at [] ys k d l = absurd (omega arith)
front_at (x ∷ xs) ys zero d l = refl
front_at (x ∷ xs) ys (suc k) d l = front_at xs ys k d (omega arith)

last_at : {X : Type 0} (xs : List X) (x d : X) → get_or (xs ++ x ∷ []) (length xs) d ≡ x
last_at [] x d = refl
last_at (y ∷ xs) x d = last_at xs x d

pub stands : (xs : List (Bor Term)) (i : ℕ) (x : Bor Term) (t : Term) → i < length xs → term_eq (get_or xs i x).now t ≡ true → StandsAt (borrowed_terms xs) i t
stands xs i x t l h = record {
  within = simp length-map l;
  is = get_or-map (λ (b : Bor Term). b.now) xs i x (Iri []) l ∙ (term_decides (get_or xs i x).now t).0 h;
}

pub keeps_itself : (xs : List Term) → Keeps xs xs
keeps_itself xs = record { longer = omega arith; same = λ k l. refl }

pub keeps_trans : (xs ys zs : List Term) → Keeps xs ys → Keeps ys zs → Keeps xs zs
keeps_trans xs ys zs h k = record {
  longer = let a = h.longer in let b = k.longer in omega (arith, a, b);
  same = λ i l. let a = h.longer in k.same i (omega (arith, a, l)) ∙ h.same i l;
}

pub keeps_more : (xs : List Term) (x : Term) → Keeps xs (xs ++ x ∷ [])
keeps_more xs x = record {
  longer = let e = length-append xs (x ∷ []) in omega (arith, e);
  same = λ k l. front_at xs (x ∷ []) k (Iri []) l;
}

pub stands_kept : (xs ys : List Term) (i : ℕ) (t : Term) → Keeps xs ys → StandsAt xs i t → StandsAt ys i t
stands_kept xs ys i t k h = record {
  within = let a = k.longer in let b = h.within in omega (arith, a, b);
  is = k.same i h.within ∙ h.is;
}

stands_last : (xs : List Term) (x : Term) → StandsAt (xs ++ x ∷ []) (length xs) x
stands_last xs x = record {
  within = let e : length (xs ++ x ∷ []) ≡ length xs + 1 = length-append xs (x ∷ []) in omega (arith, e);
  is = last_at xs x (Iri []);
}

-- a term that stands there is gathered with nothing added
pub gathers_held : (xs : List Term) (i : ℕ) (t : Term) → StandsAt xs i t → Gathers xs xs t i
gathers_held xs i t h = record {
  members = same_found xs t (subst (Contains xs) h.is (Contains-get_or xs i (Iri []) h.within));
  keeps = keeps_itself xs;
  at = h;
}

gathers_last : (xs : List Term) (t : Term) → Gathers xs (xs ++ t ∷ []) t (length xs)
gathers_last xs t = record {
  members = same_eq (xs ++ t ∷ []) (xs ++ t ∷ []) refl;
  keeps = keeps_more xs t;
  at = stands_last xs t;
}

pub gathers_pushed : (old new : List (Bor Term)) (b : Bor Term) (n : ℕ) → n ≡ length old → new ≡ old ++ b ∷ [] → Gathers (borrowed_terms old) (borrowed_terms new) b.now n
gathers_pushed old new b n m e =
    subst (λ n. Gathers (borrowed_terms old) (borrowed_terms new) b.now n) (sym m)
    (subst (λ (xs : List (Bor Term)). Gathers (borrowed_terms old) (borrowed_terms xs) b.now (length old)) (sym e)
    (subst (λ xs. Gathers (borrowed_terms old) xs b.now (length old)) (sym (map-append (λ (t : Bor Term). t.now) old (b ∷ [])))
    (subst (λ n. Gathers (borrowed_terms old) (borrowed_terms old ++ b.now ∷ []) b.now n) (length-map old (λ (t : Bor Term). t.now)) (gathers_last (borrowed_terms old) b.now))))

-- the three terms of a triple
pub gathers_three : (xs ys zs ws : List Term) (t : Triple) (p : Places) → Gathers xs ys t.subject p.subject → Gathers ys zs t.predicate p.predicate → Gathers zs ws t.object p.object → GathersTriple xs ws t p
gathers_three xs ys zs ws t p h k l =
    let first = stands_kept ys ws p.subject t.subject (keeps_trans ys zs ws k.keeps l.keeps) h.at in
    let second = stands_kept zs ws p.predicate t.predicate l.keeps k.at in
    record {
      members = same_three xs ys zs ws t.subject t.predicate t.object h.members k.members l.members;
      keeps = keeps_trans xs ys ws h.keeps (keeps_trans ys zs ws k.keeps l.keeps);
      places = record { subject = first.within; predicate = second.within; object = l.at.within };
      is = same_parts _ _ first.is second.is l.at.is;
    }
  where
    same_parts : (a b : Triple) → a.subject ≡ b.subject → a.predicate ≡ b.predicate → a.object ≡ b.object → a ≡ b
    same_parts a b d e f = λ i. record { subject = d i; predicate = e i; object = f i }

-- ---- triples by places

pub placed_kept : (xs ys : List Term) → Keeps xs ys → (p : Places) → IsPlaced xs p → placed ys p ≡ placed xs p
placed_kept xs ys k p h =
    let d = k.same p.subject h.subject in let e = k.same p.predicate h.predicate in let f = k.same p.object h.object in
    λ i. record { subject = d i; predicate = e i; object = f i }

is_placed_kept : (xs ys : List Term) → Keeps xs ys → (p : Places) → IsPlaced xs p → IsPlaced ys p
is_placed_kept xs ys k p h =
    let l = k.longer in let a = h.subject in let b = h.predicate in let c = h.object in
    record { subject = omega (arith, l, a); predicate = omega (arith, l, b); object = omega (arith, l, c) }

pub map_same : {X Y : Type 0} (f g : X → Y) (P : X → Type 0) → ((x : X) → P x → f x ≡ g x) → (xs : List X) → All P xs → map f xs ≡ map g xs
map_same f g P h [] all = refl
map_same f g P h (x ∷ xs) all = let e = h x (All-head P x xs all) in let r = map_same f g P h xs (All-tail P x xs all) in cc

pub gathered_one : (of : List Triple) (old new : List Term) (places : List Places) (t : Triple) (p : Places) → IsGathered of old places → GathersTriple old new t p → IsGathered (of ++ t ∷ []) new (places ++ p ∷ [])
gathered_one of old new places t p g h = record {
  members = subst (SameMembers new) (sym (flat_map-append terms_in of (t ∷ []))) (same_trans new (old ++ terms_in t) (terms_of of ++ terms_in t) h.members (same_more old (terms_of of) (terms_in t) g.members));
  each = All-push (IsPlaced new) places p (All-weaker (IsPlaced old) (IsPlaced new) (is_placed_kept old new h.keeps) places g.each) h.places;
  are = map-append (placed new) places (p ∷ []) ∙ ap (λ ts. ts ++ placed new p ∷ []) (map_same (placed new) (placed old) (IsPlaced old) (placed_kept old new h.keeps) places g.each ∙ g.are) ∙ ap (λ x. of ++ x ∷ []) h.is;
}

chosen_one : (choice : Choice) (quad : Quad) → is_chosen choice quad.graph ≡ true → chosen choice (quad ∷ []) ≡ quad.triple ∷ []
chosen_one choice quad h = rw h refl

chosen_none : (choice : Choice) (quad : Quad) → is_chosen choice quad.graph ≡ false → chosen choice (quad ∷ []) ≡ []
chosen_none choice quad h = rw h refl

pub gathered_taken : (of : List Triple) (old new : List Term) (before after : List Places) (choice : Choice) (quad : Quad) (p : Places) → is_chosen choice quad.graph ≡ true → after ≡ before ++ p ∷ [] →
    GathersTriple old new quad.triple p → IsGathered of old before → IsGathered (of ++ chosen choice (quad ∷ [])) new after
gathered_taken of old new before after choice quad p c e h g =
    subst (λ ts. IsGathered (of ++ ts) new after) (sym (chosen_one choice quad c)) (subst (IsGathered (of ++ quad.triple ∷ []) new) (sym e) (gathered_one of old new before quad.triple p g h))

pub gathered_left : (of : List Triple) (terms : List Term) (places : List Places) (choice : Choice) (quad : Quad) → is_chosen choice quad.graph ≡ false → IsGathered of terms places → IsGathered (of ++ chosen choice (quad ∷ [])) terms places
gathered_left of terms places choice quad c g =
    subst (λ ts. IsGathered (of ++ ts) terms places) (sym (chosen_none choice quad c)) (subst (λ ts. IsGathered ts terms places) (sym (append-nil of)) g)

pub gathered_none : IsGathered [] [] []
gathered_none = record { members = same_eq [] [] refl; each = All-nil (IsPlaced []); are = refl }

-- ---- one more term

pub borrowed_more : (xs : List (Bor Term)) (i : ℕ) (x : Bor Term) → i < length xs → x ≡ get_or xs i x → borrowed_terms (take (i + 1) xs) ≡ borrowed_terms (take i xs) ++ x.now ∷ []
borrowed_more xs i x l e =
    ap borrowed_terms (take_more xs i x l ∙ ap (λ y. take i xs ++ y ∷ []) (sym e)) ∙ map-append (λ (t : Bor Term). t.now) (take i xs) (x ∷ [])

pub genids_more : (authority : List ℕ) (xs : List (Bor Term)) (i : ℕ) (x : Bor Term) (old new : List Term) → i < length xs → x ≡ get_or xs i x → new ≡ old ++ filter_map (genid_of authority) (x.now ∷ []) →
    old ≡ filter_map (genid_of authority) (borrowed_terms (take i xs)) → new ≡ filter_map (genid_of authority) (borrowed_terms (take (i + 1) xs))
genids_more authority xs i x old new l e n o =
    n ∙ ap (λ ys. ys ++ filter_map (genid_of authority) (x.now ∷ [])) o
    ∙ sym (ap (filter_map (genid_of authority)) (borrowed_more xs i x l e) ∙ filter_map-append (genid_of authority) (borrowed_terms (take i xs)) (x.now ∷ []))

-- the first term and those behind it
pub borrowed_rest : (xs : List (Bor Term)) (i : ℕ) (x : Bor Term) → i < length xs → x ≡ get_or xs i x → borrowed_terms (drop i xs) ≡ x.now ∷ borrowed_terms (drop (i + 1) xs)
borrowed_rest xs i x l e = ap borrowed_terms (drop-cons xs i x l ∙ ap (λ y. y ∷ drop (suc i) xs) (sym e) ∙ ap (λ k. x ∷ drop k xs) (sym (add-one i)))

pub served_more : (authority : List ℕ) (xs : List (Bor Term)) (i : ℕ) (x : Bor Term) (old new : List (Bor Term)) (b : Bor Term) → i < length xs → x ≡ get_or xs i x → new ≡ old ++ b ∷ [] → b.now ≡ skolem authority x.now →
    borrowed_terms old ≡ map (skolem authority) (borrowed_terms (take i xs)) → borrowed_terms new ≡ map (skolem authority) (borrowed_terms (take (i + 1) xs))
served_more authority xs i x old new b l e n s o =
    ap borrowed_terms n ∙ map-append (λ (t : Bor Term). t.now) old (b ∷ []) ∙ ap (λ ys. ys ++ b.now ∷ []) o ∙ ap (λ y. map (skolem authority) (borrowed_terms (take i xs)) ++ y ∷ []) s
    ∙ sym (ap (map (skolem authority)) (borrowed_more xs i x l e) ∙ map-append (skolem authority) (borrowed_terms (take i xs)) (x.now ∷ []))
