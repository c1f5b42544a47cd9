-- One more token where groups are open: what may come after it is what may come at the next place, and nothing where there is none.
use Rattle.std.proofs.Common.{ℕ, zero, suc, ◌≡◌, ◌+◌, ◌-◌, ◌≤◌, Bool, true, false, nat_eq, List, [], ◌∷◌, ◌++◌, Option, Some, None, refl, sym, ap, subst, ◌∙◌, append_assoc, length, arith}
use Rattle.regular_expressions.specs.Regular.{Regular, nothing, left}
use Rattle.query_grammar.specs.declared.kind.Kind.{Kind}
use Rattle.query_grammar.specs.declared.kind.Kind.TheVariants as kinds
use Rattle.query_grammar.specs.declared.machine.State.TheVariants.{Start, AtSubject}
use Rattle.query_grammar.specs.declared.group_machine.Place.{Place}
use Rattle.query_grammar.specs.declared.group_machine.Place.TheVariants.{Within, AfterDistinct}
use Rattle.query_grammar.specs.Grammar.{code}
use Rattle.query_grammar.specs.GroupSteps.{next_place, behind_group, may_close, Reading}
use Rattle.query_grammar.proofs.GroupFollows.{group_letter, inside_letters, rest_of, rest_after, in_group, follows, follows-group, may_stop, stops, opens}
use Rattle.query_grammar.proofs.GroupStacks.{brace, end_brace, Reads, group-braced, braced-group, none_at_zero, plain_step, plain_back, group_step, group_back, empty_step, empty_back}

-- what may come at a place in these groups: up to the end of each, and behind it
abbrev pub Completes : ℕ → Place → List Place → List ℕ → Type 0
Completes m p [] w = Reads (rest_of p) m w
Completes m p (q ∷ around) w = (v : List ℕ) × (x : List ℕ) × (suc (length around) ≤ m) × Reads (rest_of p) (m - suc (length around)) v × Completes m q around x × (w ≡ v ++ (end_brace ∷ x))

abbrev pub After : ℕ → Option Reading → List ℕ → Type 0
After m None w = ⊥
After m (Some r) w = Completes m r.place r.around w

-- the innermost place stands in a group, and so the others, up to the outermost
abbrev pub Placed : Place → List Place → Type 0
Placed p [] = in_group p ≡ false
Placed p (q ∷ around) = (in_group p ≡ true) × Placed q around

-- ---- which side of the braces a place is on

abbrev pub same : Bool → Bool → Bool
same true true = true
same false false = true
same _ _ = false

is_same : (a b : Bool) → same a b ≡ true → b ≡ a
is_same true true e = refl
is_same true false e = cc
is_same false true e = cc
is_same false false e = refl

abbrev pub keeps : Bool → Option Place → Bool
keeps b None = true
keeps b (Some p) = same b (in_group p)

pub stays : (p : Place) (k : Kind) → keeps (in_group p) (next_place p k) ≡ true
stays (Within Start) kinds.Iri = refl
stays (Within Start) _ = refl
stays (Within _) kinds.Iri = refl
stays (Within _) _ = refl
stays AfterDistinct kinds.Iri = refl
stays AfterDistinct _ = refl
stays _ kinds.Iri = refl
stays _ _ = refl

pub stays-group : (p : Place) → keeps (in_group p) (behind_group p) ≡ true
stays-group (Within Start) = refl
stays-group (Within _) = refl
stays-group AfterDistinct = refl
stays-group _ = refl

pub kept : (b : Bool) (p : Place) (o : Option Place) → o ≡ Some p → keeps b o ≡ true → in_group p ≡ b
kept b p o e k = is_same b (in_group p) (subst (λ (o : Option Place). keeps b o ≡ true) e k)

-- braces are no letters here
no_brace : (p : Place) → next_place p kinds.OpenBrace ≡ None
no_brace (Within Start) = refl
no_brace (Within _) = refl
no_brace AfterDistinct = refl
no_brace _ = refl

no_end_brace : (p : Place) → next_place p kinds.CloseBrace ≡ None
no_end_brace (Within Start) = refl
no_end_brace (Within _) = refl
no_end_brace AfterDistinct = refl
no_end_brace _ = refl

left_brace : (p : Place) → left (rest_of p) brace ≡ nothing
left_brace p = follows p kinds.OpenBrace ∙ ap rest_after (no_brace p)

left_end_brace : (p : Place) → left (rest_of p) end_brace ≡ nothing
left_end_brace p = follows p kinds.CloseBrace ∙ ap rest_after (no_end_brace p)

differ : (a b : ℕ) → nat_eq a b ≡ false → a ≡ b → ⊥
differ a b e h = grind (arith, e, h)

-- ---- a token that is no brace

abbrev ReadsAfter : ℕ → Option Place → List ℕ → Type 0
ReadsAfter m None w = ⊥
ReadsAfter m (Some p) w = Reads (rest_of p) m w

reads_after : (m : ℕ) (o : Option Place) (w : List ℕ) → Reads (rest_after o) m w → ReadsAfter m o w
reads_after m None w h = h.1
reads_after m (Some p) w h = h

abbrev pub AfterPlain : ℕ → List Place → Option Place → List ℕ → Type 0
AfterPlain m around None w = ⊥
AfterPlain m around (Some p) w = Completes m p around w

pub plain-in : (m : ℕ) (p : Place) (around : List Place) (k : Kind) (w : List ℕ) → nat_eq (code k) brace ≡ false → nat_eq (code k) end_brace ≡ false
    → Completes m p around (code k ∷ w) → AfterPlain m around (next_place p k) w
plain-in m p [] k w nb ne h = pick (next_place p k) (reads_after m (next_place p k) w (subst (λ (r : Regular). Reads r m w) (follows p k) (plain_step (rest_of p) m (code k) w (differ (code k) brace nb) h)))
  where
    pick : (o : Option Place) → ReadsAfter m o w → AfterPlain m [] o w
    pick None h = h
    pick (Some q) h = h
plain-in m p (q ∷ around) k w nb ne (v, x, few, reads, rest, e) = cut v reads e
  where
    pick : (v' : List ℕ) (o : Option Place) → w ≡ v' ++ (end_brace ∷ x) → ReadsAfter (m - suc (length around)) o v' → AfterPlain m (q ∷ around) o w
    pick v' None e h = h
    pick v' (Some n) e h = (v', x, few, h, rest, e)

    cut : (v : List ℕ) → Reads (rest_of p) (m - suc (length around)) v → code k ∷ w ≡ v ++ (end_brace ∷ x) → AfterPlain m (q ∷ around) (next_place p k) w
    cut [] reads e = let letter : code k ≡ end_brace = cc in absurd (differ (code k) end_brace ne letter)
    cut (l ∷ v') reads e =
        let letter : l ≡ code k = cc in
        let more : w ≡ v' ++ (end_brace ∷ x) = cc in
        let j = m - suc (length around) in
        let h : Reads (rest_of p) j (code k ∷ v') = subst (λ (n : ℕ). Reads (rest_of p) j (n ∷ v')) letter reads in
        pick v' (next_place p k) more (reads_after j (next_place p k) v' (subst (λ (r : Regular). Reads r j v') (follows p k) (plain_step (rest_of p) j (code k) v' (differ (code k) brace nb) h)))

pub plain-out : (m : ℕ) (p n : Place) (around : List Place) (k : Kind) (w : List ℕ) → nat_eq (code k) group_letter ≡ false → next_place p k ≡ Some n
    → Completes m n around w → Completes m p around (code k ∷ w)
plain-out m p n [] k w ng e h =
    plain_back (rest_of p) m (code k) w ng (subst (λ (r : Regular). Reads r m w) (sym (follows p k ∙ ap rest_after e)) h)
plain-out m p n (q ∷ around) k w ng e (v, x, few, reads, rest, is) =
    let j = m - suc (length around) in
    (code k ∷ v, x, few, plain_back (rest_of p) j (code k) v ng (subst (λ (r : Regular). Reads r j v) (sym (follows p k ∙ ap rest_after e)) reads), rest, ap (λ (l : List ℕ). code k ∷ l) is)

-- ---- '{'

-- what stands in a group that is opened, and behind it
record Inner (r : Regular) (j : ℕ) (w : List ℕ) : Type 0 where
  inner : List ℕ
  rest : List ℕ
  less : ℕ
  is_less : j ≡ suc less
  reads : Reads inside_letters less inner
  behind : Reads (left r group_letter) j rest
  whole : w ≡ inner ++ (end_brace ∷ rest)

inner_of : (r : Regular) (j : ℕ) (w : List ℕ) → left r brace ≡ nothing → Reads r j (brace ∷ w) → Inner r j w
inner_of r zero w none h = absurd (let o = group_step r 0 w none h in none_at_zero o.group o.is_group)
inner_of r (suc j) w none h =
    let o = group_step r (suc j) w none h in
    let b = group-braced j o.group o.is_group in
    let all : brace ∷ w ≡ brace ∷ (b.inner ++ (end_brace ∷ o.rest)) = o.whole ∙ ap (λ (l : List ℕ). l ++ o.rest) b.is ∙ ap (λ (l : List ℕ). brace ∷ l) (append_assoc b.inner (end_brace ∷ []) o.rest) in
    record { inner = b.inner; rest = o.rest; less = j; is_less = refl; reads = b.reads; behind = o.reads; whole = cc }

inner_back : (r : Regular) (j : ℕ) (inner rest : List ℕ) → Reads inside_letters j inner → Reads (left r group_letter) (suc j) rest → Reads r (suc j) (brace ∷ (inner ++ (end_brace ∷ rest)))
inner_back r j inner rest h b =
    subst (λ (l : List ℕ). Reads r (suc j) (brace ∷ l)) (append_assoc inner (end_brace ∷ []) rest)
    (group_back r (suc j) (brace ∷ (inner ++ end_brace ∷ [])) rest (braced-group j inner h) b)

inside_at : (m : ℕ) (w : List ℕ) → Reads inside_letters m w → Reads (rest_of (Within AtSubject)) m w
inside_at m w h = subst (λ (r : Regular). Reads r m w) (sym opens) h

at_inside : (m : ℕ) (w : List ℕ) → Reads (rest_of (Within AtSubject)) m w → Reads inside_letters m w
at_inside m w h = subst (λ (r : Regular). Reads r m w) opens h

abbrev pub AfterOpen : ℕ → List Place → Option Place → List ℕ → Type 0
AfterOpen m around None w = ⊥
AfterOpen m around (Some b) w = Completes m (Within AtSubject) (b ∷ around) w

pub open-in : (m : ℕ) (p : Place) (around : List Place) (w : List ℕ) → Completes m p around (brace ∷ w) → AfterOpen m around (behind_group p) w
open-in m p [] w h =
    let i = inner_of (rest_of p) m w (left_brace p) h in
    pick i (behind_group p) (reads_after m (behind_group p) i.rest (subst (λ (r : Regular). Reads r m i.rest) (follows-group p) i.behind))
  where
    pick : (i : Inner (rest_of p) m w) (o : Option Place) → ReadsAfter m o i.rest → AfterOpen m [] o w
    pick i None h = h
    pick i (Some b) h =
        let low : 1 ≤ m = omega (arith, i.is_less) in
        let less : i.less ≡ m - 1 = omega (arith, i.is_less) in
        (i.inner, i.rest, low, inside_at (m - 1) i.inner (subst (λ (n : ℕ). Reads inside_letters n i.inner) less i.reads), h, i.whole)
open-in m p (q ∷ around) w (v, x, few, reads, rest, e) = cut v reads e
  where
    pick : (v' : List ℕ) (i : Inner (rest_of p) (m - suc (length around)) v') (o : Option Place) → w ≡ v' ++ (end_brace ∷ x) → ReadsAfter (m - suc (length around)) o i.rest → AfterOpen m (q ∷ around) o w
    pick v' i None e h = h
    pick v' i (Some b) e h =
        let low : suc (suc (length around)) ≤ m = omega (arith, i.is_less) in
        let less : i.less ≡ m - suc (suc (length around)) = omega (arith, i.is_less) in
        let all : w ≡ i.inner ++ (end_brace ∷ (i.rest ++ (end_brace ∷ x))) = e ∙ ap (λ (l : List ℕ). l ++ (end_brace ∷ x)) i.whole ∙ append_assoc i.inner (end_brace ∷ i.rest) (end_brace ∷ x) in
        (i.inner, i.rest ++ (end_brace ∷ x), low, inside_at (m - suc (suc (length around))) i.inner (subst (λ (n : ℕ). Reads inside_letters n i.inner) less i.reads), (i.rest, x, few, h, rest, refl), all)

    cut : (v : List ℕ) → Reads (rest_of p) (m - suc (length around)) v → brace ∷ w ≡ v ++ (end_brace ∷ x) → AfterOpen m (q ∷ around) (behind_group p) w
    cut [] reads e = absurd (differ brace end_brace refl cc)
    cut (l ∷ v') reads e =
        let letter : l ≡ brace = cc in
        let more : w ≡ v' ++ (end_brace ∷ x) = cc in
        let j = m - suc (length around) in
        let i = inner_of (rest_of p) j v' (left_brace p) (subst (λ (n : ℕ). Reads (rest_of p) j (n ∷ v')) letter reads) in
        pick v' i (behind_group p) more (reads_after j (behind_group p) i.rest (subst (λ (r : Regular). Reads r j i.rest) (follows-group p) i.behind))

pub open-out : (m : ℕ) (p b : Place) (around : List Place) (w : List ℕ) → behind_group p ≡ Some b → Completes m (Within AtSubject) (b ∷ around) w → Completes m p around (brace ∷ w)
open-out zero p b around w g (v, x, few, reads, rest, e) = absurd (omega (arith, few))
open-out (suc m) p b [] w g (v, x, few, reads, rest, e) =
    let same_depth : suc m - 1 ≡ m = omega arith in
    let inner : Reads inside_letters m v = subst (λ (n : ℕ). Reads inside_letters n v) same_depth (at_inside (suc m - 1) v reads) in
    let behind : Reads (left (rest_of p) group_letter) (suc m) x = subst (λ (r : Regular). Reads r (suc m) x) (sym (follows-group p ∙ ap rest_after g)) rest in
    subst (λ (l : List ℕ). Reads (rest_of p) (suc m) (brace ∷ l)) (sym e) (inner_back (rest_of p) m v x inner behind)
open-out (suc m) p b (q ∷ around) w g (v, x, few, reads, (u, y, few', reads', rest', e'), e) =
    let j = suc m - suc (suc (length around)) in
    let deeper : suc m - suc (length around) ≡ suc j = omega (arith, few) in
    let inner : Reads inside_letters j v = at_inside j v reads in
    let behind : Reads (left (rest_of p) group_letter) (suc j) u = subst (λ (n : ℕ). Reads (left (rest_of p) group_letter) n u) deeper (subst (λ (r : Regular). Reads r (suc m - suc (length around)) u) (sym (follows-group p ∙ ap rest_after g)) reads') in
    let whole : Reads (rest_of p) (suc m - suc (length around)) (brace ∷ (v ++ (end_brace ∷ u))) = subst (λ (n : ℕ). Reads (rest_of p) n (brace ∷ (v ++ (end_brace ∷ u)))) (sym deeper) (inner_back (rest_of p) j v u inner behind) in
    let all : w ≡ (v ++ (end_brace ∷ u)) ++ (end_brace ∷ y) = e ∙ ap (λ (l : List ℕ). v ++ (end_brace ∷ l)) e' ∙ sym (append_assoc v (end_brace ∷ u) (end_brace ∷ y)) in
    (brace ∷ (v ++ (end_brace ∷ u)), y, few', whole, rest', ap (λ (l : List ℕ). brace ∷ l) all)

-- ---- '}'

nothing_reads : (m : ℕ) (w : List ℕ) → Reads nothing m w → ⊥
nothing_reads m w h = h.1

end_brace_none : (p : Place) (m : ℕ) (w : List ℕ) → Reads (rest_of p) m (end_brace ∷ w) → ⊥
end_brace_none p m w h = nothing_reads m w (subst (λ (r : Regular). Reads r m w) (left_end_brace p) (plain_step (rest_of p) m end_brace w (differ end_brace brace refl) h))

-- a group is open, and may end here
pub record Closes (m : ℕ) (p : Place) (around : List Place) (w : List ℕ) : Type 0 where
  pub behind : Place
  pub others : List Place
  pub is : around ≡ behind ∷ others
  pub may : may_close p ≡ true
  pub completes : Completes m behind others w

may-close : (p : Place) (m : ℕ) → in_group p ≡ true → Reads (rest_of p) m [] → may_close p ≡ true
may-close p m i h = sym (ap (may_stop p) i) ∙ sym (stops p) ∙ empty_step (rest_of p) m h

pub close-in : (m : ℕ) (p : Place) (around : List Place) (w : List ℕ) → Placed p around → Completes m p around (end_brace ∷ w) → Closes m p around w
close-in m p [] w placed h = absurd (end_brace_none p m w h)
close-in m p (q ∷ around) w placed (v, x, few, reads, rest, e) = cut v reads e
  where
    cut : (v : List ℕ) → Reads (rest_of p) (m - suc (length around)) v → end_brace ∷ w ≡ v ++ (end_brace ∷ x) → Closes m p (q ∷ around) w
    cut [] reads e =
        let same : x ≡ w = cc in
        record { behind = q; others = around; is = refl; may = may-close p (m - suc (length around)) placed.0 reads; completes = subst (λ (l : List ℕ). Completes m q around l) same rest }
    cut (l ∷ v') reads e =
        let letter : l ≡ end_brace = cc in
        absurd (end_brace_none p (m - suc (length around)) v' (subst (λ (n : ℕ). Reads (rest_of p) (m - suc (length around)) (n ∷ v')) letter reads))

pub close-out : (m : ℕ) (p q : Place) (around : List Place) (w : List ℕ) → in_group p ≡ true → may_close p ≡ true → suc (length around) ≤ m → Completes m q around w → Completes m p (q ∷ around) (end_brace ∷ w)
close-out m p q around w i may few h = ([], w, few, empty_back (rest_of p) (m - suc (length around)) (stops p ∙ ap (may_stop p) i ∙ may), h, refl)
