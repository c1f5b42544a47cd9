-- A loop over the kinds keeps the places in the grammar of groups.
use Rattle.std.proofs.Common.{ℕ, zero, suc, ◌≡◌, ◌+◌, ◌-◌, ◌<◌, ◌≤◌, ◌⊎◌, inl, inr, Bool, true, false, nat_eq, List, [], ◌∷◌, ◌++◌, Option, Some, None, refl, sym, ap, subst, ◌∙◌, append_assoc, length, take, drop, get_or, if◌then◌else◌, arith}
use Rattle.std.specs.Prelude.{option_map}
use Rattle.std.proofs.lemmas.List.{take_more, map-append, take_all, take-append-drop, take-take, append-nil}
use Rattle.std.proofs.lemmas.Bool.{cases_order}
use Rattle.regular_expressions.specs.Regular.{Regular, Matches, nullable}
use Rattle.regular_expressions.proofs.Left.{alive-some}
use Rattle.query_grammar.specs.declared.kind.Kind.{Kind}
use Rattle.query_grammar.specs.declared.kind.Kind.TheVariants as kinds
use Rattle.query_grammar.specs.declared.machine.State.TheVariants.{Start, AtEnd}
use Rattle.query_grammar.specs.declared.group_machine.Place.{Place}
use Rattle.query_grammar.specs.declared.group_machine.Place.TheVariants.{Within}
use Rattle.query_grammar.specs.Grammar.{code, codes}
use Rattle.query_grammar.specs.Groups.{query_of, IsGroupQuery, BeginsGroupQuery, IsGroupFault}
use Rattle.query_grammar.specs.GroupSteps.{next_place, behind_group, may_close, is_end, Reading, opened, closed, moved, step, begun, Tells}
use Rattle.query_grammar.proofs.GroupFollows.{group_letter, inside_letters, rest_of, in_group, alive, may_stop, stops, starts}
use Rattle.query_grammar.proofs.GroupTexts.{Piece, Expands}
use Rattle.query_grammar.proofs.GroupStacks.{brace, end_brace, In, Reads, braced-group, empty_step, empty_back, query-reads, reads-query}
use Rattle.query_grammar.proofs.GroupSteps.{Completes, After, AfterPlain, AfterOpen, Placed, plain-in, plain-out, open-in, open-out, close-in, close-out, kept, stays, stays-group}

-- ---- one token

plain-step : (m : ℕ) (r : Reading) (k : Kind) (w : List ℕ) → nat_eq (code k) brace ≡ false → nat_eq (code k) end_brace ≡ false → step r k ≡ option_map (moved r.around) (next_place r.place k)
    → Completes m r.place r.around (code k ∷ w) → After m (step r k) w
plain-step m r k w nb ne e h = subst (λ (o : Option Reading). After m o w) (sym e) (pick (next_place r.place k) (plain-in m r.place r.around k w nb ne h))
  where
    pick : (o : Option Place) → AfterPlain m r.around o w → After m (option_map (moved r.around) o) w
    pick None h = h
    pick (Some p) h = h

open-step : (m : ℕ) (r : Reading) (w : List ℕ) → Completes m r.place r.around (brace ∷ w) → After m (step r kinds.OpenBrace) w
open-step m r w h = pick (behind_group r.place) (open-in m r.place r.around w h)
  where
    pick : (o : Option Place) → AfterOpen m r.around o w → After m (option_map (opened r.around) o) w
    pick None h = h
    pick (Some b) h = h

close-step : (m : ℕ) (r : Reading) (w : List ℕ) → Placed r.place r.around → Completes m r.place r.around (end_brace ∷ w) → After m (step r kinds.CloseBrace) w
close-step m r w placed h =
    let c = close-in m r.place r.around w placed h in
    let e : closed r.around ≡ Some (record { place = c.behind; around = c.others }) = ap closed c.is in
    let s : step r kinds.CloseBrace ≡ Some (record { place = c.behind; around = c.others }) = ap (λ (b : Bool). if b then closed r.around else None) c.may ∙ e in
    subst (λ (o : Option Reading). After m o w) (sym s) c.completes

pub step-in : (m : ℕ) (r : Reading) (k : Kind) (w : List ℕ) → Placed r.place r.around → Completes m r.place r.around (code k ∷ w) → After m (step r k) w
step-in m r kinds.OpenBrace w placed h = open-step m r w h
step-in m r kinds.CloseBrace w placed h = close-step m r w placed h
step-in m r kinds.Iri w placed h = plain-step m r kinds.Iri w refl refl refl h
step-in m r kinds.Prefix w placed h = plain-step m r kinds.Prefix w refl refl refl h
step-in m r kinds.Prefixed w placed h = plain-step m r kinds.Prefixed w refl refl refl h
step-in m r kinds.Variable w placed h = plain-step m r kinds.Variable w refl refl refl h
step-in m r kinds.Blank w placed h = plain-step m r kinds.Blank w refl refl refl h
step-in m r kinds.Anonymous w placed h = plain-step m r kinds.Anonymous w refl refl refl h
step-in m r kinds.Str w placed h = plain-step m r kinds.Str w refl refl refl h
step-in m r kinds.Tag w placed h = plain-step m r kinds.Tag w refl refl refl h
step-in m r kinds.Number w placed h = plain-step m r kinds.Number w refl refl refl h
step-in m r kinds.PrefixWord w placed h = plain-step m r kinds.PrefixWord w refl refl refl h
step-in m r kinds.SelectWord w placed h = plain-step m r kinds.SelectWord w refl refl refl h
step-in m r kinds.WhereWord w placed h = plain-step m r kinds.WhereWord w refl refl refl h
step-in m r kinds.TrueWord w placed h = plain-step m r kinds.TrueWord w refl refl refl h
step-in m r kinds.FalseWord w placed h = plain-step m r kinds.FalseWord w refl refl refl h
step-in m r kinds.TypeWord w placed h = plain-step m r kinds.TypeWord w refl refl refl h
step-in m r kinds.DistinctWord w placed h = plain-step m r kinds.DistinctWord w refl refl refl h
step-in m r kinds.OptionalWord w placed h = plain-step m r kinds.OptionalWord w refl refl refl h
step-in m r kinds.UnionWord w placed h = plain-step m r kinds.UnionWord w refl refl refl h
step-in m r kinds.OtherWord w placed h = plain-step m r kinds.OtherWord w refl refl refl h
step-in m r kinds.Dot w placed h = plain-step m r kinds.Dot w refl refl refl h
step-in m r kinds.Semicolon w placed h = plain-step m r kinds.Semicolon w refl refl refl h
step-in m r kinds.Comma w placed h = plain-step m r kinds.Comma w refl refl refl h
step-in m r kinds.Star w placed h = plain-step m r kinds.Star w refl refl refl h
step-in m r kinds.Carets w placed h = plain-step m r kinds.Carets w refl refl refl h

-- what is so of the reader after a token that may come
pub record Steps (r n : Reading) (k : Kind) : Type 0 where
  pub placed : Placed n.place n.around
  pub few : length n.around ≤ length r.around + 1
  pub back : (m : ℕ) (w : List ℕ) → length r.around ≤ m → Completes m n.place n.around w → Completes m r.place r.around (code k ∷ w)

side : (p n : Place) (around : List Place) → in_group n ≡ in_group p → Placed p around → Placed n around
side p n [] e h = e ∙ h
side p n (q ∷ around) e h = (e ∙ h.0, h.1)

some_moved : (around : List Place) (o : Option Place) (n : Reading) → option_map (moved around) o ≡ Some n → (p : Place) × (o ≡ Some p) × (n ≡ moved around p)
some_moved around None n e = cc
some_moved around (Some p) n e = (p, refl, cc)

some_opened : (around : List Place) (o : Option Place) (n : Reading) → option_map (opened around) o ≡ Some n → (p : Place) × (o ≡ Some p) × (n ≡ opened around p)
some_opened around None n e = cc
some_opened around (Some p) n e = (p, refl, cc)

plain-steps : (r n : Reading) (k : Kind) → nat_eq (code k) group_letter ≡ false → step r k ≡ option_map (moved r.around) (next_place r.place k) → Placed r.place r.around → step r k ≡ Some n → Steps r n k
plain-steps r n k ng e placed s =
    let f = some_moved r.around (next_place r.place k) n (sym e ∙ s) in
    let stay : in_group f.0 ≡ in_group r.place = kept (in_group r.place) f.0 (next_place r.place k) f.1 (stays r.place k) in
    subst (λ (n : Reading). Steps r n k) (sym f.2) (record {
      placed = side r.place f.0 r.around stay placed;
      few = omega arith;
      back = λ m w low h. plain-out m r.place f.0 r.around k w ng f.1 h;
    })

open-steps : (r n : Reading) → Placed r.place r.around → step r kinds.OpenBrace ≡ Some n → Steps r n kinds.OpenBrace
open-steps r n placed s =
    let f = some_opened r.around (behind_group r.place) n s in
    let stay : in_group f.0 ≡ in_group r.place = kept (in_group r.place) f.0 (behind_group r.place) f.1 (stays-group r.place) in
    subst (λ (n : Reading). Steps r n kinds.OpenBrace) (sym f.2) (record {
      placed = (refl, side r.place f.0 r.around stay placed);
      few = omega arith;
      back = λ m w low h. open-out m r.place f.0 r.around w f.1 h;
    })

close-steps : (r n : Reading) → Placed r.place r.around → step r kinds.CloseBrace ≡ Some n → Steps r n kinds.CloseBrace
close-steps r n placed s = by_may (may_close r.place) refl (r.around) refl
  where
    differ : None ≡ Some n → ⊥
    differ e = cc

    by_may : (t : Bool) → may_close r.place ≡ t → (around : List Place) → r.around ≡ around → Steps r n kinds.CloseBrace
    by_may false e around a = absurd (differ (sym (ap (λ (b : Bool). if b then closed r.around else None) e) ∙ s))
    by_may true e [] a = absurd (differ (sym (ap (λ (b : Bool). if b then closed r.around else None) e ∙ ap closed a) ∙ s))
    by_may true e (q ∷ others) a =
        let c : Some (record { place = q; around = others }) ≡ Some n = sym (ap (λ (b : Bool). if b then closed r.around else None) e ∙ ap closed a) ∙ s in
        let is : record { place = q; around = others } ≡ n = cc in
        let p : Placed r.place (q ∷ others) = subst (λ (l : List Place). Placed r.place l) a placed in
        let long : length r.around ≡ suc (length others) = ap length a in
        subst (λ (n : Reading). Steps r n kinds.CloseBrace) is (record {
          placed = p.1;
          few = omega (arith, long);
          back = λ m w low h. subst (λ (l : List Place). Completes m r.place l (end_brace ∷ w)) (sym a) (close-out m r.place q others w p.0 e (omega (arith, low, long)) h);
        })

pub step-out : (r n : Reading) (k : Kind) → Placed r.place r.around → step r k ≡ Some n → Steps r n k
step-out r n kinds.OpenBrace placed s = open-steps r n placed s
step-out r n kinds.CloseBrace placed s = close-steps r n placed s
step-out r n kinds.Iri placed s = plain-steps r n kinds.Iri refl refl placed s
step-out r n kinds.Prefix placed s = plain-steps r n kinds.Prefix refl refl placed s
step-out r n kinds.Prefixed placed s = plain-steps r n kinds.Prefixed refl refl placed s
step-out r n kinds.Variable placed s = plain-steps r n kinds.Variable refl refl placed s
step-out r n kinds.Blank placed s = plain-steps r n kinds.Blank refl refl placed s
step-out r n kinds.Anonymous placed s = plain-steps r n kinds.Anonymous refl refl placed s
step-out r n kinds.Str placed s = plain-steps r n kinds.Str refl refl placed s
step-out r n kinds.Tag placed s = plain-steps r n kinds.Tag refl refl placed s
step-out r n kinds.Number placed s = plain-steps r n kinds.Number refl refl placed s
step-out r n kinds.PrefixWord placed s = plain-steps r n kinds.PrefixWord refl refl placed s
step-out r n kinds.SelectWord placed s = plain-steps r n kinds.SelectWord refl refl placed s
step-out r n kinds.WhereWord placed s = plain-steps r n kinds.WhereWord refl refl placed s
step-out r n kinds.TrueWord placed s = plain-steps r n kinds.TrueWord refl refl placed s
step-out r n kinds.FalseWord placed s = plain-steps r n kinds.FalseWord refl refl placed s
step-out r n kinds.TypeWord placed s = plain-steps r n kinds.TypeWord refl refl placed s
step-out r n kinds.DistinctWord placed s = plain-steps r n kinds.DistinctWord refl refl placed s
step-out r n kinds.OptionalWord placed s = plain-steps r n kinds.OptionalWord refl refl placed s
step-out r n kinds.UnionWord placed s = plain-steps r n kinds.UnionWord refl refl placed s
step-out r n kinds.OtherWord placed s = plain-steps r n kinds.OtherWord refl refl placed s
step-out r n kinds.Dot placed s = plain-steps r n kinds.Dot refl refl placed s
step-out r n kinds.Semicolon placed s = plain-steps r n kinds.Semicolon refl refl placed s
step-out r n kinds.Comma placed s = plain-steps r n kinds.Comma refl refl placed s
step-out r n kinds.Star placed s = plain-steps r n kinds.Star refl refl placed s
step-out r n kinds.Carets placed s = plain-steps r n kinds.Carets refl refl placed s

-- ---- some tokens

-- after so many tokens the reader stands here
pub record At (ks : List Kind) (i : ℕ) (r : Reading) : Type 0 where
  pub placed : Placed r.place r.around
  pub few : length r.around ≤ i
  pub front : (m : ℕ) (w : List ℕ) → Matches (query_of m) (codes (take i ks) ++ w) → Completes m r.place r.around w
  pub back : (m : ℕ) (w : List ℕ) → i ≤ m → Completes m r.place r.around w → Matches (query_of m) (codes (take i ks) ++ w)

pub at_start : (ks : List Kind) → At ks 0 begun
at_start ks = record {
  placed = refl;
  few = omega arith;
  front = λ m w h. subst (λ (r : Regular). Reads r m w) (sym starts) (query-reads m w h);
  back = λ m w low h. reads-query m w (subst (λ (r : Regular). Reads r m w) starts h);
}

split_one : (ks : List Kind) (i : ℕ) (d : Kind) (w : List ℕ) → i < length ks → codes (take (i + 1) ks) ++ w ≡ codes (take i ks) ++ (code (get_or ks i d) ∷ w)
split_one ks i d w below =
    let k = get_or ks i d in
    ap (λ (l : List ℕ). l ++ w) (ap codes (take_more ks i d below) ∙ map-append code (take i ks) (k ∷ [])) ∙ append_assoc (codes (take i ks)) (code k ∷ []) w

pub one_more : (ks : List Kind) (i : ℕ) (r n : Reading) (d : Kind) → i < length ks → At ks i r → step r (get_or ks i d) ≡ Some n → At ks (i + 1) n
one_more ks i r n d below at e =
    let k = get_or ks i d in
    let s = step-out r n k at.placed e in
    record {
      placed = s.placed;
      few = omega (arith, s.few, at.few);
      front = λ m w h. subst (λ (o : Option Reading). After m o w) e (step-in m r k w at.placed (at.front m (code k ∷ w) (subst (λ (l : List ℕ). Matches (query_of m) l) (split_one ks i d w below) h)));
      back = λ m w low h. subst (λ (l : List ℕ). Matches (query_of m) l) (sym (split_one ks i d w below)) (at.back m (code k ∷ w) (omega (arith, low)) (s.back m w (omega (arith, low, at.few)) h));
    }

-- ---- what may come can

empty_inside : nullable inside_letters ≡ true
unfolding inside_letters
empty_inside = refl

-- a text over letters stands for some text
expand_one : (m l : ℕ) (u : List ℕ) → ((w : List ℕ) × Expands (In (suc m)) u w) → (w : List ℕ) × Expands (In (suc m)) (l ∷ u) w
expand_one m l u rest = pick (nat_eq l group_letter) refl
  where
    pick : (t : Bool) → nat_eq l group_letter ≡ t → (w : List ℕ) × Expands (In (suc m)) (l ∷ u) w
    pick true e =
        let group : In (suc m) (brace ∷ ([] ++ end_brace ∷ [])) = braced-group m [] (empty_back inside_letters m empty_inside) in
        ((brace ∷ end_brace ∷ []) ++ rest.0, (brace ∷ end_brace ∷ [], rest.0, subst (λ (t : Bool). Piece (In (suc m)) t l (brace ∷ end_brace ∷ [])) (sym e) group, rest.1, refl))
    pick false e = (l ∷ rest.0, (l ∷ [], rest.0, subst (λ (t : Bool). Piece (In (suc m)) t l (l ∷ [])) (sym e) refl, rest.1, refl))

expanded_in : (m : ℕ) (u : List ℕ) → (w : List ℕ) × Expands (In (suc m)) u w
expanded_in m [] = ([], refl)
expanded_in m (l ∷ u) = expand_one m l u (expanded_in m u)

expanded : (m : ℕ) (u : List ℕ) → 1 ≤ m → (w : List ℕ) × Expands (In m) u w
expanded zero u low = absurd (omega (arith, low))
expanded (suc m) u low = expanded_in m u

place_text : (m : ℕ) (p : Place) → 1 ≤ m → (w : List ℕ) × Reads (rest_of p) m w
place_text m p low =
    let u = alive-some (rest_of p) (alive p) in
    let w = expanded m u.0 low in
    (w.0, (u.0, u.1, w.1))

pub completable : (m : ℕ) (p : Place) (around : List Place) → length around < m → (w : List ℕ) × Completes m p around w
completable m p [] low = place_text m p (omega (arith, low))
completable m p (q ∷ around) low =
    let v = place_text (m - suc (length around)) p (omega (arith, low)) in
    let x = completable m q around (omega (arith, low)) in
    (v.0 ++ (end_brace ∷ x.0), (v.0, x.0, omega (arith, low), v.1, x.1, refl))

pub begins : (ks : List Kind) (i : ℕ) (r : Reading) → At ks i r → BeginsGroupQuery (take i ks)
begins ks i r at =
    let c = completable (i + 1) r.place r.around (omega (arith, at.few)) in
    (i + 1, (c.0, at.back (i + 1) c.0 (omega arith) c.1))

-- ---- the ends

whole : (ks : List Kind) (i : ℕ) → IsGroupQuery ks → BeginsGroupQuery (take i ks)
whole ks i q =
    let split : codes ks ≡ codes (take i ks) ++ codes (drop i ks) = sym (ap codes (take-append-drop i ks)) ∙ map-append code (take i ks) (drop i ks) in
    (q.0, (codes (drop i ks), subst (λ (l : List ℕ). Matches (query_of q.0) l) split q.1))

pub stops_here : (ks : List Kind) (i : ℕ) (r : Reading) (d : Kind) → i < length ks → At ks i r → step r (get_or ks i d) ≡ None → IsGroupFault ks i
stops_here ks i r d below at e = record {
  no_query = λ q. none (whole ks (i + 1) q);
  within = omega arith;
  before = begins ks i r at;
  here = λ h. none;
}
  where
    none : BeginsGroupQuery (take (i + 1) ks) → ⊥
    none b =
        let k = get_or ks i d in
        subst (λ (o : Option Reading). After b.0 o b.1.0) e (step-in b.0 r k b.1.0 at.placed (at.front b.0 (code k ∷ b.1.0) (subst (λ (l : List ℕ). Matches (query_of b.0) l) (split_one ks i d b.1.0 below) b.1.1)))

ends_outside : (p : Place) → is_end p ≡ true → in_group p ≡ false
ends_outside (Within AtEnd) e = refl
ends_outside (Within Start) e = cc
ends_outside (Within _) e = cc
ends_outside _ e = cc

-- all tokens
all_tokens : (ks : List Kind) → codes (take (length ks) ks) ++ [] ≡ codes ks
all_tokens ks = append-nil (codes (take (length ks) ks)) ∙ ap codes (take_all (length ks) ks (omega arith))

pub read : (ks : List Kind) (r : Reading) → At ks (length ks) r → is_end r.place ≡ true → IsGroupQuery ks
read ks r at e = (length ks, subst (λ (l : List ℕ). Matches (query_of (length ks)) l) (all_tokens ks) (at.back (length ks) [] (omega arith) (outside r.place r.around at.placed e)))
  where
    differ : (b : Bool) → b ≡ true → b ≡ false → ⊥
    differ b x y = cc

    outside : (p : Place) (around : List Place) → Placed p around → is_end p ≡ true → Completes (length ks) p around []
    outside p [] placed e = empty_back (rest_of p) (length ks) (stops p ∙ ap (may_stop p) placed ∙ e)
    outside p (q ∷ around) placed e = absurd (differ (in_group p) placed.0 (ends_outside p e))

pub too_early : (ks : List Kind) (r : Reading) → At ks (length ks) r → is_end r.place ≡ false → IsGroupFault ks (length ks)
too_early ks r at e = record {
  no_query = λ q. none q.0 r.place r.around at.placed e (at.front q.0 [] (subst (λ (l : List ℕ). Matches (query_of q.0) l) (sym (all_tokens ks)) q.1));
  within = omega arith;
  before = begins ks (length ks) r at;
  here = λ h. absurd (omega (arith, h));
}
  where
    differ : (b : Bool) → b ≡ true → b ≡ false → ⊥
    differ b x y = cc

    no_cons : (v x : List ℕ) → [] ≡ v ++ (end_brace ∷ x) → ⊥
    no_cons [] x e = cc
    no_cons (l ∷ v) x e = cc

    none : (m : ℕ) (p : Place) (around : List Place) → Placed p around → is_end p ≡ false → Completes m p around [] → ⊥
    none m p [] placed e h = differ (is_end p) (sym (ap (may_stop p) placed) ∙ sym (stops p) ∙ empty_step (rest_of p) m h) e
    none m p (q ∷ around) placed e h = no_cons h.0 h.1 h.5

-- ---- one fault

-- a front of a front of a query is the front of a query
fewer : (ks : List Kind) (m n : ℕ) → m ≤ n → BeginsGroupQuery (take n ks) → BeginsGroupQuery (take m ks)
fewer ks m n h b =
    let same : take m (take n ks) ≡ take m ks = take-take m n ks h in
    let split : codes (take n ks) ≡ codes (take m ks) ++ codes (drop m (take n ks)) = sym (ap codes (take-append-drop m (take n ks))) ∙ map-append code (take m (take n ks)) (drop m (take n ks)) ∙ ap (λ (l : List Kind). codes l ++ codes (drop m (take n ks))) same in
    (b.0, (codes (drop m (take n ks)) ++ b.1.0, subst (λ (l : List ℕ). Matches (query_of b.0) l) (ap (λ (l : List ℕ). l ++ b.1.0) split ∙ append_assoc (codes (take m ks)) _ _) b.1.1))

not_less : (ks : List Kind) (m n : ℕ) → IsGroupFault ks m → IsGroupFault ks n → m < n → ⊥
not_less ks m n a b h = let w = b.within in a.here (omega arith) (fewer ks (m + 1) n (omega arith) b.before)

pub one_place : (ks : List Kind) (m n : ℕ) → IsGroupFault ks m → IsGroupFault ks n → m ≡ n
one_place ks m n a b = pick (cases_order m n)
  where
    pick : (m ≡ n) ⊎ ((m < n) ⊎ (n < m)) → m ≡ n
    pick (inl e) = e
    pick (inr (inl h)) = absurd (not_less ks m n a b h)
    pick (inr (inr h)) = absurd (not_less ks n m b a h)

step_on : (ks : List Kind) (i : ℕ) (r : Reading) → i < length ks → At ks i r → (o : Option Reading) → step r (get_or ks i kinds.Iri) ≡ o
    → ((n : Reading) → At ks (i + 1) n → IsGroupQuery ks ⊎ ((n : ℕ) × IsGroupFault ks n)) → IsGroupQuery ks ⊎ ((n : ℕ) × IsGroupFault ks n)
step_on ks i r below at None s on = inr (i, stops_here ks i r kinds.Iri below at s)
step_on ks i r below at (Some n) s on = on n (one_more ks i r n kinds.Iri below at s)

-- from where the reader stands, with so many tokens left
reading_from : (ks : List Kind) (left i : ℕ) (r : Reading) → i + left ≡ length ks → At ks i r → IsGroupQuery ks ⊎ ((n : ℕ) × IsGroupFault ks n)
reading_from ks zero i r e at = pick (is_end r.place) refl
  where
    here : At ks (length ks) r
    here = let all : i ≡ length ks = omega (arith, e) in subst (λ (n : ℕ). At ks n r) all at

    pick : (t : Bool) → is_end r.place ≡ t → IsGroupQuery ks ⊎ ((n : ℕ) × IsGroupFault ks n)
    pick true e = inl (read ks r here e)
    pick false e = inr (length ks, too_early ks r here e)
reading_from ks (suc left) i r e at =
    step_on ks i r (omega (arith, e)) at (step r (get_or ks i kinds.Iri)) refl (λ n h. reading_from ks left (i + 1) n (omega (arith, e)) h)

pub some_reading : (ks : List Kind) → IsGroupQuery ks ⊎ ((n : ℕ) × IsGroupFault ks n)
some_reading ks = reading_from ks (length ks) 0 begun (omega arith) (at_start ks)

-- ---- what a call of the reader told

pub told_none : (b : Bool) (o : Option Reading) (n : Reading) → b ≡ false → Tells b o n → o ≡ None
told_none true o n e h = cc
told_none false o n e h = h

pub told_some : (b : Bool) (o : Option Reading) (n : Reading) → b ≡ true → Tells b o n → o ≡ Some n
told_some true o n e h = h
told_some false o n e h = cc
