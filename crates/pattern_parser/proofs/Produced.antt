-- The triples that the productions give are those that are read.
use Rattle.std.proofs.Common.{◌≡◌, inl, inr, Bool, true, false, if◌then◌else◌, List, [], ◌∷◌, ◌++◌, Option, Some, None, refl, sym, ap, ◌∙◌, append_assoc}
use Rattle.std.proofs.lemmas.List.{append-nil}
use Rattle.bgp_core.specs.declared.pattern.Part.{Part}
use Rattle.pattern_parser.specs.declared.item.Item.{Item}
use Rattle.pattern_parser.specs.declared.item.Item.TheVariants as items
use Rattle.pattern_parser.specs.Triples.{Placed, placed, triples_after}
use Rattle.pattern_parser.specs.Productions.{Objects, VerbObjects, MaybeVerbObjects, Each, after_marks, triples_of, Same, Block, Body}

objects_read : (s v : Part) (is rest : List Item) (ts : List Placed) → Objects s v is ts → triples_after (Some s) (Some v) (is ++ rest) ≡ ts ++ triples_after (Some s) (Some v) rest
objects_read s v (items.Part o at ∷ []) rest ts e = rw e refl
objects_read s v (items.Part o at ∷ items.Comma ∷ is) rest ts m =
    rw m.2 (ap (λ (l : List Placed). placed s v o at ∷ l) (objects_read s v is rest m.0 m.1))
objects_read s v _ rest ts m = absurd m

-- what may follow the verbs and objects of a subject
abbrev Ends : List Item → Type 0
Ends [] = Unit {0}
Ends (items.Part t at ∷ is) = ⊥
Ends (items.Dot ∷ is) = Unit {0}
Ends (items.Semicolon ∷ is) = Unit {0}
Ends (items.Comma ∷ is) = ⊥

-- there the verb no longer matters
ended : (s : Part) (v : Option Part) (rest : List Item) → Ends rest → triples_after (Some s) v rest ≡ triples_after (Some s) None rest
ended s v [] e = refl
ended s v (items.Part t at ∷ is) e = absurd e
ended s v (items.Dot ∷ is) e = refl
ended s v (items.Semicolon ∷ is) e = refl
ended s v (items.Comma ∷ is) e = absurd e

verb_read : (s : Part) (is rest : List Item) (ts : List Placed) → VerbObjects s is ts → Ends rest → triples_after (Some s) None (is ++ rest) ≡ ts ++ triples_after (Some s) None rest
verb_read s is rest ts m e =
    ap (λ (l : List Item). triples_after (Some s) None (l ++ rest)) m.3 ∙ objects_read s m.0 m.2 rest ts m.4 ∙ ap (λ (l : List Placed). ts ++ l) (ended s (Some m.0) rest e)

maybe_read : (s : Part) (is rest : List Item) (ts : List Placed) → MaybeVerbObjects s is ts → Ends rest → triples_after (Some s) None (is ++ rest) ≡ ts ++ triples_after (Some s) None rest
maybe_read s is rest ts (inl m) e = rw (m.0, m.1) refl
maybe_read s is rest ts (inr m) e = verb_read s is rest ts m e

more_end : (ps : List (List Item × List Placed)) (rest : List Item) → Ends rest → Ends (after_marks items.Semicolon ps ++ rest)
more_end [] rest e = e
more_end (p ∷ ps) rest e = tt

more_read : (s : Part) (ps : List (List Item × List Placed)) (rest : List Item) → Each (MaybeVerbObjects s) ps → Ends rest → triples_after (Some s) None (after_marks items.Semicolon ps ++ rest) ≡ triples_of ps ++ triples_after (Some s) None rest
more_read s [] rest h e = refl
more_read s (p ∷ ps) rest h e =
    ap (λ (l : List Item). triples_after (Some s) None l) (append_assoc p.0 (after_marks items.Semicolon ps) rest) ∙
    maybe_read s p.0 (after_marks items.Semicolon ps ++ rest) p.1 h.0 (more_end ps rest e) ∙
    ap (λ (l : List Placed). p.1 ++ l) (more_read s ps rest h.1 e) ∙
    sym (append_assoc p.1 (triples_of ps) (triples_after (Some s) None rest))

-- what may follow the triples of a subject
abbrev Over : List Item → Type 0
Over [] = Unit {0}
Over (items.Part t at ∷ is) = ⊥
Over (items.Dot ∷ is) = Unit {0}
Over (items.Semicolon ∷ is) = ⊥
Over (items.Comma ∷ is) = ⊥

over_ends : (rest : List Item) → Over rest → Ends rest
over_ends [] o = tt
over_ends (items.Part t at ∷ is) o = o
over_ends (items.Dot ∷ is) o = tt
over_ends (items.Semicolon ∷ is) o = tt
over_ends (items.Comma ∷ is) o = o

over : (s : Part) (rest : List Item) → Over rest → triples_after (Some s) None rest ≡ triples_after None None rest
over s [] o = refl
over s (items.Part t at ∷ is) o = absurd o
over s (items.Dot ∷ is) o = refl
over s (items.Semicolon ∷ is) o = absurd o
over s (items.Comma ∷ is) o = absurd o

same_read : (is rest : List Item) (ts : List Placed) → Same is ts → Over rest → triples_after None None (is ++ rest) ≡ ts ++ triples_after None None rest
same_read is rest ts m o =
    let s = m.subject in
    let e = over_ends rest o in
    ap (λ (l : List Item). triples_after None None (l ++ rest)) m.items_are ∙
    ap (λ (l : List Item). triples_after (Some s) None l) (append_assoc m.first.0 (after_marks items.Semicolon m.more) rest) ∙
    verb_read s m.first.0 (after_marks items.Semicolon m.more ++ rest) m.first.1 m.first_is (more_end m.more rest e) ∙
    ap (λ (l : List Placed). m.first.1 ++ l) (more_read s m.more rest m.more_are e) ∙
    sym (append_assoc m.first.1 (triples_of m.more) (triples_after (Some s) None rest)) ∙
    ap (λ (l : List Placed). l ++ triples_after (Some s) None rest) (sym m.triples_are) ∙
    ap (λ (l : List Placed). ts ++ l) (over s rest o)

dots_over : (ps : List (List Item × List Placed)) (rest : List Item) → Over rest → Over (after_marks items.Dot ps ++ rest)
dots_over [] rest o = o
dots_over (p ∷ ps) rest o = tt

dots_read : (ps : List (List Item × List Placed)) (rest : List Item) → Each Same ps → Over rest → triples_after None None (after_marks items.Dot ps ++ rest) ≡ triples_of ps ++ triples_after None None rest
dots_read [] rest h o = refl
dots_read (p ∷ ps) rest h o =
    ap (λ (l : List Item). triples_after None None l) (append_assoc p.0 (after_marks items.Dot ps) rest) ∙
    same_read p.0 (after_marks items.Dot ps ++ rest) p.1 h.0 (dots_over ps rest o) ∙
    ap (λ (l : List Placed). p.1 ++ l) (dots_read ps rest h.1 o) ∙
    sym (append_assoc p.1 (triples_of ps) (triples_after None None rest))

last_dot : (b : Bool) → Over (if b then items.Dot ∷ [] else [])
last_dot true = tt
last_dot false = tt

none_last : (b : Bool) → triples_after None None (if b then items.Dot ∷ [] else []) ≡ []
none_last true = refl
none_last false = refl

block_read : (is : List Item) (ts : List Placed) → Block is ts → triples_after None None is ≡ ts
block_read is ts b =
    let last = if b.dot then items.Dot ∷ [] else [] in
    ap (triples_after None None) b.items_are ∙
    same_read b.first.0 (after_marks items.Dot b.more ++ last) b.first.1 b.first_is (dots_over b.more last (last_dot b.dot)) ∙
    ap (λ (l : List Placed). b.first.1 ++ l) (dots_read b.more last b.more_are (last_dot b.dot) ∙ ap (λ (l : List Placed). triples_of b.more ++ l) (none_last b.dot) ∙ append-nil (triples_of b.more)) ∙
    sym b.triples_are

pub body_read : (is : List Item) (ts : List Placed) → Body is ts → ts ≡ triples_after None None is
body_read is ts (inl m) = rw (m.0, m.1) refl
body_read is ts (inr b) = sym (block_read is ts b)
