-- The place of a part among the parts.
use Rattle.std.proofs.Common.{ℕ, suc, ◌≡◌, ◌+◌, ◌<◌, ◌≤◌, Bool, true, false, ◌&&◌, List, [], ◌∷◌, ◌++◌, length, take, drop, get_or, set, ap, sym, subst, ◌∙◌, append-nil}
use Rattle.std.specs.Prelude.{is_some}
use Rattle.std.specs.List.{All}
use Rattle.std.proofs.lemmas.List.{set_split, set-get_or, take_more, at_drop_more, at_drop_all}
use Rattle.std.proofs.lemmas.List.Concat.{flat_map-append}
use Rattle.std.proofs.lemmas.List.Elements.{All-append}
use Rattle.fragment_page.specs.declared.page.Page.{Page}
use Rattle.joint_pages.specs.Parts.{PartData, came, ticket_while, tickets_in, are_there}
use Rattle.joint_pages.specs.Gatherings.{GatheringData, TakesPart, AwaitsAt}

-- a list is what stands before a place, what stands there, and what stands behind it
pub split-there : {X : Type 0} (xs : List X) (place : ℕ) (x : X) → place < length xs → x ≡ get_or xs place x → xs ≡ take place xs ++ x ∷ drop (suc place) xs
split-there xs place x h e = sym (set-get_or xs place x) ∙ ap (λ y. set xs place y) (sym e) ∙ set_split xs place x h

-- whether all pages came, from a place on
pub there-step : (parts : List PartData) (place : ℕ) (p : PartData) → place < length parts → p ≡ get_or parts place p → is_some p.page ≡ true → are_there (drop (place + 1) parts) ≡ are_there (drop place parts)
there-step parts place p h e there =
    sym (at_drop_more (λ (l : List PartData). are_there l) parts place p h ∙ ap (λ (x : PartData). is_some x.page && are_there (drop (place + 1) parts)) (sym e) ∙ ap (λ (b : Bool). b && are_there (drop (place + 1) parts)) there)

pub there-stop : (parts : List PartData) (place : ℕ) (p : PartData) → place < length parts → p ≡ get_or parts place p → is_some p.page ≡ false → are_there (drop place parts) ≡ false
there-stop parts place p h e there =
    at_drop_more (λ (l : List PartData). are_there l) parts place p h ∙ ap (λ (x : PartData). is_some x.page && are_there (drop (place + 1) parts)) (sym e) ∙ ap (λ (b : Bool). b && are_there (drop (place + 1) parts)) there

pub there-end : (parts : List PartData) (place : ℕ) → length parts ≤ place → are_there (drop place parts) ≡ true
there-end parts place h = at_drop_all (λ (l : List PartData). are_there l) parts place h

-- a ticket that is none of those before a place, and is not the one there
pub stranger-more : (parts : List PartData) (place : ℕ) (p : PartData) (ticket : ℕ) → place < length parts → p ≡ get_or parts place p → All (λ t. t ≡ ticket → ⊥) (tickets_in (take place parts)) → All (λ t. t ≡ ticket → ⊥) (ticket_while p.ticket p.page)
    → All (λ t. t ≡ ticket → ⊥) (tickets_in (take (place + 1) parts))
stranger-more parts place p ticket h e before here =
    let more : take (place + 1) parts ≡ take place parts ++ p ∷ [] = take_more parts place p h ∙ ap (λ (x : PartData). take place parts ++ x ∷ []) (sym e) in
    let one : tickets_in (take place parts ++ p ∷ []) ≡ tickets_in (take place parts) ++ ticket_while p.ticket p.page =
    flat_map-append (λ (x : PartData). ticket_while x.ticket x.page) (take place parts) (p ∷ []) ∙ ap (λ (l : List ℕ). tickets_in (take place parts) ++ l) (append-nil (ticket_while p.ticket p.page)) in
    subst (λ (l : List PartData). All (λ t. t ≡ ticket → ⊥) (tickets_in l)) (sym more) (subst (λ (l : List ℕ). All (λ t. t ≡ ticket → ⊥) l) (sym one) (All-append (λ t. t ≡ ticket → ⊥) (tickets_in (take place parts)) (ticket_while p.ticket p.page) before here))

-- the page of the part that awaited it
pub take-part : (old new : GatheringData) (place ticket : ℕ) (page : Page) (a : AwaitsAt old.parts place ticket) → new.parts ≡ set old.parts place (came a.part page) → new.wanted ≡ old.wanted → new.number ≡ old.number → new.taken ≡ old.taken → TakesPart old new ticket page
take-part old new place ticket page a parts wanted number taken = record {
  before = take place old.parts;
  part = a.part;
  after = drop (suc place) old.parts;
  was = split-there old.parts place a.part a.within a.there;
  awaits = a.awaits;
  now = parts ∙ set_split old.parts place (came a.part page) a.within;
  wanted = wanted;
  number = number;
  taken = taken;
}
