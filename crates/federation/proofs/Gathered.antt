-- A round that hands out an address, or takes a page.
use Rattle.std.proofs.Common.{ℕ, ◌≡◌, Bool, true, false, ◌&&◌, List, [], ◌∷◌, ◌++◌, length, map, Option, Some, None, refl, ap, ap₂, sym, subst, ◌∙◌, append-nil}
use Rattle.std.specs.Prelude.{◌==◌, is_some, option_to_list}
use Rattle.std.specs.List.{All, flat_map}
use Rattle.std.specs.Option.{option_map}
use Rattle.std.specs.List.Sorted.{IsPermutation}
use Rattle.std.proofs.lemmas.Bool.{and_parts}
use Rattle.std.proofs.lemmas.List.{map-append}
use Rattle.std.proofs.lemmas.List.Concat.{flat_map-append}
use Rattle.std.proofs.lemmas.List.Elements.{All-nil, All-cons, All-head, All-tail, All-push}
use Rattle.std.proofs.lemmas.List.Folds.{list_all-append}
use Rattle.std.proofs.lemmas.List.Sorted.{IsPermutation-sym, IsPermutation-trans, IsPermutation-middle, IsPermutation-to_front, All-permutation}
use Rattle.list_laws.proofs.Lists.{map_snoc, snoc_append, none_wanted}
use Rattle.list_laws.proofs.Orders.{same}
use Rattle.list_laws.proofs.Tests.{and_false}
use Rattle.rdf_terms.specs.declared.term.Triple.{Triple}
use Rattle.tpf_base.specs.Addresses.{Address}
use Rattle.fragment_page.specs.declared.page.Page.{Page}
use Rattle.request_plan.specs.Evaluations.{HasHome, NextAtHome}
use Rattle.request_plan.specs.Rounds.{RoundData, round_of_one, NextRoundAtHome}
use Rattle.request_plan.specs.Worlds.{World}
use Rattle.joint_pages.specs.Parts.{PartData, awaited, came, ticket_while, out_while, page_of, tickets_in, pages_in, are_there}
use Rattle.joint_pages.specs.Gatherings.{GatheringData, HandsPart, TakesPart, round_of, tickets_of, outs_of, is_whole}
use Rattle.joint_pages.specs.Joined.{added, nexts_of, next_round, new_triples, joined_as}
use Rattle.joint_pages.specs.Truths.{IsPageOfAll, IsTruePart, HoldsTrue}
use Rattle.federation.specs.Federations.{PageAtHome, KeepsRound}

-- ---- parts, whatever is asked of them

module _ {A : Type 0} (f : PartData → List A) where
  pub of-handed : (old new : GatheringData) (ticket : ℕ) (address : Address) (a : A) → HandsPart old new ticket address → f (awaited ticket address) ≡ a ∷ [] → IsPermutation (flat_map f new.parts) (a ∷ flat_map f old.parts)
  of-handed old new ticket address a h e =
      let whole : flat_map f new.parts ≡ flat_map f old.parts ++ a ∷ [] =
      ap (λ (l : List PartData). flat_map f l) h.parts ∙ flat_map-append f old.parts (awaited ticket address ∷ []) ∙ ap (λ (l : List A). flat_map f old.parts ++ l) (append-nil (f (awaited ticket address)) ∙ e) in
      IsPermutation-trans _ _ _ (same _ _ whole) (IsPermutation-to_front (flat_map f old.parts) a)

  split : (before : List PartData) (p : PartData) (after : List PartData) (l : List A) → f p ≡ l → flat_map f (before ++ p ∷ after) ≡ flat_map f before ++ (l ++ flat_map f after)
  split before p after l e = flat_map-append f before (p ∷ after) ∙ ap (λ (x : List A). flat_map f before ++ (x ++ flat_map f after)) e

  pub of-taken : (old new : GatheringData) (ticket : ℕ) (page : Page) (a : A) (h : TakesPart old new ticket page) → f h.part ≡ a ∷ [] → f (came h.part page) ≡ [] → IsPermutation (flat_map f old.parts) (a ∷ flat_map f new.parts)
  of-taken old new ticket page a h e g =
      let first : flat_map f old.parts ≡ flat_map f h.before ++ a ∷ flat_map f h.after = ap (λ (l : List PartData). flat_map f l) h.was ∙ split h.before h.part h.after (a ∷ []) e in
      let then_is : flat_map f new.parts ≡ flat_map f h.before ++ flat_map f h.after = ap (λ (l : List PartData). flat_map f l) h.now ∙ split h.before (came h.part page) h.after [] g in
      IsPermutation-trans _ _ _ (same _ _ first) (subst (λ (l : List A). IsPermutation (flat_map f h.before ++ a ∷ flat_map f h.after) (a ∷ l)) (sym then_is) (IsPermutation-middle (flat_map f h.before) a (flat_map f h.after)))

  pub of-whole : (parts : List PartData) → ((ticket : ℕ) (address : Address) (page : Page) → f (record { ticket = ticket; address = address; page = Some page }) ≡ []) → are_there parts ≡ true → flat_map f parts ≡ []
  of-whole [] h e = refl
  of-whole (p ∷ parts) h e =
      let parts-are = and_parts (is_some p.page) (are_there parts) e in
      ap₂ (λ (a b : List A). a ++ b) (by p.ticket p.address p.page parts-are.0) (of-whole parts h parts-are.1) where
        by : (ticket : ℕ) (address : Address) (page : Option Page) → is_some page ≡ true → f (record { ticket = ticket; address = address; page = page }) ≡ []
        by ticket address None e = cc
        by ticket address (Some page) e = h ticket address page

-- ---- tickets that are out, with their addresses

out-is : (p : PartData) (ticket : ℕ) → p.ticket ≡ ticket → p.page ≡ None → out_while p.ticket p.address p.page ≡ (ticket, p.address) ∷ []
out-is p ticket e g = ap₂ (λ (t : ℕ) (page : Option Page). out_while t p.address page) e g

ticket-is : (p : PartData) (ticket : ℕ) → p.ticket ≡ ticket → p.page ≡ None → ticket_while p.ticket p.page ≡ ticket ∷ []
ticket-is p ticket e g = ap₂ (λ (t : ℕ) (page : Option Page). ticket_while t page) e g

pub handed-outs : (old new : GatheringData) (ticket : ℕ) (address : Address) → HandsPart old new ticket address → IsPermutation (outs_of new) ((ticket, address) ∷ outs_of old)
handed-outs old new ticket address h = of-handed (λ (p : PartData). out_while p.ticket p.address p.page) old new ticket address (ticket, address) h refl

pub handed-tickets : (old new : GatheringData) (ticket : ℕ) (address : Address) → HandsPart old new ticket address → IsPermutation (tickets_of new) (ticket ∷ tickets_of old)
handed-tickets old new ticket address h = of-handed (λ (p : PartData). ticket_while p.ticket p.page) old new ticket address ticket h refl

pub taken-outs : (old new : GatheringData) (ticket : ℕ) (page : Page) (h : TakesPart old new ticket page) → IsPermutation (outs_of old) ((ticket, h.part.address) ∷ outs_of new)
taken-outs old new ticket page h = of-taken (λ (p : PartData). out_while p.ticket p.address p.page) old new ticket page (ticket, h.part.address) h (out-is h.part ticket h.awaits.under h.awaits.out) refl

pub taken-tickets : (old new : GatheringData) (ticket : ℕ) (page : Page) → TakesPart old new ticket page → IsPermutation (tickets_of old) (ticket ∷ tickets_of new)
taken-tickets old new ticket page h = of-taken (λ (p : PartData). ticket_while p.ticket p.page) old new ticket page ticket h (ticket-is h.part ticket h.awaits.under h.awaits.out) refl

-- ---- whole rounds

pub whole-wants : (g : GatheringData) → is_whole g ≡ true → g.wanted ≡ []
whole-wants g e = (none_wanted g.wanted (are_there g.parts) e).0

whole-there : (g : GatheringData) → is_whole g ≡ true → are_there g.parts ≡ true
whole-there g e = (none_wanted g.wanted (are_there g.parts) e).1

pub whole-outs : (g : GatheringData) → is_whole g ≡ true → outs_of g ≡ []
whole-outs g e = of-whole (λ (p : PartData). out_while p.ticket p.address p.page) g.parts (λ ticket address page. refl) (whole-there g e)

pub whole-tickets : (g : GatheringData) → is_whole g ≡ true → tickets_of g ≡ []
whole-tickets g e = of-whole (λ (p : PartData). ticket_while p.ticket p.page) g.parts (λ ticket address page. refl) (whole-there g e)

-- a round that wants no address, and of which no ticket is out, is whole
pub no-tickets : (parts : List PartData) → tickets_in parts ≡ [] → are_there parts ≡ true
no-tickets [] e = refl
no-tickets (p ∷ parts) e = by p.ticket p.page (no-tickets parts) e where
  by : (ticket : ℕ) (page : Option Page) → (tickets_in parts ≡ [] → are_there parts ≡ true) → ticket_while ticket page ++ tickets_in parts ≡ [] → (is_some page && are_there parts) ≡ true
  by ticket None more h = cc
  by ticket (Some page) more h = more h

pub is-whole : (g : GatheringData) → g.wanted ≡ [] → tickets_of g ≡ [] → is_whole g ≡ true
is-whole g e h = ap₂ (λ (l : List Address) (b : Bool). (length l == 0) && b) e (no-tickets g.parts h)

-- one that handed out an address is not
pub handed-open : (old new : GatheringData) (ticket : ℕ) (address : Address) → HandsPart old new ticket address → is_whole new ≡ false
handed-open old new ticket address h =
    let there : are_there new.parts ≡ false =
    ap (λ (l : List PartData). are_there l) h.parts ∙ list_all-append (λ (p : PartData). is_some p.page) old.parts (awaited ticket address ∷ []) ∙ and_false (are_there old.parts) in
    ap (λ (b : Bool). (length new.wanted == 0) && b) there ∙ and_false (length new.wanted == 0)

-- ---- the round stays

round : List Address → List Triple → RoundData
round addresses taken = record { addresses = addresses; taken = taken }

address : PartData → Address
address p = p.address

pub handed-round : (old new : GatheringData) (ticket : ℕ) (a : Address) → HandsPart old new ticket a → round_of new ≡ round_of old
unfolding round
handed-round old new ticket a h =
    let all : map (λ (p : PartData). p.address) new.parts ++ new.wanted ≡ map (λ (p : PartData). p.address) old.parts ++ old.wanted =
    ap (λ (l : List PartData). map (λ (p : PartData). p.address) l ++ new.wanted) h.parts ∙ ap (λ (l : List Address). l ++ new.wanted) (map_snoc (λ (p : PartData). p.address) old.parts (awaited ticket a))
    ∙ snoc_append (map (λ (p : PartData). p.address) old.parts) a new.wanted ∙ ap (λ (l : List Address). map (λ (p : PartData). p.address) old.parts ++ l) (sym h.wanted) in
    ap₂ (λ (x : List Address) (y : List Triple). round x y) all h.taken

pub taken-round : (old new : GatheringData) (ticket : ℕ) (page : Page) → TakesPart old new ticket page → round_of new ≡ round_of old
unfolding round
taken-round old new ticket page h =
    let all : map (λ (p : PartData). p.address) new.parts ≡ map (λ (p : PartData). p.address) old.parts =
    ap (λ (l : List PartData). map (λ (p : PartData). p.address) l) h.now ∙ map-append (λ (p : PartData). p.address) h.before (came h.part page ∷ h.after)
    ∙ sym (map-append (λ (p : PartData). p.address) h.before (h.part ∷ h.after)) ∙ ap (λ (l : List PartData). map (λ (p : PartData). p.address) l) (sym h.was) in
    ap₂ (λ (x : List Address) (y : List Triple). round x y) (ap₂ (λ (x y : List Address). x ++ y) all h.wanted) h.taken

-- ---- what holds of each part

module _ (P : PartData → Type 0) where
  pub all-handed : (old new : GatheringData) (ticket : ℕ) (a : Address) → HandsPart old new ticket a → P (awaited ticket a) → All P old.parts → All P new.parts
  all-handed old new ticket a h p all = subst (λ (l : List PartData). All P l) (sym h.parts) (All-push P old.parts (awaited ticket a) all p)

  pub all-taken : (old new : GatheringData) (ticket : ℕ) (page : Page) (h : TakesPart old new ticket page) → P (came h.part page) → All P old.parts → All P new.parts
  all-taken old new ticket page h p all =
      let turned = IsPermutation-middle h.before h.part h.after in
      let others : All P (h.before ++ h.after) = All-tail P h.part (h.before ++ h.after) (All-permutation P (h.before ++ h.part ∷ h.after) (h.part ∷ (h.before ++ h.after)) turned (subst (λ (l : List PartData). All P l) h.was all)) in
      let back = IsPermutation-sym _ _ (IsPermutation-middle h.before (came h.part page) h.after) in
      subst (λ (l : List PartData). All P l) (sym h.now) (All-permutation P (came h.part page ∷ (h.before ++ h.after)) (h.before ++ came h.part page ∷ h.after) back (All-cons P (came h.part page) (h.before ++ h.after) p others))

pub handed-true : (worlds : List World) (old new : GatheringData) (ticket : ℕ) (a : Address) → HandsPart old new ticket a → HoldsTrue worlds old → HoldsTrue worlds new
handed-true worlds old new ticket a h true_ = all-handed (IsTruePart worlds) old new ticket a h tt true_

pub taken-true : (worlds : List World) (old new : GatheringData) (ticket : ℕ) (page : Page) (h : TakesPart old new ticket page) → IsPageOfAll worlds h.part.address page → HoldsTrue worlds old → HoldsTrue worlds new
taken-true worlds old new ticket page h is true_ = all-taken (IsTruePart worlds) old new ticket page h is true_

-- ---- authorities

pub handed-keeps : (homes : List Address) (old new : GatheringData) (ticket : ℕ) (a : Address) → HandsPart old new ticket a → All (HasHome homes) old.wanted → All (λ p. PageAtHome homes p.page) old.parts → KeepsRound homes new
handed-keeps homes old new ticket a h wanted pages = record {
  wanted = All-tail (HasHome homes) a new.wanted (subst (λ (l : List Address). All (HasHome homes) l) h.wanted wanted);
  pages = all-handed (λ (p : PartData). PageAtHome homes p.page) old new ticket a h tt pages;
  open_still = handed-open old new ticket a h;
}

pub handed-home : (homes : List Address) (old new : GatheringData) (ticket : ℕ) (a : Address) → HandsPart old new ticket a → All (HasHome homes) old.wanted → HasHome homes a
handed-home homes old new ticket a h wanted = All-head (HasHome homes) a new.wanted (subst (λ (l : List Address). All (HasHome homes) l) h.wanted wanted)

pub taken-keeps : (homes : List Address) (old new : GatheringData) (ticket : ℕ) (page : Page) → TakesPart old new ticket page → NextAtHome homes page.next → KeepsRound homes old → All (HasHome homes) new.wanted × All (λ p. PageAtHome homes p.page) new.parts
taken-keeps homes old new ticket page h home k = (
  subst (λ (l : List Address). All (HasHome homes) l) (sym h.wanted) k.wanted,
  all-taken (λ (p : PartData). PageAtHome homes p.page) old new ticket page h home k.pages,
)

nexts-home : (homes : List Address) (parts : List PartData) → All (λ p. PageAtHome homes p.page) parts → All (HasHome homes) (nexts_of (pages_in parts))
nexts-home homes [] all = All-nil (HasHome homes)
nexts-home homes (p ∷ parts) all = by p.page (All-head (λ (q : PartData). PageAtHome homes q.page) p parts all) (nexts-home homes parts (All-tail (λ (q : PartData). PageAtHome homes q.page) p parts all)) where
  with-next : (next : Option Address) (rest : List Page) (page : Page) → page.next ≡ next → NextAtHome homes next → All (HasHome homes) (nexts_of rest) → All (HasHome homes) (nexts_of (page ∷ rest))
  with-next None rest page e h more = subst (λ (o : Option Address). All (HasHome homes) (option_to_list o ++ nexts_of rest)) (sym e) more
  with-next (Some a) rest page e h more = subst (λ (o : Option Address). All (HasHome homes) (option_to_list o ++ nexts_of rest)) (sym e) (All-cons (HasHome homes) a (nexts_of rest) h more)

  by : (page : Option Page) → PageAtHome homes page → All (HasHome homes) (nexts_of (pages_in parts)) → All (HasHome homes) (nexts_of (page_of page ++ pages_in parts))
  by None h more = more
  by (Some page) h more = with-next page.next (pages_in parts) page refl h more

-- the next round of the pages that came
next-home : (homes : List Address) (parts : List PartData) (taken : List Triple) → All (λ p. PageAtHome homes p.page) parts → NextRoundAtHome homes (next_round (nexts_of (pages_in parts)) taken)
next-home homes parts taken all = by (nexts_of (pages_in parts)) (nexts-home homes parts all) where
  by : (nexts : List Address) → All (HasHome homes) nexts → NextRoundAtHome homes (next_round nexts taken)
  by [] h = tt
  by (a ∷ nexts) h = h

-- the next round of the page of one server alone
one-home : (homes : List Address) (next : Option Address) (rest : List Address) → All (HasHome homes) (option_to_list next ++ rest) → NextRoundAtHome homes (option_map round_of_one next)
one-home homes None rest h = tt
one-home homes (Some a) rest h = All-cons (HasHome homes) a [] (All-head (HasHome homes) a rest h) (All-nil (HasHome homes))

-- that of the joint page
pub joined-home : (homes : List Address) (alone : Bool) (parts : List PartData) (taken : List Triple) → All (λ p. PageAtHome homes p.page) parts → NextRoundAtHome homes (joined_as alone taken (pages_in parts)).next
joined-home homes false parts taken all = next-home homes parts (added taken (new_triples taken (pages_in parts))) all
joined-home homes true parts taken all = by (pages_in parts) (nexts-home homes parts all) where
  by : (pages : List Page) → All (HasHome homes) (nexts_of pages) → NextRoundAtHome homes (joined_as true taken pages).next
  by [] h = tt
  by (page ∷ pages) h = one-home homes page.next (nexts_of pages) h
