-- The place of a round among the rounds.
use Rattle.std.proofs.Common.{ℕ, ◌≡◌, ◌<◌, Bool, true, false, List, ◌∷◌, length, get_or, set, Option, Some, None, Ok, Err, ap, sym, subst, ◌∙◌, get_or-set_same}
use Rattle.std.specs.Prelude.{Result, IfOk}
use Rattle.std.specs.List.{remove}
use Rattle.std.specs.List.Sorted.{IsPermutation}
use Rattle.std.proofs.lemmas.List.Sorted.{IsPermutation-refl}
use Rattle.list_laws.proofs.Places.{any_default}
use Rattle.tpf_base.specs.Addresses.{Address}
use Rattle.fragment_page.specs.declared.page.Page.{Page}
use Rattle.joint_pages.specs.Gatherings.{GatheringData, HandsNext}
use Rattle.federation.specs.declared.rounds.Spot.{Spot}
use Rattle.federation.specs.Changes.{WantsAt, HandsIn, PutsAt, StaysOpen, ComesOut}
use Rattle.federation.proofs.Lists.{at-place, set-place, removed-set}

pub same-there : {X : Type 0} (xs : List X) (n : ℕ) (x y : X) → n < length xs → x ≡ get_or xs n x → y ≡ get_or xs n y → x ≡ y
same-there xs n x y h e f = e ∙ any_default xs n x y h ∙ sym f

-- the round at a place handed out an address, which it wanted
pub handed-in : {E : Type 0} (old : List GatheringData) (place ticket : ℕ) (g after : GatheringData) (result : Result (Option Address) E) → WantsAt old place → g ≡ get_or old place g → IfOk result (HandsNext g after ticket) → IfOk result (HandsIn old (set old place after) ticket)
handed-in old place ticket g after (Ok None) w at h = absurd (w.wants (ap (λ (x : GatheringData). x.wanted) (same-there old place w.round g w.within w.there at) ∙ h.0))
handed-in old place ticket g after (Ok (Some a)) w at h = record { round = g; after = after; others = remove old place; hands = h; was = at-place old place g w.within at; now = set-place old place after w.within }
handed-in old place ticket g after (Err e) w at h = tt

-- the round at a spot took its page, and stays
pub stays-open : (old new : List GatheringData) (spot : Spot) (ticket : ℕ) (page : Page) (whole : Bool) → spot.round < length old → (p : PutsAt old new spot ticket page whole) → whole ≡ false → StaysOpen old new ticket page
stays-open old new spot ticket page whole h p e = record {
  after = p.after;
  others = remove old spot.round;
  among = record { round = p.round; takes = p.takes; was = at-place old spot.round p.round h p.there };
  now = subst (λ (l : List GatheringData). IsPermutation l (p.after ∷ remove old spot.round)) (sym p.now) (set-place old spot.round p.after h);
  open_still = sym p.is ∙ e;
}

-- or it comes out
pub comes-out : (old put new : List GatheringData) (spot : Spot) (ticket : ℕ) (page : Page) (whole : Bool) (out : GatheringData) → spot.round < length old → (p : PutsAt old put spot ticket page whole) → whole ≡ true → out ≡ get_or put spot.round out → new ≡ remove put spot.round → ComesOut old new ticket page out
comes-out old put new spot ticket page whole out h p e at rest =
    let is : p.after ≡ out = sym (at ∙ ap (λ (l : List GatheringData). get_or l spot.round out) p.now ∙ get_or-set_same old spot.round p.after out h) in
    let left : new ≡ remove old spot.round = rest ∙ ap (λ (l : List GatheringData). remove l spot.round) p.now ∙ removed-set old spot.round p.after in
    subst (λ (g : GatheringData). ComesOut old new ticket page g) is (record {
      others = remove old spot.round;
      among = record { round = p.round; takes = p.takes; was = at-place old spot.round p.round h p.there };
      now = subst (λ (l : List GatheringData). IsPermutation new l) left (IsPermutation-refl new);
      whole = sym p.is ∙ e;
    })
