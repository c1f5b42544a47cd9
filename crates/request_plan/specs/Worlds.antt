-- What the other ends have: triples, and for each selection the pages of what they give for it, each asked for in one round.
use Rattle.std.specs.Prelude.{ℕ, zero, suc, ◌≡◌, ◌-◌, ◌^◌, ◌<◌, ◌&&◌, Bool, true, false, if◌then◌else◌, nat_lt, List, [], ◌∷◌, Some, None}
use Rattle.std.specs.List.{filter, flat_map, All}
use Rattle.std.specs.List.Sorted.{IsPermutation}
use Rattle.rdf_terms.specs.declared.term.Triple.{Triple}
use Rattle.rdf_terms.specs.declared.slots.Slots.{Slots}
use Rattle.rdf_terms.specs.Slots.{matches}
use Rattle.rdf_terms.specs.Askable.{askable}
use Rattle.rdf_terms.specs.Valid.{IsValidTriple}
use Rattle.rdf_terms.specs.Selections.{Selection, IsValidSelection, matches_one}
use Rattle.template_fill.specs.declared.form.Form.{Form}
use Rattle.tpf_base.specs.Addresses.{Address}
use Rattle.fragment_page.specs.declared.page.Page.{Page}
use Rattle.request_plan.specs.declared.joint_page.JointPage.{JointPage}
use Rattle.request_plan.specs.JointPages.{joint_page}
use Rattle.request_plan.specs.Blocks.{Cut, IsBlockSize, is_askable, first_target}
use Rattle.request_plan.specs.Rounds.{RoundData, round_of_one, IsFirstRound}

-- The triples; which triples of a fragment are given where rows restrict it: those that match one of the rows, or more; and the most
-- rows that one round asks for. For each selection the number of triples that the pages tell of, the number of the last page, what
-- stands on the page after the first k pages, and the round in which page k is asked for.
pub record World : Type 0 where
  pub triples : List Triple
  pub keeps : List Slots → Triple → Bool
  pub block : ℕ
  pub count : Selection → ℕ
  pub last : Selection → ℕ
  pub items : Selection → ℕ → List Triple
  pub round : Selection → ℕ → RoundData

abbrev pub numbers : ℕ → ℕ → List ℕ
numbers n zero = []
numbers n (suc k) = n ∷ numbers (suc n) k

-- what stands on the pages after the first k pages
abbrev pub items_after : World → Selection → ℕ → List Triple
items_after w s k = flat_map (w.items s) (numbers k (w.last s - k))

-- the pages hold the matching triples that are kept, each once, in some order; without rows all are kept, and with rows those that
-- match one at least; a round asks for a row or more, and for no more than an address may have; there is a page, and they can be
-- counted; where 0 triples are told of there is one page, and nothing on it; slots that cannot be asked for match nothing; and the
-- terms are valid
pub record IsWorld (w : World) : Type 0 where
  pub fragments : (s : Selection) → IsPermutation (filter (λ t. matches s.slots t && w.keeps s.rows t) w.triples) (items_after w s 0)
  pub keeps_all : (t : Triple) → w.keeps [] t ≡ true
  pub keeps_rows : (rows : List Slots) (t : Triple) → matches_one rows t ≡ true → w.keeps rows t ≡ true
  pub block : IsBlockSize w.block
  pub some : (s : Selection) → 0 < w.last s
  pub few : (s : Selection) → w.last s < 2 ^ 64
  pub alone : (s : Selection) → w.count s ≡ 0 → w.last s ≡ 1
  pub none : (s : Selection) → w.count s ≡ 0 → w.items s 0 ≡ []
  pub unasked : (s : Selection) → askable s.slots ≡ false → items_after w s 0 ≡ []
  pub valid : All IsValidTriple w.triples

-- the forms give the addresses of the first pages
pub record HasForms (w : World) (forms : List Form) : Type 0 where
  pub first : (s : Selection) → is_askable s ≡ true → IsFirstRound forms s (w.round s 1)

-- how rows are cut into blocks: at most so many rows, by the length of the target of the first page that the first server is asked for
abbrev pub cut_of : World → Cut
cut_of w = record { most = w.block; target = λ s. first_target (w.round s 1).addresses }

-- the page after the first k pages; the first tells of all triples
pub record IsPageAfter (w : World) (s : Selection) (k : ℕ) (page : JointPage) : Type 0 where
  pub triples : page.triples ≡ w.items s k
  pub count : k ≡ 0 → page.count ≡ w.count s
  pub next : page.next ≡ (if nat_lt (suc k) (w.last s) then Some (w.round s (suc (suc k))) else None)

-- the page is what is asked for in the round: for a selection that can be asked for, and a page that there is
pub record IsRoundPageAt (w : World) (round : RoundData) (page : JointPage) : Type 0 where
  pub stands : (s : Selection) (k : ℕ) → IsValidSelection s → is_askable s ≡ true → round ≡ w.round s (suc k) → k < w.last s → IsPageAfter w s k page

-- ---- one server

-- each page is asked for at one address
abbrev pub IsOneServer : World → Type 0
IsOneServer w = (s : Selection) (k : ℕ) → (address : Address) × (w.round s k ≡ round_of_one address)

-- the world is that of one server, and the form gives the addresses of the first pages
pub record HasForm (w : World) (form : Form) : Type 0 where
  pub one : IsOneServer w
  pub forms : HasForms w (form ∷ [])

-- the page of the one server is what stands at the address
abbrev pub IsPageAt : World → Address → Page → Type 0
IsPageAt w address page = IsRoundPageAt w (round_of_one address) (joint_page page)
