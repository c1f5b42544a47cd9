-- The starts of a call: the first page of each server, one after another.
use Rattle.std.specs.Prelude.{ℕ, ◌≡◌, ◌<◌, ◌-◌, ◌^◌, ◌⊎◌, ◌++◌, List, [], ◌∷◌, map, length, Option, None, Result, Ok, Err}
use Rattle.tpf_base.specs.Addresses.{Address}
use Rattle.tpf_base.specs.Links.{WireState}
use Rattle.http_wire.specs.declared.message.Reply.{Reply}
use Rattle.fragment_page.specs.declared.page.Page.{Page}
use Rattle.template_fill.specs.declared.form.Form.{Form}
use Rattle.template_fill.specs.Authorities.{ShareAuthority}
use Rattle.control_reader.specs.Takes.{Takes}
use Rattle.request_pool.specs.Pools.{Pooled, Ask, held}
use Rattle.request_pool.specs.Owned.{SuitsWire}
use Rattle.request_plan.specs.Rounds.{FormsAtHome}
use Rattle.tpf_client.specs.declared.fault.ClientFault.{ClientFault}
use Rattle.tpf_client.specs.declared.start.StartPages.{StartPages}
use Rattle.tpf_client.specs.Traffic.{PoolEvent, Came, Travels, EndsWith}
use Rattle.tpf_client.specs.Causes.{Explains, Versions}
use Rattle.tpf_client.specs.Turns.{ArePages, WaitFew, asked_in}

-- the ask for the start: its ticket is one that no evaluation gives
abbrev pub start_ask : Address → Ask
start_ask start = record { ticket = 2 ^ 64 - 1; address = start }

-- The page of a start came by the last of these events, its form has the authority of the start, and nothing else was asked.
pub record ReadsStart (start : Address) (page : Page) (events : List PoolEvent) : Type 0 where
  pub asked : asked_in events ≡ start_ask start ∷ []
  pub reply : Reply
  pub last : EndsWith (Came (start_ask start) reply) events
  pub taken : Takes reply.body start page
  pub home : ShareAuthority start page.form.template.start
  pub pages : ArePages (λ address. page.version) events

-- so with each of several, one after another
abbrev pub ReadsStarts : List Address → List Page → List PoolEvent → Type 0
ReadsStarts [] [] events = events ≡ []
ReadsStarts [] (page ∷ pages) events = ⊥
ReadsStarts (start ∷ starts) [] events = ⊥
ReadsStarts (start ∷ starts) (page ∷ pages) events = (first : List PoolEvent) × (later : List PoolEvent) × (events ≡ first ++ later) × ReadsStart start page first × ReadsStarts starts pages later

-- the first of these starts were asked, and nothing else
pub record AsksStarts (starts : List Address) (events : List PoolEvent) : Type 0 where
  pub first : List Address
  pub later : List Address
  pub starts_are : starts ≡ first ++ later
  pub asked : asked_in events ≡ map start_ask first

abbrev pub forms_of : List Page → List Form
forms_of pages = map (λ page. page.form) pages

abbrev pub versions_of : List Page → List (Option ℕ)
versions_of pages = map (λ page. page.version) pages

-- ---- one start

-- a pool between two asks: nothing is held, no step had a fault, and it suits the wire
pub record IsAtRest (pool : Pooled) (wire : WireState) : Type 0 where
  pub none : held pool ≡ []
  pub no_fault : pool.fault ≡ None
  pub suits : SuitsWire pool wire

-- the start page came, these were asked before, and nothing is held
pub record HasStart (allows : List ℕ → ℕ → List ℕ → List ℕ → Type 0) (start : Address) (asked : List Ask) (page : Page) (old new : Pooled) (wire wire' : WireState) : Type 0 where
  pub events : List PoolEvent
  pub travels : Travels allows events old new wire wire'
  pub reply : Reply
  pub last : EndsWith (Came (start_ask start) reply) events
  pub taken : Takes reply.body start page
  pub pages : ArePages (λ address. page.version) events
  pub asked_are : asked_in events ≡ asked
  pub rest : IsAtRest new wire'

-- it did not, and these were asked or nothing
pub record HasNoStart (allows : List ℕ → ℕ → List ℕ → List ℕ → Type 0) (start : Address) (asked : List Ask) (budget : ℕ) (fault : ClientFault) (old new : Pooled) (wire wire' : WireState) : Type 0 where
  pub events : List PoolEvent
  pub travels : Travels allows events old new wire wire'
  pub explains : (versions : Versions) → Explains versions budget fault events
  pub asked_are : (asked_in events ≡ asked) ⊎ (asked_in events ≡ [])
  pub suits : SuitsWire new wire'

abbrev pub StartsOne : (List ℕ → ℕ → List ℕ → List ℕ → Type 0) → Address → List Ask → ℕ → Result Page ClientFault → Pooled → Pooled → WireState → WireState → Type 0
StartsOne allows start asked budget (Ok page) old new wire wire' = HasStart allows start asked page old new wire wire'
StartsOne allows start asked budget (Err fault) old new wire wire' = HasNoStart allows start asked budget fault old new wire wire'

-- ---- several starts

-- the start pages came, one ask waiting at a time, and nothing is held
pub record HasStarts (allows : List ℕ → ℕ → List ℕ → List ℕ → Type 0) (starts : List Address) (pages : List Page) (old new : Pooled) (wire wire' : WireState) : Type 0 where
  pub events : List PoolEvent
  pub travels : Travels allows events old new wire wire'
  pub reads : ReadsStarts starts pages events
  pub few : WaitFew 1 (length (held old)) events
  pub rest : IsAtRest new wire'

-- one of them did not
pub record HasNoStarts (allows : List ℕ → ℕ → List ℕ → List ℕ → Type 0) (starts : List Address) (budget : ℕ) (fault : ClientFault) (old new : Pooled) (wire wire' : WireState) : Type 0 where
  pub events : List PoolEvent
  pub travels : Travels allows events old new wire wire'
  pub explains : (versions : Versions) → Explains versions budget fault events
  pub asked : AsksStarts starts events
  pub few : WaitFew 1 (length (held old)) events
  pub suits : SuitsWire new wire'

-- what the pages of the starts told
pub record TellsStarts (told : StartPages) (pages : List Page) : Type 0 where
  pub forms : told.forms ≡ forms_of pages
  pub versions : told.versions.items ≡ versions_of pages

abbrev pub StartsAll : (List ℕ → ℕ → List ℕ → List ℕ → Type 0) → List Address → ℕ → Result StartPages ClientFault → Pooled → Pooled → WireState → WireState → Type 0
StartsAll allows starts budget (Ok told) old new wire wire' = (pages : List Page) × TellsStarts told pages × HasStarts allows starts pages old new wire wire'
StartsAll allows starts budget (Err fault) old new wire wire' = HasNoStarts allows starts budget fault old new wire wire'

-- what a call needs behind the start pages: a form and a version were told at least, the forms are of these starts, and the pool is at rest
pub record StandsBehind (starts : List Address) (pages : StartPages) (pool : Pooled) (wire : WireState) : Type 0 where
  pub home : FormsAtHome starts pages.forms
  pub some : 0 < length pages.forms
  pub told : 0 < length pages.versions.items
  pub rest : IsAtRest pool wire
