-- The turns of an evaluation: rows are taken from it, its asks are put, and pages are handed to it.
use Rattle.std.specs.Prelude.{ℕ, ◌≡◌, ◌+◌, ◌-◌, ◌*◌, ◌==◌, ◌≤◌, if◌then◌else◌, List, [], ◌∷◌, ◌++◌, map, length, None}
use Rattle.std.specs.List.{All, AllByRecursion, Contains, sum_by}
use Rattle.std.specs.List.Sorted.{IsPermutation}
use Rattle.tpf_base.specs.Addresses.{Address}
use Rattle.tpf_base.specs.Links.{WireState}
use Rattle.bgp_core.specs.Solutions.{Places}
use Rattle.fragment_page.specs.declared.page.Page.{Page}
use Rattle.control_reader.specs.Takes.{Takes}
use Rattle.request_pool.specs.Pools.{Pooled, Ask, held}
use Rattle.request_pool.specs.Owned.{SuitsWire}
use Rattle.request_plan.specs.Evaluations.{Account, Standing, Terms, Sizes, HasHome, EndsNumber, EndsTicket}
use Rattle.tpf_client.specs.declared.asks.Arrived.{Arrived}
use Rattle.tpf_client.specs.declared.fault.ClientFault.{ClientFault}
use Rattle.tpf_client.specs.Traffic.{is_under, AreDistinct, PoolEvent, Asked, Came, Waited, Broke, Travels}
use Rattle.tpf_client.specs.Causes.{Explains, Versions}
use Rattle.tpf_client.specs.Asking.{PutsAll}

abbrev pub address_of : Ask → Address
address_of ask = ask.address

abbrev pub pair_of : Ask → ℕ × Address
pair_of ask = (ask.ticket, ask.address)

-- one for the ticket
abbrev pub is_number : ℕ → ℕ → ℕ
is_number ticket number = if number == ticket then 1 else 0

abbrev pub is_pair : ℕ → ℕ × Address → ℕ
is_pair ticket pair = is_number ticket pair.0

-- what an evaluation keeps to
pub record Limits : Type 0 where
  pub terms : Terms
  pub sizes : Sizes

-- the terms and the sizes
abbrev pub keeps_both : {Eval : Type 0} → (Terms → Eval → Type 0) → (Sizes → Eval → Type 0) → Limits → Eval → Type 0
keeps_both keeps small limits e = keeps limits.terms e × small limits.sizes e

-- how many asks may wait for their replies at once: for each row that is extended as many as there are patterns
abbrev pub most_waiting : Sizes → ℕ
most_waiting sizes = sizes.patterns * sizes.window

-- An evaluation and its pool: the evaluation keeps to the limits, which the asks that are held keep to as well, their tickets differ, they are those that the evaluation has out, and no more than may wait.
pub record Meets (limits : Limits) (keeps : Type 0) (standing : Standing) (pool : Pooled) : Type 0 where
  pub kept : keeps
  pub homes : All (λ ask. HasHome limits.terms.homes ask.address) (held pool)
  pub tickets : (ticket : ℕ) → sum_by (is_under ticket) (held pool) ≡ sum_by (is_number ticket) standing.out
  pub distinct : AreDistinct (held pool)
  pub few : length (held pool) ≤ most_waiting limits.sizes
  pub no_fault : pool.fault ≡ None

-- what the account has out is held, each ticket once
pub record IsOut (pool : Pooled) (account : Account) : Type 0 where
  pub distinct : AreDistinct (held pool)
  pub is_held : (pair : ℕ × Address) → Contains account.out pair → Contains (map pair_of (held pool)) pair
  pub once : (ticket : ℕ) → sum_by (is_pair ticket) account.out ≤ 1

-- ---- accounts

-- these addresses were handed out under these tickets
pub record HandsAll (before after : Account) (asked : List Ask) : Type 0 where
  pub owed : IsPermutation before.owed after.owed
  pub left : IsPermutation before.left (map address_of asked ++ after.left)

-- these rows were given
pub record GivesAll (before after : Account) (rows : List Places) : Type 0 where
  pub owed : IsPermutation before.owed (rows ++ after.owed)
  pub left : IsPermutation before.left after.left
  pub out : IsPermutation before.out after.out

-- what was owed is what was given and what is owed still, and the same of what is left to ask
pub record Owes (before after : Account) (rows : List Places) (asked : List Ask) : Type 0 where
  pub owed : IsPermutation before.owed (rows ++ after.owed)
  pub left : IsPermutation before.left (map address_of asked ++ after.left)

-- what was given and asked was a part of that
pub record OwesMore (before : Account) (rows : List Places) (asked : List Ask) : Type 0 where
  pub more : List Places
  pub owed : IsPermutation before.owed (rows ++ more)
  pub rest : List Address
  pub left : IsPermutation before.left (map address_of asked ++ rest)

-- ---- events

-- the asks that were put
abbrev pub asked_in : List PoolEvent → List Ask
asked_in [] = []
asked_in (Asked ask ∷ events) = ask ∷ asked_in events
asked_in (Came ask reply ∷ events) = asked_in events
asked_in (Waited ∷ events) = asked_in events
asked_in (Broke fault ∷ events) = asked_in events

-- the asks whose replies came
abbrev pub answered_in : List PoolEvent → List Ask
answered_in [] = []
answered_in (Asked ask ∷ events) = answered_in events
answered_in (Came ask reply ∷ events) = ask ∷ answered_in events
answered_in (Waited ∷ events) = answered_in events
answered_in (Broke fault ∷ events) = answered_in events

-- each address that was asked has the authority of one of these
abbrev pub AsksAt : List Address → List PoolEvent → Type 0
AsksAt homes events = AllByRecursion (λ ask. HasHome homes ask.address) (asked_in events)

-- the page that came, where it is of the version of its server, is true for its address
abbrev pub IsTrueReply : (Address → Page → Type 0) → Versions → PoolEvent → Type 0
IsTrueReply is_true versions (Asked ask) = Unit {0}
IsTrueReply is_true versions (Came ask reply) = (page : Page) → Takes reply.body ask.address page → page.version ≡ versions ask.address → is_true ask.address page
IsTrueReply is_true versions Waited = Unit {0}
IsTrueReply is_true versions (Broke fault) = Unit {0}

-- the reply that came is a page of the version of its server
abbrev pub IsPageReply : Versions → PoolEvent → Type 0
IsPageReply versions (Asked ask) = Unit {0}
IsPageReply versions (Came ask reply) = (page : Page) × Takes reply.body ask.address page × (page.version ≡ versions ask.address)
IsPageReply versions Waited = Unit {0}
IsPageReply versions (Broke fault) = Unit {0}

-- so is each that came
abbrev pub ArePages : Versions → List PoolEvent → Type 0
ArePages versions events = AllByRecursion (IsPageReply versions) events

-- Where so many asks wait for their replies at first, no more than the most do at any moment.
abbrev pub WaitFew : ℕ → ℕ → List PoolEvent → Type 0
WaitFew most waiting [] = waiting ≤ most
WaitFew most waiting (Asked ask ∷ events) = (waiting ≤ most) × WaitFew most (waiting + 1) events
WaitFew most waiting (Came ask reply ∷ events) = (waiting ≤ most) × WaitFew most (waiting - 1) events
WaitFew most waiting (Waited ∷ events) = WaitFew most waiting events
WaitFew most waiting (Broke fault ∷ events) = WaitFew most waiting events

abbrev pub AreTrue : (Address → Page → Type 0) → Versions → List PoolEvent → Type 0
AreTrue is_true versions events = AllByRecursion (IsTrueReply is_true versions) events

-- ---- an evaluation, by its ghost members

module _ {Source Eval : Type 0} (suits : Source → Eval → Type 0) (account : Source → Eval → Account) (keeps : Limits → Eval → Type 0) (standing : Eval → Standing) where
  -- The evaluation handed these asks over, and they were put.
  pub record Hands (old new : Eval) (asked : List Ask) (pool pool' : Pooled) : Type 0 where
    pub puts : PutsAll asked pool pool'
    pub given : (standing new).given ≡ (standing old).given + length asked
    pub waiting : (standing new).waiting ≡ (standing old).waiting
    pub meets : (limits : Limits) → Meets limits (keeps limits old) (standing old) pool → Meets limits (keeps limits new) (standing new) pool'
    pub stays : (source : Source) → suits source old → suits source new
    pub owes : (source : Source) → suits source old → HandsAll (account source old) (account source new) asked
    pub outs : (source : Source) → suits source old → IsOut pool (account source old) → IsOut pool' (account source new)

  -- The evaluation gave these rows.
  pub record Gives (old new : Eval) (rows : List Places) : Type 0 where
    pub given : (standing new).given ≡ (standing old).given
    pub out : (standing new).out ≡ (standing old).out
    pub waiting : (standing old).waiting ≡ length rows + (standing new).waiting
    pub kept : (limits : Limits) → keeps limits old → keeps limits new
    pub width : (limits : Limits) → keeps limits old → All (λ row. length row ≡ limits.terms.width) rows
    pub stays : (source : Source) → suits source old → suits source new
    pub owes : (source : Source) → suits source old → GivesAll (account source old) (account source new) rows

  -- It gave these rows, and then handed these asks over.
  pub record Readies (old new : Eval) (rows : List Places) (asked : List Ask) (pool pool' : Pooled) : Type 0 where
    pub mid : Eval
    pub gives : Gives old mid rows
    pub hands : Hands mid new asked pool pool'

  module _ (is_true : Source → Address → Page → Type 0) where
    -- a page is true for each address with which the ticket is out
    abbrev pub IsTrueFor : Source → Eval → ℕ → Page → Type 0
    IsTrueFor source e ticket page = (address : Address) → Contains (account source e).out (ticket, address) → is_true source address page

    -- The page of a reply was taken: it tells the version of its server, and the ticket is out no longer.
    pub record TakesReply (old new : Eval) (arrived : Arrived) (versions : Versions) : Type 0 where
      pub page : Page
      pub taken : Takes arrived.reply.body arrived.address page
      pub is_version : page.version ≡ versions arrived.address
      pub ends : EndsNumber (standing old) (standing new) arrived.ticket
      pub kept : (limits : Limits) → keeps limits old → HasHome limits.terms.homes arrived.address → keeps limits new
      pub stays : (source : Source) → suits source old → IsTrueFor source old arrived.ticket page → suits source new
      pub owes : (source : Source) → suits source old → IsTrueFor source old arrived.ticket page → EndsTicket (account source old) (account source new) arrived.ticket

    -- A source that the evaluation suits, with these asks out, and for which all pages are true that came.
    pub record IsTruth (source : Source) (e : Eval) (versions : Versions) (events : List PoolEvent) (pool : Pooled) : Type 0 where
      pub is_suited : suits source e
      pub is_out : IsOut pool (account source e)
      pub pages : AreTrue (is_true source) versions events

    -- what stays so after events in which these rows were given
    pub record Stays (source : Source) (old new : Eval) (rows : List Places) (asked : List Ask) (pool : Pooled) : Type 0 where
      pub is_suited : suits source new
      pub is_out : IsOut pool (account source new)
      pub owes : Owes (account source old) (account source new) rows asked

    module _ (allows : List ℕ → ℕ → List ℕ → List ℕ → Type 0) where
      -- Events between the pool and the wire, and the rows that the evaluation gave in these.
      pub record Went (old new : Eval) (versions : Versions) (events : List PoolEvent) (rows : List Places) (pool pool' : Pooled) (wire wire' : WireState) : Type 0 where
        pub travels : Travels allows events pool pool' wire wire'
        pub on_wire : SuitsWire pool' wire'
        pub pages : ArePages versions events
        pub meets : (limits : Limits) → Meets limits (keeps limits old) (standing old) pool → Meets limits (keeps limits new) (standing new) pool'
        pub homes : (limits : Limits) → Meets limits (keeps limits old) (standing old) pool → AllByRecursion (λ ask. HasHome limits.terms.homes ask.address) (asked_in events)
        pub width : (limits : Limits) → Meets limits (keeps limits old) (standing old) pool → All (λ row. length row ≡ limits.terms.width) rows
        pub few : (limits : Limits) → Meets limits (keeps limits old) (standing old) pool → WaitFew (most_waiting limits.sizes) (length (held pool)) events
        pub stays : (source : Source) → IsTruth source old versions events pool → Stays source old new rows (asked_in events) pool'

      -- Events and rows, and then a fault.
      pub record Failed (old : Eval) (versions : Versions) (budget : ℕ) (fault : ClientFault) (events : List PoolEvent) (rows : List Places) (pool pool' : Pooled) (wire wire' : WireState) : Type 0 where
        pub travels : Travels allows events pool pool' wire wire'
        pub on_wire : SuitsWire pool' wire'
        pub explains : Explains versions budget fault events
        pub homes : (limits : Limits) → Meets limits (keeps limits old) (standing old) pool → AllByRecursion (λ ask. HasHome limits.terms.homes ask.address) (asked_in events)
        pub few : (limits : Limits) → Meets limits (keeps limits old) (standing old) pool → WaitFew (most_waiting limits.sizes) (length (held pool)) events
        pub owes : (source : Source) → IsTruth source old versions events pool → OwesMore (account source old) rows (asked_in events)
