-- Where an evaluation has its pages from.
use Rattle.std.specs.Prelude.{ℕ, ◌++◌, List, map, Option}
use Rattle.std.specs.List.Sorted.{IsPermutation}
use Rattle.tpf_base.specs.Addresses.{Address}
use Rattle.template_fill.specs.declared.form.Form.{Form}
use Rattle.fragment_page.specs.declared.page.Page.{Page}
use Rattle.bgp_core.specs.Queries.{QueryData}
use Rattle.bgp_core.specs.Solutions.{Places}
use Rattle.request_plan.specs.Beginnings.{FitsWorld, world_rows, world_plan, world_reported}
use Rattle.request_plan.specs.Worlds.{World, IsPageAt}
use Rattle.tpf_client.specs.Traffic.{PoolEvent}
use Rattle.tpf_client.specs.Causes.{Versions}
use Rattle.tpf_client.specs.Turns.{AreTrue, asked_in, address_of}

-- Sources, such as the world of a server: whether the forms of the start pages are those of a source, whether a page is what it has at an address, the rows of a query over it, and the addresses that the query has to ask for behind the start pages (both lists count up to their order); and which version is reported, where the first start page told this one.
pub record Sources : Type 1 where
  pub Source : Type 0
  pub Fits : Source → List Form → Type 0
  pub is_true : Source → Address → Page → Type 0
  pub rows : Source → QueryData → List Places
  pub plan : Source → QueryData → List Address
  pub reported : Option ℕ → Option ℕ

-- the sources of an evaluation, by what it says of each, that are asked for at most so many rows at once
abbrev pub sources_of :
    (Source : Type 0) → (Source → List Form → ℕ → Type 0) → (Source → Address → Page → Type 0) → (Source → QueryData → List Places)
    → (Source → QueryData → List Address) → (Option ℕ → Option ℕ) → ℕ → Sources
sources_of Source fits is_true rows plan reported block = record {
  Source = Source;
  Fits = λ source forms. fits source forms block;
  is_true = is_true;
  rows = rows;
  plan = plan;
  reported = reported;
}

-- a source of these forms, for which all pages are true that came
pub record IsSourceOf (sources : Sources) (source : sources.Source) (forms : List Form) (versions : Versions) (events : List PoolEvent) : Type 0 where
  pub fits : sources.Fits source forms
  pub pages : AreTrue (sources.is_true source) versions events

-- Where all pages that came are true for a source, the rows are its solutions, and its plan was asked.
pub record GivesSolutions (sources : Sources) (source : sources.Source) (q : QueryData) (rows : List Places) (events : List PoolEvent) : Type 0 where
  pub rows_are : IsPermutation (sources.rows source q) rows
  pub plan_is : IsPermutation (sources.plan source q) (map address_of (asked_in events))

-- a part of that
pub record GivesSome (sources : Sources) (source : sources.Source) (q : QueryData) (rows : List Places) (events : List PoolEvent) : Type 0 where
  pub more : List Places
  pub rows_are : IsPermutation (sources.rows source q) (rows ++ more)
  pub rest : List Address
  pub plan_is : IsPermutation (sources.plan source q) (map address_of (asked_in events) ++ rest)

-- ---- one server

-- each the world of one server, which gives the solutions over its triples and is asked for at most so many rows at once
abbrev pub world_sources : ℕ → Sources
world_sources block = sources_of World FitsWorld IsPageAt world_rows world_plan world_reported block
