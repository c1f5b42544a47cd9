-- A call that is covered by an offer: whatever came over its wire, there is a choice that it is of. What the call gave follows from this alone.
use Rattle.std.proofs.Common.{ℕ, ◌≡◌, ◌++◌, Bool, List, Option, Some, sym, subst}
use Rattle.std.specs.List.Sorted.{IsPermutation}
use Rattle.std.proofs.lemmas.List.Sorted.{IsPermutation-refl}
use Rattle.tpf_base.specs.Addresses.{Address}
use Rattle.tpf_base.specs.Links.{All, WireState}
use Rattle.fragment_page.specs.declared.page.Page.{Page}
use Rattle.template_fill.specs.Configurations.{IsConfig, IsHistory}
use Rattle.template_fill.specs.Responses.{answering, IsHonestAt}
use Rattle.bgp_core.specs.Queries.{QueryData}
use Rattle.bgp_core.specs.Solutions.{Places}
use Rattle.result_json.specs.Pieces.{PiecesMakeTheText, RowsGoOn}
use Rattle.request_pool.specs.Pools.{Pooled}
use Rattle.pool_laws.specs.Answers.{IsHonestOver}
use Rattle.pool_laws.specs.Rising.{IsServedBySome}
use Rattle.request_plan.specs.Evaluations.{HasHome}
use Rattle.tpf_client.specs.declared.options.Options.{Options}
use Rattle.tpf_client.specs.declared.options.Report.{Report}
use Rattle.tpf_client.specs.declared.fault.ClientFault.{ClientFault}
use Rattle.tpf_client.specs.Traffic.{PoolEvent}
use Rattle.tpf_client.specs.Turns.{AsksAt}
use Rattle.tpf_client.specs.Told.{told_at, told_first}
use Rattle.tpf_client.specs.Starts.{ReadsStarts, forms_of, versions_of}
use Rattle.tpf_client.specs.Sources.{Sources, IsSourceOf}
use Rattle.tpf_client.specs.Calls.{WritesAll, WritesSome, Before, Behind, AtEnd, RunsPool, Returns}
use Rattle.tpf_client.specs.Offers.{Publisher, IsVersionOf, Offer}
use Rattle.tpf_client.specs.Honest.{WritesSolutions, WritesSolutionsFront, IsSolutions}
use Rattle.tpf_client.proofs.Texts.{same-written, rows-more}

-- a choice asks for the starts first, and has a version at each address
pub record BeginsWith (offer : Offer) (starts : List Address) (choice : offer.Choice) : Type 0 where
  pub is_choice : offer.IsChoice choice
  pub versions : Address → ℕ
  pub has : (address : Address) → HasHome starts address → offer.HasVersion choice address (versions address)
  pub rest : List Address
  pub addresses : starts ++ rest ≡ offer.addresses choice

-- The choice of which the start pages and the replies behind them are: it has the versions that these pages told, and a source for which all pages that came are true has its rows and its addresses.
pub record ChoiceBehind (sources : Sources) (offer : Offer) (q : QueryData) (starts : List Address) (first later : List PoolEvent) (told : List Page) (reads : ReadsStarts starts told first) : Type 0 where
  pub choice : offer.Choice
  pub is_choice : offer.IsChoice choice
  pub versions : Address → ℕ
  pub tells : (address : Address) → told_at starts (versions_of told) address ≡ Some (versions address)
  pub is_reported : offer.IsReported choice (sources.reported (told_first (versions_of told)))
  pub has : (address : Address) → HasHome starts address → offer.HasVersion choice address (versions address)
  pub source : sources.Source
  pub is_source : IsSourceOf sources source (forms_of told) (told_at starts (versions_of told)) later
  pub rows : sources.rows source q ≡ offer.rows choice
  pub addresses : starts ++ sources.plan source q ≡ offer.addresses choice

-- a server that stands at an address, where the other end answers as it does, over versions that are served
pub record StandsThere (allows : List ℕ → ℕ → List ℕ → List ℕ → Type 0) (offer : Offer) (address : Address) : Type 0 where
  pub server : Publisher
  pub stands : offer.StandsAt address server
  pub is_history : IsHistory server.history
  pub is_config : IsConfig server.config
  pub is_honest : IsHonestAt allows address.host address.port (answering server.history server.config)
  pub served : ℕ → Bool
  pub is_over : IsHonestOver allows address.host address.port server.history server.config served

-- A call is covered by an offer: the wire tells all; there is a choice; each asks for the starts first, and behind each start page is one; some server stands at each address with the authority of a start and answers there as it does; and the version that a choice has at an address is one of the server's.
pub record Covered (sources : Sources) (offer : Offer) (allows : List ℕ → ℕ → List ℕ → List ℕ → Type 0) (options : Options) (since now : WireState) (starts : List Address) (q : QueryData) : Type 0 where
  pub tells : since.nature.tells ≡ All
  pub first : offer.Choice
  pub is_first : offer.IsChoice first
  pub begins : (choice : offer.Choice) → offer.IsChoice choice → BeginsWith offer starts choice
  pub behind : (first later : List PoolEvent) (pool : Pooled) → RunsPool allows options since now (first ++ later) pool → AsksAt starts (first ++ later) → (told : List Page) (reads : ReadsStarts starts told first) → ChoiceBehind sources offer q starts first later told reads
  pub stands : (address : Address) → HasHome starts address → StandsThere allows offer address
  pub numbers : (choice : offer.Choice) → offer.IsChoice choice → (address : Address) (server : Publisher) (version : ℕ) → offer.StandsAt address server → offer.HasVersion choice address version → IsVersionOf server.history version

-- some server answers at each address with the authority of a start
pub served-at : (sources : Sources) (offer : Offer) (allows : List ℕ → ℕ → List ℕ → List ℕ → Type 0) (options : Options) (since now : WireState) (starts : List Address) (q : QueryData) → Covered sources offer allows options since now starts q
    → (address : Address) → HasHome starts address → IsServedBySome allows address
served-at sources offer allows options since now starts q covered address own =
    let s = covered.stands address own in
    record { history = s.server.history; config = s.server.config; honest = s.is_honest }

-- ---- the rows

module _ (sources : Sources) (offer : Offer) (allows : List ℕ → ℕ → List ℕ → List ℕ → Type 0) (options : Options) (since now : WireState) (starts : List Address) (q : QueryData) (covered : Covered sources offer allows options since now starts q)
    (ran : List PoolEvent → Pooled → Type 0) (goes : (events : List PoolEvent) (pool : Pooled) → ran events pool → RunsPool allows options since now events pool) where
  pub solutions-written : (report : Report) (t u : Option (List ℕ)) → WritesAll ran sources q starts report t u → WritesSolutions offer q report.version report.rows t u
  solutions-written report t u w =
      let r = w.returns in
      let c = covered.behind r.first r.later r.pool (goes (r.first ++ r.later) r.pool r.runs) r.asks r.told r.reads in
      let g = r.gives c.source c.is_source in
      record {
        choice = c.choice;
        is_choice = c.is_choice;
        is_reported = subst (λ (v : Option ℕ). offer.IsReported c.choice v) (sym r.is_version) c.is_reported;
        rows = w.rows;
        rows_are = subst (λ (l : List Places). IsPermutation l w.rows) c.rows g.rows_are;
        text = w.text;
        count = r.count;
      }

  pub solutions-given : (report : Report) (rows : List Places) → Returns ran sources q starts report rows → IsSolutions offer report.version rows
  solutions-given report rows r =
      let c = covered.behind r.first r.later r.pool (goes (r.first ++ r.later) r.pool r.runs) r.asks r.told r.reads in
      let g = r.gives c.source c.is_source in
      record {
        choice = c.choice;
        is_choice = c.is_choice;
        is_reported = subst (λ (v : Option ℕ). offer.IsReported c.choice v) (sym r.is_version) c.is_reported;
        rows_are = subst (λ (l : List Places). IsPermutation l rows) c.rows g.rows_are;
      }

  -- nothing is a front of the text of each choice
  abbrev pub nothing-over : (choice : offer.Choice) → offer.IsChoice choice → (t u : Option (List ℕ)) → u ≡ t → WritesSolutionsFront offer q t u
  nothing-over choice is t u e = record {
    choice = choice;
    is_choice = is;
    rows = offer.rows choice;
    rows_are = IsPermutation-refl (offer.rows choice);
    text = same-written _ t u e;
  }

  unfoldable pub front-written : PiecesMakeTheText → RowsGoOn → (budget : ℕ) (fault : ClientFault) (t u : Option (List ℕ)) → WritesSome ran sources q starts budget fault t u → WritesSolutionsFront offer q t u
  front-written pieces goes_on budget fault t u (Before b) = nothing-over covered.first covered.is_first t u b.nothing
  front-written pieces goes_on budget fault t u (Behind b) =
      let c = covered.behind b.first b.later b.pool (goes (b.first ++ b.later) b.pool b.runs) b.asks b.told b.reads in
      let g = b.gives c.source c.is_source in
      record {
        choice = c.choice;
        is_choice = c.is_choice;
        rows = b.rows ++ g.more;
        rows_are = subst (λ (l : List Places). IsPermutation l (b.rows ++ g.more)) c.rows g.rows_are;
        text = rows-more q b.rows g.more t u pieces goes_on b.text;
      }
  front-written pieces goes_on budget fault t u (AtEnd b) =
      let c = covered.behind b.first b.later b.pool (goes (b.first ++ b.later) b.pool b.runs) b.asks b.told b.reads in
      let g = b.gives c.source c.is_source in
      record {
        choice = c.choice;
        is_choice = c.is_choice;
        rows = b.rows;
        rows_are = subst (λ (l : List Places). IsPermutation l b.rows) c.rows g.rows_are;
        text = b.text;
      }
