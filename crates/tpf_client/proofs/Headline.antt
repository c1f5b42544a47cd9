-- Over an honest wire to one server the pages that came are those of the version of the start page, which is served.
use Rattle.std.proofs.Common.{ℕ, ◌≡◌, ◌<◌, ◌^◌, ◌++◌, ◌&&◌, Bool, true, List, [], ◌∷◌, Some, refl, sym, ap, ◌∙◌, arith}
use Rattle.std.proofs.lemmas.Bool.{and_from}
use Rattle.std.specs.Str.{bytes_eq}
use Rattle.std.proofs.lemmas.Slice.Eq.{bytes_eq-Decides}
use Rattle.std.specs.List.{AllByRecursion}
use Rattle.list_laws.proofs.Each.{all_front, all_back}
use Rattle.rdf_terms.specs.declared.term.Triple.{Triple}
use Rattle.tpf_base.specs.Addresses.{Address, authority_text, authority_of}
use Rattle.tpf_base.specs.Marks.{Served}
use Rattle.tpf_base.specs.Links.{WireState}
use Rattle.template_fill.specs.Metadata.{Config}
use Rattle.template_fill.specs.Bodies.{version_of}
use Rattle.template_fill.specs.Answered.{is_answered}
use Rattle.template_fill.specs.Templates.{Template}
use Rattle.request_pool.specs.Pools.{Pooled, Ask, empty_pool}
use Rattle.pool_laws.specs.Answers.{IsBodyOver}
use Rattle.request_plan.specs.Blocks.{IsBlockSize}
use Rattle.request_plan.specs.Evaluations.{HasHome}
use Rattle.plan_laws.specs.Servers.{server_world}
use Rattle.tpf_client.specs.declared.options.Options.{Options}
use Rattle.tpf_client.specs.Traffic.{PoolEvent, Came, IsLawful}
use Rattle.fragment_page.specs.declared.page.Page.{Page}
use Rattle.tpf_client.specs.Starts.{start_ask, ReadsStart}
use Rattle.tpf_client.specs.Sources.{IsSourceOf, world_sources}
use Rattle.tpf_client.specs.Calls.{RunsPool}
use Rattle.tpf_client.specs.Offers.{IsVersionOf}
use Rattle.tpf_client.specs.Honest.{Laws}
use Rattle.tpf_client.specs.Turns.{AsksAt}
use Rattle.tpf_client.proofs.Answered.{replies-answer}
use Rattle.tpf_client.proofs.Came.{CameFrom, came-from, at-last}
use Rattle.tpf_client.proofs.Distinct.{none-distinct}
use Rattle.tpf_client.proofs.Known.{begun}
use Rattle.tpf_client.proofs.Honesty.{Keeps, IsAnswer, ServesAt, any-answers, all-answers}
use Rattle.tpf_client.proofs.Truth.{IsServedStart, start-served, start-world}

module _ (laws : Laws) (allows : List ℕ → ℕ → List ℕ → List ℕ → Type 0) (history : List (List Triple)) (config : Config) (served : ℕ → Bool) (options : Options) (since now : WireState) (start : Address) (honest : ServesAt allows start history config served since) (lawful : IsLawful allows since) (limit : options.max_body < 2 ^ 64) (block : ℕ) (sized : IsBlockSize block) where
  begins-so : Keeps allows laws.puts laws.steps laws.faults (empty_pool options.links options.retries options.budget options.max_body) since
  begins-so = record {
    given = lawful.given;
    suits = record { polled = tt; due = tt; owned = λ k. omega arith };
    answers = laws.empty options.links options.retries options.budget options.max_body since;
    distinct = λ e. none-distinct;
    limit = limit;
    tells = honest.tells;
  }

  abbrev AtHome : Ask → Type 0
  AtHome ask = HasHome (start ∷ []) ask.address

  homes-of : (events : List PoolEvent) (pool : Pooled) → RunsPool allows options since now events pool → AsksAt (start ∷ []) events → AllByRecursion (CameFrom AtHome) events
  homes-of events pool r asks =
      came-from allows (begun options) AtHome events (begun options) pool since r.between (record { given = lawful.given; suits = record { polled = tt; due = tt; owned = λ k. omega arith }; are = λ none. tt; bounds = refl }) asks r.travels

  pub all-of : (events : List PoolEvent) (pool : Pooled) → RunsPool allows options since now events pool → AsksAt (start ∷ []) events → AllByRecursion (IsAnswer history config served) events
  all-of events pool r asks =
      all-answers allows start history config served honest.is_honest events
      (any-answers allows laws.puts laws.steps laws.faults (replies-answer laws allows) events (empty_pool options.links options.retries options.budget options.max_body) pool since r.between begins-so r.travels)
      (homes-of events pool r asks)

  abbrev StartIsServed : (first : List PoolEvent) (page : Page) → ReadsStart start page first → ℕ → Type 0
  StartIsServed first page reads version = IsServedStart laws.given laws.answered laws.only laws.worlds laws.forms laws.pages laws.kept laws.addresses history config honest.is_history honest.is_config start page version

  served-of : (first later : List PoolEvent) (pool : Pooled) (version : ℕ) → RunsPool allows options since now (first ++ later) pool → AsksAt (start ∷ []) (first ++ later) → (page : Page) (reads : ReadsStart start page first) → page.version ≡ Some version → StartIsServed first page reads version
  served-of first later pool version r asks page reads told =
      let all = all-of (first ++ later) pool r asks in
      let b : IsBodyOver history config served start reads.reply.body = at-last (IsAnswer history config served) (Came (start_ask start) reads.reply) first reads.last (all_front (IsAnswer history config served) first later all) in
      start-served laws.given laws.answered laws.only laws.worlds laws.forms laws.pages laws.kept laws.addresses history config honest.is_history honest.is_config start reads.reply.body page version b.is_body reads.taken told

  same-port : (m n : ℕ) (h g : List ℕ) → h ≡ g → m ≡ n → authority_text h m ≡ authority_text g n
  same-port m n h g e f = ap (λ (x : List ℕ). authority_text x m) e ∙ ap (λ (k : ℕ). authority_text g k) f

  -- the version of the start page has the whole plan to ask for
  pub start-is-served : (first later : List PoolEvent) (pool : Pooled) (version : ℕ) → RunsPool allows options since now (first ++ later) pool → AsksAt (start ∷ []) (first ++ later) → (page : Page) (reads : ReadsStart start page first) → page.version ≡ Some version
      → (is_answered history (Served version) config start && bytes_eq (authority_of start) (authority_of config.base)) ≡ true
  start-is-served first later pool version r asks page reads told =
      let s = served-of first later pool version r asks page reads told in
      let base : page.form.template.start ≡ config.base = ap (λ (t : Template). t.start) s.form.template in
      let host : start.host ≡ config.base.host = sym reads.home.host ∙ ap (λ (a : Address). a.host) base in
      let port : start.port ≡ config.base.port = sym reads.home.port ∙ ap (λ (a : Address). a.port) base in
      let same : bytes_eq (authority_of start) (authority_of config.base) ≡ true = (bytes_eq-Decides (authority_of start) (authority_of config.base)).1 (same-port start.port config.base.port start.host config.base.host host port) in
      and_from (is_answered history (Served version) config start) (bytes_eq (authority_of start) (authority_of config.base)) s.is_given same

  -- the world of the start page
  pub world-of : (first later : List PoolEvent) (pool : Pooled) → RunsPool allows options since now (first ++ later) pool → AsksAt (start ∷ []) (first ++ later) → (page : Page) (reads : ReadsStart start page first)
      → (version : ℕ) × IsVersionOf history version × (served version ≡ true) × (page.version ≡ Some version) × IsSourceOf (world_sources block) (server_world block (version_of history version) config) (page.form ∷ []) (λ address. page.version) later
  world-of first later pool r asks page reads =
      let all = all-of (first ++ later) pool r asks in
      let b : IsBodyOver history config served start reads.reply.body = at-last (IsAnswer history config served) (Came (start_ask start) reads.reply) first reads.last (all_front (IsAnswer history config served) first later all) in
      start-world laws.given laws.answered laws.only laws.worlds laws.forms laws.pages laws.kept laws.addresses history config honest.is_history honest.is_config block sized served start reads.reply.body page later honest.few b reads.taken (all_back (IsAnswer history config served) first later all)
