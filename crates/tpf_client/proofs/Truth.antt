-- The pages of an honest server are true for the world of one of its versions.
use Rattle.std.proofs.Common.{ℕ, zero, suc, ◌≡◌, ◌==◌, ◌<◌, ◌≤◌, ◌^◌, Bool, true, false, List, [], ◌∷◌, length, Option, Some, refl, sym, ap, subst, ◌∙◌, arith, lit≤}
use Rattle.std.specs.List.{AllByRecursion}
use Rattle.rdf_terms.specs.declared.term.Triple.{Triple}
use Rattle.rdf_terms.specs.Askable.{AskableAreKept}
use Rattle.rdf_terms.specs.Selections.{Selection, IsKeptSelection, selected_last}
use Rattle.tpf_base.specs.Addresses.{Address, IsAddress}
use Rattle.tpf_base.specs.Marks.{Served, version_at}
use Rattle.template_fill.specs.HttpAnswer.{Answer}
use Rattle.template_fill.specs.Authorities.{PagesAreAddresses}
use Rattle.template_fill.specs.Pages.{page_address}
use Rattle.template_fill.specs.Metadata.{Config}
use Rattle.template_fill.specs.Bodies.{version_of, page_body}
use Rattle.template_fill.specs.Configurations.{IsConfig, IsHistory}
use Rattle.template_fill.specs.Answers.{answer_to, read_as}
use Rattle.template_fill.specs.Answered.{is_answered, PagesAreGiven, AnsweredGivePages, GivesSomePage, GivesPage}
use Rattle.http_ends.specs.Requests.{asks}
use Rattle.fragment_page.specs.declared.page.Page.{Page}
use Rattle.control_reader.specs.Takes.{Takes}
use Rattle.control_laws.specs.Law.{NothingElseIsRead, IsReadFrom, IsServerForm}
use Rattle.pool_laws.specs.Answers.{IsBodyOf, IsBodyOver}
use Rattle.request_plan.specs.Worlds.{IsPageAt}
use Rattle.request_plan.specs.Blocks.{IsBlockSize}
use Rattle.plan_laws.specs.Servers.{asked_at, server_world, ServersAreWorlds, ServersHaveForms, ServersPagesAreTrue}
use Rattle.plan_laws.proofs.Plans.{read_asked}
use Rattle.plan_laws.proofs.Selections.{selection_kept}
use Rattle.tpf_client.specs.Traffic.{PoolEvent, Asked, Came, Waited, Broke}
use Rattle.tpf_client.specs.Turns.{AreTrue, IsTrueReply}
use Rattle.tpf_client.specs.Sources.{IsSourceOf, world_sources}
use Rattle.tpf_client.specs.Offers.{IsVersionOf}
use Rattle.tpf_client.proofs.Honesty.{IsAnswer}

-- ---- what is read of the addresses of pages

kept-read : (rows : Bool) (s : Selection) → IsKeptSelection s → IsKeptSelection (read_as rows s)
kept-read true s kept = kept
kept-read false s kept = record { slots = kept.slots; rows = tt; few = lit≤ tt }

kept-asked : (rows : Bool) (s : Selection) (k : ℕ) → IsKeptSelection s → IsKeptSelection (asked_at rows (suc k) s)
kept-asked rows s zero kept = kept
kept-asked rows s (suc k) kept = kept-read rows s kept

some-same : (one other : ℕ) → ◌≡◌ {A = Option ℕ} (Some one) (Some other) → one ≡ other
some-same one other e = cc

module _ (given : PagesAreGiven) (answered : AnsweredGivePages) (only : NothingElseIsRead) (worlds : ServersAreWorlds) (forms : ServersHaveForms) (pages : ServersPagesAreTrue) (kept : AskableAreKept) (addresses : PagesAreAddresses)
    (history : List (List Triple)) (config : Config) (is_history : IsHistory history) (is_config : IsConfig config) where
  -- what is read from an answer is a page over its version
  pub record ReadsVersion (page : Page) (version : ℕ) : Type 0 where
    pub is_version : IsVersionOf history version
    pub told : page.version ≡ Some version
    pub form : IsServerForm config.base page.form

  pub reads : (address : Address) (body : List ℕ) (page : Page) (b : IsBodyOf history config address body) → Takes body address page → ReadsVersion page (version_at b.mark)
  reads address body page b t =
      let s : GivesSomePage history b.mark config address = (answered history b.mark config address).0 (ap (λ (n : ℕ). n == 200) b.status) in
      let is : body ≡ page_body history (version_at b.mark) config s.selection s.k = b.body_is ∙ ap (λ (a : Answer). a.body) s.gives.answer in
      let high = b.version.high in
      let most = is_history.high in
      let r : IsReadFrom history (version_at b.mark) config s.selection s.k address page = only history (version_at b.mark) config s.selection s.k address page is_history (omega arith) is_config (subst (λ (l : List ℕ). Takes l address page) is t) in
      record {
        is_version = record { low = b.version.low; high = b.version.high };
        told = r.is_page.version_is;
        form = r.is_page.form;
      }

  -- the start is answered over the version of its page, by a server with this form
  pub record IsServedStart (address : Address) (page : Page) (version : ℕ) : Type 0 where
    pub is_given : is_answered history (Served version) config address ≡ true
    pub form : IsServerForm config.base page.form

  pub start-served : (address : Address) (body : List ℕ) (page : Page) (version : ℕ) → IsBodyOf history config address body → Takes body address page → page.version ≡ Some version → IsServedStart address page version
  start-served address body page version b t told =
      let r = reads address body page b t in
      let same : version_at b.mark ≡ version = some-same (version_at b.mark) version (sym r.told ∙ told) in
      let status : (answer_to history (Served (version_at b.mark)) config (asks address)).status ≡ 200 = sym (ap (λ (a : Answer). a.status) b.served) ∙ b.status in
      record {
        is_given = subst (λ (n : ℕ). is_answered history (Served n) config address ≡ true) same (ap (λ (n : ℕ). n == 200) status);
        form = r.form;
      }

module _ (given : PagesAreGiven) (answered : AnsweredGivePages) (only : NothingElseIsRead) (worlds : ServersAreWorlds) (forms : ServersHaveForms) (pages : ServersPagesAreTrue) (kept : AskableAreKept) (addresses : PagesAreAddresses)
    (history : List (List Triple)) (config : Config) (is_history : IsHistory history) (is_config : IsConfig config) (block : ℕ) (sized : IsBlockSize block) where
  -- a page of the version is true
  pub true-page : (version : ℕ) (address : Address) (body : List ℕ) (page : Page) → IsBodyOf history config address body → Takes body address page → page.version ≡ Some version → IsPageAt (server_world block (version_of history version) config) address page
  true-page version address body page b t told =
      let r = reads given answered only worlds forms pages kept addresses history config is_history is_config address body page b t in
      let v = version_at b.mark in
      let same : v ≡ version = some-same v version (sym r.told ∙ told) in
      let high = b.version.high in
      let most = is_history.high in
      subst (λ (n : ℕ). IsPageAt (server_world block (version_of history n) config) address page) same
      (pages block history v config address page is_history (omega arith) is_config (λ s k valid ask at below.
      let asked : Selection = asked_at config.rows (suc k) s in
      let is : read_as config.rows asked ≡ read_as config.rows s = read_asked config.rows (suc k) s in
      let there : IsAddress (page_address config.base asked (suc k)) address = subst (λ (a : Address). IsAddress (page_address config.base asked (suc k)) a) (sym at) (addresses config.base asked (suc k) is_config.base) in
      let within : suc k ≤ selected_last (version_of history v) (read_as config.rows s) config.page_size = omega (arith, below) in
      let high : suc k ≤ selected_last (version_of history v) (read_as config.rows asked) config.page_size = subst (λ (r : Selection). suc k ≤ selected_last (version_of history v) r config.page_size) (sym is) within in
      let g : GivesPage history b.mark config address (read_as config.rows asked) (suc k) =
      given history b.mark config asked (suc k) address is_config (kept-asked config.rows s k (selection_kept kept s ask valid)) (omega arith) high there in
      subst (λ (r : Selection). Takes (page_body history v config r (suc k)) address page) is
      (subst (λ (l : List ℕ). Takes l address page) (b.body_is ∙ ap (λ (a : Answer). a.body) g.answer) t)))

  true-event : (served : ℕ → Bool) (version : ℕ) (event : PoolEvent) → IsAnswer history config served event → IsTrueReply (IsPageAt (server_world block (version_of history version) config)) (λ address. Some version) event
  true-event served version (Asked ask) a = tt
  true-event served version (Came ask reply) a = λ page t told. true-page version ask.address reply.body page a.is_body t told
  true-event served version Waited a = tt
  true-event served version (Broke fault) a = tt

  true-events : (served : ℕ → Bool) (version : ℕ) (events : List PoolEvent) → AllByRecursion (IsAnswer history config served) events → AreTrue (IsPageAt (server_world block (version_of history version) config)) (λ address. Some version) events
  true-events served version [] a = tt
  true-events served version (event ∷ events) a = (true-event served version event a.0, true-events served version events a.1)

  -- the world of the start page's version
  pub start-world : (served : ℕ → Bool) (address : Address) (body : List ℕ) (page : Page) (events : List PoolEvent) → ((version : ℕ) → served version ≡ true → length (version_of history version) < 2 ^ 64) → IsBodyOver history config served address body → Takes body address page
      → AllByRecursion (IsAnswer history config served) events
      → (version : ℕ) × IsVersionOf history version × (served version ≡ true) × (page.version ≡ Some version) × IsSourceOf (world_sources block) (server_world block (version_of history version) config) (page.form ∷ []) (λ address. page.version) events
  start-world served address body page events few o t a =
      let b = o.is_body in
      let r = reads given answered only worlds forms pages kept addresses history config is_history is_config address body page b t in
      let v = version_at b.mark in
      let form = forms block (version_of history v) config page.form is_config r.form in (
        v,
        r.is_version,
        o.is_served,
        r.told,
        record {
          fits = record { world = worlds block history v config sized.0 sized.1 is_history is_config (few v o.is_served); one = form.one; forms_are = form.forms; rows = refl };
          pages = subst (λ (o : Option ℕ). AreTrue (IsPageAt (server_world block (version_of history v) config)) (λ address. o) events) (sym r.told) (true-events served v events a);
        },
      )
