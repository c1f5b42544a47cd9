-- A call over several honest servers is covered by what they offer together.
use Rattle.std.proofs.Common.{ℕ, suc, ◌≡◌, ◌<◌, ◌^◌, ◌++◌, Bool, true, if◌then◌else◌, List, [], ◌∷◌, map, length, Option, Some, refl, sym, ap, subst, ◌∙◌, arith, append-nil}
use Rattle.std.specs.List.{All, AllByRecursion, AllZip, flat_map}
use Rattle.std.proofs.lemmas.Bool.{le-leb}
use Rattle.std.proofs.lemmas.List.Elements.{All-head}
use Rattle.list_laws.proofs.Each.{all_front, all_back}
use Rattle.rdf_terms.specs.declared.term.Triple.{Triple}
use Rattle.rdf_terms.specs.Selections.{Selection}
use Rattle.tpf_base.specs.Addresses.{Address}
use Rattle.tpf_base.specs.Links.{WireState}
use Rattle.template_fill.specs.declared.form.Form.{Form}
use Rattle.template_fill.specs.Bodies.{version_of}
use Rattle.template_fill.specs.Configurations.{IsHistory, VersionsAreValid}
use Rattle.fragment_page.specs.declared.page.Page.{Page}
use Rattle.bgp_core.specs.Queries.{QueryData}
use Rattle.request_pool.specs.Pools.{Pooled, Ask, empty_pool}
use Rattle.request_plan.specs.Blocks.{is_askable}
use Rattle.request_plan.specs.Beginnings.{no_names_bound, solutions_of}
use Rattle.request_plan.specs.Evaluations.{HasHome}
use Rattle.request_plan.specs.Plans.{plan}
use Rattle.request_plan.specs.Rounds.{RoundData, AreFirst}
use Rattle.request_plan.specs.Worlds.{World, IsWorld, IsOneServer, HasForms}
use Rattle.plan_laws.specs.JointWorlds.{union, addresses_at, joint_world}
use Rattle.plan_laws.proofs.JointWorlds.{one-union}
use Rattle.joint_pages.specs.Truths.{IsPageOfAll}
use Rattle.tpf_client.specs.declared.options.Options.{Options}
use Rattle.tpf_client.specs.Traffic.{PoolEvent, Asked, Came, Waited, Broke, IsLawful}
use Rattle.tpf_client.specs.Turns.{AsksAt, AreTrue}
use Rattle.tpf_client.specs.Told.{told_at}
use Rattle.tpf_client.specs.Starts.{ReadsStarts, forms_of, versions_of}
use Rattle.tpf_client.specs.Calls.{RunsPool}
use Rattle.tpf_client.specs.Offers.{Publisher, AreVersions, are_served, worlds_of, data_of, servers_offer, joint_addresses}
use Rattle.tpf_client.specs.Ends.{AnswersAs, AreHonestServers}
use Rattle.tpf_client.specs.Honest.{Laws}
use Rattle.tpf_client.proofs.Answered.{replies-answer}
use Rattle.tpf_client.proofs.Covered.{BeginsWith, ChoiceBehind, Covered}
use Rattle.tpf_client.proofs.Came.{CameFrom, came-from}
use Rattle.tpf_client.proofs.Distinct.{none-distinct}
use Rattle.tpf_client.proofs.Honesty.{Keeps, IsAnyAnswer, any-answers}
use Rattle.tpf_client.proofs.Known.{begun}
use Rattle.federated_query.specs.Servers.{AreApart, joint_sources}
use Rattle.federated_query.specs.Limits.{first_versions}
use Rattle.federated_query.proofs.Standing.{all-told, servers-stand, servers-number}
use Rattle.federated_query.proofs.Numbers.{number_at, told-number, has-number}
use Rattle.federated_query.proofs.Together.{Together, together}

-- ---- the first versions

ones-are : (allows : List ℕ → ℕ → List ℕ → List ℕ → Type 0) (wire : WireState) (starts : List Address) (publishers : List Publisher) → AllZip (AnswersAs allows wire) starts publishers → AreVersions publishers (first_versions publishers)
ones-are allows wire [] [] a = tt
ones-are allows wire [] (p ∷ publishers) a = absurd a
ones-are allows wire (start ∷ starts) [] a = absurd a
ones-are allows wire (start ∷ starts) (p ∷ publishers) a = (record { low = omega arith; high = a.0.is_history.low }, ones-are allows wire starts publishers a.1)

as-many : (allows : List ℕ → ℕ → List ℕ → List ℕ → Type 0) (wire : WireState) (starts : List Address) (publishers : List Publisher) (versions : List ℕ) → AllZip (AnswersAs allows wire) starts publishers → AreVersions publishers versions → length starts ≡ length versions
as-many allows wire [] [] [] a v = refl
as-many allows wire [] [] (version ∷ versions) a v = absurd v
as-many allows wire [] (p ∷ publishers) versions a v = absurd a
as-many allows wire (start ∷ starts) [] versions a v = absurd a
as-many allows wire (start ∷ starts) (p ∷ publishers) [] a v = absurd v
as-many allows wire (start ∷ starts) (p ∷ publishers) (version ∷ versions) a v = ap (λ (n : ℕ). suc n) (as-many allows wire starts publishers versions a.1 v.1)

-- ---- what they hold

triples-are : (publishers : List Publisher) (versions : List ℕ) → map (λ (w : World). w.triples) (worlds_of publishers versions) ≡ data_of publishers versions
triples-are [] versions = refl
triples-are (p ∷ publishers) [] = refl
triples-are (p ∷ publishers) (version ∷ versions) = ap (λ (l : List (List Triple)). version_of p.history version ∷ l) (triples-are publishers versions)

-- the data of histories
are-histories : (allows : List ℕ → ℕ → List ℕ → List ℕ → Type 0) (wire : WireState) (starts : List Address) (publishers : List Publisher) → AllZip (AnswersAs allows wire) starts publishers → AllByRecursion (λ p. IsHistory p.history) publishers
are-histories allows wire [] [] a = tt
are-histories allows wire [] (p ∷ publishers) a = absurd a
are-histories allows wire (start ∷ starts) [] a = absurd a
are-histories allows wire (start ∷ starts) (p ∷ publishers) a = (a.0.is_history, are-histories allows wire starts publishers a.1)

-- the data of the world of all servers are the union of theirs
data-are : VersionsAreValid → (publishers : List Publisher) (versions : List ℕ) → AllByRecursion (λ p. IsHistory p.history) publishers → (joint_world (worlds_of publishers versions)).triples ≡ union (data_of publishers versions)
data-are valid [] versions h = refl
data-are valid (p ∷ publishers) [] h = refl
data-are valid (p ∷ []) (version ∷ versions) h = sym (one-union (version_of p.history version) (valid p.history version h.0).data_set.ascending)
data-are valid (p ∷ q ∷ publishers) (version ∷ []) h = sym (one-union (version_of p.history version) (valid p.history version h.0).data_set.ascending)
data-are valid (p ∷ q ∷ publishers) (version ∷ other ∷ versions) h = ap union (triples-are (p ∷ q ∷ publishers) (version ∷ other ∷ versions))

-- the forms give the first pages of the world of all servers
has-forms : (worlds : List World) → All IsWorld worlds → All IsOneServer worlds → (forms : List Form) → ((s : Selection) → is_askable s ≡ true → AreFirst forms s (flat_map (addresses_at s 1) worlds)) → HasForms (joint_world worlds) forms
has-forms [] are one forms h = record { first = λ s ask. record { addresses = h s ask; none = refl } }
has-forms (w ∷ []) are one forms h = record {
  first = λ s ask. record {
    addresses = subst (λ (l : List Address). AreFirst forms s l)
        (append-nil (addresses_at s 1 w) ∙ ap (λ (b : Bool). if b then (w.round s 1).addresses else []) (le-leb 1 (w.last s) (let some = (All-head IsWorld w [] are).some s in omega (arith, some)))) (h s ask);
    none = ap (λ (r : RoundData). r.taken) (All-head IsOneServer w [] one s 1).1;
  };
}
has-forms (w ∷ v ∷ worlds) are one forms h = record { first = λ s ask. record { addresses = h s ask; none = refl } }

-- which asks row by row
by-rows : (publishers : List Publisher) (versions : List ℕ) → (joint_world (worlds_of publishers versions)).block ≡ 1
by-rows [] versions = refl
by-rows (p ∷ publishers) [] = refl
by-rows (p ∷ []) (version ∷ versions) = refl
by-rows (p ∷ q ∷ publishers) (version ∷ []) = refl
by-rows (p ∷ q ∷ publishers) (version ∷ other ∷ versions) = refl

few-less : (n m : ℕ) → 0 < n → n ≡ m → 0 < m
few-less n m l e = omega (arith, l, e)

module _ (laws : Laws) (valid : VersionsAreValid) (allows : List ℕ → ℕ → List ℕ → List ℕ → Type 0) (options : Options) (since now : WireState) (lawful : IsLawful allows since) (limit : options.max_body < 2 ^ 64)
    (publishers : List Publisher) (starts : List Address) (some : 0 < length starts) (apart : AreApart starts) (honest : AreHonestServers allows starts publishers since) (q : QueryData) where
  begins-so : Keeps allows laws.puts laws.steps laws.faults (empty_pool options.links options.retries options.budget options.max_body) since
  begins-so = record {
    given = lawful.given;
    suits = record { polled = tt; due = tt; owned = λ k. omega arith };
    answers = laws.empty options.links options.retries options.budget options.max_body since;
    distinct = λ e. none-distinct;
    limit = limit;
    tells = all-told allows since starts publishers some honest;
  }

  pub any-of : (events : List PoolEvent) (pool : Pooled) → RunsPool allows options since now events pool → AllByRecursion (IsAnyAnswer allows) events
  any-of events pool r = any-answers allows laws.puts laws.steps laws.faults (replies-answer laws allows) events (empty_pool options.links options.retries options.budget options.max_body) pool since r.between begins-so r.travels

  abbrev AtHome : Ask → Type 0
  AtHome ask = HasHome starts ask.address

  homes-of : (events : List PoolEvent) (pool : Pooled) → RunsPool allows options since now events pool → AsksAt starts events → AllByRecursion (CameFrom AtHome) events
  homes-of events pool r asks =
      came-from allows (begun options) AtHome events (begun options) pool since r.between (record { given = lawful.given; suits = record { polled = tt; due = tt; owned = λ k. omega arith }; are = λ none. tt; bounds = refl }) asks r.travels

  pub begins-with : (versions : List ℕ) → AreVersions publishers versions → BeginsWith (servers_offer publishers q starts) starts versions
  begins-with versions are = record {
    is_choice = are;
    versions = number_at starts versions;
    has = λ address home. has-number starts versions (as-many allows since starts publishers versions honest are) apart address home.0 home.1 home.2;
    rest = if are_served publishers starts versions then plan (joint_world (worlds_of publishers versions)) q.patterns (no_names_bound q) else [];
    addresses = refl;
  }

  -- each page that came is true for all servers
  true-all : (told : List Page) (t : Together laws allows since publishers starts told) (events : List PoolEvent) → AllByRecursion (IsAnyAnswer allows) events → AllByRecursion (CameFrom AtHome) events
      → AreTrue (IsPageOfAll (worlds_of publishers t.versions)) (told_at starts (versions_of told)) events
  true-all told t [] any came = tt
  true-all told t (Asked ask ∷ events) any came = (tt, true-all told t events any.1 came.1)
  true-all told t (Came ask reply ∷ events) any came = ((λ page takes e. t.pages apart ask reply any.0 page takes came.0.0 came.0.1 came.0.2 e), true-all told t events any.1 came.1)
  true-all told t (Waited ∷ events) any came = (tt, true-all told t events any.1 came.1)
  true-all told t (Broke fault ∷ events) any came = (tt, true-all told t events any.1 came.1)

  abbrev plan-over : List ℕ → List Address
  plan-over versions = plan (joint_world (worlds_of publishers versions)) q.patterns (no_names_bound q)

  whole-plan : (versions : List ℕ) → are_served publishers starts versions ≡ true → starts ++ plan-over versions ≡ joint_addresses publishers q starts versions
  whole-plan versions e = ap (λ (l : List Address). starts ++ l) (sym (ap (λ (b : Bool). if b then plan-over versions else []) e))

  pub choice-behind : (first later : List PoolEvent) (pool : Pooled) → RunsPool allows options since now (first ++ later) pool → AsksAt starts (first ++ later) → (told : List Page) (reads : ReadsStarts starts told first) → ChoiceBehind joint_sources (servers_offer publishers q starts) q starts first later told reads
  choice-behind first later pool r asks told reads =
      let any = any-of (first ++ later) pool r in
      let t = together laws allows since publishers starts told first honest reads (all_front (IsAnyAnswer allows) first later any) in
      let came = all_back (CameFrom AtHome) first later (homes-of (first ++ later) pool r asks) in
      record {
        choice = t.versions;
        is_choice = t.are_versions;
        versions = number_at starts t.versions;
        tells = λ address. ap (λ (l : List (Option ℕ)). told_at starts l address) t.told_are ∙ told-number starts t.versions address (few-less (length starts) (length t.versions) some t.as_many) t.as_many;
        is_reported = refl;
        has = λ address home. has-number starts t.versions t.as_many apart address home.0 home.1 home.2;
        source = worlds_of publishers t.versions;
        is_source = record {
          fits = record {
            servers = record { are_worlds = t.worlds; are_one = t.one; some = few-less (length starts) (length (worlds_of publishers t.versions)) some (sym t.many_worlds) };
            forms_are = has-forms (worlds_of publishers t.versions) t.worlds t.one (forms_of told) t.forms;
            row_by_row = by-rows publishers t.versions;
          };
          pages = true-all told t later (all_back (IsAnyAnswer allows) first later any) came;
        };
        rows = ap (λ (triples : List Triple). solutions_of triples q) (data-are valid publishers t.versions (are-histories allows since starts publishers honest));
        addresses = whole-plan t.versions t.served;
      }

  -- the start pages told the versions of that choice
  pub told-choice : (first later : List PoolEvent) (pool : Pooled) (r : RunsPool allows options since now (first ++ later) pool) (asks : AsksAt starts (first ++ later)) (told : List Page) (reads : ReadsStarts starts told first)
      → versions_of told ≡ map (λ n. Some n) (choice-behind first later pool r asks told reads).choice
  unfolding choice-behind
  told-choice first later pool r asks told reads = (together laws allows since publishers starts told first honest reads (all_front (IsAnyAnswer allows) first later (any-of (first ++ later) pool r))).told_are

  pub servers-covered : Covered joint_sources (servers_offer publishers q starts) allows options since now starts q
  servers-covered = record {
    tells = all-told allows since starts publishers some honest;
    first = first_versions publishers;
    is_first = ones-are allows since starts publishers honest;
    begins = begins-with;
    behind = choice-behind;
    stands = λ address home. servers-stand allows since publishers q starts honest address home;
    numbers = λ choice is address server version stands has. servers-number publishers starts choice address server version apart is stands has;
  }
