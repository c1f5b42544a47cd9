-- A call over an honest wire to one server is covered by what that server offers.
use Rattle.std.proofs.Common.{ℕ, ◌≡◌, ◌<◌, ◌^◌, ◌++◌, ◌&&◌, Bool, true, if◌then◌else◌, List, [], ◌∷◌, Some, refl, sym, ap, subst, arith}
use Rattle.std.specs.Str.{bytes_eq}
use Rattle.tpf_base.specs.Addresses.{Address, authority_of}
use Rattle.tpf_base.specs.Links.{WireState}
use Rattle.tpf_base.specs.Marks.{Served}
use Rattle.template_fill.specs.Bodies.{version_of}
use Rattle.template_fill.specs.Answered.{is_answered}
use Rattle.bgp_core.specs.Queries.{QueryData}
use Rattle.request_pool.specs.Pools.{Pooled}
use Rattle.request_plan.specs.Plans.{plan}
use Rattle.request_plan.specs.Blocks.{IsBlockSize}
use Rattle.request_plan.specs.Evaluations.{HasHome}
use Rattle.plan_laws.specs.Servers.{server_world}
use Rattle.tpf_client.specs.declared.options.Options.{Options}
use Rattle.tpf_client.specs.Traffic.{PoolEvent, IsLawful}
use Rattle.fragment_page.specs.declared.page.Page.{Page}
use Rattle.request_plan.specs.Beginnings.{no_names_bound}
use Rattle.tpf_client.specs.Turns.{AsksAt}
use Rattle.tpf_client.specs.Told.{told_at, told_first}
use Rattle.tpf_client.specs.Starts.{ReadsStarts, forms_of, versions_of}
use Rattle.tpf_client.specs.Sources.{IsSourceOf, world_sources}
use Rattle.tpf_client.specs.Calls.{RunsPool}
use Rattle.tpf_client.specs.Offers.{Publisher, Offer, IsVersionOf, is_served, addresses_in_blocks, offer_in_blocks}
use Rattle.tpf_client.specs.Honest.{Laws, IsHonestWire}
use Rattle.tpf_client.proofs.Covered.{BeginsWith, ChoiceBehind, StandsThere, Covered}
use Rattle.tpf_client.proofs.Homes.{one-read}
use Rattle.tpf_client.proofs.Headline.{start-is-served, world-of}
use Rattle.tpf_client.proofs.Honesty.{ServesAt, serves-any, over-share, any-over, one-home}

-- the offer of the one server, of which these versions are choices
abbrev pub some_offer : (ℕ → Type 0) → ℕ → Publisher → QueryData → Address → Offer
some_offer IsChoice block p q start = record (offer_in_blocks block p q start) { IsChoice = IsChoice }

module _ (laws : Laws) (allows : List ℕ → ℕ → List ℕ → List ℕ → Type 0) (options : Options) (since now : WireState) (lawful : IsLawful allows since) (limit : options.max_body < 2 ^ 64)
    (p : Publisher) (start : Address) (served : ℕ → Bool) (honest : ServesAt allows start p.history p.config served since) (q : QueryData) (block : ℕ) (sized : IsBlockSize block)
    (IsChoice : ℕ → Type 0) (is-choice : (version : ℕ) → IsVersionOf p.history version → served version ≡ true → IsChoice version) (is-version : (version : ℕ) → IsChoice version → IsVersionOf p.history version) (one : ℕ) (is-one : IsChoice one) where
  abbrev offer : Offer
  offer = some_offer IsChoice block p q start

  abbrev whole : ℕ → List Address
  whole version = plan (server_world block (version_of p.history version) p.config) q.patterns (no_names_bound q)

  abbrev rest : ℕ → List Address
  rest version = if is_served p start version then whole version else []

  is-served : (version : ℕ) → (is_answered p.history (Served version) p.config start && bytes_eq (authority_of start) (authority_of p.config.base)) ≡ true → is_served p start version ≡ true
  unfolding is_served
  is-served version e = e

  served-whole : (version : ℕ) → is_served p start version ≡ true → start ∷ whole version ≡ addresses_in_blocks block p q start version
  served-whole version e = ap (λ (l : List Address). start ∷ l) (sym (ap (λ (b : Bool). if b then whole version else []) e))

  begins-with : (version : ℕ) → IsChoice version → BeginsWith offer (start ∷ []) version
  begins-with version is = record {
    is_choice = is;
    versions = λ address. version;
    has = λ address own. refl;
    rest = rest version;
    addresses = refl;
  }

  choice-behind : (first later : List PoolEvent) (pool : Pooled) → RunsPool allows options since now (first ++ later) pool → AsksAt (start ∷ []) (first ++ later) → (told : List Page) (reads : ReadsStarts (start ∷ []) told first) → ChoiceBehind (world_sources block) offer q (start ∷ []) first later told reads
  choice-behind first later pool r asks told reads =
      let o = one-read start told first reads in
      let v = world-of laws allows p.history p.config served options since now start honest lawful limit block sized first later pool r asks o.page o.reads in
      record {
        choice = v.0;
        is_choice = is-choice v.0 v.1 v.2;
        versions = λ address. v.0;
        tells = λ address. subst (λ (l : List Page). told_at (start ∷ []) (versions_of l) address ≡ Some v.0) (sym o.is) v.3;
        is_reported = subst (λ (l : List Page). told_first (versions_of l) ≡ Some v.0) (sym o.is) v.3;
        has = λ address own. refl;
        source = server_world block (version_of p.history v.0) p.config;
        is_source = subst (λ (l : List Page). IsSourceOf (world_sources block) (server_world block (version_of p.history v.0) p.config) (forms_of l) (told_at (start ∷ []) (versions_of l)) later) (sym o.is) v.4;
        rows = refl;
        addresses = served-whole v.0 (is-served v.0 (start-is-served laws allows p.history p.config served options since now start honest lawful limit block sized first later pool v.0 r asks o.page o.reads v.3));
      }

  there : (address : Address) → HasHome (start ∷ []) address → StandsThere allows offer address
  there address own =
      let over = over-share allows p.history p.config served start address (one-home start address own) honest.is_honest in
      record {
        server = p;
        stands = refl;
        is_history = honest.is_history;
        is_config = honest.is_config;
        is_honest = any-over allows address.host address.port p.history p.config served over;
        served = served;
        is_over = over;
      }

  pub offer-covered : Covered (world_sources block) offer allows options since now (start ∷ []) q
  offer-covered = record {
    tells = honest.tells;
    first = one;
    is_first = is-one;
    begins = begins-with;
    behind = choice-behind;
    stands = there;
    numbers = λ choice is address server version stands has.
        subst (λ (s : Publisher). IsVersionOf s.history version) (sym stands) (subst (λ (n : ℕ). IsVersionOf p.history n) (sym has) (is-version choice is));
  }

  pub covered-served : (address : Address) (own : HasHome (start ∷ []) address) → (offer-covered.stands address own).served ≡ served
  unfolding offer-covered there
  covered-served address own = refl

-- each version may be a choice
pub server-covered : (laws : Laws) (allows : List ℕ → ℕ → List ℕ → List ℕ → Type 0) (options : Options) (since now : WireState) → IsLawful allows since → options.max_body < 2 ^ 64
    → (p : Publisher) (start : Address) → IsHonestWire allows start p.history p.config since → (q : QueryData) (block : ℕ) → IsBlockSize block → Covered (world_sources block) (offer_in_blocks block p q start) allows options since now (start ∷ []) q
server-covered laws allows options since now lawful limit p start honest q block sized =
    offer-covered laws allows options since now lawful limit p start (λ version. true) (serves-any allows start p.history p.config since honest) q block sized
    (IsVersionOf p.history) (λ version is any. is) (λ version is. is) 1 (record { low = omega arith; high = honest.is_history.low })
