-- Where several servers are within the limits, the plan over all of them fits: over one version of each, and over each where their data do not change.
use Rattle.std.proofs.Common.{ℕ, ◌≡◌, ◌+◌, ◌≤◌, ◌<◌, inl, inr, if◌then◌else◌, List, [], ◌∷◌, length, map, refl, sym, ap, ap₂, subst, ◌∙◌, ⊎_elim, arith}
use Rattle.std.specs.List.{AllByRecursion, AllZip, Contains}
use Rattle.list_laws.proofs.Each.{all_append, all_both}
use Rattle.list_laws.proofs.Members.{at_head, in_tail, head_or_tail, none_in}
use Rattle.tpf_base.specs.Addresses.{Address, authority_of}
use Rattle.tpf_base.specs.Links.{WireState}
use Rattle.tpf_base.specs.Marks.{Served}
use Rattle.template_fill.specs.Answered.{AnsweredGivePages}
use Rattle.bgp_core.specs.Queries.{QueryData}
use Rattle.request_plan.specs.Plans.{plan}
use Rattle.request_plan.specs.Worlds.{World}
use Rattle.request_plan.specs.Beginnings.{no_names_bound}
use Rattle.plan_laws.specs.Fitting.{IsRead, IsAskable, StartsAreRead}
use Rattle.plan_laws.specs.JointFitting.{ServerData, world_at, IsWithin, IsReadByOne, JointPlansAreRead}
use Rattle.plan_laws.specs.JointWorlds.{joint_world}
use Rattle.plan_laws.proofs.JointPlans.{wider}
use Rattle.plan_laws.proofs.Starts.{base_of_start, target_of_start}
use Rattle.tpf_client.specs.declared.options.Options.{Options}
use Rattle.tpf_client.specs.Offers.{Publisher, IsVersionOf, StandsAmong, HasAmong, AreVersions, are_served, worlds_of, servers_offer, joint_addresses}
use Rattle.tpf_client.specs.Ends.{AnswersAs}
use Rattle.tpf_client.specs.Plans.{AtEach, AtChosen, IsSmallByAll, IsFit, IsFitAt, ChoiceFits, PlanFits}
use Rattle.tpf_client.proofs.Fitting.{fit_of, fit_at, where_asked}
use Rattle.federated_query.specs.Servers.{AreApart}
use Rattle.federated_query.specs.Limits.{IsShortStart, ServesStart, first_versions, first_addresses, ServersFit, ServesOver, ServeOver, IsSmallAt, VersionsFit}
use Rattle.federated_query.proofs.Numbers.{apart-from}
use Rattle.federated_query.proofs.Standing.{same-authority, none-has}

-- ---- the one version of each

one-version : (p : Publisher) → length p.history ≡ 1 → (version : ℕ) → IsVersionOf p.history version → 1 ≡ version
one-version p still version is = let low = is.low in let high = is.high in omega (arith, still, low, high)

cons-one : (n : ℕ) (ns ms : List ℕ) → 1 ≡ n → ms ≡ ns → 1 ∷ ms ≡ n ∷ ns
cons-one n ns ms e f = ap₂ (λ (k : ℕ) (l : List ℕ). k ∷ l) e f

one-choice : (starts : List Address) (publishers : List Publisher) (versions : List ℕ) → AllZip ServesStart starts publishers → AreVersions publishers versions → first_versions publishers ≡ versions
one-choice starts [] [] s a = refl
one-choice starts [] (n ∷ ns) s a = absurd a
one-choice starts (p ∷ publishers) [] s a = absurd a
one-choice [] (p ∷ publishers) (n ∷ ns) s a = absurd s
one-choice (start ∷ starts) (p ∷ publishers) (n ∷ ns) s a = cons-one n ns (first_versions publishers) (one-version p s.0.still n a.0) (one-choice starts publishers ns s.1 a.1)

serves-one : (start : Address) (p : Publisher) → ServesStart start p → ServesOver start p 1
serves-one start p s = record { is_version = record { low = omega arith; high = let still = s.still in omega (arith, still) }; servable = s.servable; authority = s.authority; answered = s.answered }

all-serve : (starts : List Address) (publishers : List Publisher) → AllZip ServesStart starts publishers → ServeOver starts publishers (first_versions publishers)
all-serve [] [] s = tt
all-serve [] (p ∷ publishers) s = absurd s
all-serve (start ∷ starts) [] s = absurd s
all-serve (start ∷ starts) (p ∷ publishers) s = (serves-one start p s.0, all-serve starts publishers s.1)

-- who serves a start has one version
is-still : (starts : List Address) (publishers : List Publisher) → AllZip ServesStart starts publishers → (address : Address) (p : Publisher) → StandsAmong publishers starts address p → length p.history ≡ 1
is-still starts [] s address p h = absurd h
is-still [] (q ∷ publishers) s address p h = absurd h
is-still (start ∷ starts) (q ∷ publishers) s address p (inl h) = ap (λ (x : Publisher). length x.history) h.1 ∙ s.0.still
is-still (start ∷ starts) (q ∷ publishers) s address p (inr h) = is-still starts publishers s.1 address p h

-- which is its own there
has-first : (publishers : List Publisher) (starts : List Address) (address : Address) (p : Publisher) → StandsAmong publishers starts address p → HasAmong starts (first_versions publishers) address 1
has-first [] starts address p h = absurd h
has-first (q ∷ publishers) [] address p h = absurd h
has-first (q ∷ publishers) (start ∷ starts) address p (inl h) = inl (h.0, refl)
has-first (q ∷ publishers) (start ∷ starts) address p (inr h) = inr (has-first publishers starts address p h)

-- ---- the servers, each over its version

abbrev server_of : Publisher → ℕ → ServerData
server_of p version = record { history = p.history; mark = Served version; config = p.config }

abbrev servers_of : List Publisher → List ℕ → List ServerData
servers_of [] versions = []
servers_of (p ∷ publishers) [] = []
servers_of (p ∷ publishers) (version ∷ versions) = server_of p version ∷ servers_of publishers versions

worlds-are : (publishers : List Publisher) (versions : List ℕ) → map world_at (servers_of publishers versions) ≡ worlds_of publishers versions
worlds-are [] versions = refl
worlds-are (p ∷ publishers) [] = refl
worlds-are (p ∷ publishers) (version ∷ versions) = ap (λ (l : List World). world_at (server_of p version) ∷ l) (worlds-are publishers versions)

-- its base has the authority of the start
abbrev IsOwn : Address → Publisher → Type 0
IsOwn start p = authority_of start ≡ authority_of p.config.base

are-own : (starts : List Address) (publishers : List Publisher) (versions : List ℕ) → ServeOver starts publishers versions → AllZip IsOwn starts publishers
are-own [] [] [] s = tt
are-own [] [] (version ∷ versions) s = absurd s
are-own [] (p ∷ publishers) versions s = absurd s
are-own (start ∷ starts) [] versions s = absurd s
are-own (start ∷ starts) (p ∷ publishers) [] s = absurd s
are-own (start ∷ starts) (p ∷ publishers) (version ∷ versions) s = (s.0.authority, are-own starts publishers versions s.1)

-- a start that has the authority
abbrev HasStart : List Address → List ℕ → Type 0
HasStart starts authority = (home : Address) × Contains starts home × (authority_of home ≡ authority)

later-start : (start : Address) (starts : List Address) (authority : List ℕ) → HasStart starts authority → HasStart (start ∷ starts) authority
later-start start starts authority h = (h.0, in_tail start h.0 starts h.1, h.2)

own-start : (starts : List Address) (publishers : List Publisher) (versions : List ℕ) → AllZip IsOwn starts publishers → (server : ServerData) → Contains (servers_of publishers versions) server → HasStart starts (authority_of server.config.base)
own-start starts [] versions own server c = absurd (none_in server c)
own-start starts (p ∷ publishers) [] own server c = absurd (none_in server c)
own-start [] (p ∷ publishers) (version ∷ versions) own server c = absurd own
own-start (start ∷ starts) (p ∷ publishers) (version ∷ versions) own server c =
    ⊎_elim (λ (e : server_of p version ≡ server). (start, at_head start starts, own.0 ∙ ap (λ (s : ServerData). authority_of s.config.base) e))
    (λ (m : Contains (servers_of publishers versions) server). later-start start starts (authority_of server.config.base) (own-start starts publishers versions own.1 server m)) (head_or_tail (server_of p version) server (servers_of publishers versions) c)

stands-start : (publishers : List Publisher) (starts : List Address) (address : Address) (p : Publisher) → StandsAmong publishers starts address p → HasStart starts (authority_of address)
stands-start [] starts address p h = absurd h
stands-start (q ∷ publishers) [] address p h = absurd h
stands-start (q ∷ publishers) (start ∷ starts) address p (inl h) = (start, at_head start starts, same-authority start address h.0)
stands-start (q ∷ publishers) (start ∷ starts) address p (inr h) = later-start start starts (authority_of address) (stands-start publishers starts address p h)

-- who stands at an address, over the version that is its own there, is the server whose base has its authority
is-server : (starts : List Address) (publishers : List Publisher) (versions : List ℕ) → AreApart starts → AllZip IsOwn starts publishers → (address : Address) (server : ServerData) → Contains (servers_of publishers versions) server → authority_of address ≡ authority_of server.config.base
    → (p : Publisher) (told : ℕ) → StandsAmong publishers starts address p → HasAmong starts versions address told → server ≡ server_of p told
is-server starts [] versions apart own address server c at p told h k = absurd h
is-server [] (q ∷ publishers) versions apart own address server c at p told h k = absurd own
is-server (start ∷ starts) (q ∷ publishers) [] apart own address server c at p told h k = absurd (none_in server c)
is-server (start ∷ starts) (q ∷ publishers) (version ∷ versions) apart own address server c at p told (inl h) (inl k) =
    ⊎_elim (λ (e : server_of q version ≡ server). sym e ∙ ap₂ server_of (sym h.1) (sym k.1))
    (λ (m : Contains (servers_of publishers versions) server). let home = own-start starts publishers versions own.1 server m in absurd (apart-from start starts home.0 apart.0 home.1 (same-authority start address h.0 ∙ at ∙ sym home.2)))
    (head_or_tail (server_of q version) server (servers_of publishers versions) c)
is-server (start ∷ starts) (q ∷ publishers) (version ∷ versions) apart own address server c at p told (inl h) (inr k) = absurd (none-has start starts versions address told apart.0 h.0 k)
is-server (start ∷ starts) (q ∷ publishers) (version ∷ versions) apart own address server c at p told (inr h) (inl k) =
    let home = stands-start publishers starts address p h in absurd (apart-from start starts home.0 apart.0 home.1 (same-authority start address k.0 ∙ sym home.2))
is-server (start ∷ starts) (q ∷ publishers) (version ∷ versions) apart own address server c at p told (inr h) (inr k) =
    ⊎_elim (λ (e : server_of q version ≡ server). let home = stands-start publishers starts address p h in absurd (apart-from start starts home.0 apart.0 home.1 (own.0 ∙ ap (λ (s : ServerData). authority_of s.config.base) e ∙ sym at ∙ sym home.2)))
    (λ (m : Contains (servers_of publishers versions) server). is-server starts publishers versions apart.1 own.1 address server m at p told h k)
    (head_or_tail (server_of q version) server (servers_of publishers versions) c)

-- ---- what is read

some-of : (starts : List Address) (publishers : List Publisher) (versions : List ℕ) → ServeOver starts publishers versions → 0 < length starts → 0 < length (servers_of publishers versions)
some-of [] publishers versions s some = absurd (omega (arith, some))
some-of (start ∷ starts) [] versions s some = absurd s
some-of (start ∷ starts) (p ∷ publishers) [] s some = absurd s
some-of (start ∷ starts) (p ∷ publishers) (version ∷ versions) s some = omega arith

module _ (plans : JointPlansAreRead) (reads : StartsAreRead) (gives : AnsweredGivePages) (allows : List ℕ → ℕ → List ℕ → List ℕ → Type 0) (wire : WireState) where
  is-within : (start : Address) (p : Publisher) (version : ℕ) → AnswersAs allows wire start p → ServesOver start p version → IsShortStart start → IsWithin (server_of p version)
  is-within start p version a s short = record {
    is_history = a.is_history;
    is_config = a.is_config;
    version = record { low = s.is_version.low; high = s.is_version.high };
    triples = s.servable;
    base = base_of_start p.config.base start a.is_config.no_query s.authority ((gives p.history (Served version) p.config start).0 s.answered).gives.asks.path short;
  }

  are-within : (starts : List Address) (publishers : List Publisher) (versions : List ℕ) → AllZip (AnswersAs allows wire) starts publishers → ServeOver starts publishers versions → AllByRecursion IsShortStart starts → AllByRecursion IsWithin (servers_of publishers versions)
  are-within [] [] [] a s short = tt
  are-within [] [] (version ∷ versions) a s short = absurd s
  are-within [] (p ∷ publishers) versions a s short = absurd s
  are-within (start ∷ starts) [] versions a s short = absurd s
  are-within (start ∷ starts) (p ∷ publishers) [] a s short = absurd s
  are-within (start ∷ starts) (p ∷ publishers) (version ∷ versions) a s short = (is-within start p version a.0 s.0 short.0, are-within starts publishers versions a.1 s.1 short.1)

  starts-read : (starts : List Address) (publishers : List Publisher) (versions : List ℕ) → AllZip (AnswersAs allows wire) starts publishers → ServeOver starts publishers versions → AllByRecursion IsShortStart starts → AllByRecursion (IsReadByOne (servers_of publishers versions)) starts
  starts-read [] [] [] a s short = tt
  starts-read [] [] (version ∷ versions) a s short = absurd s
  starts-read [] (p ∷ publishers) versions a s short = absurd s
  starts-read (start ∷ starts) [] versions a s short = absurd s
  starts-read (start ∷ starts) (p ∷ publishers) [] a s short = absurd s
  starts-read (start ∷ starts) (p ∷ publishers) (version ∷ versions) a s short = (
    record {
      server = server_of p version;
      is_one = at_head (server_of p version) (servers_of publishers versions);
      own = s.0.authority;
      read = reads p.history (Served version) p.config start (is-within start p version a.0 s.0 short.0) s.0.authority (target_of_start start short.0) s.0.answered;
    },
    wider (server_of p version) (servers_of publishers versions) starts (starts-read starts publishers versions a.1 s.1 short.1),
  )

  module _ (publishers : List Publisher) (q : QueryData) (starts : List Address) (some : 0 < length starts) (apart : AreApart starts) (honest : AllZip (AnswersAs allows wire) starts publishers) (short : AllByRecursion IsShortStart starts) (patterns : AllByRecursion IsAskable q.patterns) where
    module _ (versions : List ℕ) (servers : ServeOver starts publishers versions) where
      abbrev ReadByOne : Address → Type 0
      ReadByOne = IsReadByOne (servers_of publishers versions)

      plan-read : AllByRecursion ReadByOne (plan (joint_world (worlds_of publishers versions)) q.patterns (no_names_bound q))
      plan-read =
          subst (λ (worlds : List World). AllByRecursion ReadByOne (plan (joint_world worlds) q.patterns (no_names_bound q))) (worlds-are publishers versions)
          (plans (servers_of publishers versions) q.patterns (length q.names) (some-of starts publishers versions servers some) (are-within starts publishers versions honest servers short) patterns)

      all-read : AllByRecursion ReadByOne (joint_addresses publishers q starts versions)
      all-read =
          all_append ReadByOne starts (if are_served publishers starts versions then plan (joint_world (worlds_of publishers versions)) q.patterns (no_names_bound q) else [])
          (starts-read starts publishers versions honest servers short)
          (where_asked ReadByOne (are_served publishers starts versions) (plan (joint_world (worlds_of publishers versions)) q.patterns (no_names_bound q)) plan-read)

      read-at : (address : Address) → ReadByOne address → (p : Publisher) (told : ℕ) → StandsAmong publishers starts address p → HasAmong starts versions address told → IsRead p.history (Served told) p.config address
      read-at address r p told stands has =
          let is = is-server starts publishers versions apart (are-own starts publishers versions servers) address r.server r.is_one r.own p told stands has in
          subst (λ (server : ServerData). IsRead server.history server.mark server.config address) is r.read

  module _ (publishers : List Publisher) (q : QueryData) (starts : List Address) (options : Options) (more : ℕ) (some : 0 < length starts) (apart : AreApart starts) (honest : AllZip (AnswersAs allows wire) starts publishers) where
    -- ---- over one version of each

    module _ (versions : List ℕ) (f : VersionsFit publishers versions q starts options more) where
      abbrev FitsAt : Address → Type 0
      FitsAt = AtChosen (servers_offer publishers q starts) versions (IsFitAt options.max_body)

      abbrev IsSmallThere : Address → Type 0
      IsSmallThere = AtChosen (servers_offer publishers q starts) versions (IsSmallAt options.max_body)

      fits-there : (address : Address) → IsReadByOne (servers_of publishers versions) address → IsSmallThere address → FitsAt address
      fits-there address r s = λ p told stands has.
          fit_at options.max_body p told address (read-at publishers q starts some apart honest f.starts_are f.patterns versions f.servers address r p told stands has) (s p told stands has)

      pub choice-fits : ChoiceFits (servers_offer publishers q starts) options more versions
      choice-fits = record {
        fit = all_both (IsReadByOne (servers_of publishers versions)) IsSmallThere FitsAt fits-there (joint_addresses publishers q starts versions)
            (all-read publishers q starts some apart honest f.starts_are f.patterns versions f.servers) f.small;
        within = f.within;
      }

    -- ---- where the data do not change

    module _ (f : ServersFit publishers q starts options more) where
      abbrev Fits : Address → Type 0
      Fits = AtEach (servers_offer publishers q starts) (IsFit options.max_body)

      abbrev IsSmall : Address → Type 0
      IsSmall = AtEach (servers_offer publishers q starts) (IsSmallByAll options.max_body)

      serve-first : ServeOver starts publishers (first_versions publishers)
      serve-first = all-serve starts publishers f.servers

      fits-each : (address : Address) → IsReadByOne (servers_of publishers (first_versions publishers)) address → IsSmall address → Fits address
      fits-each address r s = λ p stands.
          fit_of p (one-version p (is-still starts publishers f.servers address p stands)) options.max_body address
          (read-at publishers q starts some apart honest f.starts_are f.patterns (first_versions publishers) serve-first address r p 1 stands (has-first publishers starts address p stands)) (s p stands)

      first-fits : AllByRecursion Fits (first_addresses publishers q starts)
      first-fits = all_both (IsReadByOne (servers_of publishers (first_versions publishers))) IsSmall Fits fits-each (first_addresses publishers q starts)
          (all-read publishers q starts some apart honest f.starts_are f.patterns (first_versions publishers) serve-first) f.small

      pub plan-fits : PlanFits (servers_offer publishers q starts) options more
      plan-fits = record {
        fit = λ versions are. subst (λ (l : List ℕ). AllByRecursion Fits (joint_addresses publishers q starts l)) (one-choice starts publishers versions f.servers are) first-fits;
        within = λ versions are. subst (λ (l : List ℕ). length (joint_addresses publishers q starts l) + more ≤ options.budget) (one-choice starts publishers versions f.servers are) f.within;
      }
