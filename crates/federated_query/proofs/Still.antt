-- Where each server answers over one version, the call is covered by these versions alone.
use Rattle.std.proofs.Common.{ℕ, ◌≡◌, ◌<◌, ◌^◌, ◌++◌, inl, inr, true, List, [], ◌∷◌, map, length, Option, Some, refl, sym, ap, subst, ◌∙◌, ⊎_elim}
use Rattle.std.specs.Prelude.{Result, IfErr, IsErrOf}
use Rattle.std.specs.List.{AllByRecursion, Contains}
use Rattle.std.proofs.lemmas.Bool.{eqb-true}
use Rattle.list_laws.proofs.Each.{all_front, all_back}
use Rattle.list_laws.proofs.Members.{head_or_tail, none_in}
use Rattle.tpf_base.specs.Addresses.{Address}
use Rattle.tpf_base.specs.Links.{WireState}
use Rattle.tpf_base.specs.Marks.{version_at}
use Rattle.template_fill.specs.Authorities.{ShareAuthority}
use Rattle.template_fill.specs.Configurations.{VersionsAreValid}
use Rattle.fragment_page.specs.declared.page.Page.{Page}
use Rattle.bgp_core.specs.Queries.{QueryData}
use Rattle.request_pool.specs.Pools.{Pooled}
use Rattle.pool_laws.specs.Answers.{IsBodyOver}
use Rattle.request_plan.specs.Evaluations.{HasHome}
use Rattle.tpf_client.specs.declared.options.Options.{Options}
use Rattle.tpf_client.specs.declared.fault.ClientFault.{ClientFault}
use Rattle.tpf_client.specs.declared.fault.ClientFault.TheVariants as faults
use Rattle.tpf_client.specs.Traffic.{PoolEvent, Came, IsLawful}
use Rattle.tpf_client.specs.Turns.{AsksAt}
use Rattle.tpf_client.specs.Starts.{start_ask, ReadsStarts, versions_of}
use Rattle.tpf_client.specs.Calls.{RunsPool, WritesSome, Happened, AreThese}
use Rattle.tpf_client.specs.Offers.{Publisher, Offer, StandsAmong, HasAmong, AreVersions, servers_offer}
use Rattle.tpf_client.specs.Ends.{AreHonestServers}
use Rattle.tpf_client.specs.Honest.{Laws}
use Rattle.tpf_client.specs.Requests.{TrafficLaws}
use Rattle.tpf_client.specs.Plans.{RisesFew, ChoiceFits}
use Rattle.tpf_client.specs.Still.{only, AnswersOver, AnswerStill, IsWant}
use Rattle.tpf_client.proofs.Came.{at-last}
use Rattle.tpf_client.proofs.Covered.{ChoiceBehind, StandsThere, Covered}
use Rattle.tpf_client.proofs.Honesty.{IsAnswerOfAny, IsAnyAnswer, over-share, any-over}
use Rattle.tpf_client.proofs.Planned.{ExplainedRun, some-explained}
use Rattle.tpf_client.proofs.Shutting.{if-err-from}
use Rattle.tpf_client.proofs.Still.{ServesOnly, wants}
use Rattle.tpf_client.proofs.Truth.{reads}
use Rattle.federated_query.specs.Servers.{AreApart, joint_sources}
use Rattle.federated_query.proofs.Standing.{all-told, none-has, servers-number}
use Rattle.federated_query.proofs.Covering.{any-of, begins-with, choice-behind, told-choice}

-- ---- the versions

are-versions : (allows : List ℕ → ℕ → List ℕ → List ℕ → Type 0) (starts : List Address) (publishers : List Publisher) (versions : List ℕ) → AnswerStill allows starts publishers versions → AreVersions publishers versions
are-versions allows [] [] [] s = tt
are-versions allows [] [] (version ∷ versions) s = absurd s
are-versions allows [] (p ∷ publishers) versions s = absurd s
are-versions allows (start ∷ starts) [] versions s = absurd s
are-versions allows (start ∷ starts) (p ∷ publishers) [] s = absurd s
are-versions allows (start ∷ starts) (p ∷ publishers) (version ∷ versions) s = (s.0.is_version, are-versions allows starts publishers versions s.1)

some-same : (xs ys : List ℕ) → map (λ n. Some n) xs ≡ map (λ n. Some n) ys → xs ≡ ys
some-same [] [] e = refl
some-same [] (y ∷ ys) e = cc
some-same (x ∷ xs) [] e = cc
some-same (x ∷ xs) (y ∷ ys) e =
    let first : x ≡ y = cc in
    let rest : map (λ n. Some n) xs ≡ map (λ n. Some n) ys = cc in
    both x y xs ys first (some-same xs ys rest)
  where
    both : (a b : ℕ) (more others : List ℕ) → a ≡ b → more ≡ others → a ∷ more ≡ b ∷ others
    both a b more others e f = cc

-- the start pages told them
told-still : Laws → (allows : List ℕ → ℕ → List ℕ → List ℕ → Type 0) (starts : List Address) (publishers : List Publisher) (versions : List ℕ) (told : List Page) (events : List PoolEvent) → AnswerStill allows starts publishers versions → ReadsStarts starts told events → AllByRecursion (IsAnyAnswer allows) events
    → versions_of told ≡ map (λ n. Some n) versions
told-still laws allows [] [] [] [] events s r all = refl
told-still laws allows [] [] [] (page ∷ told) events s r all = absurd r
told-still laws allows [] [] (version ∷ versions) told events s r all = absurd s
told-still laws allows [] (p ∷ publishers) versions told events s r all = absurd s
told-still laws allows (start ∷ starts) [] versions told events s r all = absurd s
told-still laws allows (start ∷ starts) (p ∷ publishers) [] told events s r all = absurd s
told-still laws allows (start ∷ starts) (p ∷ publishers) (version ∷ versions) [] events s r all = absurd r
told-still laws allows (start ∷ starts) (p ∷ publishers) (version ∷ versions) (page ∷ told) events s r all =
    let here = subst (λ (l : List PoolEvent). AllByRecursion (IsAnyAnswer allows) l) r.2 all in
    let came : IsAnswerOfAny allows (start_ask start) r.3.reply = at-last (IsAnyAnswer allows) (Came (start_ask start) r.3.reply) r.0 r.3.last (all_front (IsAnyAnswer allows) r.0 r.1 here) in
    let b : IsBodyOver p.history p.config (only version) start r.3.reply.body = came.over p.history p.config (only version) s.0.is_honest in
    let read = reads laws.given laws.answered laws.only laws.worlds laws.forms laws.pages laws.kept laws.addresses p.history p.config s.0.is_history s.0.is_config start r.3.reply.body page b.is_body r.3.taken in
    let first : page.version ≡ Some version = read.told ∙ ap (λ (n : ℕ). let o : Option ℕ = Some n in o) (eqb-true (version_at b.is_body.mark) version b.is_served) in
    ap (λ (o : Option ℕ). o ∷ versions_of told) first
    ∙ ap (λ (l : List (Option ℕ)). Some version ∷ l) (told-still laws allows starts publishers versions told r.1 s.1 r.4 (all_back (IsAnyAnswer allows) r.0 r.1 here))

-- ---- the servers

-- a server that stands at an address, the version that is its own there, over which it answers
record StandsStill (allows : List ℕ → ℕ → List ℕ → List ℕ → Type 0) (publishers : List Publisher) (starts : List Address) (versions : List ℕ) (address : Address) : Type 0 where
  server : Publisher
  stands : StandsAmong publishers starts address server
  version : ℕ
  has : HasAmong starts versions address version
  answers : AnswersOver allows address server version

share-still : (allows : List ℕ → ℕ → List ℕ → List ℕ → Type 0) (start address : Address) (p : Publisher) (version : ℕ) → ShareAuthority start address → AnswersOver allows start p version → AnswersOver allows address p version
share-still allows start address p version s a = record {
  is_history = a.is_history;
  is_config = a.is_config;
  is_version = a.is_version;
  few = a.few;
  is_honest = over-share allows p.history p.config (only version) start address s a.is_honest;
}

stand-still : (allows : List ℕ → ℕ → List ℕ → List ℕ → Type 0) (starts : List Address) (publishers : List Publisher) (versions : List ℕ) → AnswerStill allows starts publishers versions → (home address : Address) → Contains starts home → ShareAuthority home address
    → StandsStill allows publishers starts versions address
stand-still allows [] publishers versions s home address c own = absurd (none_in home c)
stand-still allows (start ∷ starts) [] versions s home address c own = absurd s
stand-still allows (start ∷ starts) (p ∷ publishers) [] s home address c own = absurd s
stand-still allows (start ∷ starts) (p ∷ publishers) (version ∷ versions) s home address c own =
    ⊎_elim
    (λ (e : start ≡ home). let here : ShareAuthority start address = subst (λ (x : Address). ShareAuthority x address) (sym e) own in let r : StandsStill allows (p ∷ publishers) (start ∷ starts) (version ∷ versions) address = record { server = p; stands = inl (here, refl); version = version; has = inl (here, refl); answers = share-still allows start address p version here s.0 } in r)
    (λ (m : Contains starts home). let b = stand-still allows starts publishers versions s.1 home address m own in let r : StandsStill allows (p ∷ publishers) (start ∷ starts) (version ∷ versions) address = record { server = b.server; stands = inr b.stands; version = b.version; has = inr b.has; answers = b.answers } in r)
    (head_or_tail start home starts c)

-- a choice has one version at an address
one-has : (starts : List Address) (versions : List ℕ) (address : Address) (a b : ℕ) → AreApart starts → HasAmong starts versions address a → HasAmong starts versions address b → a ≡ b
one-has [] versions address a b apart h k = absurd h
one-has (start ∷ starts) [] address a b apart h k = absurd h
one-has (start ∷ starts) (version ∷ versions) address a b apart (inl h) (inl k) = h.1 ∙ sym k.1
one-has (start ∷ starts) (version ∷ versions) address a b apart (inl h) (inr k) = absurd (none-has start starts versions address b apart.0 h.0 k)
one-has (start ∷ starts) (version ∷ versions) address a b apart (inr h) (inl k) = absurd (none-has start starts versions address a apart.0 k.0 h)
one-has (start ∷ starts) (version ∷ versions) address a b apart (inr h) (inr k) = one-has starts versions address a b apart.1 h k

module _ (laws : Laws) (traffic : TrafficLaws) (valid : VersionsAreValid) (allows : List ℕ → ℕ → List ℕ → List ℕ → Type 0) (options : Options) (since now : WireState) (lawful : IsLawful allows since) (limit : options.max_body < 2 ^ 64)
    (publishers : List Publisher) (starts : List Address) (some : 0 < length starts) (apart : AreApart starts) (honest : AreHonestServers allows starts publishers since) (q : QueryData) (versions : List ℕ) (still : AnswerStill allows starts publishers versions) where
  abbrev still-offer : Offer
  still-offer = record (servers_offer publishers q starts) { IsChoice = λ other. versions ≡ other }

  at-home : (address : Address) → HasHome starts address → StandsStill allows publishers starts versions address
  at-home address home = stand-still allows starts publishers versions still home.0 address home.1 home.2

  there : (address : Address) → HasHome starts address → StandsThere allows still-offer address
  there address home =
      let s = at-home address home in
      record {
        server = s.server;
        stands = s.stands;
        is_history = s.answers.is_history;
        is_config = s.answers.is_config;
        is_honest = any-over allows address.host address.port s.server.history s.server.config (only s.version) s.answers.is_honest;
        served = only s.version;
        is_over = s.answers.is_honest;
      }

  behind : (first later : List PoolEvent) (pool : Pooled) → RunsPool allows options since now (first ++ later) pool → AsksAt starts (first ++ later) → (told : List Page) (reads : ReadsStarts starts told first) → ChoiceBehind joint_sources still-offer q starts first later told reads
  behind first later pool r asks told reads =
      let c = choice-behind laws valid allows options since now lawful limit publishers starts some apart honest q first later pool r asks told reads in
      let any = all_front (IsAnyAnswer allows) first later (any-of laws valid allows options since now lawful limit publishers starts some apart honest q (first ++ later) pool r) in
      let mine = told-still laws allows starts publishers versions told first still reads any in
      let theirs = told-choice laws valid allows options since now lawful limit publishers starts some apart honest q first later pool r asks told reads in
      record {
        choice = c.choice;
        is_choice = some-same versions c.choice (sym mine ∙ theirs);
        versions = c.versions;
        tells = c.tells;
        is_reported = c.is_reported;
        has = c.has;
        source = c.source;
        is_source = c.is_source;
        rows = c.rows;
        addresses = c.addresses;
      }

  unfoldable still-covered : Covered joint_sources still-offer allows options since now starts q
  still-covered = record {
    tells = all-told allows since starts publishers some honest;
    first = versions;
    is_first = refl;
    begins = λ other e.
        let b = begins-with laws valid allows options since now lawful limit publishers starts some apart honest q other (subst (λ (l : List ℕ). AreVersions publishers l) e (are-versions allows starts publishers versions still)) in
        record { is_choice = e; versions = b.versions; has = b.has; rest = b.rest; addresses = b.addresses };
    behind = behind;
    stands = there;
    numbers = λ choice is address server version stands has.
        servers-number publishers starts choice address server version apart (subst (λ (l : List ℕ). AreVersions publishers l) is (are-versions allows starts publishers versions still)) stands has;
  }

  serves-only : ServesOnly laws traffic allows options since now lawful limit starts joint_sources still-offer q still-covered versions
  unfolding still-covered there
  serves-only = record {
    alone = λ other e. e;
    served = λ address own version is.
        subst (λ (n : ℕ). HasAmong starts versions address n) (sym (eqb-true version (at-home address own).version is)) (at-home address own).has;
    one = λ address own a b h k. one-has starts versions address a b apart h k;
  }

  pub still-wants : {A : Type 0} (h : Happened allows options starts since now) (result : Result A ClientFault) (t u : Option (List ℕ)) (alive : since.nature.lively ≡ true) (rise : ℕ) → RisesFew options rise since now → ChoiceFits (servers_offer publishers q starts) options rise versions
      → IfErr result (λ fault. WritesSome (AreThese h.events h.pool) joint_sources q starts options.budget fault t u) → (IsErrOf result faults.Sink → ⊥) → IfErr result IsWant
  still-wants h result t u alive rise few fits err sink =
      wants laws traffic allows options since now lawful limit starts joint_sources still-offer q still-covered rise few alive result versions serves-only (record { fit = fits.fit; within = fits.within })
      (if-err-from result (λ fault. WritesSome (AreThese h.events h.pool) joint_sources q starts options.budget fault t u) (λ fault. ExplainedRun allows still-offer options since now starts fault) err
      (λ fault w. some-explained allows joint_sources still-offer options since now starts q still-covered h fault t u w)) sink
