-- What honest servers have together, over the versions that their start pages told.
use Rattle.std.proofs.Common.{ℕ, suc, ◌≡◌, ◌≤◌, ◌++◌, ◌&&◌, Bool, true, false, if◌then◌else◌, List, [], ◌∷◌, map, length, Option, Some, refl, sym, ap, subst, ◌∙◌, ⊎_elim, arith}
use Rattle.std.specs.Str.{bytes_eq}
use Rattle.std.specs.List.{All, AllByRecursion, AllZip, Contains, flat_map}
use Rattle.std.proofs.lemmas.Bool.{and_from, le-leb}
use Rattle.std.proofs.lemmas.Slice.Eq.{bytes_eq-Decides}
use Rattle.std.proofs.lemmas.List.Elements.{All-nil, All-cons, All-head, All-tail}
use Rattle.list_laws.proofs.Each.{all_front, all_back}
use Rattle.list_laws.proofs.Members.{head_or_tail, none_in}
use Rattle.rdf_terms.specs.declared.term.Triple.{Triple}
use Rattle.rdf_terms.specs.Selections.{Selection}
use Rattle.tpf_base.specs.Addresses.{Address, authority_of}
use Rattle.tpf_base.specs.Links.{WireState}
use Rattle.tpf_base.specs.Marks.{Served, version_at}
use Rattle.http_wire.specs.declared.message.Reply.{Reply}
use Rattle.template_fill.specs.Answered.{is_answered}
use Rattle.template_fill.specs.Authorities.{ShareAuthority, address_of_page}
use Rattle.template_fill.specs.Bodies.{version_of}
use Rattle.template_fill.specs.Metadata.{Config}
use Rattle.template_fill.specs.Templates.{Template}
use Rattle.fragment_page.specs.declared.page.Page.{Page}
use Rattle.control_reader.specs.Takes.{Takes}
use Rattle.control_laws.specs.Law.{IsServerForm}
use Rattle.request_pool.specs.Pools.{Ask}
use Rattle.pool_laws.specs.Answers.{IsBodyOf}
use Rattle.request_plan.specs.Blocks.{IsBlockSize, is_askable}
use Rattle.request_plan.specs.Rounds.{AreFirst}
use Rattle.request_plan.specs.Worlds.{World, IsWorld, IsOneServer, IsPageAt}
use Rattle.plan_laws.proofs.Servers.{one-address}
use Rattle.plan_laws.specs.JointWorlds.{addresses_at}
use Rattle.plan_laws.specs.Servers.{asked_at, server_world}
use Rattle.joint_pages.specs.Truths.{IsPageOfAll}
use Rattle.tpf_client.specs.Traffic.{PoolEvent, Came}
use Rattle.tpf_client.specs.Told.{told_at}
use Rattle.tpf_client.specs.Starts.{start_ask, ReadsStart, ReadsStarts, forms_of, versions_of}
use Rattle.tpf_client.specs.Offers.{Publisher, IsVersionOf, AreVersions, is_served, are_served, worlds_of}
use Rattle.tpf_client.specs.Ends.{AnswersAs}
use Rattle.tpf_client.specs.Honest.{Laws}
use Rattle.tpf_client.proofs.Came.{at-last}
use Rattle.tpf_client.proofs.Honesty.{IsAnswerOfAny, IsAnyAnswer}
use Rattle.tpf_client.proofs.Told.{first-so, other-so}
use Rattle.tpf_client.proofs.Truth.{reads, true-page, start-served}
use Rattle.federated_query.specs.Servers.{AreApart}
use Rattle.federated_query.proofs.Standing.{same-authority, at-share}
use Rattle.federated_query.proofs.Numbers.{is-here, not-here, is-behind, apart-from}

is-served : (p : Publisher) (start : Address) (version : ℕ) → (is_answered p.history (Served version) p.config start && bytes_eq (authority_of start) (authority_of p.config.base)) ≡ true → is_served p start version ≡ true
unfolding is_served
is-served p start version e = e

-- ---- pages of other servers

page-authority : (base : Address) (s : Selection) (k : ℕ) (address : Address) → address ≡ address_of_page base s k → authority_of base ≡ authority_of address
unfolding address_of_page
page-authority base s k address e = sym (ap (λ (a : Address). authority_of a) e)

-- a server has nothing at an address of another authority
elsewhere : (triples : List Triple) (config : Config) (address : Address) (page : Page) → (authority_of config.base ≡ authority_of address → ⊥) → IsPageAt (server_world 1 triples config) address page
elsewhere triples config address page apart = record {
  stands = λ s k valid ask at below. absurd (apart (page-authority config.base (asked_at config.rows (suc k) s) (suc k) address (one-address address (address_of_page config.base (asked_at config.rows (suc k) s) (suc k)) at)));
}

-- those behind a start have another authority than its addresses
apart-all : (start address : Address) (starts : List Address) → All (λ other. authority_of start ≡ authority_of other → ⊥) starts → ShareAuthority start address → All (λ other. authority_of other ≡ authority_of address → ⊥) starts
apart-all start address [] apart own = All-nil (λ other. authority_of other ≡ authority_of address → ⊥)
apart-all start address (x ∷ xs) apart own =
    All-cons (λ other. authority_of other ≡ authority_of address → ⊥) x xs
    (λ e. All-head (λ other. authority_of start ≡ authority_of other → ⊥) x xs apart (same-authority start address own ∙ sym e))
    (apart-all start address xs (All-tail (λ other. authority_of start ≡ authority_of other → ⊥) x xs apart) own)

-- the version is that of a start behind
skip-so : (start home : Address) (starts : List Address) (version : Option ℕ) (versions : List (Option ℕ)) (address : Address) → Contains starts home → bytes_eq (authority_of start) (authority_of address) ≡ false
    → told_at (start ∷ starts) (version ∷ versions) address ≡ told_at starts versions address
skip-so start home [] version versions address m e = absurd (none_in home m)
skip-so start home (next ∷ starts) version versions address m e = other-so start next starts version versions address e

-- one row at a time
one-row : IsBlockSize 1
one-row = (omega arith, omega arith)

-- ---- the servers, start by start

module _ (laws : Laws) (allows : List ℕ → ℕ → List ℕ → List ℕ → Type 0) (wire : WireState) where
  -- the version of the server that the start page is of, which is served there
  record ServesStart (p : Publisher) (start : Address) (page : Page) : Type 0 where
    version : ℕ
    is_version : IsVersionOf p.history version
    told : page.version ≡ Some version
    form : IsServerForm p.config.base page.form
    served : is_served p start version ≡ true
    base : ShareAuthority start p.config.base

  serves-start : (p : Publisher) (start : Address) (page : Page) (events : List PoolEvent) → AnswersAs allows wire start p → ReadsStart start page events → AllByRecursion (IsAnyAnswer allows) events → ServesStart p start page
  serves-start p start page events a s all =
      let came : IsAnswerOfAny allows (start_ask start) s.reply = at-last (IsAnyAnswer allows) (Came (start_ask start) s.reply) events s.last all in
      let b : IsBodyOf p.history p.config start s.reply.body = came.body p.history p.config a.is_honest in
      let r = reads laws.given laws.answered laws.only laws.worlds laws.forms laws.pages laws.kept laws.addresses p.history p.config a.is_history a.is_config start s.reply.body page b s.taken in
      let v = version_at b.mark in
      let k = start-served laws.given laws.answered laws.only laws.worlds laws.forms laws.pages laws.kept laws.addresses p.history p.config a.is_history a.is_config start s.reply.body page v b s.taken r.told in
      let at : page.form.template.start ≡ p.config.base = ap (λ (t : Template). t.start) r.form.template in
      let own : ShareAuthority start p.config.base = subst (λ (x : Address). ShareAuthority start x) at s.home in
      record {
        version = v;
        is_version = r.is_version;
        told = r.told;
        form = r.form;
        served = is-served p start v (and_from (is_answered p.history (Served v) p.config start) (bytes_eq (authority_of start) (authority_of p.config.base)) k.is_given
            ((bytes_eq-Decides (authority_of start) (authority_of p.config.base)).1 (same-authority start p.config.base own)));
        base = own;
      }

  -- What they have together: the versions; a world each; the first pages by the forms; and each page that came is true for all of them: for its server as that has it, and for the others since they have nothing at its address.
  pub record Together (publishers : List Publisher) (starts : List Address) (told : List Page) : Type 0 where
    pub versions : List ℕ
    pub are_versions : AreVersions publishers versions
    pub told_are : versions_of told ≡ map (λ n. Some n) versions
    pub served : are_served publishers starts versions ≡ true
    pub as_many : length starts ≡ length versions
    pub many_worlds : length (worlds_of publishers versions) ≡ length starts
    pub worlds : All IsWorld (worlds_of publishers versions)
    pub one : All IsOneServer (worlds_of publishers versions)
    pub forms : (s : Selection) → is_askable s ≡ true → AreFirst (forms_of told) s (flat_map (addresses_at s 1) (worlds_of publishers versions))
    pub others : (address : Address) (page : Page) → All (λ start. authority_of start ≡ authority_of address → ⊥) starts → IsPageOfAll (worlds_of publishers versions) address page
    pub pages : AreApart starts → (ask : Ask) (reply : Reply) → IsAnswerOfAny allows ask reply → (page : Page) → Takes reply.body ask.address page → (home : Address) → Contains starts home → ShareAuthority home ask.address
        → page.version ≡ told_at starts (versions_of told) ask.address → IsPageOfAll (worlds_of publishers versions) ask.address page

  none-together : Together [] [] []
  none-together = record {
    versions = [];
    are_versions = tt;
    told_are = refl;
    served = refl;
    as_many = refl;
    many_worlds = refl;
    worlds = All-nil IsWorld;
    one = All-nil IsOneServer;
    forms = λ s ask. tt;
    others = λ address page apart. All-nil (λ w. IsPageAt w address page);
    pages = λ apart ask reply any page takes home m own e. absurd (none_in home m);
  }

  module _ (p : Publisher) (start : Address) (page : Page) (publishers : List Publisher) (starts : List Address) (told : List Page) (a : AnswersAs allows wire start p) (s : ServesStart p start page) (r : Together publishers starts told) where
    abbrev own-world : World
    own-world = server_world 1 (version_of p.history s.version) p.config

    abbrev worlds-behind : List World
    worlds-behind = worlds_of publishers r.versions

    is-world : IsWorld own-world
    is-world = laws.worlds 1 p.history s.version p.config one-row.0 one-row.1 a.is_history a.is_config (a.few s.version)

    first-pages : (asked : Selection) → is_askable asked ≡ true → AreFirst (page.form ∷ forms_of told) asked (addresses_at asked 1 own-world ++ flat_map (addresses_at asked 1) worlds-behind)
    first-pages asked ask =
        let form = laws.forms 1 (version_of p.history s.version) p.config page.form a.is_config s.form in
        let first = form.forms.first asked ask in
        let has : 1 ≤ own-world.last asked = (let some = is-world.some asked in omega (arith, some)) in
        subst (λ (b : Bool). AreFirst (page.form ∷ forms_of told) asked ((if b then address_of_page p.config.base asked 1 ∷ [] else []) ++ flat_map (addresses_at asked 1) worlds-behind)) (sym (le-leb 1 (own-world.last asked) has))
        (first.addresses.0, r.forms asked ask)

    -- its base has the authority of its start
    not-of : (address : Address) → (authority_of start ≡ authority_of address → ⊥) → authority_of p.config.base ≡ authority_of address → ⊥
    not-of address apart e = apart (same-authority start p.config.base s.base ∙ e)

    none-there : (address : Address) (page' : Page) → All (λ x. authority_of x ≡ authority_of address → ⊥) (start ∷ starts) → IsPageOfAll (own-world ∷ worlds-behind) address page'
    none-there address page' apart =
        All-cons (λ w. IsPageAt w address page') own-world worlds-behind
        (elsewhere (version_of p.history s.version) p.config address page' (not-of address (All-head (λ x. authority_of x ≡ authority_of address → ⊥) start starts apart)))
        (r.others address page' (All-tail (λ x. authority_of x ≡ authority_of address → ⊥) start starts apart))

    abbrev versions-told : List (Option ℕ)
    versions-told = page.version ∷ versions_of told

    module _ (apart : AreApart (start ∷ starts)) (ask : Ask) (reply : Reply) (any : IsAnswerOfAny allows ask reply) (came : Page) (takes : Takes reply.body ask.address came) (e : came.version ≡ told_at (start ∷ starts) versions-told ask.address) where
      -- the page is of this server
      own-page : ShareAuthority start ask.address → IsPageOfAll (own-world ∷ worlds-behind) ask.address came
      own-page own =
          let v-is : came.version ≡ Some s.version = e ∙ (first-so start starts page.version (versions_of told) ask.address (is-here start ask.address own) ∙ s.told) in
          let there = at-share allows wire start ask.address p own a in
          let b : IsBodyOf p.history p.config ask.address reply.body = any.body p.history p.config there.is_honest in
          All-cons (λ w. IsPageAt w ask.address came) own-world worlds-behind
          (true-page laws.given laws.answered laws.only laws.worlds laws.forms laws.pages laws.kept laws.addresses p.history p.config a.is_history a.is_config 1 one-row s.version ask.address reply.body came b takes v-is)
          (r.others ask.address came (apart-all start ask.address starts apart.0 own))

      -- it is of one behind
      page-behind : (home : Address) → Contains starts home → ShareAuthority home ask.address → IsPageOfAll (own-world ∷ worlds-behind) ask.address came
      page-behind home m own =
          let other = apart-from start starts home apart.0 m in
          let skip : told_at (start ∷ starts) versions-told ask.address ≡ told_at starts (versions_of told) ask.address = skip-so start home starts page.version (versions_of told) ask.address m (is-behind start home ask.address other own) in
          All-cons (λ w. IsPageAt w ask.address came) own-world worlds-behind
          (elsewhere (version_of p.history s.version) p.config ask.address came (not-of ask.address (not-here start home ask.address other own)))
          (r.pages apart.1 ask reply any came takes home m own (e ∙ skip))

      all-pages : (home : Address) → Contains (start ∷ starts) home → ShareAuthority home ask.address → IsPageOfAll (own-world ∷ worlds-behind) ask.address came
      all-pages home m own =
          ⊎_elim (λ (f : start ≡ home). own-page (subst (λ (x : Address). ShareAuthority x ask.address) (sym f) own)) (λ (n : Contains starts home). page-behind home n own) (head_or_tail start home starts m)

    one-more : Together (p ∷ publishers) (start ∷ starts) (page ∷ told)
    one-more = record {
      versions = s.version ∷ r.versions;
      are_versions = (s.is_version, r.are_versions);
      told_are = ap (λ (o : Option ℕ). o ∷ versions_of told) s.told ∙ ap (λ (l : List (Option ℕ)). Some s.version ∷ l) r.told_are;
      served = and_from (is_served p start s.version) (are_served publishers starts r.versions) s.served r.served;
      as_many = ap (λ (n : ℕ). suc n) r.as_many;
      many_worlds = ap (λ (n : ℕ). suc n) r.many_worlds;
      worlds = All-cons IsWorld own-world worlds-behind is-world r.worlds;
      one = All-cons IsOneServer own-world worlds-behind (laws.forms 1 (version_of p.history s.version) p.config page.form a.is_config s.form).one r.one;
      forms = first-pages;
      others = none-there;
      pages = λ apart ask reply any came takes home m own e. all-pages apart ask reply any came takes e home m own;
    }

  pub together : (publishers : List Publisher) (starts : List Address) (told : List Page) (events : List PoolEvent) → AllZip (AnswersAs allows wire) starts publishers → ReadsStarts starts told events → AllByRecursion (IsAnyAnswer allows) events → Together publishers starts told
  together [] [] [] events a r all = none-together
  together [] [] (page ∷ told) events a r all = absurd r
  together [] (start ∷ starts) told events a r all = absurd a
  together (p ∷ publishers) [] told events a r all = absurd a
  together (p ∷ publishers) (start ∷ starts) [] events a r all = absurd r
  together (p ∷ publishers) (start ∷ starts) (page ∷ told) events a r all =
      let here = subst (λ (l : List PoolEvent). AllByRecursion (IsAnyAnswer allows) l) r.2 all in
      one-more p start page publishers starts told a.0 (serves-start p start page r.0 a.0 r.3 (all_front (IsAnyAnswer allows) r.0 r.1 here)) (together publishers starts told r.1 a.1 r.4 (all_back (IsAnyAnswer allows) r.0 r.1 here))
