-- What the calls for blocks did by the plans of these, said of the plan of all.
use Rattle.std.proofs.Common.{ℕ, ◌≡◌, ◌≤◌, ◌<◌, ◌+◌, ◌-◌, ◌*◌, ◌++◌, true, List, [], ◌∷◌, length, Option, Some, refl, sym, ap, subst, ◌∙◌, arith, append_assoc}
use Rattle.std.specs.Prelude.{Result, Ok}
use Rattle.std.specs.List.{AllByRecursion}
use Rattle.std.proofs.Math.Nat.{mul-le-mul_left}
use Rattle.list_laws.proofs.Options.{one_value}
use Rattle.tpf_base.specs.Addresses.{Address}
use Rattle.tpf_base.specs.Links.{WireState}
use Rattle.bgp_core.specs.declared.pattern.Pattern.{Pattern}
use Rattle.group_query.specs.Trees.{block_query}
use Rattle.tpf_client.specs.declared.options.Options.{Options}
use Rattle.tpf_client.specs.declared.options.Report.{Report}
use Rattle.tpf_client.specs.declared.fault.ClientFault.{ClientFault}
use Rattle.tpf_client.specs.Honest.{IsHonestWire}
use Rattle.tpf_client.specs.Offers.{Publisher, IsVersionOf, addresses_of}
use Rattle.tpf_client.specs.Ends.{server_ends}
use Rattle.tpf_client.specs.Requests.{DialsAtMost, tries_of}
use Rattle.tpf_client.specs.Acts.{ActsByPlan}
use Rattle.tpf_client.specs.Failing.{Spends}
use Rattle.group_patterns.specs.Blocks.{BlockRows, requests_of, with_budget, GivesAll}
use Rattle.group_patterns.specs.Plans.{TellFirst, plans_over}
use Rattle.group_patterns.proofs.Parts.{RequestedFor, DoneFor, PacesOf, RepliedFor, AnsweredFor, done-nothing, answered-nothing, spends-nothing, done-both, answers-both, spends-both}
use Rattle.group_patterns.proofs.Wires.{row-onward, chain-onward, honest-then}

-- ---- plans

pub same-versions : (p : Publisher) (version : ℕ) → IsVersionOf p.history version → (pss : List (List Pattern)) → (ws : List ℕ) × AllByRecursion (IsVersionOf p.history) ws × (length ws ≡ length pss)
same-versions p version is [] = ([], tt, refl)
same-versions p version is (ps ∷ pss) = let r = same-versions p version is pss in (version ∷ r.0, (is, r.1), let e = r.2 in omega (arith, e))

-- the plans of some blocks, and of those behind them
pub plans-append : (p : Publisher) (start : Address) (names : List (List ℕ)) (asked more : List (List Pattern)) (versions later : List ℕ) → length versions ≡ length asked
    → plans_over p start names (asked ++ more) (versions ++ later) ≡ plans_over p start names asked versions ++ plans_over p start names more later
plans-append p start names [] more [] later e = refl
plans-append p start names [] more (v ∷ versions) later e = absurd (omega (arith, e))
plans-append p start names (ps ∷ asked) more [] later e = absurd (omega (arith, e))
plans-append p start names (ps ∷ asked) more (v ∷ versions) later e =
    let own = addresses_of p (block_query names ps) start v in
    ap (λ (l : List Address). own ++ l) (plans-append p start names asked more versions later (omega (arith, e)))
    ∙ sym (append_assoc own (plans_over p start names asked versions) (plans_over p start names more later))

-- where there is a block there is something to ask for
pub some-tries : (r n : ℕ) → 1 ≤ n → 0 < (r + 1) * n
some-tries r n l = let a = mul-le-mul_left (r + 1) l in omega (arith, a)

-- ---- a block

module _ (p : Publisher) (allows : List ℕ → ℕ → List ℕ → List ℕ → Type 0) (options : Options) (start : Address) (names : List (List ℕ)) (ps : List Pattern) (left : ℕ) (u v : WireState) (honest : IsHonestWire allows start p.history p.config u) (Started : ℕ → Type 0) where
  abbrev plan-at : ℕ → List Address
  plan-at version = addresses_of p (block_query names ps) start version

  module _ (r : Result Report ClientFault) (acts : ActsByPlan allows (server_ends (block_query names ps) start) Started (with_budget options left) r (λ report. report) u v) where
    -- the version over which the block was asked
    abbrev pub version-asked : ℕ
    version-asked = (acts.asked p honest).choice

    pub is-version-asked : IsVersionOf p.history version-asked
    is-version-asked = (acts.asked p honest).is_choice

    requested-here : RequestedFor options (plan-at version-asked) u v
    requested-here =
        let q = acts.requested p honest in
        subst (λ (n : ℕ). RequestedFor options (plan-at n) u v) (acts.one_plan p honest).requested_is (record { on = q.requests.on; told = q.requests.told; few = q.requests.few; rises = q.rises })

    pub block-done : DoneFor options (plan-at version-asked) u v
    block-done =
        let a = acts.asked p honest in
        record {
          asked = a.asked;
          rest = a.rest;
          plan_is = a.plan_is;
          sent = a.sent;
          requested = requested-here;
          tries = subst (λ (n : ℕ). DialsAtMost (tries_of options (plan-at n)) u v) (acts.one_plan p honest).planned_is (acts.planned p honest).few;
        }

  module _ (report : Report) (acts : ActsByPlan allows (server_ends (block_query names ps) start) Started (with_budget options left) (Ok report) (λ told. told) u v) where
    abbrev version-told : ℕ
    version-told = version-asked (Ok report) acts

    pub is-told : report.version ≡ Some version-told
    is-told = acts.is_told p honest

    -- what tells the same version is said of this one
    same-told : (version : ℕ) → report.version ≡ Some version → version ≡ version-told
    same-told version told = one_value report.version told is-told

    replied-here : RepliedFor options (plan-at version-told) u v
    replied-here =
        let q = acts.replied p honest in
        subst (λ (n : ℕ). RepliedFor options (plan-at n) u v) (same-told q.choice q.is_reported)
        (record { on = q.requests.on; told = q.requests.told; few = q.requests.few; answered = q.answered; exact = q.exact })

    paces-here : u.nature.lively ≡ true → PacesOf (length (plan-at version-told)) report.requests u v
    paces-here alive =
        let q = acts.paced p honest alive in
        subst (λ (n : ℕ). PacesOf (length (plan-at n)) report.requests u v) (same-told q.choice q.is_reported) (record { rises = q.rises; rose = q.rose; few = q.few; exact = q.exact })

    pub block-answered : AnsweredFor options (plan-at version-told) report.requests u v
    block-answered =
        let q = acts.requests p honest in
        let same = same-told q.choice q.is_reported in
        record {
          replied = replied-here;
          each = subst (λ (n : ℕ). length (plan-at n) ≤ report.requests) same q.each;
          most = subst (λ (n : ℕ). report.requests ≤ tries_of options (plan-at n)) same q.few;
          paced = paces-here;
        }

-- ---- blocks that gave their rows

-- each of these blocks told its version
abbrev pub TellEach : List BlockRows → List ℕ → Type 0
TellEach [] [] = Unit {0}
TellEach [] (v ∷ vs) = ⊥
TellEach (b ∷ bs) [] = ⊥
TellEach (b ∷ bs) (v ∷ vs) = (b.report.version ≡ Some v) × TellEach bs vs

-- then they told the first of these and of those behind them
pub tell-first : (bs : List BlockRows) (vs later : List ℕ) → TellEach bs vs → TellFirst bs (vs ++ later)
tell-first [] vs later t = tt
tell-first (b ∷ bs) [] later t = absurd t
tell-first (b ∷ bs) (v ∷ vs) later t = (t.0, tell-first bs vs later t.1)

-- where they told one version, it is each of these
pub told-by-all : (told : Option ℕ) (bs : List BlockRows) (vs : List ℕ) → TellEach bs vs → AllByRecursion (λ b. b.report.version ≡ told) bs → AllByRecursion (λ version. told ≡ Some version) vs
told-by-all told [] [] t one = tt
told-by-all told [] (v ∷ vs) t one = absurd t
told-by-all told (b ∷ bs) [] t one = absurd t
told-by-all told (b ∷ bs) (v ∷ vs) t one = (sym one.0 ∙ t.0, told-by-all told bs vs t.1 one.1)

module _ (p : Publisher) (allows : List ℕ → ℕ → List ℕ → List ℕ → Type 0) (options : Options) (start : Address) (names : List (List ℕ)) where
  -- what blocks that gave their rows did, each over a version of its own
  pub record ChainDone (pss : List (List Pattern)) (bs : List BlockRows) (u w : WireState) : Type 0 where
    pub versions : List ℕ
    pub each : AllByRecursion (IsVersionOf p.history) versions
    pub count : length versions ≡ length pss
    pub told : TellEach bs versions
    pub done : DoneFor options (plans_over p start names pss versions) u w
    pub answered : AnsweredFor options (plans_over p start names pss versions) (requests_of bs) u w

  none-done : (u : WireState) → ChainDone [] [] u u
  none-done u = record { versions = []; each = tt; count = refl; told = tt; done = done-nothing options [] u; answered = answered-nothing options u }

  pub chain-done : (left : ℕ) (pss : List (List Pattern)) (bs : List BlockRows) (u w : WireState) → GivesAll allows options start names left pss bs u w → IsHonestWire allows start p.history p.config u → ChainDone pss bs u w
  chain-done left [] [] u w g honest = subst (λ (x : WireState). ChainDone [] [] u x) (sym g) (none-done u)
  chain-done left [] (b ∷ bs) u w g honest = absurd g
  chain-done left (ps ∷ pss) [] u w g honest = absurd g
  chain-done left (ps ∷ pss) (b ∷ bs) u w g honest =
      let acts = g.1.acts.plan in
      let on = row-onward allows options start names (block_query names ps) (with_budget options left) b u g.0 g.1 in
      let further = chain-onward allows options start names (left - b.report.requests) pss bs g.0 w g.2 in
      let more = chain-done (left - b.report.requests) pss bs g.0 w g.2 (honest-then allows start p.history p.config u g.0 on.moves honest) in
      let version = version-asked p allows options start names ps left u g.0 honest _ (Ok b.report) acts in
      let own = addresses_of p (block_query names ps) start version in
      let rest = plans_over p start names pss more.versions in
      record {
        versions = version ∷ more.versions;
        each = (is-version-asked p allows options start names ps left u g.0 honest _ (Ok b.report) acts, more.each);
        count = let e = more.count in omega (arith, e);
        told = (is-told p allows options start names ps left u g.0 honest _ b.report acts, more.told);
        done = done-both start b.report.requests (requests_of bs) u g.0 w on further options own rest (block-done p allows options start names ps left u g.0 honest _ (Ok b.report) acts) more.done;
        answered = answers-both start b.report.requests (requests_of bs) u g.0 w on further options own rest b.report.requests (requests_of bs) (block-answered p allows options start names ps left u g.0 honest _ b.report acts) more.answered;
      }

-- ---- whatever the other ends answer

module _ (allows : List ℕ → ℕ → List ℕ → List ℕ → Type 0) (options : Options) (start : Address) (names : List (List ℕ)) where
  -- their requests were paid for
  pub chain-paid : (left : ℕ) (pss : List (List Pattern)) (bs : List BlockRows) (u w : WireState) → GivesAll allows options start names left pss bs u w → Spends options.max_body (requests_of bs) u w
  chain-paid left [] [] u w g = subst (λ (x : WireState). Spends options.max_body 0 u x) (sym g) (spends-nothing options.max_body u)
  chain-paid left [] (b ∷ bs) u w g = absurd g
  chain-paid left (ps ∷ pss) [] u w g = absurd g
  chain-paid left (ps ∷ pss) (b ∷ bs) u w g =
      let on = row-onward allows options start names (block_query names ps) (with_budget options left) b u g.0 g.1 in
      let further = chain-onward allows options start names (left - b.report.requests) pss bs g.0 w g.2 in
      spends-both start b.report.requests (requests_of bs) u g.0 w on further options.max_body b.report.requests (requests_of bs) g.1.acts.paid (chain-paid (left - b.report.requests) pss bs g.0 w g.2)
