-- Over an honest wire the rows of the blocks are their solutions over one version.
use Rattle.std.proofs.Common.{ℕ, ◌≡◌, ◌-◌, ◌⊎◌, ◌++◌, inl, inr, List, [], ◌∷◌, Option, Some, None, refl, sym, ap, subst, ◌∙◌, arith, append-nil}
use Rattle.std.specs.List.{AllByRecursion}
use Rattle.std.specs.List.Sorted.{IsPermutation}
use Rattle.std.proofs.lemmas.List.Sorted.{IsPermutation-refl}
use Rattle.list_laws.proofs.Each.{all_so}
use Rattle.list_laws.proofs.Options.{one_value}
use Rattle.rdf_terms.specs.declared.term.Triple.{Triple}
use Rattle.tpf_base.specs.Addresses.{Address}
use Rattle.tpf_base.specs.Links.{WireState}
use Rattle.template_fill.specs.Metadata.{Config}
use Rattle.template_fill.specs.Bodies.{version_of}
use Rattle.bgp_core.specs.declared.pattern.Pattern.{Pattern}
use Rattle.bgp_core.specs.Solutions.{solutions}
use Rattle.result_json.specs.Results.{result_text}
use Rattle.group_query.specs.Trees.{GroupData, group_tree, blocks_of, block_query, shown_query}
use Rattle.group_rows.specs.Evaluation.{unbound, answers}
use Rattle.group_rows.specs.Gathering.{gathered_answers, AreSolutions, SolutionsSuffice}
use Rattle.tpf_client.specs.declared.options.Options.{Options}
use Rattle.tpf_client.specs.declared.options.Report.{Report}
use Rattle.tpf_client.specs.declared.fault.ClientFault.{ClientFault}
use Rattle.tpf_client.specs.Honest.{IsHonestWire}
use Rattle.tpf_client.specs.Offers.{IsVersionOf}
use Rattle.tpf_client.proofs.Texts.{same-written}
use Rattle.group_patterns.specs.Blocks.{BlockRows, rows_of, version_told, TellOneVersion, with_budget, GivesRows, GivesAll}
use Rattle.group_patterns.specs.Texts.{WritesGroup, WritesGroupPrefix, WritesGatheredFront, IsReported, WritesGroupAnswers, WritesGroupAnswersFront}
use Rattle.group_patterns.specs.Asking.{AsksAndWrites, AsksAndStops}
use Rattle.group_patterns.proofs.Wires.{row-onward, honest-then}

-- ---- any wire

pub group-written : (allows : List ℕ → ℕ → List ℕ → List ℕ → Type 0) (options : Options) (start : Address) (g : GroupData) (report : Report) (since now : WireState) (t u : Option (List ℕ))
    → AsksAndWrites allows options start g report since now t u → WritesGroup g report.rows t u
group-written allows options start g report since now t u w = record { rows = gathered_answers g (rows_of w.asks.done); text = w.writes.text; count = w.writes.count }

pub prefix-written : (allows : List ℕ → ℕ → List ℕ → List ℕ → Type 0) (options : Options) (start : Address) (g : GroupData) (fault : ClientFault) (since now : WireState) (t u : Option (List ℕ))
    → AsksAndStops allows options start g fault since now t u → WritesGroupPrefix g t u
prefix-written allows options start g fault since now t u w = by w.front
  where
    by : WritesGatheredFront g w.asks.done w.asks.rest t u → WritesGroupPrefix g t u
    by (inl e) = record { rows = []; text = same-written (result_text (shown_query g) []) t u e }
    by (inr p) = record { rows = gathered_answers g (rows_of w.asks.done); text = p.1 }

-- ---- an honest wire

-- the version that blocks saw, where there is one, and their solutions over it
pub record Known (history : List (List Triple)) (names : List (List ℕ)) (pss : List (List Pattern)) (bs : List BlockRows) : Type 0 where
  pub version : ℕ
  pub is_version : IsVersionOf history version
  pub told : (version_told bs ≡ Some version) ⊎ ((pss ≡ []) × (version_told bs ≡ None))
  pub are : AreSolutions (version_of history version) names pss (rows_of bs)

pub first-version : (allows : List ℕ → ℕ → List ℕ → List ℕ → Type 0) (start : Address) (history : List (List Triple)) (config : Config) (w : WireState) → IsHonestWire allows start history config w → IsVersionOf history 1
first-version allows start history config w honest = record { low = omega arith; high = honest.is_history.low }

module _ (allows : List ℕ → ℕ → List ℕ → List ℕ → Type 0) (options : Options) (start : Address) (names : List (List ℕ)) (history : List (List Triple)) (config : Config) where
  one-block : (left : ℕ) (ps : List Pattern) (b : BlockRows) (version : ℕ) (u v : WireState) → GivesRows allows (with_budget options left) start (block_query names ps) b u v → IsHonestWire allows start history config u
      → b.report.version ≡ Some version → IsPermutation (solutions (version_of history version) ps (unbound names)) b.rows
  one-block left ps b version u v g honest told =
      let s = g.solutions history config honest in
      subst (λ (n : ℕ). IsPermutation (solutions (version_of history n) ps (unbound names)) b.rows) (one_value b.report.version s.is_reported told) s.rows_are

  all-known : (left : ℕ) (pss : List (List Pattern)) (bs : List BlockRows) (version : ℕ) (u w : WireState) → GivesAll allows options start names left pss bs u w → IsHonestWire allows start history config u
      → AllByRecursion (λ (b : BlockRows). b.report.version ≡ Some version) bs → AreSolutions (version_of history version) names pss (rows_of bs)
  all-known left [] [] version u w g honest told = tt
  all-known left [] (b ∷ bs) version u w g honest told = absurd g
  all-known left (ps ∷ pss) [] version u w g honest told = absurd g
  all-known left (ps ∷ pss) (b ∷ bs) version u w g honest told =
      let on = row-onward allows options start names (block_query names ps) (with_budget options left) b u g.0 g.1 in
      (one-block left ps b version u g.0 g.1 honest told.0, all-known (left - b.report.requests) pss bs version g.0 w g.2 (honest-then allows start history config u g.0 on.moves honest) told.1)

  pub chain-known : (left : ℕ) (pss : List (List Pattern)) (bs : List BlockRows) (u w : WireState) → GivesAll allows options start names left pss bs u w → TellOneVersion bs → IsHonestWire allows start history config u → Known history names pss bs
  chain-known left [] [] u w g one honest = record { version = 1; is_version = first-version allows start history config u honest; told = inr (refl, refl); are = tt }
  chain-known left [] (b ∷ bs) u w g one honest = absurd g
  chain-known left (ps ∷ pss) [] u w g one honest = absurd g
  chain-known left (ps ∷ pss) (b ∷ bs) u w g one honest =
      let s = g.1.solutions history config honest in
      record {
        version = s.choice;
        is_version = s.is_choice;
        told = inl s.is_reported;
        are = all-known left (ps ∷ pss) (b ∷ bs) s.choice u w g honest (all_so (λ (x : BlockRows). x.report.version ≡ b.report.version) (λ (x : BlockRows). x.report.version ≡ Some s.choice) (λ x e. e ∙ s.is_reported) (b ∷ bs) one);
      }

is-reported : (g : GroupData) (reported told : Option ℕ) (version : ℕ) → reported ≡ told → (told ≡ Some version) ⊎ ((blocks_of (group_tree g) ≡ []) × (told ≡ None)) → IsReported g reported version
is-reported g reported told version e (inl h) = inl (e ∙ h)
is-reported g reported told version e (inr h) = inr (h.0, e ∙ h.1)

pub answers-written : SolutionsSuffice → (allows : List ℕ → ℕ → List ℕ → List ℕ → Type 0) (options : Options) (start : Address) (g : GroupData) (report : Report) (since now : WireState) (t u : Option (List ℕ)) (history : List (List Triple)) (config : Config)
    → IsHonestWire allows start history config since → AsksAndWrites allows options start g report since now t u → WritesGroupAnswers history g report.version report.rows t u
answers-written suffice allows options start g report since now t u history config honest w =
    let k = chain-known allows options start g.names history config options.budget (blocks_of (group_tree g)) w.asks.done since now w.asks.gives w.asks.one_version honest in
    record {
      version = k.version;
      is_version = k.is_version;
      is_reported = is-reported g report.version (version_told w.asks.done) k.version w.asks.version k.told;
      rows = gathered_answers g (rows_of w.asks.done);
      rows_are = suffice (version_of history k.version) g (rows_of w.asks.done) k.are;
      text = w.writes.text;
      count = w.writes.count;
    }

pub front-written : SolutionsSuffice → (allows : List ℕ → ℕ → List ℕ → List ℕ → Type 0) (options : Options) (start : Address) (g : GroupData) (fault : ClientFault) (since now : WireState) (t u : Option (List ℕ)) (history : List (List Triple)) (config : Config)
    → IsHonestWire allows start history config since → AsksAndStops allows options start g fault since now t u → WritesGroupAnswersFront history g t u
front-written suffice allows options start g fault since now t u history config honest w = by w.front
  where
    by : WritesGatheredFront g w.asks.done w.asks.rest t u → WritesGroupAnswersFront history g t u
    by (inl e) =
        let all = answers (version_of history 1) g in
        record { version = 1; is_version = first-version allows start history config since honest; rows = all; rows_are = IsPermutation-refl all; text = same-written (result_text (shown_query g) all) t u e }
    by (inr p) =
        let k = chain-known allows options start g.names history config options.budget w.asks.asked w.asks.done since w.asks.between w.asks.gives w.asks.one_version honest in
        let all : w.asks.asked ≡ blocks_of (group_tree g) = sym (append-nil w.asks.asked) ∙ (ap (λ (l : List (List Pattern)). w.asks.asked ++ l) (sym p.0) ∙ sym w.asks.blocks_are) in
        record {
          version = k.version;
          is_version = k.is_version;
          rows = gathered_answers g (rows_of w.asks.done);
          rows_are = suffice (version_of history k.version) g (rows_of w.asks.done) (subst (λ (l : List (List Pattern)). AreSolutions (version_of history k.version) g.names l (rows_of w.asks.done)) all k.are);
          text = p.1;
        }
