-- Blocks that are asked one after another.
use Rattle.std.proofs.Common.{ℕ, ◌≡◌, ◌≢◌, ◌≤◌, ◌<◌, ◌+◌, ◌-◌, ◌++◌, List, [], ◌∷◌, length, get_or, drop, Option, refl, sym, ap, subst, ◌∙◌, arith, append-nil}
use Rattle.std.specs.Prelude.{Result, Ok, Err, IfOk, IfErr, IsErrOf}
use Rattle.std.specs.List.{All, AllByRecursion}
use Rattle.std.proofs.lemmas.List.Elements.{All-head, All-tail}
use Rattle.list_laws.proofs.Each.{all_front, all_back}
use Rattle.list_laws.proofs.Lists.{snoc_append}
use Rattle.tpf_base.specs.Addresses.{Address}
use Rattle.tpf_base.specs.Links.{WireState, SameAllowed, OpensGiven}
use Rattle.bgp_core.specs.declared.pattern.Pattern.{Pattern}
use Rattle.bgp_core.specs.Queries.{QueryData, IsPatternOf}
use Rattle.bgp_core.specs.Solutions.{Places}
use Rattle.row_algebra.specs.Algebra.{HaveWidth}
use Rattle.group_query.specs.declared.step.Step.{Step}
use Rattle.group_query.specs.declared.step.Step.TheVariants as steps
use Rattle.group_query.specs.Trees.{GroupData, group_tree, blocks_of, block_query, shown_query, tree_of, IsPostfix}
use Rattle.group_rows.specs.Gathering.{gathered_answers}
use Rattle.tpf_base.proofs.SendingLemmas.{allowed_same}
use Rattle.tpf_client.specs.declared.options.Options.{Options}
use Rattle.tpf_client.specs.declared.options.Report.{Report}
use Rattle.tpf_client.specs.declared.fault.ClientFault.{ClientFault}
use Rattle.tpf_client.specs.declared.fault.ClientFault.TheVariants as faults
use Rattle.tpf_client.specs.Sources.{world_sources}
use Rattle.tpf_client.specs.Calls.{most_asked}
use Rattle.tpf_client.specs.Offers.{publisher, offer_in_blocks}
use Rattle.tpf_client.specs.Ends.{ends_in_blocks}
use Rattle.tpf_client.specs.Honest.{IsSolutions}
use Rattle.tpf_client.specs.Plans.{OverHonest}
use Rattle.tpf_client.specs.Ended.{GivesOverEnds}
use Rattle.tpf_client.specs.Still.{SucceedsStill, PacesStill}
use Rattle.group_patterns.specs.Blocks.{BlockRows, requests_of, with_budget, left_by, GivesRows, GivesAll, of_block, EndsBlock, Stops, InBlock, IsSpent, Differs, IsLacking, AsksSome}
use Rattle.group_patterns.specs.Asking.{block_in, blocks_in, BlocksFit, Progress, no_progress, IsProgress, KeepsNot, CallEnds, Called, Lacking, AsksBlock, BlockEnds, NothingLeft, InCall, NotKept, AsksStep, StepEnds, AsksBlocks, AsksFirst, PutsTogether, Gathers}
use Rattle.group_patterns.proofs.Allowed.{acts-so, gives-so, ends-so}
use Rattle.group_patterns.proofs.Chains.{told-more, no-block, first-or-same, kept-more, gives-none, gives-more, widths}
use Rattle.group_patterns.proofs.Steps.{blocks-are, step-at}

-- ---- the call for a block

have-width : (width : ℕ) (rows : List Places) → All (λ row. length row ≡ width) rows → HaveWidth width rows
have-width width [] a = tt
have-width width (row ∷ rows) a = (sym (All-head (λ (r : Places). length r ≡ width) row rows a), have-width width rows (All-tail (λ (r : Places). length r ≡ width) row rows a))

module _ (allows : List ℕ → ℕ → List ℕ → List ℕ → Type 0) (options : Options) (start : Address) (names : List (List ℕ)) (ps : List Pattern) (since now : WireState) (some : 1 ≤ options.budget) (alone : OpensGiven now) {A : Type 0} (told : A → Report) (rows : A → List Places) where
  -- how the call for a block ended
  abbrev Ending : QueryData → Result A ClientFault → Type 0
  Ending q r = GivesOverEnds allows (ends_in_blocks options.block q start) (world_sources options.block) q (start ∷ []) options (most_asked options q) r told rows since now

  gave : (r : Result A ClientFault) → Ending (block_query names ps) r → OverHonest allows start since (λ history config. IfOk r (λ x. IsSolutions (offer_in_blocks options.block (publisher history config) (block_query names ps) start) (told x).version (rows x))) → PacesStill allows options (block_query names ps) start since now told r
      → IfOk r (λ x. GivesRows allows options start (block_query names ps) (record { report = told x; rows = rows x }) since now)
  gave (Ok x) e solutions paced = record {
    some = some;
    acts = acts-so allows allows (allowed_same allows) options since now start (block_query names ps) told (Ok x) e.acts;
    returns = e.ok;
    solutions = solutions;
    paced = paced;
    width = have-width (length names) (rows x) e.ok.width;
    alone = alone;
  }
  gave (Err fault) e solutions paced = tt

  ended : (r : Result A ClientFault) → Ending (block_query names ps) r → SucceedsStill allows options (block_query names ps) start since now ⊥ r → (IsErrOf r faults.Sink → ⊥) → IfErr r (λ fault. CallEnds allows options start names ps fault since now)
  ended (Ok x) e still sink = tt
  ended (Err fault) e still sink = Called (record {
    some = some;
    acts = acts-so allows allows (allowed_same allows) options since now start (block_query names ps) told (Err fault) e.acts;
    fails = e.err;
    still = still;
    no_sink = λ is. sink (ap (λ (f : ClientFault). let r : Result A ClientFault = Err f in r) is);
    alone = alone;
  })

  pub call-gave : (q : QueryData) → q ≡ block_query names ps → (r : Result A ClientFault) → Ending q r → OverHonest allows start since (λ history config. IfOk r (λ x. IsSolutions (offer_in_blocks options.block (publisher history config) q start) (told x).version (rows x))) → PacesStill allows options q start since now told r
      → IfOk r (λ x. GivesRows allows options start (block_query names ps) (record { report = told x; rows = rows x }) since now)
  call-gave q e r how solutions paced =
      gave r (subst (λ (x : QueryData). Ending x r) e how)
      (subst (λ (y : QueryData). OverHonest allows start since (λ history config. IfOk r (λ x. IsSolutions (offer_in_blocks options.block (publisher history config) y start) (told x).version (rows x)))) e solutions)
      (subst (λ (y : QueryData). PacesStill allows options y start since now told r) e paced)

  pub call-ended : (q : QueryData) → q ≡ block_query names ps → (r : Result A ClientFault) → Ending q r → SucceedsStill allows options q start since now ⊥ r → (IsErrOf r faults.Sink → ⊥) → IfErr r (λ fault. CallEnds allows options start names ps fault since now)
  call-ended q e r how still sink = ended r (subst (λ (x : QueryData). Ending x r) e how) (subst (λ (y : QueryData). SucceedsStill allows options y start since now ⊥ r) e still) sink

-- ---- faults that are not the sink's

pub kept-no-sink : {T : Type 0} (b : BlockRows) (p : Progress) (r : Result T ClientFault) → IfErr r (KeepsNot b p) → IsErrOf r faults.Sink → ⊥
kept-no-sink {T} b p (Ok x) k e = let t : ◌≡◌ {A = Result T ClientFault} (Ok x) (Err faults.Sink) = e in cc
kept-no-sink {T} b p (Err fault) k e = let t : ◌≡◌ {A = Result T ClientFault} (Err fault) (Err faults.Sink) = e in let s : fault ≡ faults.Sink = cc in subst (KeepsNot b p) s k

of-no-sink : (budget : ℕ) (fault : ClientFault) → (fault ≡ faults.Sink → ⊥) → of_block budget fault ≡ faults.Sink → ⊥
of-no-sink budget faults.Exchange s e = s e
of-no-sink budget faults.Stalled s e = s e
of-no-sink budget (faults.Cut received) s e = s e
of-no-sink budget (faults.Reply fault received) s e = s e
of-no-sink budget (faults.Page fault body) s e = s e
of-no-sink budget (faults.Changed first other) s e = s e
of-no-sink budget (faults.Budget n) s e = cc
of-no-sink budget faults.Sink s e = s e
of-no-sink budget faults.OutOfMemory s e = s e

pub block-no-sink : {S T : Type 0} (budget : ℕ) (fault x : ClientFault) → x ≡ of_block budget fault → (IsErrOf {T = S} (Err fault) faults.Sink → ⊥) → IsErrOf {T = T} (Err x) faults.Sink → ⊥
block-no-sink {S} {T} budget fault x e s h =
    let t : ◌≡◌ {A = Result T ClientFault} (Err x) (Err faults.Sink) = h in
    let is : x ≡ faults.Sink = cc in
    of-no-sink budget fault (λ f. s (ap (λ (z : ClientFault). let r : Result S ClientFault = Err z in r) f)) (sym e ∙ is)

-- ---- one step

module _ (allows : List ℕ → ℕ → List ℕ → List ℕ → Type 0) (options : Options) (start : Address) (names : List (List ℕ)) where
  pub step-none : (blocks : List (List Pattern)) (p : Progress) (w : WireState) → blocks ≡ [] → AsksStep allows options start names blocks p p w w
  step-none blocks p w e = subst (λ (l : List (List Pattern)). AsksStep allows options start names l p p w w) (sym e) (refl, refl)

  pub step-some : (blocks : List (List Pattern)) (ps : List Pattern) (p p' : Progress) (v w : WireState) → blocks ≡ ps ∷ [] → AsksBlock allows options start names ps p p' v w → AsksStep allows options start names blocks p p' v w
  step-some blocks ps p p' v w e a = subst (λ (l : List (List Pattern)). AsksStep allows options start names l p p' v w) (sym e) a

-- each name of the step's block has a place
pub fits-here : (count : ℕ) (ss : List Step) (i : ℕ) (s : Step) (blocks asked : List (List Pattern)) → i < length ss → s ≡ get_or ss i s → blocks ≡ asked ++ blocks_in (drop i ss) → BlocksFit count blocks → BlocksFit count (block_in s)
fits-here count ss i s blocks asked below at e fits =
    all_front (λ ps. AllByRecursion (IsPatternOf count) ps) (block_in s) (blocks_in (drop (i + 1) ss))
    (subst (BlocksFit count) (step-at ss i s below at) (all_back (λ ps. AllByRecursion (IsPatternOf count) ps) asked (blocks_in (drop i ss)) (subst (BlocksFit count) e fits)))

-- ---- the steps so far

module _ (allows later : List ℕ → ℕ → List ℕ → List ℕ → Type 0) (same : SameAllowed allows later) (options : Options) (start : Address) (names : List (List ℕ)) (blocks : List (List Pattern)) where
  more-none : (rest rest' : List (List Pattern)) (p p' : Progress) (u v w : WireState) → AsksFirst allows options start names blocks rest p u v → rest ≡ rest' → p' ≡ p → w ≡ v → AsksFirst allows options start names blocks rest' p' u w
  more-none rest rest' p p' u v w a e f h =
      subst (λ (x : WireState). AsksFirst allows options start names blocks rest' p' u x) (sym h)
      (subst (λ (x : Progress). AsksFirst allows options start names blocks rest' x u v) (sym f) (subst (λ (l : List (List Pattern)). AsksFirst allows options start names blocks l p u v) e a))

  gives-here : (done : List BlockRows) (ps : List Pattern) (b : BlockRows) (p : Progress) (v w : WireState) → IsProgress options.budget done p → GivesRows later (with_budget options p.left) start (block_query names ps) b v w → GivesRows allows (left_by options done) start (block_query names ps) b v w
  gives-here done ps b p v w i g =
      let h = i.left_is in
      let is : p.left ≡ options.budget - requests_of done = omega (arith, h) in
      subst (λ (n : ℕ). GivesRows allows (with_budget options n) start (block_query names ps) b v w) is (gives-so allows later same (with_budget options p.left) start (block_query names ps) b v w g)

  ends-here : (done : List BlockRows) (ps : List Pattern) (fault : ClientFault) (p : Progress) (v w : WireState) → IsProgress options.budget done p → EndsBlock later (with_budget options p.left) start (block_query names ps) fault v w → EndsBlock allows (left_by options done) start (block_query names ps) fault v w
  ends-here done ps fault p v w i g =
      let h = i.left_is in
      let is : p.left ≡ options.budget - requests_of done = omega (arith, h) in
      subst (λ (n : ℕ). EndsBlock allows (with_budget options n) start (block_query names ps) fault v w) is (ends-so allows later same (with_budget options p.left) start (block_query names ps) fault v w g)

  chain-more : (asked : List (List Pattern)) (done : List BlockRows) (ps : List Pattern) (b : BlockRows) (p : Progress) (u v w : WireState) → GivesAll allows options start names options.budget asked done u v → IsProgress options.budget done p
      → GivesRows later (with_budget options p.left) start (block_query names ps) b v w → GivesAll allows options start names options.budget (asked ++ ps ∷ []) (done ++ b ∷ []) u w
  chain-more asked done ps b p u v w a i g =
      gives-more allows options start names options.budget asked done ps b p.left u v w a i.left_is (gives-so allows later same (with_budget options p.left) start (block_query names ps) b v w g)

  one-more : (asked rest : List (List Pattern)) (ps : List Pattern) → blocks ≡ asked ++ ps ∷ rest → blocks ≡ (asked ++ ps ∷ []) ++ rest
  one-more asked rest ps e = e ∙ sym (snoc_append asked ps rest)

  more-one : (ps : List Pattern) (rest : List (List Pattern)) (p p' : Progress) (u v w : WireState) → AsksFirst allows options start names blocks (ps ∷ rest) p u v → AsksBlock later options start names ps p p' v w → AsksFirst allows options start names blocks rest p' u w
  more-one ps rest p p' u v w a k = record {
    asked = a.asked ++ ps ∷ [];
    blocks_are = one-more a.asked rest ps a.blocks_are;
    asks = record {
      done = a.asks.done ++ k.block ∷ [];
      gives = chain-more a.asked a.asks.done ps k.block p u v w a.asks.gives a.asks.progress k.gives;
      progress = kept-more options.budget a.asks.done k.block p p' a.asks.progress k.keeps;
    };
  }

  pub first-more : (ss : List Step) (i : ℕ) (s : Step) (p p' : Progress) (u v w : WireState) → i < length ss → s ≡ get_or ss i s → AsksFirst allows options start names blocks (blocks_in (drop i ss)) p u v → AsksStep later options start names (block_in s) p p' v w
      → AsksFirst allows options start names blocks (blocks_in (drop (i + 1) ss)) p' u w
  first-more ss i (steps.Block ps) p p' u v w below at a k =
      more-one ps (blocks_in (drop (i + 1) ss)) p p' u v w (subst (λ (l : List (List Pattern)). AsksFirst allows options start names blocks l p u v) (step-at ss i (steps.Block ps) below at) a) k
  first-more ss i steps.Empty p p' u v w below at a k = more-none (blocks_in (drop i ss)) (blocks_in (drop (i + 1) ss)) p p' u v w a (step-at ss i steps.Empty below at) k.0 k.1
  first-more ss i steps.Join p p' u v w below at a k = more-none (blocks_in (drop i ss)) (blocks_in (drop (i + 1) ss)) p p' u v w a (step-at ss i steps.Join below at) k.0 k.1
  first-more ss i steps.Optional p p' u v w below at a k = more-none (blocks_in (drop i ss)) (blocks_in (drop (i + 1) ss)) p p' u v w a (step-at ss i steps.Optional below at) k.0 k.1
  first-more ss i steps.Union p p' u v w below at a k = more-none (blocks_in (drop i ss)) (blocks_in (drop (i + 1) ss)) p p' u v w a (step-at ss i steps.Union below at) k.0 k.1

  -- ---- a fault

  stops-at : (ps : List Pattern) (rest : List (List Pattern)) (p : Progress) (fault : ClientFault) (u v w : WireState) (a : AsksFirst allows options start names blocks (ps ∷ rest) p u v) → Stops allows options start names a.asks.done (ps ∷ rest) fault v w → AsksSome allows options start names blocks fault u w
  stops-at ps rest p fault u v w a s = record {
    asked = a.asked;
    rest = ps ∷ rest;
    blocks_are = a.blocks_are;
    done = a.asks.done;
    between = v;
    gives = a.asks.gives;
    one_version = a.asks.progress.one_version;
    stops = s;
  }

  -- the first of the blocks, where rows of one are kept
  first-of : (done : List BlockRows) (p : Progress) → IsProgress options.budget done p → p.rows ≢ [] → (first : BlockRows) × (more : List BlockRows) × (done ≡ first ∷ more) × (p.version ≡ first.report.version)
  first-of [] p i ne = absurd (ne i.rows_are)
  first-of (b ∷ bs) p i ne = (b, bs, refl, i.version_is)

  changed : (first other first' other' : Option ℕ) → first ≡ first' → other ≡ other' → faults.Changed first other ≡ faults.Changed first' other'
  changed first other first' other' e f = cc

  not-kept : (ps : List Pattern) (rest : List (List Pattern)) (p : Progress) (b : BlockRows) (fault : ClientFault) (u v w : WireState) → AsksFirst allows options start names blocks (ps ∷ rest) p u v → GivesRows later (with_budget options p.left) start (block_query names ps) b v w
      → KeepsNot b p fault → AsksSome allows options start names blocks fault u w
  not-kept ps rest p b faults.Exchange u v w a g k = absurd k
  not-kept ps rest p b faults.Stalled u v w a g k = absurd k
  not-kept ps rest p b (faults.Cut received) u v w a g k = absurd k
  not-kept ps rest p b (faults.Reply fault received) u v w a g k = absurd k
  not-kept ps rest p b (faults.Page fault body) u v w a g k = absurd k
  not-kept ps rest p b (faults.Changed first other) u v w a g k =
      let f = first-of a.asks.done p a.asks.progress k.0 in
      stops-at ps rest p (faults.Changed first other) u v w a
      (Differs ps rest f.0 f.1 b refl f.2 (λ e. k.1 (f.3 ∙ e)) (changed first other f.0.report.version b.report.version (k.2 ∙ f.3) k.3) (gives-here a.asks.done ps b p v w a.asks.progress g))
  not-kept ps rest p b (faults.Budget n) u v w a g k = absurd k
  not-kept ps rest p b faults.Sink u v w a g k = absurd k
  not-kept ps rest p b faults.OutOfMemory u v w a g k = record {
    asked = a.asked ++ ps ∷ [];
    rest = rest;
    blocks_are = one-more a.asked rest ps a.blocks_are;
    done = a.asks.done ++ b ∷ [];
    between = w;
    gives = chain-more a.asked a.asks.done ps b p u v w a.asks.gives a.asks.progress g;
    one_version = (told-more a.asks.done b a.asks.progress.one_version (first-or-same options.budget a.asks.done b p a.asks.progress k)).0;
    stops = IsLacking refl refl;
  }

  in-call : (ps : List Pattern) (rest : List (List Pattern)) (p : Progress) (own fault : ClientFault) (u v w : WireState) → AsksFirst allows options start names blocks (ps ∷ rest) p u v → fault ≡ of_block options.budget own → CallEnds later (with_budget options p.left) start names ps own v w
      → AsksSome allows options start names blocks fault u w
  in-call ps rest p own fault u v w a e (Called ends) = stops-at ps rest p fault u v w a (InBlock ps rest own refl e (ends-here a.asks.done ps own p v w a.asks.progress ends))
  in-call ps rest p own fault u v w a e (Lacking f is) = stops-at ps rest p fault u v w a (IsLacking (e ∙ ap (of_block options.budget) f) is)

  block-ends : (ps : List Pattern) (rest : List (List Pattern)) (p : Progress) (fault : ClientFault) (u v w : WireState) → AsksFirst allows options start names blocks (ps ∷ rest) p u v → BlockEnds later options start names ps p fault v w → AsksSome allows options start names blocks fault u w
  block-ends ps rest p fault u v w a (NothingLeft z e is) =
      let h = a.asks.progress.left_is in
      stops-at ps rest p fault u v w a (IsSpent ps rest refl (omega (arith, h, z)) e is)
  block-ends ps rest p fault u v w a (InCall own e call) = in-call ps rest p own fault u v w a e call
  block-ends ps rest p fault u v w a (NotKept b g k) = not-kept ps rest p b fault u v w a g k

  pub step-ends : (ss : List Step) (i : ℕ) (s : Step) (p : Progress) (fault : ClientFault) (u v w : WireState) → i < length ss → s ≡ get_or ss i s → AsksFirst allows options start names blocks (blocks_in (drop i ss)) p u v → StepEnds later options start names (block_in s) p fault v w
      → AsksSome allows options start names blocks fault u w
  step-ends ss i s p fault u v w below at a k =
      let e = step-at ss i s below at ∙ ap (λ (l : List (List Pattern)). l ++ blocks_in (drop (i + 1) ss)) k.is_block in
      block-ends k.ps (blocks_in (drop (i + 1) ss)) p fault u v w (subst (λ (l : List (List Pattern)). AsksFirst allows options start names blocks l p u v) e a) k.ends

module _ (allows : List ℕ → ℕ → List ℕ → List ℕ → Type 0) (options : Options) (start : Address) (names : List (List ℕ)) where
  pub first-none : (ss : List Step) (p : Progress) (w : WireState) → p ≡ no_progress options.budget → AsksFirst allows options start names (blocks_in ss) (blocks_in ss) p w w
  first-none ss p w e = record {
    asked = [];
    blocks_are = refl;
    asks = record { done = []; gives = gives-none allows options start names options.budget w; progress = no-block options.budget p e };
  }

  pub first-all : (blocks rest : List (List Pattern)) (p : Progress) (u w : WireState) → rest ≡ [] → AsksFirst allows options start names blocks rest p u w → AsksBlocks allows options start names blocks p u w
  first-all blocks rest p u w e a =
      let all : a.asked ≡ blocks = sym (append-nil a.asked) ∙ (ap (λ (l : List (List Pattern)). a.asked ++ l) (sym e) ∙ sym a.blocks_are) in
      subst (λ (l : List (List Pattern)). AsksBlocks allows options start names l p u w) all a.asks

  -- the blocks of the steps are those of the group
  pub of-group : (P : List (List ℕ) → List (List Pattern) → Type 0) (q : QueryData) (g : GroupData) (ss : List Step) → names ≡ q.names → q ≡ shown_query g → ss ≡ g.steps → IsPostfix ss → P names (blocks_in ss) → P g.names (blocks_of (group_tree g))
  of-group P q g ss e f s postfix p =
      let blocks : blocks_in ss ≡ blocks_of (group_tree g) = blocks-are ss postfix ∙ ap (λ (l : List Step). blocks_of (tree_of l)) s in
      subst (λ (l : List (List ℕ)). P l (blocks_of (group_tree g))) (e ∙ ap (λ (x : QueryData). x.names) f) (subst (P names) blocks p)

-- ---- all blocks

module _ (allows : List ℕ → ℕ → List ℕ → List ℕ → Type 0) (options : Options) (start : Address) (g : GroupData) (p : Progress) (u w : WireState) (a : AsksBlocks allows options start g.names (blocks_of (group_tree g)) p u w) where
  pub all-width : AllByRecursion (HaveWidth (length g.names)) p.rows
  all-width = subst (λ (l : List (List Places)). AllByRecursion (HaveWidth (length g.names)) l) (sym a.progress.rows_are) (widths allows options start g.names options.budget (blocks_of (group_tree g)) a.done u w a.gives)

  pub all-gathered : (rows : List Places) (report : Report) → PutsTogether options.budget g p rows report → Gathers allows options start g report rows u w
  all-gathered rows report t =
      let h = a.progress.left_is in
      let r = t.requests in
      record {
        asks = record {
          done = a.done;
          gives = a.gives;
          one_version = a.progress.one_version;
          requests = omega (arith, h, r);
          version = t.version ∙ a.progress.version_is;
        };
        rows_are = t.rows_are ∙ ap (gathered_answers g) a.progress.rows_are;
        count = t.count;
      }

  pub none-gathered : (fault : ClientFault) → fault ≡ faults.OutOfMemory → AsksSome allows options start g.names (blocks_of (group_tree g)) fault u w
  none-gathered fault e = record {
    asked = blocks_of (group_tree g);
    rest = [];
    blocks_are = sym (append-nil (blocks_of (group_tree g)));
    done = a.done;
    between = w;
    gives = a.gives;
    one_version = a.progress.one_version;
    stops = IsLacking e refl;
  }
