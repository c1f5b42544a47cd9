-- Where the other end at the start answers over one version alone, and what all blocks ask for over this one fits, a call over a lively wire ends with want of memory alone.
use Rattle.std.proofs.Common.{ℕ, ◌≡◌, ◌≤◌, ◌<◌, ◌+◌, ◌-◌, ◌^◌, ◌++◌, true, List, [], ◌∷◌, length, map, Option, Some, refl, sym, ap, subst, ◌∙◌, arith, append_assoc, length-append}
use Rattle.std.specs.Prelude.{Result, Ok, Err, IfErr, IsErrOf}
use Rattle.std.specs.List.{AllByRecursion, Contains}
use Rattle.std.proofs.lemmas.List.Elements.{Contains-append_left, Contains-append_right}
use Rattle.list_laws.proofs.Members.{at_head, all_from, Contains-map}
use Rattle.list_laws.proofs.Told.{all_in}
use Rattle.tpf_base.specs.Addresses.{Address}
use Rattle.tpf_base.specs.Causes.{RoseBy}
use Rattle.tpf_base.specs.Links.{All, WireState, Nature}
use Rattle.bgp_core.specs.declared.pattern.Pattern.{Pattern}
use Rattle.group_query.specs.Trees.{GroupData, group_tree, blocks_of, block_query}
use Rattle.tpf_client.specs.declared.options.Options.{Options}
use Rattle.tpf_client.specs.declared.options.Report.{Report}
use Rattle.tpf_client.specs.declared.fault.ClientFault.{ClientFault}
use Rattle.tpf_client.specs.declared.fault.ClientFault.TheVariants as faults
use Rattle.tpf_client.specs.Offers.{Publisher, server_offer, addresses_of}
use Rattle.tpf_client.specs.Plans.{AtChosen, IsFitAt, ChoiceFits, RisesFew}
use Rattle.tpf_client.specs.Still.{AnswersOver, IsWant}
use Rattle.group_patterns.specs.Blocks.{BlockRows, requests_of, with_budget, left_by, GivesRows, GivesAll, EndsBlock, of_block, Stops, InBlock, IsSpent, Differs, IsLacking, IsUnwritten, AsksSome}
use Rattle.group_patterns.specs.Plans.{plans_over, plan_over, versions_at, group_offer}
use Rattle.group_patterns.proofs.LinkCounts.{rose-none, rose-both}
use Rattle.group_patterns.proofs.Wires.{Onward, row-onward, end-onward, chain-onward}

-- ---- counts

-- the rises of two parts are together those of both
parts-rise : (rises rise before between now : ℕ) → RoseBy rises before between → between ≤ now → now ≡ before + rise → now < 2 ^ 64 - 1 → rises + (now - between) ≤ rise
parts-rise rises rise before between now r l e c = omega (arith, r, l, e, c)

later-rise : (between now : ℕ) → between ≤ now → now ≡ between + (now - between)
later-rise between now l = omega (arith, l)

few-rise : (rises rise more retries : ℕ) → rises + more ≤ rise → rise ≤ retries → more ≤ retries
few-rise rises rise more retries l m = omega (arith, l, m)

-- what is left of the budget is enough for the next block
enough-left : (budget done rises asked own more rise later whole : ℕ) → done ≤ asked + rises → rises + later ≤ rise → whole ≡ asked + (own + more) → whole + rise ≤ budget → own + later ≤ budget - done
enough-left budget done rises asked own more rise later whole d r e w = omega (arith, d, r, e, w)

-- and something is left for it
some-left : (budget done rises asked own more rise later whole : ℕ) → done ≤ asked + rises → rises + later ≤ rise → whole ≡ asked + (own + more) → whole + rise ≤ budget → 1 ≤ own → done ≡ budget → ⊥
some-left budget done rises asked own more rise later whole d r e w s n = omega (arith, d, r, e, w, s, n)

-- ---- plans over one version

module _ (p : Publisher) (start : Address) (names : List (List ℕ)) (version : ℕ) where
  -- what blocks ask for over it
  abbrev pub one-plan : List (List Pattern) → List Address
  one-plan pss = plans_over p start names pss (map (λ ps. version) pss)

  one-append : (asked more : List (List Pattern)) → one-plan (asked ++ more) ≡ one-plan asked ++ one-plan more
  one-append [] more = refl
  one-append (ps ∷ asked) more =
      let own = addresses_of p (block_query names ps) start version in
      ap (λ (l : List Address). own ++ l) (one-append asked more) ∙ sym (append_assoc own (one-plan asked) (one-plan more))

  some-own : (ps : List Pattern) → 1 ≤ length (addresses_of p (block_query names ps) start version)
  some-own ps = omega arith

-- ---- blocks that gave their rows

module _ (allows : List ℕ → ℕ → List ℕ → List ℕ → Type 0) (options : Options) (start : Address) (names : List (List ℕ)) (p : Publisher) (version : ℕ) (over : AnswersOver allows start p version) where
  -- this version is told, and its plan and the rises of the faults pace the requests
  record BlockStill (ps : List Pattern) (b : BlockRows) (u w : WireState) : Type 0 where
    told : b.report.version ≡ Some version
    rises : ℕ
    rose : RoseBy rises u.faults w.faults
    few : b.report.requests ≤ length (addresses_of p (block_query names ps) start version) + rises

  block-still : (left : ℕ) (ps : List Pattern) (b : BlockRows) (u w : WireState) → GivesRows allows (with_budget options left) start (block_query names ps) b u w → u.nature.tells ≡ All → u.nature.lively ≡ true → BlockStill ps b u w
  block-still left ps b u w g tells alive =
      let c = g.paced p version over tells alive in
      record {
        told = c.paces.is_reported ∙ ap (λ (n : ℕ). let o : Option ℕ = Some n in o) c.is_choice;
        rises = c.paces.rises;
        rose = c.paces.rose;
        few = subst (λ (n : ℕ). b.report.requests ≤ length (addresses_of p (block_query names ps) start n) + c.paces.rises) c.is_choice c.paces.few;
      }

  -- so it is of all of them together
  record ChainStill (pss : List (List Pattern)) (bs : List BlockRows) (u w : WireState) : Type 0 where
    told : AllByRecursion (λ b. b.report.version ≡ Some version) bs
    rises : ℕ
    rose : RoseBy rises u.faults w.faults
    few : requests_of bs ≤ length (one-plan p start names version pss) + rises

  none-still : (u : WireState) → ChainStill [] [] u u
  none-still u = record { told = tt; rises = 0; rose = rose-none u.faults; few = omega arith }

  both-few : (requests more own rest rises later whole : ℕ) → requests ≤ own + rises → more ≤ rest + later → whole ≡ own + rest → requests + more ≤ whole + (rises + later)
  both-few requests more own rest rises later whole a b e = omega (arith, a, b, e)

  chain-still : (left : ℕ) (pss : List (List Pattern)) (bs : List BlockRows) (u w : WireState) → GivesAll allows options start names left pss bs u w → u.nature.tells ≡ All → u.nature.lively ≡ true → ChainStill pss bs u w
  chain-still left [] [] u w g tells alive = subst (λ (x : WireState). ChainStill [] [] u x) (sym g) (none-still u)
  chain-still left [] (b ∷ bs) u w g tells alive = absurd g
  chain-still left (ps ∷ pss) [] u w g tells alive = absurd g
  chain-still left (ps ∷ pss) (b ∷ bs) u w g tells alive =
      let on = row-onward allows options start names (block_query names ps) (with_budget options left) b u g.0 g.1 in
      let c = block-still left ps b u g.0 g.1 tells alive in
      let more = chain-still (left - b.report.requests) pss bs g.0 w g.2 (ap (λ (x : Nature). x.tells) on.moves.nature ∙ tells) (ap (λ (x : Nature). x.lively) on.moves.nature ∙ alive) in
      let own = addresses_of p (block_query names ps) start version in
      let rest = one-plan p start names version pss in
      record {
        told = (c.told, more.told);
        rises = c.rises + more.rises;
        rose = rose-both c.rises more.rises u.faults g.0.faults w.faults c.rose more.rose;
        few = both-few b.report.requests (requests_of bs) (length own) (length rest) c.rises more.rises (length (own ++ rest)) c.few more.few (length-append own rest);
      }

-- ---- the whole call

module _ (allows : List ℕ → ℕ → List ℕ → List ℕ → Type 0) (options : Options) (start : Address) (g : GroupData) (since now : WireState) (p : Publisher) (version : ℕ) (over : AnswersOver allows start p version) (tells : since.nature.tells ≡ All) (alive : since.nature.lively ≡ true)
    (rise : ℕ) (few : RisesFew options rise since now) (fits : ChoiceFits (group_offer p g start) options rise (versions_at g version)) where
  abbrev whole-plan : List Address
  whole-plan = plan_over p g start (versions_at g version)

  module _ (fault : ClientFault) (s : AsksSome allows options start g.names (blocks_of (group_tree g)) fault since now) where
    before : Onward start (requests_of s.done) since s.between
    before = chain-onward allows options start g.names options.budget s.asked s.done since s.between s.gives

    tells-behind : s.between.nature.tells ≡ All
    tells-behind = ap (λ (x : Nature). x.tells) before.moves.nature ∙ tells

    alive-behind : s.between.nature.lively ≡ true
    alive-behind = ap (λ (x : Nature). x.lively) before.moves.nature ∙ alive

    c : ChainStill allows options start g.names p version over s.asked s.done since s.between
    c = chain-still allows options start g.names p version over options.budget s.asked s.done since s.between s.gives tells alive

    abbrev asked-plan : List Address
    asked-plan = one-plan p start g.names version s.asked

    abbrev rest-plan : List Address
    rest-plan = one-plan p start g.names version s.rest

    plan-is : whole-plan ≡ asked-plan ++ rest-plan
    plan-is = ap (λ (l : List (List Pattern)). one-plan p start g.names version l) s.blocks_are ∙ one-append p start g.names version s.asked s.rest

    -- ---- a block is left

    module _ (ps : List Pattern) (more : List (List Pattern)) (r : s.rest ≡ ps ∷ more) where
      abbrev own-plan : List Address
      own-plan = addresses_of p (block_query g.names ps) start version

      abbrev more-plan : List Address
      more-plan = one-plan p start g.names version more

      next-plan : rest-plan ≡ own-plan ++ more-plan
      next-plan = ap (λ (l : List (List Pattern)). one-plan p start g.names version l) r

      plan-long : length whole-plan ≡ length asked-plan + (length own-plan + length more-plan)
      plan-long =
          let a = ap (λ (l : List Address). length l) plan-is in
          let b = length-append asked-plan rest-plan in
          let d = ap (λ (l : List Address). length l) next-plan in
          let e = length-append own-plan more-plan in
          omega (arith, a, b, d, e)

      is-block : Contains (blocks_of (group_tree g)) ps
      is-block = subst (λ (l : List (List Pattern)). Contains l ps) (sym (s.blocks_are ∙ ap (λ (l : List (List Pattern)). s.asked ++ l) r)) (Contains-append_right s.asked (ps ∷ more) ps (at_head ps more))

      is-chosen : Contains (versions_at g version) version
      is-chosen = Contains-map (λ (qs : List Pattern). version) (blocks_of (group_tree g)) ps is-block

      among : (x : Address) → Contains own-plan x → Contains whole-plan x
      among x h =
          subst (λ (l : List Address). Contains l x) (sym plan-is)
          (Contains-append_right asked-plan rest-plan x (subst (λ (l : List Address). Contains l x) (sym next-plan) (Contains-append_left own-plan more-plan x h)))

      own-fit : AllByRecursion (AtChosen (server_offer p (block_query g.names ps) start) version (IsFitAt options.max_body)) own-plan
      own-fit = all_from (AtChosen (server_offer p (block_query g.names ps) start) version (IsFitAt options.max_body)) own-plan (λ x h. λ server told stands has.
          all_in (AtChosen (group_offer p g start) (versions_at g version) (IsFitAt options.max_body)) whole-plan x fits.fit (among x h) server told stands (subst (λ (n : ℕ). Contains (versions_at g version) n) (sym has) is-chosen))

      module _ (later : s.between.faults ≤ now.faults) where
        abbrev own-rise : ℕ
        own-rise = now.faults - s.between.faults

        both-rise : c.rises + own-rise ≤ rise
        both-rise = parts-rise c.rises rise since.faults s.between.faults now.faults c.rose later few.is_rise few.counted

        own-rises : RisesFew (left_by options s.done) own-rise s.between now
        own-rises = record {
          is_rise = later-rise s.between.faults now.faults later;
          counted = few.counted;
          few = few-rise c.rises rise own-rise options.retries both-rise few.few;
        }

        own-fits : ChoiceFits (server_offer p (block_query g.names ps) start) (left_by options s.done) own-rise version
        own-fits = record {
          fit = own-fit;
          within = enough-left options.budget (requests_of s.done) c.rises (length asked-plan) (length own-plan) (length more-plan) rise own-rise (length whole-plan) c.few both-rise plan-long fits.within;
        }

        not-spent : requests_of s.done ≡ options.budget → ⊥
        not-spent spent = some-left options.budget (requests_of s.done) c.rises (length asked-plan) (length own-plan) (length more-plan) rise own-rise (length whole-plan) c.few both-rise plan-long fits.within (some-own p start g.names version ps) spent

      -- the call for it ended
      ended-in : (own : ClientFault) → fault ≡ of_block options.budget own → EndsBlock allows (left_by options s.done) start (block_query g.names ps) own s.between now → IsWant fault
      ended-in own e ends =
          let on = end-onward allows options start g.names (block_query g.names ps) (left_by options s.done) own s.between now ends in
          let later = on.moves.faults in
          let want : own ≡ faults.OutOfMemory = ends.still p version over tells-behind alive-behind (own-rise later) (own-rises later) (own-fits later) (λ none. none) in
          e ∙ ap (of_block options.budget) want

      -- it gave its rows, and told the version that the others told
      told-one : (first : BlockRows) (others : List BlockRows) (b : BlockRows) → s.done ≡ first ∷ others → GivesRows allows (left_by options s.done) start (block_query g.names ps) b s.between now → first.report.version ≡ b.report.version
      told-one first others b d gives =
          let own = block-still allows options start g.names p version over (options.budget - requests_of s.done) ps b s.between now gives tells-behind alive-behind in
          let all = subst (λ (l : List BlockRows). AllByRecursion (λ (x : BlockRows). x.report.version ≡ Some version) l) d c.told in
          all.0 ∙ sym own.told

    still : (fault ≡ faults.Sink → ⊥) → IsWant fault
    still sink = by s.stops
      where
        by : Stops allows options start g.names s.done s.rest fault s.between now → IsWant fault
        by (InBlock ps more own r e ends) = ended-in ps more r own e ends
        by (IsSpent ps more r spent e is) = absurd (not-spent ps more r (let e = ap (λ (x : WireState). x.faults) is in omega (arith, e)) spent)
        by (Differs ps more first others b r d ne e gives) = absurd (ne (told-one ps more r first others b d gives))
        by (IsLacking e is) = e
        by (IsUnwritten r e is) = absurd (sink e)

  pub wants : (result : Result Report ClientFault) → IfErr result (λ fault. AsksSome allows options start g.names (blocks_of (group_tree g)) fault since now) → (IsErrOf result faults.Sink → ⊥) → IfErr result IsWant
  wants (Ok report) asks sink = tt
  wants (Err fault) asks sink = still fault asks (λ e. sink (ap (λ (f : ClientFault). let r : Result Report ClientFault = Err f in r) e))
