-- What a call that ended with a fault did by the plan of all blocks: those that gave their rows, and the one at which it stopped.
use Rattle.std.proofs.Common.{ℕ, ◌≡◌, ◌≢◌, ◌≤◌, ◌<◌, ◌+◌, ◌-◌, ◌++◌, ◌⊎◌, inl, inr, ⊎_elim, true, List, [], ◌∷◌, length, Option, Some, refl, sym, ap, subst, ◌∙◌, arith, length-append}
use Rattle.std.specs.Prelude.{Ok, Err}
use Rattle.std.specs.List.{AllByRecursion, Contains}
use Rattle.std.proofs.lemmas.List.Elements.{Contains-append_left, Contains-append_right}
use Rattle.list_laws.proofs.Each.{all_append, all_so}
use Rattle.list_laws.proofs.Members.{at_head, all_from}
use Rattle.list_laws.proofs.Told.{all_in}
use Rattle.tpf_base.specs.Addresses.{Address}
use Rattle.tpf_base.specs.Causes.{RoseBy}
use Rattle.tpf_base.specs.Links.{WireState, Nature}
use Rattle.http_wire.specs.declared.message.ReplyFault.{ReplyFault}
use Rattle.bgp_core.specs.declared.pattern.Pattern.{Pattern}
use Rattle.group_query.specs.Trees.{GroupData, group_tree, blocks_of, block_query}
use Rattle.tpf_client.specs.declared.options.Options.{Options}
use Rattle.tpf_client.specs.declared.fault.ClientFault.{ClientFault}
use Rattle.tpf_client.specs.declared.fault.ClientFault.TheVariants as faults
use Rattle.tpf_client.specs.Honest.{IsHonestWire}
use Rattle.tpf_client.specs.Offers.{Publisher, IsVersionOf, server_offer, addresses_of}
use Rattle.tpf_client.specs.Requests.{DialsAtMost, GivesAtMost, tries_of}
use Rattle.tpf_client.specs.Plans.{AtEach, AtChosen, IsAnswerable, IsAnsweredAt, IsReadByAll, IsLongAnswer, IsPageGone, IsHonestCause, IsLivelyCause}
use Rattle.tpf_client.specs.Failing.{ForBudget, SpendsPlan}
use Rattle.tpf_client.specs.Acts.{IsHonestCauseOf, IsLivelyCauseOf, IsSpentOf}
use Rattle.group_patterns.specs.Blocks.{BlockRows, requests_of, left_by, GivesRows, EndsBlock, of_block, Stops, InBlock, IsSpent, Differs, IsLacking, IsUnwritten, started_last, AsksSome}
use Rattle.group_patterns.specs.Plans.{TellFirst, plans_over, plan_over, AreVersions, group_offer}
use Rattle.group_patterns.proofs.LinkCounts.{rose-none, rose-later, rose-both}
use Rattle.group_patterns.proofs.Parts.{DoneFor, done-nothing, done-both, done-more, tries-both}
use Rattle.group_patterns.proofs.Planned.{same-versions, plans-append, some-tries, version-asked, is-version-asked, block-done, is-told, block-answered, TellEach, tell-first, ChainDone}
use Rattle.group_patterns.proofs.Wires.{Onward, onward-none, onward-more, row-onward, end-onward, chain-onward, chain-within, honest-then}
use Rattle.group_patterns.proofs.Known.{first-version}

-- ---- what a block's fault shows of all

-- of the whole call, by what the call for a block shows
pub for-block : (X Y : Type 0) (budget : ℕ) (own : ClientFault) → (X → Y) → ForBudget X own → ForBudget Y (of_block budget own)
for-block X Y budget faults.Exchange so h = tt
for-block X Y budget faults.Stalled so h = tt
for-block X Y budget (faults.Cut received) so h = tt
for-block X Y budget (faults.Reply fault received) so h = tt
for-block X Y budget (faults.Page fault body) so h = tt
for-block X Y budget (faults.Changed first other) so h = tt
for-block X Y budget (faults.Budget n) so h = so h
for-block X Y budget faults.Sink so h = tt
for-block X Y budget faults.OutOfMemory so h = tt

-- the first of blocks told one of their versions
first-chosen : (bs : List BlockRows) (vs : List ℕ) (first : BlockRows) (later : List BlockRows) → TellEach bs vs → bs ≡ first ∷ later → (version : ℕ) × Contains vs version × (first.report.version ≡ Some version)
first-chosen [] vs first later t e = cc
first-chosen (b ∷ bs) [] first later t e = absurd t
first-chosen (b ∷ bs) (v ∷ vs) first later t e = let same : b ≡ first = cc in (v, at_head v vs, subst (λ (x : BlockRows). x.report.version ≡ Some v) same t.0)

-- ---- the part behind the blocks that gave their rows

module _ (allows : List ℕ → ℕ → List ℕ → List ℕ → Type 0) (options : Options) (start : Address) (names : List (List ℕ)) where
  pub stops-onward : (done : List BlockRows) (rest : List (List Pattern)) (fault : ClientFault) (u w : WireState) → Stops allows options start names done rest fault u w → Onward start (options.budget - requests_of done) u w
  stops-onward done rest fault u w (InBlock ps more own r e ends) = end-onward allows options start names (block_query names ps) (left_by options done) own u w ends
  stops-onward done rest fault u w (IsSpent ps more r spent e is) = subst (Onward start (options.budget - requests_of done) u) (sym is) (onward-more start 0 (options.budget - requests_of done) u u (omega arith) (onward-none start u))
  stops-onward done rest fault u w (Differs ps more first later b r d ne e gives) =
      onward-more start b.report.requests (options.budget - requests_of done) u w gives.acts.within (row-onward allows options start names (block_query names ps) (left_by options done) b u w gives)
  stops-onward done rest fault u w (IsLacking e is) = subst (Onward start (options.budget - requests_of done) u) (sym is) (onward-more start 0 (options.budget - requests_of done) u u (omega arith) (onward-none start u))
  stops-onward done rest fault u w (IsUnwritten r e is) = subst (Onward start (options.budget - requests_of done) u) (sym is) (onward-more start 0 (options.budget - requests_of done) u u (omega arith) (onward-none start u))

-- ---- the whole call

module _ (p : Publisher) (allows : List ℕ → ℕ → List ℕ → List ℕ → Type 0) (options : Options) (start : Address) (g : GroupData) where
  -- no more requests were started, dials made and links given than the plan over these versions and the rises of the faults
  pub record CountedOver (versions : List ℕ) (started : ℕ) (since now : WireState) : Type 0 where
    pub rises : ℕ
    pub rose : RoseBy rises since.faults now.faults
    pub few : started ≤ length (plan_over p g start versions) + rises
    pub dials : DialsAtMost (length (plan_over p g start versions) + rises) since now
    pub given : GivesAtMost (length (plan_over p g start versions) + rises) since now

  -- what the call did by the plan over some versions of the blocks, of which the first are those that the blocks told, and what its fault shows of them
  pub record EndDone (blocks : List BlockRows) (started : ℕ) (fault : ClientFault) (since now : WireState) : Type 0 where
    pub versions : List ℕ
    pub are_versions : AreVersions p.history g versions
    pub told : TellFirst blocks versions
    pub done : DoneFor options (plan_over p g start versions) since now
    pub cause : (c : IsHonestCause (group_offer p g start) options fault) × IsHonestCauseOf (group_offer p g start) options versions fault c
    pub counted : since.nature.lively ≡ true → CountedOver versions started since now
    pub lively : since.nature.lively ≡ true → (c : IsLivelyCause (group_offer p g start) options since now fault) × IsLivelyCauseOf (group_offer p g start) options since now versions fault c
    pub spent : (s : ForBudget (SpendsPlan (group_offer p g start) options) fault) × IsSpentOf (group_offer p g start) options versions fault s

  module _ (fault : ClientFault) (since now : WireState) (honest : IsHonestWire allows start p.history p.config since) (s : AsksSome allows options start g.names (blocks_of (group_tree g)) fault since now)
      (c : ChainDone p allows options start g.names s.asked s.done since s.between) where
    before : Onward start (requests_of s.done) since s.between
    before = chain-onward allows options start g.names options.budget s.asked s.done since s.between s.gives

    within : requests_of s.done ≤ options.budget
    within = chain-within allows options start g.names options.budget s.asked s.done since s.between s.gives

    behind : Onward start (options.budget - requests_of s.done) s.between now
    behind = stops-onward allows options start g.names s.done s.rest fault s.between now s.stops

    honest-behind : IsHonestWire allows start p.history p.config s.between
    honest-behind = honest-then allows start p.history p.config since s.between before.moves honest

    alive-behind : since.nature.lively ≡ true → s.between.nature.lively ≡ true
    alive-behind alive = ap (λ (x : Nature). x.lively) before.moves.nature ∙ alive

    one : IsVersionOf p.history 1
    one = first-version allows start p.history p.config since honest

    abbrev asked-plan : List Address
    asked-plan = plans_over p start g.names s.asked c.versions

    abbrev rest-plan : List ℕ → List Address
    rest-plan later = plans_over p start g.names s.rest later

    abbrev plan-with : List ℕ → List Address
    plan-with later = plan_over p g start (c.versions ++ later)

    plan-is : (later : List ℕ) → plan-with later ≡ asked-plan ++ rest-plan later
    plan-is later = ap (λ (l : List (List Pattern)). plans_over p start g.names l (c.versions ++ later)) s.blocks_are ∙ plans-append p start g.names s.asked s.rest c.versions later c.count

    plan-long : (later : List ℕ) → length (plan-with later) ≡ length asked-plan + length (rest-plan later)
    plan-long later = ap (λ (l : List Address). length l) (plan-is later) ∙ length-append asked-plan (rest-plan later)

    plan-tries : (later : List ℕ) → tries_of options (plan-with later) ≡ tries_of options asked-plan + tries_of options (rest-plan later)
    plan-tries later = ap (λ (l : List Address). tries_of options l) (plan-is later) ∙ tries-both options asked-plan (rest-plan later)

    with-later : (later : List ℕ) → AllByRecursion (IsVersionOf p.history) later → length later ≡ length s.rest → AreVersions p.history g (c.versions ++ later)
    with-later later each count = record {
      each = all_append (IsVersionOf p.history) c.versions later c.each each;
      count =
          let a = c.count in
          let b = length-append c.versions later in
          let d = length-append s.asked s.rest in
          let e = ap (λ (l : List (List Pattern)). length l) s.blocks_are in
          omega (arith, a, b, d, e, count);
    }

    done-with : (later : List ℕ) → DoneFor options (rest-plan later) s.between now → DoneFor options (plan-with later) since now
    done-with later d =
        subst (λ (l : List Address). DoneFor options l since now) (sym (plan-is later))
        (done-both start (requests_of s.done) (options.budget - requests_of s.done) since s.between now before behind options asked-plan (rest-plan later) c.done d)

    -- ---- counts

    -- what was started behind them, and how often was dialled
    pub record CountedBehind (later : List ℕ) (own : ℕ) : Type 0 where
      pub rises : ℕ
      pub rose : RoseBy rises s.between.faults now.faults
      pub few : own ≤ length (rest-plan later) + rises
      pub dials : DialsAtMost (length (rest-plan later) + rises) s.between now
      pub given : GivesAtMost (length (rest-plan later) + rises) s.between now

    counted-with : (later : List ℕ) (own : ℕ) → since.nature.lively ≡ true → CountedBehind later own → CountedOver (c.versions ++ later) (requests_of s.done + own) since now
    counted-with later own alive k =
        let paced = c.answered.paced alive in
        let a = paced.few in
        let long = plan-long later in
        let f = k.few in
        let d = before.dials in
        let e = k.dials in
        let i = before.given in
        let j = k.given in
        record {
          rises = paced.rises + k.rises;
          rose = rose-both paced.rises k.rises since.faults s.between.faults now.faults paced.rose k.rose;
          few = omega (arith, a, long, f);
          dials = omega (arith, a, long, d, e);
          given = omega (arith, a, long, i, j);
        }

    -- the budget is less than what was asked for and the rises
    over-with : (later : List ℕ) (rises own : ℕ) → since.nature.lively ≡ true → AreVersions p.history g (c.versions ++ later) → RoseBy rises s.between.faults now.faults → options.budget - requests_of s.done < own + rises → own ≤ length (rest-plan later)
        → (x : IsLivelyCause (group_offer p g start) options since now (faults.Budget options.budget)) × IsLivelyCauseOf (group_offer p g start) options since now (c.versions ++ later) (faults.Budget options.budget) x
    over-with later rises own alive are rose over most =
        let paced = c.answered.paced alive in
        let a = paced.few in
        let long = plan-long later in
        let l = within in (
          record {
            choice = c.versions ++ later;
            is_choice = are;
            rises = paced.rises + rises;
            rose = rose-both paced.rises rises since.faults s.between.faults now.faults paced.rose rose;
            over = omega (arith, a, long, l, over, most);
          },
          refl,
        )

    -- and less than the tries that it may take
    spent-with : (later : List ℕ) (own : ℕ) → AreVersions p.history g (c.versions ++ later) → options.budget - requests_of s.done < own → own ≤ tries_of options (rest-plan later)
        → (x : SpendsPlan (group_offer p g start) options) × (x.choice ≡ c.versions ++ later)
    spent-with later own are over most =
        let a = c.answered.most in
        let t = plan-tries later in
        let l = within in
        (record { choice = c.versions ++ later; is_choice = are; tries = omega (arith, a, t, l, over, most) }, refl)

    -- ---- no block was asked any more

    module _ (is : now ≡ s.between) where
      abbrev ones : (ws : List ℕ) × AllByRecursion (IsVersionOf p.history) ws × (length ws ≡ length s.rest)
      ones = same-versions p 1 one s.rest

      nothing-more : DoneFor options (rest-plan ones.0) s.between now
      nothing-more = subst (λ (x : WireState). DoneFor options (rest-plan ones.0) s.between x) (sym is) (done-nothing options (rest-plan ones.0) s.between)

      none-rises : RoseBy 0 s.between.faults now.faults
      none-rises = subst (λ (x : WireState). RoseBy 0 s.between.faults x.faults) (sym is) (rose-none s.between.faults)

      none-started : CountedBehind ones.0 0
      none-started =
          let d : now.dials ≡ s.between.dials = ap (λ (x : WireState). x.dials) is in
          let h : now.given ≡ s.between.given = ap (λ (x : WireState). x.given) is in
          record {
            rises = 0;
            rose = none-rises;
            few = omega arith;
            dials = omega (arith, d);
            given = omega (arith, h);
          }

      abbrev none-versions : AreVersions p.history g (c.versions ++ ones.0)
      none-versions = with-later ones.0 ones.1 ones.2

      bare : (own : ClientFault) → ((x : IsHonestCause (group_offer p g start) options own) × IsHonestCauseOf (group_offer p g start) options (c.versions ++ ones.0) own x)
          → (since.nature.lively ≡ true → (x : IsLivelyCause (group_offer p g start) options since now own) × IsLivelyCauseOf (group_offer p g start) options since now (c.versions ++ ones.0) own x)
          → ((x : ForBudget (SpendsPlan (group_offer p g start) options) own) × IsSpentOf (group_offer p g start) options (c.versions ++ ones.0) own x) → fault ≡ own → EndDone s.done (requests_of s.done + 0) fault since now
      bare own cause lively spent e = subst (λ (f : ClientFault). EndDone s.done (requests_of s.done + 0) f since now) (sym e) (record {
        versions = c.versions ++ ones.0;
        are_versions = none-versions;
        told = tell-first s.done c.versions ones.0 c.told;
        done = done-with ones.0 nothing-more;
        cause = cause;
        counted = λ alive. counted-with ones.0 0 alive none-started;
        lively = lively;
        spent = spent;
      })

    -- ---- the next block was asked

    module _ (ps : List Pattern) (more : List (List Pattern)) (r : s.rest ≡ ps ∷ more) where
      abbrev behind-it : (ws : List ℕ) × AllByRecursion (IsVersionOf p.history) ws × (length ws ≡ length more)
      behind-it = same-versions p 1 one more

      abbrev own-at : ℕ → List Address
      own-at version = addresses_of p (block_query g.names ps) start version

      abbrev more-plan : List Address
      more-plan = plans_over p start g.names more behind-it.0

      abbrev later-with : ℕ → List ℕ
      later-with version = version ∷ behind-it.0

      next-plan : (version : ℕ) → rest-plan (later-with version) ≡ own-at version ++ more-plan
      next-plan version = ap (λ (l : List (List Pattern)). plans_over p start g.names l (later-with version)) r

      next-long : (version : ℕ) → length (own-at version) ≤ length (rest-plan (later-with version))
      next-long version =
          let e = ap (λ (l : List Address). length l) (next-plan version) in
          let a = length-append (own-at version) more-plan in
          omega (arith, e, a)

      next-tries : (version : ℕ) → tries_of options (own-at version) ≤ tries_of options (rest-plan (later-with version))
      next-tries version =
          let e = ap (λ (l : List Address). tries_of options l) (next-plan version) in
          let a = tries-both options (own-at version) more-plan in
          omega (arith, e, a)

      next-versions : (version : ℕ) → IsVersionOf p.history version → AreVersions p.history g (c.versions ++ later-with version)
      next-versions version is =
          with-later (later-with version) (is, behind-it.1) (let e = ap (λ (l : List (List Pattern)). length l) r in let n = behind-it.2 in omega (arith, e, n))

      next-done : (version n : ℕ) → Onward start n s.between now → DoneFor options (own-at version) s.between now → DoneFor options (rest-plan (later-with version)) s.between now
      next-done version n on d = subst (λ (l : List Address). DoneFor options l s.between now) (sym (next-plan version)) (done-more start n options s.between now on (own-at version) more-plan d)

      -- what the block asks for is of the plan
      among : (version : ℕ) (x : Address) → Contains (own-at version) x → Contains (plan-with (later-with version)) x
      among version x h =
          subst (λ (l : List Address). Contains l x) (sym (plan-is (later-with version)))
          (Contains-append_right asked-plan (rest-plan (later-with version)) x
          (subst (λ (l : List Address). Contains l x) (sym (next-plan version)) (Contains-append_left (own-at version) more-plan x h)))

      all-own : (P : Address → Type 0) (version : ℕ) → AllByRecursion P (plan-with (later-with version)) → AllByRecursion P (own-at version)
      all-own P version all = all_from P (own-at version) (λ x h. all_in P (plan-with (later-with version)) x all (among version x h))

      in-versions : (version : ℕ) → Contains (c.versions ++ later-with version) version
      in-versions version = Contains-append_right c.versions (later-with version) version (at_head version behind-it.0)

      module _ (version : ℕ) (are : AreVersions p.history g (c.versions ++ later-with version)) where
        -- where the versions of all blocks answer the whole plan, this version answers that of the block
        own-answered : (choice : ℕ) → choice ≡ version → AllByRecursion (AtChosen (group_offer p g start) (c.versions ++ later-with version) IsAnsweredAt) (plan-with (later-with version))
            → AllByRecursion (AtChosen (server_offer p (block_query g.names ps) start) choice IsAnsweredAt) (own-at choice)
        own-answered choice same all =
            subst (λ (n : ℕ). AllByRecursion (AtChosen (server_offer p (block_query g.names ps) start) n IsAnsweredAt) (own-at n)) (sym same)
            (all_so (AtChosen (group_offer p g start) (c.versions ++ later-with version) IsAnsweredAt) (AtChosen (server_offer p (block_query g.names ps) start) version IsAnsweredAt)
            (λ address holds. λ server told stands has. holds server told stands (subst (λ (n : ℕ). Contains (c.versions ++ later-with version) n) (sym has) (in-versions version)))
            (own-at version) (all-own (AtChosen (group_offer p g start) (c.versions ++ later-with version) IsAnsweredAt) version all))

        -- the page that the block's version has is gone
        own-gone : (server : Publisher) (choice : ℕ) (address : Address) (why : ReplyFault) → choice ≡ version → IsPageGone (server_offer p (block_query g.names ps) start) choice server address why → IsPageGone (group_offer p g start) (c.versions ++ later-with version) server address why
        own-gone server choice address why same h = record {
          is_fault = h.is_fault;
          version = h.version;
          has = subst (λ (n : ℕ). Contains (c.versions ++ later-with version) n) (sym (h.has ∙ same)) (in-versions version);
          other = h.other;
          is_other = h.is_other;
          fewer = h.fewer;
        }

        -- a cause over an honest wire, of the whole plan
        own-honest : (own : ClientFault) (h : IsHonestCause (server_offer p (block_query g.names ps) start) (left_by options s.done) own) → IsHonestCauseOf (server_offer p (block_query g.names ps) start) (left_by options s.done) version own h
            → (x : IsHonestCause (group_offer p g start) options (of_block options.budget own)) × IsHonestCauseOf (group_offer p g start) options (c.versions ++ later-with version) (of_block options.budget own) x
        own-honest faults.Exchange h same = (tt, tt)
        own-honest faults.Stalled h same = (tt, tt)
        own-honest (faults.Cut received) h same = (tt, tt)
        own-honest (faults.Reply why received) h same = (
          record {
            choice = c.versions ++ later-with version;
            is_choice = are;
            too_long = λ all. h.too_long (subst (λ (n : ℕ). AllByRecursion (AtEach (server_offer p (block_query g.names ps) start) IsAnswerable) (own-at n)) (sym same) (all-own (AtEach (server_offer p (block_query g.names ps) start) IsAnswerable) version all));
            long = λ all.
                let k = h.long (subst (λ (n : ℕ). AllByRecursion (AtEach (server_offer p (block_query g.names ps) start) IsAnswerable) (own-at n)) (sym same) (all-own (AtEach (server_offer p (block_query g.names ps) start) IsAnswerable) version all)) in
                record {
                  address = k.address;
                  is_asked = among version k.address (subst (λ (n : ℕ). Contains (own-at n) k.address) same k.is_asked);
                  server = k.server;
                  stands = k.stands;
                  long = k.long;
                };
            why = λ all.
                let k = h.why (own-answered h.choice same all) in
                record {
                  address = k.address;
                  is_asked = among version k.address (subst (λ (n : ℕ). Contains (own-at n) k.address) same k.is_asked);
                  server = k.server;
                  stands = k.stands;
                  why = ⊎_elim
                      (λ (l : IsLongAnswer k.server options.max_body k.address why received). let r : IsLongAnswer k.server options.max_body k.address why received ⊎ IsPageGone (group_offer p g start) (c.versions ++ later-with version) k.server k.address why = inl l in r)
                      (λ (l : IsPageGone (server_offer p (block_query g.names ps) start) h.choice k.server k.address why). inr (own-gone k.server h.choice k.address why same l)) k.why;
                };
          },
          refl,
        )
        own-honest (faults.Page why body) h same = (
          record {
            choice = c.versions ++ later-with version;
            is_choice = are;
            unread = λ all. h.unread (subst (λ (n : ℕ). AllByRecursion (AtEach (server_offer p (block_query g.names ps) start) IsReadByAll) (own-at n)) (sym same) (all-own (AtEach (server_offer p (block_query g.names ps) start) IsReadByAll) version all));
          },
          refl,
        )
        own-honest (faults.Changed first other) h same = (
          record {
            choice = c.versions ++ later-with version;
            is_choice = are;
            address = h.address;
            server = h.server;
            stands = h.stands;
            versions = h.versions;
            is_chosen = subst (λ (n : ℕ). Contains (c.versions ++ later-with version) n) (sym (h.is_chosen ∙ same)) (in-versions version);
          },
          refl,
        )
        own-honest (faults.Budget n) h same = (tt, tt)
        own-honest faults.Sink h same = (tt, tt)
        own-honest faults.OutOfMemory h same = (tt, tt)

        -- and over a lively one
        own-lively : (own : ClientFault) → since.nature.lively ≡ true → (h : IsLivelyCause (server_offer p (block_query g.names ps) start) (left_by options s.done) s.between now own)
            → IsLivelyCauseOf (server_offer p (block_query g.names ps) start) (left_by options s.done) s.between now version own h
            → (x : IsLivelyCause (group_offer p g start) options since now (of_block options.budget own)) × IsLivelyCauseOf (group_offer p g start) options since now (c.versions ++ later-with version) (of_block options.budget own) x
        own-lively faults.Exchange alive h same = (rose-later (options.retries + 1) since.faults s.between.faults now.faults before.moves.faults h, tt)
        own-lively faults.Stalled alive h same = absurd h
        own-lively (faults.Cut received) alive h same = (rose-later (options.retries + 1) since.faults s.between.faults now.faults before.moves.faults h, tt)
        own-lively (faults.Reply why received) alive h same = (tt, tt)
        own-lively (faults.Page why body) alive h same = (tt, tt)
        own-lively (faults.Changed first other) alive h same = (tt, tt)
        own-lively (faults.Budget n) alive h same =
            over-with (later-with version) h.rises (length (own-at version)) alive are h.rose (subst (λ (v : ℕ). options.budget - requests_of s.done < length (own-at v) + h.rises) same h.over) (next-long version)
        own-lively faults.Sink alive h same = (tt, tt)
        own-lively faults.OutOfMemory alive h same = (tt, tt)

        -- and what a budget that is spent is less than
        own-spent : (own : ClientFault) (h : ForBudget (SpendsPlan (server_offer p (block_query g.names ps) start) (left_by options s.done)) own) → IsSpentOf (server_offer p (block_query g.names ps) start) (left_by options s.done) version own h
            → (x : ForBudget (SpendsPlan (group_offer p g start) options) (of_block options.budget own)) × IsSpentOf (group_offer p g start) options (c.versions ++ later-with version) (of_block options.budget own) x
        own-spent faults.Exchange h same = (tt, tt)
        own-spent faults.Stalled h same = (tt, tt)
        own-spent (faults.Cut received) h same = (tt, tt)
        own-spent (faults.Reply why received) h same = (tt, tt)
        own-spent (faults.Page why body) h same = (tt, tt)
        own-spent (faults.Changed first other) h same = (tt, tt)
        own-spent (faults.Budget n) h same =
            spent-with (later-with version) (tries_of options (own-at version)) are (subst (λ (v : ℕ). options.budget - requests_of s.done < tries_of options (own-at v)) same h.tries) (next-tries version)
        own-spent faults.Sink h same = (tt, tt)
        own-spent faults.OutOfMemory h same = (tt, tt)

      -- the call for it ended
      ended-in : (own : ClientFault) → fault ≡ of_block options.budget own → (ends : EndsBlock allows (left_by options s.done) start (block_query g.names ps) own s.between now) → EndDone s.done (requests_of s.done + ends.acts.happened.pool.started) fault since now
      ended-in own e ends =
          let acts = ends.acts.plan in
          let left = options.budget - requests_of s.done in
          let version = version-asked p allows options start g.names ps left s.between now honest-behind _ (Err own) acts in
          let is = is-version-asked p allows options start g.names ps left s.between now honest-behind _ (Err own) acts in
          let are = next-versions version is in
          let later = later-with version in
          record {
            versions = c.versions ++ later;
            are_versions = are;
            told = tell-first s.done c.versions later c.told;
            done = done-with later (next-done version left behind (block-done p allows options start g.names ps left s.between now honest-behind _ (Err own) acts));
            cause = subst (λ (f : ClientFault). (x : IsHonestCause (group_offer p g start) options f) × IsHonestCauseOf (group_offer p g start) options (c.versions ++ later) f x) (sym e)
                (own-honest version are own (acts.honest_cause p honest-behind) (acts.one_cause p honest-behind));
            counted = λ alive.
                let k = acts.counted p honest-behind (alive-behind alive) in
                let same : k.choice ≡ version = acts.one_count p honest-behind (alive-behind alive) in
                let size : length (own-at k.choice) ≡ length (own-at version) = ap (λ (n : ℕ). length (own-at n)) same in
                let most = next-long version in
                let f = k.few in
                let d = k.dials in
                let h = k.given in
                let started : k.started ≡ ends.acts.happened.pool.started = k.is_started in
                counted-with later ends.acts.happened.pool.started alive (record {
                  rises = k.rises;
                  rose = k.rose;
                  few = omega (arith, size, most, f, started);
                  dials = omega (arith, size, most, d);
                  given = omega (arith, size, most, h);
                });
            lively = λ alive.
                subst (λ (f : ClientFault). (x : IsLivelyCause (group_offer p g start) options since now f) × IsLivelyCauseOf (group_offer p g start) options since now (c.versions ++ later) f x) (sym e)
                (own-lively version are own alive (acts.lively_cause p honest-behind (alive-behind alive)) (acts.one_lively_cause p honest-behind (alive-behind alive)));
            spent = subst (λ (f : ClientFault). (x : ForBudget (SpendsPlan (group_offer p g start) options) f) × IsSpentOf (group_offer p g start) options (c.versions ++ later) f x) (sym e)
                (own-spent version are own (acts.spent_plan p honest-behind) (acts.one_spent p honest-behind));
          }

      -- it gave its rows, and told another version than the first
      differed : (first : BlockRows) (later : List BlockRows) (b : BlockRows) → s.done ≡ first ∷ later → first.report.version ≢ b.report.version → fault ≡ faults.Changed first.report.version b.report.version
          → GivesRows allows (left_by options s.done) start (block_query g.names ps) b s.between now → EndDone s.done (requests_of s.done + b.report.requests) fault since now
      differed first others b d ne e gives =
          let acts = gives.acts.plan in
          let left = options.budget - requests_of s.done in
          let version = version-asked p allows options start g.names ps left s.between now honest-behind _ (Ok b.report) acts in
          let is = is-version-asked p allows options start g.names ps left s.between now honest-behind _ (Ok b.report) acts in
          let told = is-told p allows options start g.names ps left s.between now honest-behind _ b.report acts in
          let are = next-versions version is in
          let later = later-with version in
          let chosen = first-chosen s.done c.versions first others c.told d in
          let on = row-onward allows options start g.names (block_query g.names ps) (left_by options s.done) b s.between now gives in
          record {
            versions = c.versions ++ later;
            are_versions = are;
            told = tell-first s.done c.versions later c.told;
            done = done-with later (next-done version b.report.requests on (block-done p allows options start g.names ps left s.between now honest-behind _ (Ok b.report) acts));
            cause = subst (λ (f : ClientFault). (x : IsHonestCause (group_offer p g start) options f) × IsHonestCauseOf (group_offer p g start) options (c.versions ++ later) f x) (sym e) (
              record {
                choice = c.versions ++ later;
                is_choice = are;
                address = start;
                server = p;
                stands = refl;
                versions = record {
                  one = chosen.0;
                  two = version;
                  is_first = chosen.2;
                  is_other = told;
                  is_one = all_in (IsVersionOf p.history) c.versions chosen.0 c.each chosen.1;
                  is_two = is;
                  differ = λ same. ne (chosen.2 ∙ (ap (λ (n : ℕ). let o : Option ℕ = Some n in o) same ∙ sym told));
                };
                is_chosen = Contains-append_left c.versions later chosen.0 chosen.1;
              },
              refl,
            );
            counted = λ alive.
                let k = (block-answered p allows options start g.names ps left s.between now honest-behind _ b.report acts).paced (alive-behind alive) in
                let most = next-long version in
                let f = k.few in
                let dialled = on.dials in
                let linked = on.given in
                counted-with later b.report.requests alive (record {
                  rises = k.rises;
                  rose = k.rose;
                  few = omega (arith, most, f);
                  dials = omega (arith, most, f, dialled);
                  given = omega (arith, most, f, linked);
                });
            lively = λ alive. subst (λ (f : ClientFault). (x : IsLivelyCause (group_offer p g start) options since now f) × IsLivelyCauseOf (group_offer p g start) options since now (c.versions ++ later) f x) (sym e) (tt, tt);
            spent = subst (λ (f : ClientFault). (x : ForBudget (SpendsPlan (group_offer p g start) options) f) × IsSpentOf (group_offer p g start) options (c.versions ++ later) f x) (sym e) (tt, tt);
          }

      -- nothing of the budget is left for it
      spent-before : now ≡ s.between → requests_of s.done ≡ options.budget → fault ≡ faults.Budget options.budget → EndDone s.done (requests_of s.done + 0) fault since now
      spent-before is spent e =
          let some : 1 ≤ length (rest-plan (ones is).0) = some-plan in
          let tries = some-tries options.retries (length (rest-plan (ones is).0)) some in
          bare is (faults.Budget options.budget) (tt, tt)
          (λ alive. over-with (ones is).0 0 (length (rest-plan (ones is).0)) alive (none-versions is) (none-rises is) (omega (arith, spent, some)) (omega arith))
          (spent-with (ones is).0 (tries_of options (rest-plan (ones is).0)) (none-versions is) (omega (arith, spent, tries)) (omega arith))
          e
        where
          -- there is something to ask for
          some-of : (rest : List (List Pattern)) (ws : List ℕ) → rest ≡ ps ∷ more → length ws ≡ length rest → 1 ≤ length (plans_over p start g.names rest ws)
          some-of [] ws is_rest n = cc
          some-of (qs ∷ rest) [] is_rest n = absurd (omega (arith, n))
          some-of (qs ∷ rest) (v ∷ ws) is_rest n = omega arith

          some-plan : 1 ≤ length (rest-plan (ones is).0)
          some-plan = some-of s.rest (ones is).0 r (ones is).2

    pub end-done : EndDone s.done (requests_of s.done + started_last allows options start g.names s.done s.rest fault s.between now s.stops) fault since now
    end-done = by s.stops
      where
        by : (stops : Stops allows options start g.names s.done s.rest fault s.between now) → EndDone s.done (requests_of s.done + started_last allows options start g.names s.done s.rest fault s.between now stops) fault since now
        by (InBlock ps more own r e ends) = ended-in ps more r own e ends
        by (IsSpent ps more r spent e is) = spent-before ps more r is spent e
        by (Differs ps more first later b r d ne e gives) = differed ps more r first later b d ne e gives
        by (IsLacking e is) = bare is faults.OutOfMemory (tt, tt) (λ alive. (tt, tt)) (tt, tt) e
        by (IsUnwritten r e is) = bare is faults.Sink (tt, tt) (λ alive. (tt, tt)) (tt, tt) e
