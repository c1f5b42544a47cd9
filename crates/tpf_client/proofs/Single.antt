-- A call with one start, over a wire to one server.
use Rattle.std.proofs.Common.{ℕ, ◌≡◌, ◌≤◌, ◌<◌, ◌^◌, Bool, true, List, [], ◌∷◌, length, Option, refl, sym, ap, subst, ◌∙◌}
use Rattle.std.proofs.lemmas.Bool.{eqb-true}
use Rattle.std.specs.Prelude.{Result, IfOk, IfErr, IsErrOf}
use Rattle.tpf_base.specs.Addresses.{Address}
use Rattle.tpf_base.specs.Links.{All, WireState}
use Rattle.tpf_base.specs.Wrote.{SinkState}
use Rattle.template_fill.specs.Bodies.{version_of}
use Rattle.bgp_core.specs.Queries.{QueryData}
use Rattle.bgp_core.specs.Solutions.{Places}
use Rattle.tpf_client.specs.declared.options.Options.{Options}
use Rattle.tpf_client.specs.declared.options.Report.{Report}
use Rattle.tpf_client.specs.declared.fault.ClientFault.{ClientFault}
use Rattle.tpf_client.specs.declared.fault.ClientFault.TheVariants as faults
use Rattle.tpf_client.specs.Traffic.{IsLawful}
use Rattle.tpf_client.specs.Sources.{world_sources}
use Rattle.tpf_client.specs.Calls.{Happened, AreThese, Returns, WritesSome, most_asked}
use Rattle.request_plan.specs.Blocks.{IsBlockSize}
use Rattle.request_plan.specs.Evaluations.{HasHome}
use Rattle.tpf_client.specs.Offers.{Publisher, IsVersionOf, Offer, offer_in_blocks}
use Rattle.tpf_client.specs.Ends.{ends_in_blocks}
use Rattle.tpf_client.specs.Honest.{Laws, IsHonestWire}
use Rattle.tpf_client.specs.Requests.{TrafficLaws}
use Rattle.tpf_client.specs.Ended.{WritesEnded, GivesEnded, WritesOverEnds, GivesOverEnds}
use Rattle.tpf_client.specs.Plans.{RisesFew, ChoiceFits, PacesRequests}
use Rattle.tpf_client.specs.Still.{only, AnswersOver, IsWant, PacesChoice}
use Rattle.tpf_client.proofs.Covered.{Covered}
use Rattle.tpf_client.proofs.Honesty.{ServesAt}
use Rattle.tpf_client.proofs.Planned.{ExplainedRun, some-explained}
use Rattle.tpf_client.proofs.Exits.{at-whole}
use Rattle.tpf_client.proofs.LivelyCauses.{paces-so}
use Rattle.tpf_client.proofs.Shutting.{if-ok-from, if-err-from}
use Rattle.tpf_client.proofs.Still.{ServesOnly, wants}
use Rattle.tpf_client.proofs.Serving.{some_offer, server-covered, offer-covered, covered-served}
use Rattle.tpf_client.proofs.Clauses.{writes-over, gives-over, most-one}

module _ (laws : Laws) (traffic : TrafficLaws) (allows : List ℕ → ℕ → List ℕ → List ℕ → Type 0) (options : Options) (since now : WireState) (lawful : IsLawful allows since) (limit : options.max_body < 2 ^ 64) (start : Address) (q : QueryData) (block : ℕ) (sized : IsBlockSize block) where
  -- what an honest server offers covers the call
  pub covers : (p : Publisher) → IsHonestWire allows start p.history p.config since → Covered (world_sources block) (offer_in_blocks block p q start) allows options since now (start ∷ []) q
  covers p honest = server-covered laws allows options since now lawful limit p start honest q block sized

  pub writes-single : 1 ≤ options.links → (result : Result Report ClientFault) (out out' : SinkState) → WritesEnded allows (world_sources block) q (start ∷ []) options result since now out out'
      → WritesOverEnds allows (ends_in_blocks block q start) (world_sources block) q (start ∷ []) options (most_asked options q) result since now out out'
  writes-single some result out out' w = writes-over laws traffic allows options since now lawful (start ∷ []) (world_sources block) q limit some (ends_in_blocks block q start) covers (most_asked options q) (most-one options q start) result out out' w

  pub gives-single : 1 ≤ options.links → {A : Type 0} (result : Result A ClientFault) (told : A → Report) (rows : A → List Places) → GivesEnded allows (world_sources block) q (start ∷ []) options result told rows since now
      → GivesOverEnds allows (ends_in_blocks block q start) (world_sources block) q (start ∷ []) options (most_asked options q) result told rows since now
  gives-single some result told rows w = gives-over laws traffic allows options since now lawful (start ∷ []) (world_sources block) q limit some (ends_in_blocks block q start) covers (most_asked options q) (most-one options q start) result told rows w

  -- ---- one version is served

  module _ (p : Publisher) (version : ℕ) (over : AnswersOver allows start p version) (tells : since.nature.tells ≡ All) where
    serves : ServesAt allows start p.history p.config (only version) since
    serves = record {
      tells = tells;
      is_history = over.is_history;
      is_config = over.is_config;
      few = λ other is. subst (λ (n : ℕ). length (version_of p.history n) < 2 ^ 64) (sym (eqb-true other version is)) over.few;
      is_honest = over.is_honest;
    }

    abbrev IsOne : ℕ → Type 0
    IsOne other = version ≡ other

    abbrev one-offer : Offer
    one-offer = some_offer IsOne block p q start

    covered : Covered (world_sources block) one-offer allows options since now (start ∷ []) q
    covered =
        offer-covered laws allows options since now lawful limit p start (only version) serves q block sized IsOne (λ other is served. sym (eqb-true other version served))
        (λ other is. subst (λ (n : ℕ). IsVersionOf p.history n) is over.is_version) version refl

    served-there : (address : Address) (own : HasHome (start ∷ []) address) → (covered.stands address own).served ≡ only version
    unfolding covered
    served-there address own =
        covered-served laws allows options since now lawful limit p start (only version) serves q block sized IsOne (λ other is served. sym (eqb-true other version served))
        (λ other is. subst (λ (n : ℕ). IsVersionOf p.history n) is over.is_version) version refl address own

    serves-only : ServesOnly laws traffic allows options since now lawful limit (start ∷ []) (world_sources block) one-offer q covered version
    serves-only = record {
      alone = λ other is. is;
      served = λ address own other is. eqb-true other version (sym (ap (λ (test : ℕ → Bool). test other) (served-there address own)) ∙ is);
      one = λ address own a b e f. e ∙ sym f;
    }

    pub wants-so : {A : Type 0} (h : Happened allows options (start ∷ []) since now) (result : Result A ClientFault) (t u : Option (List ℕ)) (alive : since.nature.lively ≡ true) (rise : ℕ) → RisesFew options rise since now → ChoiceFits (offer_in_blocks block p q start) options rise version
        → IfErr result (λ fault. WritesSome (AreThese h.events h.pool) (world_sources block) q (start ∷ []) options.budget fault t u) → (IsErrOf result faults.Sink → ⊥) → IfErr result IsWant
    wants-so h result t u alive rise few fits err sink =
        wants laws traffic allows options since now lawful limit (start ∷ []) (world_sources block) one-offer q covered rise few alive result version serves-only (record { fit = fits.fit; within = fits.within })
        (if-err-from result (λ fault. WritesSome (AreThese h.events h.pool) (world_sources block) q (start ∷ []) options.budget fault t u) (λ fault. ExplainedRun allows one-offer options since now (start ∷ []) fault) err
        (λ fault w. some-explained allows (world_sources block) one-offer options since now (start ∷ []) q covered h fault t u w)) sink

    -- what is paced by a choice of the offer that has this version alone is paced by this version
    paces-choice : (report : Report) → PacesRequests one-offer report since now → PacesChoice (offer_in_blocks block p q start) version report since now
    paces-choice report c = record {
      paces = record {
        choice = c.choice;
        is_choice = subst (λ (n : ℕ). IsVersionOf p.history n) c.is_choice over.is_version;
        is_reported = c.is_reported;
        each = c.each;
        rises = c.rises;
        rose = c.rose;
        few = c.few;
        exact = c.exact;
      };
      is_choice = sym c.is_choice;
    }

    pub paces-still : {A : Type 0} (h : Happened allows options (start ∷ []) since now) (result : Result A ClientFault) (told : A → Report) (rows : A → List Places) → since.nature.lively ≡ true
        → IfOk result (λ x. Returns (AreThese h.events h.pool) (world_sources block) q (start ∷ []) (told x) (rows x)) → IfOk result (λ x. PacesChoice (offer_in_blocks block p q start) version (told x) since now)
    paces-still h result told rows alive ok =
        if-ok-from result (λ x. Returns (AreThese h.events h.pool) (world_sources block) q (start ∷ []) (told x) (rows x)) (λ x. PacesChoice (offer_in_blocks block p q start) version (told x) since now) ok
        (λ x r. paces-choice (told x) (paces-so laws traffic allows options since now lawful limit (start ∷ []) (world_sources block) one-offer q covered alive (told x) (at-whole allows options since now (start ∷ []) (world_sources block) q h one-offer covered (told x) (rows x) r)))
