-- Where each server answers over the version alone that one choice has of it, and what this has to ask for fits, a call over a lively wire ends with want of memory alone.
use Rattle.std.proofs.Common.{ℕ, ◌≡◌, ◌<◌, ◌^◌, List, length, Option, Some, true, refl, sym, ap, subst, ◌∙◌}
use Rattle.std.specs.Prelude.{Result, Ok, Err, IfErr, IsErrOf}
use Rattle.list_laws.proofs.Told.{all_in}
use Rattle.tpf_base.specs.Addresses.{Address}
use Rattle.tpf_base.specs.Links.{WireState}
use Rattle.tpf_base.specs.Marks.{Mark, version_at}
use Rattle.http_wire.specs.declared.message.ReplyFault.{ReplyFault}
use Rattle.http_ends.specs.Requests.{asks}
use Rattle.template_fill.specs.HttpAnswer.{Answer}
use Rattle.template_fill.specs.Answers.{answer_to}
use Rattle.fragment_page.specs.declared.page.PageFault.{PageFault}
use Rattle.control_reader.specs.Takes.{Takes}
use Rattle.bgp_core.specs.Queries.{QueryData}
use Rattle.request_plan.specs.Evaluations.{HasHome}
use Rattle.tpf_client.specs.declared.options.Options.{Options}
use Rattle.tpf_client.specs.declared.fault.ClientFault.{ClientFault}
use Rattle.tpf_client.specs.declared.fault.ClientFault.TheVariants as faults
use Rattle.tpf_client.specs.Traffic.{IsLawful}
use Rattle.tpf_client.specs.Turns.{asked_in}
use Rattle.tpf_client.specs.Causes.{IsNoPage, IsChanged}
use Rattle.tpf_client.specs.Sources.{Sources}
use Rattle.tpf_client.specs.Offers.{Offer}
use Rattle.tpf_client.specs.Honest.{Laws}
use Rattle.tpf_client.specs.Requests.{TrafficLaws}
use Rattle.tpf_client.specs.Plans.{AtChosen, IsFitAt, ChoiceFits, RisesFew, OverrunsPlan, IsLivelyCause, answer_at}
use Rattle.tpf_client.specs.Still.{IsWant}
use Rattle.tpf_client.proofs.Covered.{Covered}
use Rattle.tpf_client.proofs.Planned.{ExplainedRun, in-plan}
use Rattle.tpf_client.proofs.HonestCauses.{refused-at, came-asked, answer-from}
use Rattle.tpf_client.proofs.LivelyCauses.{lively-cause}
use Rattle.tpf_client.proofs.Completing.{not-so-many, not-over, too-long}
use Rattle.tpf_client.proofs.Truth.{ReadsVersion, reads}

module _ (laws : Laws) (traffic : TrafficLaws) (allows : List ℕ → ℕ → List ℕ → List ℕ → Type 0) (options : Options) (since now : WireState) (lawful : IsLawful allows since) (limit : options.max_body < 2 ^ 64) (starts : List Address)
    (sources : Sources) (offer : Offer) (q : QueryData) (covered : Covered sources offer allows options since now starts q) where
  -- this choice is the only one, and each server answers over the one version that it has there
  pub record ServesOnly (choice : offer.Choice) : Type 0 where
    pub alone : (other : offer.Choice) → offer.IsChoice other → choice ≡ other
    pub served : (address : Address) (own : HasHome starts address) (version : ℕ) → (covered.stands address own).served version ≡ true → offer.HasVersion choice address version
    pub one : (address : Address) → HasHome starts address → (a b : ℕ) → offer.HasVersion choice address a → offer.HasVersion choice address b → a ≡ b

  abbrev Run : ClientFault → Type 0
  Run fault = ExplainedRun allows offer options since now starts fault

  module _ (rise : ℕ) (few : RisesFew options rise since now) where
    still-refused : (fault : ReplyFault) (received : List ℕ) (x : Run (faults.Reply fault received)) → ServesOnly x.planned.choice → ChoiceFits offer options rise x.planned.choice → ⊥
    still-refused fault received x serves fits =
        let choice = x.planned.choice in
        let r = refused-at laws traffic allows options since now lawful limit starts sources offer q covered fault received x in
        let s = covered.stands r.address r.own in
        let f = all_in (AtChosen offer choice (IsFitAt options.max_body)) (offer.addresses choice) r.address fits.fit r.inside s.server in
        let first = f (x.versions r.address) s.stands (x.has r.address r.own) in
        let o = r.over first.is_answered.short in
        let version = version_at o.mark in
        let fit = f version s.stands (serves.served r.address r.own version o.is_served) in
        let l = o.page (ap (λ (a : Answer). a.status) o.over ∙ fit.is_answered.answered) in
        let same : length l.long.body ≡ length (answer_at s.server version r.address).body =
        ap (λ (b : List ℕ). length b)
        (l.long.is_body.body_is ∙ (ap (λ (m : Mark). (answer_to s.server.history m s.server.config (asks r.address)).body) l.same ∙ ap (λ (a : Answer). a.body) o.over)) in
        too-long options.max_body (length l.long.body) (length (answer_at s.server version r.address).body) l.long.long same fit.is_small

    still-missed : (fault : PageFault) (body : List ℕ) (x : Run (faults.Page fault body)) → ServesOnly x.planned.choice → ChoiceFits offer options rise x.planned.choice → ⊥
    still-missed fault body x serves fits =
        let run = x.planned.run in
        let choice = x.planned.choice in
        let n : IsNoPage fault body run.events = x.explains in
        let inside = in-plan offer (asked_in run.events) choice x.planned.of_plan n.ask (came-asked laws traffic allows options since now lawful limit starts sources offer q covered run n.ask n.reply n.last) in
        let a = answer-from laws traffic allows options since now lawful limit starts sources offer q covered run n.ask n.reply n.last in
        let s = covered.stands n.ask.address a.own in
        let b = a.body.is_body in
        let version = version_at b.mark in
        let fit = all_in (AtChosen offer choice (IsFitAt options.max_body)) (offer.addresses choice) n.ask.address fits.fit inside s.server version s.stands (serves.served n.ask.address a.own version a.body.is_served) in
        let is : (answer_at s.server version n.ask.address).body ≡ body = sym (ap (λ (x : Answer). x.body) b.served) ∙ (sym b.body_is ∙ n.body_is) in
        laws.never_both body n.ask.address fit.page fault (subst (λ (l : List ℕ). Takes l n.ask.address fit.page) is fit.is_read) n.why

    still-changed : (first other : Option ℕ) (x : Run (faults.Changed first other)) → ServesOnly x.planned.choice → ⊥
    still-changed first other x serves =
        let run = x.planned.run in
        let c : IsChanged (λ address. Some (x.versions address)) first other run.events = x.explains in
        let a = answer-from laws traffic allows options since now lawful limit starts sources offer q covered run c.ask c.reply c.last in
        let s = covered.stands c.ask.address a.own in
        let version = version_at a.body.is_body.mark in
        let r : ReadsVersion laws.given laws.answered laws.only laws.worlds laws.forms laws.pages laws.kept laws.addresses s.server.history s.server.config s.is_history s.is_config c.page version =
        reads laws.given laws.answered laws.only laws.worlds laws.forms laws.pages laws.kept laws.addresses s.server.history s.server.config s.is_history s.is_config c.ask.address c.reply.body c.page a.body.is_body c.taken in
        let same = serves.one c.ask.address a.own (x.versions c.ask.address) version (x.has c.ask.address a.own) (serves.served c.ask.address a.own version a.body.is_served) in
        c.differs (c.first_is ∙ (ap (λ (n : ℕ). Some n) same ∙ (sym r.told ∙ c.version)))

    module _ (alive : since.nature.lively ≡ true) where
      still-spent : (choice : offer.Choice) → ServesOnly choice → ChoiceFits offer options rise choice → OverrunsPlan offer options since now → ⊥
      still-spent choice serves fits h =
          let f : ChoiceFits offer options rise h.choice = subst (λ (c : offer.Choice). ChoiceFits offer options rise c) (serves.alone h.choice h.is_choice) fits in
          not-over since.faults now.faults rise h.rises (length (offer.addresses h.choice)) options.budget few.is_rise few.counted h.rose f.within h.over

      still : (fault : ClientFault) (x : Run fault) → ServesOnly x.planned.choice → ChoiceFits offer options rise x.planned.choice → IsLivelyCause offer options since now fault → (fault ≡ faults.Sink → ⊥) → IsWant fault
      still faults.Exchange x serves fits l s = absurd (not-so-many options.retries since.faults now.faults rise few.is_rise few.counted few.few l)
      still faults.Stalled x serves fits l s = absurd l
      still (faults.Cut received) x serves fits l s = absurd (not-so-many options.retries since.faults now.faults rise few.is_rise few.counted few.few l)
      still (faults.Reply fault received) x serves fits l s = absurd (still-refused fault received x serves fits)
      still (faults.Page fault body) x serves fits l s = absurd (still-missed fault body x serves fits)
      still (faults.Changed first other) x serves fits l s = absurd (still-changed first other x serves)
      still (faults.Budget n) x serves fits l s = absurd (still-spent x.planned.choice serves fits l)
      still faults.Sink x serves fits l s = absurd (s refl)
      still faults.OutOfMemory x serves fits l s = refl

      -- of the choice, whichever is the one of the run
      still-by : (choice : offer.Choice) → ServesOnly choice → ChoiceFits offer options rise choice → (fault : ClientFault) → Run fault → (fault ≡ faults.Sink → ⊥) → IsWant fault
      still-by choice serves fits fault x s =
          let same = serves.alone x.planned.choice x.planned.of_plan.is_choice in
          still fault x (subst (λ (c : offer.Choice). ServesOnly c) same serves) (subst (λ (c : offer.Choice). ChoiceFits offer options rise c) same fits)
          (lively-cause laws traffic allows options since now lawful limit starts sources offer q covered alive fault x) s

      pub wants : {A : Type 0} (result : Result A ClientFault) (choice : offer.Choice) → ServesOnly choice → ChoiceFits offer options rise choice → IfErr result Run → (IsErrOf result faults.Sink → ⊥) → IfErr result IsWant
      wants {A} (Ok x) choice serves fits run s = tt
      wants {A} (Err fault) choice serves fits run s = still-by choice serves fits fault run (λ e. s (let r : ◌≡◌ {A = Result A ClientFault} (Err fault) (Err faults.Sink) = cc in r))
