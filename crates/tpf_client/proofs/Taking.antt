-- The page of a reply is handed to the evaluation.
use Rattle.std.proofs.Common.{ℕ, ◌≡◌, ◌≢◌, Option, Some, None, List, [], ◌∷◌, refl, subst, ◌∙◌, ⊎_elim}
use Rattle.std.specs.Prelude.{IfSome}
use Rattle.std.specs.List.{All, AllByRecursion, Contains}
use Rattle.std.proofs.lemmas.List.Elements.{recursion_from_All}
use Rattle.list_laws.proofs.Members.{head_or_tail, none_in}
use Rattle.tpf_base.specs.Addresses.{Address}
use Rattle.template_fill.specs.Authorities.{ShareAuthority}
use Rattle.control_reader.specs.Authorities.{KeepsAuthority}
use Rattle.fragment_page.specs.declared.page.Page.{Page}
use Rattle.control_reader.specs.Takes.{Takes}
use Rattle.request_plan.specs.Evaluations.{Account, Standing, HasHome, NextAtHome, StandsAfterAnswer, OwesAfterAnswer}
use Rattle.request_plan.specs.declared.evaluation.Answered.{Answered}
use Rattle.request_plan.specs.declared.evaluation.Answered.TheVariants as answers
use Rattle.tpf_client.specs.declared.asks.Arrived.{Arrived}
use Rattle.tpf_client.specs.declared.fault.ClientFault.{ClientFault}
use Rattle.tpf_client.specs.declared.fault.ClientFault.TheVariants as faults
use Rattle.tpf_client.specs.Asking.{IsReadFault}
use Rattle.tpf_client.specs.Causes.{IsTakeFault, Versions}
use Rattle.tpf_client.specs.Turns.{Limits, TakesReply}

share-then : (a b c : Address) → ShareAuthority a b → ShareAuthority b c → ShareAuthority a c
share-then a b c p q = record { host = q.host ∙ p.host; port = q.port ∙ p.port }

next-home : (homes : List Address) (address : Address) (next : Option Address) → HasHome homes address → IfSome next (λ n. ShareAuthority address n) → NextAtHome homes next
next-home homes address None h s = tt
next-home homes address (Some n) h s = (h.0, h.1, share-then h.0 address n h.2 s)

apart-out : (t : ℕ) (out : List ℕ) → AllByRecursion (λ u. (u ≡ t) → ⊥) out → Contains out t → ⊥
apart-out t [] h m = none_in t m
apart-out t (u ∷ out) h m = ⊎_elim (λ (e : u ≡ t). h.0 e) (λ (n : Contains out t). apart-out t out h.1 n) (head_or_tail u t out m)

-- a ticket that is out is no stranger
pub no-stranger : (a : Answered) (s s' : Standing) (t : ℕ) → a ≡ answers.Stranger → StandsAfterAnswer s s' t a → Contains s.out t → ⊥
no-stranger a s s' t e h m =
    let k : (s' ≡ s) × All (λ u. (u ≡ t) → ⊥) s.out = subst (λ (x : Answered). StandsAfterAnswer s s' t x) e h in
    apart-out t s.out (recursion_from_All (λ u. (u ≡ t) → ⊥) s.out k.1) m

pub take-fault : (arrived : Arrived) (versions : Versions) (fault : ClientFault) → IsReadFault arrived fault → IsTakeFault arrived versions fault
take-fault arrived versions faults.Exchange e = absurd e
take-fault arrived versions faults.Stalled e = absurd e
take-fault arrived versions (faults.Cut received) e = absurd e
take-fault arrived versions (faults.Reply fault received) e = absurd e
take-fault arrived versions (faults.Page fault body) e = e
take-fault arrived versions (faults.Changed one other) e = absurd e
take-fault arrived versions (faults.Budget n) e = absurd e
take-fault arrived versions faults.Sink e = absurd e
take-fault arrived versions faults.OutOfMemory e = tt

pub changed-fault : (arrived : Arrived) (version : Option ℕ) (page : Page) → Takes arrived.reply.body arrived.address page → version ≢ page.version → IsTakeFault arrived (λ address. version) (faults.Changed version page.version)
changed-fault arrived version page t n = (refl, n, (page, t, refl))

pub takes-page : {Source Eval : Type 0} (suits : Source → Eval → Type 0) (account : Source → Eval → Account) (keeps : Limits → Eval → Type 0) (standing : Eval → Standing) (is_true : Source → Address → Page → Type 0)
    (old new : Eval) (arrived : Arrived) (version : Option ℕ) (page : Page) (a : Answered) → a ≡ answers.Taken → Takes arrived.reply.body arrived.address page → page.version ≡ version → KeepsAuthority arrived.address page
    → StandsAfterAnswer (standing old) (standing new) arrived.ticket a
    → ((limits : Limits) → keeps limits old → NextAtHome limits.terms.homes page.next → keeps limits new)
    → ((source : Source) → suits source old → ((address : Address) → Contains (account source old).out (arrived.ticket, address) → is_true source address page) → suits source new)
    → ((source : Source) → suits source old → ((address : Address) → Contains (account source old).out (arrived.ticket, address) → is_true source address page) → OwesAfterAnswer (account source old) (account source new) arrived.ticket a)
    → TakesReply suits account keeps standing is_true old new arrived (λ address. version)
takes-page suits account keeps standing is_true old new arrived version page a e t v home stands k stays owes = record {
  page = page;
  taken = t;
  is_version = v;
  ends = subst (λ (x : Answered). StandsAfterAnswer (standing old) (standing new) arrived.ticket x) e stands;
  kept = λ limits kept h. k limits kept (next-home limits.terms.homes arrived.address page.next h home.next);
  stays = stays;
  owes = λ source h for. subst (λ (x : Answered). OwesAfterAnswer (account source old) (account source new) arrived.ticket x) e (owes source h for);
}

-- ---- the version is the one that the start page of the server told

pub take-at : (arrived : Arrived) (version : Option ℕ) (versions : Versions) → version ≡ versions arrived.address → (fault : ClientFault) → IsTakeFault arrived (λ address. version) fault → IsTakeFault arrived versions fault
take-at arrived version versions e faults.Exchange h = absurd h
take-at arrived version versions e faults.Stalled h = absurd h
take-at arrived version versions e (faults.Cut received) h = absurd h
take-at arrived version versions e (faults.Reply fault received) h = absurd h
take-at arrived version versions e (faults.Page fault body) h = h
take-at arrived version versions e (faults.Changed first other) h = (h.0 ∙ e, h.1, h.2)
take-at arrived version versions e (faults.Budget n) h = absurd h
take-at arrived version versions e faults.Sink h = absurd h
take-at arrived version versions e faults.OutOfMemory h = tt

pub takes-at : {Source Eval : Type 0} (suits : Source → Eval → Type 0) (account : Source → Eval → Account) (keeps : Limits → Eval → Type 0) (standing : Eval → Standing) (is_true : Source → Address → Page → Type 0)
    (old new : Eval) (arrived : Arrived) (version : Option ℕ) (versions : Versions) → version ≡ versions arrived.address → TakesReply suits account keeps standing is_true old new arrived (λ address. version) → TakesReply suits account keeps standing is_true old new arrived versions
takes-at suits account keeps standing is_true old new arrived version versions e t = record {
  page = t.page;
  taken = t.taken;
  is_version = t.is_version ∙ e;
  ends = t.ends;
  kept = t.kept;
  stays = t.stays;
  owes = t.owes;
}
