-- Where a plan fits and the faults of the wire are few, nothing is left over an honest and lively wire but want of memory and versions that differ.
use Rattle.std.proofs.Common.{ℕ, ◌≡◌, ◌≤◌, ◌<◌, ◌+◌, ◌-◌, ◌^◌, List, length, refl, sym, ap, ◌∙◌, arith}
use Rattle.std.specs.Prelude.{Result, Ok, Err, IfErr, IsErrOf}
use Rattle.list_laws.proofs.Each.{all_so}
use Rattle.list_laws.proofs.Told.{all_in}
use Rattle.tpf_base.specs.Addresses.{Address}
use Rattle.tpf_base.specs.Causes.{RoseBy}
use Rattle.tpf_base.specs.Links.{WireState}
use Rattle.tpf_base.specs.Marks.{version_at}
use Rattle.http_wire.specs.declared.message.ReplyFault.{ReplyFault}
use Rattle.template_fill.specs.HttpAnswer.{Answer}
use Rattle.pool_laws.specs.Answers.{HasLongBody}
use Rattle.tpf_client.specs.declared.options.Options.{Options}
use Rattle.tpf_client.specs.declared.fault.ClientFault.{ClientFault}
use Rattle.tpf_client.specs.declared.fault.ClientFault.TheVariants as faults
use Rattle.tpf_client.specs.Offers.{Publisher, Offer}
use Rattle.tpf_client.specs.Plans.{AtEach, IsAnswerable, IsReadByAll, IsSmallByAll, IsFit, answer_at, RefusesLong, MissesPage, OverrunsPlan, IsHonestCause, IsLivelyCause, PlanFits, RisesFew, MayStill}

-- so many rises are not among so few
pub not-so-many : (retries before now rise : ℕ) → now ≡ before + rise → now < 2 ^ 64 - 1 → rise ≤ retries → RoseBy (retries + 1) before now → ⊥
not-so-many retries before now rise e c f h = omega (arith, e, c, f, h)

pub not-over : (before now rise rises most budget : ℕ) → now ≡ before + rise → now < 2 ^ 64 - 1 → RoseBy rises before now → most + rise ≤ budget → budget < most + rises → ⊥
not-over before now rise rises most budget e c h w o = omega (arith, e, c, h, w, o)

pub too-long : (most n m : ℕ) → most < n → n ≡ m → m ≤ most → ⊥
too-long most n m l e s = omega (arith, l, e, s)

module _ (offer : Offer) (options : Options) (since now : WireState) (rise : ℕ) (few : RisesFew options rise since now) (fits : PlanFits offer options rise) where
  -- a body that is longer than each may be
  not-long : (server : Publisher) (address : Address) (received : List ℕ) → HasLongBody server.history server.config options.max_body address received → IsSmallByAll options.max_body server address → ⊥
  not-long server address received b small =
      let version = version_at b.is_body.mark in
      let is = small version (record { low = b.is_body.version.low; high = b.is_body.version.high }) (sym (ap (λ (a : Answer). a.status) b.is_body.served) ∙ b.is_body.status) in
      let same : length b.body ≡ length (answer_at server version address).body = ap (λ (l : List ℕ). length l) (b.is_body.body_is ∙ ap (λ (a : Answer). a.body) b.is_body.served) in
      too-long options.max_body (length b.body) (length (answer_at server version address).body) b.long same is

  not-refused : (fault : ReplyFault) (received : List ℕ) → RefusesLong offer options fault received → ⊥
  not-refused fault received h =
      let addresses = offer.addresses h.choice in
      let all = fits.fit h.choice h.is_choice in
      let long = h.long (all_so (AtEach offer (IsFit options.max_body)) (AtEach offer IsAnswerable) (λ address f. λ server stands. (f server stands).is_answered) addresses all) in
      let f = all_in (AtEach offer (IsFit options.max_body)) addresses long.address all long.is_asked in
      not-long long.server long.address received long.long (f long.server long.stands).is_small

  not-missed : MissesPage offer → ⊥
  not-missed h = h.unread (all_so (AtEach offer (IsFit options.max_body)) (AtEach offer IsReadByAll) (λ address f. λ server stands. (f server stands).is_read) (offer.addresses h.choice) (fits.fit h.choice h.is_choice))

  not-spent : OverrunsPlan offer options since now → ⊥
  not-spent h = not-over since.faults now.faults rise h.rises (length (offer.addresses h.choice)) options.budget few.is_rise few.counted h.rose (fits.within h.choice h.is_choice) h.over

  still : (fault : ClientFault) → IsHonestCause offer options fault → IsLivelyCause offer options since now fault → (fault ≡ faults.Sink → ⊥) → MayStill offer fault
  still faults.Exchange h l s = not-so-many options.retries since.faults now.faults rise few.is_rise few.counted few.few l
  still faults.Stalled h l s = l
  still (faults.Cut received) h l s = not-so-many options.retries since.faults now.faults rise few.is_rise few.counted few.few l
  still (faults.Reply fault received) h l s = not-refused fault received h
  still (faults.Page fault body) h l s = not-missed h
  still (faults.Changed first other) h l s = h
  still (faults.Budget n) h l s = not-spent l
  still faults.Sink h l s = s refl
  still faults.OutOfMemory h l s = tt

  pub completes : {A : Type 0} (result : Result A ClientFault) → IfErr result (IsHonestCause offer options) → IfErr result (IsLivelyCause offer options since now) → (IsErrOf result faults.Sink → ⊥) → IfErr result (MayStill offer)
  completes {A} (Ok x) h l s = tt
  completes {A} (Err fault) h l s = still fault h l (λ e. s (let r : ◌≡◌ {A = Result A ClientFault} (Err fault) (Err faults.Sink) = cc in r))
