-- What is left of a sink, one part of a call after another.
use Rattle.std.proofs.Common.{ℕ, ◌≡◌, ◌≤◌, ◌∙◌, List, refl, sym, ap, subst, arith}
use Rattle.std.specs.Prelude.{Result, Ok, Err, OnOk, IsErrOf}
use Rattle.list_laws.proofs.Tests.{same_least}
use Rattle.tpf_base.specs.Causes.{Rose, HasCause, DoesNotFail}
use Rattle.tpf_base.specs.Wrote.{SinkState, WritesWhole}
use Rattle.tpf_base.specs.declared.fault.Fault.{Fault}
use Rattle.tpf_base.specs.declared.fault.Fault.TheVariants as failures
use Rattle.tpf_client.specs.Rows.{sink_fault}
use Rattle.tpf_client.specs.Sinks.{KeepsSink, LeavesSink}
use Rattle.tpf_client.proofs.Going.{err-as, sink-of}
use Rattle.fragment_page.specs.declared.page.Page.{Page}
use Rattle.tpf_client.specs.declared.asks.Arrived.{Arrived}
use Rattle.tpf_client.specs.declared.fault.ClientFault.{ClientFault}
use Rattle.tpf_client.specs.declared.fault.ClientFault.TheVariants as faults
use Rattle.tpf_client.specs.Asking.{ReadsPage, IsReadFault}

not-of-sink : (arrived : Arrived) (fault : ClientFault) → IsReadFault arrived fault → fault ≡ faults.Sink → ⊥
not-of-sink arrived fault h e = subst (λ (x : ClientFault). IsReadFault arrived x) e h

pub read-no-sink : (arrived : Arrived) (r : Result Page ClientFault) → ReadsPage arrived r → IsErrOf r faults.Sink → ⊥
read-no-sink arrived (Ok page) h e = let t : ◌≡◌ {A = Result Page ClientFault} (Ok page) (Err faults.Sink) = e in cc
read-no-sink arrived (Err fault) h e = let t : ◌≡◌ {A = Result Page ClientFault} (Err fault) (Err faults.Sink) = e in let s : fault ≡ faults.Sink = cc in not-of-sink arrived fault h s

ok-no-err : {T E : Type 0} (x : T) (f : E) → IsErrOf {T = T} (Ok x) f → ⊥
ok-no-err {T} {E} x f e = let t : ◌≡◌ {A = Result T E} (Ok x) (Err f) = e in cc

lacking-no-fail : {T : Type 0} → IsErrOf {T = T} (Err failures.OutOfMemory) failures.Failed → ⊥
lacking-no-fail {T} e = let t : ◌≡◌ {A = Result T Fault} (Err failures.OutOfMemory) (Err failures.Failed) = e in cc

-- ---- a sink that did not fail

pub record StaysSink (old new : SinkState) : Type 0 where
  pub faults : new.faults ≡ old.faults
  pub faultless : new.faultless ≡ old.faultless

pub stays-none : (s : SinkState) → StaysSink s s
stays-none s = record { faults = refl; faultless = refl }

pub stays-then : (a b c : SinkState) → StaysSink a b → StaysSink b c → StaysSink a c
stays-then a b c p q = record { faults = q.faults ∙ p.faults; faultless = q.faultless ∙ p.faultless }

pub stays-ok : {T : Type 0} (a b : SinkState) (x : T) → KeepsSink a b (Ok x) → StaysSink a b
stays-ok a b x k = record { faults = k.cause.success; faultless = k.faultless }

pub leaves-stays : {T : Type 0} (a b : SinkState) (x : T) → LeavesSink a b (Ok x) → StaysSink a b
leaves-stays a b x l = record { faults = l.success; faultless = l.faultless }

-- ---- bytes that are handed on

pub writes-keeps : {T : Type 0} (piece : List ℕ) (a b : SinkState) (r : Result T Fault) → WritesWhole piece a b r → KeepsSink a b r
writes-keeps piece a b r w = record { cause = w.cause; faultless = w.faultless; spared = w.spared }

pub keeps-behind : {T : Type 0} (a b c : SinkState) (r : Result T Fault) → StaysSink a b → KeepsSink b c r → KeepsSink a c r
keeps-behind a b c r s k = record {
  cause = subst (λ (n : ℕ). HasCause n c.faults r) s.faults k.cause;
  faultless = k.faultless ∙ s.faultless;
  spared = λ h. subst (λ (n : ℕ). DoesNotFail n c.faults r) s.faults (k.spared (s.faultless ∙ h));
}

pub keeps-ok : {T : Type 0} (a b : SinkState) (x : T) → StaysSink a b → KeepsSink a b (Ok x)
keeps-ok a b x s = record {
  cause = record { later = same_least a.faults b.faults s.faults; success = s.faults; failed = λ e. absurd (ok-no-err x failures.Failed e); memory = λ e. s.faults };
  faultless = s.faultless;
  spared = λ h. record { same = s.faults; answer = λ e. cc };
}

pub keeps-memory : {T : Type 0} (a b : SinkState) → StaysSink a b → KeepsSink {T = T} a b (Err failures.OutOfMemory)
keeps-memory a b s = record {
  cause = record { later = same_least a.faults b.faults s.faults; success = tt; failed = λ e. absurd (lacking-no-fail e); memory = λ e. s.faults };
  faultless = s.faultless;
  spared = λ h. record { same = s.faults; answer = λ e. cc };
}

-- ---- parts of a call

pub leaves-behind : {T : Type 0} (a b c : SinkState) (r : Result T ClientFault) → StaysSink a b → LeavesSink b c r → LeavesSink a c r
leaves-behind {T} a b c r s l = record {
  later = let e = s.faults in let h = l.later in omega (arith, e, h);
  success = stays-behind r l.success;
  sink = λ e. subst (λ (n : ℕ). Rose n c.faults) s.faults (l.sink e);
  faultless = l.faultless ∙ s.faultless;
  spared = λ h. let p = l.spared (s.faultless ∙ h) in (p.0 ∙ s.faults, p.1);
}
  where
    stays-behind : (r : Result T ClientFault) → OnOk r (c.faults ≡ b.faults) → OnOk r (c.faults ≡ a.faults)
    stays-behind (Ok x) e = e ∙ s.faults
    stays-behind (Err f) e = tt

-- and then it did not fail
pub leaves-before : {T : Type 0} (a b c : SinkState) (r : Result T ClientFault) → LeavesSink a b r → StaysSink b c → LeavesSink a c r
leaves-before {T} a b c r l s = record {
  later = let e = s.faults in let h = l.later in omega (arith, e, h);
  success = stays-before r l.success;
  sink = λ e. subst (λ (n : ℕ). Rose a.faults n) (sym s.faults) (l.sink e);
  faultless = s.faultless ∙ l.faultless;
  spared = λ h. let p = l.spared h in (s.faults ∙ p.0, p.1);
}
  where
    stays-before : (r : Result T ClientFault) → OnOk r (b.faults ≡ a.faults) → OnOk r (c.faults ≡ a.faults)
    stays-before (Ok x) e = s.faults ∙ e
    stays-before (Err f) e = tt

pub leaves-ok : {T : Type 0} (a b : SinkState) (x : T) → StaysSink a b → LeavesSink a b (Ok x)
leaves-ok a b x s = record {
  later = same_least a.faults b.faults s.faults;
  success = s.faults;
  sink = λ e. absurd (ok-no-err x faults.Sink e);
  faultless = s.faultless;
  spared = λ h. (s.faults, ok-no-err x faults.Sink);
}

-- a fault that is not the sink's
pub leaves-other : {T : Type 0} (a b : SinkState) (x : ClientFault) → (IsErrOf {T = T} (Err x) faults.Sink → ⊥) → StaysSink a b → LeavesSink {T = T} a b (Err x)
leaves-other a b x other s = record {
  later = same_least a.faults b.faults s.faults;
  success = tt;
  sink = λ e. absurd (other e);
  faultless = s.faultless;
  spared = λ h. (s.faults, other);
}

no-memory : {T : Type 0} → IsErrOf {T = T} (Err faults.OutOfMemory) faults.Sink → ⊥
no-memory {T} e = let t : ◌≡◌ {A = Result T ClientFault} (Err faults.OutOfMemory) (Err faults.Sink) = e in cc

pub leaves-lacking : {T : Type 0} (a b : SinkState) → StaysSink a b → LeavesSink {T = T} a b (Err faults.OutOfMemory)
leaves-lacking a b s = leaves-other a b faults.OutOfMemory no-memory s

-- the fault of the sink
pub leaves-fault : {S T : Type 0} (a b : SinkState) (f : Fault) (x : ClientFault) → x ≡ sink_fault f → KeepsSink {T = S} a b (Err f) → LeavesSink {T = T} a b (Err x)
leaves-fault a b f x e k = record {
  later = k.cause.later;
  success = tt;
  sink = λ s. k.cause.failed (sink-of f x e s);
  faultless = k.faultless;
  spared = λ h. let d = k.spared h in (d.same, λ s. d.answer (sink-of f x e s));
}

-- the same fault, whatever the part gives otherwise
pub leaves-as : {S T : Type 0} (a b : SinkState) (x : ClientFault) → LeavesSink {T = S} a b (Err x) → LeavesSink {T = T} a b (Err x)
leaves-as {S} {T} a b x l = record {
  later = l.later;
  success = tt;
  sink = λ e. l.sink (err-as T S x faults.Sink e);
  faultless = l.faultless;
  spared = λ h. let p = l.spared h in (p.0, λ e. p.1 (err-as T S x faults.Sink e));
}

-- a fault, behind which the sink failed
pub leaves-failed : {S T : Type 0} (a b c : SinkState) (x : ClientFault) (f : Fault) → f ≡ failures.Failed → LeavesSink {T = T} a b (Err x) → KeepsSink {T = S} b c (Err f) → LeavesSink {T = T} a c (Err x)
leaves-failed {S} a b c x f is l k = record {
  later = let h = l.later in let m = k.cause.later in omega (arith, h, m);
  success = tt;
  sink = λ e. rose-more a.faults b.faults c.faults (l.sink e) k.cause.later;
  faultless = k.faultless ∙ l.faultless;
  spared = λ h. absurd ((k.spared (l.faultless ∙ h)).answer (ap (λ (y : Fault). let r : Result S Fault = Err y in r) is));
}
  where
    rose-more : (m n k : ℕ) → Rose m n → n ≤ k → Rose m k
    rose-more m n k r h = omega (arith, r, h)

-- a fault, behind which memory was wanting
pub leaves-memory : {S T : Type 0} (a b c : SinkState) (x : ClientFault) (f : Fault) → f ≡ failures.OutOfMemory → LeavesSink {T = T} a b (Err x) → KeepsSink {T = S} b c (Err f) → LeavesSink {T = T} a c (Err faults.OutOfMemory)
leaves-memory {S} a b c x f is l k =
    let same : c.faults ≡ b.faults = k.cause.memory (ap (λ (y : Fault). let r : Result S Fault = Err y in r) is) in
    record {
      later = let h = l.later in omega (arith, h, same);
      success = tt;
      sink = λ e. absurd (no-memory e);
      faultless = k.faultless ∙ l.faultless;
      spared = λ h. (same ∙ (l.spared h).0, no-memory);
    }
