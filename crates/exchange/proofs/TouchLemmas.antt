-- What a part of a poll does to its link, and what it leaves of the exchange.
use Rattle.std.proofs.Common.{ℕ, ◌≡◌, ◌==◌, ◌&&◌, ◌≤◌, List, length, take, Option, Some, None, Bool, true, false, Result, Ok, Err, refl, sym, ◌∙◌, ap, subst, arith, if◌then◌else◌, take_all}
use Rattle.tpf_base.specs.Links.{WireState}
use Rattle.tpf_base.specs.Calls.{Closes}
use Rattle.tpf_base.specs.Sending.{CallsOn, CallsOnOpen}
use Rattle.http_wire.specs.declared.message.Reply.{Reply}
use Rattle.exchange.specs.Exchanges.{Exchanging}
use Rattle.exchange.specs.Polls.{Touches}
use Rattle.exchange.specs.Parts.{Concludes}
use Rattle.exchange.specs.declared.exchange.Standing.{Standing}
use Rattle.exchange.specs.declared.exchange.Standing.TheVariants.{Underway, Left, Over}
use Rattle.exchange.specs.declared.fault.ExchangeFault.{ExchangeFault}
use Rattle.exchange.specs.declared.fault.ExchangeFault.TheVariants as faults

pub over_goes_on : {Fact : Type 0} → Over ≡ Underway → Fact
over_goes_on e = absurd cc

pub open_of : (k : ℕ) (a b : WireState) → CallsOn k a b → CallsOnOpen k a b
open_of k a b p = record { only = p.only; peer = p.peer; stalls = p.stalls; idle = p.idle; not_due = p.not_due }

pub open_then : (k : ℕ) (a b c : WireState) → CallsOn k a b → CallsOnOpen k b c → CallsOnOpen k a c
open_then k a b c p q =
    let x = p.only in
    let y = q.only in
    let xf = x.later in
    let yf = y.later in
    let xs = p.stalls in
    let ys = q.stalls in
    let xi = p.idle in
    let yi = q.idle in
    record {
      only = record {
        others = λ j n. y.others j n ∙ x.others j n;
        later = omega (arith, xf, yf);
        given = y.given ∙ x.given;
        provoked = y.provoked ∙ x.provoked;
        dials = y.dials ∙ x.dials;
        waits = y.waits ∙ x.waits;
        door = y.door ∙ x.door;
        nature = y.nature ∙ x.nature;
      };
      peer = q.peer ∙ p.peer;
      stalls = omega (arith, xs, ys);
      idle = omega (arith, xi, yi);
      not_due = λ s e f. q.not_due (ap (λ n. n.steady) x.nature ∙ s) e (ap (λ n. n.every) x.nature ∙ f) ∙ p.not_due s e f;
    }

closes_open : (k : ℕ) (b c : WireState) → Closes k b c → CallsOnOpen k b c
closes_open k b c d = let f = d.idle in record { only = d.only; peer = d.peer; stalls = d.stalls; idle = omega (arith, f); not_due = λ s e g. d.faults }

same_open : (k : ℕ) (b : WireState) → CallsOnOpen k b b
same_open k b = record {
  only = record { others = λ j n. refl; later = omega arith; given = refl; provoked = refl; dials = refl; waits = refl; door = refl; nature = refl };
  peer = refl;
  stalls = omega arith;
  idle = omega arith;
  not_due = λ s e g. refl;
}

pub closed_then : (k : ℕ) (a b c : WireState) → CallsOn k a b → Closes k b c → CallsOnOpen k a c
closed_then k a b c p d = open_then k a b c p (closes_open k b c d)

settled_open : (k : ℕ) (stays : Bool) (x : Standing) (b c : WireState) → x ≡ (if stays then Left else Over) → (x ≡ Left → c ≡ b) → (x ≡ Over → Closes k b c) → CallsOnOpen k b c
settled_open k true x b c e left closes = subst (λ (w : WireState). CallsOnOpen k b w) (sym (left e)) (same_open k b)
settled_open k false x b c e left closes = closes_open k b c (closes e)

concluded_open : (k : ℕ) (ended : Bool) (old new : Exchanging) (b c : WireState) (result : Option (Result Reply ExchangeFault)) → Concludes k ended old new b c result → CallsOnOpen k b c
concluded_open k ended old new b c None h = absurd h
concluded_open k ended old new b c (Some (Ok answer)) h = settled_open k (answer.keeps && (h.0 == length old.received)) new.standing b c h.3 h.4 h.5
concluded_open k ended old new b c (Some (Err faults.Failed)) h = absurd h
concluded_open k ended old new b c (Some (Err (faults.Cut received))) h = closes_open k b c h.3
concluded_open k ended old new b c (Some (Err (faults.Bad fault received))) h = closes_open k b c h.2
concluded_open k ended old new b c (Some (Err faults.OutOfMemory)) h = absurd h

pub concluded_then : (k : ℕ) (ended : Bool) (old new : Exchanging) (a b c : WireState) (result : Option (Result Reply ExchangeFault)) → CallsOn k a b → Concludes k ended old new b c result → CallsOnOpen k a c
concluded_then k ended old new a b c result p h = open_then k a b c p (concluded_open k ended old new b c result h)

-- an exchange whose dial failed is over
pub touches_over : (w v : Exchanging) (a c : WireState) → v ≡ w → Touches w w a c → Touches w (record v { standing = Over }) a c
touches_over w v a c e t = subst (λ (x : Exchanging). Touches w (record x { standing = Over }) a c) (sym e) (record {
  address = t.address;
  limit = t.limit;
  link = t.link;
  others = t.others;
  later = t.later;
  waits = t.waits;
  idle = t.idle;
  door = t.door;
  nature = t.nature;
  unprovoked = t.unprovoked;
  not_due = t.not_due;
})

pub within_as : (n : ℕ) (r s : List ℕ) → r ≡ s → n ≤ length r → n ≤ length s
within_as n r s e h = subst (λ (xs : List ℕ). n ≤ length xs) e h

pub whole_taken : (n : ℕ) (r s : List ℕ) → r ≡ s → n ≡ length r → take n s ≡ s
whole_taken n r s e h = take_all n s (subst (λ (xs : List ℕ). length xs ≤ n) e (omega (arith, h)))
