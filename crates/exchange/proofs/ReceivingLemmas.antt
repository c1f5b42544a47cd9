-- Receives on a link, one after another.
use Rattle.std.proofs.Common.{false, ℕ, ◌≡◌, ◌+◌, ◌<◌, ◌≤◌, inl, inr, ◌++◌, List, [], length, take, Option, Some, true, refl, sym, ◌∙◌, ap, arith, append_assoc, append-nil, length-append, length-take-le}
use Rattle.tpf_base.specs.Causes.{Rose}
use Rattle.tpf_base.specs.declared.wire.Moved.{Moved}
use Rattle.tpf_base.specs.declared.wire.Moved.TheVariants as answers
use Rattle.tpf_base.specs.Links.{Receiving, WireState, Tells, CountsAlone, SentAndReceived, All, told_by, is_short, some_left}
use Rattle.tpf_base.specs.Calls.{Receives}
use Rattle.tpf_base.specs.Sending.{Holds, CallsOn}
use Rattle.list_laws.proofs.Tests.{moved_or}
use Rattle.tpf_base.proofs.SendingLemmas.{calls_then, holds_append, holds_by, holds_same, rose_on}
use Rattle.exchange.specs.Incoming.{Coming}
use Rattle.exchange.specs.Receiving.{ReceivesFrom}

receives_idle : (k : ℕ) (to : List ℕ) (a b : WireState) (answer : Moved) → Receives k to a b answer → b.idle ≤ a.idle
receives_idle k to a b (answers.Moved n) s = let h = (s.moved n refl).4 in omega (arith, h)
receives_idle k to a b answers.End s = let h = (s.end_ refl).2 in omega (arith, h)
receives_idle k to a b answers.NotYet s = let h = (s.not_yet refl).3 in omega (arith, h)
receives_idle k to a b answers.Failed s = let h = (s.failed refl).2 in omega (arith, h)
receives_idle k to a b answers.OutOfMemory s = let h = (s.memory refl).idle in omega (arith, h)

-- one receive is calls on its link
pub receives_call : (k : ℕ) (to : List ℕ) (a b : WireState) (answer : Moved) → Receives k to a b answer → CallsOn k a b
receives_call k to a b answer s = record {
  only = s.only;
  peer = s.peer;
  is_open = s.is_open;
  stalls = s.stalls;
  idle = receives_idle k to a b answer s;
  not_due = λ st e t. (s.not_due st e t).0;
}

-- bytes behind bytes
behind : (r x y : List ℕ) → (r ++ (x ++ [])) ++ y ≡ r ++ ((x ++ y) ++ [])
behind r x y = rw (append-nil x, append-nil (x ++ y), append_assoc r x y) refl

behind_lost : (r x y : List ℕ) → (r ++ (x ++ [])) ++ y ≡ r ++ (x ++ y)
behind_lost r x y = rw (append-nil x, append_assoc r x y) refl

pub received_more : (k n : ℕ) (to : List ℕ) (from mid now : Coming) (a b c : WireState) → ReceivesFrom k from mid [] a b → Receives k to b c (answers.Moved n)
    → now.received ≡ mid.received ++ take n to → now.limit ≡ mid.limit → ReceivesFrom k from now [] a c
received_more k n to from mid now a b c p s e l = record {
  calls = calls_then k a b c p.calls (receives_call k to b c (answers.Moved n) s);
  sent = s.sent ∙ p.sent;
  limit = l ∙ p.limit;
  received_is = λ r h. holds_by _ _ _ (behind r mid.received (take n to) ∙ ap (λ x. r ++ (x ++ [])) (sym e)) (holds_append _ _ _ _ (s.moved n refl).2 (p.received_is r h));
}

pub received_lost : (k n : ℕ) (to : List ℕ) (from mid now : Coming) (a b c : WireState) → ReceivesFrom k from mid [] a b → Receives k to b c (answers.Moved n)
    → now ≡ mid → ReceivesFrom k from now (take n to) a c
received_lost k n to from mid now a b c p s e = record {
  calls = calls_then k a b c p.calls (receives_call k to b c (answers.Moved n) s);
  sent = s.sent ∙ p.sent;
  limit = ap (λ x. x.limit) e ∙ p.limit;
  received_is = λ r h. holds_by _ _ _ (behind_lost r mid.received (take n to) ∙ ap (λ x. r ++ (x.received ++ take n to)) (sym e)) (holds_append _ _ _ _ (s.moved n refl).2 (p.received_is r h));
}

pub received_stop : (k : ℕ) (to : List ℕ) (from mid : Coming) (a b c : WireState) (answer : Moved) → ReceivesFrom k from mid [] a b → Receives k to b c answer
    → (c.links k).received ≡ (b.links k).received → ReceivesFrom k from mid [] a c
received_stop k to from mid a b c answer p s e = record {
  calls = calls_then k a b c p.calls (receives_call k to b c answer s);
  sent = s.sent ∙ p.sent;
  limit = p.limit;
  received_is = λ r h. holds_same _ _ _ e (p.received_is r h);
}

-- what a wire tells is so
pub told_holds : {T : Type 0} (tells : Tells) (told : Option T) (fact : T) → told ≡ told_by tells fact → Holds told fact
told_holds CountsAlone told fact e = λ x t. cc
told_holds SentAndReceived told fact e = λ x t. cc
told_holds All told fact e = λ x t. cc

same_short : (k : ℕ) (to : List ℕ) (b c : WireState) → Receives k to b c answers.End → is_short (b.links k) ≡ is_short (c.links k)
same_short k to b c s = ap (λ r. some_left r (b.links k).owed) (sym (s.end_ refl).0) ∙ ap (λ o. some_left (c.links k).received o) (sym s.owed)

-- the end came before all that is owed
pub end_rose : (k : ℕ) (to : List ℕ) (a b c : WireState) → CallsOn k a b → Receives k to b c answers.End → is_short (c.links k) ≡ true → Rose a.faults c.faults
end_rose k to a b c p s short =
    rose_on _ _ _ p.only.later ((s.end_ refl).3 (same_short k to b c s ∙ short))

-- where dials alone are due, all that is owed comes before the end, and no receive fails
pub end_not_due : (k : ℕ) (to : List ℕ) (a b c : WireState) → CallsOn k a b → Receives k to b c answers.End
    → a.nature.steady ≡ true → (e : ℕ) → a.nature.every ≡ Some e → is_short (c.links k) ≡ false
end_not_due k to a b c p s st e t =
    sym (same_short k to b c s) ∙ (s.not_due (ap (λ n. n.steady) p.only.nature ∙ st) e (ap (λ n. n.every) p.only.nature ∙ t)).2 refl

pub receive_not_due : (k : ℕ) (to : List ℕ) (a b c : WireState) → CallsOn k a b → Receives k to b c answers.Failed → a.nature.steady ≡ true → (e : ℕ) → a.nature.every ≡ Some e → ⊥
receive_not_due k to a b c p s st e t = (s.not_due (ap (λ n. n.steady) p.only.nature ∙ st) e (ap (λ n. n.every) p.only.nature ∙ t)).1 refl

pub failed_rose : (k : ℕ) (to : List ℕ) (a b c : WireState) → CallsOn k a b → Receives k to b c answers.Failed → Rose a.faults c.faults
failed_rose k to a b c p s = rose_on _ _ _ p.only.later (s.failed refl).3

-- where a wait woke the link, its first receive moved a byte
pub woken_received : (k : ℕ) (to : List ℕ) (from mid : ℕ) (a b c : WireState) → from ≤ mid → (from < mid → b.idle ≡ 0)
    → (mid ≡ from → b ≡ a) → Receives k to b c answers.NotYet
    → a.nature.steady ≡ true → (a.links k).woken ≡ true → (a.links k).stalled ≡ Some Receiving → c.idle ≡ 0
woken_received k to from mid a b c up moved still s st wo sl =
    elim (moved_or mid from up) [
      | inl l ↦ (s.not_yet refl).3 ∙ moved l
      | inr e ↦ absurd (s.woken (ap (λ w. w.nature.steady) (still e) ∙ st) (ap (λ w. (w.links k).woken) (still e) ∙ wo) (ap (λ w. (w.links k).stalled) (still e) ∙ sl) refl)
    ]

-- the bytes that one receive moved make the list longer
pub longer_by : (n : ℕ) (xs ys to : List ℕ) → ys ≡ xs ++ take n to → 0 < n → n ≤ length to → length ys ≡ length xs + n
longer_by n xs ys to e p h = ap length e ∙ length-append xs (take n to) ∙ ap (λ m. length xs + m) (length-take-le n to h)
