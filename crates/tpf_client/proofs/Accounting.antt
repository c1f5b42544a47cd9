-- Accounts, one change after another.
use Rattle.std.proofs.Common.{◌≡◌, ◌++◌, List, [], ◌∷◌, map, refl, sym, ap, subst, ◌∙◌, append_assoc}
use Rattle.std.specs.List.Sorted.{IsPermutation}
use Rattle.std.proofs.lemmas.List.{map-append}
use Rattle.std.proofs.lemmas.List.Sorted.{IsPermutation-refl, IsPermutation-trans, IsPermutation-append_right}
use Rattle.tpf_base.specs.Addresses.{Address}
use Rattle.bgp_core.specs.Solutions.{Places}
use Rattle.request_pool.specs.Pools.{Ask}
use Rattle.fragment_page.specs.declared.page.Page.{Page}
use Rattle.request_plan.specs.Evaluations.{Account, HandsOver, GivesOwed}
use Rattle.tpf_client.specs.Traffic.{PoolEvent, Asked, Came, Waited, Broke}
use Rattle.tpf_client.specs.Causes.{Versions}
use Rattle.tpf_client.specs.Asking.{AreWaits}
use Rattle.tpf_client.specs.Turns.{HandsAll, GivesAll, Owes, OwesMore, address_of, asked_in, AreTrue, IsPageReply, ArePages}

-- a front, and then more of what was behind it
pub perm-then : {X : Type 0} (x a y b z : List X) → IsPermutation x (a ++ y) → IsPermutation y (b ++ z) → IsPermutation x ((a ++ b) ++ z)
perm-then {X} x a y b z p q = subst (λ (l : List X). IsPermutation x l) (sym (append_assoc a b z)) (IsPermutation-trans x (a ++ y) (a ++ (b ++ z)) p (IsPermutation-append_right a y (b ++ z) q))

perm-map : {X Y : Type 0} (f : X → Y) (first second : List X) (x z : List Y) → IsPermutation x ((map f first ++ map f second) ++ z) → IsPermutation x (map f (first ++ second) ++ z)
perm-map {X} {Y} f first second x z p = subst (λ (l : List Y). IsPermutation x (l ++ z)) (sym (map-append f first second)) p

pub hands-none : (a : Account) → HandsAll a a []
hands-none a = record { owed = IsPermutation-refl a.owed; left = IsPermutation-refl a.left }

pub hands-then : (a b c : Account) (first second : List Ask) → HandsAll a b first → HandsAll b c second → HandsAll a c (first ++ second)
hands-then a b c first second p q = record {
  owed = IsPermutation-trans a.owed b.owed c.owed p.owed q.owed;
  left = perm-map address_of first second a.left c.left (perm-then a.left (map address_of first) b.left (map address_of second) c.left p.left q.left);
}

pub hands-one : (a b : Account) (ask : Ask) → HandsOver a b ask.ticket ask.address → HandsAll a b (ask ∷ [])
hands-one a b ask h = record { owed = h.owed; left = h.left }

pub gives-none : (a : Account) → GivesAll a a []
gives-none a = record { owed = IsPermutation-refl a.owed; left = IsPermutation-refl a.left; out = IsPermutation-refl a.out }

pub gives-then : (a b c : Account) (first second : List Places) → GivesAll a b first → GivesAll b c second → GivesAll a c (first ++ second)
gives-then a b c first second p q = record {
  owed = perm-then a.owed first b.owed second c.owed p.owed q.owed;
  left = IsPermutation-trans a.left b.left c.left p.left q.left;
  out = IsPermutation-trans a.out b.out c.out p.out q.out;
}

pub gives-one : (a b : Account) (row : Places) → GivesOwed a b row → GivesAll a b (row ∷ [])
gives-one a b row h = record { owed = h.owed; left = h.left; out = h.out }

pub owes-none : (a : Account) → Owes a a [] []
owes-none a = record { owed = IsPermutation-refl a.owed; left = IsPermutation-refl a.left }

pub owes-then : (a b c : Account) (rows more : List Places) (first second : List Ask) → Owes a b rows first → Owes b c more second → Owes a c (rows ++ more) (first ++ second)
owes-then a b c rows more first second p q = record {
  owed = perm-then a.owed rows b.owed more c.owed p.owed q.owed;
  left = perm-map address_of first second a.left c.left (perm-then a.left (map address_of first) b.left (map address_of second) c.left p.left q.left);
}

pub owes-more : (a b : Account) (rows : List Places) (asked : List Ask) → Owes a b rows asked → OwesMore a rows asked
owes-more a b rows asked p = record { more = b.owed; owed = p.owed; rest = b.left; left = p.left }

pub more-then : (a b : Account) (rows more : List Places) (first second : List Ask) → Owes a b rows first → OwesMore b more second → OwesMore a (rows ++ more) (first ++ second)
more-then a b rows more first second p q = record {
  more = q.more;
  owed = perm-then a.owed rows b.owed more q.more p.owed q.owed;
  rest = q.rest;
  left = perm-map address_of first second a.left q.rest (perm-then a.left (map address_of first) b.left (map address_of second) q.rest p.left q.left);
}

-- ---- the asks among events

pub asked-append : (first second : List PoolEvent) → asked_in (first ++ second) ≡ asked_in first ++ asked_in second
asked-append [] second = refl
asked-append (Asked ask ∷ first) second = ap (λ (l : List Ask). ask ∷ l) (asked-append first second)
asked-append (Came ask reply ∷ first) second = asked-append first second
asked-append (Waited ∷ first) second = asked-append first second
asked-append (Broke fault ∷ first) second = asked-append first second

pub asked-asks : (asks : List Ask) → asked_in (map Asked asks) ≡ asks
asked-asks [] = refl
asked-asks (ask ∷ asks) = ap (λ (l : List Ask). ask ∷ l) (asked-asks asks)

pub pages-then : (versions : Versions) (first second : List PoolEvent) → ArePages versions first → ArePages versions second → ArePages versions (first ++ second)
pages-then versions [] second f s = s
pages-then versions (event ∷ first) second f s = (f.0, pages-then versions first second f.1 s)

page-waited : (versions : Versions) (event : PoolEvent) → event ≡ Waited → IsPageReply versions event
page-waited versions event e = subst (IsPageReply versions) (sym e) tt

-- no reply came where each step waited, and none where asks were put
pub pages-waits : (versions : Versions) (events : List PoolEvent) → AreWaits events → ArePages versions events
pages-waits versions [] h = tt
pages-waits versions (event ∷ events) h = (page-waited versions event h.0, pages-waits versions events h.1)

pub pages-asks : (versions : Versions) (asks : List Ask) → ArePages versions (map Asked asks)
pages-asks versions [] = tt
pages-asks versions (ask ∷ asks) = (tt, pages-asks versions asks)

pub asked-waits : (events : List PoolEvent) → AreWaits events → asked_in events ≡ []
asked-waits [] h = refl
asked-waits (event ∷ events) h = waited event events h.0 ∙ asked-waits events h.1
  where
    waited : (event : PoolEvent) (events : List PoolEvent) → event ≡ Waited → asked_in (event ∷ events) ≡ asked_in events
    waited event events e = ap (λ (x : PoolEvent). asked_in (x ∷ events)) e

-- ---- true pages

pub true-first : (is_true : Address → Page → Type 0) (versions : Versions) (first second : List PoolEvent) → AreTrue is_true versions (first ++ second) → AreTrue is_true versions first
true-first is_true versions [] second h = tt
true-first is_true versions (event ∷ first) second h = (h.0, true-first is_true versions first second h.1)

pub true-second : (is_true : Address → Page → Type 0) (versions : Versions) (first second : List PoolEvent) → AreTrue is_true versions (first ++ second) → AreTrue is_true versions second
true-second is_true versions [] second h = h
true-second is_true versions (event ∷ first) second h = true-second is_true versions first second h.1
