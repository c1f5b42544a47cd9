-- What holds at each moment of a run: the links that are held are open, and the stalls of each exchange that was polled have risen.
use Rattle.std.proofs.Common.{ℕ, ◌≡◌, ◌≢◌, ◌<◌, ◌≤◌, inl, inr, ◌++◌, List, [], ◌∷◌, Option, Some, None, Bool, true, false, Result, Ok, Err, refl, sym, ◌∙◌, ap, subst, arith}
use Rattle.std.proofs.lemmas.Bool.{cases_lt, cases_eq}
use Rattle.std.specs.List.{AllByRecursion}
use Rattle.tpf_base.specs.Causes.{Rose}
use Rattle.tpf_base.specs.Addresses.{Address}
use Rattle.tpf_base.specs.Links.{Link, WireState, OpensGiven}
use Rattle.http_wire.specs.declared.message.Reply.{Reply}
use Rattle.exchange.specs.Exchanges.{Exchanging, IsLinked}
use Rattle.exchange.specs.Polls.{Touches, LinkAfter, RoseOn}
use Rattle.exchange.specs.declared.fault.ExchangeFault.{ExchangeFault}
use Rattle.request_pool.specs.declared.asks.Flight.{Flight}
use Rattle.request_pool.specs.declared.fault.Polled.{Polled}
use Rattle.request_pool.specs.declared.fault.Polled.TheVariants as polls
use Rattle.request_pool.specs.declared.fault.PoolFault.{PoolFault}
use Rattle.request_pool.specs.declared.fault.PoolFault.TheVariants as faults
use Rattle.request_pool.specs.Pools.{Pooled}
use Rattle.request_pool.specs.Owned.{on_link, flights_on, held_on, SuitsWire}
use Rattle.request_pool.specs.Polls.{Polls, FlightTo}
use Rattle.request_pool.specs.Runs.{Starts, Overruns, Flies, Starves, Turn, Start, Next, Round, Moment, Runs, Running, is_end}
use Rattle.request_pool.specs.Steps.{RisenOn, AsleepOn}
use Rattle.request_pool.proofs.Owned.{on_same, linked_open, flights_on-append, rest_none}
use Rattle.request_pool.proofs.Suits.{Owns, owns_begun, owns_next, flight_suits, underway-append, suits_as}
use Rattle.request_pool.proofs.Holding.{end_of}

-- links are not forgotten, and no count of stalls falls
pub record Later (a b : WireState) : Type 0 where
  pub given : a.given ≤ b.given
  pub stalls : (k : ℕ) → k < a.given → (a.links k).stalls ≤ (b.links k).stalls

pub later_none : (a : WireState) → Later a a
later_none a = record { given = omega arith; stalls = λ k h. omega arith }

pub later_then : (a b c : WireState) → Later a b → Later b c → Later a c
later_then a b c h i = record { given = omega (arith, h.given, i.given); stalls = λ k l. omega (arith, h.stalls k l, i.stalls k (omega (arith, l, h.given))) }

same_stalls : (a b : WireState) (k : ℕ) → b.links k ≡ a.links k → (a.links k).stalls ≤ (b.links k).stalls
same_stalls a b k e = let f : (b.links k).stalls ≡ (a.links k).stalls = ap (λ (x : Link). x.stalls) e in omega (arith, f)

pub some_is : (i k : ℕ) → Some i ≡ Some k → i ≡ k
some_is i k e = cc

later_link : (address : Address) (o p : Option ℕ) (a b : WireState) → LinkAfter address o p a b → ((k : ℕ) → p ≢ Some k → b.links k ≡ a.links k) → Later a b
later_link address (Some j) (Some i) a b l same = record {
  given = omega (arith, l.1);
  stalls = λ k h. elim (cases_eq j k) [ inl e ↦ subst (λ (x : ℕ). (a.links x).stalls ≤ (b.links x).stalls) e l.4 | inr n ↦ same_stalls a b k (same k (λ e. n (sym l.0 ∙ some_is i k e))) ];
}
later_link address (Some j) None a b l same = absurd l
later_link address None None a b l same = record { given = omega (arith, l.0); stalls = λ k h. same_stalls a b k (same k (λ e. cc e)) }
later_link address None (Some i) a b l same = record {
  given = omega (arith, l.1);
  stalls = λ k h. same_stalls a b k (same k (λ e. let q : i ≡ k = some_is i k e in absurd (omega (arith, q, l.0, h))));
}

pub later_poll : (e f : Exchanging) (a b : WireState) → Touches e f a b → Later a b
later_poll e f a b t = later_link e.address e.link f.link a b t.link t.others

pub given_is : (a : WireState) (k : ℕ) → OpensGiven a → (a.links k).is_open ≡ true → k < a.given
given_is a k g h = elim (cases_lt k a.given) [ inl l ↦ l | inr l ↦ absurd (let e : true ≡ false = sym h ∙ g k l in cc) ]

opens_link : (address : Address) (o p : Option ℕ) (a b : WireState) → LinkAfter address o p a b → ((k : ℕ) → p ≢ Some k → b.links k ≡ a.links k) → OpensGiven a → IsLinked o a → OpensGiven b
opens_link address (Some j) (Some i) a b l same g linked k h =
    let j_below = given_is a j g linked in
    ap (λ (x : Link). x.is_open) (same k (λ e. let q : i ≡ k = some_is i k e in absurd (omega (arith, q, l.0, l.1, h, j_below)))) ∙ g k (omega (arith, l.1, h))
opens_link address (Some j) None a b l same g linked k h = absurd l
opens_link address None None a b l same g linked k h = ap (λ (x : Link). x.is_open) (same k (λ e. cc e)) ∙ g k (omega (arith, l.0, h))
opens_link address None (Some i) a b l same g linked k h =
    ap (λ (x : Link). x.is_open) (same k (λ e. let q : i ≡ k = some_is i k e in absurd (omega (arith, q, l.0, l.1, h)))) ∙ g k (omega (arith, l.1, h))

pub opens_poll : (answer : Option (Result Reply ExchangeFault)) (f : Flight) (p : Pooled) (a b : WireState) → OpensGiven a → Owns f p a → Polls answer f a b → OpensGiven b
opens_poll answer f p a b g o h = opens_link f.exchange.address f.exchange.link h.now.link a b h.touches.link h.touches.others g (linked_open f.exchange.link (held_on p) a o.owned)

rose_up : (x y n m : ℕ) → Rose y n → x ≤ y → n ≤ m → Rose x m
rose_up x y n m r h i = omega (arith, r, h, i)

abbrev pub AreRisen : WireState → WireState → List Flight → Type 0
AreRisen since a flights = AllByRecursion (λ f. RisenOn since a f.exchange.link) flights

risen_on : (since a b : WireState) (o : Option ℕ) → Later a b → RisenOn since a o → RisenOn since b o
risen_on since a b None l h = absurd h
risen_on since a b (Some k) l h = (
  omega (arith, h.0, l.given),
  (
    (λ below. rose_up (since.links k).stalls (since.links k).stalls (a.links k).stalls (b.links k).stalls (h.1.0 below) (omega arith) (l.stalls k h.0)),
    (λ above. rose_up 0 0 (a.links k).stalls (b.links k).stalls (h.1.1 above) (omega arith) (l.stalls k h.0)),
  ),
)

pub are_risen : (since a b : WireState) (fs : List Flight) → Later a b → AreRisen since a fs → AreRisen since b fs
are_risen since a b [] l h = tt
are_risen since a b (f ∷ fs) l h = (risen_on since a b f.exchange.link l h.0, are_risen since a b fs l h.1)

-- what rose since a moment rose since each before it
earlier_on : (a b c : WireState) (o : Option ℕ) → Later a b → RisenOn b c o → RisenOn a c o
earlier_on a b c None l h = absurd h
earlier_on a b c (Some k) l h = (
  h.0,
  (
    (λ below. rose_up (a.links k).stalls (b.links k).stalls (c.links k).stalls (c.links k).stalls (h.1.0 (omega (arith, below, l.given))) (l.stalls k below) (omega arith)),
    (λ above. elim (cases_lt k b.given) [ inl low ↦ rose_up 0 (b.links k).stalls (c.links k).stalls (c.links k).stalls (h.1.0 low) (omega arith) (omega arith) | inr high ↦ h.1.1 high ]),
  ),
)

pub all_earlier : (a b c : WireState) (fs : List Flight) → Later a b → AreRisen b c fs → AreRisen a c fs
all_earlier a b c [] l h = tt
all_earlier a b c (f ∷ fs) l h = (earlier_on a b c f.exchange.link l h.0, all_earlier a b c fs l h.1)

risen-append : (since a : WireState) (xs ys : List Flight) → AreRisen since a xs → AreRisen since a ys → AreRisen since a (xs ++ ys)
risen-append since a [] ys h i = i
risen-append since a (x ∷ xs) ys h i = (h.0, risen-append since a xs ys h.1 i)

rose_link : (address : Address) (o : Option ℕ) (k : ℕ) (since a b : WireState) → Later since a → LinkAfter address o (Some k) a b → RoseOn o k a b
    → (k < since.given → Rose (since.links k).stalls (b.links k).stalls) × (since.given ≤ k → Rose 0 (b.links k).stalls)
rose_link address (Some j) k since a b later l r =
    ((λ below. rose_up (since.links k).stalls (a.links k).stalls (b.links k).stalls (b.links k).stalls r (later.stalls k below) (omega arith)), (λ above. rose_up 0 (a.links k).stalls (b.links k).stalls (b.links k).stalls r (omega arith) (omega arith)))
rose_link address None k since a b later l r = ((λ below. absurd (omega (arith, below, later.given, l.0))), (λ above. r))

risen_as : (since b : WireState) (o : Option ℕ) (k : ℕ) → o ≡ Some k → RisenOn since b (Some k) → RisenOn since b o
risen_as since b o k e h = subst (λ (x : Option ℕ). RisenOn since b x) (sym e) h

link_as : (address : Address) (o p : Option ℕ) (k : ℕ) (a b : WireState) → p ≡ Some k → LinkAfter address o p a b → LinkAfter address o (Some k) a b
link_as address o p k a b e h = subst (λ (x : Option ℕ). LinkAfter address o x a b) e h

pub risen_poll : (f : Flight) (p : Pooled) (since a b : WireState) → OpensGiven b → Later since a → (h : Polls None f a b) → RisenOn since b h.now.link
risen_poll f p since a b g later h =
    let w = h.answers in
    let r = rose_link f.exchange.address f.exchange.link w.k since a b later (link_as f.exchange.address f.exchange.link h.now.link w.k a b w.link h.touches.link) w.stalls in
    risen_as since b h.now.link w.k w.link (given_is b w.k g w.is_open, r)

-- ---- no wait answered their links since

abbrev pub AreAsleep : WireState → List Flight → Type 0
AreAsleep a flights = AllByRecursion (λ f. AsleepOn a f.exchange.link) flights

asleep-append : (a : WireState) (xs ys : List Flight) → AreAsleep a xs → AreAsleep a ys → AreAsleep a (xs ++ ys)
asleep-append a [] ys h i = i
asleep-append a (x ∷ xs) ys h i = (h.0, asleep-append a xs ys h.1 i)

asleep_on : (o : Option ℕ) (a b : WireState) → ((k : ℕ) → o ≡ Some k → b.links k ≡ a.links k) → AsleepOn a o → AsleepOn b o
asleep_on None a b same h = h
asleep_on (Some k) a b same h = ap (λ (x : Link). x.woken) (same k refl) ∙ h

pub on_its : (o : Option ℕ) (k : ℕ) → o ≡ Some k → on_link o k ≡ 1
on_its None k e = cc
on_its (Some i) k e = on_same i k (some_is i k e)

asleep_others : (fs : List Flight) (a b : WireState) → ((k : ℕ) → 0 < flights_on fs k → b.links k ≡ a.links k) → AreAsleep a fs → AreAsleep b fs
asleep_others [] a b same h = tt
asleep_others (f ∷ fs) a b same h =
    (asleep_on f.exchange.link a b (λ k e. same k (omega (arith, on_its f.exchange.link k e))) h.0, asleep_others fs a b (λ k p. same k (omega (arith, p))) h.1)

none_off : (n : ℕ) → n ≡ 0 → 0 < n → ⊥
none_off n z p = omega (arith, z, p)

-- a poll calls on no link of the others
asleep_rest : (answer : Option (Result Reply ExchangeFault)) (f : Flight) (p : Pooled) (a b : WireState) → OpensGiven a → Owns f p a → Polls answer f a b → AreAsleep a p.polled → AreAsleep b p.polled
asleep_rest answer f p a b g o h i =
    asleep_others p.polled a b
    (λ k l. h.touches.others k (λ e. none_off (held_on p k) (rest_none f.exchange.address f.exchange.link h.now.link a b h.touches.link g (held_on p) o.owned k e) (omega (arith, l)))) i

asleep_poll : (f : Flight) (a b : WireState) (h : Polls None f a b) → AsleepOn b h.now.link
asleep_poll f a b h = subst (λ (x : Option ℕ). AsleepOn b x) (sym h.answers.link) h.answers.asleep

-- ---- a moment of a run

-- Since a moment at which it began: the pool suits its wire, and, where that was so once, the stalls of each exchange that was polled have risen, and no wait answered its link since.
pub record Fares (known : Bool) (since : WireState) (p : Pooled) (a : WireState) : Type 0 where
  pub suits : SuitsWire p a
  pub given : OpensGiven a
  pub later : Later since a
  pub risen : known ≡ true → AreRisen since a p.polled
  pub asleep : known ≡ true → AreAsleep a p.polled

flight_fares : (result : Result Polled PoolFault) (known : Bool) (since : WireState) (f : Flight) (p q : Pooled) (a b : WireState) → is_end result ≡ false → OpensGiven a → Owns f p a → Later since a → (known ≡ true → AreRisen since a p.polled)
    → (known ≡ true → AreAsleep a p.polled) → FlightTo result f p q a b → Fares known since q b
flight_fares (Ok polls.Pending) known since f p q a b e g o later risen asleep h =
    let g' = opens_poll None f p a b g o h.0 in
    let l = later_poll f.exchange h.0.now a b h.0.touches in
    record {
      suits = flight_suits (Ok polls.Pending) f p q a b g o h;
      given = g';
      later = later_then since a b later l;
      risen = λ (k : known ≡ true). subst (λ (x : Pooled). AreRisen since b x.polled) (sym h.1)
          (risen-append since b p.polled ((record f { exchange = h.0.now }) ∷ []) (are_risen since a b p.polled l (risen k)) (risen_poll f p since a b g' later h.0, tt));
      asleep = λ (k : known ≡ true). subst (λ (x : Pooled). AreAsleep b x.polled) (sym h.1)
          (asleep-append b p.polled ((record f { exchange = h.0.now }) ∷ []) (asleep_rest None f p a b g o h.0 (asleep k)) (asleep_poll f a b h.0, tt));
    }
flight_fares (Ok polls.Failed) known since f p q a b e g o later risen asleep h =
    let l = later_poll f.exchange h.1.now a b h.1.touches in
    record {
      suits = flight_suits (Ok polls.Failed) f p q a b g o h;
      given = opens_poll (Some (Err h.0)) f p a b g o h.1;
      later = later_then since a b later l;
      risen = λ (k : known ≡ true). subst (λ (x : Pooled). AreRisen since b x.polled) (sym h.4) (are_risen since a b p.polled l (risen k));
      asleep = λ (k : known ≡ true). subst (λ (x : Pooled). AreAsleep b x.polled) (sym h.4) (asleep_rest (Some (Err h.0)) f p a b g o h.1 (asleep k));
    }
flight_fares (Ok (polls.Came ticket address answer)) known since f p q a b e g o later risen asleep h = cc
flight_fares (Err fault) known since f p q a b e g o later risen asleep h = cc

starts_fares : (result : Result Polled PoolFault) (known : Bool) (since : WireState) (p q : Pooled) (a b : WireState) → is_end result ≡ false → Fares known since p a → Starts result p q a b → Fares known since q b
starts_fares result known since p q a b e h (Overruns r budget f i) = absurd (end_of result faults.Budget r e)
starts_fares result known since p q a b e h (Starves r mid f begins is shuts) = absurd (end_of result faults.OutOfMemory r e)
starts_fares result known since p q a b e h (Flies mid f budget begins to) =
    flight_fares result known since f mid q a b e h.given (owns_begun p mid f a h.suits begins) h.later (λ (k : known ≡ true). subst (λ (x : Pooled). AreRisen since a x.polled) (sym begins.is_new) (h.risen k))
    (λ (k : known ≡ true). subst (λ (x : Pooled). AreAsleep a x.polled) (sym begins.is_new) (h.asleep k)) to

pub turn_fares : (known : Bool) (since : WireState) (p q : Pooled) (a b : WireState) → Fares known since p a → Turn p q a b → Fares known since q b
turn_fares known since p q a b h (Start result e s) = starts_fares result known since p q a b e h s
turn_fares known since p q a b h (Next result e s) = flight_fares result known since s.f (record p { due = s.rest }) q a b e h.given (owns_next p s.f s.rest a h.suits s.is_next) h.later h.risen h.asleep s.to
turn_fares known since p q a b h (Round e f) =
    let suits : SuitsWire (record p { polled = []; due = p.polled ++ p.due }) a = record {
      polled = tt;
      due = underway-append p.polled p.due h.suits.polled h.suits.due;
      owned = λ k. omega (arith, h.suits.owned k, flights_on-append p.polled p.due k);
    } in
    record {
      suits = suits_as _ q a b e f suits;
      given = subst OpensGiven (sym f) h.given;
      later = subst (λ (x : WireState). Later since x) (sym f) h.later;
      risen = λ (k : known ≡ true). subst (λ (x : Pooled). AreRisen since b x.polled) (sym e) tt;
      asleep = λ (k : known ≡ true). subst (λ (x : Pooled). AreAsleep b x.polled) (sym e) tt;
    }

runs_fare : (ms : List Moment) (known : Bool) (since : WireState) (p q : Pooled) (a b : WireState) → Fares known since p a → Runs ms p q a b → Fares known since q b
runs_fare [] known since p q a b h r = subst (λ (x : Pooled). Fares known since x b) (sym r.0) (subst (λ (x : WireState). Fares known since p x) (sym r.1) h)
runs_fare (m ∷ ms) known since p q a b h r = runs_fare ms known since m.pool q m.wire b (turn_fares known since p m.pool a m.wire h r.0) r.1

pub running_fares : (known : Bool) (since : WireState) (p q : Pooled) (a b : WireState) → Fares known since p a → Running p q a b → Fares known since q b
running_fares known since p q a b h r = runs_fare r.moments known since p q a b h r.runs

pub fares_first : (p : Pooled) (a : WireState) → SuitsWire p a → OpensGiven a → Fares false a p a
fares_first p a s g = record { suits = s; given = g; later = later_none a; risen = λ k. cc; asleep = λ k. cc }
