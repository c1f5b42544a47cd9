-- A call's links are closed at last.
use Rattle.std.proofs.Common.{ℕ, ◌≡◌, ◌++◌, List, length, Option, refl, sym, subst, arith}
use Rattle.std.specs.Prelude.{Result, Ok, Err, IfOk, IfErr, OnOk, OnErr}
use Rattle.tpf_base.specs.Addresses.{Address}
use Rattle.tpf_base.specs.Links.{WireState}
use Rattle.tpf_base.specs.Wrote.{SinkState}
use Rattle.bgp_core.specs.Queries.{QueryData}
use Rattle.bgp_core.specs.Solutions.{Places}
use Rattle.request_pool.specs.Pools.{Pooled, empty_pool, held}
use Rattle.request_pool.specs.Owned.{SuitsWire, held_on}
use Rattle.request_pool.specs.Closing.{ClosesSome}
use Rattle.tpf_client.specs.declared.options.Options.{Options}
use Rattle.tpf_client.specs.declared.options.Report.{Report}
use Rattle.tpf_client.specs.declared.fault.ClientFault.{ClientFault}
use Rattle.tpf_client.specs.Traffic.{PoolEvent, Travels}
use Rattle.tpf_client.specs.Starts.{IsAtRest}
use Rattle.tpf_client.specs.Sources.{Sources}
use Rattle.tpf_client.specs.Shown.{ShowsGiven, WritesShown}
use Rattle.tpf_client.specs.Turns.{AsksAt, WaitFew}
use Rattle.tpf_client.specs.Calls.{Ran, RunsPool, Happened, AreThese, Returns, WritesAll, WritesSome, Before, Behind, AtEnd}
use Rattle.tpf_client.proofs.Homes.{starts-alone}

-- what holds of an answer, with what is known of it before what is made of it
pub if-ok-from : {A B : Type 0} (r : Result A B) (P Q : A → Type 0) → IfOk r P → ((x : A) → P x → Q x) → IfOk r Q
if-ok-from (Ok x) P Q p f = f x p
if-ok-from (Err e) P Q p f = tt

-- a fault is a fault, whichever it is
pub on-err-of : {A B : Type 0} (r : Result A B) (P : B → Type 0) (Q : Type 0) → ((x : B) → P x → Q) → IfErr r P → OnErr r Q
on-err-of (Ok x) P Q f p = tt
on-err-of (Err e) P Q f p = f e p

pub on-ok-two : {A B : Type 0} (r : Result A B) (P Q S : Type 0) → OnOk r P → OnOk r Q → (P → Q → S) → OnOk r S
on-ok-two (Ok x) P Q S p q f = f p q
on-ok-two (Err e) P Q S p q f = tt

unfoldable pub if-err-from : {A B : Type 0} (r : Result A B) (P Q : B → Type 0) → IfErr r P → ((x : B) → P x → Q x) → IfErr r Q
if-err-from (Ok x) P Q p f = tt
if-err-from (Err e) P Q p f = f e p

-- what holds whatever the result is
unfoldable pub either-way : {A B : Type 0} (r : Result A B) (P : A → Type 0) (Q : B → Type 0) (S : Type 0) → IfOk r P → IfErr r Q → ((x : A) → P x → S) → ((e : B) → Q e → S) → S
either-way (Ok x) P Q S p q f g = f x p
either-way (Err e) P Q S p q f g = g e q

-- what the pool held is closed
pub ran-closed : (allows : List ℕ → ℕ → List ℕ → List ℕ → Type 0) (options : Options) (most : ℕ) (begun new : Pooled) (since between now : WireState) → begun ≡ empty_pool options.links options.retries options.budget options.max_body → ClosesSome (held_on new) (λ k. 0) between now
    → (events : List PoolEvent) (pool : Pooled) → Ran allows most begun new since between events pool → RunsPool allows options since now events pool
ran-closed allows options most begun new since between now e closes events pool r = record {
  between = between;
  travels = subst (λ (x : Pooled). Travels allows events x pool since between) e (subst (λ (x : Pooled). Travels allows events begun x since between) (sym r.is_pool) r.travels);
  on_wire = subst (λ (x : Pooled). SuitsWire x between) (sym r.is_pool) r.on_wire;
  closes = subst (λ (x : Pooled). ClosesSome (held_on x) (λ k. 0) between now) (sym r.is_pool) closes;
}

-- ---- what happened in a call, whose links are closed at last

-- these are what they are
same-these : (events : List PoolEvent) (pool : Pooled) → AreThese events pool events pool
same-these events pool = record { events_are = refl; pool_is = refl }

module _ (allows : List ℕ → ℕ → List ℕ → List ℕ → Type 0) (options : Options) (starts : List Address) (most : ℕ) (begun new : Pooled) (since between now : WireState)
    (is : begun ≡ empty_pool options.links options.retries options.budget options.max_body) (closes : ClosesSome (held_on new) (λ k. 0) between now) where
  abbrev From : List PoolEvent → Pooled → Type 0
  From events pool = Ran allows most begun new since between events pool

  -- this holds of what happened, in which no more asks wait at any moment than the most
  abbrev pub Once : ((List PoolEvent → Pooled → Type 0) → Type 0) → Type 0
  Once Q = (h : Happened allows options starts since now) × WaitFew most 0 h.events × Q (AreThese h.events h.pool)

  abbrev happened-so : (events : List PoolEvent) (pool : Pooled) → From events pool → AsksAt starts events → Happened allows options starts since now
  happened-so events pool r asks = record { events = events; pool = pool; runs = ran-closed allows options most begun new since between now is closes events pool r; asks = asks }

  few-so : (events : List PoolEvent) (pool : Pooled) → From events pool → WaitFew most 0 events
  few-so events pool r = subst (λ (p : Pooled). WaitFew most (length (held p)) events) is r.few

  module _ (sources : Sources) (q : QueryData) where
    returns-of : (h : Happened allows options starts since now) (report : Report) (rows : List Places) (r : Returns From sources q starts report rows) → AreThese h.events h.pool (r.first ++ r.later) r.pool → Returns (AreThese h.events h.pool) sources q starts report rows
    returns-of h report rows r these = record {
      first = r.first;
      later = r.later;
      pool = r.pool;
      runs = these;
      told = r.told;
      reads = r.reads;
      asks = r.asks;
      none_held = r.none_held;
      no_fault = r.no_fault;
      is_version = r.is_version;
      pages = r.pages;
      requests = r.requests;
      count = r.count;
      width = r.width;
      gives = r.gives;
    }

    pub returns-once : (report : Report) (rows : List Places) → Returns From sources q starts report rows → Once (λ ran. Returns ran sources q starts report rows)
    returns-once report rows r =
        let h = happened-so (r.first ++ r.later) r.pool r.runs r.asks in
        (h, few-so (r.first ++ r.later) r.pool r.runs, returns-of h report rows r (same-these (r.first ++ r.later) r.pool))

    pub all-once : (report : Report) (t u : Option (List ℕ)) → WritesAll From sources q starts report t u → Once (λ ran. WritesAll ran sources q starts report t u)
    all-once report t u w = let r = returns-once report w.rows w.returns in (r.0, r.1, record { rows = w.rows; returns = r.2; text = w.text })

    pub some-once : (budget : ℕ) (fault : ClientFault) (t u : Option (List ℕ)) → WritesSome From sources q starts budget fault t u → Once (λ ran. WritesSome ran sources q starts budget fault t u)
    some-once budget fault t u (Before b) = (
      happened-so b.events b.pool b.runs (starts-alone starts b.events b.asked),
      few-so b.events b.pool b.runs,
      Before (record { events = b.events; pool = b.pool; runs = same-these b.events b.pool; asked = b.asked; explains = b.explains; nothing = b.nothing }),
    )
    some-once budget fault t u (Behind b) = (
      happened-so (b.first ++ b.later) b.pool b.runs b.asks,
      few-so (b.first ++ b.later) b.pool b.runs,
      Behind (record { first = b.first; later = b.later; pool = b.pool; runs = same-these (b.first ++ b.later) b.pool; told = b.told; reads = b.reads; asks = b.asks; explains = b.explains; rows = b.rows; gives = b.gives; text = b.text }),
    )
    some-once budget fault t u (AtEnd b) = (
      happened-so (b.first ++ b.later) b.pool b.runs b.asks,
      few-so (b.first ++ b.later) b.pool b.runs,
      AtEnd (record { first = b.first; later = b.later; pool = b.pool; runs = same-these (b.first ++ b.later) b.pool; told = b.told; reads = b.reads; asks = b.asks; explains = b.explains; rows = b.rows; gives = b.gives; text = b.text }),
    )

    shows-once : (budget : ℕ) (fault : ClientFault) (before after : ℕ) (t u : Option (List ℕ)) (w : WritesSome From sources q starts budget fault t u) → ShowsGiven From sources q starts budget fault before after t u w
        → ShowsGiven (AreThese (some-once budget fault t u w).0.events (some-once budget fault t u w).0.pool) sources q starts budget fault before after t u (some-once budget fault t u w).2
    unfolding some-once
    shows-once budget fault before after t u (Before b) s = s
    shows-once budget fault before after t u (Behind b) s = s
    shows-once budget fault before after t u (AtEnd b) s = s

    pub shown-once : (budget : ℕ) (fault : ClientFault) (out out' : SinkState) → WritesShown From sources q starts budget fault out out' → Once (λ ran. WritesShown ran sources q starts budget fault out out')
    shown-once budget fault out out' w =
        let o = some-once budget fault out.taken out'.taken w.some in
        (o.0, o.1, record { some = o.2; shown = shows-once budget fault out.faults out'.faults out.taken out'.taken w.some w.shown })

  -- however it ended, what is said of it is said of one list of events
  pub record EndedOnce {A B : Type 0} (result : Result A B) (P : (List PoolEvent → Pooled → Type 0) → A → Type 0) (S : (List PoolEvent → Pooled → Type 0) → B → Type 0) : Type 0 where
    pub happened : Happened allows options starts since now
    pub few : WaitFew most 0 happened.events
    pub ok : IfOk result (P (AreThese happened.events happened.pool))
    pub err : IfErr result (S (AreThese happened.events happened.pool))

  pub ended-once : {A B : Type 0} (result : Result A B) (P : (List PoolEvent → Pooled → Type 0) → A → Type 0) (S : (List PoolEvent → Pooled → Type 0) → B → Type 0) → IfOk result (P From) → IfErr result (S From)
      → ((x : A) → P From x → Once (λ ran. P ran x)) → ((e : B) → S From e → Once (λ ran. S ran e)) → EndedOnce result P S
  ended-once (Ok x) P S ok err f g = let o = f x ok in record { happened = o.0; few = o.1; ok = o.2; err = tt }
  ended-once (Err e) P S ok err f g = let o = g e err in record { happened = o.0; few = o.1; ok = tt; err = o.2 }

-- a pool that holds nothing is at rest over every wire
pub rest-empty : (options : Options) (p : Pooled) (w : WireState) → p ≡ empty_pool options.links options.retries options.budget options.max_body → IsAtRest p w
rest-empty options p w e = subst (λ (x : Pooled). IsAtRest x w) (sym e) (record { none = refl; no_fault = refl; suits = record { polled = tt; due = tt; owned = λ k. omega arith } })
