-- A relation of a pool and its wire that each ask and each step keeps is kept by the events of a call. It may count the asks.
use Rattle.std.proofs.Common.{ℕ, ◌≡◌, ◌≢◌, ◌+◌, ◌++◌, List, [], ◌∷◌, length, Option, Some, None, refl, sym, ap, subst, ◌∙◌, append-nil, append_assoc, length-append, arith}
use Rattle.std.specs.Prelude.{Ok, Err}
use Rattle.std.specs.List.{AllByRecursion}
use Rattle.std.specs.List.Sorted.{IsPermutation}
use Rattle.std.proofs.lemmas.List.Elements.{All-from_recursion, recursion_from_All}
use Rattle.std.proofs.lemmas.List.Sorted.{All-permutation, IsPermutation-sym, length_permutation}
use Rattle.tpf_base.specs.Addresses.{address_text}
use Rattle.tpf_base.specs.Links.{WireState, OpensGiven}
use Rattle.request_pool.specs.declared.fault.PoolFault.{PoolFault}
use Rattle.request_pool.specs.declared.fault.Stepped.{Stepped}
use Rattle.request_pool.specs.declared.fault.Stepped.TheVariants as stepped
use Rattle.request_pool.specs.Faults.{kept_of}
use Rattle.request_pool.specs.Pools.{Pooled, Ask, held, bounds_of}
use Rattle.request_pool.specs.Owned.{SuitsWire}
use Rattle.request_pool.specs.Steps.{StepsTo}
use Rattle.pool_laws.specs.Following.{IsWebAddress}
use Rattle.tpf_client.specs.Traffic.{PoolEvent, Asked, Came, Waited, Broke, Moves, Travels, IsLawful, without_fault, Comes, StepWaits, StepBreaks}
use Rattle.tpf_client.specs.Turns.{asked_in}
use Rattle.tpf_client.proofs.Distinct.{put-held}

pub not-some : (o : Option PoolFault) (fault : PoolFault) → o ≡ Some fault → o ≡ None → ⊥
not-some o fault e n = let q : Some fault ≡ None = sym e ∙ n in cc

pub all-permuted : (P : Ask → Type 0) (xs ys : List Ask) → IsPermutation xs ys → AllByRecursion P xs → AllByRecursion P ys
all-permuted P xs ys h a = recursion_from_All P ys (All-permutation P xs ys h (All-from_recursion P xs a))

some-held : (ask : Ask) (xs ys : List Ask) → IsPermutation xs (ask ∷ ys) → xs ≢ []
some-held ask xs ys h e = let n : length (ask ∷ ys) ≡ length {A = Ask} [] = length_permutation xs (ask ∷ ys) h ∙ ap (λ (l : List Ask). length l) e in cc

module _ (allows : List ℕ → ℕ → List ℕ → List ℕ → Type 0) (base : Pooled) (P : Ask → Type 0) where
  -- Between two events: this holds of the asks that a pool holds, unless it ended, and its bounds are those of the first.
  pub record Between (p : Pooled) (v : WireState) : Type 0 where
    pub given : OpensGiven v
    pub suits : SuitsWire p v
    pub are : p.fault ≡ None → AllByRecursion P (held p)
    pub bounds : bounds_of (without_fault p) ≡ base

  -- where a step was taken, with some asks
  pub record Taken (p q : Pooled) (v w : WireState) : Type 0 where
    pub given : OpensGiven v
    pub suits : SuitsWire p v
    pub no_fault : p.fault ≡ None
    pub some : held p ≢ []
    pub are : AllByRecursion P (held p)
    pub bounds : bounds_of (without_fault p) ≡ base
    pub after : bounds_of (without_fault q) ≡ base
    pub lawful : IsLawful allows w

  -- the relation with the asks that were put, in their order, is kept for such asks
  pub record IsKeptWith (I : List Ask → Pooled → WireState → Type 0) : Type 0 where
    pub puts : (asks : List Ask) (ask : Ask) (p : Pooled) (v : WireState) → P ask → IsWebAddress ask.address → I asks p v → I (asks ++ ask ∷ []) (record p { waiting = p.waiting ++ (record { ticket = ask.ticket; address = ask.address; failed = 0 }) ∷ [] }) v
    pub steps : (asks : List Ask) (answer : Stepped) (p q : Pooled) (v w : WireState) → Taken p q v w → I asks p v → StepsTo (Ok answer) p q v w → I asks q w
    pub breaks : (asks : List Ask) (fault : PoolFault) (p q : Pooled) (v w : WireState) → Taken p q v w → I asks p v → StepsTo (Err fault) p (without_fault q) v w → q.fault ≡ Some (kept_of fault) → I asks q w

  -- the same with their number
  pub record IsKeptBy (I : ℕ → Pooled → WireState → Type 0) : Type 0 where
    pub puts : (n : ℕ) (ask : Ask) (p : Pooled) (v : WireState) → P ask → IsWebAddress ask.address → I n p v → I (n + 1) (record p { waiting = p.waiting ++ (record { ticket = ask.ticket; address = ask.address; failed = 0 }) ∷ [] }) v
    pub steps : (n : ℕ) (answer : Stepped) (p q : Pooled) (v w : WireState) → Taken p q v w → I n p v → StepsTo (Ok answer) p q v w → I n q w
    pub breaks : (n : ℕ) (fault : PoolFault) (p q : Pooled) (v w : WireState) → Taken p q v w → I n p v → StepsTo (Err fault) p (without_fault q) v w → q.fault ≡ Some (kept_of fault) → I n q w

  -- ---- one event

  are-next : (event : PoolEvent) (p q : Pooled) (v w : WireState) → AllByRecursion P (asked_in (event ∷ [])) → Between p v → Moves allows event p q v w → q.fault ≡ None → AllByRecursion P (held q)
  are-next (Asked ask) p q v w a b m none =
      let h = m.happens.0 in
      let had : p.fault ≡ None = sym (ap (λ (x : Pooled). x.fault) h.put) ∙ none in
      all-permuted P (ask ∷ held p) (held q) (IsPermutation-sym (held q) (ask ∷ held p) (put-held ask p q h)) (a.0, b.are had)
  are-next (Came ask reply) p q v w a b m none = let h : Comes ask reply p q v w = m.happens in (all-permuted P (held p) (ask ∷ held q) h.others (b.are h.had_none)).1
  are-next Waited p q v w a b m none = let h : StepWaits p q v w = m.happens in all-permuted P (held p) (held q) h.others (b.are h.had_none)
  are-next (Broke fault) p q v w a b m none = let h : StepBreaks fault p q v w = m.happens in absurd (not-some q.fault (kept_of fault) h.kept none)

  next : (event : PoolEvent) (p q : Pooled) (v w : WireState) → AllByRecursion P (asked_in (event ∷ [])) → Between p v → Moves allows event p q v w → Between q w
  next event p q v w a b m = record { given = m.lawful.given; suits = m.suits; are = λ none. are-next event p q v w a b m none; bounds = m.bounds ∙ b.bounds }

  pub taken : (event : PoolEvent) (p q : Pooled) (v w : WireState) → held p ≢ [] → p.fault ≡ None → Between p v → Moves allows event p q v w → Taken p q v w
  taken event p q v w some had b m = record {
    given = b.given;
    suits = b.suits;
    no_fault = had;
    some = some;
    are = b.are had;
    bounds = b.bounds;
    after = m.bounds ∙ b.bounds;
    lawful = m.lawful;
  }

  -- ---- one event after another

  pub between-after : (events : List PoolEvent) (p q : Pooled) (v w : WireState) → AllByRecursion P (asked_in events) → Between p v → Travels allows events p q v w → Between q w
  between-after [] p q v w a b t = subst (λ (x : Pooled). Between x w) (sym t.0) (subst (λ (y : WireState). Between p y) (sym t.1) b)
  between-after (Asked ask ∷ events) p q v w a b t = between-after events t.0.pool q t.0.wire w a.1 (next (Asked ask) p t.0.pool v t.0.wire (a.0, tt) b t.1) t.2
  between-after (Came ask reply ∷ events) p q v w a b t = between-after events t.0.pool q t.0.wire w a (next (Came ask reply) p t.0.pool v t.0.wire tt b t.1) t.2
  between-after (Waited ∷ events) p q v w a b t = between-after events t.0.pool q t.0.wire w a (next Waited p t.0.pool v t.0.wire tt b t.1) t.2
  between-after (Broke fault ∷ events) p q v w a b t = between-after events t.0.pool q t.0.wire w a (next (Broke fault) p t.0.pool v t.0.wire tt b t.1) t.2

  module _ (I : List Ask → Pooled → WireState → Type 0) (k : IsKeptWith I) where
    by-asks : (events : List PoolEvent) (asks : List Ask) (p q : Pooled) (v w : WireState) → Between p v → AllByRecursion P (asked_in events) → I asks p v → Travels allows events p q v w → I (asks ++ asked_in events) q w
    by-asks [] asks p q v w b a i t =
        subst (λ (l : List Ask). I l q w) (sym (append-nil asks)) (subst (λ (x : Pooled). I asks x w) (sym t.0) (subst (λ (y : WireState). I asks p y) (sym t.1) i))
    by-asks (Asked ask ∷ events) asks p q v w b a i t =
        let h = t.1.happens in
        let put : I (asks ++ ask ∷ []) t.0.pool t.0.wire =
        subst (λ (y : WireState). I (asks ++ ask ∷ []) t.0.pool y) (sym h.1) (subst (λ (x : Pooled). I (asks ++ ask ∷ []) x v) (sym h.0.put) (k.puts asks ask p v a.0 (address_text ask.address, h.0.is_address) i)) in
        subst (λ (l : List Ask). I l q w) (append_assoc asks (ask ∷ []) (asked_in events)) (by-asks events (asks ++ ask ∷ []) t.0.pool q t.0.wire w (next (Asked ask) p t.0.pool v t.0.wire (a.0, tt) b t.1) a.1 put t.2)
    by-asks (Came ask reply ∷ events) asks p q v w b a i t =
        let h : Comes ask reply p t.0.pool v t.0.wire = t.1.happens in
        let at = taken (Came ask reply) p t.0.pool v t.0.wire (some-held ask (held p) (held t.0.pool) h.others) h.had_none b t.1 in
        by-asks events asks t.0.pool q t.0.wire w (next (Came ask reply) p t.0.pool v t.0.wire tt b t.1) a (k.steps asks (stepped.Came ask.ticket ask.address reply) p t.0.pool v t.0.wire at i h.steps) t.2
    by-asks (Waited ∷ events) asks p q v w b a i t =
        let h : StepWaits p t.0.pool v t.0.wire = t.1.happens in
        let at = taken Waited p t.0.pool v t.0.wire h.some h.had_none b t.1 in
        by-asks events asks t.0.pool q t.0.wire w (next Waited p t.0.pool v t.0.wire tt b t.1) a (k.steps asks stepped.Waited p t.0.pool v t.0.wire at i h.steps) t.2
    by-asks (Broke fault ∷ events) asks p q v w b a i t =
        let h : StepBreaks fault p t.0.pool v t.0.wire = t.1.happens in
        let at = taken (Broke fault) p t.0.pool v t.0.wire h.some h.had_none b t.1 in
        by-asks events asks t.0.pool q t.0.wire w (next (Broke fault) p t.0.pool v t.0.wire tt b t.1) a (k.breaks asks fault p t.0.pool v t.0.wire at i h.steps h.kept) t.2

    -- from a pool of which nothing was asked
    pub with-asks : (events : List PoolEvent) (p q : Pooled) (v w : WireState) → Between p v → AllByRecursion P (asked_in events) → I [] p v → Travels allows events p q v w → I (asked_in events) q w
    with-asks events p q v w b a i t = by-asks events [] p q v w b a i t

  one-more : (asks : List Ask) (ask : Ask) → length asks + 1 ≡ length (asks ++ ask ∷ [])
  one-more asks ask = let a = length-append asks (ask ∷ []) in let b : length (ask ∷ []) ≡ 1 = refl in omega (arith, a, b)

  module _ (I : ℕ → Pooled → WireState → Type 0) (k : IsKeptBy I) where
    numbered : IsKeptWith (λ asks p v. I (length asks) p v)
    numbered = record {
      puts = λ asks ask p v own web i. subst (λ (n : ℕ). I n (record p { waiting = p.waiting ++ (record { ticket = ask.ticket; address = ask.address; failed = 0 }) ∷ [] }) v) (one-more asks ask) (k.puts (length asks) ask p v own web i);
      steps = λ asks answer p q v w at i t. k.steps (length asks) answer p q v w at i t;
      breaks = λ asks fault p q v w at i t kept. k.breaks (length asks) fault p q v w at i t kept;
    }

    pub by-events : (events : List PoolEvent) (p q : Pooled) (v w : WireState) → Between p v → AllByRecursion P (asked_in events) → I 0 p v → Travels allows events p q v w → I (length (asked_in events)) q w
    by-events events p q v w b a i t = with-asks (λ asks x y. I (length asks) x y) numbered events p q v w b a i t
