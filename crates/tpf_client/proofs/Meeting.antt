-- An evaluation and its pool, as asks are put and replies come.
use Rattle.std.proofs.Common.{ℕ, suc, ◌≡◌, ◌≢◌, ◌+◌, ◌≤◌, ◌<◌, true, false, None, List, [], ◌∷◌, map, length, refl, sym, ap, subst, ◌∙◌, arith, ⊎_elim}
use Rattle.std.specs.List.{All, AllByRecursion, Contains, sum_by}
use Rattle.std.specs.List.Sorted.{IsPermutation}
use Rattle.std.proofs.lemmas.Bool.{cases_eq}
use Rattle.std.proofs.lemmas.Bool.Decides.{nat_tests}
use Rattle.std.proofs.lemmas.List.Elements.{All-cons, All-head, All-tail, recursion_from_All}
use Rattle.std.proofs.lemmas.List.Sums.{sum_by-cons}
use Rattle.std.proofs.lemmas.List.Sorted.{sum_by-IsPermutation, length_permutation, IsPermutation-refl, IsPermutation-sym, IsPermutation-trans, IsPermutation-cons, IsPermutation-middle, All-permutation, Contains-permutation}
use Rattle.list_laws.proofs.Members.{at_head, in_tail, head_or_tail, none_in, Contains-map}
use Rattle.tpf_base.specs.Addresses.{Address}
use Rattle.request_pool.specs.Pools.{Pooled, Ask, held}
use Rattle.request_plan.specs.Evaluations.{Account, Standing, HasHome, NumbersAsk, EndsNumber, HandsOver, EndsTicket, EndsInQuiet}
use Rattle.tpf_client.specs.Traffic.{is_under}
use Rattle.tpf_client.specs.Asking.{PutsOne}
use Rattle.tpf_client.specs.Turns.{Limits, most_waiting, Meets, IsOut, is_number, is_pair, pair_of}
use Rattle.tpf_client.proofs.Distinct.{all-apart, apart-from, under, fresh-distinct, distinct-permuted, rest-distinct, one-ask, put-held}

-- ---- numbers of tickets

number-is : (t u : ℕ) → u ≡ t → is_number t u ≡ 1
number-is t u e = grind (arith, nat_tests)

number-not : (t u : ℕ) → u ≢ t → is_number t u ≡ 0
number-not t u n = grind (arith, nat_tests)

none-number : (t : ℕ) (out : List ℕ) → AllByRecursion (λ u. u < t) out → sum_by (is_number t) out ≡ 0
none-number t [] h = refl
none-number t (u ∷ out) h =
    let c = sum_by-cons (is_number t) u out in
    let l = h.0 in
    let n : u ≢ t = omega arith in
    let z = number-not t u n in
    let r = none-number t out h.1 in
    omega arith

-- a ticket that is counted is there
number-in : (t : ℕ) (out : List ℕ) → 1 ≤ sum_by (is_number t) out → Contains out t
number-in t [] h = absurd (omega arith)
number-in t (u ∷ out) h =
    ⊎_elim (λ (e : u ≡ t). subst (λ (x : ℕ). Contains (u ∷ out) x) e (at_head u out))
    (λ (n : u ≢ t). let c = sum_by-cons (is_number t) u out in let z = number-not t u n in in_tail u t out (number-in t out (omega arith))) (cases_eq u t)

empty-out : (out : List ℕ) → ((t : ℕ) → sum_by (is_number t) out ≡ 0) → out ≡ []
empty-out [] h = refl
empty-out (u ∷ out) h = absurd (let c = sum_by-cons (is_number u) u out in let o = number-is u u refl in let z = h u in omega arith)

none-under-all : (asks : List Ask) → ((t : ℕ) → sum_by (is_under t) asks ≡ 0) → asks ≡ []
none-under-all [] h = refl
none-under-all (a ∷ asks) h = absurd (let c = sum_by-cons (is_under a.ticket) a asks in let u = under a.ticket a refl in let z = h a.ticket in omega arith)

taken-out : (t : ℕ) (out : List ℕ) → Contains out t → (rest : List ℕ) × IsPermutation out (t ∷ rest)
taken-out t [] c = absurd (none_in t c)
taken-out t (u ∷ out) c =
    ⊎_elim (λ (e : u ≡ t). (out, subst (λ (x : ℕ). IsPermutation (u ∷ out) (x ∷ out)) e (IsPermutation-refl (u ∷ out))))
    (λ (m : Contains out t). let r = taken-out t out m in (u ∷ r.0, IsPermutation-trans (u ∷ out) (u ∷ t ∷ r.0) (t ∷ u ∷ r.0) (IsPermutation-cons u out (t ∷ r.0) r.1) (IsPermutation-middle (u ∷ []) t r.0))) (head_or_tail u t out c)

same-rest : (x y z u v w : ℕ) → x ≡ y + z → u ≡ v → u ≡ y + w → x ≡ v → z ≡ w
same-rest x y z u v w e f g h = omega (arith, e, f, g, h)

-- as many asks as tickets
same-many : (asks : List Ask) (out : List ℕ) → ((t : ℕ) → sum_by (is_under t) asks ≡ sum_by (is_number t) out) → length asks ≡ length out
same-many [] out h = sym (ap (λ (l : List ℕ). length l) (empty-out out (λ t. sym (h t))))
same-many (a ∷ asks) out h =
    let one = under a.ticket a refl in
    let here = sum_by-cons (is_under a.ticket) a asks in
    let many = h a.ticket in
    let r = taken-out a.ticket out (number-in a.ticket out (omega (arith, one, here, many))) in
    let more = same-many asks r.0 (λ t. same-rest (sum_by (is_under t) (a ∷ asks)) (is_under t a) (sum_by (is_under t) asks) (sum_by (is_number t) (a.ticket ∷ r.0)) (sum_by (is_number t) out) (sum_by (is_number t) r.0)
    (sum_by-cons (is_under t) a asks) (sum_by-IsPermutation (is_number t) out (a.ticket ∷ r.0) r.1) (sum_by-cons (is_number t) a.ticket r.0) (h t)) in
    let whole : length (a.ticket ∷ r.0) ≡ length out = length_permutation out (a.ticket ∷ r.0) r.1 in
    let size : length (a.ticket ∷ r.0) ≡ suc (length r.0) = refl in
    let first : length (a ∷ asks) ≡ suc (length asks) = refl in
    omega (arith, more, whole, size, first)

one-less : (n m most : ℕ) → suc n ≡ m → m ≤ most → n ≤ most
one-less n m most e l = omega (arith, e, l)

module _ (limits : Limits) (K : Type 0) (s : Standing) (pool : Pooled) where
  pub meets-fresh : (ticket : ℕ) → Meets limits K s pool → All (λ t. t < s.given) s.out → ticket ≡ s.given → AllByRecursion (λ a. a.ticket ≢ ticket) (held pool)
  meets-fresh ticket m below e =
      subst (λ (t : ℕ). AllByRecursion (λ a. a.ticket ≢ t) (held pool)) (sym e)
      (all-apart s.given (held pool) (m.tickets s.given ∙ none-number s.given s.out (recursion_from_All (λ t. t < s.given) s.out below)))

  put-tickets : (s' : Standing) (pool' : Pooled) (ask : Ask) → Meets limits K s pool → PutsOne ask pool pool' → NumbersAsk s s' ask.ticket → (t : ℕ) → sum_by (is_under t) (held pool') ≡ sum_by (is_number t) s'.out
  put-tickets s' pool' ask m p n t =
      let a = sum_by-IsPermutation (is_under t) _ _ (put-held ask pool pool' p.puts) in
      let b = sum_by-cons (is_under t) ask (held pool) in
      let c = sum_by-IsPermutation (is_number t) _ _ n.out in
      let d = sum_by-cons (is_number t) ask.ticket s.out in
      let e = m.tickets t in
      sym a ∙ b ∙ ap (λ (x : ℕ). is_under t ask + x) e ∙ sym d ∙ c

  pub meets-put : (K' : Type 0) (s' : Standing) (pool' : Pooled) (ask : Ask) → Meets limits K s pool → PutsOne ask pool pool' → NumbersAsk s s' ask.ticket → HasHome limits.terms.homes ask.address → K' → length s'.out ≤ most_waiting limits.sizes → Meets limits K' s' pool'
  meets-put K' s' pool' ask m p n home k few =
      record {
        kept = k;
        homes = All-permutation (λ a. HasHome limits.terms.homes a.address) (ask ∷ held pool) (held pool') (IsPermutation-sym _ _ (put-held ask pool pool' p.puts)) (All-cons (λ a. HasHome limits.terms.homes a.address) ask (held pool) home m.homes);
        tickets = put-tickets s' pool' ask m p n;
        distinct = p.distinct (p.no_fault ∙ m.no_fault);
        few = subst (λ (k : ℕ). k ≤ most_waiting limits.sizes) (sym (same-many (held pool') s'.out (put-tickets s' pool' ask m p n))) few;
        no_fault = p.no_fault ∙ m.no_fault;
      }

  pub meets-came : (K' : Type 0) (s' : Standing) (pool' : Pooled) (ask : Ask) → Meets limits K s pool → IsPermutation (held pool) (ask ∷ held pool') → EndsNumber s s' ask.ticket → pool'.fault ≡ None → K' → Meets limits K' s' pool'
  meets-came K' s' pool' ask m others n f k = record {
    kept = k;
    homes = All-tail (λ a. HasHome limits.terms.homes a.address) ask (held pool') (All-permutation (λ a. HasHome limits.terms.homes a.address) (held pool) (ask ∷ held pool') others m.homes);
    tickets = λ t.
        let a = sum_by-IsPermutation (is_under t) _ _ others in
        let b = sum_by-cons (is_under t) ask (held pool') in
        let c = sum_by-IsPermutation (is_number t) _ _ n.out in
        let d = sum_by-cons (is_number t) ask.ticket s'.out in
        let e = m.tickets t in
        let g : is_under t ask + sum_by (is_under t) (held pool') ≡ is_under t ask + sum_by (is_number t) s'.out = sym b ∙ a ∙ e ∙ sym c ∙ d in
        omega arith;
    distinct = rest-distinct ask (held pool') (distinct-permuted (held pool) (ask ∷ held pool') others m.distinct);
    few = one-less (length (held pool')) (length (held pool)) (most_waiting limits.sizes) (length_permutation (held pool) (ask ∷ held pool') others) m.few;
    no_fault = f;
  }

  pub meets-home : (pool' : Pooled) (ask : Ask) → Meets limits K s pool → IsPermutation (held pool) (ask ∷ held pool') → HasHome limits.terms.homes ask.address
  meets-home pool' ask m others = All-head (λ a. HasHome limits.terms.homes a.address) ask (held pool') (All-permutation (λ a. HasHome limits.terms.homes a.address) (held pool) (ask ∷ held pool') others m.homes)

  -- where the evaluation is quiet and not done, an ask is held
  pub meets-some : Meets limits K s pool → EndsInQuiet s → s.waiting ≡ 0 → s.done ≡ false → held pool ≢ []
  meets-some m quiet w d e =
      let none : s.out ≡ [] = empty-out s.out (λ t. sym (m.tickets t) ∙ ap (λ (l : List Ask). sum_by (is_under t) l) e) in
      let done : s.done ≡ true = quiet none w in
      let f : false ≡ true = sym d ∙ done in
      cc

  -- where no ticket is out, no ask is held
  pub quiet-holds-none : Meets limits K s pool → s.out ≡ [] → held pool ≡ []
  quiet-holds-none m e = none-under-all (held pool) (λ t. m.tickets t ∙ ap (λ (l : List ℕ). sum_by (is_number t) l) e)

  pub meets-out : (pool' : Pooled) (ask : Ask) → Meets limits K s pool → IsPermutation (held pool) (ask ∷ held pool') → Contains s.out ask.ticket
  meets-out pool' ask m others =
      let a = sum_by-IsPermutation (is_under ask.ticket) _ _ others in
      let b = sum_by-cons (is_under ask.ticket) ask (held pool') in
      let c = under ask.ticket ask refl in
      let d = m.tickets ask.ticket in
      number-in ask.ticket s.out (omega arith)

-- ---- what an account has out

pair-not : (t : ℕ) (out : List (ℕ × Address)) → ((p : ℕ × Address) → Contains out p → p.0 ≢ t) → sum_by (is_pair t) out ≡ 0
pair-not t [] h = refl
pair-not t (p ∷ out) h =
    let c = sum_by-cons (is_pair t) p out in
    let z = number-not t p.0 (h p (at_head p out)) in
    let r = pair-not t out (λ q m. h q (in_tail p q out m)) in
    omega arith

pair-in : (t : ℕ) (out : List (ℕ × Address)) (p : ℕ × Address) → Contains out p → p.0 ≡ t → 1 ≤ sum_by (is_pair t) out
pair-in t [] p h e = absurd (none_in p h)
pair-in t (q ∷ out) p h e =
    let c = sum_by-cons (is_pair t) q out in
    ⊎_elim (λ (s : q ≡ p). let o = number-is t q.0 (ap (λ (x : ℕ × Address). x.0) s ∙ e) in omega arith) (λ (m : Contains out p). let r = pair-in t out p m e in omega arith) (head_or_tail q p out h)

-- the ask of a pair
ask-of-pair : (asks : List Ask) (p : ℕ × Address) → Contains (map pair_of asks) p → (ask : Ask) × Contains asks ask × (pair_of ask ≡ p)
ask-of-pair [] p h = absurd (none_in p h)
ask-of-pair (a ∷ asks) p h =
    ⊎_elim (λ (e : pair_of a ≡ p). (a, at_head a asks, e)) (λ (m : Contains (map pair_of asks) p). let r = ask-of-pair asks p m in (r.0, in_tail a r.0 asks r.1, r.2)) (head_or_tail (pair_of a) p (map pair_of asks) h)

ticket-apart : (t : ℕ) (asks : List Ask) (p : ℕ × Address) → AllByRecursion (λ b. b.ticket ≢ t) asks → Contains (map pair_of asks) p → p.0 ≢ t
ticket-apart t asks p h m =
    let r = ask-of-pair asks p m in
    subst (λ (x : ℕ × Address). x.0 ≢ t) r.2 (apart-from t asks r.0 h r.1)

pub outs-put : (ask : Ask) (pool pool' : Pooled) (a b : Account) → PutsOne ask pool pool' → HandsOver a b ask.ticket ask.address → IsOut pool a → IsOut pool' b
outs-put ask pool pool' a b p h o = record {
  distinct = distinct-permuted (ask ∷ held pool) (held pool') (IsPermutation-sym _ _ (put-held ask pool pool' p.puts)) (fresh-distinct ask (held pool) p.puts.fresh o.distinct);
  is_held = λ pair m.
      let back = IsPermutation-sym _ _ (put-held ask pool pool' p.puts) in
      ⊎_elim (λ (e : pair_of ask ≡ pair). subst (λ (x : ℕ × Address). Contains (map pair_of (held pool')) x) e (Contains-map pair_of (held pool') ask (Contains-permutation _ _ ask back (at_head ask (held pool)))))
      (λ (n : Contains a.out pair). let r = ask-of-pair (held pool) pair (o.is_held pair n) in
      subst (λ (x : ℕ × Address). Contains (map pair_of (held pool')) x) r.2 (Contains-map pair_of (held pool') r.0 (Contains-permutation _ _ r.0 back (in_tail ask r.0 (held pool) r.1))))
      (head_or_tail (pair_of ask) pair a.out (Contains-permutation _ _ pair h.out m));
  once = λ t.
      let s = sum_by-IsPermutation (is_pair t) _ _ h.out in
      let c = sum_by-cons (is_pair t) (pair_of ask) a.out in
      let l = o.once t in
      ⊎_elim (λ (e : ask.ticket ≡ t).
      let z : sum_by (is_pair t) a.out ≡ 0 = pair-not t a.out (λ q m. subst (λ (n : ℕ). q.0 ≢ n) e (ticket-apart ask.ticket (held pool) q p.puts.fresh (o.is_held q m))) in
      let one = number-is t ask.ticket e in
      omega arith)
      (λ (n : ask.ticket ≢ t). let z = number-not t ask.ticket n in omega arith) (cases_eq ask.ticket t);
}

pub outs-came : (ask : Ask) (pool pool' : Pooled) (a b : Account) → IsPermutation (held pool) (ask ∷ held pool') → EndsTicket a b ask.ticket → IsOut pool a → IsOut pool' b
outs-came ask pool pool' a b others h o = record {
  distinct = rest-distinct ask (held pool') (distinct-permuted (held pool) (ask ∷ held pool') others o.distinct);
  is_held = λ pair m.
      let before : Contains a.out pair = Contains-permutation _ _ pair (IsPermutation-sym _ _ h.out) (in_tail (ask.ticket, h.address) pair b.out m) in
      let r = ask-of-pair (held pool) pair (o.is_held pair before) in
      ⊎_elim (λ (e : ask ≡ r.0).
      let t : pair.0 ≡ ask.ticket = sym (ap (λ (x : ℕ × Address). x.0) r.2) ∙ sym (ap (λ (x : Ask). x.ticket) e) in
      let two = pair-in ask.ticket b.out pair m t in
      let s = sum_by-IsPermutation (is_pair ask.ticket) _ _ h.out in
      let c = sum_by-cons (is_pair ask.ticket) (ask.ticket, h.address) b.out in
      let one = number-is ask.ticket ask.ticket refl in
      let l = o.once ask.ticket in
      absurd (omega arith))
      (λ (n : Contains (held pool') r.0). subst (λ (x : ℕ × Address). Contains (map pair_of (held pool')) x) r.2 (Contains-map pair_of (held pool') r.0 n))
      (head_or_tail ask r.0 (held pool') (Contains-permutation _ _ r.0 others r.1));
  once = λ t.
      let s = sum_by-IsPermutation (is_pair t) _ _ h.out in
      let c = sum_by-cons (is_pair t) (ask.ticket, h.address) b.out in
      let l = o.once t in
      omega arith;
}

pub outs-kept : (pool : Pooled) (a b : Account) → IsPermutation a.out b.out → IsOut pool a → IsOut pool b
outs-kept pool a b h o = record {
  distinct = o.distinct;
  is_held = λ pair m. o.is_held pair (Contains-permutation _ _ pair (IsPermutation-sym _ _ h) m);
  once = λ t. let s = sum_by-IsPermutation (is_pair t) _ _ h in let l = o.once t in omega arith;
}

-- an address with which the ticket is out is that of its ask
pub outs-address : (ask : Ask) (pool pool' : Pooled) (a : Account) → IsPermutation (held pool) (ask ∷ held pool') → IsOut pool a → (address : Address) → Contains a.out (ask.ticket, address) → address ≡ ask.address
outs-address ask pool pool' a others o address m =
    let r = ask-of-pair (held pool) (ask.ticket, address) (o.is_held (ask.ticket, address) m) in
    let mine : Contains (held pool) ask = Contains-permutation _ _ ask (IsPermutation-sym _ _ others) (at_head ask (held pool')) in
    let same : r.0 ≡ ask = one-ask (held pool) r.0 ask o.distinct r.1 mine (ap (λ (x : ℕ × Address). x.0) r.2) in
    sym (ap (λ (x : ℕ × Address). x.1) r.2) ∙ ap (λ (x : Ask). x.address) same
