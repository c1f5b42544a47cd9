-- An evaluation, one change after another.
use Rattle.std.proofs.Common.{ℕ, ◌≡◌, ◌≢◌, ◌+◌, ◌≤◌, ◌<◌, ◌++◌, Option, Some, None, List, [], ◌∷◌, length, refl, sym, ap, subst, ◌∙◌, arith}
use Rattle.std.specs.Prelude.{Result, Ok, MatchOption}
use Rattle.std.specs.List.{All, AllByRecursion, sum_by}
use Rattle.std.proofs.lemmas.List.{length-append}
use Rattle.std.proofs.lemmas.List.Elements.{All-nil, All-cons, All-append}
use Rattle.bgp_core.specs.Solutions.{Places}
use Rattle.request_pool.specs.Pools.{Pooled, Ask, held}
use Rattle.request_plan.specs.Evaluations.{Account, Standing, HasHome, NumbersAsk, TakesOne as OneTaken, HandsOver, GivesOwed, StandsAfterAsk, OwesAfterAsk, AsksAtHome, EndsInQuiet}
use Rattle.request_plan.specs.declared.evaluation.Ask.{Ask as JoinAsk}
use Rattle.tpf_client.specs.Traffic.{is_under}
use Rattle.tpf_client.specs.Asking.{PutsOne}
use Rattle.tpf_client.specs.Turns.{Limits, most_waiting, Meets, is_number, IsOut, HandsAll, Hands, Gives}
use Rattle.tpf_client.proofs.Accounting.{hands-none, hands-then, hands-one, gives-none, gives-then, gives-one}
use Rattle.tpf_client.proofs.Meeting.{meets-fresh, meets-put, outs-put, outs-kept}
use Rattle.tpf_client.proofs.Traveling.{puts-then}

-- the same evaluation and standing, and what it keeps to
meets-same : (limits : Limits) (K K' : Type 0) (s s' : Standing) (pool : Pooled) → s'.out ≡ s.out → Meets limits K s pool → K' → Meets limits K' s' pool
meets-same limits K K' s s' pool e m k = record {
  kept = k;
  homes = m.homes;
  tickets = λ t. subst (λ (l : List ℕ). sum_by (is_under t) (held pool) ≡ sum_by (is_number t) l) (sym e) (m.tickets t);
  distinct = m.distinct;
  few = m.few;
  no_fault = m.no_fault;
}

pub asked-nothing : {B : Type 0} (r : Result (Option JoinAsk) B) (o : Option JoinAsk) → r ≡ Ok o → o ≡ None → r ≡ Ok None
asked-nothing r o e n = e ∙ ap (λ (x : Option JoinAsk). Ok x) n

sum-zero : (n : ℕ) → n ≡ n + 0
sum-zero n = omega arith

sum-then : (x y : ℕ) (first second : List Ask) → y ≡ x + length first → y + length second ≡ x + length (first ++ second)
sum-then x y first second e = let l = length-append first second in omega arith

-- what holds where there is none
pub none-so : {X : Type 0} (o : Option X) (A : Type 0) (P : X → Type 0) → o ≡ None → MatchOption o A P → A
none-so {X = X} o A P e h = subst (λ (x : Option X). MatchOption x A P) e h

-- what counts the tickets counts one more, or none more
pub one-more : (ask : Ask) (tickets given given' : ℕ) → tickets ≡ given → given' ≡ given + length (ask ∷ []) → tickets + 1 ≡ given'
one-more ask tickets given given' e n = let m : given' ≡ given + 1 = n in omega (arith, e, m)

pub none-more : (tickets given given' : ℕ) → tickets ≡ given → given' ≡ given + length {A = Ask} [] → tickets ≡ given'
none-more tickets given given' e n = let m : given' ≡ given + 0 = n in omega (arith, e, m)

module _ {Source Eval : Type 0} (suits : Source → Eval → Type 0) (account : Source → Eval → Account) (keeps : Limits → Eval → Type 0) (standing : Eval → Standing) where
  -- ---- asks

  -- there was none
  pub hand-none : (old new : Eval) (pool : Pooled) → standing new ≡ standing old → ((limits : Limits) → keeps limits old → keeps limits new)
      → ((source : Source) → suits source old → suits source new) → ((source : Source) → suits source old → account source new ≡ account source old) → Hands suits account keeps standing old new [] pool pool
  hand-none old new pool e k s a = record {
    puts = refl;
    given = ap (λ (x : Standing). x.given) e ∙ sum-zero (standing old).given;
    waiting = ap (λ (x : Standing). x.waiting) e;
    meets = λ limits m. meets-same limits (keeps limits old) (keeps limits new) (standing old) (standing new) pool (ap (λ (x : Standing). x.out) e) m (k limits m.kept);
    stays = s;
    owes = λ source h. subst (λ (x : Account). HandsAll (account source old) x []) (sym (a source h)) (hands-none (account source old));
    outs = λ source h o. subst (λ (x : Account). IsOut pool x) (sym (a source h)) o;
  }

  -- one was put
  pub hand-one : (old new : Eval) (ask : Ask) (pool pool' : Pooled) → PutsOne ask pool pool' → NumbersAsk (standing old) (standing new) ask.ticket
      → ((limits : Limits) → keeps limits old → keeps limits new) → ((limits : Limits) → keeps limits new → length (standing new).out ≤ most_waiting limits.sizes) → ((limits : Limits) → keeps limits old → HasHome limits.terms.homes ask.address)
      → ((source : Source) → suits source old → suits source new) → ((source : Source) → suits source old → HandsOver (account source old) (account source new) ask.ticket ask.address)
      → Hands suits account keeps standing old new (ask ∷ []) pool pool'
  hand-one old new ask pool pool' p n k few home s a = record {
    puts = (pool', p, refl);
    given = n.given;
    waiting = n.waiting;
    meets = λ limits m. meets-put limits (keeps limits old) (standing old) pool (keeps limits new) (standing new) pool' ask m p n (home limits m.kept) (k limits m.kept) (few limits (k limits m.kept));
    stays = s;
    owes = λ source h. hands-one (account source old) (account source new) ask (a source h);
    outs = λ source h o. outs-put ask pool pool' (account source old) (account source new) p (a source h) o;
  }

  -- what a call gives of an ask, where there is one
  pub hand-fresh : (old new : Eval) (o : Option JoinAsk) (ask : JoinAsk) (pool : Pooled) (limits : Limits) → o ≡ Some ask → StandsAfterAsk (standing old) (standing new) o → Meets limits (keeps limits old) (standing old) pool → All (λ t. t < (standing old).given) (standing old).out
      → AllByRecursion (λ a. a.ticket ≢ ask.ticket) (held pool)
  hand-fresh old new o ask pool limits e s m below =
      let n : NumbersAsk (standing old) (standing new) ask.ticket = subst (λ (x : Option JoinAsk). StandsAfterAsk (standing old) (standing new) x) e s in
      meets-fresh limits (keeps limits old) (standing old) pool ask.ticket m below n.number

  pub hand-some : (old new : Eval) (o : Option JoinAsk) (ask : JoinAsk) (pool pool' : Pooled) → o ≡ Some ask → PutsOne (record { ticket = ask.ticket; address = ask.address }) pool pool' → StandsAfterAsk (standing old) (standing new) o
      → ((limits : Limits) → keeps limits old → keeps limits new) → ((limits : Limits) → keeps limits new → length (standing new).out ≤ most_waiting limits.sizes) → ((limits : Limits) → keeps limits old → AsksAtHome limits.terms.homes o)
      → ((source : Source) → suits source old → suits source new) → ((source : Source) → suits source old → OwesAfterAsk (account source old) (account source new) o)
      → Hands suits account keeps standing old new ((record { ticket = ask.ticket; address = ask.address }) ∷ []) pool pool'
  hand-some old new o ask pool pool' e p s k few home stays owes =
      hand-one old new (record { ticket = ask.ticket; address = ask.address }) pool pool' p (subst (λ (x : Option JoinAsk). StandsAfterAsk (standing old) (standing new) x) e s) k few
      (λ limits m. subst (λ (x : Option JoinAsk). AsksAtHome limits.terms.homes x) e (home limits m)) stays
      (λ source h. subst (λ (x : Option JoinAsk). OwesAfterAsk (account source old) (account source new) x) e (owes source h))

  pub hand-quiet : (old new : Eval) (o : Option JoinAsk) (pool : Pooled) → o ≡ None → StandsAfterAsk (standing old) (standing new) o → EndsInQuiet (standing old)
      → ((limits : Limits) → keeps limits old → keeps limits new) → ((source : Source) → suits source old → suits source new) → ((source : Source) → suits source old → OwesAfterAsk (account source old) (account source new) o)
      → Hands suits account keeps standing old new [] pool pool × EndsInQuiet (standing new)
  hand-quiet old new o pool e s quiet k stays owes =
      let same : standing new ≡ standing old = subst (λ (x : Option JoinAsk). StandsAfterAsk (standing old) (standing new) x) e s in (
        hand-none old new pool same k stays (λ source h. subst (λ (x : Option JoinAsk). OwesAfterAsk (account source old) (account source new) x) e (owes source h)),
        subst (λ (x : Standing). EndsInQuiet x) (sym same) quiet,
      )

  pub hands-nothing : (e : Eval) (pool : Pooled) → Hands suits account keeps standing e e [] pool pool
  hands-nothing e pool = hand-none e e pool refl (λ limits k. k) (λ source h. h) (λ source h. refl)

  pub hand-then : (a b c : Eval) (first second : List Ask) (p q r : Pooled) → Hands suits account keeps standing a b first p q → Hands suits account keeps standing b c second q r
      → Hands suits account keeps standing a c (first ++ second) p r
  hand-then a b c first second p q r f g = record {
    puts = puts-then first second p q r f.puts g.puts;
    given = g.given ∙ sum-then (standing a).given (standing b).given first second f.given;
    waiting = g.waiting ∙ f.waiting;
    meets = λ limits m. g.meets limits (f.meets limits m);
    stays = λ source h. g.stays source (f.stays source h);
    owes = λ source h. hands-then (account source a) (account source b) (account source c) first second (f.owes source h) (g.owes source (f.stays source h));
    outs = λ source h o. g.outs source (f.stays source h) (f.outs source h o);
  }

  -- ---- rows

  pub give-none : (e : Eval) → Gives suits account keeps standing e e []
  give-none e = record {
    given = refl;
    out = refl;
    waiting = omega arith;
    kept = λ limits k. k;
    width = λ limits k. All-nil (λ row. length row ≡ limits.terms.width);
    stays = λ source h. h;
    owes = λ source h. gives-none (account source e);
  }

  pub give-one : (old new : Eval) (row : Places) → OneTaken (standing old) (standing new) → ((limits : Limits) → keeps limits old → keeps limits new) → ((limits : Limits) → keeps limits old → length row ≡ limits.terms.width)
      → ((source : Source) → suits source old → suits source new) → ((source : Source) → suits source old → GivesOwed (account source old) (account source new) row) → Gives suits account keeps standing old new (row ∷ [])
  give-one old new row t k w s a = record {
    given = t.given;
    out = t.out;
    waiting = let e = t.waiting in omega arith;
    kept = k;
    width = λ limits m. All-cons (λ r. length r ≡ limits.terms.width) row [] (w limits m) (All-nil (λ r. length r ≡ limits.terms.width));
    stays = s;
    owes = λ source h. gives-one (account source old) (account source new) row (a source h);
  }

  pub give-then : (a b c : Eval) (first second : List Places) → Gives suits account keeps standing a b first → Gives suits account keeps standing b c second → Gives suits account keeps standing a c (first ++ second)
  give-then a b c first second f g = record {
    given = g.given ∙ f.given;
    out = g.out ∙ f.out;
    waiting = let d = f.waiting in let e = g.waiting in let l = length-append first second in omega arith;
    kept = λ limits k. g.kept limits (f.kept limits k);
    width = λ limits k. All-append (λ row. length row ≡ limits.terms.width) first second (f.width limits k) (g.width limits (f.kept limits k));
    stays = λ source h. g.stays source (f.stays source h);
    owes = λ source h. gives-then (account source a) (account source b) (account source c) first second (f.owes source h) (g.owes source (f.stays source h));
  }

  pub give-same : (a b c : Eval) (rows : List Places) → c ≡ b → Gives suits account keeps standing a b rows → Gives suits account keeps standing a c rows
  give-same a b c rows e g = subst (λ (x : Eval). Gives suits account keeps standing a x rows) (sym e) g

  pub none-waits : (old new : Eval) → new ≡ old → (standing old).waiting ≡ 0 → (standing new).waiting ≡ 0
  none-waits old new e w = ap (λ (x : Eval). (standing x).waiting) e ∙ w

  -- rows leave the asks as they are
  pub give-meets : (old new : Eval) (rows : List Places) (pool : Pooled) (limits : Limits) → Gives suits account keeps standing old new rows → Meets limits (keeps limits old) (standing old) pool → Meets limits (keeps limits new) (standing new) pool
  give-meets old new rows pool limits g m = meets-same limits (keeps limits old) (keeps limits new) (standing old) (standing new) pool g.out m (g.kept limits m.kept)

  pub give-outs : (old new : Eval) (rows : List Places) (pool : Pooled) (source : Source) → Gives suits account keeps standing old new rows → suits source old → IsOut pool (account source old) → IsOut pool (account source new)
  give-outs old new rows pool source g h o = outs-kept pool (account source old) (account source new) (g.owes source h).out o
