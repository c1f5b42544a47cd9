-- The authorities of the asks.
use Rattle.std.proofs.Common.{◌≡◌, List, [], ◌∷◌, ◌++◌, map, refl, sym, ap, subst, ◌∙◌, append-nil}
use Rattle.std.specs.List.{All, AllByRecursion, Contains}
use Rattle.std.proofs.lemmas.List.Elements.{All-nil, All-cons, All-head, All-tail, Contains-append_left}
use Rattle.std.proofs.lemmas.List.Sorted.{All-permutation}
use Rattle.list_laws.proofs.Each.{all_append}
use Rattle.list_laws.proofs.Members.{at_head, in_tail}
use Rattle.tpf_base.specs.Addresses.{Address}
use Rattle.fragment_page.specs.declared.page.Page.{Page}
use Rattle.request_pool.specs.Pools.{Pooled, Ask, held}
use Rattle.request_plan.specs.Evaluations.{HasHome}
use Rattle.request_plan.specs.Rounds.{FormsAtHome}
use Rattle.tpf_client.specs.Traffic.{PoolEvent, Asked, Came, Waited, Broke}
use Rattle.tpf_client.specs.Starts.{start_ask, ReadsStart, ReadsStarts, AsksStarts, forms_of}
use Rattle.tpf_client.specs.Asking.{PutsAll}
use Rattle.tpf_client.specs.Turns.{AsksAt, asked_in}
use Rattle.tpf_client.proofs.Accounting.{asked-append}
use Rattle.tpf_client.proofs.Distinct.{put-held}

-- where what a pool holds has homes after asks were put, these have them
puts-before : (P : Ask → Type 0) (asks : List Ask) (p q : Pooled) → PutsAll asks p q → All P (held q) → All P (held p) × AllByRecursion P asks
puts-before P [] p q h a = (subst (λ (x : Pooled). All P (held x)) h a, tt)
puts-before P (ask ∷ asks) p q h a =
    let r = puts-before P asks h.0 q h.2 a in
    let both : All P (ask ∷ held p) = All-permutation P (held h.0) (ask ∷ held p) (put-held ask p h.0 h.1.puts) r.0 in
    (All-tail P ask (held p) both, (All-head P ask (held p) both, r.1))

pub puts-homes : (P : Ask → Type 0) (asks : List Ask) (p q : Pooled) → PutsAll asks p q → All P (held q) → AllByRecursion P asks
puts-homes P asks p q h a = (puts-before P asks p q h a).1

pub homes-then : (P : Ask → Type 0) (first second : List PoolEvent) → AllByRecursion P (asked_in first) → AllByRecursion P (asked_in second) → AllByRecursion P (asked_in (first ++ second))
homes-then P first second a b = subst (λ (l : List Ask). AllByRecursion P l) (sym (asked-append first second)) (all_append P (asked_in first) (asked_in second) a b)

pub homes-of : (P : Ask → Type 0) (events : List PoolEvent) (asks : List Ask) → asked_in events ≡ asks → AllByRecursion P asks → AllByRecursion P (asked_in events)
homes-of P events asks e a = subst (λ (l : List Ask). AllByRecursion P l) (sym e) a

-- what holds of all asks holds of those at the front
pub asks-front : (P : Ask → Type 0) (first second : List PoolEvent) → AllByRecursion P (asked_in (first ++ second)) → AllByRecursion P (asked_in first)
asks-front P [] second h = tt
asks-front P (Asked ask ∷ first) second h = (h.0, asks-front P first second h.1)
asks-front P (Came ask reply ∷ first) second h = asks-front P first second h
asks-front P (Waited ∷ first) second h = asks-front P first second h
asks-front P (Broke fault ∷ first) second h = asks-front P first second h

-- ---- the starts

-- each of some starts has its own authority
own-all : (homes starts : List Address) → ((start : Address) → Contains starts start → Contains homes start) → AllByRecursion (λ ask. HasHome homes ask.address) (map start_ask starts)
own-all homes [] among = tt
own-all homes (start ∷ starts) among = ((start, among start (at_head start starts), record { host = refl; port = refl }), own-all homes starts (λ x c. among x (in_tail start x starts c)))

pub starts-alone : (starts : List Address) (events : List PoolEvent) → AsksStarts starts events → AsksAt starts events
starts-alone starts events a =
    homes-of (λ ask. HasHome starts ask.address) events (map start_ask a.first) a.asked
    (own-all starts a.first (λ x c. subst (λ (l : List Address). Contains l x) (sym a.starts_are) (Contains-append_left a.first a.later x c)))

-- what was asked until the start pages came
pub asked-starts : (starts : List Address) (pages : List Page) (events : List PoolEvent) → ReadsStarts starts pages events → asked_in events ≡ map start_ask starts
asked-starts [] [] events h = ap (λ (l : List PoolEvent). asked_in l) h
asked-starts [] (page ∷ pages) events h = absurd h
asked-starts (start ∷ starts) [] events h = absurd h
asked-starts (start ∷ starts) (page ∷ pages) events h =
    ap (λ (l : List PoolEvent). asked_in l) h.2 ∙ (asked-append h.0 h.1 ∙ (ap (λ (l : List Ask). l ++ asked_in h.1) h.3.asked ∙ ap (λ (l : List Ask). start_ask start ∷ l) (asked-starts starts pages h.1 h.4)))

pub asks-behind : (starts : List Address) (pages : List Page) (first later : List PoolEvent) → ReadsStarts starts pages first → AsksAt starts later → AsksAt starts (first ++ later)
asks-behind starts pages first later h a =
    homes-then (λ ask. HasHome starts ask.address) first later (homes-of (λ ask. HasHome starts ask.address) first (map start_ask starts) (asked-starts starts pages first h) (own-all starts starts (λ x c. c))) a

-- the forms of the start pages have the authorities of the starts
forms-home : (homes starts : List Address) (pages : List Page) (events : List PoolEvent) → ((start : Address) → Contains starts start → Contains homes start) → ReadsStarts starts pages events → FormsAtHome homes (forms_of pages)
forms-home homes [] [] events among h = All-nil (λ form. HasHome homes form.template.start)
forms-home homes [] (page ∷ pages) events among h = absurd h
forms-home homes (start ∷ starts) [] events among h = absurd h
forms-home homes (start ∷ starts) (page ∷ pages) events among h =
    All-cons (λ form. HasHome homes form.template.start) page.form (forms_of pages) (start, among start (at_head start starts), h.3.home) (forms-home homes starts pages h.1 (λ x c. among x (in_tail start x starts c)) h.4)

pub starts-home : (starts : List Address) (pages : List Page) (events : List PoolEvent) → ReadsStarts starts pages events → FormsAtHome starts (forms_of pages)
starts-home starts pages events h = forms-home starts starts pages events (λ x c. c) h

-- ---- one start

-- the one page that came
pub record OneRead (start : Address) (told : List Page) (events : List PoolEvent) : Type 0 where
  pub page : Page
  pub is : told ≡ page ∷ []
  pub reads : ReadsStart start page events

pub one-read : (start : Address) (told : List Page) (events : List PoolEvent) → ReadsStarts (start ∷ []) told events → OneRead start told events
one-read start [] events h = absurd h
one-read start (page ∷ []) events h = record { page = page; is = refl; reads = subst (λ (l : List PoolEvent). ReadsStart start page l) (sym (h.2 ∙ (ap (λ (l : List PoolEvent). h.0 ++ l) h.4 ∙ append-nil h.0))) h.3 }
one-read start (page ∷ more ∷ pages) events h = absurd h.4
