-- The starts are asked for, one after another.
use Rattle.std.proofs.Common.{ℕ, suc, ◌≡◌, ◌≤◌, ◌+◌, ◌<◌, ◌⊎◌, inl, inr, List, [], ◌∷◌, ◌++◌, map, length, take, drop, get_or, refl, sym, ap, ◌∙◌, append_assoc, append-nil, arith}
use Rattle.std.proofs.lemmas.List.{map-append, length-map, take_more, take_all, take-append-drop}
use Rattle.tpf_base.specs.Addresses.{Address}
use Rattle.tpf_base.specs.Links.{WireState, SameAllowed}
use Rattle.fragment_page.specs.declared.page.Page.{Page}
use Rattle.template_fill.specs.declared.form.Form.{Form}
use Rattle.template_fill.specs.Authorities.{ShareAuthority}
use Rattle.request_pool.specs.Pools.{Pooled, Ask, held}
use Rattle.tpf_client.specs.declared.fault.ClientFault.{ClientFault}
use Rattle.tpf_client.specs.declared.fault.ClientFault.TheVariants as faults
use Rattle.tpf_client.specs.Traffic.{PoolEvent}
use Rattle.tpf_client.specs.Turns.{asked_in, WaitFew}
use Rattle.tpf_client.specs.Starts.{start_ask, ReadsStart, ReadsStarts, AsksStarts, IsAtRest, HasStart, HasNoStart, HasStarts, HasNoStarts, forms_of}
use Rattle.tpf_client.proofs.Accounting.{asked-append}
use Rattle.tpf_client.proofs.Few.{few-asked, few-then}
use Rattle.tpf_client.proofs.Going.{explains-later}
use Rattle.tpf_client.proofs.Homes.{asked-starts}
use Rattle.tpf_client.proofs.Traveling.{no-events, travels-then, travels-allowed}

-- ---- how many asks wait

pub none-many : (p : Pooled) → held p ≡ [] → length (held p) ≡ 0
none-many p e = let z : length (held p) ≡ length {A = Ask} [] = ap (λ (l : List Ask). length l) e in let y : length {A = Ask} [] ≡ 0 = refl in omega (arith, z, y)

one-many : (asks : List Ask) (ask : Ask) → asks ≡ ask ∷ [] → length asks ≤ 1
one-many asks ask e = let z : length asks ≡ length (ask ∷ []) = ap (λ (l : List Ask). length l) e in let y : length (ask ∷ []) ≡ 1 = refl in omega (arith, z, y)

some-many : (asks : List Ask) (ask : Ask) → (asks ≡ ask ∷ []) ⊎ (asks ≡ []) → length asks ≤ 1
some-many asks ask (inl e) = one-many asks ask e
some-many asks ask (inr e) = let z : length asks ≡ length {A = Ask} [] = ap (λ (l : List Ask). length l) e in let y : length {A = Ask} [] ≡ 0 = refl in omega (arith, z, y)

few-one : (waiting asked : ℕ) → waiting ≡ 0 → asked ≤ 1 → waiting + asked ≤ 1
few-one waiting asked e l = omega (arith, e, l)

few-none : (waiting : ℕ) → waiting ≡ 0 → waiting ≤ 1
few-none waiting e = omega (arith, e)

-- one ask at most, of a pool that held none
few-start : (p : Pooled) (events : List PoolEvent) → held p ≡ [] → length (asked_in events) ≤ 1 → WaitFew 1 (length (held p)) events
few-start p events e l = few-asked 1 (length (held p)) events (few-one (length (held p)) (length (asked_in events)) (none-many p e) l)

-- ---- one start more

reads-more : (starts : List Address) (pages : List Page) (start : Address) (page : Page) (first second : List PoolEvent) → ReadsStarts starts pages first → ReadsStart start page second → ReadsStarts (starts ++ start ∷ []) (pages ++ page ∷ []) (first ++ second)
reads-more [] [] start page first second h r = (second, [], ap (λ (l : List PoolEvent). l ++ second) h ∙ sym (append-nil second), r, refl)
reads-more [] (p ∷ pages) start page first second h r = absurd h
reads-more (s ∷ starts) [] start page first second h r = absurd h
reads-more (s ∷ starts) (p ∷ pages) start page first second h r = (h.0, h.1 ++ second, ap (λ (l : List PoolEvent). l ++ second) h.2 ∙ append_assoc h.0 h.1 second, h.3, reads-more starts pages start page h.1 second h.4 r)

pub reads-many : (starts : List Address) (pages : List Page) (events : List PoolEvent) → ReadsStarts starts pages events → length pages ≡ length starts
reads-many [] [] events h = refl
reads-many [] (page ∷ pages) events h = absurd h
reads-many (start ∷ starts) [] events h = absurd h
reads-many (start ∷ starts) (page ∷ pages) events h = ap (λ (n : ℕ). suc n) (reads-many starts pages h.1 h.4)

pub starts-none : (allows : List ℕ → ℕ → List ℕ → List ℕ → Type 0) (p : Pooled) (v : WireState) → IsAtRest p v → HasStarts allows [] [] p p v v
starts-none allows p v r = record {
  events = [];
  travels = no-events allows p v;
  reads = refl;
  few = few-none (length (held p)) (none-many p r.none);
  rest = r;
}

module _ (allows later : List ℕ → ℕ → List ℕ → List ℕ → Type 0) (same : SameAllowed allows later) (starts : List Address) (pages : List Page) (p q r : Pooled) (u v w : WireState) (f : HasStarts allows starts pages p q u v) where
  pub starts-more : (start : Address) (page : Page) (s : HasStart later start (start_ask start ∷ []) page q r v w) → ShareAuthority start page.form.template.start → HasStarts allows (starts ++ start ∷ []) (pages ++ page ∷ []) p r u w
  starts-more start page s home = record {
    events = f.events ++ s.events;
    travels = travels-then allows f.events s.events p q r u v w f.travels (travels-allowed allows later s.events q r v w same s.travels);
    reads = reads-more starts pages start page f.events s.events f.reads (record { asked = s.asked_are; reply = s.reply; last = s.last; taken = s.taken; home = home; pages = s.pages });
    few = few-then allows 1 f.events s.events p q u v f.travels f.rest.no_fault f.few (few-start q s.events f.rest.none (one-many (asked_in s.events) (start_ask start) s.asked_are));
    rest = s.rest;
  }

  asked-fail : (start : Address) (more all : List Address) (events : List PoolEvent) → all ≡ starts ++ start ∷ more → (asked_in events ≡ start_ask start ∷ []) ⊎ (asked_in events ≡ []) → AsksStarts all (f.events ++ events)
  asked-fail start more all events e (inl one) = record {
    first = starts ++ start ∷ [];
    later = more;
    starts_are = e ∙ sym (append_assoc starts (start ∷ []) more);
    asked = asked-append f.events events ∙ (ap (λ (l : List Ask). l ++ asked_in events) (asked-starts starts pages f.events f.reads) ∙ (ap (λ (l : List Ask). map start_ask starts ++ l) one ∙ sym (map-append start_ask starts (start ∷ []))));
  }
  asked-fail start more all events e (inr none) = record {
    first = starts;
    later = start ∷ more;
    starts_are = e;
    asked = asked-append f.events events ∙ (ap (λ (l : List Ask). l ++ asked_in events) (asked-starts starts pages f.events f.reads) ∙ (ap (λ (l : List Ask). map start_ask starts ++ l) none ∙ append-nil (map start_ask starts)));
  }

  -- the next start was not read
  pub starts-fail : (start : Address) (more all : List Address) (budget : ℕ) (fault : ClientFault) → all ≡ starts ++ start ∷ more → HasNoStart later start (start_ask start ∷ []) budget fault q r v w → HasNoStarts allows all budget fault p r u w
  starts-fail start more all budget fault e s = record {
    events = f.events ++ s.events;
    travels = travels-then allows f.events s.events p q r u v w f.travels (travels-allowed allows later s.events q r v w same s.travels);
    explains = λ versions. explains-later versions budget fault f.events s.events (s.explains versions);
    asked = asked-fail start more all s.events e s.asked_are;
    few = few-then allows 1 f.events s.events p q u v f.travels f.rest.no_fault f.few (few-start q s.events f.rest.none (some-many (asked_in s.events) (start_ask start) s.asked_are));
    suits = s.suits;
  }

-- memory is wanting behind some starts
pub starts-lacking : (allows : List ℕ → ℕ → List ℕ → List ℕ → Type 0) (starts : List Address) (pages : List Page) (more all : List Address) (budget : ℕ) (p q : Pooled) (u v : WireState) → all ≡ starts ++ more → HasStarts allows starts pages p q u v → HasNoStarts allows all budget faults.OutOfMemory p q u v
starts-lacking allows starts pages more all budget p q u v e f = record {
  events = f.events;
  travels = f.travels;
  explains = λ versions. tt;
  asked = record { first = starts; later = more; starts_are = e; asked = asked-starts starts pages f.events f.reads };
  few = f.few;
  suits = f.rest.suits;
}

-- ---- the starts by their places

-- the first of them, the one at a place, and those behind it
pub split-at : (starts : List Address) (i : ℕ) (start : Address) → i < length starts → start ≡ get_or starts i start → starts ≡ take i starts ++ start ∷ drop (i + 1) starts
split-at starts i start lt is =
    sym (take-append-drop (i + 1) starts)
    ∙ (ap (λ (l : List Address). l ++ drop (i + 1) starts) (take_more starts i start lt ∙ ap (λ (x : Address). take i starts ++ x ∷ []) (sym is)) ∙ append_assoc (take i starts) (start ∷ []) (drop (i + 1) starts))

pub more-at : (starts : List Address) (i : ℕ) (start : Address) → i < length starts → start ≡ get_or starts i start → take i starts ++ start ∷ [] ≡ take (i + 1) starts
more-at starts i start lt is = ap (λ (x : Address). take i starts ++ x ∷ []) is ∙ sym (take_more starts i start lt)

pub behind-at : (starts : List Address) (i : ℕ) → starts ≡ take i starts ++ drop i starts
behind-at starts i = sym (take-append-drop i starts)

-- where all were read there is a form
as-many : (n m k : ℕ) → 0 < n → m ≡ n → k ≡ m → 0 < k
as-many n m k l e f = omega (arith, l, e, f)

pub some-read : (starts : List Address) (i : ℕ) (pages : List Page) (events : List PoolEvent) (forms : List Form) → 0 < length starts → length starts ≤ i → forms ≡ forms_of pages → ReadsStarts (take i starts) pages events → 0 < length forms
some-read starts i pages events forms some few e h =
    as-many (length starts) (length pages) (length forms) some (reads-many (take i starts) pages events h ∙ ap (λ (l : List Address). length l) (take_all i starts few))
    (ap (λ (l : List Form). length l) e ∙ length-map pages (λ page. page.form))
