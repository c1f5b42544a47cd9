-- The start is asked for, and its page comes.
use Rattle.std.proofs.Common.{ℕ, ◌≡◌, ◌≢◌, ◌⊎◌, inl, inr, ◌++◌, List, [], ◌∷◌, length, refl, sym, ap, subst, ◌∙◌}
use Rattle.std.specs.Prelude.{Result, Ok, Err}
use Rattle.std.specs.List.Sorted.{IsPermutation}
use Rattle.std.proofs.lemmas.List.Sorted.{IsPermutation-sym, IsPermutation-trans, length_permutation, Contains-permutation}
use Rattle.list_laws.proofs.Members.{at_head, one_of}
use Rattle.tpf_base.specs.Addresses.{Address}
use Rattle.tpf_base.specs.Links.{WireState}
use Rattle.fragment_page.specs.declared.page.Page.{Page}
use Rattle.control_reader.specs.Takes.{Takes}
use Rattle.request_pool.specs.declared.fault.PoolFault.{PoolFault}
use Rattle.request_pool.specs.Pools.{Pooled, Ask, held}
use Rattle.request_pool.specs.Owned.{SuitsWire}
use Rattle.tpf_client.specs.declared.asks.Arrived.{Arrived}
use Rattle.tpf_client.specs.declared.asks.Next.{Next}
use Rattle.tpf_client.specs.declared.asks.Next.TheVariants as next
use Rattle.tpf_client.specs.declared.fault.ClientFault.{ClientFault}
use Rattle.tpf_client.specs.declared.fault.ClientFault.TheVariants as faults
use Rattle.tpf_client.specs.Traffic.{PoolEvent, Asked, Came, Waited, Broke, Moves, IsLawful}
use Rattle.tpf_client.specs.Causes.{Explains, Versions, shown_as}
use Rattle.tpf_client.specs.Asking.{Arrives, Stops, PutsOne, StepsOn, ask_of, IsReadFault, ReadsPage}
use Rattle.tpf_client.specs.Starts.{StartsOne, HasNoStart, start_ask}
use Rattle.tpf_client.proofs.Traveling.{travels-then, one-event, no-events}
use Rattle.tpf_client.proofs.Accounting.{pages-then, pages-waits}
use Rattle.tpf_client.proofs.Waiting.{empty-list}
use Rattle.tpf_client.proofs.Distinct.{put-held}
use Rattle.tpf_client.specs.Turns.{asked_in}
use Rattle.tpf_client.proofs.Going.{asked-last, explains-later, explains-stop}

-- ---- steps, by what they came to

module _ (allows : List ℕ → ℕ → List ℕ → List ℕ → Type 0) (p q : Pooled) (v w : WireState) where
  pub step-came : (n : Next) (arrived : Arrived) → n ≡ next.Came arrived → StepsOn allows (Ok n) p q v w → Moves allows (Came (ask_of arrived) arrived.reply) p q v w
  step-came n arrived e s = subst (λ (x : Next). StepsOn allows (Ok x) p q v w) e s

  pub step-waited : (n : Next) → n ≡ next.Waited → StepsOn allows (Ok n) p q v w → Moves allows Waited p q v w
  step-waited n e s = subst (λ (x : Next). StepsOn allows (Ok x) p q v w) e s

  pub step-idle : (n : Next) → n ≡ next.Idle → StepsOn allows (Ok n) p q v w → held p ≡ []
  step-idle n e s = let h : (held p ≡ []) × (q ≡ p) × (w ≡ v) = subst (λ (x : Next). StepsOn allows (Ok x) p q v w) e s in h.0

-- ---- one ask

only-one : (rest : List Ask) (a b : Ask) → IsPermutation (a ∷ rest) (b ∷ []) → (a ≡ b) × (rest ≡ [])
only-one rest a b h =
    let l = length_permutation (a ∷ rest) (b ∷ []) h in
    (sym (one_of b a (Contains-permutation (a ∷ rest) (b ∷ []) a h (at_head a rest))), empty-list rest (let e : length (a ∷ rest) ≡ length (b ∷ []) = sym l in cc))

module _ (allows : List ℕ → ℕ → List ℕ → List ℕ → Type 0) (start : Address) (budget : ℕ) (p q : Pooled) (v w : WireState) where
  arrived-is : (arrived : Arrived) → Arrives allows arrived p q v w → IsPermutation (held p) (start_ask start ∷ []) → (ask_of arrived ≡ start_ask start) × (held q ≡ [])
  arrived-is arrived h one = only-one (held q) (ask_of arrived) (start_ask start) (IsPermutation-trans _ _ _ (IsPermutation-sym _ _ h.others) one)

  explains-read : (versions : Versions) (fault : ClientFault) (arrived : Arrived) (before : List PoolEvent) → IsReadFault arrived fault → Explains versions budget fault (before ++ Came (ask_of arrived) arrived.reply ∷ [])
  explains-read versions faults.Exchange arrived before e = absurd e
  explains-read versions faults.Stalled arrived before e = absurd e
  explains-read versions (faults.Cut received) arrived before e = absurd e
  explains-read versions (faults.Reply fault received) arrived before e = absurd e
  explains-read versions (faults.Page fault body) arrived before e = record { ask = ask_of arrived; reply = arrived.reply; last = record { before = before; is_last = refl }; body_is = sym e.0; why = e.1 }
  explains-read versions (faults.Changed one other) arrived before e = absurd e
  explains-read versions (faults.Budget n) arrived before e = absurd e
  explains-read versions faults.Sink arrived before e = absurd e
  explains-read versions faults.OutOfMemory arrived before e = tt

  pub start-read : (r : Result Page ClientFault) (arrived : Arrived) → Arrives allows arrived p q v w → ReadsPage arrived r → IsPermutation (held p) (start_ask start ∷ []) → StartsOne allows start [] budget r p q v w
  start-read (Ok page) arrived h r one =
      let is = arrived-is arrived h one in
      record {
        events = h.before ++ Came (ask_of arrived) arrived.reply ∷ [];
        travels = h.travels;
        reply = arrived.reply;
        last = record { before = h.before; is_last = ap (λ (a : Ask). h.before ++ Came a arrived.reply ∷ []) is.0 };
        asked_are = asked-last h.before (Came (ask_of arrived) arrived.reply) h.waits refl;
        taken = subst (λ (x : Address). Takes arrived.reply.body x page) (ap (λ (a : Ask). a.address) is.0) r;
        pages = pages-then (λ address. page.version) h.before (Came (ask_of arrived) arrived.reply ∷ []) (pages-waits (λ address. page.version) h.before h.waits) ((page, r, refl), tt);
        rest = record { none = is.1; no_fault = h.no_fault; suits = h.suits };
      }
  start-read (Err fault) arrived h r one = record {
    events = h.before ++ Came (ask_of arrived) arrived.reply ∷ [];
    travels = h.travels;
    explains = λ versions. explains-read versions fault arrived h.before r;
    asked_are = inl (asked-last h.before (Came (ask_of arrived) arrived.reply) h.waits refl);
    suits = h.suits;
  }

  pub start-stop : (shown : PoolFault) → Stops allows shown p q v w → HasNoStart allows start [] budget (shown_as budget shown) p q v w
  start-stop shown h = record {
    events = h.before ++ Broke h.fault ∷ [];
    travels = h.travels;
    explains = λ versions. explains-stop versions budget shown h.fault h.before h.is_shown;
    asked_are = inl (asked-last h.before (Broke h.fault) h.waits refl);
    suits = h.suits;
  }

  pub start-shown : (shown : PoolFault) (x : ClientFault) → x ≡ shown_as budget shown → Stops allows shown p q v w → HasNoStart allows start [] budget x p q v w
  start-shown shown x e h = subst (λ (f : ClientFault). HasNoStart allows start [] budget f p q v w) (sym e) (start-stop shown h)

pub start-nothing : (allows : List ℕ → ℕ → List ℕ → List ℕ → Type 0) (start : Address) (asked : List Ask) (budget : ℕ) (p q : Pooled) (v : WireState) → q ≡ p → SuitsWire p v → HasNoStart allows start asked budget faults.OutOfMemory p q v v
start-nothing allows start asked budget p q v e s =
    subst (λ (x : Pooled). HasNoStart allows start asked budget faults.OutOfMemory p x v v) (sym e) (record { events = []; travels = no-events allows p v; explains = λ versions. tt; asked_are = inr refl; suits = s })

pub some-held : (start : Address) (p : Pooled) → IsPermutation (held p) (start_ask start ∷ []) → held p ≢ []
some-held start p h e = let l = length_permutation (held p) (start_ask start ∷ []) h in let n : length {A = Ask} (start_ask start ∷ []) ≡ length {A = Ask} [] = l ∙ ap (λ (x : List Ask). length x) e in cc

-- the ask of the start is the one that is held
pub start-held : (start : Address) (p q : Pooled) → held p ≡ [] → PutsOne (start_ask start) p q → IsPermutation (held q) (start_ask start ∷ [])
start-held start p q e h = subst (λ (l : List Ask). IsPermutation (held q) (start_ask start ∷ l)) e (put-held (start_ask start) p q h.puts)

either-none : (asked : List Ask) → (asked ≡ []) ⊎ (asked ≡ []) → asked ≡ []
either-none asked (inl e) = e
either-none asked (inr e) = e

module _ (allows : List ℕ → ℕ → List ℕ → List ℕ → Type 0) (start : Address) (budget : ℕ) (p q r : Pooled) (v w : WireState) where
  put-moves : PutsOne (start_ask start) p q → SuitsWire p v → IsLawful allows v → Moves allows (Asked (start_ask start)) p q v v
  put-moves h s l = record { happens = (h.puts, refl); suits = h.suits v s; distinct = h.distinct; bounds = h.bounds; lawful = l }

  pub starts-put : (result : Result Page ClientFault) → PutsOne (start_ask start) p q → SuitsWire p v → IsLawful allows v → StartsOne allows start [] budget result q r v w → StartsOne allows start (start_ask start ∷ []) budget result p r v w
  starts-put (Ok page) h s l k = record {
    events = Asked (start_ask start) ∷ [] ++ k.events;
    travels = travels-then allows (Asked (start_ask start) ∷ []) k.events p q r v v w (one-event allows (Asked (start_ask start)) p q v v (put-moves h s l)) k.travels;
    reply = k.reply;
    last = record { before = Asked (start_ask start) ∷ k.last.before; is_last = ap (λ (x : List PoolEvent). Asked (start_ask start) ∷ x) k.last.is_last };
    taken = k.taken;
    pages = (tt, k.pages);
    asked_are = ap (λ (l : List Ask). start_ask start ∷ l) k.asked_are;
    rest = k.rest;
  }
  starts-put (Err fault) h s l k = record {
    events = Asked (start_ask start) ∷ [] ++ k.events;
    travels = travels-then allows (Asked (start_ask start) ∷ []) k.events p q r v v w (one-event allows (Asked (start_ask start)) p q v v (put-moves h s l)) k.travels;
    explains = λ versions. explains-later versions budget fault (Asked (start_ask start) ∷ []) k.events (k.explains versions);
    asked_are = inl (ap (λ (l : List Ask). start_ask start ∷ l) (either-none (asked_in k.events) k.asked_are));
    suits = k.suits;
  }
