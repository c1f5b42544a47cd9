-- Turns, one after another.
use Rattle.std.proofs.Common.{ℕ, ◌≡◌, ◌++◌, List, [], ◌∷◌, map, length, refl, sym, ap, subst, ◌∙◌, append_assoc, ⊎_elim}
use Rattle.std.specs.Prelude.{◌⊎◌, Result, Ok, Err, OnOk, IfErr, IsErrOf}
use Rattle.std.specs.List.{Contains}
use Rattle.std.proofs.lemmas.List.Elements.{All-nil, All-append}
use Rattle.std.proofs.lemmas.List.Sorted.{IsPermutation-trans, IsPermutation-append_right}
use Rattle.tpf_base.specs.Addresses.{Address}
use Rattle.tpf_base.specs.Links.{WireState, SameAllowed}
use Rattle.bgp_core.specs.Solutions.{Places}
use Rattle.fragment_page.specs.declared.page.Page.{Page}
use Rattle.request_pool.specs.declared.fault.PoolFault.{PoolFault}
use Rattle.request_pool.specs.declared.fault.PoolFault.TheVariants as pool
use Rattle.request_pool.specs.Pools.{Pooled, Ask, held}
use Rattle.request_pool.specs.Owned.{SuitsWire}
use Rattle.request_plan.specs.Evaluations.{Account, Standing, HasHome}
use Rattle.tpf_client.specs.declared.asks.Arrived.{Arrived}
use Rattle.tpf_client.specs.declared.fault.ClientFault.{ClientFault}
use Rattle.tpf_client.specs.declared.fault.ClientFault.TheVariants as faults
use Rattle.tpf_client.specs.Traffic.{PoolEvent, Asked, Came, Broke, Travels, IsLawful, EndsWith}
use Rattle.tpf_client.specs.Causes.{Explains, Versions, IsTakeFault, IsLocal, shown_as}
use Rattle.tpf_base.specs.declared.fault.Fault.{Fault}
use Rattle.tpf_base.specs.declared.fault.Fault.TheVariants as failures
use Rattle.tpf_client.specs.Rows.{sink_fault}
use Rattle.tpf_client.specs.Asking.{Arrives, Stops, AreWaits, ask_of}
use Rattle.tpf_client.specs.Turns.{Limits, most_waiting, Meets, Hands, Gives, Readies, TakesReply, Went, Failed, Owes, OwesMore, asked_in, AreTrue, IsTrueReply}
use Rattle.tpf_client.proofs.Accounting.{owes-none, owes-then, owes-more, more-then, asked-append, asked-asks, asked-waits, true-first, true-second, pages-then, pages-waits, pages-asks}
use Rattle.tpf_client.proofs.Few.{few-quiet, few-put, few-then}
use Rattle.tpf_client.proofs.Homes.{puts-homes, homes-then, homes-of}
use Rattle.tpf_client.proofs.Meeting.{meets-came, meets-home, outs-came, outs-address}
use Rattle.tpf_client.proofs.Turning.{give-meets, give-outs}
use Rattle.tpf_client.proofs.Traveling.{no-events, travels-then, travels-allowed, puts-travel, puts-suit}

-- ---- causes

ends-later : (event : PoolEvent) (first second : List PoolEvent) → EndsWith event second → EndsWith event (first ++ second)
ends-later event first second e = record {
  before = first ++ e.before;
  is_last = ap (λ (l : List PoolEvent). first ++ l) e.is_last ∙ sym (append_assoc first e.before (event ∷ []));
}

pub explains-later : (versions : Versions) (budget : ℕ) (fault : ClientFault) (first second : List PoolEvent) → Explains versions budget fault second → Explains versions budget fault (first ++ second)
explains-later versions budget faults.Exchange first second e = ends-later (Broke pool.Exchange) first second e
explains-later versions budget faults.Stalled first second e = ends-later (Broke pool.Stalled) first second e
explains-later versions budget (faults.Cut received) first second e = ends-later (Broke (pool.Cut received)) first second e
explains-later versions budget (faults.Reply fault received) first second e = ends-later (Broke (pool.Reply fault received)) first second e
explains-later versions budget (faults.Page fault body) first second e = record { ask = e.ask; reply = e.reply; last = ends-later (Came e.ask e.reply) first second e.last; body_is = e.body_is; why = e.why }
explains-later versions budget (faults.Changed one other) first second e =
    record { ask = e.ask; reply = e.reply; last = ends-later (Came e.ask e.reply) first second e.last; page = e.page; taken = e.taken; version = e.version; first_is = e.first_is; differs = e.differs }
explains-later versions budget (faults.Budget n) first second e = (e.0, ends-later (Broke pool.Budget) first second e.1)
explains-later versions budget faults.Sink first second e = tt
explains-later versions budget faults.OutOfMemory first second e = tt

at-end : (before : List PoolEvent) (event : PoolEvent) → EndsWith event (before ++ event ∷ [])
at-end before event = record { before = before; is_last = refl }

explains-break : (versions : Versions) (budget : ℕ) (fault : PoolFault) (before : List PoolEvent) → Explains versions budget (shown_as budget fault) (before ++ Broke fault ∷ [])
explains-break versions budget pool.Exchange before = at-end before (Broke pool.Exchange)
explains-break versions budget pool.Stalled before = at-end before (Broke pool.Stalled)
explains-break versions budget (pool.Cut received) before = at-end before (Broke (pool.Cut received))
explains-break versions budget (pool.Reply fault received) before = at-end before (Broke (pool.Reply fault received))
explains-break versions budget pool.Budget before = (refl, at-end before (Broke pool.Budget))
explains-break versions budget pool.OutOfMemory before = tt

pub explains-stop : (versions : Versions) (budget : ℕ) (shown fault : PoolFault) (before : List PoolEvent) → (shown ≡ fault) ⊎ (shown ≡ pool.OutOfMemory) → Explains versions budget (shown_as budget shown) (before ++ Broke fault ∷ [])
explains-stop versions budget shown fault before e =
    ⊎_elim (λ (s : shown ≡ fault). subst (λ (f : PoolFault). Explains versions budget (shown_as budget f) (before ++ Broke fault ∷ [])) (sym s) (explains-break versions budget fault before))
    (λ (s : shown ≡ pool.OutOfMemory). subst (λ (f : PoolFault). Explains versions budget (shown_as budget f) (before ++ Broke fault ∷ [])) (sym s) tt) e

pub explains-take : (versions : Versions) (budget : ℕ) (fault : ClientFault) (arrived : Arrived) (before : List PoolEvent) → IsTakeFault arrived versions fault → Explains versions budget fault (before ++ Came (ask_of arrived) arrived.reply ∷ [])
explains-take versions budget faults.Exchange arrived before e = absurd e
explains-take versions budget faults.Stalled arrived before e = absurd e
explains-take versions budget (faults.Cut received) arrived before e = absurd e
explains-take versions budget (faults.Reply fault received) arrived before e = absurd e
explains-take versions budget (faults.Page fault body) arrived before e = record { ask = ask_of arrived; reply = arrived.reply; last = at-end before (Came (ask_of arrived) arrived.reply); body_is = sym e.0; why = e.1 }
explains-take versions budget (faults.Changed one other) arrived before e =
    record { ask = ask_of arrived; reply = arrived.reply; last = at-end before (Came (ask_of arrived) arrived.reply); page = e.2.0; taken = e.2.1; version = e.2.2; first_is = e.0; differs = e.1 }
explains-take versions budget (faults.Budget n) arrived before e = absurd e
explains-take versions budget faults.Sink arrived before e = absurd e
explains-take versions budget faults.OutOfMemory arrived before e = tt

pub explains-local : (versions : Versions) (budget : ℕ) (fault : ClientFault) (events : List PoolEvent) → IsLocal fault → Explains versions budget fault events
explains-local versions budget faults.Exchange events e = absurd e
explains-local versions budget faults.Stalled events e = absurd e
explains-local versions budget (faults.Cut received) events e = absurd e
explains-local versions budget (faults.Reply fault received) events e = absurd e
explains-local versions budget (faults.Page fault body) events e = absurd e
explains-local versions budget (faults.Changed one other) events e = absurd e
explains-local versions budget (faults.Budget n) events e = absurd e
explains-local versions budget faults.Sink events e = tt
explains-local versions budget faults.OutOfMemory events e = tt

-- by the same versions
pub explains-as : (f g : Versions) (budget : ℕ) (fault : ClientFault) (events : List PoolEvent) → ((address : Address) → f address ≡ g address) → Explains f budget fault events → Explains g budget fault events
explains-as f g budget faults.Exchange events same e = e
explains-as f g budget faults.Stalled events same e = e
explains-as f g budget (faults.Cut received) events same e = e
explains-as f g budget (faults.Reply fault received) events same e = e
explains-as f g budget (faults.Page fault body) events same e = e
explains-as f g budget (faults.Changed one other) events same e = record { ask = e.ask; reply = e.reply; last = e.last; page = e.page; taken = e.taken; version = e.version; first_is = e.first_is ∙ same e.ask.address; differs = e.differs }
explains-as f g budget (faults.Budget n) events same e = e
explains-as f g budget faults.Sink events same e = tt
explains-as f g budget faults.OutOfMemory events same e = tt

pub sink-local : (fault : Fault) → IsLocal (sink_fault fault)
sink-local failures.Failed = tt
sink-local failures.OutOfMemory = tt

err-is : (S : Type 0) (x y : ClientFault) → IsErrOf {T = S} (Err x) y → x ≡ y
err-is S x y s = let t : ◌≡◌ {A = Result S ClientFault} (Err x) (Err y) = s in cc

no-sink : {S : Type 0} (x y : ClientFault) → x ≡ y → (y ≡ faults.Sink → ⊥) → IsErrOf {T = S} (Err x) faults.Sink → ⊥
no-sink {S} x y e n s = n (sym e ∙ err-is S x faults.Sink s)

-- the same fault, whatever the call gives otherwise
pub err-as : (S T : Type 0) (x y : ClientFault) → IsErrOf {T = S} (Err x) y → IsErrOf {T = T} (Err x) y
err-as S T x y s = ap (λ (z : ClientFault). Err z) (err-is S x y s)

pub sink-of : {S T : Type 0} (f : Fault) (x : ClientFault) → x ≡ sink_fault f → IsErrOf {T = S} (Err x) faults.Sink → IsErrOf {T = T} (Err f) failures.Failed
sink-of failures.Failed x e s = refl
sink-of failures.OutOfMemory x e s = absurd (no-sink x faults.OutOfMemory e (λ z. cc) s)

pub shown-no-sink : {S : Type 0} (budget : ℕ) (fault : PoolFault) (x : ClientFault) → x ≡ shown_as budget fault → IsErrOf {T = S} (Err x) faults.Sink → ⊥
shown-no-sink budget pool.Exchange x e s = no-sink x faults.Exchange e (λ z. cc) s
shown-no-sink budget pool.Stalled x e s = no-sink x faults.Stalled e (λ z. cc) s
shown-no-sink budget (pool.Cut received) x e s = no-sink x (faults.Cut received) e (λ z. cc) s
shown-no-sink budget (pool.Reply fault received) x e s = no-sink x (faults.Reply fault received) e (λ z. cc) s
shown-no-sink budget pool.Budget x e s = no-sink x (faults.Budget budget) e (λ z. cc) s
shown-no-sink budget pool.OutOfMemory x e s = no-sink x faults.OutOfMemory e (λ z. cc) s

sink-take : (arrived : Arrived) (versions : Versions) (f : ClientFault) → IsTakeFault arrived versions f → f ≡ faults.Sink → ⊥
sink-take arrived versions f h e = subst (λ (x : ClientFault). IsTakeFault arrived versions x) e h

pub never-sink : {S : Type 0} (arrived : Arrived) (versions : Versions) (r : Result S ClientFault) → IfErr r (λ fault. IsTakeFault arrived versions fault) → IsErrOf r faults.Sink → ⊥
never-sink arrived versions (Ok u) h e = let t : Ok u ≡ Err faults.Sink = e in cc
never-sink arrived versions (Err f) h e = no-sink f f refl (λ s. sink-take arrived versions f h s) e

-- ---- events in which nothing is asked

pub asked-last : (before : List PoolEvent) (event : PoolEvent) → AreWaits before → asked_in (event ∷ []) ≡ [] → asked_in (before ++ event ∷ []) ≡ []
asked-last before event w e = asked-append before (event ∷ []) ∙ (ap (λ (l : List Ask). l ++ asked_in (event ∷ [])) (asked-waits before w) ∙ e)

true-last : (is_true : Address → Page → Type 0) (versions : Versions) (before : List PoolEvent) (event : PoolEvent) → AreTrue is_true versions (before ++ event ∷ []) → IsTrueReply is_true versions event
true-last is_true versions before event h = (true-second is_true versions before (event ∷ []) h).0

module _ {Source Eval : Type 0} (suits : Source → Eval → Type 0) (account : Source → Eval → Account) (keeps : Limits → Eval → Type 0) (standing : Eval → Standing) (is_true : Source → Address → Page → Type 0) (versions : Versions) where
  pub went-none : (allows : List ℕ → ℕ → List ℕ → List ℕ → Type 0) (e : Eval) (p : Pooled) (w : WireState) → SuitsWire p w → Went suits account keeps standing is_true allows e e versions [] [] p p w w
  went-none allows e p w s = record {
    travels = no-events allows p w;
    on_wire = s;
    pages = tt;
    meets = λ limits m. m;
    homes = λ limits m. tt;
    width = λ limits m. All-nil (λ row. length row ≡ limits.terms.width);
    few = λ limits m. m.few;
    stays = λ source t. record { is_suited = t.is_suited; is_out = t.is_out; owes = owes-none (account source e) };
  }

  -- rows, and then asks
  pub went-asks : (allows : List ℕ → ℕ → List ℕ → List ℕ → Type 0) (a b c : Eval) (rows : List Places) (asked : List Ask) (p q : Pooled) (w : WireState) → SuitsWire p w → IsLawful allows w
      → Gives suits account keeps standing a b rows → Hands suits account keeps standing b c asked p q → Went suits account keeps standing is_true allows a c versions (map Asked asked) rows p q w w
  went-asks allows a b c rows asked p q w s l g h = record {
    travels = puts-travel allows asked p q w h.puts s l;
    on_wire = puts-suit asked p q w h.puts s;
    pages = pages-asks versions asked;
    meets = λ limits m. h.meets limits (give-meets suits account keeps standing a b rows p limits g m);
    homes = λ limits m.
        homes-of (λ ask. HasHome limits.terms.homes ask.address) (map Asked asked) asked (asked-asks asked)
        (puts-homes (λ ask. HasHome limits.terms.homes ask.address) asked p q h.puts (h.meets limits (give-meets suits account keeps standing a b rows p limits g m)).homes);
    width = λ limits m. g.width limits m.kept;
    few = λ limits m. few-put (most_waiting limits.sizes) asked p q h.puts (h.meets limits (give-meets suits account keeps standing a b rows p limits g m)).few;
    stays = λ source t.
        let mid = g.stays source t.is_suited in
        let given = g.owes source t.is_suited in
        let handed = h.owes source mid in
        record {
          is_suited = h.stays source mid;
          is_out = h.outs source mid (give-outs suits account keeps standing a b rows p source g t.is_suited t.is_out);
          owes = subst (λ (l : List Ask). Owes (account source a) (account source c) rows l) (sym (asked-asks asked)) (record {
            owed = IsPermutation-trans _ _ _ given.owed (IsPermutation-append_right rows _ _ handed.owed);
            left = IsPermutation-trans _ _ _ given.left handed.left;
          });
        };
  }

  pub ready-meets : (a c : Eval) (rows : List Places) (asked : List Ask) (p q : Pooled) (limits : Limits) → Readies suits account keeps standing a c rows asked p q → Meets limits (keeps limits a) (standing a) p → Meets limits (keeps limits c) (standing c) q
  ready-meets a c rows asked p q limits r m = r.hands.meets limits (give-meets suits account keeps standing a r.mid rows p limits r.gives m)

  pub went-ready : (allows : List ℕ → ℕ → List ℕ → List ℕ → Type 0) (a c : Eval) (rows : List Places) (asked : List Ask) (p q : Pooled) (w : WireState) → SuitsWire p w → IsLawful allows w → Readies suits account keeps standing a c rows asked p q
      → Went suits account keeps standing is_true allows a c versions (map Asked asked) rows p q w w
  went-ready allows a c rows asked p q w s l r = went-asks allows a r.mid c rows asked p q w s l r.gives r.hands

  -- the next reply, whose page is taken
  pub went-reply : (allows : List ℕ → ℕ → List ℕ → List ℕ → Type 0) (a b : Eval) (arrived : Arrived) (p q : Pooled) (v w : WireState) (h : Arrives allows arrived p q v w)
      → TakesReply suits account keeps standing is_true a b arrived versions → Went suits account keeps standing is_true allows a b versions (h.before ++ Came (ask_of arrived) arrived.reply ∷ []) [] p q v w
  went-reply allows a b arrived p q v w h t =
      let none : asked_in (h.before ++ Came (ask_of arrived) arrived.reply ∷ []) ≡ [] = asked-last h.before (Came (ask_of arrived) arrived.reply) h.waits refl in
      record {
        travels = h.travels;
        on_wire = h.suits;
        pages = pages-then versions h.before (Came (ask_of arrived) arrived.reply ∷ []) (pages-waits versions h.before h.waits) ((t.page, t.taken, t.is_version), tt);
        meets = λ limits m. meets-came limits (keeps limits a) (standing a) p (keeps limits b) (standing b) q (ask_of arrived) m h.others t.ends h.no_fault
            (t.kept limits m.kept (meets-home limits (keeps limits a) (standing a) p q (ask_of arrived) m h.others));
        homes = λ limits m. homes-of (λ ask. HasHome limits.terms.homes ask.address) (h.before ++ Came (ask_of arrived) arrived.reply ∷ []) [] none tt;
        width = λ limits m. All-nil (λ row. length row ≡ limits.terms.width);
        few = λ limits m. few-quiet (most_waiting limits.sizes) (length (held p)) (h.before ++ Came (ask_of arrived) arrived.reply ∷ []) m.few none;
        stays = λ source truth.
            let true_ : is_true source arrived.address t.page = true-last (is_true source) versions h.before (Came (ask_of arrived) arrived.reply) truth.pages t.page t.taken t.is_version in
            let for : (address : Address) → Contains (account source a).out (arrived.ticket, address) → is_true source address t.page =
            λ address m. subst (λ (x : Address). is_true source x t.page) (sym (outs-address (ask_of arrived) p q (account source a) h.others truth.is_out address m)) true_ in
            let ends = t.owes source truth.is_suited for in
            record {
              is_suited = t.stays source truth.is_suited for;
              is_out = outs-came (ask_of arrived) p q (account source a) (account source b) h.others ends truth.is_out;
              owes = subst (λ (l : List Ask). Owes (account source a) (account source b) [] l) (sym none) (record { owed = ends.owed; left = ends.left });
            };
      }

  -- so it is where a call took it
  pub went-taken : (r : Result (Unit {0}) ClientFault) (allows : List ℕ → ℕ → List ℕ → List ℕ → Type 0) (a b : Eval) (arrived : Arrived) (p q : Pooled) (v w : WireState) → Arrives allows arrived p q v w
      → OnOk r (TakesReply suits account keeps standing is_true a b arrived versions) → OnOk r ((events : List PoolEvent) × Went suits account keeps standing is_true allows a b versions events [] p q v w)
  went-taken (Ok u) allows a b arrived p q v w h t = (h.before ++ Came (ask_of arrived) arrived.reply ∷ [], went-reply allows a b arrived p q v w h t)
  went-taken (Err fault) allows a b arrived p q v w h t = tt

  pub given-taken : (r : Result (Unit {0}) ClientFault) (a b : Eval) (arrived : Arrived) → OnOk r (TakesReply suits account keeps standing is_true a b arrived versions) → OnOk r ((standing b).given ≡ (standing a).given)
  given-taken (Ok u) a b arrived t = t.ends.given
  given-taken (Err fault) a b arrived t = tt

  pub went-then : (allows later : List ℕ → ℕ → List ℕ → List ℕ → Type 0) (a b c : Eval) (first second : List PoolEvent) (rows more : List Places) (p q r : Pooled) (u v w : WireState) → SameAllowed allows later
      → Went suits account keeps standing is_true allows a b versions first rows p q u v → Went suits account keeps standing is_true later b c versions second more q r v w
      → Went suits account keeps standing is_true allows a c versions (first ++ second) (rows ++ more) p r u w
  went-then allows later a b c first second rows more p q r u v w same f s = record {
    travels = travels-then allows first second p q r u v w f.travels (travels-allowed allows later second q r v w same s.travels);
    on_wire = s.on_wire;
    pages = pages-then versions first second f.pages s.pages;
    meets = λ limits m. s.meets limits (f.meets limits m);
    homes = λ limits m. homes-then (λ ask. HasHome limits.terms.homes ask.address) first second (f.homes limits m) (s.homes limits (f.meets limits m));
    width = λ limits m. All-append (λ row. length row ≡ limits.terms.width) rows more (f.width limits m) (s.width limits (f.meets limits m));
    few = λ limits m. let mid = f.meets limits m in few-then allows (most_waiting limits.sizes) first second p q u v f.travels mid.no_fault (f.few limits m) (s.few limits mid);
    stays = λ source t.
        let x = f.stays source (record { is_suited = t.is_suited; is_out = t.is_out; pages = true-first (is_true source) versions first second t.pages }) in
        let y = s.stays source (record { is_suited = x.is_suited; is_out = x.is_out; pages = true-second (is_true source) versions first second t.pages }) in
        record {
          is_suited = y.is_suited;
          is_out = y.is_out;
          owes = subst (λ (l : List Ask). Owes (account source a) (account source c) (rows ++ more) l) (sym (asked-append first second)) (owes-then (account source a) (account source b) (account source c) rows more (asked_in first) (asked_in second) x.owes y.owes);
        };
  }

  -- ---- faults

  -- a fault that needs nothing more than what went before
  pub failed-here : (allows : List ℕ → ℕ → List ℕ → List ℕ → Type 0) (a b : Eval) (budget : ℕ) (fault : ClientFault) (events : List PoolEvent) (rows : List Places) (p q : Pooled) (v w : WireState) → Explains versions budget fault events
      → Went suits account keeps standing is_true allows a b versions events rows p q v w → Failed suits account keeps standing is_true allows a versions budget fault events rows p q v w
  failed-here allows a b budget fault events rows p q v w e g = record {
    travels = g.travels;
    on_wire = g.on_wire;
    explains = e;
    homes = g.homes;
    few = g.few;
    owes = λ source t. let x = g.stays source t in owes-more (account source a) (account source b) rows (asked_in events) x.owes;
  }

  -- a fault in events in which nothing was asked and given
  failed-events : (allows : List ℕ → ℕ → List ℕ → List ℕ → Type 0) (a : Eval) (budget : ℕ) (fault : ClientFault) (events : List PoolEvent) (p q : Pooled) (v w : WireState) → Travels allows events p q v w → SuitsWire q w → Explains versions budget fault events → asked_in events ≡ []
      → Failed suits account keeps standing is_true allows a versions budget fault events [] p q v w
  failed-events allows a budget fault events p q v w t s e none = record {
    travels = t;
    on_wire = s;
    explains = e;
    homes = λ limits m. homes-of (λ ask. HasHome limits.terms.homes ask.address) events [] none tt;
    few = λ limits m. few-quiet (most_waiting limits.sizes) (length (held p)) events m.few none;
    owes = λ source truth. subst (λ (l : List Ask). OwesMore (account source a) [] l) (sym none) (owes-more (account source a) (account source a) [] [] (owes-none (account source a)));
  }

  pub failed-ready : (allows : List ℕ → ℕ → List ℕ → List ℕ → Type 0) (a c : Eval) (budget : ℕ) (fault : ClientFault) (rows : List Places) (asked : List Ask) (p q : Pooled) (w : WireState) → SuitsWire p w → IsLawful allows w → Readies suits account keeps standing a c rows asked p q → IsLocal fault
      → Failed suits account keeps standing is_true allows a versions budget fault (map Asked asked) rows p q w w
  failed-ready allows a c budget fault rows asked p q w s l r e = failed-here allows a c budget fault (map Asked asked) rows p q w w (explains-local versions budget fault (map Asked asked) e) (went-ready allows a c rows asked p q w s l r)

  pub failed-stop : (allows : List ℕ → ℕ → List ℕ → List ℕ → Type 0) (a : Eval) (budget : ℕ) (shown : PoolFault) (p q : Pooled) (v w : WireState) (h : Stops allows shown p q v w)
      → Failed suits account keeps standing is_true allows a versions budget (shown_as budget shown) (h.before ++ Broke h.fault ∷ []) [] p q v w
  failed-stop allows a budget shown p q v w h =
      failed-events allows a budget (shown_as budget shown) (h.before ++ Broke h.fault ∷ []) p q v w h.travels h.suits (explains-stop versions budget shown h.fault h.before h.is_shown) (asked-last h.before (Broke h.fault) h.waits refl)

  pub failed-shown : (allows : List ℕ → ℕ → List ℕ → List ℕ → Type 0) (a : Eval) (budget : ℕ) (shown : PoolFault) (x : ClientFault) (p q : Pooled) (v w : WireState) → x ≡ shown_as budget shown → (h : Stops allows shown p q v w)
      → Failed suits account keeps standing is_true allows a versions budget x (h.before ++ Broke h.fault ∷ []) [] p q v w
  failed-shown allows a budget shown x p q v w e h =
      subst (λ (f : ClientFault). Failed suits account keeps standing is_true allows a versions budget f (h.before ++ Broke h.fault ∷ []) [] p q v w) (sym e) (failed-stop allows a budget shown p q v w h)

  pub failed-take : (allows : List ℕ → ℕ → List ℕ → List ℕ → Type 0) (a : Eval) (budget : ℕ) (fault : ClientFault) (arrived : Arrived) (p q : Pooled) (v w : WireState) (h : Arrives allows arrived p q v w) → IsTakeFault arrived versions fault
      → Failed suits account keeps standing is_true allows a versions budget fault (h.before ++ Came (ask_of arrived) arrived.reply ∷ []) [] p q v w
  failed-take allows a budget fault arrived p q v w h e =
      failed-events allows a budget fault (h.before ++ Came (ask_of arrived) arrived.reply ∷ []) p q v w h.travels h.suits (explains-take versions budget fault arrived h.before e) (asked-last h.before (Came (ask_of arrived) arrived.reply) h.waits refl)

  pub failed-taken : (r : Result (Unit {0}) ClientFault) (allows : List ℕ → ℕ → List ℕ → List ℕ → Type 0) (a : Eval) (budget : ℕ) (arrived : Arrived) (p q : Pooled) (v w : WireState) → Arrives allows arrived p q v w → IfErr r (IsTakeFault arrived versions)
      → IfErr r (λ fault. (events : List PoolEvent) × Failed suits account keeps standing is_true allows a versions budget fault events [] p q v w)
  failed-taken (Ok u) allows a budget arrived p q v w h e = tt
  failed-taken (Err fault) allows a budget arrived p q v w h e = (h.before ++ Came (ask_of arrived) arrived.reply ∷ [], failed-take allows a budget fault arrived p q v w h e)

  pub failed-then : (allows later : List ℕ → ℕ → List ℕ → List ℕ → Type 0) (a b : Eval) (budget : ℕ) (fault : ClientFault) (first second : List PoolEvent) (rows more : List Places) (p q r : Pooled) (u v w : WireState) → SameAllowed allows later
      → Went suits account keeps standing is_true allows a b versions first rows p q u v → Failed suits account keeps standing is_true later b versions budget fault second more q r v w
      → Failed suits account keeps standing is_true allows a versions budget fault (first ++ second) (rows ++ more) p r u w
  failed-then allows later a b budget fault first second rows more p q r u v w same f s = record {
    travels = travels-then allows first second p q r u v w f.travels (travels-allowed allows later second q r v w same s.travels);
    on_wire = s.on_wire;
    explains = explains-later versions budget fault first second s.explains;
    homes = λ limits m. homes-then (λ ask. HasHome limits.terms.homes ask.address) first second (f.homes limits m) (s.homes limits (f.meets limits m));
    few = λ limits m. let mid = f.meets limits m in few-then allows (most_waiting limits.sizes) first second p q u v f.travels mid.no_fault (f.few limits m) (s.few limits mid);
    owes = λ source t.
        let x = f.stays source (record { is_suited = t.is_suited; is_out = t.is_out; pages = true-first (is_true source) versions first second t.pages }) in
        let y = s.owes source (record { is_suited = x.is_suited; is_out = x.is_out; pages = true-second (is_true source) versions first second t.pages }) in
        subst (λ (l : List Ask). OwesMore (account source a) (rows ++ more) l) (sym (asked-append first second)) (more-then (account source a) (account source b) rows more (asked_in first) (asked_in second) x.owes y);
  }
