-- Where all that was asked was answered, as many exchanges were started as asks were put, or more.
use Rattle.std.proofs.Common.{ℕ, suc, ◌≡◌, ◌+◌, ◌≤◌, ◌++◌, List, [], ◌∷◌, length, Some, None, refl, sym, ap, subst, ◌∙◌, arith}
use Rattle.std.specs.Prelude.{Option, Ok}
use Rattle.std.specs.List.Sorted.{IsPermutation}
use Rattle.std.proofs.lemmas.List.Sorted.{length_permutation}
use Rattle.tpf_base.specs.Links.{WireState, OpensGiven}
use Rattle.request_pool.specs.declared.fault.PoolFault.{PoolFault}
use Rattle.request_pool.specs.declared.fault.Stepped.TheVariants as stepped
use Rattle.request_pool.specs.declared.asks.Waiting.{Waiting}
use Rattle.request_pool.specs.Faults.{kept_of}
use Rattle.request_pool.specs.Pools.{Pooled, Ask, held, in_flight}
use Rattle.request_pool.specs.Owned.{SuitsWire}
use Rattle.pool_laws.specs.Counting.{tries, tries_waiting, tries_flying, FewFailed, PutsFewFailed, StepsFewFailed, StepsCountTries}
use Rattle.tpf_client.specs.Traffic.{PoolEvent, Asked, Came, Waited, Broke, Travels, Puts, Comes, StepWaits, StepBreaks}
use Rattle.tpf_client.specs.Turns.{asked_in}
use Rattle.tpf_client.proofs.Distinct.{put-held}
use Rattle.tpf_client.proofs.Keeping.{not-some}

-- ---- a fault stays

same-some : (a b : Option PoolFault) (fault : PoolFault) → b ≡ a → a ≡ Some fault → b ≡ Some fault
same-some a b fault e f = e ∙ f

pub fault-stays : (allows : List ℕ → ℕ → List ℕ → List ℕ → Type 0) (fault : PoolFault) (events : List PoolEvent) (p q : Pooled) (v w : WireState) → p.fault ≡ Some fault → Travels allows events p q v w → q.fault ≡ Some fault
fault-stays allows fault [] p q v w f t = same-some p.fault q.fault fault (ap (λ (x : Pooled). x.fault) t.0) f
fault-stays allows fault (Asked ask ∷ events) p q v w f t =
    let e = ap (λ (x : Pooled). x.fault) t.1.happens.0.put in
    fault-stays allows fault events t.0.pool q t.0.wire w (same-some p.fault t.0.pool.fault fault e f) t.2
fault-stays allows fault (Came ask reply ∷ events) p q v w f t = let h : Comes ask reply p t.0.pool v t.0.wire = t.1.happens in absurd (not-some p.fault fault f h.had_none)
fault-stays allows fault (Waited ∷ events) p q v w f t = let h : StepWaits p t.0.pool v t.0.wire = t.1.happens in absurd (not-some p.fault fault f h.had_none)
fault-stays allows fault (Broke other ∷ events) p q v w f t = let h : StepBreaks other p t.0.pool v t.0.wire = t.1.happens in absurd (not-some p.fault fault f h.had_none)

pub no-break : (allows : List ℕ → ℕ → List ℕ → List ℕ → Type 0) (fault : PoolFault) (events : List PoolEvent) (p q : Pooled) (v w : WireState) → p.fault ≡ Some fault → Travels allows events p q v w → q.fault ≡ None → ⊥
no-break allows fault events p q v w f t n = not-some q.fault fault (fault-stays allows fault events p q v w f t) n

-- ---- tries and asks

waiting-more : (xs : List Waiting) (w : Waiting) → w.failed ≡ 0 → tries_waiting (xs ++ w ∷ []) ≡ tries_waiting xs
waiting-more [] w e = omega (arith, e)
waiting-more (x ∷ xs) w e = omega (arith, waiting-more xs w e)

tries-put : (ask : Ask) (p : Pooled) → tries (record p { waiting = p.waiting ++ (record { ticket = ask.ticket; address = ask.address; failed = 0 }) ∷ [] }) ≡ tries p
tries-put ask p = ap (λ (n : ℕ). n + tries_flying (in_flight p)) (waiting-more p.waiting (record { ticket = ask.ticket; address = ask.address; failed = 0 }) refl)

module _ (few-puts : PutsFewFailed) (few-steps : StepsFewFailed) (counts : StepsCountTries) (allows : List ℕ → ℕ → List ℕ → List ℕ → Type 0) where
  -- after so many asks
  pub record Least (n : ℕ) (p : Pooled) : Type 0 where
    pub few : FewFailed p
    pub least : n + tries p ≤ p.started + length (held p)

  least-put : (ask : Ask) (n : ℕ) (p q : Pooled) → Puts ask p q → Least n p → Least (n + 1) q
  least-put ask n p q h l =
      let t : tries q ≡ tries p = ap tries h.put ∙ tries-put ask p in
      let c : length (ask ∷ held p) ≡ length (held q) = length_permutation (held q) (ask ∷ held p) (put-held ask p q h) in
      let d : length (ask ∷ held p) ≡ suc (length (held p)) = refl in
      let s : q.started ≡ p.started = ap (λ (x : Pooled). x.started) h.put in
      record {
        few = subst (λ (x : Pooled). FewFailed x) (sym h.put) (few-puts ask.ticket ask.address p l.few);
        least = omega (arith, l.least, t, c, d, s);
      }

  least-came : (ask : Ask) (n over : ℕ) (p q : Pooled) → IsPermutation (held p) (ask ∷ held q) → 1 ≤ over → q.started + tries p ≡ p.started + tries q + over → n + tries p ≤ p.started + length (held p) → n + tries q ≤ q.started + length (held q)
  least-came ask n over p q h one b l =
      let c : length (held p) ≡ length (ask ∷ held q) = sym (length_permutation (held p) (ask ∷ held q) h) in
      let d : length (ask ∷ held q) ≡ suc (length (held q)) = refl in
      omega (arith, one, b, l, c, d)

  least-waited : (n : ℕ) (p q : Pooled) → IsPermutation (held p) (held q) → q.started + tries p ≡ p.started + tries q + 0 → n + tries p ≤ p.started + length (held p) → n + tries q ≤ q.started + length (held q)
  least-waited n p q h b l = let c : length (held p) ≡ length (held q) = sym (length_permutation (held p) (held q) h) in omega (arith, b, l, c)

  least-same : (n : ℕ) (p q : Pooled) → q ≡ p → Least n p → n + length {A = Ask} [] + tries q ≤ q.started + length (held q)
  least-same n p q e l = let z : length {A = Ask} [] ≡ 0 = refl in let f = (subst (Least n) (sym e) l).least in omega (arith, z, f)

  pub least-so : (events : List PoolEvent) (n : ℕ) (p q : Pooled) (v w : WireState) → OpensGiven v → SuitsWire p v → Least n p → Travels allows events p q v w → q.fault ≡ None → n + length (asked_in events) + tries q ≤ q.started + length (held q)
  least-so [] n p q v w g s l t none = least-same n p q t.0 l
  least-so (Asked ask ∷ events) n p q v w g s l t none =
      let r = least-so events (n + 1) t.0.pool q t.0.wire w t.1.lawful.given t.1.suits (least-put ask n p t.0.pool t.1.happens.0 l) t.2 none in
      let d : length (ask ∷ asked_in events) ≡ suc (length (asked_in events)) = refl in
      omega (arith, r, d)
  least-so (Came ask reply ∷ events) n p q v w g s l t none =
      let h : Comes ask reply p t.0.pool v t.0.wire = t.1.happens in
      let c = counts (Ok (stepped.Came ask.ticket ask.address reply)) p t.0.pool v t.0.wire g s l.few h.steps in
      least-so events n t.0.pool q t.0.wire w t.1.lawful.given t.1.suits
      (record { few = few-steps (Ok (stepped.Came ask.ticket ask.address reply)) p t.0.pool v t.0.wire g s l.few h.steps; least = least-came ask n c.0 p t.0.pool h.others c.1 c.3 l.least }) t.2 none
  least-so (Waited ∷ events) n p q v w g s l t none =
      let h : StepWaits p t.0.pool v t.0.wire = t.1.happens in
      let c = counts (Ok stepped.Waited) p t.0.pool v t.0.wire g s l.few h.steps in
      least-so events n t.0.pool q t.0.wire w t.1.lawful.given t.1.suits
      (record { few = few-steps (Ok stepped.Waited) p t.0.pool v t.0.wire g s l.few h.steps; least = least-waited n p t.0.pool h.others c l.least }) t.2 none
  least-so (Broke fault ∷ events) n p q v w g s l t none = let h : StepBreaks fault p t.0.pool v t.0.wire = t.1.happens in absurd (no-break allows (kept_of fault) events t.0.pool q t.0.wire w h.kept t.2 none)

  pub fewest : (events : List PoolEvent) (p q : Pooled) (v w : WireState) → OpensGiven v → SuitsWire p v → FewFailed p → tries p ≡ 0 → Travels allows events p q v w → q.fault ≡ None → held q ≡ [] → length (asked_in events) ≤ q.started
  fewest events p q v w g s few z t none held-none =
      let l = least-so events 0 p q v w g s (record { few = few; least = omega (arith, z) }) t none in
      let h : length (held q) ≡ 0 = ap (λ (l : List Ask). length l) held-none in
      omega (arith, l, h)
