-- Steps until a reply arrives.
use Rattle.std.proofs.Common.{ℕ, ◌≡◌, ◌++◌, List, [], ◌∷◌, None, length, refl, sym, ap, ◌∙◌}
use Rattle.std.specs.Prelude.{◌⊎◌}
use Rattle.std.specs.List.Sorted.{IsPermutation}
use Rattle.std.proofs.lemmas.List.Sorted.{IsPermutation-refl, IsPermutation-trans, length_permutation}
use Rattle.tpf_base.specs.Links.{WireState, SameAllowed}
use Rattle.request_pool.specs.declared.fault.PoolFault.{PoolFault}
use Rattle.request_pool.specs.declared.fault.PoolFault.TheVariants as faults
use Rattle.request_pool.specs.Pools.{Pooled, Ask, held}
use Rattle.request_pool.specs.Owned.{SuitsWire}
use Rattle.tpf_client.specs.declared.asks.Arrived.{Arrived}
use Rattle.tpf_client.specs.Traffic.{PoolEvent, Came, Waited, Broke, Moves, Travels, StepWaits, Comes}
use Rattle.tpf_client.specs.Asking.{WaitsSo, Arrives, Stops, ask_of}
use Rattle.tpf_client.proofs.Traveling.{no-events, one-event, travels-then, travels-allowed, waits-more}

pub empty-list : (xs : List Ask) → length xs ≡ length {A = Ask} [] → xs ≡ []
empty-list [] e = refl
empty-list (x ∷ xs) e = cc

pub none-held : (xs ys : List Ask) → IsPermutation xs ys → ys ≡ [] → xs ≡ []
none-held xs ys p e = empty-list xs (sym (length_permutation xs ys p) ∙ ap (λ (l : List Ask). length l) e)

pub allowed-then : (a b c : List ℕ → ℕ → List ℕ → List ℕ → Type 0) → SameAllowed a b → SameAllowed b c → SameAllowed a c
allowed-then a b c p q = λ h n s o. (λ x. (p h n s o).0 ((q h n s o).0 x), λ x. (q h n s o).1 ((p h n s o).1 x))

pub so-none : (allows : List ℕ → ℕ → List ℕ → List ℕ → Type 0) (p : Pooled) (w : WireState) → p.fault ≡ None → SuitsWire p w → WaitsSo allows p p w w
so-none allows p w f s = record { before = []; waits = tt; travels = no-events allows p w; others = IsPermutation-refl (held p); no_fault = f; suits = s }

module _ (allows later : List ℕ → ℕ → List ℕ → List ℕ → Type 0) (same : SameAllowed allows later) (p q r : Pooled) (u v w : WireState) where
  more : (before : List PoolEvent) (event : PoolEvent) → Travels allows before p q u v → Moves later event q r v w → Travels allows (before ++ event ∷ []) p r u w
  more before event t m = travels-then allows before (event ∷ []) p q r u v w t (travels-allowed allows later (event ∷ []) q r v w same (one-event later event q r v w m))

  pub so-waits : WaitsSo allows p q u v → Moves later Waited q r v w → WaitsSo allows p r u w
  so-waits s m =
      let h : StepWaits q r v w = m.happens in
      record {
        before = s.before ++ Waited ∷ [];
        waits = waits-more s.before s.waits;
        travels = more s.before Waited s.travels m;
        others = IsPermutation-trans _ _ _ s.others h.others;
        no_fault = h.no_fault;
        suits = m.suits;
      }

  pub so-comes : (arrived : Arrived) → WaitsSo allows p q u v → Moves later (Came (ask_of arrived) arrived.reply) q r v w → Arrives allows arrived p r u w
  so-comes arrived s m =
      let h : Comes (ask_of arrived) arrived.reply q r v w = m.happens in
      record {
        before = s.before;
        waits = s.waits;
        travels = more s.before (Came (ask_of arrived) arrived.reply) s.travels m;
        others = IsPermutation-trans _ _ _ s.others h.others;
        no_fault = h.no_fault;
        suits = m.suits;
      }

  pub so-stops : (shown fault : PoolFault) → (shown ≡ fault) ⊎ (shown ≡ faults.OutOfMemory) → WaitsSo allows p q u v → Moves later (Broke fault) q r v w → Stops allows shown p r u w
  so-stops shown fault e s m = record {
    before = s.before;
    waits = s.waits;
    fault = fault;
    travels = more s.before (Broke fault) s.travels m;
    is_shown = e;
    suits = m.suits;
  }
