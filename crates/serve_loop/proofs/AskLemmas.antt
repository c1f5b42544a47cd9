-- How often the supply was asked.
use Rattle.std.proofs.Common.{ℕ, zero, suc, ◌≡◌, ◌+◌, ◌^◌, ◌<◌, ◌≤◌, inl, inr, List, [], ◌∷◌, ◌++◌, length, Option, Some, None, Bool, true, false, refl, sym, ◌∙◌, ap, subst, arith, length-append, add-one, if◌then◌else◌}
use Rattle.std.proofs.lemmas.Bool.{cases_eq}
use Rattle.list_laws.proofs.Each.{all_so}
use Rattle.connections.specs.Kinds.{Kind}
use Rattle.connections.specs.declared.reloaded.Reloaded.{Reloaded}
use Rattle.connections.specs.declared.reloaded.Reloaded.TheVariants as outcomes
use Rattle.tpf_base.specs.Causes.{counted_by}
use Rattle.tpf_base.specs.Links.{WireState}
use Rattle.tpf_base.specs.declared.limits.TheConstants.{HIGHEST_NUMBER}
use Rattle.connections.specs.Versions.{Serving}
use Rattle.serve_loop.specs.declared.live.Live.{Live}
use Rattle.serve_loop.specs.declared.live.Part.{Part}
use Rattle.serve_loop.specs.Traffic.{Moment, took}
use Rattle.serve_loop.specs.Steps.{Supplies, Welcomes}
use Rattle.serve_loop.specs.Asks.{AreAnswered, waits_for, waiting, AnswersAt, AnswersBelow, AnswersAll}
use Rattle.serve_loop.specs.Parts.{is_in, among, parted}
use Rattle.serve_loop.proofs.PartLemmas.{among_vacant}

module _ {Data Settings : Type 0} where
  supplies_may : (may may' : Data → Type 0) (outcome : Reloaded) (old now : Moment Data Settings) → ((d : Data) → may d → may' d) → Supplies may outcome old now → Supplies may' outcome old now
  supplies_may may may' outcome old now f s = record {
    added = s.added;
    few = s.few;
    left = s.left;
    may_be = all_so may may' f (took s.added) s.may_be;
    version = s.version;
    none = s.none;
    failed = s.failed;
    faults = s.faults;
    asked = s.asked;
    unasked = s.unasked;
    wire = s.wire;
  }

  pub answered_may : (may may' : Data → Type 0) (outcomes : List Reloaded) (old now : Moment Data Settings) → ((d : Data) → may d → may' d) → AreAnswered may outcomes old now → AreAnswered may' outcomes old now
  answered_may may may' [] old now f a = a
  answered_may may may' (outcome ∷ outcomes) old now f a = (a.0, answered_may may may' outcomes old a.0 f a.1, supplies_may may may' outcome a.0 now f a.2)

  pub answered_then : (may : Data → Type 0) (xs ys : List Reloaded) (old mid now : Moment Data Settings) → AreAnswered may xs old mid → AreAnswered may ys mid now → AreAnswered may (ys ++ xs) old now
  answered_then may xs [] old mid now a b = subst (λ (m : Moment Data Settings). AreAnswered may xs old m) (sym b) a
  answered_then may xs (outcome ∷ outcomes) old mid now a b = (b.0, answered_then may xs outcomes old mid b.0 a b.1, b.2)

  version_more : (may : Data → Type 0) (outcome : Reloaded) (old now : Moment Data Settings) → Supplies may outcome old now → now.served.version ≤ old.served.version + 1
  version_more may (outcomes.Version v) old now s = let x = s.version v refl in omega (arith, ap (λ (y : Serving Data Settings). y.version) x.1.2, x.1.1)
  version_more may outcomes.Failed old now s = let n = s.none (λ v e. cc) in omega (arith, ap (λ (y : Serving Data Settings). y.version) n.1)
  version_more may outcomes.OutOfMemory old now s = let n = s.none (λ v e. cc) in omega (arith, ap (λ (y : Serving Data Settings). y.version) n.1)

  -- how often it was asked
  pub calls_answered : (may : Data → Type 0) (xs : List Reloaded) (old now : Moment Data Settings) → AreAnswered may xs old now → old.served.version + length xs ≤ HIGHEST_NUMBER → old.supply.calls < 2 ^ 64
      → (now.supply.calls ≡ counted_by (length xs) old.supply.calls) × (now.served.version ≤ old.served.version + length xs)
  calls_answered may [] old now a few fits =
      let c = ap (λ (m : Moment Data Settings). m.supply.calls) a in
      let v = ap (λ (m : Moment Data Settings). m.served.version) a in
      (omega (arith, c, fits), omega (arith, v))
  calls_answered may (x ∷ xs) old now a few fits =
      let h = calls_answered may xs old a.0 a.1 (omega (arith, few)) fits in
      let hc = h.0 in
      let hv = h.1 in
      let c = a.2.asked (λ e. omega (arith, few, hv, e)) in
      let v = version_more may x a.0 now a.2 in
      (omega (arith, hc, c), omega (arith, hv, v))

module _ {C Data Settings : Type 0} where
  one_if : (kind : Kind C Data Settings) (l : Live C) → kind.wants l.connection ≡ true → waits_for kind (Some l) ≡ 1
  one_if kind l e = rw e refl

  none_if : (kind : Kind C Data Settings) (l : Live C) → kind.wants l.connection ≡ false → waits_for kind (Some l) ≡ 0
  none_if kind l e = rw e refl

  -- ---- one connection

  pub answers_asked : (kind : Kind C Data Settings) (may : Data → Type 0) (l : Live C) (outcome : Reloaded) (old now : Moment Data Settings) → kind.wants l.connection ≡ true → Supplies may outcome old now → AnswersAt kind may (Some l) old now
  answers_asked kind may l outcome old now wants s = record { outcomes = outcome ∷ []; count = sym (one_if kind l wants); answered = (old, refl, s) }

  pub answers_none : (kind : Kind C Data Settings) (may : Data → Type 0) (l : Live C) (now : Moment Data Settings) → kind.wants l.connection ≡ false → AnswersAt kind may (Some l) now now
  answers_none kind may l now wants = record { outcomes = []; count = sym (none_if kind l wants); answered = refl }

  pub answers_vacant : (kind : Kind C Data Settings) (may : Data → Type 0) (slot : Option (Live C)) (now : Moment Data Settings) → slot ≡ None → AnswersAt kind may slot now now
  answers_vacant kind may slot now none = record { outcomes = []; count = sym (ap (λ (o : Option (Live C)). waits_for kind o) none); answered = refl }

  pub answers_as : (kind : Kind C Data Settings) (may : Data → Type 0) (slot slot' : Option (Live C)) (old now : Moment Data Settings) → slot ≡ slot' → AnswersAt kind may slot old now → AnswersAt kind may slot' old now
  answers_as kind may slot slot' old now e a = subst (λ (o : Option (Live C)). AnswersAt kind may o old now) e a

  -- ---- those below a key

  pub answers_below : (kind : Kind C Data Settings) (may : Data → Type 0) (at : ℕ → Option (Live C)) (now : Moment Data Settings) → AnswersBelow kind may at 0 now now
  answers_below kind may at now = record { outcomes = []; count = refl; answered = refl }

  waiting_more : (kind : Kind C Data Settings) (at : ℕ → Option (Live C)) (n : ℕ) → waiting kind at (n + 1) ≡ waiting kind at n + waits_for kind (at n)
  waiting_more kind at n = ap (λ (m : ℕ). waiting kind at m) (add-one n)

  pub answers_more : (kind : Kind C Data Settings) (may may' : Data → Type 0) (at : ℕ → Option (Live C)) (n : ℕ) (slot : Option (Live C)) (old mid now : Moment Data Settings) → ((d : Data) → may' d → may d)
      → AnswersBelow kind may at n old mid → at n ≡ slot → AnswersAt kind may' slot mid now → AnswersBelow kind may at (n + 1) old now
  answers_more kind may may' at n slot old mid now f h e a =
      let hc = h.count in
      let ac : length a.outcomes ≡ waits_for kind (at n) = a.count ∙ ap (λ (o : Option (Live C)). waits_for kind o) (sym e) in
      record {
        outcomes = a.outcomes ++ h.outcomes;
        count = let w = waiting_more kind at n in omega (arith, length-append a.outcomes h.outcomes, hc, ac, w);
        answered = answered_then may h.outcomes a.outcomes old mid now h.answered (answered_may may' may a.outcomes mid now f a.answered);
      }

  pub answers_all : (kind : Kind C Data Settings) (may : Data → Type 0) (at : ℕ → Option (Live C)) (n : ℕ) (old now : Moment Data Settings) → ((key : ℕ) → n ≤ key → at key ≡ None) → AnswersBelow kind may at n old now → AnswersAll kind may at old now
  answers_all kind may at n old now above h = record {
    keys = n;
    above = above;
    outcomes = h.outcomes;
    count = h.count;
    answered = h.answered;
    asked = λ few fits. let c = h.count in subst (λ (m : ℕ). now.supply.calls ≡ counted_by m old.supply.calls) h.count (calls_answered may h.outcomes old now h.answered (omega (arith, few, c)) fits).0;
  }

  -- ---- a new connection waits for nothing

  none_if_in : (kind : Kind C Data Settings) (b : Bool) (l : Live C) → kind.wants l.connection ≡ false → waits_for kind (if b then Some l else None) ≡ 0
  none_if_in kind true l e = none_if kind l e
  none_if_in kind false l e = refl

  same_waits : (kind : Kind C Data Settings) (part : Part) (at at' : ℕ → Option (Live C)) (accepted : Bool) (len after : ℕ) (a b : WireState) → Welcomes kind at at' accepted len after a b
      → (k : ℕ) → waits_for kind (parted part at' k) ≡ waits_for kind (parted part at k)
  same_waits kind part at at' false len after a b w k = ap (λ (o : Option (Live C)). waits_for kind (among part o)) (w.others k (inr refl))
  same_waits kind part at at' true len after a b w k = elim (cases_eq k w.key) [
    | inl p ↦ ap (λ (j : ℕ). waits_for kind (among part (at' j))) p ∙ ap (λ (o : Option (Live C)). waits_for kind (among part o)) (w.found refl).1.1
        ∙ none_if_in kind (is_in part a.given) (record { link = a.given; connection = (w.found refl).0 }) (w.found refl).1.0.wants
        ∙ sym (ap (λ (j : ℕ). waits_for kind (among part (at j))) p ∙ ap (λ (o : Option (Live C)). waits_for kind (among part o)) (w.vacant refl))
    | inr n ↦ ap (λ (o : Option (Live C)). waits_for kind (among part o)) (w.others k (inl n))
  ]

  waiting_same : (kind : Kind C Data Settings) (at at' : ℕ → Option (Live C)) (n : ℕ) → ((k : ℕ) → waits_for kind (at' k) ≡ waits_for kind (at k)) → waiting kind at' n ≡ waiting kind at n
  waiting_same kind at at' zero same = refl
  waiting_same kind at at' (suc n) same = let h = waiting_same kind at at' n same in let s = same n in omega (arith, h, s)

  vacant_before : (kind : Kind C Data Settings) (part : Part) (at at' : ℕ → Option (Live C)) (accepted : Bool) (len after : ℕ) (a b : WireState) → Welcomes kind at at' accepted len after a b
      → (k : ℕ) → parted part at' k ≡ None → parted part at k ≡ None
  vacant_before kind part at at' false len after a b w k none = ap (λ (o : Option (Live C)). among part o) (sym (w.others k (inr refl))) ∙ none
  vacant_before kind part at at' true len after a b w k none = elim (cases_eq k w.key) [
    | inl p ↦ among_vacant part (at k) (ap at p ∙ w.vacant refl)
    | inr n ↦ ap (λ (o : Option (Live C)). among part o) (sym (w.others k (inl n))) ∙ none
  ]

  pub answers_welcomed : (kind : Kind C Data Settings) (may : Data → Type 0) (part : Part) (at at' : ℕ → Option (Live C)) (accepted : Bool) (len after : ℕ) (a b : WireState) (old now : Moment Data Settings)
      → Welcomes kind at at' accepted len after a b → AnswersAll kind may (parted part at') old now → AnswersAll kind may (parted part at) old now
  answers_welcomed kind may part at at' accepted len after a b old now w h =
      let same = waiting_same kind (parted part at) (parted part at') h.keys (same_waits kind part at at' accepted len after a b w) in
      record {
        keys = h.keys;
        above = λ key from. vacant_before kind part at at' accepted len after a b w key (h.above key from);
        outcomes = h.outcomes;
        count = h.count ∙ same;
        answered = h.answered;
        asked = subst (λ (m : ℕ). old.served.version + m ≤ HIGHEST_NUMBER → old.supply.calls < 2 ^ 64 → now.supply.calls ≡ counted_by m old.supply.calls) same h.asked;
      }
