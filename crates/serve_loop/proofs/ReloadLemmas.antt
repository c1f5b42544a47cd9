-- A reload: the history grows, and the link that asked for it owns the new number.
use Rattle.std.proofs.Common.{ℕ, ◌≡◌, ◌≢◌, ◌+◌, ◌<◌, ◌≤◌, ◌⊎◌, inl, inr, ◌++◌, List, [], ◌∷◌, length, Option, Bool, true, false, refl, sym, ◌∙◌, ap, subst, arith, append-nil, append_assoc, length-append, if◌then◌else◌}
use Rattle.std.specs.List.{AllByRecursion}
use Rattle.list_laws.proofs.Each.{all_append, all_so}
use Rattle.tpf_base.specs.Marks.{Mark, Served, Failed, Starved, version_at}
use Rattle.tpf_base.specs.Causes.{Rose, counted}
use Rattle.tpf_base.specs.Links.{WireState}
use Rattle.tpf_base.proofs.SendingLemmas.{holds_by}
use Rattle.connections.specs.declared.reloaded.Reloaded.{Reloaded}
use Rattle.connections.specs.declared.reloaded.Reloaded.TheVariants as outcomes
use Rattle.tpf_base.specs.declared.limits.TheConstants.{HIGHEST_NUMBER}
use Rattle.connections.specs.Versions.{Serving, IsHistory, with_first}
use Rattle.connections.specs.Kinds.{Kind, Grows, Reloads, mark_of, numbers_of}
use Rattle.serve_loop.specs.Traffic.{Talk, Given, Moment, took, with_given, updated}
use Rattle.serve_loop.specs.Relates.{IsTalk, IsExcused, IsNumber, IsRising, Versions}
use Rattle.serve_loop.specs.Steps.{Supplies, GoesOn}
use Rattle.serve_loop.proofs.TalkLemmas.{plain, served_excused, served_level}
use Rattle.serve_loop.proofs.RelatesLemmas.{there}

took_both : {Data : Type 0} (b : Bool) (d : Data) (gs hs : List (Given Data)) → took (gs ++ hs) ≡ took gs ++ took hs
    → (if b then d ∷ took (gs ++ hs) else took (gs ++ hs)) ≡ (if b then d ∷ took gs else took gs) ++ took hs
took_both {Data = Data} true d gs hs e = ap (λ (xs : List Data). d ∷ xs) e
took_both {Data = Data} false d gs hs e = e

pub took_append : {Data : Type 0} (gs hs : List (Given Data)) → took (gs ++ hs) ≡ took gs ++ took hs
took_append {Data = Data} [] hs = refl
took_append {Data = Data} (g ∷ gs) hs = took_both g.took g.data_set gs hs (took_append gs hs)

pub given_append : {Data : Type 0} (gs hs : List (Given Data)) (left : Option (List Data)) → with_given (gs ++ hs) left ≡ with_given gs (with_given hs left)
given_append {Data = Data} [] hs left = refl
given_append {Data = Data} (g ∷ gs) hs left = ap (λ (x : Option (List Data)). with_first g.data_set x) (given_append gs hs left)

-- a cause stays one
pub excused_later : (before now later : ℕ) → now ≤ later → (m : Mark) → IsExcused before now m → IsExcused before later m
excused_later before now later h (Served version) e = tt
excused_later before now later h (Failed version) e = elim e [ inl rose ↦ inl (omega (arith, h, rose)) | inr most ↦ inr most ]
excused_later before now later h (Starved version) e = tt

-- numbers that were given are other than the next
pub number_later : (owner : ℕ → ℕ) (k j before now : ℕ) (n : ℕ) → IsNumber owner k before now n → IsNumber (updated owner (now + 1) j) k before (now + 1) n
number_later owner k j before now n h = record {
  mine = there owner (now + 1) j n (λ e. let w = h.within in absurd (omega (arith, w, e))) ∙ h.mine;
  above = h.above;
  within = let w = h.within in omega (arith, w);
}

-- the versions where the supply gave a table that the server took
pub versions_took : {Data Settings : Type 0} (may : Data → Type 0) (first : List Data) (since : Moment Data Settings) (history : List Data) (given added : List (Given Data)) (d : Data) (old now : Moment Data Settings)
    → Versions may first since history given old → took added ≡ d ∷ [] → now.served ≡ record old.served { data_set = d; version = old.served.version + 1 }
    → old.supply.left ≡ with_given added now.supply.left → AllByRecursion may (took added) → old.supply.faults ≤ now.supply.faults
    → Versions may first since (history ++ d ∷ []) (given ++ added) now
versions_took {Data = Data} {Settings = Settings} may first since history given added d old now v one served left may_be faults =
    let both = took_append given added ∙ ap (λ (x : List Data). took given ++ x) one in
    let vc = v.count in
    let vf = v.faults in
    let sc = v.serves.count in
    let version : now.served.version ≡ old.served.version + 1 = ap (λ (s : Serving Data Settings). s.version) served in
    record {
      history_is = ap (λ (x : List Data). x ++ d ∷ []) v.history_is ∙ append_assoc first (took given) (d ∷ []) ∙ ap (λ (x : List Data). first ++ x) (sym both);
      serves = record {
        count = omega (arith, length-append history (d ∷ []), sc, version);
        before = history;
        last = ap (λ (x : Data). history ++ x ∷ []) (sym (ap (λ (s : Serving Data Settings). s.data_set) served));
      };
      config = ap (λ (s : Serving Data Settings). s.config) served ∙ v.config;
      count = omega (arith, version, vc, ap (λ (x : List Data). length x) both, length-append (took given) (d ∷ []));
      left = v.left ∙ ap (λ (x : Option (List Data)). with_given given x) left ∙ sym (given_append given added now.supply.left);
      may_be = subst (λ (x : List Data). AllByRecursion may x) (sym (took_append given added)) (all_append may (took given) (took added) v.may_be may_be);
      faults = omega (arith, vf, faults);
    }

-- the versions where it took none
pub versions_none : {Data Settings : Type 0} (may : Data → Type 0) (first : List Data) (since : Moment Data Settings) (history : List Data) (given added : List (Given Data)) (old now : Moment Data Settings)
    → Versions may first since history given old → took added ≡ [] → now.served ≡ old.served
    → old.supply.left ≡ with_given added now.supply.left → old.supply.faults ≤ now.supply.faults
    → Versions may first since history (given ++ added) now
versions_none {Data = Data} {Settings = Settings} may first since history given added old now v none served left faults =
    let both : took (given ++ added) ≡ took given = took_append given added ∙ ap (λ (x : List Data). took given ++ x) none ∙ append-nil (took given) in
    let vc = v.count in
    let vf = v.faults in
    let version : now.served.version ≡ old.served.version = ap (λ (s : Serving Data Settings). s.version) served in
    record {
      history_is = v.history_is ∙ ap (λ (x : List Data). first ++ x) (sym both);
      serves = subst (λ (s : Serving Data Settings). IsHistory history s) (sym served) v.serves;
      config = ap (λ (s : Serving Data Settings). s.config) served ∙ v.config;
      count = omega (arith, version, vc, ap (λ (x : List Data). length x) both);
      left = v.left ∙ ap (λ (x : Option (List Data)). with_given given x) left ∙ sym (given_append given added now.supply.left);
      may_be = subst (λ (x : List Data). AllByRecursion may x) (sym both) v.may_be;
      faults = omega (arith, vf, faults);
    }

level_of : (low version : ℕ) (outcome : Reloaded) → low ≤ version → low ≤ version_at (mark_of version outcome)
level_of low version (outcomes.Version v) up = up
level_of low version outcomes.Failed up = up
level_of low version outcomes.OutOfMemory up = up

pub rising_last : (ns : List ℕ) (v : ℕ) → IsRising ns → AllByRecursion (λ n. n < v) ns → IsRising (ns ++ v ∷ [])
rising_last [] v r h = (tt, tt)
rising_last (n ∷ ns) v r h = (all_append (λ m. n < m) ns (v ∷ []) r.0 (h.0, tt), rising_last ns v r.1 h.1)

-- a reload that failed, or wanted memory, gave no version
pub failed_gives_none : (v : ℕ) → outcomes.Failed ≡ outcomes.Version v → ⊥
failed_gives_none v e = cc

pub memory_gives_none : (v : ℕ) → outcomes.OutOfMemory ≡ outcomes.Version v → ⊥
memory_gives_none v e = cc

pub memory_is_no_fault : {Fact : Type 0} → outcomes.OutOfMemory ≡ outcomes.Failed → Fact
memory_is_no_fault e = absurd cc

-- no table is few, and one is
pub none_is_few : 0 ≤ 1
none_is_few = omega arith

pub same_count : (count : ℕ) → count ≤ count
same_count count = omega arith

pub supplies_none : {Data Settings : Type 0} (may : Data → Type 0) (outcome : Reloaded) (old now : Moment Data Settings) (added : List (Given Data)) → ((v : ℕ) → outcome ≢ outcomes.Version v) → took added ≡ [] → now.served ≡ old.served
    → old.supply.left ≡ with_given added now.supply.left → length added ≤ 1 → (outcome ≡ outcomes.Failed → (added ≡ []) × (Rose old.supply.faults now.supply.faults ⊎ (old.served.version ≡ HIGHEST_NUMBER))) → old.supply.faults ≤ now.supply.faults
    → (old.served.version ≢ HIGHEST_NUMBER → now.supply.calls ≡ counted old.supply.calls) → (old.served.version ≡ HIGHEST_NUMBER → now.supply ≡ old.supply) → now.wire ≡ old.wire
    → Supplies may outcome old now
supplies_none {Data = Data} {Settings = Settings} may outcome old now added other none served left few failed faults asked unasked wire = record {
  added = added;
  few = few;
  left = left;
  may_be = subst (λ (x : List Data). AllByRecursion may x) (sym none) tt;
  version = λ v e. absurd (other v e);
  none = λ n. (none, served);
  failed = failed;
  faults = faults;
  asked = asked;
  unasked = unasked;
  wire = wire;
}

pub supplies_took : {Data Settings : Type 0} (may : Data → Type 0) (v : ℕ) (d : Data) (old now : Moment Data Settings) → may d → v ≡ old.served.version + 1 → now.served ≡ record old.served { data_set = d; version = v }
    → old.supply.left ≡ with_first d now.supply.left → old.supply.faults ≤ now.supply.faults
    → (old.served.version ≡ HIGHEST_NUMBER → ⊥) → now.supply.calls ≡ counted old.supply.calls → now.wire ≡ old.wire → Supplies may (outcomes.Version v) old now
supplies_took {Data = Data} {Settings = Settings} may v d old now m next served left faults below calls wire = record {
  added = record { data_set = d; took = true } ∷ [];
  few = omega arith;
  left = left;
  may_be = (m, tt);
  version = λ w e. let same : v ≡ w = cc in (d, (refl, sym same ∙ next, served ∙ ap (λ (x : ℕ). record old.served { data_set = d; version = x }) same));
  none = λ n. absurd (n v refl);
  failed = λ e. absurd cc;
  faults = faults;
  asked = λ n. calls;
  unasked = λ e. absurd (below e);
  wire = wire;
}

-- a version that is not the last one
pub not_last : (n m : ℕ) → n ≡ m → (n ≡ HIGHEST_NUMBER → ⊥) → m ≡ HIGHEST_NUMBER → ⊥
not_last n m e no_most last = no_most (e ∙ last)

less_or : (n m : ℕ) → n ≤ m → (n < m) ⊎ (n ≡ m)
less_or n m h = grind arith

pub below_most : (n m : ℕ) → n ≤ HIGHEST_NUMBER → n ≡ m → (n ≡ HIGHEST_NUMBER → ⊥) → m < HIGHEST_NUMBER
below_most n m h e no_most = elim (less_or n HIGHEST_NUMBER h) [
  | inl l ↦ subst (λ (x : ℕ). x < HIGHEST_NUMBER) e l
  | inr most ↦ absurd (no_most most)
]

module _ {C Data Settings : Type 0} where
  -- a talk after the server took one more data set, which a link asked for
  pub talk_took : (kind : Kind C Data Settings) → Grows kind → (since : Moment Data Settings) (history : List Data) (owner : ℕ → ℕ) (d : Data) (old now : Moment Data Settings) (k j : ℕ) (talk : Talk C)
      → now.served ≡ record old.served { data_set = d; version = old.served.version + 1 } → old.supply.faults ≤ now.supply.faults → now.wire ≡ old.wire
      → IsTalk kind since history owner old k talk
      → IsTalk kind since (history ++ d ∷ []) (updated owner (old.served.version + 1) j) now k talk
  talk_took kind grows since history owner d old now k j talk served faults wire h =
      let config : now.served.config ≡ old.served.config = ap (λ (s : Serving Data Settings). s.config) served in
      let version : now.served.version ≡ old.served.version + 1 = ap (λ (s : Serving Data Settings). s.version) served in
      record {
        answers = subst (λ (c : Settings). kind.Answers (history ++ d ∷ []) c talk.fed talk.taken talk.marks talk.connection) (sym config) (grows history (d ∷ []) old.served.config talk.fed talk.taken talk.marks talk.connection h.answers);
        within = h.within;
        sent_is = λ bytes b. h.sent_is bytes (ap (λ (w : WireState). (w.links k).sent) (sym wire) ∙ b);
        received_is = λ bytes b. h.received_is bytes (ap (λ (w : WireState). (w.links k).received) (sym wire) ∙ b);
        excused = all_so _ _ (λ (m : Mark). excused_later since.supply.faults old.supply.faults now.supply.faults faults m) talk.marks h.excused;
        level = h.level;
        numbers = subst (λ (c : Settings). AllByRecursion (IsNumber (updated owner (old.served.version + 1) j) k since.served.version now.served.version) (kind.reloads c talk.fed talk.marks)) (sym config)
            (subst (λ (n : ℕ). AllByRecursion (IsNumber (updated owner (old.served.version + 1) j) k since.served.version n) (kind.reloads old.served.config talk.fed talk.marks)) (sym version)
            (all_so _ _ (λ (n : ℕ). number_later owner k j since.served.version old.served.version n) (kind.reloads old.served.config talk.fed talk.marks) h.numbers));
        rising = subst (λ (c : Settings). IsRising (kind.reloads c talk.fed talk.marks)) (sym config) h.rising;
      }

  -- the reload request of a link was answered, and the heads behind it
  pub talk_answered : (kind : Kind C Data Settings) (since : Moment Data Settings) (history : List Data) (owner : ℕ → ℕ) (now : Moment Data Settings) (k : ℕ) (outcome : Reloaded) (old new : C) (fed taken : List ℕ) (marks : List Mark)
      → IsHistory history now.served → since.served.version ≤ now.served.version → (r : Reloads kind now.served outcome old new)
      → IsExcused since.supply.faults now.supply.faults (mark_of now.served.version outcome)
      → AllByRecursion (IsNumber owner k since.served.version now.served.version) (numbers_of outcome)
      → IsRising (kind.reloads now.served.config fed marks ++ numbers_of outcome)
      → IsTalk kind since history owner now k (plain fed taken marks old)
      → (talk : Talk C) × (IsTalk kind since history owner now k talk × GoesOn now.served.version (plain fed taken marks old) talk
      × (talk.connection ≡ new) × (talk.over ≡ 0) × (talk.unfed ≡ []))
  talk_answered kind since history owner now k outcome old new fed taken marks is_history up r mark numbers rising h =
      let reads = r.reads history fed taken marks is_history h.answers in
      let first = mark_of now.served.version outcome in (
        plain (fed ++ []) taken (marks ++ (first ∷ [] ++ reads.later)) new,
        (
          record {
            answers = reads.answers;
            within = omega arith;
            sent_is = h.sent_is;
            received_is = holds_by _ _ _ (sym (append-nil (fed ++ []))) h.received_is;
            excused = all_append _ marks (first ∷ [] ++ reads.later) h.excused (mark, all_so _ _ (λ (m : Mark). served_excused since.supply.faults now.supply.faults now.served.version m) reads.later reads.served);
            level = all_append _ marks (first ∷ [] ++ reads.later) h.level
                (level_of since.served.version now.served.version outcome up, all_so _ _ (λ (m : Mark). served_level since.served.version now.served.version m up) reads.later reads.served);
            numbers = subst (λ (ns : List ℕ). AllByRecursion (IsNumber owner k since.served.version now.served.version) ns) (sym reads.numbers) (all_append _ (kind.reloads now.served.config fed marks) (numbers_of outcome) h.numbers numbers);
            rising = subst (λ (ns : List ℕ). IsRising ns) (sym reads.numbers) rising;
          },
          record {
            later = first ∷ [] ++ reads.later;
            marks = refl;
            not_below = (level_of now.served.version now.served.version outcome (omega arith), all_so _ _ (λ (m : Mark). served_level now.served.version now.served.version m (omega arith)) reads.later reads.served);
            piece = [];
            fed = refl;
            part = [];
            taken = sym (append-nil taken);
          },
          refl,
          refl,
          refl,
        ),
      )
