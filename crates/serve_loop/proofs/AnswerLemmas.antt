-- A reload that was answered keeps the relation.
use Rattle.std.proofs.Common.{ℕ, ◌≡◌, ◌+◌, ◌<◌, ◌≤◌, ◌⊎◌, inl, inr, ◌++◌, List, [], ◌∷◌, Option, Some, Bool, true, false, refl, sym, ◌∙◌, ap, subst, arith, append-nil}
use Rattle.std.specs.Prelude.{Result, Ok, Err, OnOk, is_ok, ⊤}
use Rattle.std.specs.List.{AllByRecursion}
use Rattle.list_laws.proofs.Each.{all_so}
use Rattle.tpf_base.specs.Marks.{Mark, version_at}
use Rattle.tpf_base.specs.Causes.{Rose}
use Rattle.tpf_base.specs.Links.{WireState}
use Rattle.tpf_base.proofs.SendingLemmas.{only_same}
use Rattle.tpf_base.specs.declared.limits.TheConstants.{HIGHEST_NUMBER}
use Rattle.connections.specs.Versions.{Serving, SupplyState}
use Rattle.connections.specs.Kinds.{Kind, Grows, Reloads, Fills, mark_of, numbers_of}
use Rattle.connections.specs.declared.reloaded.Reloaded.{Reloaded}
use Rattle.connections.specs.declared.reloaded.Reloaded.TheVariants as outcomes
use Rattle.serve_loop.specs.declared.live.Live.{Live}
use Rattle.serve_loop.specs.Traffic.{Talk, Given, Traffic, Moment, took, with_given, updated, moment}
use Rattle.serve_loop.specs.Relates.{IsTalk, IsExcused, IsNumber, IsRising, Relates}
use Rattle.serve_loop.specs.Steps.{Supplies, Keeps, Prepares, GoesOn, GoesOnAt}
use Rattle.serve_loop.proofs.TalkLemmas.{plain, on_plain, goes_nowhere, up_since}
use Rattle.serve_loop.proofs.SentenceLemmas.{some_same}
use Rattle.serve_loop.proofs.RelatesLemmas.{here, stays_live}
use Rattle.serve_loop.proofs.StepLemmas.{goes_on}
use Rattle.serve_loop.proofs.ReloadLemmas.{talk_answered, rising_last}
use Rattle.serve_loop.proofs.PrepareLemmas.{relates_took, relates_none}
use Rattle.serve_loop.proofs.EndsLemmas.{ends_none}

excused_now : (since faults faults' version : ℕ) → since ≤ faults → Rose faults faults' ⊎ (version ≡ HIGHEST_NUMBER) → Rose since faults' ⊎ (version ≡ HIGHEST_NUMBER)
excused_now since faults faults' version h e = elim e [ inl rose ↦ inl (omega (arith, h, rose)) | inr most ↦ inr most ]

pub on_ok : {E : Type 0} (r : Result ⊤ E) (P : Type 0) → OnOk r P → is_ok r ≡ true → P
on_ok (Ok x) P h e = h
on_ok (Err x) P h e = absurd cc

pub supplies_up : {Data Settings : Type 0} (may : Data → Type 0) (outcome : Reloaded) (old now : Moment Data Settings) → Supplies may outcome old now → old.served.version ≤ now.served.version
supplies_up {Data = Data} {Settings = Settings} may (outcomes.Version v) old now s = let x = s.version v refl in omega (arith, ap (λ (y : Serving Data Settings). y.version) x.1.2, x.1.1)
supplies_up {Data = Data} {Settings = Settings} may outcomes.Failed old now s = let n = s.none (λ v e. cc) in omega (arith, ap (λ (y : Serving Data Settings). y.version) n.1)
supplies_up {Data = Data} {Settings = Settings} may outcomes.OutOfMemory old now s = let n = s.none (λ v e. cc) in omega (arith, ap (λ (y : Serving Data Settings). y.version) n.1)

module _ {C : Type 0} where
  goes_lower : (low high : ℕ) (x y : Talk C) → low ≤ high → GoesOn high x y → GoesOn low x y
  goes_lower low high x y h g = record {
    later = g.later;
    marks = g.marks;
    not_below = all_so _ _ (λ (m : Mark) (p : high ≤ version_at m). omega (arith, h, p)) g.later g.not_below;
    piece = g.piece;
    fed = g.fed;
    part = g.part;
    taken = g.taken;
  }

module _ {C Data Settings : Type 0} where
  -- what was found of the link's talk after the answer
  abbrev pub Answered : Kind C Data Settings → Moment Data Settings → List Data → (ℕ → ℕ) → Moment Data Settings → ℕ → C → Talk C → Type 0
  Answered kind since history owner now k new old = (talk : Talk C) × (IsTalk kind since history owner now k talk × GoesOn now.served.version old talk × (talk.connection ≡ new) × (talk.over ≡ 0) × (talk.unfed ≡ []))

  -- the relation with the talk after the answer
  keeps : (kind : Kind C Data Settings) (may : Data → Type 0) (first : List Data) (since : Moment Data Settings) (t u : Traffic C Data) (at : ℕ → Option (Live C)) (len : ℕ) (served served' : Serving Data Settings) (supply supply' : SupplyState Data) (w : WireState)
      (key : ℕ) (l l' : Live C) (old : Talk C) → Relates kind may first since u at len (moment served' supply' w) → at key ≡ Some l → l'.link ≡ l.link → (w.links l.link).is_open ≡ true
      → served.version ≤ served'.version → u.talks ≡ t.talks → u.ordered ≡ t.ordered → u.broken ≡ t.broken → u.starved ≡ t.starved → t.talks l.link ≡ Some old
      → Answered kind since u.history u.owner (moment served' supply' w) l.link l'.connection old
      → Keeps kind may first since t at len key l' (moment served supply w) (moment served' supply' w)
  keeps kind may first since t u at len served served' supply supply' w key l l' old r found link is_open up talks ordered broken starved old_is a = record {
    traffic = record u { talks = updated u.talks l.link (Some a.0) };
    relates = stays_live kind may first since u at len served' supply' w w key l l' a.0 r found link (only_same l.link w) is_open a.1.0 a.1.2 a.1.3 a.1.4;
    ends = ends_none t (record u { talks = updated u.talks l.link (Some a.0) }) w.faults w.faults ordered broken starved (omega arith);
    goes_on = λ k. subst (λ (f : ℕ → Option (Talk C)). GoesOnAt served.version (t.talks k) (updated f l.link (Some a.0) k)) (sym talks)
        (goes_on served.version t.talks l.link old a.0 old_is (goes_lower served.version served'.version old a.0 up a.1.1) k);
  }

  -- the outcome was a version
  pub answered_version : (kind : Kind C Data Settings) → Grows kind → (may : Data → Type 0) (first : List Data) (since : Moment Data Settings) (t : Traffic C Data) (at : ℕ → Option (Live C)) (len : ℕ) (served served' : Serving Data Settings) (supply supply' : SupplyState Data) (w : WireState)
      (key v : ℕ) (l l' : Live C) → Relates kind may first since t at len (moment served supply w) → at key ≡ Some l → l'.link ≡ l.link
      → Supplies may (outcomes.Version v) (moment served supply w) (moment served' supply' w)
      → Reloads kind served' (outcomes.Version v) l.connection l'.connection
      → Keeps kind may first since t at len key l' (moment served supply w) (moment served' supply' w)
  answered_version kind grows may first since t at len served served' supply supply' w key v l l' r found link s reloads =
      let x = s.version v refl in
      let d = x.0 in
      let next : served' ≡ record served { data_set = d; version = served.version + 1 } = x.1.2 ∙ ap (λ (n : ℕ). record served { data_set = d; version = n }) x.1.1 in
      let version : served'.version ≡ served.version + 1 = ap (λ (y : Serving Data Settings). y.version) next in
      let count = r.versions.count in
      let u = relates_took kind grows may first since t at len served served' supply supply' w l.link d s.added r x.1.0 next s.left s.may_be s.faults in
      let old = r.lives key l found in
      let before = r.talks l.link old.later old.given in
      let after = u.talks l.link old.later old.given in
      let history = t.history ++ d ∷ [] in
      let owner = updated t.owner (served.version + 1) l.link in
      let b = subst (λ (y : Talk C). IsTalk kind since t.history t.owner (moment served supply w) l.link y) (some_same (t.talks l.link) before.talk old.talk before.talk_is old.talk_is) before.is in
      let a = subst (λ (y : Talk C). IsTalk kind since history owner (moment served' supply' w) l.link y) (some_same (t.talks l.link) after.talk old.talk after.talk_is old.talk_is) after.is in
      let config : served'.config ≡ served.config = ap (λ (y : Serving Data Settings). y.config) next in
      let one : IsNumber owner l.link since.served.version served'.version v = record {
        mine = here t.owner (served.version + 1) l.link v x.1.1;
        above = let e = x.1.1 in omega (arith, e, count);
        within = let e = x.1.1 in omega (arith, e, version);
      } in
      let later_is : since.served.version ≤ served'.version = omega (arith, version, count) in
      let below : AllByRecursion (λ n. n < v) (kind.reloads served'.config old.talk.fed old.talk.marks) =
      subst (λ (c : Settings). AllByRecursion (λ n. n < v) (kind.reloads c old.talk.fed old.talk.marks)) (sym config)
      (all_so _ _ (λ (n : ℕ) (h : IsNumber t.owner l.link since.served.version served.version n). let i = h.within in let e = x.1.1 in omega (arith, i, e)) (kind.reloads served.config old.talk.fed old.talk.marks) b.numbers) in
      let answer = on_plain
      (λ (y : Talk C). IsTalk kind since history owner (moment served' supply' w) l.link y × AllByRecursion (λ n. n < v) (kind.reloads served'.config y.fed y.marks))
      (λ (y : Talk C). Answered kind since history owner (moment served' supply' w) l.link l'.connection y)
      old.talk l.connection old.connection old.over old.unfed
      (λ fed taken marks p. talk_answered kind since history owner (moment served' supply' w) l.link (outcomes.Version v) l.connection l'.connection fed taken marks u.versions.serves later_is reloads tt (one, tt) (rising_last _ v p.0.rising p.1) p.0)
      (a, below) in
      keeps kind may first since t (record t { history = history; given = t.given ++ s.added; owner = owner }) at len served served' supply supply' w key l l' old.talk u found link old.is_open
      (omega (arith, version)) refl refl refl refl old.talk_is answer

  -- the outcome was no version: the server is as it was
  answered_same : (kind : Kind C Data Settings) (may : Data → Type 0) (first : List Data) (since : Moment Data Settings) (t : Traffic C Data) (at : ℕ → Option (Live C)) (len : ℕ) (served : Serving Data Settings) (supply supply' : SupplyState Data) (w : WireState)
      (key : ℕ) (l l' : Live C) (outcome : Reloaded) (added : List (Given Data)) → Relates kind may first since t at len (moment served supply w) → at key ≡ Some l → l'.link ≡ l.link
      → took added ≡ [] → supply.left ≡ with_given added supply'.left → supply.faults ≤ supply'.faults → IsExcused since.supply.faults supply'.faults (mark_of served.version outcome) → numbers_of outcome ≡ []
      → Reloads kind served outcome l.connection l'.connection
      → Keeps kind may first since t at len key l' (moment served supply w) (moment served supply' w)
  answered_same kind may first since t at len served supply supply' w key l l' outcome added r found link none told later excused nothing reloads =
      let u = relates_none kind may first since t at len served supply supply' w added r none told later in
      let old = r.lives key l found in
      let after = u.talks l.link old.later old.given in
      let a = subst (λ (y : Talk C). IsTalk kind since t.history t.owner (moment served supply' w) l.link y) (some_same (t.talks l.link) after.talk old.talk after.talk_is old.talk_is) after.is in
      let answer = on_plain
      (λ (y : Talk C). IsTalk kind since t.history t.owner (moment served supply' w) l.link y)
      (λ (y : Talk C). Answered kind since t.history t.owner (moment served supply' w) l.link l'.connection y)
      old.talk l.connection old.connection old.over old.unfed
      (λ fed taken marks p. talk_answered kind since t.history t.owner (moment served supply' w) l.link outcome l.connection l'.connection fed taken marks u.versions.serves (up_since may first since t.history (t.given ++ added) (moment served supply' w) u.versions) reloads excused
      (subst (λ (ns : List ℕ). AllByRecursion (IsNumber t.owner l.link since.served.version served.version) ns) (sym nothing) tt)
      (subst (λ (ns : List ℕ). IsRising (kind.reloads served.config fed marks ++ ns)) (sym nothing) (subst (λ (ns : List ℕ). IsRising ns) (sym (append-nil _)) p.rising)) p)
      a in
      keeps kind may first since t (record t { given = t.given ++ added }) at len served served supply supply' w key l l' old.talk u found link old.is_open
      (omega arith) refl refl refl refl old.talk_is answer

  -- whatever the outcome
  pub answered : (kind : Kind C Data Settings) → Grows kind → (may : Data → Type 0) (first : List Data) (since : Moment Data Settings) (t : Traffic C Data) (at : ℕ → Option (Live C)) (len : ℕ) (served served' : Serving Data Settings) (supply supply' : SupplyState Data) (w : WireState)
      (key : ℕ) (l l' : Live C) (outcome : Reloaded) → Relates kind may first since t at len (moment served supply w) → at key ≡ Some l → l'.link ≡ l.link
      → Supplies may outcome (moment served supply w) (moment served' supply' w)
      → Reloads kind served' outcome l.connection l'.connection
      → Keeps kind may first since t at len key l' (moment served supply w) (moment served' supply' w)
  answered kind grows may first since t at len served served' supply supply' w key l l' (outcomes.Version v) r found link s reloads =
      answered_version kind grows may first since t at len served served' supply supply' w key v l l' r found link s reloads
  answered kind grows may first since t at len served served' supply supply' w key l l' outcomes.Failed r found link s reloads =
      let n = s.none (λ v e. cc) in
      subst (λ (y : Serving Data Settings). Keeps kind may first since t at len key l' (moment served supply w) (moment y supply' w)) (sym n.1)
      (answered_same kind may first since t at len served supply supply' w key l l' outcomes.Failed s.added r found link n.0 s.left s.faults
      (excused_now since.supply.faults supply.faults supply'.faults served.version r.versions.faults (s.failed refl).1) refl
      (subst (λ (y : Serving Data Settings). Reloads kind y outcomes.Failed l.connection l'.connection) n.1 reloads))
  answered kind grows may first since t at len served served' supply supply' w key l l' outcomes.OutOfMemory r found link s reloads =
      let n = s.none (λ v e. cc) in
      subst (λ (y : Serving Data Settings). Keeps kind may first since t at len key l' (moment served supply w) (moment y supply' w)) (sym n.1)
      (answered_same kind may first since t at len served supply supply' w key l l' outcomes.OutOfMemory s.added r found link n.0 s.left s.faults tt refl
      (subst (λ (y : Serving Data Settings). Reloads kind y outcomes.OutOfMemory l.connection l'.connection) n.1 reloads))

  unanswered_same : (kind : Kind C Data Settings) (may : Data → Type 0) (first : List Data) (since : Moment Data Settings) (t : Traffic C Data) (at : ℕ → Option (Live C)) (len : ℕ) (served served' : Serving Data Settings) (supply supply' : SupplyState Data) (w : WireState)
      (key : ℕ) (l : Live C) (added : List (Given Data)) → Relates kind may first since t at len (moment served supply w) → at key ≡ Some l
      → took added ≡ [] → served' ≡ served → supply.left ≡ with_given added supply'.left → supply.faults ≤ supply'.faults
      → Keeps kind may first since t at len key l (moment served supply w) (moment served' supply' w)
  unanswered_same kind may first since t at len served served' supply supply' w key l added r found none same told later =
      let u = relates_none kind may first since t at len served supply supply' w added r none told later in
      let old = r.lives key l found in
      let after = u.talks l.link old.later old.given in
      let a = subst (λ (y : Talk C). IsTalk kind since t.history t.owner (moment served supply' w) l.link y) (some_same (t.talks l.link) after.talk old.talk after.talk_is old.talk_is) after.is in
      subst (λ (y : Serving Data Settings). Keeps kind may first since t at len key l (moment served supply w) (moment y supply' w)) (sym same)
      (keeps kind may first since t (record t { given = t.given ++ added }) at len served served supply supply' w key l l old.talk u found refl old.is_open
      (omega arith) refl refl refl refl old.talk_is (old.talk, (a, goes_nowhere served.version old.talk, old.connection, old.over, old.unfed)))

  -- memory was wanting for the answer: the connection is as it was before it
  pub unanswered : (kind : Kind C Data Settings) → Grows kind → (may : Data → Type 0) (first : List Data) (since : Moment Data Settings) (t : Traffic C Data) (at : ℕ → Option (Live C)) (len : ℕ) (served served' : Serving Data Settings) (supply supply' : SupplyState Data) (w : WireState)
      (key : ℕ) (l : Live C) (outcome : Reloaded) → Relates kind may first since t at len (moment served supply w) → at key ≡ Some l
      → Supplies may outcome (moment served supply w) (moment served' supply' w)
      → Keeps kind may first since t at len key l (moment served supply w) (moment served' supply' w)
  unanswered kind grows may first since t at len served served' supply supply' w key l (outcomes.Version v) r found s =
      let x = s.version v refl in
      let next : served' ≡ record served { data_set = x.0; version = served.version + 1 } = x.1.2 ∙ ap (λ (n : ℕ). record served { data_set = x.0; version = n }) x.1.1 in
      let version : served'.version ≡ served.version + 1 = ap (λ (y : Serving Data Settings). y.version) next in
      let u = relates_took kind grows may first since t at len served served' supply supply' w l.link x.0 s.added r x.1.0 next s.left s.may_be s.faults in
      let old = r.lives key l found in
      let after = u.talks l.link old.later old.given in
      let a = subst (λ (y : Talk C). IsTalk kind since (t.history ++ x.0 ∷ []) (updated t.owner (served.version + 1) l.link) (moment served' supply' w) l.link y) (some_same (t.talks l.link) after.talk old.talk after.talk_is old.talk_is) after.is in
      keeps kind may first since t (record t { history = t.history ++ x.0 ∷ []; given = t.given ++ s.added; owner = updated t.owner (served.version + 1) l.link }) at len served served' supply supply' w key l l old.talk u found refl old.is_open
      (omega (arith, version)) refl refl refl refl old.talk_is (old.talk, (a, goes_nowhere served'.version old.talk, old.connection, old.over, old.unfed))
  unanswered kind grows may first since t at len served served' supply supply' w key l outcomes.Failed r found s = let n = s.none (λ v e. cc) in
      unanswered_same kind may first since t at len served served' supply supply' w key l s.added r found n.0 n.1 s.left s.faults
  unanswered kind grows may first since t at len served served' supply supply' w key l outcomes.OutOfMemory r found s = let n = s.none (λ v e. cc) in
      unanswered_same kind may first since t at len served served' supply supply' w key l s.added r found n.0 n.1 s.left s.faults

  -- the answer as a whole
  pub prepares : (kind : Kind C Data Settings) → Grows kind → (may : Data → Type 0) (served served' : Serving Data Settings) (supply supply' : SupplyState Data) (w : WireState)
      (l l' : Live C) (outcome : Reloaded) (ok : Bool) → l'.link ≡ l.link
      → Supplies may outcome (moment served supply w) (moment served' supply' w)
      → (ok ≡ true → Reloads kind served' outcome l.connection l'.connection)
      → Prepares kind may l l' ok (moment served supply w) (moment served' supply' w)
  prepares kind grows may served served' supply supply' w l l' outcome true link s reloads = record {
    link = link;
    live = l';
    link_is = link;
    live_is = λ e. refl;
    up = supplies_up may outcome (moment served supply w) (moment served' supply' w) s;
    keeps = λ first since t at len key found r. answered kind grows may first since t at len served served' supply supply' w key l l' outcome r found link s (reloads refl);
  }
  prepares kind grows may served served' supply supply' w l l' outcome false link s reloads = record {
    link = link;
    live = l;
    link_is = refl;
    live_is = λ e. absurd cc;
    up = supplies_up may outcome (moment served supply w) (moment served' supply' w) s;
    keeps = λ first since t at len key found r. unanswered kind grows may first since t at len served served' supply supply' w key l outcome r found s;
  }

  -- bytes were made
  pub filled : (kind : Kind C Data Settings) (may : Data → Type 0) (first : List Data) (since : Moment Data Settings) (t : Traffic C Data) (at : ℕ → Option (Live C)) (len : ℕ) (served : Serving Data Settings) (supply : SupplyState Data) (w : WireState)
      (key : ℕ) (l l' : Live C) → Relates kind may first since t at len (moment served supply w) → at key ≡ Some l → l'.link ≡ l.link
      → Fills kind served l.connection l'.connection
      → Keeps kind may first since t at len key l' (moment served supply w) (moment served supply w)
  filled kind may first since t at len served supply w key l l' r found link fills =
      let old = r.lives key l found in
      let here = r.talks l.link old.later old.given in
      let a = subst (λ (y : Talk C). IsTalk kind since t.history t.owner (moment served supply w) l.link y) (some_same (t.talks l.link) here.talk old.talk here.talk_is old.talk_is) here.is in
      let answer = on_plain
      (λ (y : Talk C). IsTalk kind since t.history t.owner (moment served supply w) l.link y)
      (λ (y : Talk C). Answered kind since t.history t.owner (moment served supply w) l.link l'.connection y)
      old.talk l.connection old.connection old.over old.unfed
      (λ fed taken marks p. (
        plain fed taken marks l'.connection,
        (
          record {
            answers = fills.answers t.history fed taken marks p.answers;
            within = omega arith;
            sent_is = p.sent_is;
            received_is = p.received_is;
            excused = p.excused;
            level = p.level;
            numbers = p.numbers;
            rising = p.rising;
          },
          record { later = []; marks = sym (append-nil _); not_below = tt; piece = []; fed = sym (append-nil _); part = []; taken = sym (append-nil _) },
          refl,
          refl,
          refl,
        ),
      ))
      a in
      keeps kind may first since t t at len served served supply supply w key l l' old.talk r found link old.is_open (omega arith) refl refl refl refl old.talk_is answer

  -- the connection is as it was
  pub kept : (kind : Kind C Data Settings) (may : Data → Type 0) (first : List Data) (since : Moment Data Settings) (t : Traffic C Data) (at : ℕ → Option (Live C)) (len : ℕ) (served : Serving Data Settings) (supply : SupplyState Data) (w : WireState)
      (key : ℕ) (l : Live C) → Relates kind may first since t at len (moment served supply w) → at key ≡ Some l
      → Keeps kind may first since t at len key l (moment served supply w) (moment served supply w)
  kept kind may first since t at len served supply w key l r found =
      let old = r.lives key l found in
      let here = r.talks l.link old.later old.given in
      let a = subst (λ (y : Talk C). IsTalk kind since t.history t.owner (moment served supply w) l.link y) (some_same (t.talks l.link) here.talk old.talk here.talk_is old.talk_is) here.is in
      keeps kind may first since t t at len served served supply supply w key l l old.talk r found refl old.is_open (omega arith) refl refl refl refl old.talk_is
      (old.talk, (a, goes_nowhere served.version old.talk, old.connection, old.over, old.unfed))

  -- making bytes as a whole
  pub prepares_filled : (kind : Kind C Data Settings) (may : Data → Type 0) (served : Serving Data Settings) (supply : SupplyState Data) (w : WireState)
      (l l' : Live C) (ok : Bool) → l'.link ≡ l.link → (ok ≡ true → Fills kind served l.connection l'.connection)
      → Prepares kind may l l' ok (moment served supply w) (moment served supply w)
  prepares_filled kind may served supply w l l' true link fills = record {
    link = link;
    live = l';
    link_is = link;
    live_is = λ e. refl;
    up = omega arith;
    keeps = λ first since t at len key found r. filled kind may first since t at len served supply w key l l' r found link (fills refl);
  }
  prepares_filled kind may served supply w l l' false link fills = record {
    link = link;
    live = l;
    link_is = refl;
    live_is = λ e. absurd cc;
    up = omega arith;
    keeps = λ first since t at len key found r. kept kind may first since t at len served supply w key l r found;
  }
