-- A step on a link is a step of the traffic; and a loop without connections begins with no traffic.
use Rattle.std.proofs.Common.{ℕ, ◌≡◌, ◌-◌, ◌<◌, ◌≤◌, inl, inr, List, [], ◌∷◌, Option, Some, None, true, refl, sym, ◌∙◌, ap, subst, arith, append-nil}
use Rattle.std.proofs.lemmas.Bool.{cases_eq}
use Rattle.tpf_base.specs.Causes.{Rose}
use Rattle.tpf_base.specs.Links.{WireState, Way}
use Rattle.tpf_base.specs.Calls.{OnlyOn}
use Rattle.connections.specs.Versions.{Serving, IsHistory, SupplyState}
use Rattle.connections.specs.Kinds.{Kind}
use Rattle.serve_loop.specs.declared.live.Live.{Live}
use Rattle.serve_loop.specs.declared.live.Stepped.{Stepped}
use Rattle.serve_loop.specs.declared.live.Stepped.TheVariants as stepped
use Rattle.serve_loop.specs.Traffic.{Talk, Traffic, Moment, updated, no_traffic, moment}
use Rattle.serve_loop.specs.Relates.{IsTalk, Relates}
use Rattle.serve_loop.specs.Calls.{HasCalled, left_by}
use Rattle.serve_loop.specs.Steps.{GoesOn, GoesOnAt, EndsBy, TalksTo, StepsLink, StepsTo}
use Rattle.serve_loop.proofs.TalkLemmas.{goes_nowhere, up_since}
use Rattle.serve_loop.proofs.SentenceLemmas.{some_same}
use Rattle.serve_loop.proofs.RelatesLemmas.{here, there, stays_live, ends_ordered, ends_broken, ends_starved}
use Rattle.serve_loop.proofs.EndsLemmas.{ends_none}

module _ {C : Type 0} where
  pub goes_same : (version : ℕ) (o : Option (Talk C)) → GoesOnAt version o o
  goes_same version None = tt
  goes_same version (Some talk) = goes_nowhere version talk

  pub goes_at : (version : ℕ) (o n : Option (Talk C)) (x y : Talk C) → o ≡ Some x → n ≡ Some y → GoesOn version x y → GoesOnAt version o n
  goes_at version o n x y e f h = subst (λ (p : Option (Talk C)). GoesOnAt version p n) (sym e) (subst (λ (q : Option (Talk C)). GoesOnAt version (Some x) q) (sym f) h)

  -- the talk of one link went on, and all others are as they were
  pub goes_on : (version : ℕ) (talks : ℕ → Option (Talk C)) (k : ℕ) (x y : Talk C) → talks k ≡ Some x → GoesOn version x y
      → (j : ℕ) → GoesOnAt version (talks j) (updated talks k (Some y) j)
  goes_on version talks k x y e h j = elim (cases_eq j k) [
    | inl p ↦ goes_at version (talks j) (updated talks k (Some y) j) x y (ap talks p ∙ e) (here talks k (Some y) j p) h
    | inr n ↦ subst (λ (q : Option (Talk C)). GoesOnAt version (talks j) q) (sym (there talks k (Some y) j n)) (goes_same version (talks j))
  ]

none_found : {C : Type 0} (at : ℕ → Option (Live C)) (key : ℕ) (l : Live C) → at key ≡ None → at key ≡ Some l → ⊥
none_found at key l n s = cc

-- one more at the front of the list
one_more : {C Data : Type 0} (t u : Traffic C Data) (k a b : ℕ) → u.ordered ≡ k ∷ t.ordered → u.broken ≡ t.broken → u.starved ≡ t.starved → a ≤ b → EndsBy t u 1 0 a b
one_more t u k a b o x s later = record {
  ordered = k ∷ [];
  broken = [];
  starved = [];
  ordered_is = o;
  broken_is = x;
  starved_is = s;
  count_is = refl;
  wanted_is = refl;
  rose = omega (arith, later);
}

one_broken : {C Data : Type 0} (t u : Traffic C Data) (k a b : ℕ) → u.ordered ≡ t.ordered → u.broken ≡ k ∷ t.broken → u.starved ≡ t.starved → Rose a b → EndsBy t u 1 0 a b
one_broken t u k a b o x s rose = record {
  ordered = [];
  broken = k ∷ [];
  starved = [];
  ordered_is = o;
  broken_is = x;
  starved_is = s;
  count_is = refl;
  wanted_is = refl;
  rose = rose;
}

one_starved : {C Data : Type 0} (t u : Traffic C Data) (k a b : ℕ) → u.ordered ≡ t.ordered → u.broken ≡ t.broken → u.starved ≡ k ∷ t.starved → a ≤ b → EndsBy t u 1 1 a b
one_starved t u k a b o x s later = record {
  ordered = [];
  broken = [];
  starved = k ∷ [];
  ordered_is = o;
  broken_is = x;
  starved_is = s;
  count_is = refl;
  wanted_is = refl;
  rose = omega (arith, later);
}

module _ {C Data Settings : Type 0} where
  -- by the answer
  steps_by : (kind : Kind C Data Settings) (may : Data → Type 0) (first : List Data) (since : Moment Data Settings) (t : Traffic C Data) (at : ℕ → Option (Live C)) (len : ℕ) (served : Serving Data Settings) (supply : SupplyState Data) (a b : WireState)
      (key : ℕ) (l l' : Live C) (answer : Stepped) (way : Way) (old : Talk C) → Relates kind may first since t at len (moment served supply a) → 0 < len → at key ≡ Some l → l'.link ≡ l.link → OnlyOn l.link a b
      → HasCalled answer l.link a b way → (left_by answer l' ≡ Some l' → (b.links l.link).is_open ≡ true)
      → t.talks l.link ≡ Some old → TalksTo kind since t.history t.owner l.link answer l'.connection old (moment served supply a) (moment served supply b)
      → StepsTo kind may first since t at len key answer l' (moment served supply a) (moment served supply b)
  steps_by kind may first since t at len served supply a b key l l' stepped.Moved way old r some found link only called is_open old_is s = record {
    traffic = record t { talks = updated t.talks l.link (Some s.talk') };
    left = len;
    len_is = omega arith;
    up = omega arith;
    ends = ends_none _ _ _ _ refl refl refl only.later;
    relates = stays_live kind may first since t at len served supply a b key l l' s.talk' r found link only (is_open refl) s.is s.end_.0 s.end_.1 s.end_.2;
    goes_on = goes_on served.version t.talks l.link old s.talk' old_is s.goes_on;
  }
  steps_by kind may first since t at len served supply a b key l l' stepped.Still way old r some found link only called is_open old_is s = record {
    traffic = record t { talks = updated t.talks l.link (Some s.talk') };
    left = len;
    len_is = omega arith;
    up = omega arith;
    ends = ends_none _ _ _ _ refl refl refl only.later;
    relates = stays_live kind may first since t at len served supply a b key l l' s.talk' r found link only (is_open refl) s.is s.end_.0 s.end_.1 s.end_.2;
    goes_on = goes_on served.version t.talks l.link old s.talk' old_is s.goes_on;
  }
  steps_by kind may first since t at len served supply a b key l l' stepped.Ended way old r some found link only called is_open old_is s = elim s.end_ [
    | inl e ↦ record {
      traffic = record t { talks = updated t.talks l.link (Some s.talk'); ordered = l.link ∷ t.ordered };
      left = len - 1;
      len_is = omega (arith, some);
      up = omega arith;
      ends = one_more _ _ l.link _ _ refl refl refl only.later;
      relates = ends_ordered kind may first since t at len (len - 1) served supply a b key l s.talk' r found only called.closed s.is (omega (arith, some)) e;
      goes_on = goes_on served.version t.talks l.link old s.talk' old_is s.goes_on;
    }
    | inr rose ↦ record {
      traffic = record t { talks = updated t.talks l.link (Some s.talk'); broken = l.link ∷ t.broken };
      left = len - 1;
      len_is = omega (arith, some);
      up = omega arith;
      ends = one_broken _ _ l.link _ _ refl refl refl rose;
      relates = ends_broken kind may first since t at len (len - 1) served supply a b key l s.talk' r found only called.closed s.is (omega (arith, some)) rose;
      goes_on = goes_on served.version t.talks l.link old s.talk' old_is s.goes_on;
    }
  ]
  steps_by kind may first since t at len served supply a b key l l' stepped.Starved way old r some found link only called is_open old_is s = record {
    traffic = record t { talks = updated t.talks l.link (Some s.talk'); starved = l.link ∷ t.starved };
    left = len - 1;
    len_is = omega (arith, some);
    up = omega arith;
    ends = one_starved _ _ l.link _ _ refl refl refl only.later;
    relates = ends_starved kind may first since t at len (len - 1) served supply a b key l s.talk' r found only called.closed s.is (omega (arith, some));
    goes_on = goes_on served.version t.talks l.link old s.talk' old_is s.goes_on;
  }

  -- a call on a link is a step of the traffic
  pub steps_to : (kind : Kind C Data Settings) (may : Data → Type 0) (first : List Data) (since : Moment Data Settings) (t : Traffic C Data) (at : ℕ → Option (Live C)) (len : ℕ) (served : Serving Data Settings) (supply : SupplyState Data) (a b : WireState)
      (key : ℕ) (l l' : Live C) (answer : Stepped) (way : Way) → Relates kind may first since t at len (moment served supply a) → 0 < len → at key ≡ Some l → l'.link ≡ l.link → OnlyOn l.link a b
      → HasCalled answer l.link a b way → (left_by answer l' ≡ Some l' → (b.links l.link).is_open ≡ true)
      → StepsLink kind l.link l.connection l'.connection answer (moment served supply a) (moment served supply b)
      → StepsTo kind may first since t at len key answer l' (moment served supply a) (moment served supply b)
  steps_to kind may first since t at len served supply a b key l l' answer way r some found link only called is_open s =
      let old = r.lives key l found in
      let talks = r.talks l.link old.later old.given in
      let is = subst (λ (x : Talk C). IsTalk kind since t.history t.owner (moment served supply a) l.link x) (some_same (t.talks l.link) talks.talk old.talk talks.talk_is old.talk_is) talks.is in
      steps_by kind may first since t at len served supply a b key l l' answer way old.talk r some found link only called is_open old.talk_is
      (s.talks since t.history t.owner old.talk r.versions.serves (up_since may first since t.history t.given (moment served supply a) r.versions) old.connection old.over old.unfed is)

  -- before a link was given, there is no traffic
  pub begins : (kind : Kind C Data Settings) (may : Data → Type 0) (first : List Data) (at : ℕ → Option (Live C)) (served : Serving Data Settings) (supply : SupplyState Data) (a : WireState)
      → IsHistory first served → ((key : ℕ) → at key ≡ None)
      → Relates kind may first (moment served supply a) (no_traffic first) at 0 (moment served supply a)
  begins kind may first at served supply a h none = record {
    versions = record { history_is = sym (append-nil first); serves = h; config = refl; count = omega arith; left = refl; may_be = tt; faults = omega arith };
    lives = λ key l e. absurd (none_found at key l (none key) e);
    alone = λ i j x y e f g. absurd (none_found at i x (none i) e);
    talks = λ k later given. absurd (omega (arith, later, given));
    unseen = λ k above. refl;
    owned = λ k later given is_open. absurd (omega (arith, later, given));
    older = λ k below. ((a.links k).woken, refl);
    count = omega arith;
    ends = record { ordered = tt; broken = tt; starved = tt; ordered_once = tt; broken_once = tt; starved_once = tt; faults = omega arith };
  }
