-- A step on one link leaves what the traffic says of all others.
use Rattle.std.proofs.Common.{ℕ, ◌≡◌, ◌≢◌, ◌+◌, ◌<◌, ◌≤◌, ◌==◌, ◌⊎◌, inl, inr, List, [], ◌∷◌, length, Option, Some, None, Bool, true, false, refl, sym, ◌∙◌, ap, subst, arith, if◌then◌else◌, eq-eqb}
use Rattle.std.proofs.lemmas.Bool.{eqb-true, cases_eq, cond-true}
use Rattle.list_laws.proofs.Each.{all_so}
use Rattle.list_laws.proofs.Tests.{not_both_ways}
use Rattle.tpf_base.specs.Causes.{Rose}
use Rattle.tpf_base.specs.Links.{Link, WireState}
use Rattle.tpf_base.specs.Calls.{OnlyOn}
use Rattle.tpf_base.proofs.SendingLemmas.{holds_same}
use Rattle.connections.specs.Versions.{Serving, SupplyState}
use Rattle.connections.specs.Kinds.{Kind}
use Rattle.serve_loop.specs.declared.live.Live.{Live}
use Rattle.serve_loop.specs.Traffic.{Talk, Given, Traffic, Moment, ended, updated, moment}
use Rattle.serve_loop.specs.Calls.{IsOwned, IsUntouched}
use Rattle.serve_loop.specs.Relates.{IsTalk, IsLive, IsOrdered, IsGone, Talks, Ends, Versions, Relates}
use Rattle.serve_loop.specs.Steps.{EndsInOrder}
use Rattle.serve_loop.proofs.TalkLemmas.{same_talk}
use Rattle.serve_loop.proofs.SentenceLemmas.{some_same}

if_else : {T : Type 0} (b : Bool) (x y : T) → (b ≡ true → ⊥) → (if b then x else y) ≡ y
if_else true x y h = absurd (h refl)
if_else false x y h = refl

pub here : {T : Type 0} (f : ℕ → T) (p : ℕ) (v : T) (k : ℕ) → k ≡ p → updated f p v k ≡ v
here f p v k e = cond-true (k == p) v (f k) (eq-eqb k p e)

pub there : {T : Type 0} (f : ℕ → T) (p : ℕ) (v : T) (k : ℕ) → k ≢ p → updated f p v k ≡ f k
there f p v k n = if_else (k == p) v (f k) (λ t. n (eqb-true k p t))

pub versions_on : {Data Settings : Type 0} (may : Data → Type 0) (first : List Data) (since : Moment Data Settings) (history : List Data) (given : List (Given Data)) (served : Serving Data Settings) (supply : SupplyState Data) (a b : WireState)
    → Versions may first since history given (moment served supply a) → Versions may first since history given (moment served supply b)
versions_on may first since history given served supply a b v = record {
  history_is = v.history_is;
  serves = v.serves;
  config = v.config;
  count = v.count;
  left = v.left;
  may_be = v.may_be;
  faults = v.faults;
}

pub gone_on : (since a b : WireState) (k : ℕ) → (a.links k).is_open ≡ true → OnlyOn k a b → (j : ℕ) → IsGone since a j → IsGone since b j
gone_on since a b k is_open only j h =
    let n : j ≢ k = λ e. not_both_ways (a.links j).is_open (ap (λ (x : ℕ). (a.links x).is_open) e ∙ is_open) h.closed in
    record { later = h.later; given = subst (λ (x : ℕ). j < x) (sym only.given) h.given; closed = ap (λ (l : Link). l.is_open) (only.others j n) ∙ h.closed }

pub none_some : {X : Type 0} (x : X) → None ≡ Some x → ⊥
none_some x e = cc

pub older_as : (x y z : Link) → z ≡ y → IsUntouched x y → IsUntouched x z
older_as x y z e h = subst (λ (l : Link). IsUntouched x l) (sym e) h

-- an end that is not listed yet
closed_apart : (wire : WireState) (k : ℕ) → (wire.links k).is_open ≡ true → (j : ℕ) → (wire.links j).is_open ≡ false → j ≢ k
closed_apart wire k is_open j closed = λ e. not_both_ways (wire.links j).is_open (ap (λ (x : ℕ). (wire.links x).is_open) e ∙ is_open) closed

module _ {C : Type 0} where
  pub at_cases : (at : ℕ → Option (Live C)) (key : ℕ) (o : Option (Live C)) (i : ℕ) (x : Live C) → updated at key o i ≡ Some x
      → ((i ≡ key) × (o ≡ Some x)) ⊎ ((i ≢ key) × (at i ≡ Some x))
  at_cases at key o i x h = elim (cases_eq i key) [
    | inl e ↦ inl (e, sym (here at key o i e) ∙ h)
    | inr n ↦ inr (n, sym (there at key o i n) ∙ h)
  ]

module _ {C Data Settings : Type 0} where
  -- closed links are other than an open one
  ordered_on : (kind : Kind C Data Settings) (since : Moment Data Settings) (talks : ℕ → Option (Talk C)) (a b : WireState) (k : ℕ) (o : Option (Talk C)) → (a.links k).is_open ≡ true → OnlyOn k a b
      → (j : ℕ) → IsOrdered kind since talks a j → IsOrdered kind since (updated talks k o) b j
  ordered_on kind since talks a b k o is_open only j h =
      let n : j ≢ k = λ e. not_both_ways (a.links j).is_open (ap (λ (x : ℕ). (a.links x).is_open) e ∙ is_open) h.closed in
      record {
        later = h.later;
        given = subst (λ (x : ℕ). j < x) (sym only.given) h.given;
        closed = ap (λ (l : Link). l.is_open) (only.others j n) ∙ h.closed;
        talk = h.talk;
        talk_is = there talks k o j n ∙ h.talk_is;
        over = h.over;
        unfed = h.unfed;
        pending = h.pending;
        owes = h.owes;
        wants = h.wants;
        end_ = elim h.end_ [ inl c ↦ inl c | inr e ↦ inr (holds_same (a.links j).ended (b.links j).ended true (ap (λ (l : Link). l.ended) (only.others j n)) e) ];
      }

  pub ends_on : (kind : Kind C Data Settings) (since : Moment Data Settings) (t : Traffic C Data) (a b : WireState) (k : ℕ) (o : Option (Talk C)) → (a.links k).is_open ≡ true → OnlyOn k a b
      → Ends kind since t a → Ends kind since (record t { talks = updated t.talks k o }) b
  ends_on kind since t a b k o is_open only e = record {
    ordered = all_so _ _ (λ (j : ℕ). ordered_on kind since t.talks a b k o is_open only j) t.ordered e.ordered;
    broken = all_so _ _ (λ (j : ℕ). gone_on since.wire a b k is_open only j) t.broken e.broken;
    starved = all_so _ _ (λ (j : ℕ). gone_on since.wire a b k is_open only j) t.starved e.starved;
    ordered_once = e.ordered_once;
    broken_once = e.broken_once;
    starved_once = e.starved_once;
    faults = let l = only.later in let f = e.faults in omega (arith, l, f);
  }

  -- the talks of all links after a step on one
  pub talks_on : (kind : Kind C Data Settings) (may : Data → Type 0) (first : List Data) (since : Moment Data Settings) (t : Traffic C Data) (at : ℕ → Option (Live C)) (len : ℕ) (served : Serving Data Settings) (supply : SupplyState Data) (a b : WireState)
      (k : ℕ) (talk : Talk C) → Relates kind may first since t at len (moment served supply a) → OnlyOn k a b
      → IsTalk kind since t.history t.owner (moment served supply b) k talk
      → (j : ℕ) → since.wire.given ≤ j → j < b.given → Talks kind since (record t { talks = updated t.talks k (Some talk) }) (moment served supply b) j
  talks_on kind may first since t at len served supply a b k talk r only is j later given = elim (cases_eq j k) [
    | inl e ↦ record { talk = talk; talk_is = here t.talks k (Some talk) j e; is = subst (λ (x : ℕ). IsTalk kind since t.history t.owner (moment served supply b) x talk) (sym e) is }
    | inr n ↦ let h = r.talks j later (subst (λ (x : ℕ). j < x) only.given given) in record {
      talk = h.talk;
      talk_is = there t.talks k (Some talk) j n ∙ h.talk_is;
      is = same_talk kind since t.history t.owner served supply a b j h.talk (ap (λ (l : Link). l.sent) (only.others j n)) (ap (λ (l : Link). l.received) (only.others j n)) h.is;
    }
  ]

  -- a live connection under another key is as it was
  lives_on : (kind : Kind C Data Settings) (may : Data → Type 0) (first : List Data) (since : Moment Data Settings) (t : Traffic C Data) (at : ℕ → Option (Live C)) (len : ℕ) (served : Serving Data Settings) (supply : SupplyState Data) (a b : WireState)
      (key : ℕ) (l : Live C) (o : Option (Talk C)) → Relates kind may first since t at len (moment served supply a) → at key ≡ Some l → OnlyOn l.link a b
      → (i : ℕ) (x : Live C) → i ≢ key → at i ≡ Some x → IsLive since (updated t.talks l.link o) b x
  lives_on kind may first since t at len served supply a b key l o r found only i x n h =
      let old = r.lives i x h in
      let other : x.link ≢ l.link = λ e. n (r.alone i key x l h found e) in
      record {
        later = old.later;
        given = subst (λ (y : ℕ). x.link < y) (sym only.given) old.given;
        is_open = ap (λ (y : Link). y.is_open) (only.others x.link other) ∙ old.is_open;
        talk = old.talk;
        talk_is = there t.talks l.link o x.link other ∙ old.talk_is;
        connection = old.connection;
        over = old.over;
        unfed = old.unfed;
      }

  -- an open link other than this one is owned as it was
  owned_on : (kind : Kind C Data Settings) (may : Data → Type 0) (first : List Data) (since : Moment Data Settings) (t : Traffic C Data) (at : ℕ → Option (Live C)) (len : ℕ) (served : Serving Data Settings) (supply : SupplyState Data) (a b : WireState)
      (key : ℕ) (l : Live C) (o : Option (Live C)) → Relates kind may first since t at len (moment served supply a) → at key ≡ Some l → OnlyOn l.link a b
      → (k : ℕ) → k ≢ l.link → since.wire.given ≤ k → k < b.given → (b.links k).is_open ≡ true → IsOwned (updated at key o) k
  owned_on kind may first since t at len served supply a b key l o r found only k n later given is_open =
      let w = r.owned k later (subst (λ (y : ℕ). k < y) only.given given) (ap (λ (y : Link). y.is_open) (sym (only.others k n)) ∙ is_open) in
      let other : w.key ≢ key = λ e. n (sym w.link ∙ ap (λ (y : Live C). y.link) (some_same (at key) w.live l (ap at (sym e) ∙ w.found) found)) in
      record { key = w.key; live = w.live; found = there at key o w.key other ∙ w.found; link = w.link }

  -- the connection stays: its talk goes on
  pub stays_live : (kind : Kind C Data Settings) (may : Data → Type 0) (first : List Data) (since : Moment Data Settings) (t : Traffic C Data) (at : ℕ → Option (Live C)) (len : ℕ) (served : Serving Data Settings) (supply : SupplyState Data) (a b : WireState)
      (key : ℕ) (l l' : Live C) (talk : Talk C) → Relates kind may first since t at len (moment served supply a) → at key ≡ Some l → l'.link ≡ l.link → OnlyOn l.link a b → (b.links l.link).is_open ≡ true
      → IsTalk kind since t.history t.owner (moment served supply b) l.link talk → talk.connection ≡ l'.connection → talk.over ≡ 0 → talk.unfed ≡ []
      → Relates kind may first since (record t { talks = updated t.talks l.link (Some talk) }) (updated at key (Some l')) len (moment served supply b)
  stays_live kind may first since t at len served supply a b key l l' talk r found link only is_open is connection over unfed =
      let old = r.lives key l found in
      let mine : (i : ℕ) (x : Live C) → updated at key (Some l') i ≡ Some x → (y : Live C) × ((at i ≡ Some y) × (y.link ≡ x.link)) =
      λ i x h. elim (at_cases at key (Some l') i x h) [
        | inl p ↦ (l, (ap at p.0 ∙ found, sym link ∙ ap (λ (y : Live C). y.link) (some_same (Some l') l' x refl p.1)))
        | inr q ↦ (x, (q.1, refl))
      ] in
      record {
        versions = versions_on may first since t.history t.given served supply a b r.versions;
        lives = λ i x h. elim (at_cases at key (Some l') i x h) [
          | inl p ↦ subst (λ (y : Live C). IsLive since (updated t.talks l.link (Some talk)) b y) (some_same (Some l') l' x refl p.1) (record {
            later = subst (λ (y : ℕ). since.wire.given ≤ y) (sym link) old.later;
            given = subst (λ (y : ℕ). y < b.given) (sym link) (subst (λ (y : ℕ). l.link < y) (sym only.given) old.given);
            is_open = ap (λ (y : ℕ). (b.links y).is_open) link ∙ is_open;
            talk = talk;
            talk_is = here t.talks l.link (Some talk) l'.link link;
            connection = connection;
            over = over;
            unfed = unfed;
          })
          | inr q ↦ lives_on kind may first since t at len served supply a b key l (Some talk) r found only i x q.0 q.1
        ];
        alone = λ i j x y h g e. let p = mine i x h in let q = mine j y g in r.alone i j p.0 q.0 p.1.0 q.1.0 (p.1.1 ∙ e ∙ sym q.1.1);
        talks = talks_on kind may first since t at len served supply a b l.link talk r only is;
        unseen = λ k above. there t.talks l.link (Some talk) k (λ e. let f = old.given in let g = only.given in absurd (omega (arith, above, e, f, g))) ∙ r.unseen k (subst (λ (y : ℕ). y ≤ k) only.given above);
        owned = λ k later given opened. elim (cases_eq k l.link) [
          | inl e ↦ record { key = key; live = l'; found = here at key (Some l') key refl; link = link ∙ sym e }
          | inr n ↦ owned_on kind may first since t at len served supply a b key l (Some l') r found only k n later given opened
        ];
        older = λ k below. older_as (since.wire.links k) (a.links k) (b.links k) (only.others k (λ e. let f = old.later in absurd (omega (arith, below, e, f)))) (r.older k below);
        count = only.given ∙ r.count;
        ends = ends_on kind since t a b l.link (Some talk) old.is_open only r.ends;
      }

  -- ---- the connection ends

  -- what is common to all ends: the traffic `u` is the old one with the talk of the link, and one more end
  ends_live : (kind : Kind C Data Settings) (may : Data → Type 0) (first : List Data) (since : Moment Data Settings) (t : Traffic C Data) (at : ℕ → Option (Live C)) (len rest : ℕ) (served : Serving Data Settings) (supply : SupplyState Data) (a b : WireState)
      (key : ℕ) (l : Live C) (talk : Talk C) (ordered broken starved : List ℕ) → Relates kind may first since t at len (moment served supply a) → at key ≡ Some l → OnlyOn l.link a b → (b.links l.link).is_open ≡ false
      → IsTalk kind since t.history t.owner (moment served supply b) l.link talk
      → rest + 1 ≡ len → length ordered + length broken + length starved ≡ ended t + 1
      → Ends kind since (record t { talks = updated t.talks l.link (Some talk); ordered = ordered; broken = broken; starved = starved }) b
      → Relates kind may first since (record t { talks = updated t.talks l.link (Some talk); ordered = ordered; broken = broken; starved = starved }) (updated at key None) rest (moment served supply b)
  ends_live kind may first since t at len rest served supply a b key l talk ordered broken starved r found only closed is fewer more ends =
      let old = r.lives key l found in
      let mine : (i : ℕ) (x : Live C) → updated at key None i ≡ Some x → (i ≢ key) × (at i ≡ Some x) =
      λ i x h. elim (at_cases at key None i x h) [
        | inl p ↦ absurd (none_some x p.1)
        | inr q ↦ q
      ] in
      record {
        versions = versions_on may first since t.history t.given served supply a b r.versions;
        lives = λ i x h. let q = mine i x h in lives_on kind may first since t at len served supply a b key l (Some talk) r found only i x q.0 q.1;
        alone = λ i j x y h g e. r.alone i j x y (mine i x h).1 (mine j y g).1 e;
        talks = λ k later given. let x = talks_on kind may first since t at len served supply a b l.link talk r only is k later given in record { talk = x.talk; talk_is = x.talk_is; is = x.is };
        unseen = λ k above. there t.talks l.link (Some talk) k (λ e. let f = old.given in let g = only.given in absurd (omega (arith, above, e, f, g))) ∙ r.unseen k (subst (λ (y : ℕ). y ≤ k) only.given above);
        owned = λ k later given opened. elim (cases_eq k l.link) [
          | inl e ↦ absurd (not_both_ways (b.links k).is_open opened (ap (λ (x : ℕ). (b.links x).is_open) e ∙ closed))
          | inr n ↦ owned_on kind may first since t at len served supply a b key l None r found only k n later given opened
        ];
        older = λ k below. older_as (since.wire.links k) (a.links k) (b.links k) (only.others k (λ e. let f = old.later in absurd (omega (arith, below, e, f)))) (r.older k below);
        count = let c = r.count in let g = only.given in omega (arith, c, g, fewer, more);
        ends = ends;
      }

  -- in order
  pub ends_ordered : (kind : Kind C Data Settings) (may : Data → Type 0) (first : List Data) (since : Moment Data Settings) (t : Traffic C Data) (at : ℕ → Option (Live C)) (len rest : ℕ) (served : Serving Data Settings) (supply : SupplyState Data) (a b : WireState)
      (key : ℕ) (l : Live C) (talk : Talk C) → Relates kind may first since t at len (moment served supply a) → at key ≡ Some l → OnlyOn l.link a b → (b.links l.link).is_open ≡ false
      → IsTalk kind since t.history t.owner (moment served supply b) l.link talk → rest + 1 ≡ len → EndsInOrder kind l.link talk b
      → Relates kind may first since (record t { talks = updated t.talks l.link (Some talk); ordered = l.link ∷ t.ordered }) (updated at key None) rest (moment served supply b)
  ends_ordered kind may first since t at len rest served supply a b key l talk r found only closed is fewer e =
      let old = r.lives key l found in
      let same = ends_on kind since t a b l.link (Some talk) old.is_open only r.ends in
      ends_live kind may first since t at len rest served supply a b key l talk (l.link ∷ t.ordered) t.broken t.starved r found only closed is fewer (omega arith) (record {
        ordered = (
          record {
            later = old.later;
            given = subst (λ (y : ℕ). l.link < y) (sym only.given) old.given;
            closed = closed;
            talk = talk;
            talk_is = here t.talks l.link (Some talk) l.link refl;
            over = e.over;
            unfed = e.unfed;
            pending = e.pending;
            owes = e.owes;
            wants = e.wants;
            end_ = e.end_;
          },
          same.ordered,
        );
        broken = same.broken;
        starved = same.starved;
        ordered_once = (all_so _ _ (λ (j : ℕ) (h : IsOrdered kind since t.talks a j). closed_apart a l.link old.is_open j h.closed) t.ordered r.ends.ordered, same.ordered_once);
        broken_once = same.broken_once;
        starved_once = same.starved_once;
        faults = same.faults;
      })

  -- with its link, whose fault was counted
  pub ends_broken : (kind : Kind C Data Settings) (may : Data → Type 0) (first : List Data) (since : Moment Data Settings) (t : Traffic C Data) (at : ℕ → Option (Live C)) (len rest : ℕ) (served : Serving Data Settings) (supply : SupplyState Data) (a b : WireState)
      (key : ℕ) (l : Live C) (talk : Talk C) → Relates kind may first since t at len (moment served supply a) → at key ≡ Some l → OnlyOn l.link a b → (b.links l.link).is_open ≡ false
      → IsTalk kind since t.history t.owner (moment served supply b) l.link talk → rest + 1 ≡ len → Rose a.faults b.faults
      → Relates kind may first since (record t { talks = updated t.talks l.link (Some talk); broken = l.link ∷ t.broken }) (updated at key None) rest (moment served supply b)
  ends_broken kind may first since t at len rest served supply a b key l talk r found only closed is fewer rose =
      let old = r.lives key l found in
      let same = ends_on kind since t a b l.link (Some talk) old.is_open only r.ends in
      ends_live kind may first since t at len rest served supply a b key l talk t.ordered (l.link ∷ t.broken) t.starved r found only closed is fewer (omega arith) (record {
        ordered = same.ordered;
        broken = (record { later = old.later; given = subst (λ (y : ℕ). l.link < y) (sym only.given) old.given; closed = closed }, same.broken);
        starved = same.starved;
        ordered_once = same.ordered_once;
        broken_once = (all_so _ _ (λ (j : ℕ) (h : IsGone since.wire a j). closed_apart a l.link old.is_open j h.closed) t.broken r.ends.broken, same.broken_once);
        starved_once = same.starved_once;
        faults = let f = r.ends.faults in omega (arith, f, rose);
      })

  -- for want of memory
  pub ends_starved : (kind : Kind C Data Settings) (may : Data → Type 0) (first : List Data) (since : Moment Data Settings) (t : Traffic C Data) (at : ℕ → Option (Live C)) (len rest : ℕ) (served : Serving Data Settings) (supply : SupplyState Data) (a b : WireState)
      (key : ℕ) (l : Live C) (talk : Talk C) → Relates kind may first since t at len (moment served supply a) → at key ≡ Some l → OnlyOn l.link a b → (b.links l.link).is_open ≡ false
      → IsTalk kind since t.history t.owner (moment served supply b) l.link talk → rest + 1 ≡ len
      → Relates kind may first since (record t { talks = updated t.talks l.link (Some talk); starved = l.link ∷ t.starved }) (updated at key None) rest (moment served supply b)
  ends_starved kind may first since t at len rest served supply a b key l talk r found only closed is fewer =
      let old = r.lives key l found in
      let same = ends_on kind since t a b l.link (Some talk) old.is_open only r.ends in
      ends_live kind may first since t at len rest served supply a b key l talk t.ordered t.broken (l.link ∷ t.starved) r found only closed is fewer (omega arith) (record {
        ordered = same.ordered;
        broken = same.broken;
        starved = (record { later = old.later; given = subst (λ (y : ℕ). l.link < y) (sym only.given) old.given; closed = closed }, same.starved);
        ordered_once = same.ordered_once;
        broken_once = same.broken_once;
        starved_once = (all_so _ _ (λ (j : ℕ) (h : IsGone since.wire a j). closed_apart a l.link old.is_open j h.closed) t.starved r.ends.starved, same.starved_once);
        faults = same.faults;
      })
