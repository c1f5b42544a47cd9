-- A new connection begins its talk; and what is the same on a wire is the same of the traffic.
use Rattle.std.proofs.Common.{ℕ, ◌≡◌, ◌≢◌, ◌+◌, ◌<◌, ◌≤◌, ◌⊎◌, inl, inr, List, [], Option, Some, None, Bool, true, false, refl, sym, ◌∙◌, ap, subst, arith}
use Rattle.std.specs.List.{AllByRecursion}
use Rattle.tpf_base.specs.Links.{Door, Link, WireState, Tells, CountsAlone, SentAndReceived, All, told_by}
use Rattle.tpf_base.specs.Calls.{GivesAccepted, GivesNone, OnlyWaits, Wakes}
use Rattle.tpf_base.specs.declared.wire.Ready.{Ready}
use Rattle.tpf_base.specs.declared.wire.Ready.TheVariants as ready
use Rattle.tpf_base.specs.Sending.{Holds}
use Rattle.connections.specs.Versions.{Serving, SupplyState}
use Rattle.connections.specs.Kinds.{Kind, Opens}
use Rattle.serve_loop.specs.declared.live.Live.{Live}
use Rattle.serve_loop.specs.declared.live.Part.{Part}
use Rattle.serve_loop.specs.declared.live.TheConstants.{MOST_LIVE}
use Rattle.serve_loop.specs.declared.live.Turned.{Turned}
use Rattle.serve_loop.specs.Traffic.{Talk, Traffic, Moment, updated, moment}
use Rattle.serve_loop.specs.Relates.{IsTalk, IsLive, IsOrdered, IsGone, IsNumber, IsRising, Relates}
use Rattle.serve_loop.specs.Calls.{IsUntouched, TellsSame, ServesAlone, RestsWire, StepsAll, IsBusy}
use Rattle.serve_loop.specs.Parts.{among, parted}
use Rattle.serve_loop.specs.Steps.{GoesOnAt, Welcomes, TurnsTo}
use Rattle.serve_loop.proofs.PartLemmas.{among_some, among_in}
use Rattle.serve_loop.proofs.CallLemmas.{alone_then}
use Rattle.serve_loop.proofs.BelowLemmas.{nothing, live_keeps, moves_on, stays_on}
use Rattle.tpf_base.specs.Causes.{Rose}
use Rattle.std.specs.Prelude.{◌||◌}
use Rattle.std.proofs.lemmas.Bool.{cases_eq}
use Rattle.list_laws.proofs.Each.{all_so}
use Rattle.list_laws.proofs.Tests.{not_both_ways}
use Rattle.tpf_base.proofs.SendingLemmas.{holds_same}
use Rattle.serve_loop.proofs.TalkLemmas.{same_talk, plain}
use Rattle.serve_loop.proofs.RelatesLemmas.{here, there, none_some, versions_on, older_as}
use Rattle.serve_loop.proofs.SentenceLemmas.{some_same}
use Rattle.serve_loop.proofs.StepLemmas.{goes_same}
use Rattle.serve_loop.proofs.EndsLemmas.{ends_same, ends_none, ends_then, ends_as}
use Rattle.serve_loop.proofs.ChainLemmas.{relates_same, goes_on_then}

-- nothing was sent or received on a new link
pub told_nothing : (told : Option (List ℕ)) (tells : Tells) → told ≡ told_by tells [] → Holds told []
told_nothing told CountsAlone e = λ x t. cc
told_nothing told SentAndReceived e = λ x t. cc
told_nothing told All e = λ x t. cc

pub rests_none : (a b : WireState) → GivesNone a b → ServesAlone a b → RestsWire a b
rests_none a b h alone = record { links = λ k. older_as (a.links k) (a.links k) (b.links k) (h.links k) ((a.links k).woken, refl); given = h.given; alone = alone }

pub alone_waits : (a b : WireState) → OnlyWaits a b → ServesAlone a b
alone_waits a b x = let s = x.door.stalls in record {
  dials = x.dials;
  nature = x.nature;
  place = x.door.place;
  calls = x.door.calls;
  stalls = omega (arith, s);
  door_faults = x.door.later;
  faults = x.later;
}

pub untouched_same : (x y : Link) → y ≡ x → IsUntouched x y
untouched_same x y e = older_as x x y e (x.woken, refl)

-- a wait that answered
pub rests_wakes : (a b : WireState) (answer : Ready) → Wakes answer a b → OnlyWaits a b → RestsWire a b
rests_wakes a b (ready.Link k) w x = record {
  links = λ j. elim (cases_eq j k) [
    | inl e ↦ subst (λ (i : ℕ). IsUntouched (a.links i) (b.links i)) (sym e) (true, w.1)
    | inr n ↦ untouched_same (a.links j) (b.links j) (w.2 j n)
  ];
  given = x.given;
  alone = alone_waits a b x;
}
rests_wakes a b ready.Door w x = record { links = λ j. untouched_same (a.links j) (b.links j) (w.1 j); given = x.given; alone = alone_waits a b x }

-- what a wait leaves of each link
pub rests_told : (a b : WireState) → RestsWire a b → (k : ℕ) → TellsSame (a.links k) (b.links k)
rests_told a b w k = let e = (w.links k).1 in record { sent = ap (λ (x : Link). x.sent) e; received = ap (λ (x : Link). x.received) e; ended = ap (λ (x : Link). x.ended) e }

pub rests_open : (a b : WireState) → RestsWire a b → (k : ℕ) → (b.links k).is_open ≡ (a.links k).is_open
rests_open a b w k = ap (λ (x : Link). x.is_open) (w.links k).1

pub untouched_then : (x y z : Link) → IsUntouched x y → IsUntouched y z → IsUntouched x z
untouched_then x y z p q = (q.0, q.1 ∙ ap (λ (l : Link). record l { woken = q.0 }) p.1)

below_other : (k n m : ℕ) → m ≡ n + 1 → k < m → k ≢ n → k < n
below_other k n m e below other = grind arith

gone_rests : (since a b : WireState) → RestsWire a b → (k : ℕ) → IsGone since a k → IsGone since b k
gone_rests since a b w k h = record { later = h.later; given = subst (λ (n : ℕ). k < n) (sym w.given) h.given; closed = rests_open a b w k ∙ h.closed }

gone_given : (since a b : WireState) → GivesAccepted a.given a b → (k : ℕ) → IsGone since a k → IsGone since b k
gone_given since a b g k h =
    let hg = h.given in
    let gm = g.more in
    record { later = h.later; given = omega (arith, hg, gm); closed = ap (λ (x : Link). x.is_open) (g.others k (λ e. absurd (omega (arith, hg, e)))) ∙ h.closed }

pub or_true : (x y : Bool) → x ≡ true → true ≡ (x || y)
or_true true y e = refl
or_true false y e = cc

pub or_else : (x y : Bool) → x ≡ false → y ≡ (x || y)
or_else true y e = absurd (not_both_ways true refl e)
or_else false y e = refl

module _ {C : Type 0} where
  new_goes_on : (version : ℕ) (talks : ℕ → Option (Talk C)) (k : ℕ) (c : C) → talks k ≡ None → (j : ℕ) → GoesOnAt version (talks j) (updated talks k (Some (plain [] [] [] c)) j)
  new_goes_on version talks k c none j = elim (cases_eq j k) [
    | inl p ↦ subst (λ (o : Option (Talk C)). GoesOnAt version o (updated talks k (Some (plain [] [] [] c)) j)) (sym (ap talks p ∙ none))
        (subst (λ (o : Option (Talk C)). GoesOnAt version None o) (sym (here talks k (Some (plain [] [] [] c)) j p)) tt)
    | inr n ↦ subst (λ (o : Option (Talk C)). GoesOnAt version (talks j) o) (sym (there talks k (Some (plain [] [] [] c)) j n)) (goes_same version (talks j))
  ]

module _ {C Data Settings : Type 0} where
  ordered_rests : (kind : Kind C Data Settings) (since : Moment Data Settings) (talks : ℕ → Option (Talk C)) (a b : WireState) → RestsWire a b → (k : ℕ) → IsOrdered kind since talks a k → IsOrdered kind since talks b k
  ordered_rests kind since talks a b w k h = record {
    later = h.later;
    given = subst (λ (n : ℕ). k < n) (sym w.given) h.given;
    closed = rests_open a b w k ∙ h.closed;
    talk = h.talk;
    talk_is = h.talk_is;
    over = h.over;
    unfed = h.unfed;
    pending = h.pending;
    owes = h.owes;
    wants = h.wants;
    end_ = elim h.end_ [ inl c ↦ inl c | inr e ↦ inr (holds_same (a.links k).ended (b.links k).ended true (rests_told a b w k).ended e) ];
  }

  -- no byte moved, and no link was given or closed
  pub relates_rests : (kind : Kind C Data Settings) (may : Data → Type 0) (first : List Data) (since : Moment Data Settings) (t : Traffic C Data) (at : ℕ → Option (Live C)) (len : ℕ) (served : Serving Data Settings) (supply : SupplyState Data) (a b : WireState)
      → RestsWire a b → Relates kind may first since t at len (moment served supply a)
      → Relates kind may first since t at len (moment served supply b)
  relates_rests kind may first since t at len served supply a b w r =
      let e = r.ends in
      let ef = e.faults in
      let wf = w.alone.faults in
      let wg = w.given in
      record {
        versions = versions_on may first since t.history t.given served supply a b r.versions;
        lives = λ key l h. let x = r.lives key l h in record {
          later = x.later;
          given = subst (λ (n : ℕ). l.link < n) (sym wg) x.given;
          is_open = rests_open a b w l.link ∙ x.is_open;
          talk = x.talk;
          talk_is = x.talk_is;
          connection = x.connection;
          over = x.over;
          unfed = x.unfed;
        };
        alone = r.alone;
        talks = λ k later given. let x = r.talks k later (subst (λ (n : ℕ). k < n) wg given) in record {
          talk = x.talk;
          talk_is = x.talk_is;
          is = same_talk kind since t.history t.owner served supply a b k x.talk (rests_told a b w k).sent (rests_told a b w k).received x.is;
        };
        unseen = λ k above. r.unseen k (subst (λ (n : ℕ). n ≤ k) wg above);
        owned = λ k later given is_open. r.owned k later (subst (λ (n : ℕ). k < n) wg given) (sym (rests_open a b w k) ∙ is_open);
        older = λ k below. untouched_then (since.wire.links k) (a.links k) (b.links k) (r.older k below) (w.links k);
        count = wg ∙ r.count;
        ends = record {
          ordered = all_so _ _ (λ (k : ℕ). ordered_rests kind since t.talks a b w k) t.ordered e.ordered;
          broken = all_so _ _ (λ (k : ℕ). gone_rests since.wire a b w k) t.broken e.broken;
          starved = all_so _ _ (λ (k : ℕ). gone_rests since.wire a b w k) t.starved e.starved;
          ordered_once = e.ordered_once;
          broken_once = e.broken_once;
          starved_once = e.starved_once;
          faults = omega (arith, ef, wf);
        };
      }

  -- ---- a link was given

  -- the talk of the new link
  new_talk : (kind : Kind C Data Settings) (since : Moment Data Settings) (history : List Data) (owner : ℕ → ℕ) (served : Serving Data Settings) (supply : SupplyState Data) (a b : WireState) (c : C)
      → Opens kind c → GivesAccepted a.given a b → IsTalk kind since history owner (moment served supply b) a.given (plain [] [] [] c)
  new_talk kind since history owner served supply a b c opens g = record {
    answers = opens.answers history served.config;
    within = omega arith;
    sent_is = told_nothing (b.links a.given).sent a.nature.tells g.sent;
    received_is = told_nothing (b.links a.given).received a.nature.tells g.received;
    excused = tt;
    level = tt;
    numbers = subst (λ (ns : List ℕ). AllByRecursion (IsNumber owner a.given since.served.version served.version) ns) (sym (opens.numbers served.config)) tt;
    rising = subst (λ (ns : List ℕ). IsRising ns) (sym (opens.numbers served.config)) tt;
  }

  ordered_given : (kind : Kind C Data Settings) (since : Moment Data Settings) (talks : ℕ → Option (Talk C)) (a b : WireState) (o : Option (Talk C)) → GivesAccepted a.given a b → (k : ℕ) → IsOrdered kind since talks a k
      → IsOrdered kind since (updated talks a.given o) b k
  ordered_given kind since talks a b o g k h =
      let hg = h.given in
      let gm = g.more in
      let n : k ≢ a.given = λ e. absurd (omega (arith, hg, e)) in
      let same = g.others k n in
      record {
        later = h.later;
        given = omega (arith, hg, gm);
        closed = ap (λ (x : Link). x.is_open) same ∙ h.closed;
        talk = h.talk;
        talk_is = there talks a.given o k n ∙ h.talk_is;
        over = h.over;
        unfed = h.unfed;
        pending = h.pending;
        owes = h.owes;
        wants = h.wants;
        end_ = elim h.end_ [ inl c ↦ inl c | inr e ↦ inr (holds_same (a.links k).ended (b.links k).ended true (ap (λ (x : Link). x.ended) same) e) ];
      }

  pub relates_given : (kind : Kind C Data Settings) (may : Data → Type 0) (first : List Data) (since : Moment Data Settings) (t : Traffic C Data) (at at' : ℕ → Option (Live C)) (len after key : ℕ) (served : Serving Data Settings) (supply : SupplyState Data) (a b : WireState) (c : C)
      → Opens kind c → GivesAccepted a.given a b → a.faults ≤ b.faults → at key ≡ None → at' key ≡ Some (record { link = a.given; connection = c }) → ((k : ℕ) → k ≢ key → at' k ≡ at k) → after ≡ len + 1
      → Relates kind may first since t at len (moment served supply a)
      → Relates kind may first since (record t { talks = updated t.talks a.given (Some (plain [] [] [] c)) }) at' after (moment served supply b)
  relates_given kind may first since t at at' len after key served supply a b c opens g faults_up vacant found others more r =
      let e = r.ends in
      let ef = e.faults in
      let gm = g.more in
      let rc = r.count in
      let l : Live C = record { link = a.given; connection = c } in
      let back : (i : ℕ) (x : Live C) → at' i ≡ Some x → ((i ≡ key) × (x ≡ l)) ⊎ ((i ≢ key) × (at i ≡ Some x)) =
      λ i x h. elim (cases_eq i key) [
        | inl p ↦ inl (p, some_same (at' key) x l (ap at' (sym p) ∙ h) found)
        | inr n ↦ inr (n, sym (others i n) ∙ h)
      ] in
      let fresh : (i : ℕ) (x : Live C) → at i ≡ Some x → x.link ≢ a.given = λ i x h s. let f = (r.lives i x h).given in absurd (omega (arith, f, s)) in
      record {
        versions = versions_on may first since t.history t.given served supply a b r.versions;
        lives = λ i x h. elim (back i x h) [
          | inl p ↦ subst (λ (y : Live C). IsLive since (updated t.talks a.given (Some (plain [] [] [] c))) b y) (sym p.1) (record {
            later = omega (arith, rc);
            given = omega (arith, gm);
            is_open = g.is_open;
            talk = plain [] [] [] c;
            talk_is = here t.talks a.given (Some (plain [] [] [] c)) a.given refl;
            connection = refl;
            over = refl;
            unfed = refl;
          })
          | inr q ↦ let o = r.lives i x q.1 in let og = o.given in let n = fresh i x q.1 in record {
            later = o.later;
            given = omega (arith, og, gm);
            is_open = ap (λ (y : Link). y.is_open) (g.others x.link n) ∙ o.is_open;
            talk = o.talk;
            talk_is = there t.talks a.given (Some (plain [] [] [] c)) x.link n ∙ o.talk_is;
            connection = o.connection;
            over = o.over;
            unfed = o.unfed;
          }
        ];
        alone = λ i j x y h k s. elim (back i x h) [
          | inl p ↦ elim (back j y k) [
            | inl q ↦ p.0 ∙ sym q.0
            | inr q ↦ absurd (fresh j y q.1 (sym s ∙ ap (λ (v : Live C). v.link) p.1))
          ]
          | inr p ↦ elim (back j y k) [
            | inl q ↦ absurd (fresh i x p.1 (s ∙ ap (λ (v : Live C). v.link) q.1))
            | inr q ↦ r.alone i j x y p.1 q.1 s
          ]
        ];
        talks = λ k later given. elim (cases_eq k a.given) [
          | inl p ↦ record {
            talk = plain [] [] [] c;
            talk_is = here t.talks a.given (Some (plain [] [] [] c)) k p;
            is = subst (λ (n : ℕ). IsTalk kind since t.history t.owner (moment served supply b) n (plain [] [] [] c)) (sym p) (new_talk kind since t.history t.owner served supply a b c opens g);
          }
          | inr n ↦ let x = r.talks k later (below_other k a.given b.given gm given n) in record {
            talk = x.talk;
            talk_is = there t.talks a.given (Some (plain [] [] [] c)) k n ∙ x.talk_is;
            is = same_talk kind since t.history t.owner served supply a b k x.talk (ap (λ (y : Link). y.sent) (g.others k n)) (ap (λ (y : Link). y.received) (g.others k n)) x.is;
          }
        ];
        unseen = λ k above. there t.talks a.given (Some (plain [] [] [] c)) k (λ s. absurd (omega (arith, above, gm, s))) ∙ r.unseen k (omega (arith, above, gm));
        owned = λ k later given is_open. elim (cases_eq k a.given) [
          | inl p ↦ record { key = key; live = l; found = found; link = sym p }
          | inr n ↦ let o = r.owned k later (below_other k a.given b.given gm given n) (ap (λ (y : Link). y.is_open) (sym (g.others k n)) ∙ is_open) in
              record { key = o.key; live = o.live; found = others o.key (λ s. none_some o.live (sym vacant ∙ ap at (sym s) ∙ o.found)) ∙ o.found; link = o.link }
        ];
        older = λ k below. older_as (since.wire.links k) (a.links k) (b.links k) (g.others k (λ s. absurd (omega (arith, below, rc, s)))) (r.older k below);
        count = omega (arith, gm, rc, more);
        ends = record {
          ordered = all_so _ _ (λ (k : ℕ). ordered_given kind since t.talks a b (Some (plain [] [] [] c)) g k) t.ordered e.ordered;
          broken = all_so _ _ (λ (k : ℕ). gone_given since.wire a b g k) t.broken e.broken;
          starved = all_so _ _ (λ (k : ℕ). gone_given since.wire a b g k) t.starved e.starved;
          ordered_once = e.ordered_once;
          broken_once = e.broken_once;
          starved_once = e.starved_once;
          faults = omega (arith, ef, faults_up);
        };
      }

  -- ---- what the door did

  pub welcomed : (kind : Kind C Data Settings) (may : Data → Type 0) (first : List Data) (since : Moment Data Settings) (t : Traffic C Data) (at at' : ℕ → Option (Live C)) (accepted : Bool) (len after : ℕ) (served : Serving Data Settings) (supply : SupplyState Data) (a b : WireState)
      → Welcomes kind at at' accepted len after a b → Relates kind may first since t at len (moment served supply a)
      → TurnsTo kind may first since t nothing at' after (moment served supply a) (moment served supply b)
  welcomed kind may first since t at at' true len after served supply a b w r =
      let f = w.found refl in
      let g = w.given refl in
      record {
        traffic = record t { talks = updated t.talks a.given (Some (plain [] [] [] f.0)) };
        relates = relates_given kind may first since t at at' len after w.key served supply a b f.0 f.1.0 g w.alone.faults (w.vacant refl) f.1.1 (λ k n. w.others k (inl n)) (w.more refl) r;
        ends = ends_none t (record t { talks = updated t.talks a.given (Some (plain [] [] [] f.0)) }) a.faults b.faults refl refl refl w.alone.faults;
        goes_on = new_goes_on served.version t.talks a.given f.0 (r.unseen a.given (omega arith));
        up = omega arith;
      }
  welcomed kind may first since t at at' false len after served supply a b w r = record {
    traffic = t;
    relates = subst (λ (n : ℕ). Relates kind may first since t at' n (moment served supply b)) (sym (w.same refl))
        (relates_same kind may first since t at at' len (moment served supply b) (λ k. w.others k (inr refl))
        (relates_rests kind may first since t at len served supply a b (rests_none a b (w.none refl) w.alone) r));
    ends = ends_same t a.faults b.faults w.alone.faults;
    goes_on = λ k. goes_same served.version (t.talks k);
    up = omega arith;
  }

  -- a turn whose door failed
  pub unwelcomed : (kind : Kind C Data Settings) (may : Data → Type 0) (first : List Data) (since : Moment Data Settings) (t : Traffic C Data) (at at' : ℕ → Option (Live C)) (len after : ℕ) (served : Serving Data Settings) (supply : SupplyState Data) (a b : WireState)
      → ((key : ℕ) → at' key ≡ at key) → after ≡ len → GivesNone a b → ServesAlone a b → Relates kind may first since t at len (moment served supply a)
      → Relates kind may first since t at' after (moment served supply b)
  unwelcomed kind may first since t at at' len after served supply a b same length_same none alone r =
      subst (λ (n : ℕ). Relates kind may first since t at' n (moment served supply b)) (sym length_same)
      (relates_same kind may first since t at at' len (moment served supply b) same
      (relates_rests kind may first since t at len served supply a b (rests_none a b none alone) r))

  -- what the door did, and then the steps
  pub turns_after : (kind : Kind C Data Settings) (may : Data → Type 0) (first : List Data) (since : Moment Data Settings) (t : Traffic C Data) (x y : Turned) (at at' : ℕ → Option (Live C)) (len rest : ℕ) (old mid now : Moment Data Settings)
      → y.ended ≡ x.ended → y.starved ≡ x.starved → TurnsTo kind may first since t nothing at len old mid
      → ((u : Traffic C Data) → Relates kind may first since u at len mid → TurnsTo kind may first since u x at' rest mid now)
      → TurnsTo kind may first since t y at' rest old now
  turns_after kind may first since t x y at at' len rest old mid now e s p f =
      let q = f p.traffic p.relates in
      let pu = p.up in
      let qu = q.up in
      record {
        traffic = q.traffic;
        relates = q.relates;
        ends = ends_as t q.traffic (0 + x.ended) y.ended (0 + x.starved) y.starved old.wire.faults now.wire.faults (omega (arith, e)) (omega (arith, s))
            (ends_then t p.traffic q.traffic 0 x.ended 0 x.starved old.wire.faults mid.wire.faults now.wire.faults p.ends q.ends);
        goes_on = λ k. goes_on_then old.served.version mid.served.version (t.talks k) (p.traffic.talks k) (q.traffic.talks k) p.up (p.goes_on k) (q.goes_on k);
        up = omega (arith, pu, qu);
      }

  -- no idling, with the door
  pub busy : (kind : Kind C Data Settings) (part : Part) (x y : Turned) (at at' : ℕ → Option (Live C)) (accepted : Bool) (len after : ℕ) (a b c : WireState)
      → Welcomes kind at at' accepted len after a b → ((key : ℕ) (l : Live C) → at key ≡ Some l → l.link < a.given) → StepsAll kind x (parted part at') b c
      → y.moved ≡ (accepted || x.moved) → y.ended ≡ x.ended → IsBusy kind MOST_LIVE y (parted part at) len a c
  busy kind part x y at at' true len after a b c w given s m e =
      let g = w.given refl in
      let more : c.given ≡ a.given + 1 = s.given ∙ g.more in
      let kept : (key : ℕ) (l : Live C) → parted part at key ≡ Some l → parted part at' key ≡ Some l =
      λ key l h. let o = among_some part (at key) l h in
      among_in part (at' key) l (w.others key (inl (λ q. none_some l (sym (w.vacant refl) ∙ ap at (sym q) ∙ o.0))) ∙ o.0) o.1 in
      let found : (key : ℕ) (l : Live C) → parted part at' key ≡ Some l → (l.link ≡ a.given) ⊎ (parted part at key ≡ Some l) =
      λ key l h. let o = among_some part (at' key) l h in elim (cases_eq key w.key) [
        | inl p ↦ inl (ap (λ (v : Live C). v.link) (some_same (at' w.key) l (record { link = a.given; connection = (w.found refl).0 }) (ap at' (sym p) ∙ o.0) (w.found refl).1.1))
        | inr n ↦ inr (among_in part (at key) l (sym (w.others key (inl n)) ∙ o.0) o.1)
      ] in
      record {
        links = λ key l h. let n = given key l (among_some part (at key) l h).0 in live_keeps kind l.connection x y l.link a b c c (λ q. m) (omega (arith, e)) (g.others l.link (λ q. absurd (omega (arith, n, q)))) refl (s.links key l (kept key l h));
        others = λ k below foreign. s.others k (λ o. elim (found o.key o.live o.found) [
          | inl p ↦ let q = o.link in absurd (omega (arith, below, p, q))
          | inr q ↦ foreign (record { key = o.key; live = o.live; found = q; link = o.link })
        ]) ∙ g.others k (λ q. absurd (omega (arith, below, q)));
        door = inr (inl (m, more));
        moved = λ q. inl more;
        still = λ q. absurd (not_both_ways y.moved m q);
        ended = λ q. let o = s.ended (omega (arith, q, e)) in (
          o.1.link,
          o.3,
          elim (found o.0 o.1 o.2) [
            | inl p ↦ inl (record { later = omega (arith, p); given = omega (arith, p, more) })
            | inr n ↦ inr (record { key = o.0; live = o.1; found = n; link = refl })
          ],
        );
        given = omega (arith, more);
        waits = s.waits ∙ w.waits;
        calm = ap (λ (d : Door). d.faults) s.door ∙ w.calm;
        alone = alone_then a b c w.alone s.alone;
      }
  busy kind part x y at at' false len after a b c w given s m e =
      let n = w.none refl in
      let same : (key : ℕ) → parted part at' key ≡ parted part at key = λ key. ap (λ (o : Option (Live C)). among part o) (w.others key (inr refl)) in
      record {
        links = λ key l h. live_keeps kind l.connection x y l.link a b c c (λ q. m ∙ q) (omega (arith, e)) (n.links l.link) refl (s.links key l (same key ∙ h));
        others = λ k below foreign. s.others k (λ o. foreign (record { key = o.key; live = o.live; found = sym (same o.key) ∙ o.found; link = o.link })) ∙ n.links k;
        door = elim (w.door refl) [ inl p ↦ inl p | inr q ↦ inr (inr (subst (λ (d : Door). Rose a.door.stalls d.stalls) (sym s.door) q)) ];
        moved = λ q. let o = s.moved (sym m ∙ q) in inr (o.0, o.1, sym (same o.0) ∙ o.2, (o.3.0, moves_on o.3.0 o.1.link a b c c (n.links o.1.link) refl o.3.1));
        still = λ q. (s.given ∙ n.given, λ k is_open. stays_on k a b c c (n.links k) refl (s.still (sym m ∙ q) k is_open));
        ended = λ q. let o = s.ended (omega (arith, q, e)) in (o.1.link, o.3, inr (record { key = o.0; live = o.1; found = sym (same o.0) ∙ o.2; link = refl }));
        given = (let sg = s.given in let ng = n.given in omega (arith, sg, ng));
        waits = s.waits ∙ w.waits;
        calm = ap (λ (d : Door). d.faults) s.door ∙ w.calm;
        alone = alone_then a b c w.alone s.alone;
      }
