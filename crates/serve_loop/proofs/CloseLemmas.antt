-- The links of all live connections are closed, one after another, and what the traffic is then.
use Rattle.std.proofs.Common.{ℕ, ◌≡◌, ◌≢◌, ◌+◌, ◌<◌, ◌≤◌, inl, inr, List, length, Option, Some, None, true, false, refl, sym, ◌∙◌, ap, subst, arith}
use Rattle.std.proofs.lemmas.Bool.{cases_eq}
use Rattle.list_laws.proofs.Each.{all_so}
use Rattle.list_laws.proofs.Tests.{not_both_ways}
use Rattle.tpf_base.specs.Causes.{RoseBy}
use Rattle.tpf_base.specs.Links.{Link, WireState}
use Rattle.tpf_base.proofs.SendingLemmas.{holds_same}
use Rattle.connections.specs.Versions.{Serving, SupplyState}
use Rattle.connections.specs.Kinds.{Kind}
use Rattle.serve_loop.specs.declared.live.Live.{Live}
use Rattle.serve_loop.specs.Traffic.{Talk, Traffic, Moment, moment}
use Rattle.serve_loop.specs.Calls.{TellsSame, ClosesAt, LeavesBelow, LeavesAll}
use Rattle.serve_loop.specs.Relates.{IsOrdered, IsGone, Relates}
use Rattle.serve_loop.specs.Sentence.{AllClosed}
use Rattle.serve_loop.specs.Service.{LeavesLinks}
use Rattle.serve_loop.proofs.CallLemmas.{alone_none, alone_then, alone_on}
use Rattle.serve_loop.proofs.TalkLemmas.{same_talk}
use Rattle.serve_loop.proofs.RelatesLemmas.{none_some, versions_on, older_as}
use Rattle.serve_loop.proofs.SentenceLemmas.{some_same}
use Rattle.serve_loop.proofs.BelowLemmas.{last_or, below_or}
use Rattle.serve_loop.proofs.PreparedLemmas.{true_or}

pub told_same : (x y : Link) → y ≡ x → TellsSame x y
told_same x y e = record { sent = ap (λ (l : Link). l.sent) e; received = ap (λ (l : Link). l.received) e; ended = ap (λ (l : Link). l.ended) e }

pub told_then : (x y z : Link) → TellsSame x y → TellsSame y z → TellsSame x z
told_then x y z p q = record { sent = q.sent ∙ p.sent; received = q.received ∙ p.received; ended = q.ended ∙ p.ended }

module _ {C : Type 0} where
  pub leaves_none : (at : ℕ → Option (Live C)) (w : WireState) → LeavesBelow 0 at w w
  leaves_none at w = record {
    closed = λ key l below e. absurd (omega (arith, below));
    told = λ k. told_same (w.links k) (w.links k) refl;
    others = λ k f. refl;
    given = refl;
    waits = refl;
    faults = refl;
    door = refl;
    alone = alone_none w;
  }

  -- no key has a connection twice, so the link of this key is as it was
  pub not_yet : (n : ℕ) (at : ℕ → Option (Live C)) (a b : WireState) (l : Live C)
      → ((i j : ℕ) (p q : Live C) → at i ≡ Some p → at j ≡ Some q → p.link ≡ q.link → i ≡ j)
      → LeavesBelow n at a b → at n ≡ Some l → b.links l.link ≡ a.links l.link
  not_yet n at a b l alone h found = h.others l.link (λ key x below e s. let same = alone key n x l e found s in absurd (omega (arith, below, same)))

  pub leaves_more : (n : ℕ) (at : ℕ → Option (Live C)) (a b c : WireState) (slot : Option (Live C))
      → ((i j : ℕ) (p q : Live C) → at i ≡ Some p → at j ≡ Some q → p.link ≡ q.link → i ≡ j)
      → LeavesBelow n at a b → at n ≡ slot → ClosesAt slot b c → LeavesBelow (n + 1) at a c
  leaves_more n at a b c None alone h found calls = subst (λ (w : WireState). LeavesBelow (n + 1) at a w) (sym calls) (record {
    closed = λ key l below e. elim (last_or key n below) [
      | inl p ↦ absurd (none_some l (sym found ∙ ap at (sym p) ∙ e))
      | inr q ↦ h.closed key l q e
    ];
    told = h.told;
    others = λ k f. h.others k (λ key l below e. f key l (omega (arith, below)) e);
    given = h.given;
    waits = h.waits;
    faults = h.faults;
    door = h.door;
    alone = h.alone;
  })
  leaves_more n at a b c (Some m) alone h found d = record {
    closed = λ key l below e. elim (last_or key n below) [
      | inl p ↦ subst (λ (k : ℕ). (c.links k).is_open ≡ false) (ap (λ (v : Live C). v.link) (some_same (at n) m l found (ap at (sym p) ∙ e))) d.is_open
      | inr q ↦ ap (λ (x : Link). x.is_open) (d.only.others l.link (λ s. let same = alone key n l m e found s in absurd (omega (arith, q, same)))) ∙ h.closed key l q e
    ];
    told = λ k. elim (cases_eq k m.link) [
      | inl p ↦ subst (λ (j : ℕ). TellsSame (a.links j) (c.links j)) (sym p) (told_then (a.links m.link) (b.links m.link) (c.links m.link) (h.told m.link) (record { sent = d.sent; received = d.received; ended = d.ended }))
      | inr ne ↦ told_then (a.links k) (b.links k) (c.links k) (h.told k) (told_same (b.links k) (c.links k) (d.only.others k ne))
    ];
    others = λ k f. d.only.others k (λ s. f n m (omega arith) found (sym s)) ∙ h.others k (λ key l below e. f key l (omega (arith, below)) e);
    given = d.only.given ∙ h.given;
    waits = d.only.waits ∙ h.waits;
    faults = d.faults ∙ h.faults;
    door = d.only.door ∙ h.door;
    alone = alone_then a b c h.alone (alone_on m.link b c d.only);
  }

  pub leaves_all : (n : ℕ) (at : ℕ → Option (Live C)) (a b : WireState) → ((key : ℕ) → n ≤ key → at key ≡ None) → LeavesBelow n at a b → LeavesAll at a b
  leaves_all n at a b none h =
      let within : (key : ℕ) (l : Live C) → at key ≡ Some l → key < n = λ key l e. elim (below_or key n) [
        | inl p ↦ p
        | inr q ↦ absurd (none_some l (sym (none key q) ∙ e))
      ] in
      record {
        closed = λ key l e. h.closed key l (within key l e) e;
        told = h.told;
        others = λ k f. h.others k (λ key l below e s. f (record { key = key; live = l; found = e; link = s }));
        given = h.given;
        waits = h.waits;
        faults = h.faults;
        door = h.door;
        alone = h.alone;
      }

  pub gone_below : (at at' : ℕ → Option (Live C)) (n : ℕ) → ((key : ℕ) → key < n → at key ≡ None) → ((k : ℕ) → k ≢ n → at' k ≡ at k) → at' n ≡ None → (key : ℕ) → key < n + 1 → at' key ≡ None
  gone_below at at' n h others none key below = elim (last_or key n below) [
    | inl p ↦ ap at' p ∙ none
    | inr q ↦ others key (λ s. absurd (omega (arith, q, s))) ∙ h key q
  ]

  pub gone_all : (at first : ℕ → Option (Live C)) (n : ℕ) → ((key : ℕ) → key < n → at key ≡ None) → ((key : ℕ) → n ≤ key → at key ≡ first key) → ((key : ℕ) → n ≤ key → first key ≡ None) → (key : ℕ) → at key ≡ None
  gone_all at first n h same none key = elim (below_or key n) [
    | inl p ↦ h key p
    | inr q ↦ same key q ∙ none key q
  ]

pub links_none : (w : WireState) → LeavesLinks w w
links_none w = record { told = λ k. told_same (w.links k) (w.links k) refl; given = refl; waits = refl; faults = refl; door = refl; alone = alone_none w }

-- what a close of all is to whom the connections are not seen
pub links_then : {C : Type 0} (at : ℕ → Option (Live C)) (a b c : WireState) → LeavesLinks a b → LeavesAll at b c → LeavesLinks a c
links_then at a b c x y = record {
  told = λ k. told_then (a.links k) (b.links k) (c.links k) (x.told k) (y.told k);
  given = y.given ∙ x.given;
  waits = y.waits ∙ x.waits;
  faults = y.faults ∙ x.faults;
  door = y.door ∙ x.door;
  alone = alone_then a b c x.alone y.alone;
}

module _ {C Data Settings : Type 0} where
  -- a link that is no live connection's is as it was
  not_live : (kind : Kind C Data Settings) (may : Data → Type 0) (first : List Data) (since : Moment Data Settings) (t : Traffic C Data) (at : ℕ → Option (Live C)) (len : ℕ) (served : Serving Data Settings) (supply : SupplyState Data) (a b : WireState)
      → Relates kind may first since t at len (moment served supply a) → LeavesAll at a b → (k : ℕ) → (a.links k).is_open ≡ false → b.links k ≡ a.links k
  not_live kind may first since t at len served supply a b r w k closed =
      w.others k (λ o. not_both_ways (a.links k).is_open (ap (λ (n : ℕ). (a.links n).is_open) (sym o.link) ∙ (r.lives o.key o.live o.found).is_open) closed)

  ordered_left : (kind : Kind C Data Settings) (since : Moment Data Settings) (talks : ℕ → Option (Talk C)) (a b : WireState) → b.given ≡ a.given → ((k : ℕ) → (a.links k).is_open ≡ false → b.links k ≡ a.links k)
      → (k : ℕ) → IsOrdered kind since talks a k → IsOrdered kind since talks b k
  ordered_left kind since talks a b given same k h = record {
    later = h.later;
    given = subst (λ (n : ℕ). k < n) (sym given) h.given;
    closed = ap (λ (x : Link). x.is_open) (same k h.closed) ∙ h.closed;
    talk = h.talk;
    talk_is = h.talk_is;
    over = h.over;
    unfed = h.unfed;
    pending = h.pending;
    owes = h.owes;
    wants = h.wants;
    end_ = elim h.end_ [ inl c ↦ inl c | inr e ↦ inr (holds_same (a.links k).ended (b.links k).ended true (ap (λ (x : Link). x.ended) (same k h.closed)) e) ];
  }

  gone_left : (since : Moment Data Settings) (talks : ℕ → Option (Talk C)) (a b : WireState) → b.given ≡ a.given → ((k : ℕ) → (a.links k).is_open ≡ false → b.links k ≡ a.links k) → (k : ℕ) → IsGone since.wire a k → IsGone since.wire b k
  gone_left since talks a b given same k h = record { later = h.later; given = subst (λ (n : ℕ). k < n) (sym given) h.given; closed = ap (λ (x : Link). x.is_open) (same k h.closed) ∙ h.closed }

  -- the traffic with all links closed
  pub relates_left : (kind : Kind C Data Settings) (may : Data → Type 0) (first : List Data) (since : Moment Data Settings) (t : Traffic C Data) (at at' : ℕ → Option (Live C)) (len : ℕ) (served : Serving Data Settings) (supply : SupplyState Data) (a b : WireState)
      → LeavesAll at a b → ((key : ℕ) → at' key ≡ None) → Relates kind may first since t at len (moment served supply a)
      → Relates kind may first since (record t { left = t.left + len }) at' 0 (moment served supply b)
  relates_left kind may first since t at at' len served supply a b w none r =
      let e = r.ends in
      let ef = e.faults in
      let same : (k : ℕ) → (a.links k).is_open ≡ false → b.links k ≡ a.links k = not_live kind may first since t at len served supply a b r w in
      let wg = w.given in
      let rc = r.count in
      record {
        versions = versions_on may first since t.history t.given served supply a b r.versions;
        lives = λ key l h. absurd (none_some l (sym (none key) ∙ h));
        alone = λ i j x y h g s. absurd (none_some x (sym (none i) ∙ h));
        talks = λ k later given. let x = r.talks k later (subst (λ (n : ℕ). k < n) wg given) in record {
          talk = x.talk;
          talk_is = x.talk_is;
          is = same_talk kind since t.history t.owner served supply a b k x.talk (w.told k).sent (w.told k).received x.is;
        };
        unseen = λ k above. r.unseen k (subst (λ (n : ℕ). n ≤ k) wg above);
        owned = λ k later given is_open. elim (true_or (a.links k).is_open) [
          | inl o ↦ let x = r.owned k later (subst (λ (n : ℕ). k < n) wg given) o in
              absurd (not_both_ways (b.links k).is_open is_open (ap (λ (n : ℕ). (b.links n).is_open) (sym x.link) ∙ w.closed x.key x.live x.found))
          | inr c ↦ absurd (not_both_ways (b.links k).is_open is_open (ap (λ (x : Link). x.is_open) (same k c) ∙ c))
        ];
        older = λ k below. older_as (since.wire.links k) (a.links k) (b.links k) (w.others k (λ o. let x = (r.lives o.key o.live o.found).later in let s = o.link in absurd (omega (arith, below, x, s)))) (r.older k below);
        count = omega (arith, wg, rc);
        ends = record {
          ordered = all_so _ _ (λ (k : ℕ). ordered_left kind since t.talks a b wg same k) t.ordered e.ordered;
          broken = all_so _ _ (λ (k : ℕ). gone_left since t.talks a b wg same k) t.broken e.broken;
          starved = all_so _ _ (λ (k : ℕ). gone_left since t.talks a b wg same k) t.starved e.starved;
          ordered_once = e.ordered_once;
          broken_once = e.broken_once;
          starved_once = e.starved_once;
          faults = subst (λ (n : ℕ). RoseBy (length t.broken) since.wire.faults n) (sym w.faults) e.faults;
        };
      }

  -- so they are all closed
  pub all_closed : (kind : Kind C Data Settings) (may : Data → Type 0) (first : List Data) (since : Moment Data Settings) (t : Traffic C Data) (at : ℕ → Option (Live C)) (len : ℕ) (now : Moment Data Settings)
      → ((key : ℕ) → at key ≡ None) → Relates kind may first since t at len now → AllClosed since.wire now.wire
  all_closed kind may first since t at len now none r = record {
    closed = λ k later given. elim (true_or (now.wire.links k).is_open) [
      | inl o ↦ let x = r.owned k later given o in absurd (none_some x.live (sym (none x.key) ∙ x.found))
      | inr c ↦ c
    ];
  }
