-- The steps of the keys, one after another.
use Rattle.std.proofs.Common.{ℕ, ◌≡◌, ◌≢◌, ◌+◌, ◌<◌, ◌≤◌, ◌⊎◌, inl, inr, List, Option, Some, None, true, false, refl, sym, ◌∙◌, ap, subst, arith}
use Rattle.std.proofs.lemmas.Bool.{cases_eq}
use Rattle.list_laws.proofs.Tests.{not_both_ways}
use Rattle.tpf_base.specs.Causes.{Rose}
use Rattle.tpf_base.specs.Links.{Link, WireState, Way, Sending, Receiving}
use Rattle.connections.specs.Kinds.{Kind}
use Rattle.serve_loop.specs.declared.live.Live.{Live}
use Rattle.serve_loop.specs.declared.live.Stepped.{Stepped}
use Rattle.serve_loop.specs.declared.live.Stepped.TheVariants as stepped
use Rattle.serve_loop.specs.declared.live.Turned.{Turned}
use Rattle.serve_loop.specs.Calls.{OneWay, MovesOn, StaysOn, StallsOn, ClosesOn, OnlyClosesOn, HasCalled, HasClosed, HasTurned, HasEnded, Moved, Stalled, Closed, CallsOnly, CallsAt, ByNeed, StepsLive, TurnsLive, StepsBelow, StepsAll, turned_with}
use Rattle.serve_loop.proofs.CallLemmas.{alone_none, alone_then, alone_on}
use Rattle.serve_loop.proofs.RelatesLemmas.{none_some}
use Rattle.serve_loop.proofs.SentenceLemmas.{some_same}

pub last_or : (key n : ℕ) → key < n + 1 → (key ≡ n) ⊎ (key < n)
last_or key n h = grind arith

pub below_or : (key n : ℕ) → (key < n) ⊎ (n ≤ key)
below_or key n = grind arith

abbrev pub nothing : Turned
nothing = record { moved = false; ended = 0; starved = 0 }

one_way_as : (way : Way) (piece : List ℕ) (b a c d : Link) → b ≡ a → d ≡ c → OneWay way piece b c → OneWay way piece a d
one_way_as way piece b a c d e f moves = subst (λ (x : Link). OneWay way piece x d) e (subst (λ (x : Link). OneWay way piece b x) (sym f) moves)

-- moves are seen from before calls on other links, and after them
pub moves_on : (way : Way) (k : ℕ) (a b c d : WireState) → b.links k ≡ a.links k → d.links k ≡ c.links k → MovesOn way k b c → MovesOn way k a d
moves_on way k a b c d e f m = record {
  piece = m.piece;
  some = m.some;
  moves = one_way_as way m.piece (b.links k) (a.links k) (c.links k) (d.links k) e f m.moves;
  is_open = ap (λ (l : Link). l.is_open) f ∙ m.is_open;
}

pub stays_on : (k : ℕ) (a b c d : WireState) → b.links k ≡ a.links k → d.links k ≡ c.links k → StaysOn k b c → StaysOn k a d
stays_on k a b c d e f s = record {
  sent = ap (λ (l : Link). l.sent) f ∙ s.sent ∙ ap (λ (l : Link). l.sent) e;
  received = ap (λ (l : Link). l.received) f ∙ s.received ∙ ap (λ (l : Link). l.received) e;
}

stalls_on : (way : Way) (k : ℕ) (a b c d : WireState) → b.links k ≡ a.links k → d.links k ≡ c.links k → StallsOn way k b c → StallsOn way k a d
stalls_on way k a b c d e f s = record {
  stays = stays_on k a b c d e f s.stays;
  rose = subst (λ (l : Link). Rose l.stalls (d.links k).stalls) e (subst (λ (l : Link). Rose (b.links k).stalls l.stalls) (sym f) s.rose);
  stalled = ap (λ (l : Link). l.stalled) f ∙ s.stalled;
  is_open = ap (λ (l : Link). l.is_open) f ∙ s.is_open;
}

pub closes_on : (way : Way) (k : ℕ) (a b c d : WireState) → b.links k ≡ a.links k → d.links k ≡ c.links k → ClosesOn way k b c → ClosesOn way k a d
closes_on way k a b c d e f s = record {
  closed = ap (λ (l : Link). l.is_open) f ∙ s.closed;
  moves = elim s.moves [
    | inl stays ↦ inl (stays_on k a b c d e f stays)
    | inr moves ↦ inr (moves.0, one_way_as way moves.0 (b.links k) (a.links k) (c.links k) (d.links k) e f moves.1)
  ];
}

only_closes_on : (k : ℕ) (a b c d : WireState) → b.links k ≡ a.links k → d.links k ≡ c.links k → OnlyClosesOn k b c → OnlyClosesOn k a d
only_closes_on k a b c d e f s = record { closed = ap (λ (l : Link). l.is_open) f ∙ s.closed; stays = stays_on k a b c d e f s.stays }

-- and so of what a turn did, where nothing else touched the link
turned_keeps : (x y : Turned) (k : ℕ) (a b c d : WireState) (way : Way) → (x.moved ≡ true → y.moved ≡ true) → x.ended ≤ y.ended → b.links k ≡ a.links k → d.links k ≡ c.links k → HasTurned x k b c way → HasTurned y k a d way
turned_keeps x y k a b c d way f g e h (Moved m p) = Moved (f m) (moves_on way k a b c d e h p)
turned_keeps x y k a b c d way f g e h (Stalled r) = Stalled (stalls_on way k a b c d e h r)
turned_keeps x y k a b c d way f g e h (Closed p q) = Closed (omega (arith, p, g)) (closes_on way k a b c d e h q)

module _ {C Data Settings : Type 0} where
  need_as : (kind : Kind C Data Settings) (c : C) (P Q : Way → Type 0) (E F : Type 0) → ((way : Way) → P way → Q way) → (E → F) → ByNeed kind c P E → ByNeed kind c Q F
  need_as kind c P Q E F f g n = record {
    speaks = λ s. f Sending (n.speaks s);
    listens = λ q h. f Receiving (n.listens q h);
    closes = λ q h. g (n.closes q h);
    called = (n.called.0, f n.called.0 n.called.1);
  }

  pub live_keeps : (kind : Kind C Data Settings) (v : C) (x y : Turned) (k : ℕ) (a b c d : WireState) → (x.moved ≡ true → y.moved ≡ true) → x.ended ≤ y.ended → b.links k ≡ a.links k → d.links k ≡ c.links k
      → TurnsLive kind v x k b c → TurnsLive kind v y k a d
  live_keeps kind v x y k a b c d f g e h n = need_as kind v (HasTurned x k b c) (HasTurned y k a d) (HasEnded x k b c) (HasEnded y k a d)
      (λ way. turned_keeps x y k a b c d way f g e h) (λ p. ((let q = p.0 in omega (arith, q, g)), only_closes_on k a b c d e h p.1)) n

  -- the step of the link's connection is what the turn did on it
  live_step : (kind : Kind C Data Settings) (v : C) (x : Turned) (answer : Stepped) (k : ℕ) (a b c : WireState) → b.links k ≡ a.links k → StepsLive kind v answer k b c → TurnsLive kind v (turned_with x (Some answer)) k a c
  live_step kind v x stepped.Moved k a b c e n = need_as kind v (HasCalled stepped.Moved k b c) (HasTurned (turned_with x (Some stepped.Moved)) k a c) (HasClosed stepped.Moved k b c) (HasEnded (turned_with x (Some stepped.Moved)) k a c)
      (λ way p. Moved refl (moves_on way k a b c c e refl p.0)) (λ p. absurd (not_both_ways false p.0 refl)) n
  live_step kind v x stepped.Still k a b c e n = need_as kind v (HasCalled stepped.Still k b c) (HasTurned (turned_with x (Some stepped.Still)) k a c) (HasClosed stepped.Still k b c) (HasEnded (turned_with x (Some stepped.Still)) k a c)
      (λ way p. Stalled (stalls_on way k a b c c e refl p)) (λ p. absurd (not_both_ways false p.0 refl)) n
  live_step kind v x stepped.Ended k a b c e n = need_as kind v (HasCalled stepped.Ended k b c) (HasTurned (turned_with x (Some stepped.Ended)) k a c) (HasClosed stepped.Ended k b c) (HasEnded (turned_with x (Some stepped.Ended)) k a c)
      (λ way p. Closed (omega arith) (closes_on way k a b c c e refl p)) (λ p. (omega arith, only_closes_on k a b c c e refl p.1)) n
  live_step kind v x stepped.Starved k a b c e n = need_as kind v (HasCalled stepped.Starved k b c) (HasTurned (turned_with x (Some stepped.Starved)) k a c) (HasClosed stepped.Starved k b c) (HasEnded (turned_with x (Some stepped.Starved)) k a c)
      (λ way p. Closed (omega arith) (closes_on way k a b c c e refl p)) (λ p. (omega arith, only_closes_on k a b c c e refl p.1)) n

module _ {C Data Settings : Type 0} where
  pub below_none : (kind : Kind C Data Settings) (at : ℕ → Option (Live C)) (w : WireState) → StepsBelow kind nothing 0 at w w
  below_none kind at w = record {
    links = λ key l below e. absurd (omega (arith, below));
    others = λ k foreign. refl;
    moved = λ e. absurd cc;
    ended = λ e. absurd (omega (arith, e));
    still = λ e k is_open. record { sent = refl; received = refl };
    idle = λ s. elim s [ inl e ↦ absurd (not_both_ways false e refl) | inr z ↦ z ];
    given = refl;
    waits = refl;
    door = refl;
    alone = alone_none w;
  }

  -- no connection has the key
  below_skip : (kind : Kind C Data Settings) (turned : Turned) (n : ℕ) (at : ℕ → Option (Live C)) (a b c : WireState) → StepsBelow kind turned n at a b → at n ≡ None → c ≡ b → StepsBelow kind turned (n + 1) at a c
  below_skip kind turned n at a b c h none same = subst (λ (w : WireState). StepsBelow kind turned (n + 1) at a w) (sym same) (record {
    links = λ key l below e. elim (last_or key n below) [
      | inl p ↦ absurd (none_some l (sym none ∙ ap at (sym p) ∙ e))
      | inr q ↦ h.links key l q e
    ];
    others = λ k foreign. h.others k (λ key l below e. foreign key l (omega (arith, below)) e);
    moved = λ e. let m = h.moved e in (m.0, m.1, (let p = m.2 in omega (arith, p)), m.3, m.4);
    ended = λ e. let m = h.ended e in (m.0, m.1, (let p = m.2 in omega (arith, p)), m.3, m.4);
    still = h.still;
    idle = h.idle;
    given = h.given;
    waits = h.waits;
    door = h.door;
    alone = h.alone;
  })

  -- the connection of the key was stepped
  below_by : (kind : Kind C Data Settings) (x y : Turned) (n : ℕ) (at : ℕ → Option (Live C)) (a b c : WireState) (m : Live C)
      → ((i j : ℕ) (p q : Live C) → at i ≡ Some p → at j ≡ Some q → p.link ≡ q.link → i ≡ j)
      → StepsBelow kind x n at a b → at n ≡ Some m → CallsOnly m.link b c → (x.moved ≡ true → y.moved ≡ true) → x.ended ≤ y.ended
      → TurnsLive kind m.connection y m.link a c
      → (y.moved ≡ true → (x.moved ≡ true) ⊎ (((way : Way) × MovesOn way m.link a c) × (c.idle ≡ 0)))
      → (0 < y.ended → (0 < x.ended) ⊎ ((c.links m.link).is_open ≡ false))
      → (y.moved ≡ false → (x.moved ≡ false) × ((c.links m.link).is_open ≡ true → StaysOn m.link a c))
      → StepsBelow kind y (n + 1) at a c
  below_by kind x y n at a b c m alone h found calls up more turned moved ended still =
      let other : (key : ℕ) (l : Live C) → key ≢ n → at key ≡ Some l → c.links l.link ≡ b.links l.link =
      λ key l ne e. calls.only.others l.link (λ s. ne (alone key n l m e found s)) in
      record {
        links = λ key l below e. elim (last_or key n below) [
          | inl p ↦ subst (λ (v : Live C). TurnsLive kind v.connection y v.link a c) (some_same (at n) m l found (ap at (sym p) ∙ e)) turned
          | inr q ↦ live_keeps kind l.connection x y l.link a a b c up more refl (other key l (λ s. absurd (omega (arith, q, s))) e) (h.links key l q e)
        ];
        others = λ k foreign. calls.only.others k (λ s. foreign n m (omega arith) found (sym s)) ∙ h.others k (λ key l below e. foreign key l (omega (arith, below)) e);
        moved = λ e. elim (moved e) [
          | inl p ↦ let o = h.moved p in (
            o.0,
            o.1,
            (let q = o.2 in omega (arith, q)),
            o.3,
            (o.4.0, moves_on o.4.0 o.1.link a a b c refl (other o.0 o.1 (let q = o.2 in λ s. absurd (omega (arith, q, s))) o.3) o.4.1),
          )
          | inr q ↦ (n, m, omega arith, found, q.0)
        ];
        ended = λ e. elim (ended e) [
          | inl p ↦ let o = h.ended p in (
            o.0,
            o.1,
            (let q = o.2 in omega (arith, q)),
            o.3,
            ap (λ (l : Link). l.is_open) (other o.0 o.1 (let q = o.2 in λ s. absurd (omega (arith, q, s))) o.3) ∙ o.4,
          )
          | inr q ↦ (n, m, omega arith, found, q)
        ];
        still = λ e k is_open. elim (cases_eq k m.link) [
          | inl p ↦ subst (λ (j : ℕ). StaysOn j a c) (sym p) ((still e).1 (subst (λ (j : ℕ). (c.links j).is_open ≡ true) p is_open))
          | inr ne ↦ let o = calls.only.others k ne in stays_on k a a b c refl o (h.still (still e).0 k (ap (λ (l : Link). l.is_open) (sym o) ∙ is_open))
        ];
        idle = λ s. elim s [
          | inl e ↦ elim (moved e) [ inl p ↦ calls.idle (h.idle (inl p)) | inr q ↦ q.1 ]
          | inr z ↦ calls.idle (h.idle (inr z))
        ];
        given = calls.only.given ∙ h.given;
        waits = calls.only.waits ∙ h.waits;
        door = calls.only.door ∙ h.door;
        alone = alone_then a b c h.alone (alone_on m.link b c calls.only);
      }

  -- the link is as it was before the steps of the keys below
  fresh_link : (kind : Kind C Data Settings) (x : Turned) (n : ℕ) (at : ℕ → Option (Live C)) (a b : WireState) (m : Live C)
      → ((i j : ℕ) (p q : Live C) → at i ≡ Some p → at j ≡ Some q → p.link ≡ q.link → i ≡ j)
      → StepsBelow kind x n at a b → at n ≡ Some m → b.links m.link ≡ a.links m.link
  fresh_link kind x n at a b m alone h found = h.others m.link (λ key l below e s. let same = alone key n l m e found s in absurd (omega (arith, below, same)))

  below_step : (kind : Kind C Data Settings) (x : Turned) (n : ℕ) (at : ℕ → Option (Live C)) (a b c : WireState) (m : Live C) (answer : Stepped)
      → ((i j : ℕ) (p q : Live C) → at i ≡ Some p → at j ≡ Some q → p.link ≡ q.link → i ≡ j)
      → StepsBelow kind x n at a b → at n ≡ Some m → StepsLive kind m.connection answer m.link b c → CallsOnly m.link b c
      → StepsBelow kind (turned_with x (Some answer)) (n + 1) at a c
  below_step kind x n at a b c m stepped.Moved alone h found called calls =
      let same = fresh_link kind x n at a b m alone h found in
      let moves = moves_on called.called.0 m.link a b c c same refl called.called.1.0 in
      below_by kind x (turned_with x (Some stepped.Moved)) n at a b c m alone h found calls (λ e. refl) (omega arith) (live_step kind m.connection x stepped.Moved m.link a b c same called)
      (λ e. inr ((called.called.0, moves), called.called.1.1)) (λ e. inl e) (λ e. absurd cc)
  below_step kind x n at a b c m stepped.Still alone h found called calls =
      let same = fresh_link kind x n at a b m alone h found in
      below_by kind x x n at a b c m alone h found calls (λ e. e) (omega arith) (live_step kind m.connection x stepped.Still m.link a b c same called)
      (λ e. inl e) (λ e. inl e) (λ e. (e, λ is_open. stays_on m.link a b c c same refl called.called.1.stays))
  below_step kind x n at a b c m stepped.Ended alone h found called calls =
      let same = fresh_link kind x n at a b m alone h found in
      below_by kind x (turned_with x (Some stepped.Ended)) n at a b c m alone h found calls (λ e. e) (omega arith) (live_step kind m.connection x stepped.Ended m.link a b c same called)
      (λ e. inl e) (λ e. inr called.called.1.closed) (λ e. (e, λ is_open. absurd (not_both_ways (c.links m.link).is_open is_open called.called.1.closed)))
  below_step kind x n at a b c m stepped.Starved alone h found called calls =
      let same = fresh_link kind x n at a b m alone h found in
      below_by kind x (turned_with x (Some stepped.Starved)) n at a b c m alone h found calls (λ e. e) (omega arith) (live_step kind m.connection x stepped.Starved m.link a b c same called)
      (λ e. inl e) (λ e. inr called.called.1.closed) (λ e. (e, λ is_open. absurd (not_both_ways (c.links m.link).is_open is_open called.called.1.closed)))

  -- whichever the slot
  below_at : (kind : Kind C Data Settings) (x : Turned) (n : ℕ) (at : ℕ → Option (Live C)) (a b c : WireState) (slot : Option (Live C)) (result : Option Stepped)
      → ((i j : ℕ) (p q : Live C) → at i ≡ Some p → at j ≡ Some q → p.link ≡ q.link → i ≡ j)
      → StepsBelow kind x n at a b → at n ≡ slot → CallsAt kind slot result b c
      → StepsBelow kind (turned_with x result) (n + 1) at a c
  below_at kind x n at a b c None None alone h found calls = below_skip kind x n at a b c h found calls
  below_at kind x n at a b c None (Some answer) alone h found calls = absurd calls
  below_at kind x n at a b c (Some m) None alone h found calls = absurd calls
  below_at kind x n at a b c (Some m) (Some answer) alone h found calls = below_step kind x n at a b c m answer alone h found calls.0 calls.1

  pub below_more : (kind : Kind C Data Settings) (x y : Turned) (n : ℕ) (at : ℕ → Option (Live C)) (a b c : WireState) (slot : Option (Live C)) (result : Option Stepped)
      → ((i j : ℕ) (p q : Live C) → at i ≡ Some p → at j ≡ Some q → p.link ≡ q.link → i ≡ j)
      → y ≡ turned_with x result → StepsBelow kind x n at a b → at n ≡ slot → CallsAt kind slot result b c
      → StepsBelow kind y (n + 1) at a c
  below_more kind x y n at a b c slot result alone is h found calls = subst (λ (z : Turned). StepsBelow kind z (n + 1) at a c) (sym is) (below_at kind x n at a b c slot result alone h found calls)

  -- all keys are below n
  pub below_all : (kind : Kind C Data Settings) (turned : Turned) (n : ℕ) (at : ℕ → Option (Live C)) (a b : WireState) → ((key : ℕ) → n ≤ key → at key ≡ None) → StepsBelow kind turned n at a b → StepsAll kind turned at a b
  below_all kind turned n at a b none h =
      let within : (key : ℕ) (l : Live C) → at key ≡ Some l → key < n = λ key l e. elim (below_or key n) [
        | inl p ↦ p
        | inr q ↦ absurd (none_some l (sym (none key q) ∙ e))
      ] in
      record {
        links = λ key l e. h.links key l (within key l e) e;
        others = λ k foreign. h.others k (λ key l below e s. foreign (record { key = key; live = l; found = e; link = s }));
        moved = λ e. let m = h.moved e in (m.0, m.1, m.3, m.4);
        ended = λ e. let m = h.ended e in (m.0, m.1, m.3, m.4);
        still = h.still;
        idle = h.idle;
        given = h.given;
        waits = h.waits;
        door = h.door;
        alone = h.alone;
      }
