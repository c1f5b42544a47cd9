-- The turns and waits of a service, one after another.
use Rattle.std.proofs.Common.{ℕ, ◌≡◌, ◌+◌, ◌<◌, ◌≤◌, ◌^◌, inl, inr, List, [], ◌∷◌, ◌++◌, take, Option, Some, None, true, refl, sym, ◌∙◌, ap, subst, arith, append-nil}
use Rattle.std.specs.Prelude.{IfSome, IfErr, Result, Err}
use Rattle.list_laws.proofs.Tests.{not_both_ways}
use Rattle.tpf_base.specs.Causes.{Rose, counted_by}
use Rattle.tpf_base.specs.Links.{Door, WireState}
use Rattle.connections.specs.Kinds.{Kind}
use Rattle.serve_loop.specs.declared.live.Live.{Live}
use Rattle.serve_loop.specs.declared.live.Part.{Part}
use Rattle.serve_loop.specs.declared.live.ServeFault.{ServeFault}
use Rattle.serve_loop.specs.declared.live.ServeFault.TheVariants as faults
use Rattle.serve_loop.specs.declared.live.TheConstants.{MOST_LIVE}
use Rattle.serve_loop.specs.declared.live.Turned.{Turned}
use Rattle.serve_loop.specs.declared.round.Round.{Round}
use Rattle.serve_loop.specs.Parts.{is_in, parted}
use Rattle.serve_loop.specs.Rounds.{Turn, IsNext, rests_behind}
use Rattle.serve_loop.specs.Traffic.{Talk, Traffic, Moment}
use Rattle.serve_loop.specs.Relates.{IsTalk, Relates}
use Rattle.serve_loop.specs.Calls.{ServesAlone, IsBusy, LeavesAll, IsOwned}
use Rattle.serve_loop.specs.Service.{ended_in, ServesLink, TakesTurn, ComesAfter, TookTurns, AreTooFew, FailsTurn, FailsWait, RoseAtDoor, HasDoorCause, ServesTurns, FailsTurns}
use Rattle.serve_loop.proofs.CloseLemmas.{links_none, links_then}
use Rattle.serve_loop.proofs.PartLemmas.{among_some, among_in}
use Rattle.serve_loop.proofs.RoundLemmas.{Stands, turn_of}
use Rattle.serve_loop.proofs.SentenceLemmas.{has_one, some_same}

-- The turns so far.
pub record SoFar {C Data Settings : Type 0} (kind : Kind C Data Settings) (config : Settings) (stop_after : Option ℕ) (connections live : ℕ) (round : Round) (old now : WireState) : Type 0 where
  pub turns : List Turn
  pub took : TookTurns kind config old.given turns old now
  pub count : connections ≡ counted_by (ended_in turns) 0
  pub links : live + ended_in turns + old.given ≡ now.given
  pub too_few : AreTooFew stop_after turns
  pub stands : Stands old.given turns round now

pub so_far_none : {C Data Settings : Type 0} (kind : Kind C Data Settings) (config : Settings) (stop_after : Option ℕ) (live : ℕ) (round : Round) (w : WireState) → live ≡ 0 → Stands w.given [] round w
    → SoFar kind config stop_after 0 live round w w
so_far_none kind config stop_after live round w none stands = record {
  turns = [];
  took = refl;
  count = refl;
  links = omega (arith, none);
  too_few = λ some. absurd (some refl);
  stands = stands;
}

few_enough : (stop_after : Option ℕ) (x n : ℕ) → IfSome stop_after (λ m. m < 2 ^ 64) → x ≡ counted_by n 0 → IfSome stop_after (λ m. x < m) → IfSome stop_after (λ m. n < m)
few_enough None x n fits is h = tt
few_enough (Some m) x n fits is h = omega (arith, fits, is, h)

-- how many links there were behind a turn, and behind what followed it
pub links_after : (live rest done ended since given after : ℕ) → live + done + since ≡ given → rest + ended + given ≡ live + after → rest + (done + ended) + since ≡ after
links_after live rest done ended since given after links count = omega (arith, links, count)

pub count_after : (live rest left ended given after now : ℕ) → rest + ended + given ≡ live + after → left + after ≡ rest + now → left + ended + given ≡ live + now
count_after live rest left ended given after now count more = omega (arith, count, more)

count_more : (x y n e : ℕ) → x ≡ counted_by n 0 → y ≡ counted_by e x → y ≡ counted_by (n + e) 0
count_more x y n e p q = omega (arith, p, q)

module _ {C Data Settings : Type 0} where
  -- an open link of the service is that of a connection that answers what came and went on it
  serves_link : (kind : Kind C Data Settings) (may : Data → Type 0) (first : List Data) (since now : Moment Data Settings) (t : Traffic C Data) (part : Part) (turned : Turned) (at : ℕ → Option (Live C)) (live : ℕ) (b : WireState) (config : Settings) (k : ℕ)
      → config ≡ since.served.config → Relates kind may first since t at live now → IsBusy kind MOST_LIVE turned (parted part at) live now.wire b → since.wire.given ≤ k → k < now.wire.given → is_in part k ≡ true → (o : IsOwned at k)
      → ServesLink kind config turned k now.wire b
  serves_link kind may first since now t part turned at live b config k is r busy later given inside o =
      let l = r.lives o.key o.live o.found in
      let talks = r.talks o.live.link l.later l.given in
      let h = subst (λ (x : Talk C). IsTalk kind since t.history t.owner now o.live.link x) (some_same (t.talks o.live.link) talks.talk l.talk talks.talk_is l.talk_is) talks.is in
      subst (λ (j : ℕ). ServesLink kind config turned j now.wire b) o.link (record {
        connection = o.live.connection;
        history = t.history;
        some = has_one t.history now.served r.versions.serves;
        fed = l.talk.fed;
        taken = l.talk.taken;
        marks = l.talk.marks;
        answers = subst (λ (c : Settings). kind.Answers t.history c l.talk.fed l.talk.taken l.talk.marks o.live.connection) (r.versions.config ∙ sym is)
            (subst (λ (c : C). kind.Answers t.history now.served.config l.talk.fed l.talk.taken l.talk.marks c) l.connection h.answers);
        sent_is = λ sent told. h.sent_is sent told ∙ ap (λ (n : ℕ). l.talk.taken ++ take n (kind.pending l.talk.connection)) l.over ∙ append-nil l.talk.taken;
        received_is = λ received told. h.received_is received told ∙ ap (λ (x : List ℕ). l.talk.fed ++ x) l.unfed ∙ append-nil l.talk.fed;
        turns = busy.links o.key o.live (among_in part (at o.key) o.live o.found (ap (λ (j : ℕ). is_in part j) o.link ∙ inside));
      })

  -- a turn of the loop is one of the service, whose links are those of its connections
  pub takes_turn : (kind : Kind C Data Settings) (may : Data → Type 0) (first : List Data) (since now : Moment Data Settings) (t : Traffic C Data) (part : Part) (turned : Turned) (at : ℕ → Option (Live C)) (live : ℕ) (turns : List Turn) (b : WireState) (config : Settings)
      → config ≡ since.served.config → Relates kind may first since t at live now → live + ended_in turns + since.wire.given ≡ now.wire.given → IsNext since.wire.given turns part now.wire
      → IsBusy kind MOST_LIVE turned (parted part at) live now.wire b → (turned.moved ≡ true → b.idle ≡ 0)
      → TakesTurn kind config since.wire.given turns (turn_of part now.wire.given turned) now.wire b
  takes_turn kind may first since now t part turned at live turns b config is r links next busy idle = record {
    next = next;
    begun = refl;
    links = λ k later given is_open inside. serves_link kind may first since now t part turned at live b config k is r busy later given inside (r.owned k later given is_open);
    spared = λ k below out. busy.others k below (λ o. not_both_ways (is_in part k) (sym (ap (λ (j : ℕ). is_in part j) o.link) ∙ (among_some part (at o.key) o.live o.found).1) out);
    others = λ k below. busy.others k (omega (arith, below, links)) (λ o. let x = (r.lives o.key o.live (among_some part (at o.key) o.live o.found).0).later in let s = o.link in absurd (omega (arith, below, x, s)));
    door = elim busy.door [ inl many ↦ inl (omega (arith, many, links)) | inr asked ↦ inr asked ];
    moved = λ e. elim (busy.moved e) [
      | inl more ↦ inl more
      | inr m ↦ let l = r.lives m.0 m.1 (among_some part (at m.0) m.1 m.2).0 in inr (m.1.link, l.later, l.is_open, m.3)
    ];
    idle = idle;
    still = busy.still;
    ended = λ e. let m = busy.ended e in elim m.2 [
      | inl fresh ↦ (m.0, (let f = fresh.later in omega (arith, f, links)), m.1, inl fresh)
      | inr o ↦ let l = r.lives o.key o.live (among_some part (at o.key) o.live o.found).0 in
          (m.0, subst (λ (j : ℕ). since.wire.given ≤ j) o.link l.later, m.1, inr (subst (λ (j : ℕ). (now.wire.links j).is_open ≡ true) o.link l.is_open))
    ];
    waits = busy.waits;
    calm = busy.calm;
    alone = busy.alone;
  }

  -- one turn more, and what came after it
  pub so_far_more : (kind : Kind C Data Settings) (config : Settings) (stop_after : Option ℕ) (x y live rest : ℕ) (part : Part) (turned : Turned) (round new : Round) (old a b c : WireState) (s : SoFar kind config stop_after x live round old a)
      → TakesTurn kind config old.given s.turns (turn_of part a.given turned) a b → ComesAfter old.given (turn_of part a.given turned ∷ s.turns) b c
      → y ≡ counted_by turned.ended x → rest + turned.ended + a.given ≡ live + c.given → IfSome stop_after (λ m. m < 2 ^ 64) → IfSome stop_after (λ m. y < m)
      → Stands old.given (turn_of part a.given turned ∷ s.turns) new c
      → SoFar kind config stop_after y rest new old c
  so_far_more kind config stop_after x y live rest part turned round new old a b c s turn after is count fits few stands =
      let sl = s.links in
      let counted_is = count_more x y (ended_in s.turns) turned.ended s.count is in
      record {
        turns = turn_of part a.given turned ∷ s.turns;
        took = (a, b, s.took, turn, after);
        count = counted_is;
        links = omega (arith, sl, count);
        too_few = λ some. few_enough stop_after y (ended_in s.turns + turned.ended) fits counted_is few;
        stands = stands;
      }

  -- the last turn
  pub serves_turns : (kind : Kind C Data Settings) (config : Settings) (stop_after : Option ℕ) (x y live : ℕ) (part : Part) (turned : Turned) (round : Round) (old a b : WireState) (s : SoFar kind config stop_after x live round old a)
      → TakesTurn kind config old.given s.turns (turn_of part a.given turned) a b → y ≡ counted_by turned.ended x
      → ServesTurns kind config stop_after y old b
  serves_turns kind config stop_after x y live part turned round old a b s turn is = record {
    turns = s.turns;
    last = turn_of part a.given turned;
    before = a;
    after = b;
    took = s.took;
    turn = turn;
    left = links_none b;
    connections_is = count_more x y (ended_in s.turns) turned.ended s.count is;
    too_few = s.too_few;
  }

  -- a turn that failed
  pub fails_turn : (kind : Kind C Data Settings) (config : Settings) (stop_after : Option ℕ) (fault : ServeFault) (x live : ℕ) (round : Round) (old a b : WireState) (s : SoFar kind config stop_after x live round old a)
      → FailsTurn fault a b → FailsTurns kind config stop_after fault old b
  fails_turn kind config stop_after fault x live round old a b s fails = record { turns = s.turns; before = a; after = b; took = s.took; too_few = s.too_few; last = inl fails; left = links_none b }

  -- a wait that failed
  pub fails_wait : (kind : Kind C Data Settings) (config : Settings) (stop_after : Option ℕ) (fault : ServeFault) (x live : ℕ) (round : Round) (turn : Turn) (old a b c : WireState) (s : SoFar kind config stop_after x live round old a)
      → TakesTurn kind config old.given s.turns turn a b → rests_behind (turn ∷ s.turns) ≡ true → FailsWait fault b c → FailsTurns kind config stop_after fault old c
  fails_wait kind config stop_after fault x live round turn old a b c s takes rests fails = record {
    turns = s.turns;
    before = a;
    after = c;
    took = s.took;
    too_few = s.too_few;
    last = inr (inl (record { turn = turn; after = b; takes = takes; rests = rests; fails = fails }));
    left = links_none c;
  }

  -- at the exit links are closed, and nothing waits
  pub serves_left : (kind : Kind C Data Settings) (config : Settings) (stop_after : Option ℕ) (connections : ℕ) (at : ℕ → Option (Live C)) (old a b : WireState) → LeavesAll at a b
      → ServesTurns kind config stop_after connections old a → ServesTurns kind config stop_after connections old b
  serves_left kind config stop_after connections at old a b leaves s = record {
    turns = s.turns;
    last = s.last;
    before = s.before;
    after = s.after;
    took = s.took;
    turn = s.turn;
    left = links_then at s.after a b s.left leaves;
    connections_is = s.connections_is;
    too_few = s.too_few;
  }

  pub fails_left : (kind : Kind C Data Settings) (config : Settings) (stop_after : Option ℕ) (fault : ServeFault) (at : ℕ → Option (Live C)) (old a b : WireState) → LeavesAll at a b
      → FailsTurns kind config stop_after fault old a → FailsTurns kind config stop_after fault old b
  fails_left kind config stop_after fault at old a b leaves s = record {
    turns = s.turns;
    before = s.before;
    after = s.after;
    took = s.took;
    too_few = s.too_few;
    last = s.last;
    left = links_then at s.after a b s.left leaves;
  }

-- ---- a fault, since an earlier moment

pub rose_from : (a b c : WireState) → ServesAlone a b → RoseAtDoor b c → RoseAtDoor a c
rose_from a b c x r =
    let xf = x.faults in
    let xd = x.door_faults in
    let rf = r.faults in
    let rd = r.door in
    record { faults = omega (arith, xf, rf); door = omega (arith, xd, rd) }

pub rose_left : {C : Type 0} (at : ℕ → Option (Live C)) (a b c : WireState) → LeavesAll at b c → RoseAtDoor a b → RoseAtDoor a c
rose_left at a b c x r = record {
  faults = subst (λ (n : ℕ). Rose a.faults n) (sym x.faults) r.faults;
  door = subst (λ (d : Door). Rose a.door.faults d.faults) (sym x.door) r.door;
}

pub cause_rose : (fault : ServeFault) (a b : WireState) → HasDoorCause fault a b → fault ≡ faults.Wire → RoseAtDoor a b
cause_rose faults.Wire a b h e = h
cause_rose faults.OutOfMemory a b h e = absurd cc

pub wire_from : {X : Type 0} (r : Result X ServeFault) (f y : ServeFault) (a b c : WireState) → r ≡ Err y → y ≡ f → ServesAlone a b → HasDoorCause f b c → IfErr r (λ fault. fault ≡ faults.Wire → RoseAtDoor a c)
wire_from {X = X} r f y a b c e i h w = subst (λ (x : Result X ServeFault). IfErr x (λ fault. fault ≡ faults.Wire → RoseAtDoor a c)) (sym e)
    (λ q. rose_from a b c h (cause_rose f b c w (sym i ∙ q)))

-- the fault that is passed on
pub fault_as : {X : Type 0} (r : Result X ServeFault) (f y : ServeFault) (P : ServeFault → Type 0) → r ≡ Err y → y ≡ f → P f → IfErr r P
fault_as {X = X} r f y P e i p = subst (λ (x : Result X ServeFault). IfErr x P) (sym e) (subst P (sym i) p)
