-- Turns, one after another, and the exit.
use Rattle.std.proofs.Common.{ℕ, ◌≡◌, ◌+◌, ◌-◌, ◌<◌, ◌≤◌, List, Option, Some, None, sym, ◌∙◌, ap, subst, arith}
use Rattle.std.specs.Prelude.{◌↔◌, IfSome}
use Rattle.tpf_base.specs.Causes.{counted_by}
use Rattle.tpf_base.specs.Links.{WireState}
use Rattle.connections.specs.Versions.{Serving, IsHistory, SupplyState}
use Rattle.connections.specs.Kinds.{Kind, BeginsResponse, IsWhole}
use Rattle.serve_loop.specs.declared.live.Live.{Live}
use Rattle.serve_loop.specs.declared.live.TheConstants.{MOST_LIVE}
use Rattle.serve_loop.specs.declared.live.Served.{Served}
use Rattle.serve_loop.specs.declared.live.Turned.{Turned}
use Rattle.serve_loop.specs.Traffic.{Traffic, Moment, no_traffic}
use Rattle.serve_loop.specs.Relates.{Relates, SuitsWire}
use Rattle.serve_loop.specs.Sentence.{Sentence, SpeaksWhole, AllClosed, LeavesOlder}
use Rattle.serve_loop.specs.Calls.{RestsWire, LeavesAll, served_with}
use Rattle.serve_loop.specs.Steps.{TurnsTo, ServesTo, Carries}
use Rattle.serve_loop.specs.Traffic.{moment}
use Rattle.serve_loop.proofs.SentenceLemmas.{sentence, speaks_whole}
use Rattle.serve_loop.proofs.EndsLemmas.{ends_same, ends_then, ends_as, ended_more}
use Rattle.serve_loop.proofs.TurnLemmas.{relates_may}
use Rattle.serve_loop.proofs.BelowLemmas.{nothing}
use Rattle.serve_loop.proofs.WelcomeLemmas.{rests_open}
use Rattle.serve_loop.proofs.CloseLemmas.{relates_left, all_closed}
use Rattle.serve_loop.proofs.StepLemmas.{begins}

counts_more : (x y z n e : ℕ) → x ≡ counted_by n 0 → y ≡ counted_by e x → y ≡ counted_by (n + e) 0
counts_more x y z n e p q = omega (arith, p, q)

-- ---- how many are enough

pub less_if : (o : Option ℕ) (n : ℕ) → IfSome o (λ m. n < m) → IfSome o (λ m. n ≤ m - 1)
less_if None n h = tt
less_if (Some m) n h = omega (arith, h)

pub first_if : (o : Option ℕ) (x y e : ℕ) → y ≡ counted_by e x → e ≤ MOST_LIVE → IfSome o (λ m. x ≤ m - 1) → IfSome o (λ m. y ≤ (m - 1) + MOST_LIVE)
first_if None x y e is few h = tt
first_if (Some m) x y e is few h = omega (arith, is, few, h)

pub zero_if : (o : Option ℕ) → IfSome o (λ m. 0 ≤ m - 1)
zero_if None = tt
zero_if (Some m) = omega arith

module _ {C : Type 0} where
  -- after a wait the same connections suit the wire
  pub suits_rests : {Server : Type 0} (Suits : Server → C → Type 0) (server : Server) (at : ℕ → Option (Live C)) (a b : WireState) → RestsWire a b → SuitsWire Suits server at a → SuitsWire Suits server at b
  suits_rests Suits server at a b w s = record {
    is_open = λ key l h. rests_open a b w l.link ∙ s.is_open key l h;
    given = λ key l h. subst (λ (n : ℕ). l.link < n) (sym w.given) (s.given key l h);
    suits = s.suits;
    distinct = s.distinct;
  }

module _ {C Data Settings : Type 0} where
  pub serves_none : (kind : Kind C Data Settings) (may : Data → Type 0) (first : List Data) (since : Moment Data Settings) (t : Traffic C Data) (at : ℕ → Option (Live C)) (len : ℕ) (now : Moment Data Settings)
      → Relates kind may first since t at len now → ServesTo kind may first since t (record { connections = 0; starved = 0 }) at len now now
  serves_none kind may first since t at len now r = record {
    traffic = t;
    relates = r;
    count = 0;
    wanted = 0;
    ends = ends_same t now.wire.faults now.wire.faults (omega arith);
    connections = omega arith;
    starved = omega arith;
  }

  -- one turn more
  pub serves_turn : (kind : Kind C Data Settings) (may may' : Data → Type 0) (first : List Data) (since : Moment Data Settings) (t : Traffic C Data) (x y : Served) (turned : Turned) (at at' : ℕ → Option (Live C)) (len rest : ℕ) (old mid now : Moment Data Settings)
      → ((d : Data) → may' d ↔ may d) → y ≡ served_with x turned → ServesTo kind may first since t x at len old mid
      → ((u : Traffic C Data) → Relates kind may' first since u at len mid → TurnsTo kind may' first since u turned at' rest mid now)
      → ServesTo kind may first since t y at' rest old now
  serves_turn kind may may' first since t x y turned at at' len rest old mid now same is p f =
      let q = f p.traffic (relates_may kind may may' first since p.traffic at len mid (λ d. (same d).1) p.relates) in
      record {
        traffic = q.traffic;
        relates = relates_may kind may' may first since q.traffic at' rest now (λ d. (same d).0) q.relates;
        count = p.count + turned.ended;
        wanted = p.wanted + turned.starved;
        ends = ends_then t p.traffic q.traffic p.count turned.ended p.wanted turned.starved old.wire.faults mid.wire.faults now.wire.faults p.ends q.ends;
        connections = counts_more x.connections y.connections 0 p.count turned.ended p.connections (ap (λ (z : Served). z.connections) is);
        starved = counts_more x.starved y.starved 0 p.wanted turned.starved p.starved (ap (λ (z : Served). z.starved) is);
      }

  -- what followed it ended no connection
  pub serves_follow : (kind : Kind C Data Settings) (may : Data → Type 0) (first : List Data) (since : Moment Data Settings) (t : Traffic C Data) (x : Served) (at at' : ℕ → Option (Live C)) (len rest : ℕ) (old mid now : Moment Data Settings)
      → ServesTo kind may first since t x at len old mid
      → ((u : Traffic C Data) → Relates kind may first since u at len mid → TurnsTo kind may first since u nothing at' rest mid now)
      → ServesTo kind may first since t x at' rest old now
  serves_follow kind may first since t x at at' len rest old mid now p f =
      let q = f p.traffic p.relates in
      record {
        traffic = q.traffic;
        relates = q.relates;
        count = p.count;
        wanted = p.wanted;
        ends = ends_as t q.traffic (p.count + 0) p.count (p.wanted + 0) p.wanted old.wire.faults now.wire.faults (omega arith) (omega arith)
            (ends_then t p.traffic q.traffic p.count 0 p.wanted 0 old.wire.faults mid.wire.faults now.wire.faults p.ends q.ends);
        connections = p.connections;
        starved = p.starved;
      }

  pub serves_carries : (kind : Kind C Data Settings) (may : Data → Type 0) (first : List Data) (since : Moment Data Settings) (t : Traffic C Data) (x : Served) (at : ℕ → Option (Live C)) (len : ℕ) (old now : Moment Data Settings)
      → ServesTo kind may first since t x at len old now → Carries kind may first since at len now
  serves_carries kind may first since t x at len old now p = record { traffic = p.traffic; relates = p.relates }

  -- what failed behind it
  pub serves_failed : (kind : Kind C Data Settings) (may : Data → Type 0) (first : List Data) (since : Moment Data Settings) (t : Traffic C Data) (x : Served) (at at' : ℕ → Option (Live C)) (len rest : ℕ) (old mid now : Moment Data Settings)
      → ServesTo kind may first since t x at len old mid
      → ((u : Traffic C Data) → Relates kind may first since u at len mid → Carries kind may first since at' rest now)
      → Carries kind may first since at' rest now
  serves_failed kind may first since t x at at' len rest old mid now p f = f p.traffic p.relates

  -- a turn that failed
  pub serves_fault : (kind : Kind C Data Settings) (may may' : Data → Type 0) (first : List Data) (since : Moment Data Settings) (t : Traffic C Data) (x : Served) (at at' : ℕ → Option (Live C)) (len rest : ℕ) (old mid now : Moment Data Settings)
      → ((d : Data) → may' d ↔ may d) → ServesTo kind may first since t x at len old mid
      → ((u : Traffic C Data) → Relates kind may' first since u at len mid → Relates kind may' first since u at' rest now)
      → Carries kind may first since at' rest now
  serves_fault kind may may' first since t x at at' len rest old mid now same p f = record {
    traffic = p.traffic;
    relates = relates_may kind may' may first since p.traffic at' rest now (λ d. (same d).0) (f p.traffic (relates_may kind may may' first since p.traffic at len mid (λ d. (same d).1) p.relates));
  }

  -- ---- at the exit

  pub sentence_left : (kind : Kind C Data Settings) → BeginsResponse kind → (may : Data → Type 0) (first : List Data) (since : Moment Data Settings) (at at' : ℕ → Option (Live C)) (len : ℕ) (served : Serving Data Settings) (supply : SupplyState Data) (a b : WireState)
      → LeavesAll at a b → ((key : ℕ) → at' key ≡ None) → Carries kind may first since at len (moment served supply a)
      → Sentence kind may first since (moment served supply b)
  sentence_left kind begins may first since at at' len served supply a b w none p =
      sentence kind begins may first since (record p.traffic { left = p.traffic.left + len }) at' 0 (moment served supply b)
      (relates_left kind may first since p.traffic at at' len served supply a b w none p.relates)

  pub whole_left : (kind : Kind C Data Settings) → BeginsResponse kind → IsWhole kind → (may : Data → Type 0) (first : List Data) (since : Moment Data Settings) (t : Traffic C Data) (x : Served) (at at' : ℕ → Option (Live C)) (len : ℕ) (old : Moment Data Settings) (served : Serving Data Settings) (supply : SupplyState Data) (a b : WireState)
      → LeavesAll at a b → ((key : ℕ) → at' key ≡ None) → ServesTo kind may first since t x at len old (moment served supply a)
      → SpeaksWhole kind may first since (moment served supply b) old.wire.faults x.connections x.starved
  whole_left kind begins whole may first since t x at at' len old served supply a b w none p =
      let e = p.ends in
      let er = e.rose in
      let wf = w.faults in
      speaks_whole kind begins whole may first since t (record p.traffic { left = p.traffic.left + len }) at' 0 (moment served supply b) p.count p.wanted old.wire.faults x.connections x.starved
      (relates_left kind may first since p.traffic at at' len served supply a b w none p.relates)
      (record {
        ordered = e.ordered;
        broken = e.broken;
        starved = e.starved;
        ordered_is = e.ordered_is;
        broken_is = e.broken_is;
        starved_is = e.starved_is;
        count_is = e.count_is;
        wanted_is = e.wanted_is;
        rose = omega (arith, er, wf);
      })
      p.connections p.starved

  -- so many links were given
  pub links_given : (kind : Kind C Data Settings) (may : Data → Type 0) (first : List Data) (since : Moment Data Settings) (x : Served) (at : ℕ → Option (Live C)) (len : ℕ) (old now : Moment Data Settings)
      → ServesTo kind may first since (no_traffic first) x at len old now → since.wire.given + x.connections ≤ now.wire.given
  links_given kind may first since x at len old now p =
      let c = p.relates.count in
      let n = ended_more (no_traffic first) p.traffic p.count p.wanted old.wire.faults now.wire.faults p.ends in
      let k = p.connections in
      omega (arith, c, n, k)

  -- a loop without connections begins, whatever the length is called
  pub begins_at : (kind : Kind C Data Settings) (may : Data → Type 0) (first : List Data) (at : ℕ → Option (Live C)) (len : ℕ) (served : Serving Data Settings) (supply : SupplyState Data) (a : WireState)
      → len ≡ 0 → ((key : ℕ) → at key ≡ None) → IsHistory first served
      → Relates kind may first (moment served supply a) (no_traffic first) at len (moment served supply a)
  begins_at kind may first at len served supply a zero none h =
      subst (λ (n : ℕ). Relates kind may first (moment served supply a) (no_traffic first) at n (moment served supply a)) (sym zero) (begins kind may first at served supply a h none)

  pub closed_left : (kind : Kind C Data Settings) (may : Data → Type 0) (first : List Data) (since : Moment Data Settings) (at at' : ℕ → Option (Live C)) (len : ℕ) (served : Serving Data Settings) (supply : SupplyState Data) (a b : WireState)
      → LeavesAll at a b → ((key : ℕ) → at' key ≡ None) → Carries kind may first since at len (moment served supply a)
      → AllClosed since.wire b
  closed_left kind may first since at at' len served supply a b w none p =
      all_closed kind may first since (record p.traffic { left = p.traffic.left + len }) at' 0 (moment served supply b) none
      (relates_left kind may first since p.traffic at at' len served supply a b w none p.relates)

  -- the links from before are as they were
  pub older_left : (kind : Kind C Data Settings) (may : Data → Type 0) (first : List Data) (since : Moment Data Settings) (at at' : ℕ → Option (Live C)) (len : ℕ) (served : Serving Data Settings) (supply : SupplyState Data) (a b : WireState)
      → LeavesAll at a b → ((key : ℕ) → at' key ≡ None) → Carries kind may first since at len (moment served supply a)
      → LeavesOlder since.wire b
  older_left kind may first since at at' len served supply a b w none p =
      (relates_left kind may first since p.traffic at at' len served supply a b w none p.relates).older

  -- ---- what a turn says

  pub sentence_turn : (kind : Kind C Data Settings) → BeginsResponse kind → (may : Data → Type 0) (first : List Data) (since : Moment Data Settings) (t : Traffic C Data) (turned : Turned) (at : ℕ → Option (Live C)) (len : ℕ) (old now : Moment Data Settings)
      → TurnsTo kind may first since t turned at len old now → Sentence kind may first since now
  sentence_turn kind begins may first since t turned at len old now q = sentence kind begins may first since q.traffic at len now q.relates

  pub speaks_turn : (kind : Kind C Data Settings) → BeginsResponse kind → IsWhole kind → (may : Data → Type 0) (first : List Data) (since : Moment Data Settings) (t : Traffic C Data) (turned : Turned) (at : ℕ → Option (Live C)) (len : ℕ) (old now : Moment Data Settings)
      → turned.ended ≤ MOST_LIVE → TurnsTo kind may first since t turned at len old now → SpeaksWhole kind may first since now old.wire.faults turned.ended turned.starved
  speaks_turn kind begins whole may first since t turned at len old now few q =
      let c = q.ends.count_is in
      let w = q.ends.wanted_is in
      speaks_whole kind begins whole may first since t q.traffic at len now turned.ended turned.starved old.wire.faults turned.ended turned.starved q.relates q.ends (omega (arith, few)) (omega (arith, few, c, w))
