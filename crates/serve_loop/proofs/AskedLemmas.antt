-- The turns of a service, and how often it asked its supply in them.
use Rattle.std.proofs.Common.{ℕ, ◌≡◌, ◌+◌, Bool, List, [], ◌∷◌, ◌++◌, length, take, Option, Some, refl, ◌∙◌, ap, subst, arith, append-nil, length-append}
use Rattle.tpf_base.specs.Causes.{counted_by}
use Rattle.tpf_base.specs.Calls.{GivesNone}
use Rattle.tpf_base.specs.Links.{WireState}
use Rattle.connections.specs.Kinds.{Kind}
use Rattle.connections.specs.Versions.{Serving, SupplyState}
use Rattle.connections.specs.declared.reloaded.Reloaded.{Reloaded}
use Rattle.serve_loop.specs.declared.live.Live.{Live}
use Rattle.serve_loop.specs.declared.live.Part.{Part}
use Rattle.serve_loop.specs.declared.live.ServeFault.{ServeFault}
use Rattle.serve_loop.specs.declared.live.Turned.{Turned}
use Rattle.serve_loop.specs.declared.round.Round.{Round}
use Rattle.serve_loop.specs.Parts.{parted}
use Rattle.serve_loop.specs.Rounds.{Turn}
use Rattle.serve_loop.specs.Traffic.{Lives, Talk, Traffic, Moment, moment}
use Rattle.serve_loop.specs.Relates.{IsTalk, Relates}
use Rattle.serve_loop.specs.Calls.{LeavesAll}
use Rattle.serve_loop.specs.Asks.{AnswersAll, AreAnswered, waiting}
use Rattle.serve_loop.specs.Service.{PassesBetween, TakesTurn, ended_in}
use Rattle.serve_loop.specs.Greets.{FailsAfter, Greeting, Resting}
use Rattle.serve_loop.specs.AskedTurns.{AnswersLink, AreLive, AskedTurns, AsksOnce}
use Rattle.serve_loop.proofs.AskLemmas.{answered_may, answered_then, calls_answered}
use Rattle.serve_loop.proofs.CloseLemmas.{told_same, told_then}
use Rattle.serve_loop.proofs.GreetLemmas.{gives_between, greeted_count, greeted_gives, rests_between}
use Rattle.serve_loop.proofs.RoundLemmas.{Stands, turn_of}
use Rattle.serve_loop.proofs.SentenceLemmas.{has_one, some_same}

-- The turns so far, in which the supply was asked for these outcomes, the last one first.
pub record AskedSoFar {C Data Settings : Type 0} (kind : Kind C Data Settings) (may : Data → Type 0) (live : ℕ) (round : Round) (old now : Moment Data Settings) : Type 0 where
  pub turns : List Turn
  pub waited : ℕ
  pub took : AskedTurns kind may old.served.config old.wire.given turns waited old now
  pub links : live + ended_in turns + old.wire.given ≡ now.wire.given
  pub outcomes : List Reloaded
  pub count : length outcomes ≡ waited
  pub answered : AreAnswered may outcomes old (moment now.served now.supply old.wire)
  pub stands : Stands old.wire.given turns round now.wire

pub none_given : (w : WireState) → GivesNone w w
none_given w = record { given = refl; links = λ k. refl; idle = refl }

-- nothing was asked
pub none_asked : {Data Settings : Type 0} (served served' : Serving Data Settings) (supply supply' : SupplyState Data) (same : WireState) → moment served' supply' same ≡ moment served supply same → (served' ≡ served) × (supply' ≡ supply)
none_asked {Data = Data} {Settings = Settings} served served' supply supply' same a = (ap (λ (m : Moment Data Settings). m.served) a, ap (λ (m : Moment Data Settings). m.supply) a)

module _ {C Data Settings : Type 0} where
  pub asked_none : (kind : Kind C Data Settings) (may : Data → Type 0) (live : ℕ) (round : Round) (now : Moment Data Settings) → live ≡ 0 → Stands now.wire.given [] round now.wire → AskedSoFar kind may live round now now
  asked_none kind may live round now none stands = record { turns = []; waited = 0; took = (refl, refl); links = omega (arith, none); outcomes = []; count = refl; answered = refl; stands = stands }

  -- a live connection is that of an open link, and answers what came and went on it
  answers_link : (kind : Kind C Data Settings) (may : Data → Type 0) (first : List Data) (since now : Moment Data Settings) (t : Traffic C Data) (at : ℕ → Option (Live C)) (live key : ℕ) (l : Live C)
      → Relates kind may first since t at live now → at key ≡ Some l → AnswersLink kind since.served.config since.wire.given l now.wire
  answers_link kind may first since now t at live key l r found =
      let v = r.lives key l found in
      let talks = r.talks l.link v.later v.given in
      let h = subst (λ (x : Talk C). IsTalk kind since t.history t.owner now l.link x) (some_same (t.talks l.link) talks.talk v.talk talks.talk_is v.talk_is) talks.is in
      record {
        later = v.later;
        given = v.given;
        is_open = v.is_open;
        history = t.history;
        some = has_one t.history now.served r.versions.serves;
        fed = v.talk.fed;
        taken = v.talk.taken;
        marks = v.talk.marks;
        answers = subst (λ (c : Settings). kind.Answers t.history c v.talk.fed v.talk.taken v.talk.marks l.connection) r.versions.config
            (subst (λ (c : C). kind.Answers t.history now.served.config v.talk.fed v.talk.taken v.talk.marks c) v.connection h.answers);
        sent_is = λ sent told. h.sent_is sent told ∙ ap (λ (n : ℕ). v.talk.taken ++ take n (kind.pending v.talk.connection)) v.over ∙ append-nil v.talk.taken;
        received_is = λ received told. h.received_is received told ∙ ap (λ (x : List ℕ). v.talk.fed ++ x) v.unfed ∙ append-nil v.talk.fed;
      }

  are_live : (kind : Kind C Data Settings) (may : Data → Type 0) (first : List Data) (since now : Moment Data Settings) (t : Traffic C Data) (at : ℕ → Option (Live C)) (live : ℕ)
      → Relates kind may first since t at live now → AreLive kind since.served.config since.wire.given at now.wire
  are_live kind may first since now t at live r = record {
    answers = λ key l found. answers_link kind may first since now t at live key l r found;
    owned = r.owned;
    alone = r.alone;
  }

  answers_may : (kind : Kind C Data Settings) (may may' : Data → Type 0) (at : ℕ → Option (Live C)) (old now : Moment Data Settings) → ((d : Data) → may d → may' d) → AnswersAll kind may at old now → AnswersAll kind may' at old now
  answers_may kind may may' at old now f h = record {
    keys = h.keys;
    above = h.above;
    outcomes = h.outcomes;
    count = h.count;
    answered = answered_may may may' h.outcomes old now f h.answered;
    asked = h.asked;
  }

  -- one turn more, and what came behind it
  pub asked_more : (kind : Kind C Data Settings) (may may' : Data → Type 0) (first : List Data) (old : Moment Data Settings) (t : Traffic C Data) (at : ℕ → Option (Live C)) (live rest : ℕ) (part : Part) (turned : Turned) (round new : Round)
      (served served' : Serving Data Settings) (supply supply' : SupplyState Data) (a b c : WireState) (s : AskedSoFar kind may live round old (moment served supply a))
      → Relates kind may first old t at live (moment served supply a) → ((d : Data) → may' d → may d)
      → TakesTurn kind old.served.config old.wire.given s.turns (turn_of part a.given turned) a b
      → AnswersAll kind may' (parted part at) (moment served supply old.wire) (moment served' supply' old.wire)
      → PassesBetween b c → rest + turned.ended + a.given ≡ live + c.given → Stands old.wire.given (turn_of part a.given turned ∷ s.turns) new c
      → AskedSoFar kind may rest new old (moment served' supply' c)
  asked_more kind may may' first old t at live rest part turned round new served served' supply supply' a b c s r f turn asks between count stands =
      let h = answers_may kind may' may (parted part at) (moment served supply old.wire) (moment served' supply' old.wire) f asks in
      let sl = s.links in
      let hc = h.count in
      let sc = s.count in
      record {
        turns = turn_of part a.given turned ∷ s.turns;
        waited = s.waited + waiting kind (parted part at) h.keys;
        took = (
          moment served supply a,
          b,
          s.waited,
          waiting kind (parted part at) h.keys,
          s.took,
          turn,
          record { at = at; lives = are_live kind may first old (moment served supply a) t at live r; answers = h; waited_is = refl },
          between,
          refl,
        );
        links = omega (arith, sl, count);
        outcomes = h.outcomes ++ s.outcomes;
        count = omega (arith, length-append h.outcomes s.outcomes, hc, sc);
        answered = answered_then may s.outcomes h.outcomes old (moment served supply old.wire) (moment served' supply' old.wire) s.answered h.answered;
        stands = stands;
      }

  -- the end
  pub asks_once : (kind : Kind C Data Settings) (may : Data → Type 0) (live : ℕ) (round : Round) (old now : Moment Data Settings) (served : Serving Data Settings) (supply : SupplyState Data) (wire : WireState) → AskedSoFar kind may live round old now
      → served ≡ now.served → supply ≡ now.supply → GivesNone now.wire wire → AsksOnce kind may old (moment served supply wire)
  asks_once kind may live round old now served supply wire s of_served of_supply none = record {
    turns = s.turns;
    waited = s.waited;
    last = now;
    took = s.took;
    told = λ k. told_same (now.wire.links k) (wire.links k) (none.links k);
    given = none.given;
    served = of_served;
    supply = of_supply;
    asked = λ few fits.
        let c = s.count in
        ap (λ (x : SupplyState Data). x.calls) of_supply
        ∙ (calls_answered may s.outcomes old (moment now.served now.supply old.wire) s.answered (omega (arith, few, c)) fits).0
        ∙ ap (λ (n : ℕ). counted_by n old.supply.calls) s.count;
  }

  -- what followed the last turn failed
  pub failed_asks : (kind : Kind C Data Settings) (may : Data → Type 0) (fault : ServeFault) (rests : Bool) (round : Round) (at new : Lives C) (old : Moment Data Settings) (served : Serving Data Settings) (supply : SupplyState Data) (b c : WireState)
      → FailsAfter kind fault rests at new b c
      → ((m : WireState) (left : ℕ) → PassesBetween b m → left + b.given ≡ at.count + m.given → AskedSoFar kind may left round old (moment served supply m))
      → AsksOnce kind may old (moment served supply c)
  failed_asks kind may fault rests round at new old served supply b c (Greeting busy g) f =
      asks_once kind may g.mid.count round old (moment served supply g.between) served supply c
      (f g.between g.mid.count (gives_between b g.between (greeted_gives kind g.number at g.mid b g.between g.greeted)) (greeted_count kind g.number at g.mid b g.between g.greeted))
      refl refl g.fails.none
  failed_asks kind may fault rests round at new old served supply b c (Resting quiet same w fails) f =
      let wg = w.given in
      asks_once kind may at.count round old (moment served supply c) served supply c (f c at.count (rests_between b c w) (omega (arith, wg))) refl refl (none_given c)

  -- at the exit links are closed
  pub asks_left : (kind : Kind C Data Settings) (may : Data → Type 0) (at : ℕ → Option (Live C)) (old : Moment Data Settings) (served : Serving Data Settings) (supply : SupplyState Data) (a b : WireState)
      → LeavesAll at a b → AsksOnce kind may old (moment served supply a) → AsksOnce kind may old (moment served supply b)
  asks_left kind may at old served supply a b leaves s = record {
    turns = s.turns;
    waited = s.waited;
    last = s.last;
    took = s.took;
    told = λ k. told_then (s.last.wire.links k) (a.links k) (b.links k) (s.told k) (leaves.told k);
    given = leaves.given ∙ s.given;
    served = s.served;
    supply = s.supply;
    asked = s.asked;
  }
