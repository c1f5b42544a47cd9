-- Links that wait at the door get connections, one after another; and what that leaves of the traffic.
use Rattle.std.proofs.Common.{ℕ, zero, suc, ◌≡◌, ◌+◌, ◌≤◌, inl, inr, List, [], ◌∷◌, Option, Bool, true, false, refl, sym, ◌∙◌, ap, subst, arith}
use Rattle.std.specs.Prelude.{Result, Ok, Err, OnOk, IfErr, ⊤}
use Rattle.std.proofs.lemmas.Bool.{cases_eq}
use Rattle.tpf_base.specs.Links.{Link, WireState}
use Rattle.tpf_base.specs.Calls.{GivesNone}
use Rattle.tpf_base.specs.Sending.{Holds}
use Rattle.connections.specs.Versions.{Serving, SupplyState}
use Rattle.connections.specs.Kinds.{Kind}
use Rattle.serve_loop.specs.declared.live.Live.{Live}
use Rattle.serve_loop.specs.declared.live.ServeFault.{ServeFault}
use Rattle.serve_loop.specs.declared.live.ServeFault.TheVariants as faults
use Rattle.serve_loop.specs.declared.live.TheConstants.{MOST_LIVE}
use Rattle.serve_loop.specs.declared.round.Round.{Round}
use Rattle.serve_loop.specs.Rounds.{Turn, rests_behind}
use Rattle.serve_loop.specs.Traffic.{Lives, Traffic, Moment, moment}
use Rattle.serve_loop.specs.Relates.{Relates}
use Rattle.serve_loop.specs.Calls.{ServesAlone, RestsWire}
use Rattle.serve_loop.specs.Steps.{Carries, TurnsTo, Welcomes}
use Rattle.serve_loop.specs.Service.{ended_in, IsNew, GivesLinks, GreetsLinks, ComesAfter, Rests, Greets, PassesBetween, TakesTurn, FailsTurn, FailsTurns, RoseAtDoor}
use Rattle.serve_loop.specs.Greets.{Greeted, GreetsAll, FailsGreets, FollowsTurn, IsGreeted, IsRested, FailsAfter, Greeting, Resting}
use Rattle.serve_loop.proofs.CallLemmas.{alone_none, alone_then}
use Rattle.serve_loop.proofs.BelowLemmas.{nothing, below_or}
use Rattle.serve_loop.proofs.EndsLemmas.{ends_same}
use Rattle.serve_loop.proofs.StepLemmas.{goes_same}
use Rattle.serve_loop.proofs.TurnLemmas.{turns_none}
use Rattle.serve_loop.proofs.CloseLemmas.{links_none}
use Rattle.serve_loop.proofs.ServiceLemmas.{SoFar, fails_wait, rose_from, cause_rose}
use Rattle.serve_loop.proofs.WelcomeLemmas.{told_nothing, untouched_same, relates_rests, welcomed, unwelcomed, turns_after}

-- The links that were given so far.
pub record GreetedSoFar {C Data Settings : Type 0} (kind : Kind C Data Settings) (at new : Lives C) (a b : WireState) : Type 0 where
  pub number : ℕ
  pub greeted : Greeted kind number at new a b

-- ---- links that were given, to whom the connections are not seen

new_as : (k : ℕ) (b c : WireState) → c.links k ≡ b.links k → IsNew k b → IsNew k c
new_as k b c e n = record {
  is_open = ap (λ (l : Link). l.is_open) e ∙ n.is_open;
  sent = subst (λ (l : Link). Holds l.sent []) (sym e) n.sent;
  received = subst (λ (l : Link). Holds l.received []) (sym e) n.received;
}

pub gives_none : (w : WireState) → GivesLinks w w
gives_none w = record {
  given = omega arith;
  fresh = λ k later given. absurd (omega (arith, later, given));
  others = λ k below. refl;
  idle = λ z. z;
  waits = refl;
  calm = refl;
  alone = alone_none w;
}

pub gives_then : (a b c : WireState) → GivesLinks a b → GivesLinks b c → GivesLinks a c
gives_then a b c x y =
    let xg = x.given in
    let yg = y.given in
    record {
      given = omega (arith, xg, yg);
      fresh = λ k later given. elim (below_or k b.given) [
        | inl p ↦ new_as k b c (y.others k p) (x.fresh k later p)
        | inr q ↦ y.fresh k q given
      ];
      others = λ k below. y.others k (omega (arith, below, xg)) ∙ x.others k below;
      idle = λ z. y.idle (x.idle z);
      waits = y.waits ∙ x.waits;
      calm = y.calm ∙ x.calm;
      alone = alone_then a b c x.alone y.alone;
    }

-- a door that gave none
pub gives_quiet : (a b : WireState) → GivesNone a b → b.waits ≡ a.waits → b.door.faults ≡ a.door.faults → ServesAlone a b → GivesLinks a b
gives_quiet a b n waits calm alone =
    let ng = n.given in
    record {
      given = omega (arith, ng);
      fresh = λ k later given. absurd (omega (arith, later, given, ng));
      others = λ k below. n.links k;
      idle = λ z. n.idle ∙ z;
      waits = waits;
      calm = calm;
      alone = alone;
    }

pub between_same : (w : WireState) → PassesBetween w w
between_same w = record {
  given = omega arith;
  fresh = λ k later given. absurd (omega (arith, later, given));
  links = λ k below. untouched_same (w.links k) (w.links k) refl;
  alone = alone_none w;
}

pub rests_between : (a b : WireState) → RestsWire a b → PassesBetween a b
rests_between a b w =
    let wg = w.given in
    record {
      given = omega (arith, wg);
      fresh = λ k later given. absurd (omega (arith, later, given, wg));
      links = λ k below. w.links k;
      alone = w.alone;
    }

pub gives_between : (a b : WireState) → GivesLinks a b → PassesBetween a b
gives_between a b g = record { given = g.given; fresh = g.fresh; links = λ k below. untouched_same (a.links k) (b.links k) (g.others k below); alone = g.alone }

module _ {C Data Settings : Type 0} where
  -- ---- each link with its connection

  one_link : (kind : Kind C Data Settings) (at at' : ℕ → Option (Live C)) (len after : ℕ) (a b : WireState) → Welcomes kind at at' true len after a b → GivesLinks a b
  one_link kind at at' len after a b w =
      let g = w.given refl in
      let gm = g.more in
      record {
        given = omega (arith, gm);
        fresh = λ k later given. elim (cases_eq k a.given) [
          | inl p ↦ subst (λ (j : ℕ). IsNew j b) (sym p) (record {
            is_open = g.is_open;
            sent = told_nothing (b.links a.given).sent a.nature.tells g.sent;
            received = told_nothing (b.links a.given).received a.nature.tells g.received;
          })
          | inr n ↦ absurd (n (omega (arith, later, given, gm)))
        ];
        others = λ k below. g.others k (λ e. absurd (omega (arith, below, e)));
        idle = λ z. g.idle;
        waits = w.waits;
        calm = w.calm;
        alone = w.alone;
      }

  no_link : (kind : Kind C Data Settings) (at at' : ℕ → Option (Live C)) (len after : ℕ) (a b : WireState) → Welcomes kind at at' false len after a b → GivesLinks a b
  no_link kind at at' len after a b w = gives_quiet a b (w.none refl) w.waits w.calm w.alone

  pub greeted_gives : (kind : Kind C Data Settings) (n : ℕ) (at new : Lives C) (a b : WireState) → Greeted kind n at new a b → GivesLinks a b
  greeted_gives kind zero at new a b g = subst (λ (w : WireState). GivesLinks a w) (sym g.1) (gives_none a)
  greeted_gives kind (suc n) at new a b g =
      gives_then a g.1 b (greeted_gives kind n at g.0 a g.1 g.2) (one_link kind (g.0).found new.found (g.0).count new.count g.1 b g.3)

  pub greeted_count : (kind : Kind C Data Settings) (n : ℕ) (at new : Lives C) (a b : WireState) → Greeted kind n at new a b → new.count + a.given ≡ at.count + b.given
  greeted_count kind zero at new a b g =
      let c = ap (λ (x : Lives C). x.count) g.0 in
      let w = ap (λ (x : WireState). x.given) g.1 in
      omega (arith, c, w)
  greeted_count kind (suc n) at new a b g =
      let h = greeted_count kind n at g.0 a g.1 g.2 in
      let m = (g.3).more refl in
      let w = ((g.3).given refl).more in
      omega (arith, h, m, w)

  pub greeted_turns : (kind : Kind C Data Settings) (may : Data → Type 0) (first : List Data) (since : Moment Data Settings) (n : ℕ) (at new : Lives C) (served : Serving Data Settings) (supply : SupplyState Data) (a b : WireState) → Greeted kind n at new a b
      → (t : Traffic C Data) → Relates kind may first since t at.found at.count (moment served supply a)
      → TurnsTo kind may first since t nothing new.found new.count (moment served supply a) (moment served supply b)
  greeted_turns kind may first since zero at new served supply a b g t r =
      subst (λ (x : Lives C). TurnsTo kind may first since t nothing x.found x.count (moment served supply a) (moment served supply b)) (sym g.0)
      (subst (λ (w : WireState). TurnsTo kind may first since t nothing at.found at.count (moment served supply a) (moment served supply w)) (sym g.1)
      (turns_none kind may first since t at.found at.count (moment served supply a) r))
  greeted_turns kind may first since (suc n) at new served supply a b g t r =
      turns_after kind may first since t nothing nothing (g.0).found new.found (g.0).count new.count (moment served supply a) (moment served supply g.1) (moment served supply b) refl refl
      (greeted_turns kind may first since n at g.0 served supply a g.1 g.2 t r)
      (λ u q. welcomed kind may first since u (g.0).found new.found true (g.0).count new.count served supply g.1 b g.3 q)

  pub so_far_none : (kind : Kind C Data Settings) (at : Lives C) (a : WireState) → GreetedSoFar kind at at a a
  so_far_none kind at a = record { number = 0; greeted = (refl, refl) }

  pub so_far_given : (kind : Kind C Data Settings) (at mid new : Lives C) (a between b : WireState) → GreetedSoFar kind at mid a between → Welcomes kind mid.found new.found true mid.count new.count between b → GreetedSoFar kind at new a b
  so_far_given kind at mid new a between b s w = record { number = suc s.number; greeted = (mid, between, s.greeted, w) }

  pub so_far_all : (kind : Kind C Data Settings) (at mid new : Lives C) (a between b : WireState) → GreetedSoFar kind at mid a between → Welcomes kind mid.found new.found false mid.count new.count between b → GreetsAll kind at new a b
  so_far_all kind at mid new a between b s w = record { number = s.number; mid = mid; between = between; greeted = s.greeted; last = w }

  pub so_far_fails : (kind : Kind C Data Settings) (fault : ServeFault) (at mid new : Lives C) (a between b : WireState) → GreetedSoFar kind at mid a between → ((key : ℕ) → new.found key ≡ mid.found key) → new.count ≡ mid.count → FailsTurn fault between b
      → FailsGreets kind fault at new a b
  so_far_fails kind fault at mid new a between b s stay len fails = record { number = s.number; mid = mid; between = between; greeted = s.greeted; stay = stay; len = len; fails = fails }

  -- a door that accepted, or did not
  pub accepted_is : (kind : Kind C Data Settings) (at at' : ℕ → Option (Live C)) (accepted is : Bool) (len after : ℕ) (a b : WireState) → accepted ≡ is → Welcomes kind at at' accepted len after a b → Welcomes kind at at' is len after a b
  accepted_is kind at at' accepted is len after a b e w = subst (λ (t : Bool). Welcomes kind at at' t len after a b) e w

  pub one_more_live : (kind : Kind C Data Settings) (at at' : ℕ → Option (Live C)) (accepted : Bool) (len after start n : ℕ) (a b : WireState) → accepted ≡ true → Welcomes kind at at' accepted len after a b → len ≡ start + n → after ≡ start + (n + 1)
  one_more_live kind at at' accepted len after start n a b e w is = let m = w.more e in omega (arith, m, is)

  -- ---- until the door has none

  pub greets_gives : (kind : Kind C Data Settings) (at new : Lives C) (a b : WireState) → GreetsAll kind at new a b → GivesLinks a b
  greets_gives kind at new a b g =
      gives_then a g.between b (greeted_gives kind g.number at g.mid a g.between g.greeted) (no_link kind g.mid.found new.found g.mid.count new.count g.between b g.last)

  pub greets_count : (kind : Kind C Data Settings) (at new : Lives C) (a b : WireState) → GreetsAll kind at new a b → new.count + a.given ≡ at.count + b.given
  greets_count kind at new a b g =
      let h = greeted_count kind g.number at g.mid a g.between g.greeted in
      let s = g.last.same refl in
      let n = (g.last.none refl).given in
      omega (arith, h, s, n)

  pub greets_links : (kind : Kind C Data Settings) (at new : Lives C) (since done : ℕ) (a b : WireState) → GreetsAll kind at new a b → at.count + done + since ≡ a.given → new.count ≤ MOST_LIVE → GreetsLinks since done a b
  greets_links kind at new since done a b g links few =
      let c = greets_count kind at new a b g in
      let s = g.last.same refl in
      let up = (greeted_gives kind g.number at g.mid a g.between g.greeted).alone.stalls in
      record {
        gives = greets_gives kind at new a b g;
        most = omega (arith, c, links, few);
        door = elim (g.last.door refl) [
          | inl many ↦ inl (omega (arith, many, s, c, links))
          | inr rose ↦ inr (omega (arith, rose, up))
        ];
      }

  pub greets_turns : (kind : Kind C Data Settings) (may : Data → Type 0) (first : List Data) (since : Moment Data Settings) (at new : Lives C) (served : Serving Data Settings) (supply : SupplyState Data) (a b : WireState) → GreetsAll kind at new a b
      → (t : Traffic C Data) → Relates kind may first since t at.found at.count (moment served supply a)
      → TurnsTo kind may first since t nothing new.found new.count (moment served supply a) (moment served supply b)
  greets_turns kind may first since at new served supply a b g t r =
      turns_after kind may first since t nothing nothing g.mid.found new.found g.mid.count new.count (moment served supply a) (moment served supply g.between) (moment served supply b) refl refl
      (greeted_turns kind may first since g.number at g.mid served supply a g.between g.greeted t r)
      (λ u q. welcomed kind may first since u g.mid.found new.found false g.mid.count new.count served supply g.between b g.last q)

  -- so many are live that the door is not asked
  pub enough_live : (kind : Kind C Data Settings) (at new : Lives C) (a b : WireState) → GreetedSoFar kind at new a b → MOST_LIVE ≤ new.count → GreetsAll kind at new a b
  enough_live kind at new a b s many = record {
    number = s.number;
    mid = new;
    between = b;
    greeted = s.greeted;
    last = record {
      key = 0;
      vacant = λ e. absurd cc;
      found = λ e. absurd cc;
      others = λ k n. refl;
      more = λ e. absurd cc;
      same = λ e. refl;
      given = λ e. absurd cc;
      none = λ e. record { given = refl; links = λ k. refl; idle = refl };
      waits = refl;
      alone = alone_none b;
      calm = refl;
      door = λ e. inl many;
    };
  }

  pub greets_failed : (kind : Kind C Data Settings) (fault : ServeFault) (at new : Lives C) (a b : WireState) → FailsGreets kind fault at new a b → ServesAlone a b
  greets_failed kind fault at new a b g = alone_then a g.between b (greeted_gives kind g.number at g.mid a g.between g.greeted).alone g.fails.alone

  pub greets_rose : (kind : Kind C Data Settings) (fault : ServeFault) (at new : Lives C) (a b : WireState) → FailsGreets kind fault at new a b → fault ≡ faults.Wire → RoseAtDoor a b
  greets_rose kind fault at new a b g e = rose_from a g.between b (greeted_gives kind g.number at g.mid a g.between g.greeted).alone (cause_rose fault g.between b g.fails.cause e)

  -- however it ended
  pub greets_calm : (kind : Kind C Data Settings) (result : Result ⊤ ServeFault) (at new : Lives C) (a b : WireState) → OnOk result (GreetsAll kind at new a b) → OnOk result (b.door.faults ≡ a.door.faults)
  greets_calm kind (Ok x) at new a b h = (greets_gives kind at new a b h).calm
  greets_calm kind (Err fault) at new a b h = tt

  pub greets_alone : (kind : Kind C Data Settings) (result : Result ⊤ ServeFault) (at new : Lives C) (a b : WireState) → OnOk result (GreetsAll kind at new a b) → IfErr result (λ fault. FailsGreets kind fault at new a b) → ServesAlone a b
  greets_alone kind (Ok x) at new a b h f = (greets_gives kind at new a b h).alone
  greets_alone kind (Err fault) at new a b h f = greets_failed kind fault at new a b f

  -- ---- behind a turn

  pub follows_turns : (kind : Kind C Data Settings) (may : Data → Type 0) (first : List Data) (since : Moment Data Settings) (rests : Bool) (at new : Lives C) (served : Serving Data Settings) (supply : SupplyState Data) (a b : WireState)
      → FollowsTurn kind rests at new a b → (t : Traffic C Data) → Relates kind may first since t at.found at.count (moment served supply a)
      → TurnsTo kind may first since t nothing new.found new.count (moment served supply a) (moment served supply b)
  follows_turns kind may first since rests at new served supply a b (IsGreeted busy g) t r = greets_turns kind may first since at new served supply a b g t r
  follows_turns kind may first since rests at new served supply a b (IsRested quiet same w waits) t r = record {
    traffic = t;
    relates = subst (λ (x : Lives C). Relates kind may first since t x.found x.count (moment served supply b)) (sym same) (relates_rests kind may first since t at.found at.count served supply a b w r);
    ends = ends_same t a.faults b.faults w.alone.faults;
    goes_on = λ k. goes_same served.version (t.talks k);
    up = omega arith;
  }

  pub follows_count : (kind : Kind C Data Settings) (rests : Bool) (at new : Lives C) (a b : WireState) → FollowsTurn kind rests at new a b → new.count + a.given ≡ at.count + b.given
  follows_count kind rests at new a b (IsGreeted busy g) = greets_count kind at new a b g
  follows_count kind rests at new a b (IsRested quiet same w waits) = let c = ap (λ (x : Lives C). x.count) same in let wg = w.given in omega (arith, c, wg)

  pub follows_between : (kind : Kind C Data Settings) (rests : Bool) (at new : Lives C) (a b : WireState) → FollowsTurn kind rests at new a b → PassesBetween a b
  follows_between kind rests at new a b (IsGreeted busy g) = gives_between a b (greets_gives kind at new a b g)
  follows_between kind rests at new a b (IsRested quiet same w waits) = rests_between a b w

  pub comes_after : (kind : Kind C Data Settings) (rests : Bool) (turns : List Turn) (at new : Lives C) (since : ℕ) (a b : WireState) → rests ≡ rests_behind turns → FollowsTurn kind rests at new a b
      → at.count + ended_in turns + since ≡ a.given → new.count ≤ MOST_LIVE → ComesAfter since turns a b
  comes_after kind rests turns at new since a b is (IsGreeted busy g) links few = Greets (sym is ∙ busy) (greets_links kind at new since (ended_in turns) a b g links few)
  comes_after kind rests turns at new since a b is (IsRested quiet same w waits) links few = Rests (sym is ∙ quiet) w waits

  -- ---- where that failed

  pub failed_carries : (kind : Kind C Data Settings) (may : Data → Type 0) (first : List Data) (since : Moment Data Settings) (fault : ServeFault) (rests : Bool) (at new : Lives C) (served : Serving Data Settings) (supply : SupplyState Data) (a b : WireState)
      → FailsAfter kind fault rests at new a b → (t : Traffic C Data) → Relates kind may first since t at.found at.count (moment served supply a)
      → Carries kind may first since new.found new.count (moment served supply b)
  failed_carries kind may first since fault rests at new served supply a b (Greeting busy g) t r =
      let q = greeted_turns kind may first since g.number at g.mid served supply a g.between g.greeted t r in record {
        traffic = q.traffic;
        relates = unwelcomed kind may first since q.traffic g.mid.found new.found g.mid.count new.count served supply g.between b g.stay g.len g.fails.none g.fails.alone q.relates;
      }
  failed_carries kind may first since fault rests at new served supply a b (Resting quiet same w fails) t r = record {
    traffic = t;
    relates = subst (λ (x : Lives C). Relates kind may first since t x.found x.count (moment served supply b)) (sym same) (relates_rests kind may first since t at.found at.count served supply a b w r);
  }

  -- and the service gave up
  pub fails_after : (kind : Kind C Data Settings) (config : Settings) (stop_after : Option ℕ) (fault : ServeFault) (x live : ℕ) (round : Round) (rests : Bool) (turn : Turn) (at new : Lives C) (old a b c : WireState) (s : SoFar kind config stop_after x live round old a)
      → TakesTurn kind config old.given s.turns turn a b → rests ≡ rests_behind (turn ∷ s.turns) → at.count + (ended_in s.turns + turn.turned.ended) + old.given ≡ b.given → new.count ≤ MOST_LIVE
      → FailsAfter kind fault rests at new b c → FailsTurns kind config stop_after fault old c
  fails_after kind config stop_after fault x live round rests turn at new old a b c s takes is links few (Greeting busy g) =
      let h = greeted_count kind g.number at g.mid b g.between g.greeted in
      let l = g.len in
      record {
        turns = s.turns;
        before = a;
        after = c;
        took = s.took;
        too_few = s.too_few;
        last = inr (inr (record {
          turn = turn;
          after = b;
          last = g.between;
          takes = takes;
          greets = sym is ∙ busy;
          gives = greeted_gives kind g.number at g.mid b g.between g.greeted;
          most = omega (arith, h, l, links, few);
          fails = g.fails;
        }));
        left = links_none c;
      }
  fails_after kind config stop_after fault x live round rests turn at new old a b c s takes is links few (Resting quiet same w fails) =
      fails_wait kind config stop_after fault x live round turn old a b c s takes (sym is ∙ quiet) fails
