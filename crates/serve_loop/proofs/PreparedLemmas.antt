-- A whole step: what was made ready, and then the call on the link.
use Rattle.std.proofs.Common.{ℕ, ◌≡◌, ◌+◌, ◌<◌, ◌≤◌, ◌==◌, ◌⊎◌, inl, inr, List, [], ◌∷◌, length, Option, Some, Bool, true, false, refl, sym, ◌∙◌, ap, subst, arith}
use Rattle.std.proofs.lemmas.Bool.{eqb-true}
use Rattle.std.specs.Prelude.{Result, Ok, Err, is_ok, is_err, ⊤}
use Rattle.list_laws.proofs.Tests.{not_both_ways}
use Rattle.tpf_base.specs.Links.{WireState, Way, Sending, Receiving}
use Rattle.tpf_base.specs.Calls.{OnlyOn, Closes}
use Rattle.connections.specs.Versions.{Serving, SupplyState}
use Rattle.connections.specs.Kinds.{Kind}
use Rattle.serve_loop.specs.declared.live.Live.{Live}
use Rattle.serve_loop.specs.declared.live.Stepped.{Stepped}
use Rattle.serve_loop.specs.declared.live.Stepped.TheVariants as stepped
use Rattle.serve_loop.specs.Traffic.{Talk, Traffic, Moment, updated, moment}
use Rattle.serve_loop.specs.Relates.{IsTalk}
use Rattle.serve_loop.specs.Calls.{HasCalled, StepsLive, IsPrepared, left_by, ended_by, starved_by}
use Rattle.serve_loop.specs.Steps.{StepsLink, StepsOn, StepsTo, Keeps, Prepares, TalksTo, IsReady}
use Rattle.serve_loop.proofs.CallLemmas.{only_closes, closes_by}
use Rattle.serve_loop.proofs.TalkLemmas.{on_plain, still_talk, closes_as}
use Rattle.serve_loop.proofs.RelatesLemmas.{here, none_some}
use Rattle.serve_loop.proofs.StepLemmas.{steps_to}
use Rattle.serve_loop.proofs.EndsLemmas.{ends_then, ends_as}
use Rattle.serve_loop.proofs.ChainLemmas.{relates_same, goes_on_then, updated_twice}

pub ok_when : {E : Type 0} (r : Result ⊤ E) → false ≡ is_err r → is_ok r ≡ true
ok_when (Ok x) e = refl
ok_when (Err x) e = cc

pub none_when : (xs : List ℕ) → true ≡ (length xs == 0) → xs ≡ []
none_when [] e = refl
none_when (x ∷ xs) e = let z : length (x ∷ xs) ≡ 0 = eqb-true (length (x ∷ xs)) 0 (sym e) in absurd (omega (arith, z))

pub none_or : (xs : List ℕ) → (0 < length xs) ⊎ (xs ≡ [])
none_or [] = inr refl
none_or (x ∷ xs) = inl (omega arith)

pub true_or : (b : Bool) → (b ≡ true) ⊎ (b ≡ false)
true_or true = inl refl
true_or false = inr refl

pub nothing_pending : (xs : List ℕ) → xs ≡ [] → 0 < length xs → ⊥
nothing_pending xs none some = let e = ap (λ (l : List ℕ). length l) none in omega (arith, some, e)

pub some_when : (xs : List ℕ) → false ≡ (length xs == 0) → xs ≡ [] → ⊥
some_when [] e none = cc
some_when (x ∷ xs) e none = cc

pub none_long : (xs ys : List ℕ) → true ≡ (length xs == 0) → xs ≡ ys → ys ≡ []
none_long xs ys e same = sym same ∙ none_when xs e

pub some_long : (xs ys : List ℕ) → false ≡ (length xs == 0) → xs ≡ ys → 0 < length ys
some_long [] ys e same = absurd cc
some_long (x ∷ xs) ys e same = subst (λ (zs : List ℕ). 0 < length zs) same (omega arith)

module _ {C Data Settings : Type 0} where
  -- the connection closes, and all was sent
  pub closing_step : (kind : Kind C Data Settings) (served : Serving Data Settings) (supply : SupplyState Data) (a b : WireState) (k : ℕ) (c : C)
      → IsReady kind c → kind.pending c ≡ [] → kind.closing c ≡ true → Closes k a b
      → StepsLink kind k c c stepped.Ended (moment served supply a) (moment served supply b)
  closing_step kind served supply a b k c ready none closing d = record {
    talks = λ since history owner talk is_history up e o u h.
        on_plain (λ (x : Talk C). IsTalk kind since history owner (moment served supply a) k x)
        (λ (x : Talk C). TalksTo kind since history owner k stepped.Ended c x (moment served supply a) (moment served supply b))
        talk c e o u (λ fed taken marks p. still_talk kind since history owner served supply a b k stepped.Ended c c fed taken marks d.sent d.received
        (inl (record { over = refl; unfed = refl; pending = none; owes = ready.owes none; wants = ready.wants none; end_ = inl closing })) p) h;
  }

  -- memory was wanting, and the link was closed
  wanting_step : (kind : Kind C Data Settings) (served : Serving Data Settings) (supply : SupplyState Data) (a b : WireState) (k : ℕ) (old new : C)
      → Closes k a b → StepsLink kind k old new stepped.Starved (moment served supply a) (moment served supply b)
  wanting_step kind served supply a b k old new d = record {
    talks = λ since history owner talk is_history up e o u h.
        on_plain (λ (x : Talk C). IsTalk kind since history owner (moment served supply a) k x)
        (λ (x : Talk C). TalksTo kind since history owner k stepped.Starved new x (moment served supply a) (moment served supply b))
        talk old e o u (λ fed taken marks p. still_talk kind since history owner served supply a b k stepped.Starved old new fed taken marks d.sent d.received tt p) h;
  }

  -- the call on the link behind what was made ready
  step_then : (kind : Kind C Data Settings) (may : Data → Type 0) (first : List Data) (since : Moment Data Settings) (t : Traffic C Data) (at : ℕ → Option (Live C)) (len key : ℕ) (m new : Live C) (answer : Stepped) (way : Way)
      (old : Moment Data Settings) (served : Serving Data Settings) (supply : SupplyState Data) (a b : WireState)
      → 0 < len → old.served.version ≤ served.version → Keeps kind may first since t at len key m old (moment served supply a)
      → new.link ≡ m.link → OnlyOn m.link a b → HasCalled answer m.link a b way → (left_by answer new ≡ Some new → (b.links m.link).is_open ≡ true)
      → StepsLink kind m.link m.connection new.connection answer (moment served supply a) (moment served supply b)
      → StepsTo kind may first since t at len key answer new old (moment served supply b)
  step_then kind may first since t at len key m new answer way old served supply a b some up p link only called is_open steps =
      let s = steps_to kind may first since p.traffic (updated at key (Some m)) len served supply a b key m new answer way p.relates some (here at key (Some m) key refl) link only called is_open steps in
      let su = s.up in
      record {
        traffic = s.traffic;
        left = s.left;
        len_is = s.len_is;
        relates = relates_same kind may first since s.traffic (updated (updated at key (Some m)) key (left_by answer new)) (updated at key (left_by answer new)) s.left (moment served supply b)
            (updated_twice at key (Some m) (left_by answer new)) s.relates;
        ends = ends_as t s.traffic (0 + ended_by answer) (ended_by answer) (0 + starved_by answer) (starved_by answer) old.wire.faults b.faults (omega arith) (omega arith)
            (ends_then t p.traffic s.traffic 0 (ended_by answer) 0 (starved_by answer) old.wire.faults a.faults b.faults p.ends s.ends);
        goes_on = λ k. goes_on_then old.served.version served.version (t.talks k) (p.traffic.talks k) (s.traffic.talks k) up (p.goes_on k) (s.goes_on k);
        up = omega (arith, up, su);
      }

  -- a step whose connection was made ready
  pub steps_ready : (kind : Kind C Data Settings) (may : Data → Type 0) (l m new : Live C) (ok : Bool) (answer : Stepped) (way : Way) (old : Moment Data Settings) (served : Serving Data Settings) (supply : SupplyState Data) (a b : WireState)
      → ok ≡ true → Prepares kind may l m ok old (moment served supply a)
      → new.link ≡ m.link → OnlyOn m.link a b → HasCalled answer m.link a b way → (left_by answer new ≡ Some new → (b.links m.link).is_open ≡ true)
      → StepsLink kind m.link m.connection new.connection answer (moment served supply a) (moment served supply b)
      → StepsOn kind may l new answer old (moment served supply b)
  steps_ready kind may l m new ok answer way old served supply a b is_ok p link only called is_open steps = λ first since t at len key some found r.
      step_then kind may first since t at len key m new answer way old served supply a b some p.up
      (subst (λ (y : Live C). Keeps kind may first since t at len key y old (moment served supply a)) (p.live_is is_ok) (p.keeps first since t at len key found r))
      link only called is_open steps

  -- a step that wanted memory before its call
  pub steps_wanting : (kind : Kind C Data Settings) (may : Data → Type 0) (l m : Live C) (ok : Bool) (old : Moment Data Settings) (served : Serving Data Settings) (supply : SupplyState Data) (a b : WireState)
      → Prepares kind may l m ok old (moment served supply a) → Closes m.link a b
      → StepsOn kind may l m stepped.Starved old (moment served supply b)
  steps_wanting kind may l m ok old served supply a b p closes = λ first since t at len key some found r.
      let same : m.link ≡ p.live.link = p.link ∙ sym p.link_is in
      let d = closes_as p.live.link m.link a b same closes in
      step_then kind may first since t at len key p.live m stepped.Starved Receiving old served supply a b some p.up (p.keeps first since t at len key found r)
      same d.only (closes_by Receiving p.live.link a b (only_closes p.live.link a b d)) (λ e. absurd (none_some m e)) (wanting_step kind served supply a b p.live.link p.live.connection m.connection d)

  -- ---- by what the connection has to send

  -- memory was wanting, and the link was closed
  pub need_wanting : (kind : Kind C Data Settings) (c : C) (k : ℕ) (a b : WireState) → Closes k a b → StepsLive kind c stepped.Starved k a b
  need_wanting kind c k a b d = let e = only_closes k a b d in record {
    speaks = λ s. closes_by Sending k a b e;
    listens = λ q n. closes_by Receiving k a b e;
    closes = λ q y. (refl, e);
    called = (Receiving, closes_by Receiving k a b e);
  }

  -- bytes were pending, and the call was a send
  pub need_send : (kind : Kind C Data Settings) (c m : C) (answer : Stepped) (k j : ℕ) (a b : WireState) → j ≡ k → IsPrepared kind c m → (kind.pending m ≡ [] → ⊥)
      → HasCalled answer j a b Sending → StepsLive kind c answer k a b
  need_send kind c m answer k j a b e p some called = let at_link = subst (λ (n : ℕ). HasCalled answer n a b Sending) e called in record {
    speaks = λ s. at_link;
    listens = λ q n. absurd (some (p.quiet q));
    closes = λ q y. absurd (some (p.quiet q));
    called = (Sending, at_link);
  }

  -- nothing was pending, and the connection closes
  pub need_close : (kind : Kind C Data Settings) (c m : C) (k : ℕ) (a b : WireState) → IsPrepared kind c m → kind.pending m ≡ [] → kind.closing m ≡ true
      → Closes k a b → StepsLive kind c stepped.Ended k a b
  need_close kind c m k a b p none closing d = let e = only_closes k a b d in record {
    speaks = λ s. absurd (nothing_pending (kind.pending m) none (p.speaks s));
    listens = λ q n. absurd (not_both_ways (kind.closing m) closing (p.closing q ∙ n));
    closes = λ q y. (refl, e);
    called = (Receiving, closes_by Receiving k a b e);
  }

  -- nothing was pending, and the call was a receive
  pub need_receive : (kind : Kind C Data Settings) (c m : C) (answer : Stepped) (k j : ℕ) (a b : WireState) → j ≡ k → IsPrepared kind c m → kind.pending m ≡ [] → kind.closing m ≡ false
      → HasCalled answer j a b Receiving → StepsLive kind c answer k a b
  need_receive kind c m answer k j a b e p none closing called = let at_link = subst (λ (n : ℕ). HasCalled answer n a b Receiving) e called in record {
    speaks = λ s. absurd (nothing_pending (kind.pending m) none (p.speaks s));
    listens = λ q n. at_link;
    closes = λ q y. absurd (not_both_ways (kind.closing m) (p.closing q ∙ y) closing);
    called = (Receiving, at_link);
  }
