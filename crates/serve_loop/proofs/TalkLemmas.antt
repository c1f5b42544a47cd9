-- What a call on a link does to its talk.
use Rattle.std.proofs.Common.{ℕ, ◌≡◌, ◌≢◌, Option, Some, None, Bool, ◌<◌, ◌≤◌, inl, inr, ◌++◌, List, [], length, take, true, refl, sym, ◌∙◌, ap, subst, arith, append-nil}
use Rattle.std.specs.List.{AllByRecursion}
use Rattle.std.proofs.lemmas.List.{length-take-le}
use Rattle.std.specs.Io.KnownBytes.{append_known}
use Rattle.list_laws.proofs.Each.{all_append, all_so}
use Rattle.tpf_base.specs.Causes.{Rose}
use Rattle.tpf_base.specs.declared.wire.Moved.TheVariants as answers
use Rattle.tpf_base.specs.Links.{Link, WireState, Tells, CountsAlone, SentAndReceived, All, told_by}
use Rattle.tpf_base.specs.Sending.{Holds}
use Rattle.tpf_base.specs.Calls.{Sends, Receives, Closes}
use Rattle.tpf_base.specs.Marks.{Mark, Served, version_at}
use Rattle.tpf_base.proofs.SendingLemmas.{holds_by, holds_same, holds_append}
use Rattle.connections.specs.Versions.{Serving, IsHistory, SupplyState}
use Rattle.connections.specs.Kinds.{Kind, Takes}
use Rattle.serve_loop.specs.declared.live.Stepped.{Stepped}
use Rattle.serve_loop.specs.declared.live.TheConstants.{MOST_RECEIVED}
use Rattle.serve_loop.specs.declared.live.Stepped.TheVariants as stepped
use Rattle.serve_loop.specs.declared.step.Received.TheVariants as received
use Rattle.serve_loop.specs.Traffic.{Talk, Given, Moment, moment}
use Rattle.serve_loop.specs.Relates.{IsTalk, IsExcused, IsNumber, IsRising, Versions}
use Rattle.serve_loop.specs.Steps.{GoesOn, EndsAs, TalksTo, StepsLink, Makes, IsFull, IsFilled, AnswersPiece, Hears, IsReady}
use Rattle.serve_loop.specs.Calls.{IsQuiet}
use Rattle.serve_loop.proofs.CallLemmas.{receives_only}

pub closes_as : (k j : ℕ) (a b : WireState) → j ≡ k → Closes j a b → Closes k a b
closes_as k j a b e c = subst (λ (n : ℕ). Closes n a b) e c

not_yet_is_no_want : answers.NotYet ≢ answers.OutOfMemory
not_yet_is_no_want e = cc

told_true : (told : Option Bool) (tells : Tells) → told ≡ told_by tells true → Holds told true
told_true told CountsAlone e = λ x t. cc
told_true told SentAndReceived e = λ x t. cc
told_true told All e = λ x t. cc

known_same : (o : Option (List ℕ)) → o ≡ append_known o []
known_same None = refl
known_same (Some xs) = ap (λ (ys : List ℕ). Some ys) (sym (append-nil xs))

pub length_of_take : (n : ℕ) (xs : List ℕ) → n ≤ length xs → n ≡ length (take n xs)
length_of_take n xs h = sym (length-take-le n xs h)

-- the version that is served is not below that at the start
pub up_since : {Data Settings : Type 0} (may : Data → Type 0) (first : List Data) (since : Moment Data Settings) (history : List Data) (given : List (Given Data)) (now : Moment Data Settings)
    → Versions may first since history given now → since.served.version ≤ now.served.version
up_since may first since history given now v = let c = v.count in omega (arith, c)

pub served_excused : (before now version : ℕ) (m : Mark) → m ≡ Served version → IsExcused before now m
served_excused before now version m e = subst (λ (x : Mark). IsExcused before now x) (sym e) tt

pub served_level : (low version : ℕ) (m : Mark) → low ≤ version → m ≡ Served version → low ≤ version_at m
served_level low version m up e = subst (λ (x : Mark). low ≤ version_at x) (sym e) up

module _ {C : Type 0} where
  -- a talk of a live connection
  abbrev pub plain : List ℕ → List ℕ → List Mark → C → Talk C
  plain fed taken marks c = record { fed = fed; unfed = []; taken = taken; over = 0; marks = marks; connection = c }

  plain_at : (fed unfed taken : List ℕ) (over : ℕ) (marks : List Mark) (d c : C) → d ≡ c → over ≡ 0 → unfed ≡ []
      → record { fed = fed; unfed = unfed; taken = taken; over = over; marks = marks; connection = d } ≡ plain fed taken marks c
  plain_at fed unfed taken over marks d c e o u = rw (e, o, u) refl

  plain_is : (talk : Talk C) (c : C) → talk.connection ≡ c → talk.over ≡ 0 → talk.unfed ≡ [] → talk ≡ plain talk.fed talk.taken talk.marks c
  plain_is talk c e o u = plain_at talk.fed talk.unfed talk.taken talk.over talk.marks talk.connection c e o u

  -- so it is enough to speak of such a talk
  pub on_plain : (P Q : Talk C → Type 0) (talk : Talk C) (c : C) → talk.connection ≡ c → talk.over ≡ 0 → talk.unfed ≡ []
      → ((fed taken : List ℕ) (marks : List Mark) → P (plain fed taken marks c) → Q (plain fed taken marks c)) → P talk → Q talk
  on_plain P Q talk c e o u f p =
      let is = plain_is talk c e o u in
      subst (λ (x : Talk C). Q x) (sym is) (f talk.fed talk.taken talk.marks (subst (λ (x : Talk C). P x) is p))

  pub goes_nowhere : (version : ℕ) (talk : Talk C) → GoesOn version talk talk
  goes_nowhere version talk = record { later = []; marks = sym (append-nil _); not_below = tt; piece = []; fed = sym (append-nil _); part = []; taken = sym (append-nil _) }

module _ {C Data Settings : Type 0} where
  -- the same bytes on the link
  pub same_talk : (kind : Kind C Data Settings) (since : Moment Data Settings) (history : List Data) (owner : ℕ → ℕ) (served : Serving Data Settings) (supply : SupplyState Data)
      (a b : WireState) (k : ℕ) (talk : Talk C) → (b.links k).sent ≡ (a.links k).sent → (b.links k).received ≡ (a.links k).received
      → IsTalk kind since history owner (moment served supply a) k talk → IsTalk kind since history owner (moment served supply b) k talk
  same_talk kind since history owner served supply a b k talk s r h = record {
    answers = h.answers;
    within = h.within;
    sent_is = holds_same _ _ _ s h.sent_is;
    received_is = holds_same _ _ _ r h.received_is;
    excused = h.excused;
    level = h.level;
    numbers = h.numbers;
    rising = h.rising;
  }

  -- a front of what was pending was sent and taken
  pub sent_talk : (kind : Kind C Data Settings) (since : Moment Data Settings) (history : List Data) (owner : ℕ → ℕ) (served : Serving Data Settings) (supply : SupplyState Data)
      (a b : WireState) (k n : ℕ) (old new : C) (fed taken : List ℕ) (marks : List Mark)
      → 0 < n → n ≤ length (kind.pending old) → (b.links k).sent ≡ append_known (a.links k).sent (take n (kind.pending old)) → (b.links k).received ≡ (a.links k).received
      → Takes kind n old new → IsTalk kind since history owner (moment served supply a) k (plain fed taken marks old)
      → TalksTo kind since history owner k stepped.Moved new (plain fed taken marks old) (moment served supply a) (moment served supply b)
  sent_talk kind since history owner served supply a b k n old new fed taken marks pos fits s r takes h = record {
    talk' = plain fed (taken ++ take n (kind.pending old)) marks new;
    is = record {
      answers = takes.answers history served.config fed taken marks h.answers;
      within = omega arith;
      sent_is = holds_by _ _ _ (sym (append-nil _)) (holds_append (a.links k).sent (b.links k).sent taken _ s (holds_by _ _ _ (append-nil taken) h.sent_is));
      received_is = holds_same _ _ _ r h.received_is;
      excused = h.excused;
      level = h.level;
      numbers = h.numbers;
      rising = h.rising;
    };
    goes_on = record { later = []; marks = sym (append-nil _); not_below = tt; piece = []; fed = sym (append-nil _); part = take n (kind.pending old); taken = refl };
    end_ = (refl, refl, refl);
  }

  -- a send failed, which may have sent a front
  pub failed_talk : (kind : Kind C Data Settings) (since : Moment Data Settings) (history : List Data) (owner : ℕ → ℕ) (served : Serving Data Settings) (supply : SupplyState Data)
      (a b : WireState) (k n : ℕ) (old new : C) (fed taken : List ℕ) (marks : List Mark)
      → n ≤ length (kind.pending old) → (b.links k).sent ≡ append_known (a.links k).sent (take n (kind.pending old)) → (b.links k).received ≡ (a.links k).received
      → Rose a.faults b.faults → IsTalk kind since history owner (moment served supply a) k (plain fed taken marks old)
      → TalksTo kind since history owner k stepped.Ended new (plain fed taken marks old) (moment served supply a) (moment served supply b)
  failed_talk kind since history owner served supply a b k n old new fed taken marks fits s r rose h = record {
    talk' = record { fed = fed; unfed = []; taken = taken; over = n; marks = marks; connection = old };
    is = record {
      answers = h.answers;
      within = fits;
      sent_is = holds_append (a.links k).sent (b.links k).sent taken _ s (holds_by _ _ _ (append-nil taken) h.sent_is);
      received_is = holds_same _ _ _ r h.received_is;
      excused = h.excused;
      level = h.level;
      numbers = h.numbers;
      rising = h.rising;
    };
    goes_on = record { later = []; marks = sym (append-nil _); not_below = tt; piece = []; fed = sym (append-nil _); part = []; taken = sym (append-nil _) };
    end_ = inr rose;
  }

  -- nothing moved
  pub still_talk : (kind : Kind C Data Settings) (since : Moment Data Settings) (history : List Data) (owner : ℕ → ℕ) (served : Serving Data Settings) (supply : SupplyState Data)
      (a b : WireState) (k : ℕ) (answer : Stepped) (old new : C) (fed taken : List ℕ) (marks : List Mark)
      → (b.links k).sent ≡ (a.links k).sent → (b.links k).received ≡ (a.links k).received
      → EndsAs kind answer k new (plain fed taken marks old) (plain fed taken marks old) a b
      → IsTalk kind since history owner (moment served supply a) k (plain fed taken marks old)
      → TalksTo kind since history owner k answer new (plain fed taken marks old) (moment served supply a) (moment served supply b)
  still_talk kind since history owner served supply a b k answer old new fed taken marks s r e h = record {
    talk' = plain fed taken marks old;
    is = same_talk kind since history owner served supply a b k _ s r h;
    goes_on = goes_nowhere served.version _;
    end_ = e;
  }

  -- what was made is of the same talk
  made_answers : (kind : Kind C Data Settings) (served : Serving Data Settings) (old new : C) (history : List Data) (fed taken : List ℕ) (marks : List Mark)
      → Makes kind served old new → kind.Answers history served.config fed taken marks old → kind.Answers history served.config fed taken marks new
  made_answers kind served old new history fed taken marks (IsFull many same) h = subst (λ (x : C). kind.Answers history served.config fed taken marks x) (sym same) h
  made_answers kind served old new history fed taken marks (IsFilled fills) h = fills.answers history fed taken marks h

  -- bytes were received and fed, and bytes were made
  pub fed_talk : (kind : Kind C Data Settings) (since : Moment Data Settings) (history : List Data) (owner : ℕ → ℕ) (served : Serving Data Settings) (supply : SupplyState Data)
      (a b : WireState) (k : ℕ) (piece : List ℕ) (old new : C) (fed taken : List ℕ) (marks : List Mark)
      → IsHistory history served → since.served.version ≤ served.version → (b.links k).sent ≡ (a.links k).sent
      → (b.links k).received ≡ append_known (a.links k).received piece → AnswersPiece kind served piece old new
      → IsTalk kind since history owner (moment served supply a) k (plain fed taken marks old)
      → TalksTo kind since history owner k stepped.Moved new (plain fed taken marks old) (moment served supply a) (moment served supply b)
  fed_talk kind since history owner served supply a b k piece old new fed taken marks is_history up s r answered h =
      let reads = answered.feeds.reads history fed taken marks is_history h.answers in
      let same : kind.reloads served.config (fed ++ piece) (marks ++ reads.later) ≡ kind.reloads served.config fed marks = reads.numbers ∙ append-nil _ in
      record {
        talk' = plain (fed ++ piece) taken (marks ++ reads.later) new;
        is = record {
          answers = made_answers kind served answered.read new history (fed ++ piece) taken (marks ++ reads.later) answered.makes reads.answers;
          within = omega arith;
          sent_is = holds_same _ _ _ s h.sent_is;
          received_is = holds_by _ _ _ (sym (append-nil _)) (holds_append (a.links k).received (b.links k).received fed piece r (holds_by _ _ _ (append-nil fed) h.received_is));
          excused = all_append _ marks reads.later h.excused (all_so _ _ (λ (m : Mark). served_excused since.supply.faults supply.faults served.version m) reads.later reads.served);
          level = all_append _ marks reads.later h.level (all_so _ _ (λ (m : Mark). served_level since.served.version served.version m up) reads.later reads.served);
          numbers = subst (λ (ns : List ℕ). AllByRecursion (IsNumber owner k since.served.version served.version) ns) (sym same) h.numbers;
          rising = subst (λ (ns : List ℕ). IsRising ns) (sym same) h.rising;
        };
        goes_on = record {
          later = reads.later;
          marks = refl;
          not_below = all_so _ _ (λ (m : Mark). served_level served.version served.version m (omega arith)) reads.later reads.served;
          piece = piece;
          fed = append-nil _ ∙ ap (λ (x : List ℕ). x ++ piece) (sym (append-nil fed));
          part = [];
          taken = sym (append-nil _);
        };
        end_ = (refl, refl, refl);
      }

  -- bytes were received, and want of memory kept them from being fed
  pub unfed_talk : (kind : Kind C Data Settings) (since : Moment Data Settings) (history : List Data) (owner : ℕ → ℕ) (served : Serving Data Settings) (supply : SupplyState Data)
      (a b : WireState) (k : ℕ) (piece : List ℕ) (old new : C) (fed taken : List ℕ) (marks : List Mark)
      → (b.links k).sent ≡ (a.links k).sent → (b.links k).received ≡ append_known (a.links k).received piece
      → IsTalk kind since history owner (moment served supply a) k (plain fed taken marks old)
      → TalksTo kind since history owner k stepped.Starved new (plain fed taken marks old) (moment served supply a) (moment served supply b)
  unfed_talk kind since history owner served supply a b k piece old new fed taken marks s r h = record {
    talk' = record { fed = fed; unfed = piece; taken = taken; over = 0; marks = marks; connection = old };
    is = record {
      answers = h.answers;
      within = omega arith;
      sent_is = holds_same _ _ _ s h.sent_is;
      received_is = holds_append (a.links k).received (b.links k).received fed piece r (holds_by _ _ _ (append-nil fed) h.received_is);
      excused = h.excused;
      level = h.level;
      numbers = h.numbers;
      rising = h.rising;
    };
    goes_on = record { later = []; marks = sym (append-nil _); not_below = tt; piece = piece; fed = ap (λ (x : List ℕ). x ++ piece) (sym (append-nil fed)); part = []; taken = sym (append-nil _) };
    end_ = tt;
  }

  -- ---- the steps of a send

  pub moved_step : (kind : Kind C Data Settings) (served : Serving Data Settings) (supply : SupplyState Data) (a b : WireState) (k : ℕ) (old new : C) (n : ℕ)
      → Sends k (kind.pending old) a b (answers.Moved n) → Takes kind n old new
      → StepsLink kind k old new stepped.Moved (moment served supply a) (moment served supply b)
  moved_step kind served supply a b k old new n s takes = record {
    talks = λ since history owner talk is_history up e o u h. let m = s.moved n refl in
        on_plain (λ (x : Talk C). IsTalk kind since history owner (moment served supply a) k x)
        (λ (x : Talk C). TalksTo kind since history owner k stepped.Moved new x (moment served supply a) (moment served supply b))
        talk old e o u (λ fed taken marks p. sent_talk kind since history owner served supply a b k n old new fed taken marks m.0 m.1 m.2 s.received takes p) h;
  }

  -- the last bytes were sent on a connection that closes, and the link was closed behind them
  pub sent_last_step : (kind : Kind C Data Settings) (served : Serving Data Settings) (supply : SupplyState Data) (a b w : WireState) (k : ℕ) (old new : C) (n : ℕ)
      → Sends k (kind.pending old) a b (answers.Moved n) → Takes kind n old new → IsQuiet kind new → kind.closing new ≡ true → Closes k b w
      → StepsLink kind k old new stepped.Ended (moment served supply a) (moment served supply w)
  sent_last_step kind served supply a b w k old new n s takes quiet closing c = record {
    talks = λ since history owner talk is_history up e o u h. let m = s.moved n refl in
        on_plain (λ (x : Talk C). IsTalk kind since history owner (moment served supply a) k x)
        (λ (x : Talk C). TalksTo kind since history owner k stepped.Ended new x (moment served supply a) (moment served supply w))
        talk old e o u (λ fed taken marks p. let t = sent_talk kind since history owner served supply a b k n old new fed taken marks m.0 m.1 m.2 s.received takes p in record {
          talk' = t.talk';
          is = same_talk kind since history owner served supply b w k t.talk' c.sent c.received t.is;
          goes_on = t.goes_on;
          end_ = inl (record {
            over = t.end_.1;
            unfed = t.end_.2;
            pending = ap kind.pending t.end_.0 ∙ quiet.pending;
            owes = ap kind.owes t.end_.0 ∙ quiet.owes;
            wants = ap kind.wants t.end_.0 ∙ quiet.wants;
            end_ = inl (ap kind.closing t.end_.0 ∙ closing);
          });
        }) h;
  }

  pub not_yet_step : (kind : Kind C Data Settings) (served : Serving Data Settings) (supply : SupplyState Data) (a b : WireState) (k : ℕ) (old new : C)
      → Sends k (kind.pending old) a b answers.NotYet → new ≡ old
      → StepsLink kind k old new stepped.Still (moment served supply a) (moment served supply b)
  not_yet_step kind served supply a b k old new s same = record {
    talks = λ since history owner talk is_history up e o u h.
        on_plain (λ (x : Talk C). IsTalk kind since history owner (moment served supply a) k x)
        (λ (x : Talk C). TalksTo kind since history owner k stepped.Still new x (moment served supply a) (moment served supply b))
        talk old e o u (λ fed taken marks p. still_talk kind since history owner served supply a b k stepped.Still old new fed taken marks (s.not_yet refl).0 s.received (sym same, refl, refl) p) h;
  }

  -- the link was closed behind the call
  pub wanted_step : (kind : Kind C Data Settings) (served : Serving Data Settings) (supply : SupplyState Data) (a b w : WireState) (k : ℕ) (old new : C)
      → Sends k (kind.pending old) a b answers.OutOfMemory → Closes k b w
      → StepsLink kind k old new stepped.Starved (moment served supply a) (moment served supply w)
  wanted_step kind served supply a b w k old new s c = record {
    talks = λ since history owner talk is_history up e o u h. let m = (s.memory refl).links k in
        on_plain (λ (x : Talk C). IsTalk kind since history owner (moment served supply a) k x)
        (λ (x : Talk C). TalksTo kind since history owner k stepped.Starved new x (moment served supply a) (moment served supply w))
        talk old e o u (λ fed taken marks p. still_talk kind since history owner served supply a w k stepped.Starved old new fed taken marks
        (c.sent ∙ ap (λ l. l.sent) m) (c.received ∙ ap (λ l. l.received) m) tt p) h;
  }

  pub failed_step : (kind : Kind C Data Settings) (served : Serving Data Settings) (supply : SupplyState Data) (a b w : WireState) (k : ℕ) (old new : C)
      → Sends k (kind.pending old) a b answers.Failed → Closes k b w
      → StepsLink kind k old new stepped.Ended (moment served supply a) (moment served supply w)
  failed_step kind served supply a b w k old new s c = record {
    talks = λ since history owner talk is_history up e o u h. let f = s.failed refl in
        on_plain (λ (x : Talk C). IsTalk kind since history owner (moment served supply a) k x)
        (λ (x : Talk C). TalksTo kind since history owner k stepped.Ended new x (moment served supply a) (moment served supply w))
        talk old e o u (λ fed taken marks p. failed_talk kind since history owner served supply a w k f.0 old new fed taken marks f.1
        (c.sent ∙ f.2) (c.received ∙ s.received) (subst (λ (n : ℕ). Rose a.faults n) (sym c.faults) f.5) p) h;
  }

  -- ---- the steps of a receive

  pub fed_step : (kind : Kind C Data Settings) (served : Serving Data Settings) (supply : SupplyState Data) (a b : WireState) (k : ℕ) (old new : C)
      → Hears kind served k old new a b received.Fed
      → StepsLink kind k old new stepped.Moved (moment served supply a) (moment served supply b)
  fed_step kind served supply a b k old new s = record {
    talks = λ since history owner talk is_history up e o u h. let f = s.fed refl in
        on_plain (λ (x : Talk C). IsTalk kind since history owner (moment served supply a) k x)
        (λ (x : Talk C). TalksTo kind since history owner k stepped.Moved new x (moment served supply a) (moment served supply b))
        talk old e o u (λ fed taken marks p. fed_talk kind since history owner served supply a b k f.piece old new fed taken marks is_history up s.sent f.received f.answers p) h;
  }

  pub quiet_step : (kind : Kind C Data Settings) (served : Serving Data Settings) (supply : SupplyState Data) (a b : WireState) (k : ℕ) (old new : C)
      → Hears kind served k old new a b received.NotYet
      → StepsLink kind k old new stepped.Still (moment served supply a) (moment served supply b)
  quiet_step kind served supply a b k old new s = record {
    talks = λ since history owner talk is_history up e o u h. let f = s.not_yet refl in
        on_plain (λ (x : Talk C). IsTalk kind since history owner (moment served supply a) k x)
        (λ (x : Talk C). TalksTo kind since history owner k stepped.Still new x (moment served supply a) (moment served supply b))
        talk old e o u (λ fed taken marks p. still_talk kind since history owner served supply a b k stepped.Still old new fed taken marks s.sent f.0 (sym f.2, refl, refl) p) h;
  }

  -- the other side ended, and nothing is owed: the connection ends in order
  pub end_step : (kind : Kind C Data Settings) (served : Serving Data Settings) (supply : SupplyState Data) (a b w : WireState) (k : ℕ) (old new : C)
      → IsReady kind old → kind.pending old ≡ [] → Hears kind served k old new a b received.End → Closes k b w
      → StepsLink kind k old new stepped.Ended (moment served supply a) (moment served supply w)
  end_step kind served supply a b w k old new ready none s c = record {
    talks = λ since history owner talk is_history up e o u h. let f = s.end_ refl in
        on_plain (λ (x : Talk C). IsTalk kind since history owner (moment served supply a) k x)
        (λ (x : Talk C). TalksTo kind since history owner k stepped.Ended new x (moment served supply a) (moment served supply w))
        talk old e o u (λ fed taken marks p. still_talk kind since history owner served supply a w k stepped.Ended old new fed taken marks
        (c.sent ∙ s.sent) (c.received ∙ f.0)
        (inl (record { over = refl; unfed = refl; pending = none; owes = ready.owes none; wants = ready.wants none; end_ = inr (holds_same (b.links k).ended (w.links k).ended true c.ended f.1) })) p) h;
  }

  pub broken_step : (kind : Kind C Data Settings) (served : Serving Data Settings) (supply : SupplyState Data) (a b w : WireState) (k : ℕ) (old new : C)
      → Hears kind served k old new a b received.Failed → Closes k b w
      → StepsLink kind k old new stepped.Ended (moment served supply a) (moment served supply w)
  broken_step kind served supply a b w k old new s c = record {
    talks = λ since history owner talk is_history up e o u h. let f = s.failed refl in
        on_plain (λ (x : Talk C). IsTalk kind since history owner (moment served supply a) k x)
        (λ (x : Talk C). TalksTo kind since history owner k stepped.Ended new x (moment served supply a) (moment served supply w))
        talk old e o u (λ fed taken marks p. still_talk kind since history owner served supply a w k stepped.Ended old new fed taken marks
        (c.sent ∙ s.sent) (c.received ∙ f.0)
        (inr (subst (λ (n : ℕ). Rose a.faults n) (sym c.faults) f.1)) p) h;
  }

  pub starved_step : (kind : Kind C Data Settings) (served : Serving Data Settings) (supply : SupplyState Data) (a b w : WireState) (k : ℕ) (old new : C)
      → Hears kind served k old new a b received.Starved → Closes k b w
      → StepsLink kind k old new stepped.Starved (moment served supply a) (moment served supply w)
  starved_step kind served supply a b w k old new s c = record {
    talks = λ since history owner talk is_history up e o u h. let f = s.starved refl in
        on_plain (λ (x : Talk C). IsTalk kind since history owner (moment served supply a) k x)
        (λ (x : Talk C). TalksTo kind since history owner k stepped.Starved new x (moment served supply a) (moment served supply w))
        talk old e o u (λ fed taken marks p. unfed_talk kind since history owner served supply a w k f.0 old new fed taken marks
        (c.sent ∙ s.sent) (c.received ∙ f.1) p) h;
  }

  -- ---- what a receive did

  pub hears_fed : (kind : Kind C Data Settings) (served : Serving Data Settings) (k : ℕ) (old new : C) (a b : WireState) (buffer : List ℕ) (n : ℕ)
      → length buffer ≤ MOST_RECEIVED → Receives k buffer a b (answers.Moved n) → AnswersPiece kind served (take n buffer) old new
      → Hears kind served k old new a b received.Fed
  hears_fed kind served k old new a b buffer n few r answered = let m = r.moved n refl in record {
    only = receives_only k buffer a b (answers.Moved n) r;
    sent = r.sent;
    is_open = r.is_open;
    fed = λ e. record {
      piece = take n buffer;
      some = omega (arith, m.0, length-take-le n buffer m.1);
      most = omega (arith, m.1, few, length-take-le n buffer m.1);
      received = m.2;
      idle = m.4;
      answers = answered;
    };
    end_ = λ e. absurd cc;
    not_yet = λ e. absurd cc;
    failed = λ e. absurd cc;
    starved = λ e. absurd cc;
  }

  pub hears_unfed : (kind : Kind C Data Settings) (served : Serving Data Settings) (k : ℕ) (old new : C) (a b : WireState) (buffer : List ℕ) (n : ℕ)
      → length buffer ≤ MOST_RECEIVED → Receives k buffer a b (answers.Moved n) → Hears kind served k old new a b received.Starved
  hears_unfed kind served k old new a b buffer n few r = let m = r.moved n refl in record {
    only = receives_only k buffer a b (answers.Moved n) r;
    sent = r.sent;
    is_open = r.is_open;
    fed = λ e. absurd cc;
    end_ = λ e. absurd cc;
    not_yet = λ e. absurd cc;
    failed = λ e. absurd cc;
    starved = λ e. (take n buffer, m.2, omega (arith, m.1, few, length-take-le n buffer m.1));
  }

  pub hears_end : (kind : Kind C Data Settings) (served : Serving Data Settings) (k : ℕ) (old : C) (a b : WireState) (to : List ℕ) → Receives k to a b answers.End → Hears kind served k old old a b received.End
  hears_end kind served k old a b to r = let m = r.end_ refl in record {
    only = receives_only k to a b answers.End r;
    sent = r.sent;
    is_open = r.is_open;
    fed = λ e. absurd cc;
    end_ = λ e. (m.0, told_true (b.links k).ended a.nature.tells m.1, refl);
    not_yet = λ e. absurd cc;
    failed = λ e. absurd cc;
    starved = λ e. absurd cc;
  }

  pub hears_not_yet : (kind : Kind C Data Settings) (served : Serving Data Settings) (k : ℕ) (old : C) (a b : WireState) (to : List ℕ) → Receives k to a b answers.NotYet → Hears kind served k old old a b received.NotYet
  hears_not_yet kind served k old a b to r = let m = r.not_yet refl in let s = r.stalled not_yet_is_no_want in record {
    only = receives_only k to a b answers.NotYet r;
    sent = r.sent;
    is_open = r.is_open;
    fed = λ e. absurd cc;
    end_ = λ e. absurd cc;
    not_yet = λ e. (m.0, m.2, refl, s.0);
    failed = λ e. absurd cc;
    starved = λ e. absurd cc;
  }

  pub hears_failed : (kind : Kind C Data Settings) (served : Serving Data Settings) (k : ℕ) (old : C) (a b : WireState) (to : List ℕ) → Receives k to a b answers.Failed → Hears kind served k old old a b received.Failed
  hears_failed kind served k old a b to r = let m = r.failed refl in record {
    only = receives_only k to a b answers.Failed r;
    sent = r.sent;
    is_open = r.is_open;
    fed = λ e. absurd cc;
    end_ = λ e. absurd cc;
    not_yet = λ e. absurd cc;
    failed = λ e. (m.0, m.3, refl);
    starved = λ e. absurd cc;
  }

  pub hears_memory : (kind : Kind C Data Settings) (served : Serving Data Settings) (k : ℕ) (old new : C) (a b : WireState) (to : List ℕ) → Receives k to a b answers.OutOfMemory → Hears kind served k old new a b received.Starved
  hears_memory kind served k old new a b to r = let m = r.memory refl in record {
    only = receives_only k to a b answers.OutOfMemory r;
    sent = r.sent;
    is_open = r.is_open;
    fed = λ e. absurd cc;
    end_ = λ e. absurd cc;
    not_yet = λ e. absurd cc;
    failed = λ e. absurd cc;
    starved = λ e. ([], ap (λ (l : Link). l.received) (m.links k) ∙ known_same (a.links k).received, omega arith);
  }
