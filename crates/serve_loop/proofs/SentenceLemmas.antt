-- The server's sentence follows from the relation alone.
use Rattle.std.proofs.Common.{ℕ, ◌≡◌, ◌≢◌, ◌+◌, ◌≤◌, inl, inr, ◌++◌, List, [], ◌∷◌, length, take, Option, Some, refl, sym, ◌∙◌, ap, subst, arith, append-nil, length-append}
use Rattle.std.specs.List.{AllByRecursion}
use Rattle.list_laws.proofs.Each.{all_append, all_so}
use Rattle.tpf_base.specs.Marks.{Mark, Served, Failed, Starved, version_at}
use Rattle.tpf_base.specs.Causes.{counted_by}
use Rattle.connections.specs.Versions.{Serving, IsHistory}
use Rattle.connections.specs.Kinds.{Kind, BeginsResponse, IsWhole, IsNoFailure}
use Rattle.serve_loop.specs.declared.live.Live.{Live}
use Rattle.serve_loop.specs.Traffic.{Talk, Traffic, Moment}
use Rattle.serve_loop.specs.Relates.{IsTalk, IsExcused, IsNumber, IsRising, IsOrdered, AreDistinct, Relates}
use Rattle.serve_loop.specs.Sentence.{SendsResponse, SendsWhole, Sentence, WholeSentence, SpeaksWhole}
use Rattle.serve_loop.specs.Steps.{EndsBy}
use Rattle.serve_loop.proofs.TalkLemmas.{up_since}

pad_excused : (before now : ℕ) (m : Mark) → IsNoFailure m → IsExcused before now m
pad_excused before now (Served version) h = tt
pad_excused before now (Failed version) h = absurd h
pad_excused before now (Starved version) h = tt

-- a mark of the latest version is not below an earlier one
from_latest : (low latest : ℕ) (m : Mark) → low ≤ latest → latest ≤ version_at m → low ≤ version_at m
from_latest low latest m h l = omega (arith, h, l)

-- a history of data sets has at least one
pub has_one : {Data Settings : Type 0} (history : List Data) (server : Serving Data Settings) → IsHistory history server → 1 ≤ length history
has_one {Data = Data} {Settings = Settings} history server h = omega (arith, ap (λ (x : List Data). length x) h.last, length-append h.before (server.data_set ∷ []))

pub some_same : {X : Type 0} (o : Option X) (x y : X) → o ≡ Some x → o ≡ Some y → x ≡ y
some_same o x y e f = cc

all_front : (P : ℕ → Type 0) (xs ys : List ℕ) → AllByRecursion P (xs ++ ys) → AllByRecursion P xs
all_front P [] ys a = tt
all_front P (x ∷ xs) ys a = (a.0, all_front P xs ys a.1)

distinct_front : (xs ys : List ℕ) → AreDistinct (xs ++ ys) → AreDistinct xs
distinct_front [] ys a = tt
distinct_front (x ∷ xs) ys a = (all_front (λ m. m ≢ x) xs ys a.0, distinct_front xs ys a.1)

module _ {C Data Settings : Type 0} where
  -- what a talk sent is a prefix of the response to what was received
  pub sends_response : (kind : Kind C Data Settings) → BeginsResponse kind → (since now : Moment Data Settings) (history : List Data) (owner : ℕ → ℕ) (k : ℕ) (talk : Talk C)
      → IsHistory history now.served → since.served.version ≤ now.served.version → IsTalk kind since history owner now k talk → (sent received : List ℕ)
      → (now.wire.links k).sent ≡ Some sent → (now.wire.links k).received ≡ Some received
      → SendsResponse kind since now history owner k sent received
  sends_response kind begins since now history owner k talk is_history up h sent received told_sent told_received =
      let count = is_history.count in
      let low : since.served.version ≤ length history = omega (arith, up, count) in
      let b = begins history now.served.config talk.fed talk.taken talk.marks talk.connection (has_one history now.served is_history) h.answers talk.unfed talk.over h.within in
      let s : talk.taken ++ take talk.over (kind.pending talk.connection) ≡ sent = sym (h.sent_is sent told_sent) in
      let r : talk.fed ++ talk.unfed ≡ received = sym (h.received_is received told_received) in
      subst (λ (x : List ℕ). SendsResponse kind since now history owner k x received) s
      (subst (λ (y : List ℕ). SendsResponse kind since now history owner k (talk.taken ++ take talk.over (kind.pending talk.connection)) y) r
      (record {
        marks = b.all;
        marked = b.marked;
        rest = b.rest;
        response = b.text;
        excused = subst (λ (ms : List Mark). AllByRecursion (IsExcused since.supply.faults now.supply.faults) ms) (sym b.split)
            (all_append _ talk.marks b.padding h.excused (all_so _ _ (λ (m : Mark). pad_excused since.supply.faults now.supply.faults m) b.padding b.no_failure));
        level = subst (λ (ms : List Mark). AllByRecursion (λ mark. since.served.version ≤ version_at mark) ms) (sym b.split)
            (all_append _ talk.marks b.padding h.level (all_so _ _ (λ (m : Mark). from_latest since.served.version (length history) m low) b.padding b.latest));
        numbers = subst (λ (ns : List ℕ). AllByRecursion (IsNumber owner k since.served.version now.served.version) ns) (sym b.numbers) h.numbers;
        rising = subst (λ (ns : List ℕ). IsRising ns) (sym b.numbers) h.rising;
      }))

  -- the first part of the sentence, whichever connections are live
  pub sentence : (kind : Kind C Data Settings) → BeginsResponse kind → (may : Data → Type 0) (first : List Data) (since : Moment Data Settings) (t : Traffic C Data) (at : ℕ → Option (Live C)) (len : ℕ) (now : Moment Data Settings)
      → Relates kind may first since t at len now → Sentence kind may first since now
  sentence kind begins may first since t at len now r = record {
    history = t.history;
    given = t.given;
    owner = t.owner;
    versions = r.versions;
    links = λ k later given sent received told_sent told_received. let h = r.talks k later given in
        sends_response kind begins since now t.history t.owner k h.talk r.versions.serves (up_since may first since t.history t.given now r.versions) h.is sent received told_sent told_received;
  }

  -- a link that was closed in order holds its whole response
  pub sends_whole : (kind : Kind C Data Settings) → IsWhole kind → (may : Data → Type 0) (first : List Data) (since : Moment Data Settings) (t : Traffic C Data) (at : ℕ → Option (Live C)) (len : ℕ) (now : Moment Data Settings)
      → Relates kind may first since t at len now → (k : ℕ) → IsOrdered kind since t.talks now.wire k → SendsWhole kind since now t.history t.owner k
  sends_whole kind whole may first since t at len now r k o =
      let talks = r.talks k o.later o.given in
      let h = subst (λ (x : Talk C). IsTalk kind since t.history t.owner now k x) (some_same (t.talks k) talks.talk o.talk talks.talk_is o.talk_is) talks.is in
      let w = whole t.history now.served.config o.talk.fed o.talk.taken o.talk.marks o.talk.connection h.answers o.pending o.owes o.wants in
      let fed : (received : List ℕ) → (now.wire.links k).received ≡ Some received → o.talk.fed ≡ received =
      λ received told. sym (h.received_is received told ∙ ap (λ (x : List ℕ). o.talk.fed ++ x) o.unfed ∙ append-nil o.talk.fed) in
      let taken : (sent : List ℕ) → (now.wire.links k).sent ≡ Some sent → sent ≡ o.talk.taken =
      λ sent told. h.sent_is sent told ∙ ap (λ (n : ℕ). o.talk.taken ++ take n (kind.pending o.talk.connection)) o.over ∙ append-nil o.talk.taken in
      record {
        later = o.later;
        given = o.given;
        whole = λ sent received told_sent told_received. let f = fed received told_received in (
          record {
            marks = o.talk.marks;
            marked = subst (λ (x : List ℕ). kind.IsMarked t.history now.served.config x o.talk.marks) f w.marked;
            rest = [];
            response = ap (λ (x : List ℕ). kind.response t.history now.served.config x o.talk.marks) (sym f) ∙ sym (taken sent told_sent ∙ w.text) ∙ sym (append-nil sent);
            excused = h.excused;
            level = h.level;
            numbers = subst (λ (x : List ℕ). AllByRecursion (IsNumber t.owner k since.served.version now.served.version) (kind.reloads now.served.config x o.talk.marks)) f h.numbers;
            rising = subst (λ (x : List ℕ). IsRising (kind.reloads now.served.config x o.talk.marks)) f h.rising;
          },
          refl,
        );
        end_ = λ received told. elim o.end_ [
          | inl c ↦ inl (ap (λ (x : List ℕ). kind.closes now.served.config x) (sym (fed received told)) ∙ sym w.closing ∙ c)
          | inr e ↦ inr e
        ];
      }

  -- the last part, of the connections that ended since some traffic
  pub whole_sentence : (kind : Kind C Data Settings) → IsWhole kind → (may : Data → Type 0) (first : List Data) (since : Moment Data Settings) (t u : Traffic C Data) (at : ℕ → Option (Live C)) (len : ℕ) (now : Moment Data Settings) (count wanted faults connections starved : ℕ)
      → Relates kind may first since u at len now → EndsBy t u count wanted faults now.wire.faults → connections ≡ counted_by count 0 → starved ≡ counted_by wanted 0
      → WholeSentence kind since now u.history u.owner faults connections starved
  whole_sentence kind whole may first since t u at len now count wanted faults connections starved r e c s =
      let each = subst (λ (xs : List ℕ). AllByRecursion (IsOrdered kind since u.talks now.wire) xs) e.ordered_is r.ends.ordered in
      let ci = e.count_is in
      let wi = e.wanted_is in
      record {
        whole = e.ordered;
        once = distinct_front e.ordered t.ordered (subst (λ (xs : List ℕ). AreDistinct xs) e.ordered_is r.ends.ordered_once);
        each = all_so _ _ (λ (k : ℕ). sends_whole kind whole may first since u at len now r k) e.ordered (all_front (IsOrdered kind since u.talks now.wire) e.ordered t.ordered each);
        broken = length e.broken;
        wanted = wanted;
        connections_is = c ∙ ap (λ (n : ℕ). counted_by n 0) (let x : count ≡ length e.ordered + length e.broken + wanted = omega (arith, ci, wi) in x);
        starved_is = s;
        rose = e.rose;
      }

  -- both parts
  pub speaks_whole : (kind : Kind C Data Settings) → BeginsResponse kind → IsWhole kind → (may : Data → Type 0) (first : List Data) (since : Moment Data Settings) (t u : Traffic C Data) (at : ℕ → Option (Live C)) (len : ℕ) (now : Moment Data Settings) (count wanted faults connections starved : ℕ)
      → Relates kind may first since u at len now → EndsBy t u count wanted faults now.wire.faults → connections ≡ counted_by count 0 → starved ≡ counted_by wanted 0
      → SpeaksWhole kind may first since now faults connections starved
  unfolding sentence
  speaks_whole kind begins whole may first since t u at len now count wanted faults connections starved r e c s = record {
    prefixes = sentence kind begins may first since u at len now r;
    whole = whole_sentence kind whole may first since t u at len now count wanted faults connections starved r e c s;
  }
