-- The bytes of a reply that a feed keeps, and the body that is made of them.
use Rattle.std.proofs.Common.{◌≡◌, ◌≢◌, ℕ, ◌+◌, ◌-◌, ◌≤◌, Bool, true, false, List, [], ◌++◌, length, take, drop, Option, Some, None, ◌↔◌, refl, sym, ap, ap₂, ◌∙◌, subst, arith, length-drop, if◌then◌else◌}
use Rattle.std.specs.List.{between, copy_within}
use Rattle.std.proofs.lemmas.List.{drop-drop, length-take-le, take_at, drop_at}
use Rattle.std.proofs.lemmas.List.Edits.{between_none, take-paste, drop-paste}
use Rattle.std.proofs.lemmas.Slice.{between_is}
use Rattle.tpf_base.specs.HttpReply.{Place, InHeads, Finished, Gathered, begun, is_open, after_bytes, reading_from, at_the_end}
use Rattle.http_wire.specs.declared.state.Stage.{Stage}
use Rattle.http_wire.specs.declared.state.Stage.TheVariants as stage
use Rattle.http_wire.specs.declared.state.State.{State}
use Rattle.http_wire.specs.declared.state.Part.{Part}
use Rattle.http_wire.specs.declared.state.Part.TheVariants as parts
use Rattle.http_wire.specs.Replies.{Feeding, Runs, longer, closed_at, starting, fed, reply_at}
use Rattle.http_wire.specs.declared.message.Reply.{Reply}
use Rattle.http_wire.specs.Places.{place_for, place_of, gathered_of, body_behind, count_behind, read_place, ReadsTo, RunsOn, IsRead, IsMoved}
use Rattle.http_wire.proofs.RunLemmas.{runs_first, runs_on, runs_over, runs_out, bytes_append, over_bytes}
use Rattle.http_wire.proofs.ReadLemmas.{few_behind}

-- ---- the body, moved to the front

-- nothing was read
pub moved_first : (s : State) (whole : List ℕ) → s.stage ≡ stage.Heads → s.passed ≡ 0 → s.begins ≡ 0 → s.count ≡ 0 → IsMoved s whole whole 0
moved_first s whole heads passed begins count =
    let line : between s.begins 0 whole ≡ [] = ap (λ (k : ℕ). between k 0 whole) begins ∙ between_none whole 0 in
    let place : place_of s (between s.begins 0 whole) (take s.count whole) ≡ begun =
    ap (λ (at : Stage). place_for at s.passed (between s.begins 0 whole) (gathered_of s (take s.count whole))) heads ∙ ap₂ (λ (n : ℕ) (x : List ℕ). InHeads n x) passed line in
    record {
      begins = omega arith;
      few = omega arith;
      within = omega arith;
      length_ = refl;
      rest = refl;
      runs = subst (λ (p : Place). Runs s.limit begun whole 0 p) (sym place) (runs_first s.limit begun whole);
    }

rest_later : (from at : ℕ) (xs ys : List ℕ) → from ≤ at → drop from xs ≡ drop from ys → drop at xs ≡ drop at ys
rest_later from at xs ys later same =
    let back : from + (at - from) ≡ at = omega arith in
    ap (λ (k : ℕ). drop k xs) (sym back) ∙ sym (drop-drop (at - from) from xs) ∙ ap (drop (at - from)) same ∙ drop-drop (at - from) from ys ∙ ap (λ (k : ℕ). drop k ys) back

-- what a step reads of these bytes it reads of the whole reply
step_runs : (old new : State) (whole bytes : List ℕ) (at next : ℕ) (part : Part) → IsMoved old whole bytes at → ReadsTo old new bytes at next part
    → Runs new.limit begun whole next (place_of new (between new.begins next bytes) (body_behind part (take old.count bytes) (between at next bytes)))
step_runs old new whole bytes at next part m r =
    let begins = m.begins in
    let few = m.few in
    let within = m.within in
    let more = r.more in
    let now : Place = place_of old (between old.begins at bytes) (take old.count bytes) in
    let behind : Place = place_of new (between new.begins next bytes) (body_behind part (take old.count bytes) (between at next bytes)) in
    let span : at + (next - at) ≡ next = omega arith in
    let front : length (take old.count bytes) ≡ old.count = length-take-le old.count bytes (omega arith) in
    let rest : drop at bytes ≡ drop at whole = rest_later old.begins at bytes whole m.begins m.rest in
    let step : Runs old.limit now (drop at whole) (next - at) behind = subst (λ (x : List ℕ). Runs old.limit now x (next - at) behind) rest (r.runs (take old.count bytes) front) in
    subst (λ (limit : ℕ). Runs limit begun whole next behind) (sym r.limit)
    (subst (λ (k : ℕ). Runs old.limit begun whole k behind) span (runs_on _ _ _ _ now _ behind m.runs step))

-- bytes of the body are moved behind it
pub moved_body : (old new : State) (whole bytes after : List ℕ) (at next : ℕ) → IsMoved old whole bytes at → ReadsTo old new bytes at next parts.Body
    → after ≡ copy_within bytes at next old.count → length after ≡ length bytes → IsMoved new whole after next
moved_body old new whole bytes after at next m r is same =
    let begins = m.begins in
    let few = m.few in
    let within = m.within in
    let more = r.more in
    let fits = r.within in
    let count = r.count in
    let behind : new.begins ≡ next = r.behind refl in
    let left : length (drop at bytes) ≡ length bytes - at = length-drop at bytes in
    let front : take (old.count + (next - at)) after ≡ take old.count bytes ++ take (next - at) (drop at bytes) =
    ap (take (old.count + (next - at))) is ∙ take-paste bytes old.count (drop at bytes) (next - at) (omega arith) (omega arith) in
    let back : drop (old.count + (next - at)) after ≡ drop (old.count + (next - at)) bytes =
    ap (drop (old.count + (next - at))) is ∙ drop-paste bytes old.count (drop at bytes) (next - at) (omega arith) (omega arith) in
    let line : between new.begins next bytes ≡ between new.begins next after =
    ap (λ (k : ℕ). between k next bytes) behind ∙ between_none bytes next ∙ sym (ap (λ (k : ℕ). between k next after) behind ∙ between_none after next) in
    let body : take old.count bytes ++ between at next bytes ≡ take new.count after = sym (ap (λ (k : ℕ). take k after) count ∙ front) in
    record {
      begins = omega arith;
      few = few_behind old new bytes at next parts.Body r m.begins m.few;
      within = omega arith;
      length_ = same ∙ m.length_;
      rest = rest_later (old.count + (next - at)) new.begins after bytes (omega arith) back ∙ rest_later old.begins new.begins bytes whole r.later m.rest;
      runs = subst (λ (p : Place). Runs new.limit begun whole next p) (ap₂ (λ (x y : List ℕ). place_of new x y) line body) (step_runs old new whole bytes at next parts.Body m r);
    }

stays_count : (part : Part) (count n : ℕ) (body run : List ℕ) → part ≢ parts.Body → (count_behind part count n ≡ count) × (body_behind part body run ≡ body)
stays_count parts.Body count n body run other = absurd (other refl)
stays_count parts.Line count n body run other = (refl, refl)
stays_count parts.Frame count n body run other = (refl, refl)

-- other bytes stay
pub moved_other : (old new : State) (whole bytes : List ℕ) (at next : ℕ) (part : Part) → part ≢ parts.Body → IsMoved old whole bytes at → ReadsTo old new bytes at next part → IsMoved new whole bytes next
moved_other old new whole bytes at next part other m r =
    let same = stays_count part old.count (next - at) (take old.count bytes) (between at next bytes) other in
    let body : body_behind part (take old.count bytes) (between at next bytes) ≡ take new.count bytes = same.1 ∙ ap (λ (k : ℕ). take k bytes) (sym (r.count ∙ same.0)) in
    record {
      begins = r.begins;
      few = few_behind old new bytes at next part r m.begins m.few;
      within = r.within;
      length_ = m.length_;
      rest = rest_later old.begins new.begins bytes whole r.later m.rest;
      runs = subst (λ (p : Place). Runs new.limit begun whole next p) (ap (place_of new (between new.begins next bytes)) body) (step_runs old new whole bytes at next part m r);
    }

same_finished : (g h : Gathered) → Finished g ≡ Finished h → g ≡ h
same_finished g h e = cc

closed_body : (at : Stage) (passed : ℕ) (line : List ℕ) (g h : Gathered) → closed_at (place_for at passed line g) ≡ Finished h → g ≡ h
closed_body stage.Heads passed line g h e = absurd cc
closed_body (stage.Sized wanted) passed line g h e = absurd cc
closed_body stage.Unsized passed line g h e = same_finished g h e
closed_body stage.Line passed line g h e = absurd cc
closed_body (stage.Chunk wanted) passed line g h e = absurd cc
closed_body stage.Return passed line g h e = absurd cc
closed_body stage.Newline passed line g h e = absurd cc
closed_body stage.Trailer passed line g h e = absurd cc
closed_body stage.Finished passed line g h e = same_finished g h e
closed_body (stage.Failed fault) passed line g h e = absurd cc

-- the bytes lead to where the state stands
moved_end : (limit : ℕ) (s : State) (whole bytes : List ℕ) (at : ℕ) (g : Gathered) → s.limit ≡ limit → IsMoved s whole bytes at
    → place_of s (between s.begins at bytes) (take s.count bytes) ≡ after_bytes s.limit begun whole → closed_at (after_bytes limit begun whole) ≡ Finished g
    → (take s.count bytes ≡ g.body) × (s.keeps ≡ g.keeps)
moved_end limit s whole bytes at g same m end is =
    let here : closed_at (place_of s (between s.begins at bytes) (take s.count bytes)) ≡ Finished g = ap closed_at (end ∙ ap (λ (n : ℕ). after_bytes n begun whole) same) ∙ is in
    let e = closed_body s.stage s.passed (between s.begins at bytes) (gathered_of s (take s.count bytes)) g here in
    (ap (λ (h : Gathered). h.body) e, ap (λ (h : Gathered). h.keeps) e)

pub moved_over : (limit : ℕ) (s : State) (whole bytes : List ℕ) (at : ℕ) (g : Gathered) → s.limit ≡ limit → IsMoved s whole bytes at → ((passed : ℕ) (held : List ℕ) (g : Gathered) → is_open (place_for s.stage passed held g) ≡ false)
    → closed_at (after_bytes limit begun whole) ≡ Finished g → (take s.count bytes ≡ g.body) × (s.keeps ≡ g.keeps)
moved_over limit s whole bytes at g same m over is = moved_end limit s whole bytes at g same m (runs_over _ _ _ _ _ m.runs (over s.passed (between s.begins at bytes) (gathered_of s (take s.count bytes)))).0 is

pub moved_out : (limit : ℕ) (s : State) (whole bytes : List ℕ) (at : ℕ) (g : Gathered) → s.limit ≡ limit → IsMoved s whole bytes at → at ≡ length bytes
    → closed_at (after_bytes limit begun whole) ≡ Finished g → (take s.count bytes ≡ g.body) × (s.keeps ≡ g.keeps)
moved_out limit s whole bytes at g same m all is = moved_end limit s whole bytes at g same m (runs_out _ _ _ _ _ m.runs (all ∙ m.length_)).0 is

-- ---- the feed

read_as : (at : Stage) (passed : ℕ) (line : List ℕ) (g : Gathered) → read_place at (place_for at passed line g) ≡ place_for at passed line g
read_as stage.Heads passed line g = refl
read_as (stage.Sized wanted) passed line g = refl
read_as stage.Unsized passed line g = refl
read_as stage.Line passed line g = refl
read_as (stage.Chunk wanted) passed line g = refl
read_as stage.Return passed line g = refl
read_as stage.Newline passed line g = refl
read_as stage.Trailer passed line g = refl
read_as stage.Finished passed line g = refl
read_as (stage.Failed fault) passed line g = refl

read_open : (at : Stage) (passed : ℕ) (line : List ℕ) (g : Gathered) (place : Place) → is_open (place_for at passed line g) ≡ true → read_place at place ≡ place
read_open stage.Heads passed line g place goes = refl
read_open (stage.Sized wanted) passed line g place goes = refl
read_open stage.Unsized passed line g place goes = refl
read_open stage.Line passed line g place goes = refl
read_open (stage.Chunk wanted) passed line g place goes = refl
read_open stage.Return passed line g place goes = refl
read_open stage.Newline passed line g place goes = refl
read_open stage.Trailer passed line g place goes = refl
read_open stage.Finished passed line g place goes = absurd cc
read_open (stage.Failed fault) passed line g place goes = refl

abbrev pub feeding_of : ℕ → Place → List ℕ → Feeding
feeding_of limit place received = record { limit = limit; place = place; received = received }

-- the feed as contracts see it
abbrev pub seen : State → List ℕ → Feeding
seen s bytes = feeding_of s.limit (read_place s.stage (after_bytes s.limit begun bytes)) bytes

-- before the first byte
pub read_none : (s : State) (bytes : List ℕ) → bytes ≡ [] → s.stage ≡ stage.Heads → s.passed ≡ 0 → s.begins ≡ 0 → s.count ≡ 0 → (IsRead s bytes) × (seen s bytes ≡ starting s.limit)
unfolding after_bytes
read_none s bytes none heads passed begins count =
    let line : drop s.begins bytes ≡ [] = ap₂ (λ (k : ℕ) (x : List ℕ). drop k x) begins none in
    let start : after_bytes s.limit begun bytes ≡ begun = ap (after_bytes s.limit begun) none in
    let place : read_place s.stage (after_bytes s.limit begun bytes) ≡ begun = ap₂ (λ (at : Stage) (p : Place). read_place at p) heads start in
    let here : place_of s (drop s.begins bytes) [] ≡ begun = ap (λ (at : Stage). place_for at s.passed (drop s.begins bytes) (gathered_of s [])) heads ∙ ap₂ (λ (n : ℕ) (x : List ℕ). InHeads n x) passed line in (
      record { begins = omega arith; few = omega arith; body = []; count = sym count; place = place ∙ sym here },
      ap₂ (feeding_of s.limit) place none,
    )

-- what was read of some bytes was read of them by another name
pub runs_of : (old new : State) (slice bytes : List ℕ) (start from used : ℕ) → slice ≡ bytes → start ≡ from → ((body : List ℕ) → length body ≡ old.count → RunsOn old new slice start used body)
    → (body : List ℕ) → length body ≡ old.count → RunsOn old new bytes from used body
runs_of old new slice bytes start from used e f runs body is = subst (λ (x : List ℕ). RunsOn old new x from used body) e (subst (λ (k : ℕ). RunsOn old new slice k used body) f (runs body is))

-- what the feed holds behind a piece, and what is read of it
pub record FeedsOn (old new : State) (bytes piece after : List ℕ) (used : ℕ) : Type 0 where
  pub is_read : IsRead new after
  pub seen_is : seen new after ≡ fed (seen old bytes) piece
  pub line : List ℕ
  pub body : List ℕ
  pub reading : reading_from old.limit (read_place old.stage (after_bytes old.limit begun bytes)) piece false ≡ longer used (at_the_end false (place_of new line body))

pub feeds_on : (old new : State) (bytes piece after : List ℕ) (used : ℕ) → IsRead old bytes → ((passed : ℕ) (held : List ℕ) (g : Gathered) → is_open (place_for old.stage passed held g) ≡ true) → after ≡ bytes ++ piece
    → ((body : List ℕ) → length body ≡ old.count → RunsOn old new after (length bytes) used body) → FeedsOn old new bytes piece after used
feeds_on old new bytes piece after used i goes is runs =
    let r = runs i.body i.count in
    let line : between old.begins (length bytes) after ≡ drop old.begins bytes =
    between_is after old.begins (length bytes) ∙ ap (drop old.begins) (ap (take (length bytes)) is ∙ take_at bytes piece (length bytes) refl) in
    let rest : drop (length bytes) after ≡ piece = ap (drop (length bytes)) is ∙ drop_at bytes piece (length bytes) refl in
    let read : Place = read_place old.stage (after_bytes old.limit begun bytes) in
    let here : place_of old (between old.begins (length bytes) after) i.body ≡ read = ap (λ (x : List ℕ). place_of old x i.body) line ∙ sym i.place in
    let plain : read ≡ after_bytes old.limit begun bytes = read_open old.stage old.passed [] (gathered_of old []) _ (goes old.passed [] (gathered_of old [])) in
    let now : Place = place_of new (drop new.begins after) r.after in
    let ends : now ≡ after_bytes old.limit read piece = r.place ∙ ap₂ (after_bytes old.limit) here rest in
    let whole : after_bytes old.limit read piece ≡ after_bytes new.limit begun after =
    ap (λ (p : Place). after_bytes old.limit p piece) plain ∙ sym (bytes_append old.limit begun bytes piece) ∙ ap₂ (λ (n : ℕ) (x : List ℕ). after_bytes n begun x) (sym r.limit) (sym is) in
    let place : read_place new.stage (after_bytes new.limit begun after) ≡ now =
    ap (read_place new.stage) (sym (ends ∙ whole)) ∙ read_as new.stage new.passed (drop new.begins after) (gathered_of new r.after) in
    let goes_on : is_open read ≡ true = ap is_open (sym here) ∙ goes old.passed _ (gathered_of old i.body) in
    record {
      is_read = record { begins = r.begins; few = r.few; body = r.after; count = r.count; place = place };
      seen_is = seen_by (seen old bytes) new.limit _ after r.limit (place ∙ ends) (is ∙ sym (ap (λ (v : Bool). if v then bytes ++ piece else bytes) goes_on));
      line = drop new.begins after;
      body = r.after;
      reading = sym (ap₂ (λ (p : Place) (x : List ℕ). reading_from old.limit p x false) here rest) ∙ r.reading;
    }
  where
    seen_by : (f : Feeding) (limit : ℕ) (place : Place) (after : List ℕ) → limit ≡ f.limit → place ≡ after_bytes f.limit f.place piece → after ≡ (if is_open f.place then f.received ++ piece else f.received)
        → feeding_of limit place after ≡ fed f piece
    seen_by f limit place after l p r = ap₂ (λ (n : ℕ) (q : Place). feeding_of n q after) l p ∙ ap (feeding_of f.limit (after_bytes f.limit f.place piece)) r

-- a feed that is over stays as it is
pub over_fed : (f : Feeding) (piece : List ℕ) → is_open f.place ≡ false → f ≡ fed f piece
over_fed f piece over =
    ap₂ (feeding_of f.limit) (sym (over_bytes f.limit f.place piece over)) (sym (ap (λ (v : Bool). if v then f.received ++ piece else f.received) over))

-- ---- the reply

-- the place where the stage of the code is known
stage_at : (s : State) (bytes : List ℕ) (at : Stage) → IsRead s bytes → s.stage ≡ at
    → (body : List ℕ) × (length body ≡ s.count) × (read_place at (after_bytes s.limit begun bytes) ≡ place_for at s.passed (drop s.begins bytes) (gathered_of s body))
stage_at s bytes at i e = (
  i.body,
  i.count,
  ap (λ (t : Stage). read_place t (after_bytes s.limit begun bytes)) (sym e) ∙ i.place ∙ ap (λ (t : Stage). place_for t s.passed (drop s.begins bytes) (gathered_of s i.body)) e,
)

abbrev pub as_reply : List ℕ → Bool → Option Reply
as_reply body keeps = Some (record { body = body; keeps = keeps })

-- where it is whole
pub take_whole : (s : State) (bytes body : List ℕ) (keeps : Bool) → IsRead s bytes → s.stage ≡ stage.Finished
    → ((g : Gathered) → closed_at (after_bytes s.limit begun bytes) ≡ Finished g → (body ≡ g.body) × (keeps ≡ g.keeps))
    → as_reply body keeps ≡ reply_at (read_place s.stage (after_bytes s.limit begun bytes))
take_whole s bytes body keeps i e is =
    let at = stage_at s bytes stage.Finished i e in
    let same = is (gathered_of s at.0) at.2 in
    ap₂ as_reply same.0 same.1
    ∙ sym (ap reply_at (ap (λ (t : Stage). read_place t (after_bytes s.limit begun bytes)) e ∙ at.2))

none_at : (at : Stage) (passed : ℕ) (line : List ℕ) (g : Gathered) → at ≢ stage.Finished → None ≡ reply_at (place_for at passed line g)
none_at stage.Heads passed line g other = refl
none_at (stage.Sized wanted) passed line g other = refl
none_at stage.Unsized passed line g other = refl
none_at stage.Line passed line g other = refl
none_at (stage.Chunk wanted) passed line g other = refl
none_at stage.Return passed line g other = refl
none_at stage.Newline passed line g other = refl
none_at stage.Trailer passed line g other = refl
none_at stage.Finished passed line g other = absurd (other refl)
none_at (stage.Failed fault) passed line g other = refl

-- where it is not
pub take_none : (s : State) (bytes : List ℕ) → IsRead s bytes → s.stage ≢ stage.Finished → None ≡ reply_at (read_place s.stage (after_bytes s.limit begun bytes))
take_none s bytes i other = none_at s.stage s.passed (drop s.begins bytes) (gathered_of s i.body) other ∙ ap reply_at (sym i.place)

-- a test that did not hold
pub is_other : (b : Bool) (at other : Stage) → (b ≡ true ↔ at ≡ other) → b ≡ false → at ≢ other
is_other b at other h e same = let t = h.1 same in cc

-- a step over some bytes is one over them by another name
pub reads_as : (old new : State) (slice bytes : List ℕ) (at next : ℕ) (part p : Part) → slice ≡ bytes → part ≡ p → ReadsTo old new slice at next part → ReadsTo old new bytes at next p
reads_as old new slice bytes at next part p e f r = subst (λ (x : List ℕ). ReadsTo old new x at next p) e (subst (λ (q : Part). ReadsTo old new slice at next q) f r)
