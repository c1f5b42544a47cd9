-- One step of the reading of a reply, and steps one after another.
use Rattle.std.proofs.Common.{◌≡◌, ◌≢◌, ℕ, ◌+◌, ◌-◌, ◌<◌, ◌≤◌, true, false, List, [], ◌∷◌, ◌++◌, length, take, drop, get_or, refl, sym, ap, ap₂, ◌∙◌, subst, arith, length-append, length-drop}
use Rattle.std.specs.Prelude.{min, nat_lt, ◌==◌}
use Rattle.std.specs.List.{between}
use Rattle.std.proofs.lemmas.Grind.{common_steps}
use Rattle.std.proofs.lemmas.List.{drop-drop, get_or-drop, length-take-le}
use Rattle.std.proofs.lemmas.List.Edits.{between_none, between_more, length-between}
use Rattle.std.proofs.lemmas.Slice.{between_to_end}
use Rattle.tpf_base.specs.HttpReply.{Place, Gathered, InHeads, AtNewline, AtReturn, InLine, is_open, is_padded, with_extra, line_place, chunk_size, after_line_byte, after_head_byte, after_byte, at_the_end}
use Rattle.http_wire.specs.declared.state.Stage.{Stage}
use Rattle.http_wire.specs.declared.state.Stage.TheVariants as stage
use Rattle.http_wire.specs.declared.state.State.{State}
use Rattle.http_wire.specs.declared.state.Part.{Part}
use Rattle.http_wire.specs.declared.state.Part.TheVariants as parts
use Rattle.http_wire.specs.Replies.{Runs, longer}
use Rattle.http_wire.specs.Places.{room_at, room_for, with_run, place_for, place_of, gathered_of, line_behind, body_behind, count_behind, ReadsTo, RunsOn}
use Rattle.http_wire.proofs.RunLemmas.{runs_first, runs_on, runs_one, runs_over, runs_out}
use Rattle.std.proofs.lemmas.List.{nil_from_length}
use Rattle.http_wire.proofs.BodyLemmas.{body_runs}

-- ---- one byte of each kind

is_byte : (b c : ℕ) → b ≡ c → (b == c) ≡ true
is_byte b c e = grind (arith, common_steps)

no_byte : (b c : ℕ) → b ≢ c → (b == c) ≡ false
no_byte b c e = grind (arith, common_steps)

within_line : (n : ℕ) → n ≤ 1024 → nat_lt 1024 n ≡ false
within_line n few = grind (arith, common_steps)

-- a chunk line is whole
pub line_ends : (line : List ℕ) (b : ℕ) (g : Gathered) → length line ≤ 1024 → b ≡ 10 → after_line_byte line b g ≡ line_place g (chunk_size line)
unfolding after_line_byte
line_ends line b g few is = rw (within_line (length line) few, is_byte b 10 is) refl

-- it goes on
pub line_goes : (line : List ℕ) (b : ℕ) (g : Gathered) → length line ≤ 1024 → b ≢ 10 → is_padded g ≡ false → after_line_byte line b g ≡ InLine line g
unfolding after_line_byte
line_goes line b g few other fits = rw (within_line (length line) few, no_byte b 10 other, fits) refl

pub line_on : (s : State) (line body : List ℕ) → s.stage ≡ stage.Line → place_of s line body ≡ InLine line (gathered_of s body)
line_on s line body e = ap (λ (at : Stage). place_for at s.passed line (gathered_of s body)) e

pub newline_is : (limit b : ℕ) (g : Gathered) → b ≡ 10 → is_padded (with_extra g) ≡ false → after_byte limit (AtNewline g) b ≡ InLine [] (with_extra g)
newline_is limit b g is fits = rw (is_byte b 10 is, fits) refl

pub return_is : (limit b : ℕ) (g : Gathered) → b ≡ 13 → is_padded (with_extra g) ≡ false → after_byte limit (AtReturn g) b ≡ AtNewline (with_extra g)
return_is limit b g is fits = rw (is_byte b 13 is, fits) refl

body_stays : (part : Part) (body run : List ℕ) → part ≢ parts.Body → body_behind part body run ≡ body
body_stays parts.Body body run other = absurd (other refl)
body_stays parts.Line body run other = refl
body_stays parts.Frame body run other = refl

pub head_step : (old new : State) (part : Part) (line held body : List ℕ) (b : ℕ) → old.stage ≡ stage.Heads → old.count ≡ 0 → part ≢ parts.Body → line ≡ held ++ b ∷ [] → length body ≡ old.count
    → place_of new (line_behind part line) [] ≡ after_head_byte old.limit old.passed line
    → place_of new (line_behind part line) (body_behind part body (b ∷ [])) ≡ after_byte old.limit (place_of old held body) b
head_step old new part line held body b heads none other is count place =
    let empty : body ≡ [] = nil_from_length body (count ∙ none) in
    let before : place_of old held body ≡ InHeads old.passed held = ap (λ (at : Stage). place_for at old.passed held (gathered_of old body)) heads in
    ap (place_of new (line_behind part line)) (body_stays part body (b ∷ []) other ∙ empty) ∙ place ∙ ap (after_head_byte old.limit old.passed) is
    ∙ sym (ap (λ (p : Place). after_byte old.limit p b) before)

-- ---- one step

none_between : (bytes : List ℕ) (i j : ℕ) → i ≡ j → between i j bytes ≡ []
none_between bytes i j e = ap (λ (k : ℕ). between k j bytes) e ∙ between_none bytes j

room_is : (limit : ℕ) (s : State) (line body : List ℕ) → length body ≡ s.count → (at : Stage) → s.stage ≡ at → room_at limit (place_for at s.passed line (gathered_of s body)) ≡ room_for limit at s.count
room_is limit s line body e stage.Heads a = refl
room_is limit s line body e (stage.Sized wanted) a = refl
room_is limit s line body e stage.Unsized a = ap (λ (n : ℕ). limit - n) e
room_is limit s line body e stage.Line a = refl
room_is limit s line body e (stage.Chunk wanted) a = ap (λ (n : ℕ). min (wanted - 1) (limit - n)) e
room_is limit s line body e stage.Return a = refl
room_is limit s line body e stage.Newline a = refl
room_is limit s line body e stage.Trailer a = refl
room_is limit s line body e stage.Finished a = refl
room_is limit s line body e (stage.Failed fault) a = refl

-- bytes of a body, read at once
pub read_run : (old new : State) (bytes : List ℕ) (at n : ℕ) → new.limit ≡ old.limit → new.begins ≡ at + n → new.count ≡ old.count + n → old.begins ≤ at → at + n ≤ length bytes → 0 < n
    → n ≤ room_for old.limit old.stage old.count → ((passed : ℕ) (held : List ℕ) (g : Gathered) → is_open (place_for old.stage passed held g) ≡ true)
    → ((line body run : List ℕ) → length body ≡ old.count → length run ≡ n → place_of new [] (body ++ run) ≡ with_run (place_of old line body) run)
    → ReadsTo old new bytes at (at + n) parts.Body
read_run old new bytes at n limit begins count later within some room goes place =
    let span : (at + n) - at ≡ n = omega arith in
    let left : length (drop at bytes) ≡ length bytes - at = length-drop at bytes in
    let few : length (take n (drop at bytes)) ≡ n = length-take-le n (drop at bytes) (omega arith) in
    let run : between at (at + n) bytes ≡ take n (drop at bytes) = ap (λ (k : ℕ). take k (drop at bytes)) span in
    record {
      limit = limit;
      more = omega arith;
      within = within;
      begins = omega arith;
      later = omega arith;
      behind = λ e. begins;
      count = count ∙ ap (λ (k : ℕ). old.count + k) (sym span);
      runs = λ body is.
          let line : List ℕ = between old.begins at bytes in
          let fits : n ≤ room_at old.limit (place_of old line body) = (let same = room_is old.limit old line body is old.stage refl in omega arith) in
          let next : place_of new (between new.begins (at + n) bytes) (body ++ between at (at + n) bytes) ≡ with_run (place_of old line body) (take n (drop at bytes)) =
          ap₂ (λ (x y : List ℕ). place_of new x (body ++ y)) (none_between bytes new.begins (at + n) begins) run ∙ place line body (take n (drop at bytes)) is few in
          subst (λ (k : ℕ). Runs old.limit (place_of old line body) (drop at bytes) k (place_of new (between new.begins (at + n) bytes) (body ++ between at (at + n) bytes))) (sym span)
          (body_runs old.limit (place_of old line body) (drop at bytes) n _ (omega arith) fits (goes old.passed line (gathered_of old body)) next);
    }

line_is : (old new : State) (bytes : List ℕ) (at : ℕ) (part : Part) → (part ≡ parts.Line → new.begins ≡ old.begins) → (part ≢ parts.Line → new.begins ≡ at + 1)
    → between new.begins (at + 1) bytes ≡ line_behind part (between old.begins (at + 1) bytes)
line_is old new bytes at parts.Body same over = none_between bytes new.begins (at + 1) (over (λ e. cc))
line_is old new bytes at parts.Line same over = ap (λ (k : ℕ). between k (at + 1) bytes) (same refl)
line_is old new bytes at parts.Frame same over = none_between bytes new.begins (at + 1) (over (λ e. cc))

begins_by : (old new at : ℕ) (part : Part) → (part ≡ parts.Line → new ≡ old) → (part ≢ parts.Line → new ≡ at + 1) → old ≤ at → (new ≤ at + 1) × (old ≤ new)
begins_by old new at parts.Body same over later = let e = over (λ e. cc) in (omega arith, omega arith)
begins_by old new at parts.Line same over later = let e = same refl in (omega arith, omega arith)
begins_by old new at parts.Frame same over later = let e = over (λ e. cc) in (omega arith, omega arith)

-- one byte
pub read_byte : (old new : State) (bytes : List ℕ) (at : ℕ) (part : Part) → new.limit ≡ old.limit → (part ≡ parts.Line → new.begins ≡ old.begins) → (part ≢ parts.Line → new.begins ≡ at + 1)
    → new.count ≡ count_behind part old.count 1 → old.begins ≤ at → at < length bytes → ((passed : ℕ) (held : List ℕ) (g : Gathered) → is_open (place_for old.stage passed held g) ≡ true)
    → ((held body : List ℕ) → between old.begins (at + 1) bytes ≡ held ++ get_or bytes at 0 ∷ [] → length body ≡ old.count
    → place_of new (line_behind part (between old.begins (at + 1) bytes)) (body_behind part body (get_or bytes at 0 ∷ [])) ≡ after_byte old.limit (place_of old held body) (get_or bytes at 0))
    → ReadsTo old new bytes at (at + 1) part
read_byte old new bytes at part limit same over count later within goes place =
    let span : (at + 1) - at ≡ 1 = omega arith in
    let left : length (drop at bytes) ≡ length bytes - at = length-drop at bytes in
    let held : List ℕ = between old.begins at bytes in
    let begins = begins_by old.begins new.begins at part same over later in
    let one : between at (at + 1) bytes ≡ get_or bytes at 0 ∷ [] = between_more bytes at at 0 (omega arith) within ∙ ap (λ (x : List ℕ). x ++ get_or bytes at 0 ∷ []) (between_none bytes at) in
    let first : get_or bytes at 0 ≡ get_or (drop at bytes) 0 0 = sym (get_or-drop at bytes 0 0 ∙ ap (λ (k : ℕ). get_or bytes k 0) {x = at + 0} {y = at} (omega arith)) in
    record {
      limit = limit;
      more = omega arith;
      within = omega arith;
      begins = begins.0;
      later = begins.1;
      behind = λ e. over (λ f. let g : parts.Body ≡ parts.Line = sym e ∙ f in cc);
      count = count ∙ ap (count_behind part old.count) (sym span);
      runs = λ body is.
          let next : place_of new (between new.begins (at + 1) bytes) (body_behind part body (between at (at + 1) bytes)) ≡ after_byte old.limit (place_of old held body) (get_or (drop at bytes) 0 0) =
          ap₂ (λ (x y : List ℕ). place_of new x (body_behind part body y)) (line_is old new bytes at part same over) one
          ∙ place held body (between_more bytes old.begins at 0 later within) is ∙ ap (after_byte old.limit (place_of old held body)) first in
          subst (λ (k : ℕ). Runs old.limit (place_of old held body) (drop at bytes) k (place_of new (between new.begins (at + 1) bytes) (body_behind part body (between at (at + 1) bytes)))) (sym span)
          (runs_one old.limit (place_of old held body) (drop at bytes) _ (omega arith) (goes old.passed held (gathered_of old body)) next);
    }

-- ---- steps one after another

pub count_grows : (part : Part) (body run : List ℕ) (count n : ℕ) → length body ≡ count → length run ≡ n → length (body_behind part body run) ≡ count_behind part count n
count_grows parts.Body body run count n b r = let all = length-append body run in omega arith
count_grows parts.Line body run count n b r = b
count_grows parts.Frame body run count n b r = b

-- the body so far is no longer than what was read
pub few_behind : (old new : State) (bytes : List ℕ) (at next : ℕ) (part : Part) → ReadsTo old new bytes at next part → old.begins ≤ at → old.count ≤ old.begins → new.count ≤ new.begins
few_behind old new bytes at next parts.Body r begins few = let c = r.count in let b = r.behind refl in let m = r.more in omega arith
few_behind old new bytes at next parts.Line r begins few = let c = r.count in let l = r.later in omega arith
few_behind old new bytes at next parts.Frame r begins few = let c = r.count in let l = r.later in omega arith

-- from a place on so many bytes were read
pub record Along (first now : State) (bytes : List ℕ) (start at : ℕ) (body : List ℕ) : Type 0 where
  pub after : List ℕ
  pub count : length after ≡ now.count
  pub runs : Runs first.limit (place_of first (between first.begins start bytes) body) (drop start bytes) (at - start) (place_of now (between now.begins at bytes) after)

pub along_first : (s : State) (bytes : List ℕ) (start : ℕ) (body : List ℕ) → length body ≡ s.count → Along s s bytes start start body
along_first s bytes start body is =
    let none : start - start ≡ 0 = omega arith in
    record {
      after = body;
      count = is;
      runs = subst (λ (k : ℕ). Runs s.limit (place_of s (between s.begins start bytes) body) (drop start bytes) k (place_of s (between s.begins start bytes) body)) (sym none) (runs_first _ _ _);
    }

pub along_more : (first old new : State) (bytes : List ℕ) (start at next : ℕ) (part : Part) (body : List ℕ) → old.limit ≡ first.limit → start ≤ at → Along first old bytes start at body
    → ReadsTo old new bytes at next part → Along first new bytes start next body
along_more first old new bytes start at next part body limit later before r =
    let more = r.more in
    let rest : drop (at - start) (drop start bytes) ≡ drop at bytes = drop-drop (at - start) start bytes ∙ ap (λ (k : ℕ). drop k bytes) {x = start + (at - start)} {y = at} (omega arith) in
    let span : (at - start) + (next - at) ≡ next - start = omega arith in
    let now : Place = place_of old (between old.begins at bytes) before.after in
    let behind : Place = place_of new (between new.begins next bytes) (body_behind part before.after (between at next bytes)) in
    let step : Runs first.limit now (drop (at - start) (drop start bytes)) (next - at) behind =
    subst (λ (x : List ℕ). Runs first.limit now x (next - at) behind) (sym rest) (subst (λ (m : ℕ). Runs m now (drop at bytes) (next - at) behind) limit (r.runs before.after before.count)) in
    record {
      after = body_behind part before.after (between at next bytes);
      count = count_grows part before.after (between at next bytes) old.count (next - at) before.count (length-between bytes at next r.within) ∙ sym r.count;
      runs = subst (λ (k : ℕ). Runs first.limit (place_of first (between first.begins start bytes) body) (drop start bytes) k behind) span (runs_on _ _ _ _ now _ behind before.runs step);
    }

over_line : (s : State) (at : Stage) (line other body : List ℕ) → is_open (place_for at s.passed line (gathered_of s body)) ≡ false
    → place_for at s.passed line (gathered_of s body) ≡ place_for at s.passed other (gathered_of s body)
over_line s stage.Heads line other body over = absurd cc
over_line s (stage.Sized wanted) line other body over = refl
over_line s stage.Unsized line other body over = refl
over_line s stage.Line line other body over = absurd cc
over_line s (stage.Chunk wanted) line other body over = refl
over_line s stage.Return line other body over = refl
over_line s stage.Newline line other body over = refl
over_line s stage.Trailer line other body over = absurd cc
over_line s stage.Finished line other body over = refl
over_line s (stage.Failed fault) line other body over = refl

-- where the reply is over
pub along_over : (first now : State) (bytes : List ℕ) (start at : ℕ) (body : List ℕ) → now.limit ≡ first.limit → now.begins ≤ length bytes → now.count ≤ now.begins → Along first now bytes start at body
    → ((passed : ℕ) (held : List ℕ) (g : Gathered) → is_open (place_for now.stage passed held g) ≡ false) → RunsOn first now bytes start (at - start) body
along_over first now bytes start at body limit begins few a over =
    let line : List ℕ = between now.begins at bytes in
    let same = over_line now now.stage line (drop now.begins bytes) a.after (over now.passed line (gathered_of now a.after)) in
    let end = runs_over _ _ _ _ _ a.runs (over now.passed line (gathered_of now a.after)) in
    record {
      limit = limit;
      begins = begins;
      few = few;
      after = a.after;
      count = a.count;
      place = sym same ∙ end.0;
      reading = end.1 ∙ ap (λ (p : Place). longer (at - start) (at_the_end false p)) same;
    }

-- where the bytes are at an end
pub along_out : (first now : State) (bytes : List ℕ) (start at : ℕ) (body : List ℕ) → now.limit ≡ first.limit → now.begins ≤ length bytes → now.count ≤ now.begins → Along first now bytes start at body
    → at ≡ length bytes → RunsOn first now bytes start (at - start) body
along_out first now bytes start at body limit begins few a all =
    let line : between now.begins at bytes ≡ drop now.begins bytes = between_to_end bytes now.begins at (omega arith) in
    let same : place_of now (between now.begins at bytes) a.after ≡ place_of now (drop now.begins bytes) a.after = ap (λ (x : List ℕ). place_of now x a.after) line in
    let left : length (drop start bytes) ≡ length bytes - start = length-drop start bytes in
    let end = runs_out _ _ _ _ _ a.runs (omega arith) in
    record {
      limit = limit;
      begins = begins;
      few = few;
      after = a.after;
      count = a.count;
      place = sym same ∙ end.0;
      reading = end.1 ∙ ap (λ (p : Place). longer (at - start) (at_the_end false p)) same;
    }
