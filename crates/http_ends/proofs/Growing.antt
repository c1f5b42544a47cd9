-- The response to the bytes of a connection: more bytes only go on.
use Rattle.std.proofs.Common.{◌≡◌, ℕ, ◌≤◌, Bool, true, false, List, [], ◌∷◌, ◌++◌, map, length, take, drop, refl, sym, ap, subst, ◌∙◌, if◌then◌else◌, arith, length-append, length-take, append_assoc, append-nil}
use Rattle.std.specs.List.{AllZip, AllByRecursion}
use Rattle.std.proofs.lemmas.List.{take-append-drop, map-append, length-map}
use Rattle.tpf_base.specs.HttpHeads.{Verdict}
use Rattle.tpf_base.specs.HttpConnection.{Heads, heads_of, closes, unread_of, with_more}
use Rattle.http_wire.proofs.ConnectionLemmas.{more_heads, left_of}
use Rattle.tpf_base.specs.Marks.{Mark, Served}
use Rattle.template_fill.specs.Responses.{Answering, answering, head_answer, answers, response_by, marks_at, FitsHead, IsVersion, IsRising, AreMarks, ResponseGoesOn, ResponseAtGoesOn, ResponseBegins}
use Rattle.list_laws.proofs.Each.{all_front}
use Rattle.list_laws.proofs.Lists.{zip_length}
use Rattle.http_ends.proofs.Lists.{zip_front, rising_front}

-- ---- the response

module _ (server : Answering) where
  pub answers_append : (heads later : List Verdict) (marks others : List Mark) → length marks ≡ length heads
      → answers server (heads ++ later) (marks ++ others) ≡ answers server heads marks ++ answers server later others
  answers_append [] later [] others same = refl
  answers_append [] later (m ∷ marks) others same = absurd (omega arith)
  answers_append (h ∷ heads) later [] others same = absurd (omega arith)
  answers_append (h ∷ heads) later (m ∷ marks) others same =
      ap (λ (text : List ℕ). head_answer server h m ++ text) (answers_append heads later marks others (omega arith))
      ∙ sym (append_assoc (head_answer server h m) (answers server heads marks) (answers server later others))

  answers_front : (heads : List Verdict) (marks others : List Mark) → length marks ≡ length heads → answers server heads (marks ++ others) ≡ answers server heads marks
  answers_front [] marks others same = refl
  answers_front (h ∷ heads) [] others same = absurd (omega arith)
  answers_front (h ∷ heads) (m ∷ marks) others same = ap (λ (text : List ℕ). head_answer server h m ++ text) (answers_front heads marks others (omega arith))

  joined_answers : (closed : Bool) (heads : List Verdict) (unread more : List ℕ) (marks later : List Mark) → length marks ≡ length heads
      → answers server (with_more (record { heads = heads; unread = unread; closed = closed }) more).heads (marks ++ later)
      ≡ answers server heads marks ++ (if closed then [] else answers server (heads_of (unread ++ more)).heads later)
  joined_answers true heads unread more marks later same = answers_front heads marks later same ∙ sym (append-nil (answers server heads marks))
  joined_answers false heads unread more marks later same = answers_append heads (heads_of (unread ++ more)).heads marks later same

  joined_at : (version : ℕ) (closed : Bool) (heads : List Verdict) (unread more : List ℕ)
      → answers server (with_more (record { heads = heads; unread = unread; closed = closed }) more).heads (map (λ head. Served version) (with_more (record { heads = heads; unread = unread; closed = closed }) more).heads)
      ≡ answers server heads (map (λ head. Served version) heads) ++ (if closed then [] else answers server (heads_of (unread ++ more)).heads (map (λ head. Served version) (heads_of (unread ++ more)).heads))
  joined_at version true heads unread more = sym (append-nil (answers server heads (map (λ head. Served version) heads)))
  joined_at version false heads unread more =
      ap (answers server (heads ++ (heads_of (unread ++ more)).heads)) (map-append (λ head. Served version) heads (heads_of (unread ++ more)).heads)
      ∙ answers_append heads (heads_of (unread ++ more)).heads (map (λ head. Served version) heads) (map (λ head. Served version) (heads_of (unread ++ more)).heads) (length-map heads (λ head. Served version))

joined_closed : (closed : Bool) (heads : List Verdict) (unread more : List ℕ)
    → (with_more (record { heads = heads; unread = unread; closed = closed }) more).closed ≡ (if closed then true else (heads_of (unread ++ more)).closed)
joined_closed true heads unread more = refl
joined_closed false heads unread more = refl

joined_left : (closed : Bool) (heads : List Verdict) (unread more : List ℕ) → (if closed then [] else unread) ≡ unread
    → (with_more (record { heads = heads; unread = unread; closed = closed }) more).unread ≡ (if closed then [] else (heads_of (unread ++ more)).unread)
joined_left true heads unread more is = sym is
joined_left false heads unread more is = refl

pub goes_on : ResponseGoesOn
unfolding response_by closes unread_of
goes_on server bytes more =
    let h = heads_of bytes in
    record {
      text = λ marks later same. ap (λ (x : Heads). answers server x.heads (marks ++ later)) (more_heads bytes more) ∙ joined_answers server h.closed h.heads h.unread more marks later same;
      closing = ap (λ (x : Heads). x.closed) (more_heads bytes more) ∙ joined_closed h.closed h.heads h.unread more;
      left = ap (λ (x : Heads). x.unread) (more_heads bytes more) ∙ joined_left h.closed h.heads h.unread more (left_of bytes);
    }

pub at_goes_on : ResponseAtGoesOn
unfolding response_by marks_at closes unread_of
at_goes_on history config version bytes more =
    let h = heads_of bytes in
    ap (λ (x : Heads). answers (answering history config) x.heads (map (λ head. Served version) x.heads)) (more_heads bytes more) ∙ joined_at (answering history config) version h.closed h.heads h.unread more

-- ---- the beginning

-- the heads of more bytes begin with those of fewer
pub longer_heads : (closed : Bool) (heads : List Verdict) (unread more : List ℕ)
    → (rest : List Verdict) × ((with_more (record { heads = heads; unread = unread; closed = closed }) more).heads ≡ heads ++ rest)
longer_heads true heads unread more = ([], sym (append-nil heads))
longer_heads false heads unread more = ((heads_of (unread ++ more)).heads, refl)

module _ (server : Answering) (heads rest : List Verdict) (all : List Mark) (is : AreMarks server (heads ++ rest) all) where
  first_same : length (take (length heads) all) ≡ length heads
  first_same = taken (length heads) all (length (heads ++ rest)) (sym (zip_length (FitsHead server) (heads ++ rest) all is.fits)) within
    where
      within : length heads ≤ length (heads ++ rest)
      within = simp length-append (omega arith)

      taken : (n : ℕ) (all : List Mark) (count : ℕ) → length all ≡ count → n ≤ count → length (take n all) ≡ n
      taken n all count is within = simp length-take (omega arith)

  first_marks : AreMarks server heads (take (length heads) all)
  first_marks =
      let n = length heads in
      let split : all ≡ take n all ++ drop n all = sym (take-append-drop n all) in
      record {
        fits = zip_front (FitsHead server) heads rest (take n all) (drop n all) first_same (subst (AllZip (FitsHead server) (heads ++ rest)) split is.fits);
        versions = all_front (IsVersion server.versions) (take n all) (drop n all) (subst (AllByRecursion (IsVersion server.versions)) split is.versions);
        rising = rising_front (take n all) (drop n all) (subst (λ (marks : List Mark). IsRising marks) split is.rising);
      }

pub begins : ResponseBegins
begins server bytes more all marked =
    let h = heads_of bytes in
    let longer = longer_heads h.closed h.heads h.unread more in
    let heads : (heads_of (bytes ++ more)).heads ≡ h.heads ++ longer.0 = ap (λ (x : Heads). x.heads) (more_heads bytes more) ∙ longer.1 in
    let is : AreMarks server (h.heads ++ longer.0) all = subst (λ (heads : List Verdict). AreMarks server heads all) heads marked in
    let n = length h.heads in
    let split : take n all ++ drop n all ≡ all = take-append-drop n all in
    record {
      marks = take n all;
      later = drop n all;
      rest = if closes bytes then [] else response_by server (unread_of bytes ++ more) (drop n all);
      split = sym split;
      marked = first_marks server h.heads longer.0 all is;
      text = ap (response_by server (bytes ++ more)) (sym split) ∙ (goes_on server bytes more).text (take n all) (drop n all) (first_same server h.heads longer.0 all is);
    }
