-- Marks of more heads: joined, padded, and over one version.
use Rattle.std.proofs.Common.{◌≡◌, ℕ, ◌≤◌, Bool, true, false, List, [], ◌∷◌, ◌++◌, map, refl, sym, ap, ap₂, subst, ◌∙◌, if◌then◌else◌, arith, append-nil}
use Rattle.std.specs.List.{AllByRecursion, AllZip}
use Rattle.tpf_base.specs.HttpHeads.{Verdict}
use Rattle.tpf_base.specs.HttpConnection.{Heads, heads_of, closes, unread_of, with_more}
use Rattle.http_wire.proofs.ConnectionLemmas.{more_heads}
use Rattle.tpf_base.specs.Marks.{Mark, Served, Starved, version_at}
use Rattle.template_fill.specs.Responses.{Answering, answering, answers, response_by, marks_at, asks_reload, FitsHead, IsVersion, IsRising, AreMarks, padding_mark, padding, reload_version, reload_versions, MarksAreJoined, MarksArePadded, OneVersionIsMarked}
use Rattle.list_laws.proofs.Each.{all_append}
use Rattle.list_laws.proofs.Lists.{zip_length}
use Rattle.http_ends.proofs.Lists.{zip_append, rising_append}
use Rattle.http_ends.proofs.Growing.{answers_append}

Between : List Mark → List Mark → Type 0
Between marks later = AllByRecursion (λ mark. AllByRecursion (λ after. version_at mark ≤ version_at after) later) marks

marks_append : (server : Answering) (heads others : List Verdict) (marks later : List Mark) → AreMarks server heads marks → AreMarks server others later → Between marks later → AreMarks server (heads ++ others) (marks ++ later)
unfolding Between
marks_append server heads others marks later first second between = record {
  fits = zip_append (FitsHead server) heads others marks later first.fits second.fits;
  versions = all_append (IsVersion server.versions) marks later first.versions second.versions;
  rising = rising_append marks later first.rising second.rising between;
}

-- ---- joined

joined_case : (server : Answering) (closed : Bool) (heads : List Verdict) (unread more : List ℕ) (marks later : List Mark) → AreMarks server heads marks
    → (closed ≡ true → later ≡ []) → (closed ≡ false → AreMarks server (heads_of (unread ++ more)).heads later) → Between marks later
    → AreMarks server (with_more (record { heads = heads; unread = unread; closed = closed }) more).heads (marks ++ later)
joined_case server true heads unread more marks later first none some between =
    subst (AreMarks server heads) (sym (append-nil marks) ∙ ap (λ (l : List Mark). marks ++ l) (sym (none refl))) first
joined_case server false heads unread more marks later first none some between = marks_append server heads (heads_of (unread ++ more)).heads marks later first (some refl) between

pub joined : MarksAreJoined
unfolding closes unread_of Between
joined server bytes more marks later first none some between =
    let h = heads_of bytes in
    subst (λ (x : Heads). AreMarks server x.heads (marks ++ later)) (sym (more_heads bytes more)) (joined_case server h.closed h.heads h.unread more marks later first none some between)

-- ---- padded

module _ (server : Answering) (version : ℕ) where
  fits_if : (head : Verdict) (v : Bool) → asks_reload server head ≡ v → FitsHead server head (if v then Starved version else Served version)
  fits_if head true is = is
  fits_if head false is = tt

  padding_fits : (heads : List Verdict) → AllZip (FitsHead server) heads (padding server version heads)
  padding_fits [] = tt
  padding_fits (h ∷ heads) = (fits_if h (asks_reload server h) refl, padding_fits heads)

  version_if : (v : Bool) → version_at (if v then Starved version else Served version) ≡ version
  version_if true = refl
  version_if false = refl

  mark_version : (head : Verdict) → version_at (padding_mark server version head) ≡ version
  mark_version head = version_if (asks_reload server head)

  padding_versions : 1 ≤ version → version ≤ server.versions → (heads : List Verdict) → AllByRecursion (IsVersion server.versions) (padding server version heads)
  padding_versions low high [] = tt
  padding_versions low high (h ∷ heads) =
      let is = mark_version h in (record { low = omega (arith, is, low); high = omega (arith, is, high) }, padding_versions low high heads)

  padding_above : (n : ℕ) → n ≤ version → (heads : List Verdict) → AllByRecursion (λ after. n ≤ version_at after) (padding server version heads)
  padding_above n low [] = tt
  padding_above n low (h ∷ heads) = let is = mark_version h in (omega (arith, is, low), padding_above n low heads)

  padding_rising : (heads : List Verdict) → IsRising (padding server version heads)
  padding_rising [] = tt
  padding_rising (h ∷ heads) = let is = mark_version h in (padding_above (version_at (padding_mark server version h)) (omega (arith, is)) heads, padding_rising heads)

  padding_behind : (marks : List Mark) → AllByRecursion (λ mark. version_at mark ≤ version) marks → (heads : List Verdict) → Between marks (padding server version heads)
  unfolding Between
  padding_behind [] all heads = tt
  padding_behind (m ∷ marks) all heads = (padding_above (version_at m) all.0 heads, padding_behind marks all.1 heads)

  padding_marks : 1 ≤ version → version ≤ server.versions → (heads : List Verdict) → AreMarks server heads (padding server version heads)
  padding_marks low high heads = record { fits = padding_fits heads; versions = padding_versions low high heads; rising = padding_rising heads }

  no_reload_if : (v : Bool) → reload_version v (if v then Starved version else Served version) ≡ []
  no_reload_if true = refl
  no_reload_if false = refl

  no_reloads : (heads : List Verdict) → reload_versions server heads (padding server version heads) ≡ []
  no_reloads [] = refl
  no_reloads (h ∷ heads) = ap₂ (λ (a b : List ℕ). a ++ b) (no_reload_if (asks_reload server h)) (no_reloads heads)

  padded_reloads : (heads later : List Verdict) (marks : List Mark) → AllZip (FitsHead server) heads marks → reload_versions server (heads ++ later) (marks ++ padding server version later) ≡ reload_versions server heads marks
  padded_reloads [] later [] all = no_reloads later
  padded_reloads [] later (m ∷ marks) all = absurd all
  padded_reloads (h ∷ heads) later [] all = absurd all
  padded_reloads (h ∷ heads) later (m ∷ marks) all = ap (λ (numbers : List ℕ). reload_version (asks_reload server h) m ++ numbers) (padded_reloads heads later marks all.1)

pub padded : MarksArePadded
unfolding response_by
padded server bytes first later marks version is marked low high below = record {
  marked = subst (λ (heads : List Verdict). AreMarks server heads (marks ++ padding server version later)) (sym is)
      (marks_append server first later marks (padding server version later) marked (padding_marks server version low high later) (padding_behind server version marks below later));
  text = ap (λ (heads : List Verdict). answers server heads (marks ++ padding server version later)) is
      ∙ answers_append server first later marks (padding server version later) (sym (zip_length (FitsHead server) first marks marked.fits));
  reloads = ap (λ (heads : List Verdict). reload_versions server heads (marks ++ padding server version later)) is ∙ padded_reloads server version first later marks marked.fits;
}

-- ---- over one version

served_fits : (server : Answering) (version : ℕ) (heads : List Verdict) → AllZip (FitsHead server) heads (map (λ head. Served version) heads)
served_fits server version [] = tt
served_fits server version (h ∷ heads) = (tt, served_fits server version heads)

served_versions : (versions version : ℕ) → 1 ≤ version → version ≤ versions → (heads : List Verdict) → AllByRecursion (IsVersion versions) (map (λ head. Served version) heads)
served_versions versions version low high [] = tt
served_versions versions version low high (h ∷ heads) = (record { low = low; high = high }, served_versions versions version low high heads)

served_above : (version : ℕ) (heads : List Verdict) → AllByRecursion (λ after. version ≤ version_at after) (map (λ head. Served version) heads)
served_above version [] = tt
served_above version (h ∷ heads) = (omega arith, served_above version heads)

served_rising : (version : ℕ) (heads : List Verdict) → IsRising (map (λ head. Served version) heads)
served_rising version [] = tt
served_rising version (h ∷ heads) = (served_above version heads, served_rising version heads)

pub one_version : OneVersionIsMarked
unfolding marks_at
one_version history config version bytes low high =
    let heads = (heads_of bytes).heads in
    record { fits = served_fits (answering history config) version heads; versions = served_versions _ version low high heads; rising = served_rising version heads }
