-- Marks of further heads, and the numbers that reload requests among them are told.
use Rattle.std.proofs.Common.{◌≡◌, ℕ, ◌≤◌, Bool, false, List, [], ◌∷◌, ◌++◌, refl, ap, ap₂, sym, subst, ◌∙◌, arith, append_assoc}
use Rattle.std.specs.List.{AllByRecursion, AllZip}
use Rattle.tpf_base.specs.HttpHeads.{Verdict}
use Rattle.tpf_base.specs.Marks.{Mark, Served, version_at}
use Rattle.template_fill.specs.Responses.{Answering, AreMarks, FitsHead, IsRising, IsVersion, asks_reload, reload_version, reload_versions}
use Rattle.list_laws.proofs.Each.{all_append}
use Rattle.http_ends.proofs.Lists.{rising_append, zip_append}
use Rattle.tpf_server.specs.Read.{served_marks}
use Rattle.tpf_server.specs.Conversation.{AreServed}

-- each mark has this version
abbrev pub AreAt : ℕ → List Mark → Type 0
AreAt version marks = AllByRecursion (λ (mark : Mark). version_at mark ≡ version) marks

module _ (server : Answering) (version : ℕ) where
  served_fits : (heads : List Verdict) → AllZip (FitsHead server) heads (served_marks version heads)
  served_fits [] = tt
  served_fits (h ∷ heads) = (tt, served_fits heads)

  served_versions : 1 ≤ version → version ≤ server.versions → (heads : List Verdict) → AllByRecursion (IsVersion server.versions) (served_marks version heads)
  served_versions low high [] = tt
  served_versions low high (h ∷ heads) = (record { low = low; high = high }, served_versions low high heads)

  served_above : (heads : List Verdict) → AllByRecursion (λ (after : Mark). version ≤ version_at after) (served_marks version heads)
  served_above [] = tt
  served_above (h ∷ heads) = (omega arith, served_above heads)

  served_rising : (heads : List Verdict) → IsRising (served_marks version heads)
  served_rising [] = tt
  served_rising (h ∷ heads) = (served_above heads, served_rising heads)

  pub served_marked : 1 ≤ version → version ≤ server.versions → (heads : List Verdict) → AreMarks server heads (served_marks version heads)
  served_marked low high heads = record { fits = served_fits heads; versions = served_versions low high heads; rising = served_rising heads }

  -- with a mark of the same version before them
  pub marked_before : (head : Verdict) (mark : Mark) (heads : List Verdict) → 1 ≤ version → version ≤ server.versions → FitsHead server head mark → version_at mark ≡ version
      → AreMarks server (head ∷ heads) (mark ∷ served_marks version heads)
  marked_before head mark heads low high fits at = record {
    fits = (fits, served_fits heads);
    versions = (record { low = omega (arith, at, low); high = omega (arith, at, high) }, served_versions low high heads);
    rising = (subst (λ (n : ℕ). AllByRecursion (λ (after : Mark). n ≤ version_at after) (served_marks version heads)) (sym at) (served_above heads), served_rising heads);
  }

  above : (n : ℕ) (later : List Mark) → n ≤ version → AreAt version later → AllByRecursion (λ (after : Mark). n ≤ version_at after) later
  above n [] low at = tt
  above n (m ∷ later) low at = (omega (arith, low, at.0), above n later low at.1)

  between : (marks later : List Mark) → AllByRecursion (IsVersion version) marks → AreAt version later → AllByRecursion (λ (mark : Mark). AllByRecursion (λ (after : Mark). version_at mark ≤ version_at after) later) marks
  between [] later all at = tt
  between (m ∷ marks) later all at = (above (version_at m) later all.0.high at, between marks later all.1 at)

  pub marks_behind : (heads more : List Verdict) (marks later : List Mark) → server.versions ≡ version → AreMarks server heads marks → AreMarks server more later → AreAt version later → AreMarks server (heads ++ more) (marks ++ later)
  marks_behind heads more marks later all first second at = record {
    fits = zip_append (FitsHead server) heads more marks later first.fits second.fits;
    versions = all_append (IsVersion server.versions) marks later first.versions second.versions;
    rising = rising_append marks later first.rising second.rising (between marks later (subst (λ (n : ℕ). AllByRecursion (IsVersion n) marks) all first.versions) at);
  }

  pub served_at : (heads : List Verdict) → AreAt version (served_marks version heads)
  served_at [] = tt
  served_at (h ∷ heads) = (refl, served_at heads)

  pub are_served : (heads : List Verdict) → AreServed version (served_marks version heads)
  are_served [] = tt
  are_served (h ∷ heads) = (refl, are_served heads)

  pub plain_none : (heads : List Verdict) → AllByRecursion (λ (head : Verdict). asks_reload server head ≡ false) heads → reload_versions server heads (served_marks version heads) ≡ []
  plain_none [] all = refl
  plain_none (h ∷ heads) all = ap₂ (λ (a b : List ℕ). a ++ b) (ap (λ (b : Bool). reload_version b (Served version)) all.0) (plain_none heads all.1)

module _ (server : Answering) where
  no_marks : (heads : List Verdict) → reload_versions server heads [] ≡ []
  no_marks [] = refl
  no_marks (h ∷ heads) = refl

  -- heads without a mark tell no number
  pub numbers_front : (heads left : List Verdict) (marks : List Mark) → AllZip (FitsHead server) heads marks → reload_versions server (heads ++ left) marks ≡ reload_versions server heads marks
  numbers_front [] left [] all = no_marks left
  numbers_front [] left (m ∷ marks) all = absurd all
  numbers_front (h ∷ heads) left [] all = absurd all
  numbers_front (h ∷ heads) left (m ∷ marks) all = ap (λ (l : List ℕ). reload_version (asks_reload server h) m ++ l) (numbers_front heads left marks all.1)

  pub numbers_append : (heads more : List Verdict) (marks later : List Mark) → AllZip (FitsHead server) heads marks
      → reload_versions server (heads ++ more) (marks ++ later) ≡ reload_versions server heads marks ++ reload_versions server more later
  numbers_append [] more [] later all = refl
  numbers_append [] more (m ∷ marks) later all = absurd all
  numbers_append (h ∷ heads) more [] later all = absurd all
  numbers_append (h ∷ heads) more (m ∷ marks) later all =
      ap (λ (l : List ℕ). reload_version (asks_reload server h) m ++ l) (numbers_append heads more marks later all.1)
      ∙ sym (append_assoc (reload_version (asks_reload server h) m) (reload_versions server heads marks) (reload_versions server more later))
