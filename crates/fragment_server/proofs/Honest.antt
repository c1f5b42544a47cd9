-- The response of a server that serves one version is the one of the definitions, over each history that ends with what it serves.
use Rattle.std.proofs.Common.{ℕ, ◌≡◌, ◌≤◌, ◌+◌, ◌∷◌, ◌++◌, [], Bool, true, false, List, length, if◌then◌else◌, refl, sym, ap, ap₂, subst, ◌∙◌, arith, length-append}
use Rattle.std.specs.List.{AllByRecursion, AllZip}
use Rattle.rdf_terms.specs.declared.term.Triple.{Triple}
use Rattle.tpf_base.specs.HttpHeads.{Verdict, Accepted, Rejected}
use Rattle.tpf_base.specs.HttpConnection.{heads_of}
use Rattle.tpf_base.specs.Marks.{Mark, Served, Failed, version_at}
use Rattle.template_fill.specs.Metadata.{Config}
use Rattle.template_fill.specs.Responses.{answering, asks_reload, reload_version, reload_versions, FitsHead, IsVersion, IsRising, AreMarks, OwesBy}
use Rattle.connections.specs.Versions.{Serving, IsHistory}
use Rattle.loop_wire.specs.Response.{IsOf}
use Rattle.fragment_server.specs.Failing.{failing_mark, failing_marks, failing_response}
use Rattle.fragment_server.specs.FailingLaws.{is_failing}

-- ---- marks of one version

module _ (history : List (List Triple)) (config : Config) (version : ℕ) (low : 1 ≤ version) (high : version ≤ length history) where
  asks_any : (head : Verdict) → asks_reload (answering [] config) head ≡ asks_reload (answering history config) head
  asks_any (Rejected status) = refl
  asks_any (Accepted request) = refl

  fits_if : (head : Verdict) (asks : Bool) → asks ≡ asks_reload (answering history config) head → FitsHead (answering history config) head (if asks then Failed version else Served version)
  fits_if head true e = sym e
  fits_if head false e = tt

  all_fit : (heads : List Verdict) → AllZip (FitsHead (answering history config)) heads (failing_marks config version heads)
  all_fit [] = tt
  all_fit (head ∷ heads) = (fits_if head (asks_reload (answering [] config) head) (asks_any head), all_fit heads)

  version_if : (asks : Bool) → version_at (if asks then Failed version else Served version) ≡ version
  version_if true = refl
  version_if false = refl

  is_version : (asks : Bool) → IsVersion (length history) (if asks then Failed version else Served version)
  is_version true = record { low = low; high = high }
  is_version false = record { low = low; high = high }

  all_versions : (heads : List Verdict) → AllByRecursion (IsVersion (length history)) (failing_marks config version heads)
  all_versions [] = tt
  all_versions (head ∷ heads) = (is_version (asks_reload (answering [] config) head), all_versions heads)

  all_later : (n : ℕ) (heads : List Verdict) → n ≡ version → AllByRecursion (λ (later : Mark). n ≤ version_at later) (failing_marks config version heads)
  all_later n [] e = tt
  all_later n (head ∷ heads) e = (subst (λ (k : ℕ). n ≤ k) (e ∙ sym (version_if (asks_reload (answering [] config) head))) (omega arith), all_later n heads e)

  all_rise : (heads : List Verdict) → IsRising (failing_marks config version heads)
  all_rise [] = tt
  all_rise (head ∷ heads) = (all_later (version_at (failing_mark config version head)) heads (version_if (asks_reload (answering [] config) head)), all_rise heads)

  marked : (heads : List Verdict) → AreMarks (answering history config) heads (failing_marks config version heads)
  marked heads = record { fits = all_fit heads; versions = all_versions heads; rising = all_rise heads }

-- ---- no number was told

no_number_if : (version : ℕ) (asks : Bool) → reload_version asks (if asks then Failed version else Served version) ≡ []
no_number_if version true = refl
no_number_if version false = refl

no_numbers : (config : Config) (version : ℕ) (heads : List Verdict) → reload_versions (answering [] config) heads (failing_marks config version heads) ≡ []
no_numbers config version [] = refl
no_numbers config version (head ∷ heads) =
    ap₂ (λ (a b : List ℕ). a ++ b) (no_number_if version (asks_reload (answering [] config) head)) (no_numbers config version heads)

is_of_if : (version : ℕ) (asks : Bool) → IsOf version (if asks then Failed version else Served version)
is_of_if version true = refl
is_of_if version false = refl

all_of : (config : Config) (version : ℕ) (heads : List Verdict) → AllByRecursion (IsOf version) (failing_marks config version heads)
all_of config version [] = tt
all_of config version (head ∷ heads) = (is_of_if version (asks_reload (answering [] config) head), all_of config version heads)

-- ---- the response

pub owes_response : (s : Serving (List Triple) Config) (history : List (List Triple)) → IsHistory history s → (sent owed : List ℕ) → owed ≡ failing_response s sent → OwesBy (answering history s.config) sent owed
owes_response s history last sent owed is =
    let count : length history ≡ s.version = last.count in
    let some : length history ≡ length last.before + 1 = ap (λ (h : List (List Triple)). length h) last.last ∙ length-append last.before (s.data_set ∷ []) in
    let low : 1 ≤ s.version = omega (arith, count, some) in
    let high : s.version ≤ length history = omega (arith, count) in
    let heads = (heads_of sent).heads in
    let marks = failing_marks s.config s.version heads in
    let are = marked history s.config s.version low high heads in
    (marks, (are, is ∙ sym (is_failing history s sent marks last are (all_of s.config s.version heads) (no_numbers s.config s.version heads))))
