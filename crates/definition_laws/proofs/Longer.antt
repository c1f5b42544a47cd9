-- A longer history: each answer over a version that was there is the same.
use Rattle.std.proofs.Common.{◌≡◌, ℕ, ◌≤◌, not, nat_le, List, [], ◌∷◌, ◌++◌, map, length, refl, ap, ap₂, if◌then◌else◌, arith, length-append, Option, Some, None}
use Rattle.std.specs.Prelude.{bytes_eq}
use Rattle.std.specs.List.{AllByRecursion, AllZip}
use Rattle.tpf_base.specs.HttpHeads.{Request, Verdict, Accepted, Rejected}
use Rattle.tpf_base.specs.HttpConnection.{heads_of}
use Rattle.rdf_terms.specs.declared.term.Triple.{Triple}
use Rattle.rdf_terms.specs.Canon.{canon}
use Rattle.rdf_terms.specs.Selections.{Selection, selected, selected_last, selected_page}
use Rattle.template_fill.specs.HttpAnswer.{Answer, NQuads, answer_text, refusal}
use Rattle.template_fill.specs.ReadAddress.{path_of}
use Rattle.template_fill.specs.Metadata.{Config, page_metadata}
use Rattle.template_fill.specs.Bodies.{version_of, in_default_graph, page_body}
use Rattle.tpf_base.specs.Marks.{Mark, Served, Failed, Starved, version_at}
use Rattle.template_fill.specs.Answers.{Question, question_of, page_answer, answer_if, is_read, version_answer, is_reload, reload_answer, answer_to}
use Rattle.template_fill.specs.Responses.{answering, asks_head, head_answer, answers, response_by, FitsHead, IsVersion, LongerHistoriesAgree}
use Rattle.template_fill.proofs.Histories.{versions_stay}

module _ (history more : List (List Triple)) (config : Config) where
  -- ---- answers

  same_body : (version : ℕ) (s : Selection) (k : ℕ) → version_of (history ++ more) version ≡ version_of history version → page_body (history ++ more) version config s k ≡ page_body history version config s k
  unfolding page_body
  same_body version s k same =
      ap (λ (triples : List Triple). canon (map in_default_graph (selected_page triples s k config.page_size) ++ page_metadata config s k (length (selected triples s)) version)) same

  same_page : (version : ℕ) (question : Question) → version_of (history ++ more) version ≡ version_of history version → page_answer (history ++ more) version config question ≡ page_answer history version config question
  same_page version question same =
      ap₂ (λ (last : ℕ) (body : List ℕ). if nat_le question.page last then record { status = 200; media_type = NQuads; body = body } else refusal 404)
      (ap (λ (triples : List Triple). selected_last triples question.selection config.page_size) same) (same_body version question.selection question.page same)

  same_if : (version : ℕ) (question : Option Question) → version_of (history ++ more) version ≡ version_of history version → answer_if (history ++ more) version config question ≡ answer_if history version config question
  same_if version None same = refl
  same_if version (Some question) same = same_page version question same

  same_version : (version : ℕ) (request : Request) → version_of (history ++ more) version ≡ version_of history version → version_answer (history ++ more) version config request ≡ version_answer history version config request
  unfolding version_answer
  same_version version request same =
      ap (λ (answer : Answer). if not (is_read request.method) then refusal 405 else (if not (bytes_eq (path_of request.target) config.base.path) then refusal 404 else answer)) (same_if version (question_of config.rows request.target) same)

  same_answer : (mark : Mark) (request : Request) → IsVersion (length history) mark → answer_to (history ++ more) mark config request ≡ answer_to history mark config request
  unfolding answer_to
  same_answer mark request is =
      ap (λ (answer : Answer). if is_reload config request then reload_answer mark else answer)
      (same_version (version_at mark) request (versions_stay history more (version_at mark) is.high (omega (arith, is.low, is.high))))

  same_head : (head : Verdict) (mark : Mark) → IsVersion (length history) mark → head_answer (answering (history ++ more) config) head mark ≡ head_answer (answering history config) head mark
  same_head (Rejected status) mark is = refl
  same_head (Accepted request) mark is = ap (λ (answer : Answer). answer_text answer (asks_head request) request.closes) (same_answer mark request is)

  same_answers : (heads : List Verdict) (marks : List Mark) → AllByRecursion (IsVersion (length history)) marks → answers (answering (history ++ more) config) heads marks ≡ answers (answering history config) heads marks
  same_answers [] marks all = refl
  same_answers (h ∷ heads) [] all = refl
  same_answers (h ∷ heads) (m ∷ marks) all = ap₂ (λ (a b : List ℕ). a ++ b) (same_head h m all.0) (same_answers heads marks all.1)

  -- ---- marks

  same_fit : (head : Verdict) (mark : Mark) → FitsHead (answering history config) head mark → FitsHead (answering (history ++ more) config) head mark
  same_fit (Accepted request) (Served version) is = tt
  same_fit (Accepted request) (Failed version) is = is
  same_fit (Accepted request) (Starved version) is = is
  same_fit (Rejected status) (Served version) is = tt
  same_fit (Rejected status) (Failed version) is = is
  same_fit (Rejected status) (Starved version) is = is

  same_fits : (heads : List Verdict) (marks : List Mark) → AllZip (FitsHead (answering history config)) heads marks → AllZip (FitsHead (answering (history ++ more) config)) heads marks
  same_fits [] [] all = tt
  same_fits [] (m ∷ marks) all = absurd all
  same_fits (h ∷ heads) [] all = absurd all
  same_fits (h ∷ heads) (m ∷ marks) all = (same_fit h m all.0, same_fits heads marks all.1)

  more_versions : (marks : List Mark) → AllByRecursion (IsVersion (length history)) marks → AllByRecursion (IsVersion (length (history ++ more))) marks
  more_versions [] all = tt
  more_versions (m ∷ marks) all = (record { low = all.0.low; high = further (version_at m) all.0.high }, more_versions marks all.1)
    where
      further : (n : ℕ) → n ≤ length history → n ≤ length (history ++ more)
      further n within = simp length-append (omega arith)

pub longer : LongerHistoriesAgree
unfolding response_by
longer history more config bytes marks is = record {
  marked = record {
    fits = same_fits history more config (heads_of bytes).heads marks is.fits;
    versions = more_versions history more config marks is.versions;
    rising = is.rising;
  };
  text = same_answers history more config (heads_of bytes).heads marks is.versions;
}
