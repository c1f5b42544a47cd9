-- Serves proofs alone: histories that agree on the versions of marks give the same answers.
use Rattle.std.specs.Prelude.{ℕ, ◌≡◌, nat_le, false, not, bytes_eq, Option, Some, None, List, [], ◌∷◌, ◌++◌, map, length, if◌then◌else◌}
use Rattle.std.specs.List.{AllByRecursion, AllZip}
use Rattle.std.proofs.Common.{refl, ap, ap₂}
use Rattle.rdf_terms.specs.declared.term.Triple.{Triple}
use Rattle.rdf_terms.specs.Canon.{canon}
use Rattle.rdf_terms.specs.Selections.{Selection, selected, selected_last, selected_page}
use Rattle.tpf_base.specs.HttpHeads.{Request, Verdict, Accepted, Rejected}
use Rattle.tpf_base.specs.Marks.{Mark, Served, Failed, Starved, version_at}
use Rattle.template_fill.specs.HttpAnswer.{Answer, NQuads, answer_text, refusal}
use Rattle.template_fill.specs.ReadAddress.{path_of}
use Rattle.template_fill.specs.Metadata.{Config, page_metadata}
use Rattle.template_fill.specs.Bodies.{in_default_graph, page_body, version_of}
use Rattle.template_fill.specs.Answers.{Question, answer_if, answer_to, is_read, is_reload, page_answer, question_of, reload_answer, version_answer}
use Rattle.template_fill.specs.Responses.{FitsHead, answering, answers, asks_head, head_answer, reload_version, reload_versions}

-- both histories have this data set at the version of the mark
abbrev pub IsAlike : List (List Triple) → List (List Triple) → Mark → Type 0
IsAlike one other mark = version_of other (version_at mark) ≡ version_of one (version_at mark)

module _ (one other : List (List Triple)) (config : Config) where
  same_body : (version : ℕ) (s : Selection) (k : ℕ) → version_of other version ≡ version_of one version → page_body other version config s k ≡ page_body one version config s k
  unfolding page_body
  same_body version s k same =
      ap (λ (triples : List Triple). canon (map in_default_graph (selected_page triples s k config.page_size) ++ page_metadata config s k (length (selected triples s)) version)) same

  same_page : (version : ℕ) (question : Question) → version_of other version ≡ version_of one version → page_answer other version config question ≡ page_answer one version config question
  same_page version question same =
      ap₂ (λ (last : ℕ) (body : List ℕ). if nat_le question.page last then record { status = 200; media_type = NQuads; body = body } else refusal 404)
      (ap (λ (triples : List Triple). selected_last triples question.selection config.page_size) same) (same_body version question.selection question.page same)

  same_if : (version : ℕ) (question : Option Question) → version_of other version ≡ version_of one version → answer_if other version config question ≡ answer_if one version config question
  same_if version None same = refl
  same_if version (Some question) same = same_page version question same

  same_version : (version : ℕ) (request : Request) → version_of other version ≡ version_of one version → version_answer other version config request ≡ version_answer one version config request
  unfolding version_answer
  same_version version request same =
      ap (λ (answer : Answer). if not (is_read request.method) then refusal 405 else (if not (bytes_eq (path_of request.target) config.base.path) then refusal 404 else answer)) (same_if version (question_of config.rows request.target) same)

  same_answer : (mark : Mark) (request : Request) → IsAlike one other mark → answer_to other mark config request ≡ answer_to one mark config request
  unfolding answer_to
  same_answer mark request same =
      ap (λ (answer : Answer). if is_reload config request then reload_answer mark else answer) (same_version (version_at mark) request same)

  same_head : (head : Verdict) (mark : Mark) → IsAlike one other mark → head_answer (answering other config) head mark ≡ head_answer (answering one config) head mark
  same_head (Rejected status) mark same = refl
  same_head (Accepted request) mark same = ap (λ (answer : Answer). answer_text answer (asks_head request) request.closes) (same_answer mark request same)

  pub answers_alike : (heads : List Verdict) (marks : List Mark) → AllByRecursion (IsAlike one other) marks → answers (answering other config) heads marks ≡ answers (answering one config) heads marks
  answers_alike [] marks all = refl
  answers_alike (h ∷ heads) [] all = refl
  answers_alike (h ∷ heads) (m ∷ marks) all = ap₂ (λ (a b : List ℕ). a ++ b) (same_head h m all.0) (answers_alike heads marks all.1)

  -- which heads ask for a reload, no history decides
  pub numbers_alike : (heads : List Verdict) (marks : List Mark) → reload_versions (answering other config) heads marks ≡ reload_versions (answering one config) heads marks
  numbers_alike [] marks = refl
  numbers_alike (h ∷ heads) [] = refl
  numbers_alike (Rejected status ∷ heads) (m ∷ marks) = ap (λ (l : List ℕ). reload_version false m ++ l) (numbers_alike heads marks)
  numbers_alike (Accepted request ∷ heads) (m ∷ marks) = ap (λ (l : List ℕ). reload_version (is_reload config request) m ++ l) (numbers_alike heads marks)

  same_fit : (head : Verdict) (mark : Mark) → FitsHead (answering one config) head mark → FitsHead (answering other config) head mark
  same_fit (Accepted request) (Served version) is = tt
  same_fit (Accepted request) (Failed version) is = is
  same_fit (Accepted request) (Starved version) is = is
  same_fit (Rejected status) (Served version) is = tt
  same_fit (Rejected status) (Failed version) is = is
  same_fit (Rejected status) (Starved version) is = is

  pub fits_alike : (heads : List Verdict) (marks : List Mark) → AllZip (FitsHead (answering one config)) heads marks → AllZip (FitsHead (answering other config)) heads marks
  fits_alike [] [] all = tt
  fits_alike [] (m ∷ marks) all = absurd all
  fits_alike (h ∷ heads) [] all = absurd all
  fits_alike (h ∷ heads) (m ∷ marks) all = (same_fit h m all.0, fits_alike heads marks all.1)
