-- The text that a query with groups gives.
use Rattle.std.specs.Prelude.{ℕ, ◌≡◌, ◌⊎◌, List, [], length, Option, Some, None}
use Rattle.std.specs.Io.KnownBytes.{Appends}
use Rattle.std.specs.List.Sorted.{IsPermutation}
use Rattle.rdf_terms.specs.declared.term.Triple.{Triple}
use Rattle.tpf_base.specs.Causes.{counted_by}
use Rattle.tpf_base.specs.Wrote.{AppendsPrefix}
use Rattle.template_fill.specs.Bodies.{version_of}
use Rattle.bgp_core.specs.declared.pattern.Pattern.{Pattern}
use Rattle.bgp_core.specs.Solutions.{Places}
use Rattle.result_json.specs.Results.{result_text}
use Rattle.group_query.specs.Trees.{GroupData, group_tree, blocks_of, shown_query}
use Rattle.group_rows.specs.Evaluation.{answers}
use Rattle.group_rows.specs.Gathering.{gathered_answers}
use Rattle.tpf_client.specs.declared.options.Report.{Report}
use Rattle.tpf_client.specs.Offers.{IsVersionOf}
use Rattle.group_patterns.specs.Blocks.{BlockRows, rows_of}

-- the text of a result with so many rows was written whole
pub record WritesGroup (g : GroupData) (n : ℕ) (taken taken' : Option (List ℕ)) : Type 0 where
  pub rows : List Places
  pub text : Appends taken taken' (result_text (shown_query g) rows)
  pub count : n ≡ counted_by (length rows) 0

-- a prefix of such a text was written
pub record WritesGroupPrefix (g : GroupData) (taken taken' : Option (List ℕ)) : Type 0 where
  pub rows : List Places
  pub text : AppendsPrefix taken taken' (result_text (shown_query g) rows)

-- ---- from the rows of the blocks

-- Of these blocks, which gave their rows, the text of what is gathered from these was written whole, of as many rows as are reported.
pub record WritesGathered (g : GroupData) (done : List BlockRows) (report : Report) (taken taken' : Option (List ℕ)) : Type 0 where
  pub text : Appends taken taken' (result_text (shown_query g) (gathered_answers g (rows_of done)))
  pub count : report.rows ≡ counted_by (length (gathered_answers g (rows_of done))) 0

-- Nothing was written; or, where no block is left to be asked, a prefix of such a text was.
abbrev pub WritesGatheredFront : GroupData → List BlockRows → List (List Pattern) → Option (List ℕ) → Option (List ℕ) → Type 0
WritesGatheredFront g done rest taken taken' = (taken' ≡ taken) ⊎ ((rest ≡ []) × AppendsPrefix taken taken' (result_text (shown_query g) (gathered_answers g (rows_of done))))

-- ---- over an honest wire

-- the version is the one that is reported; where there is no block none is reported, and the answers are the same over every one
abbrev pub IsReported : GroupData → Option ℕ → ℕ → Type 0
IsReported g reported version = (reported ≡ Some version) ⊎ ((blocks_of (group_tree g) ≡ []) × (reported ≡ None))

-- The text of some ordering of the answers over one version, the one that is reported, was written whole.
pub record WritesGroupAnswers (history : List (List Triple)) (g : GroupData) (reported : Option ℕ) (n : ℕ) (taken taken' : Option (List ℕ)) : Type 0 where
  pub version : ℕ
  pub is_version : IsVersionOf history version
  pub is_reported : IsReported g reported version
  pub rows : List Places
  pub rows_are : IsPermutation (answers (version_of history version) g) rows
  pub text : Appends taken taken' (result_text (shown_query g) rows)
  pub count : n ≡ counted_by (length rows) 0

-- A prefix of such a text was written.
pub record WritesGroupAnswersFront (history : List (List Triple)) (g : GroupData) (taken taken' : Option (List ℕ)) : Type 0 where
  pub version : ℕ
  pub is_version : IsVersionOf history version
  pub rows : List Places
  pub rows_are : IsPermutation (answers (version_of history version) g) rows
  pub text : AppendsPrefix taken taken' (result_text (shown_query g) rows)
