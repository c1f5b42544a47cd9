-- An answer as it is found before its body is made.
use Rattle.std.specs.Prelude.{ℕ, ◌≡◌, ◌+◌, List, [], length}
use Rattle.std.specs.List.{concat}
use Rattle.rdf_terms.specs.declared.term.Quad.{Quad}
use Rattle.rdf_terms.specs.Selections.{Selection}
use Rattle.triple_table.specs.Stored.{Stored}
use Rattle.template_fill.specs.HttpAnswer.{NQuads}
use Rattle.page_responses.specs.declared.pages.Opened.{Opened}
use Rattle.page_responses.specs.declared.status.Status.TheVariants.{Success}
use Rattle.page_responses.specs.declared.head.MediaType.TheVariants as media
use Rattle.page_responses.specs.declared.rest.PageTriples.{PageTriples}
use Rattle.page_responses.specs.declared.rest.Rest.TheVariants as rests
use Rattle.page_responses.specs.Lines.{quad_lines}
use Rattle.page_responses.specs.Statuses.{code, media_of}
use Rattle.page_responses.specs.Serving.{Serving}
use Rattle.page_responses.specs.Pages.{body_at, page_answer_at}
use Rattle.page_responses.specs.Rests.{IsWithin, rest_text}

-- an answer with triples of a table, whose lines have so many bytes, and the metadata of their page
abbrev pub lines_opened : Stored → PageTriples → ℕ → List Quad → Opened
lines_opened table triples bytes quads = record {
  status = Success;
  media = media.NQuads;
  length = bytes + length (concat (quad_lines quads));
  body = rests.Page (record { begun = []; table = table; triples = triples; quads = quads });
}

-- the answer is this page
pub record OpensPage (server : Serving) (s : Selection) (page : ℕ) (o : Opened) : Type 0 where
  pub status : code o.status ≡ 200
  pub media : media_of o.media ≡ NQuads
  pub length : o.length ≡ length (body_at server s page)
  pub body : rest_text o.body ≡ body_at server s page
  pub range : IsWithin o.body

-- the answer is the page of this number, or that it is past the last
pub record OpensNumber (server : Serving) (s : Selection) (page : ℕ) (o : Opened) : Type 0 where
  pub status : code o.status ≡ (page_answer_at server s page).status
  pub media : media_of o.media ≡ (page_answer_at server s page).media_type
  pub length : o.length ≡ length (page_answer_at server s page).body
  pub body : rest_text o.body ≡ (page_answer_at server s page).body
  pub range : IsWithin o.body
