-- The answer that is a page of what is selected of the data that are served.
use Rattle.std.specs.Prelude.{ℕ, List, ◌++◌, nat_le, map, length, if◌then◌else◌}
use Rattle.rdf_terms.specs.declared.term.Quad.{Quad}
use Rattle.rdf_terms.specs.Selections.{Selection, selected, selected_last, selected_page}
use Rattle.rdf_terms.specs.Canon.{canon}
use Rattle.template_fill.specs.Metadata.{page_metadata}
use Rattle.template_fill.specs.Bodies.{in_default_graph}
use Rattle.template_fill.specs.HttpAnswer.{Answer, NQuads, refusal}
use Rattle.page_responses.specs.Serving.{Serving, data_of}

-- the quads of a page, over the data that are served
abbrev pub quads_at : Serving → Selection → ℕ → List Quad
quads_at server s page =
    map in_default_graph (selected_page (data_of server) s page server.config.page_size)
    ++ page_metadata server.config s page (length (selected (data_of server) s)) server.version

-- the body of a page
unfoldable pub body_at : Serving → Selection → ℕ → List ℕ
body_at server s page = canon (quads_at server s page)

-- the page that is asked for, or that it is past the last
abbrev pub page_answer_at : Serving → Selection → ℕ → Answer
page_answer_at server s page =
    if nat_le page (selected_last (data_of server) s server.config.page_size)
    then record { status = 200; media_type = NQuads; body = body_at server s page }
    else refusal 404
