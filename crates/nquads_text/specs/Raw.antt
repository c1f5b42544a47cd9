-- A line's raw form: its terms with their texts as written, escapes and all.
use Rattle.std.specs.Prelude.{ℕ, ◌+◌, List, take, drop, Option, Some, None, if◌then◌else◌}
use Rattle.std.specs.Option.{option_map}
use Rattle.list_laws.specs.Options.{first_of, when, ◌>>=◌}
use Rattle.rdf_terms.specs.declared.term.Quad.{Quad}
use Rattle.rdf_terms.specs.declared.term.Term.{Term}
use Rattle.rdf_terms.specs.declared.term.Term.TheVariants.{Iri, Blank, Literal}
use Rattle.rdf_terms.specs.declared.term.Kind.{Kind}
use Rattle.rdf_terms.specs.declared.term.Kind.TheVariants.{Plain, Typed, Tagged}
use Rattle.rdf_terms.specs.Label.{is_label}
use Rattle.rdf_terms.specs.Tag.{is_tag}
use Rattle.nquads_text.specs.declared.scan.Awaits.TheVariants.{Item}
use Rattle.nquads_text.specs.Scan.{skipped, opened, is_over, iri_end, form_end, label_len, tag_len}

unfoldable pub iri_part : List ℕ → Option (List ℕ × List ℕ)
iri_part bytes = do
  inside ← opened 60 bytes
  n ← iri_end Item 0 inside
  Some (take n inside, drop (n + 1) inside)

unfoldable pub form_part : List ℕ → Option (List ℕ × List ℕ)
form_part bytes = do
  inside ← opened 34 bytes
  n ← form_end Item 0 inside
  Some (take n inside, drop (n + 1) inside)

unfoldable pub label_part : List ℕ → Option (List ℕ × List ℕ)
label_part bytes = do
  colon ← opened 95 bytes
  inside ← opened 58 colon
  let n = label_len 0 0 inside in when (is_label (take n inside)) (take n inside, drop n inside)

unfoldable pub tag_part : List ℕ → Option (List ℕ × List ℕ)
tag_part bytes = do
  inside ← opened 64 bytes
  let n = tag_len 0 inside in when (is_tag (take n inside)) (take n inside, drop n inside)

-- what stands after ^^
unfoldable pub datatype_part : List ℕ → Option (List ℕ × List ℕ)
datatype_part bytes = do
  second ← opened 94 bytes
  inside ← opened 94 second
  iri_part (skipped inside)

-- what follows a form
abbrev pub or_plain : List ℕ → Option (Kind × List ℕ) → Kind × List ℕ
or_plain bytes None = (Plain, bytes)
or_plain bytes (Some p) = p

unfoldable pub kind_part : List ℕ → Kind × List ℕ
kind_part bytes = or_plain bytes (first_of (option_map (λ p. (Tagged p.0, p.1)) (tag_part bytes)) (option_map (λ p. (Typed p.0, p.1)) (datatype_part (skipped bytes))))

unfoldable pub literal_part : List ℕ → Option (Term × List ℕ)
literal_part bytes = do
  form ← form_part bytes
  let kind = kind_part form.1 in Some (Literal form.0 kind.0, kind.1)

-- a subject, or a graph
unfoldable pub node_part : List ℕ → Option (Term × List ℕ)
node_part bytes = first_of (option_map (λ p. (Iri p.0, p.1)) (iri_part bytes)) (option_map (λ p. (Blank p.0, p.1)) (label_part bytes))

unfoldable pub object_part : List ℕ → Option (Term × List ℕ)
object_part bytes = first_of (node_part bytes) (literal_part bytes)

abbrev pub or_none : List ℕ → Option (Term × List ℕ) → Option Term × List ℕ
or_none bytes None = (None, bytes)
or_none bytes (Some p) = (Some p.0, p.1)

unfoldable pub graph_part : List ℕ → Option Term × List ℕ
graph_part bytes = or_none bytes (node_part bytes)

unfoldable pub statement_of : List ℕ → Option Quad
statement_of line = do
  s ← node_part line
  p ← iri_part (skipped s.1)
  o ← object_part (skipped p.1)
  let g = graph_part (skipped o.1) in (opened 46 (skipped g.1) >>= λ end.
      when (is_over (skipped end)) (record { triple = record { subject = s.0; predicate = Iri p.0; object = o.0 }; graph = g.0 }))

-- a line without a statement, or the statement of a line
unfoldable pub line_form : List ℕ → Option (Option Quad)
line_form line = let text = skipped line in if is_over text then Some None else option_map (λ q. Some q) (statement_of text)
