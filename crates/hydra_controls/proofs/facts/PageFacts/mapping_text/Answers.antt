use Rattle.std.proofs.Common.{◌≡◌, ℕ, List, ◌++◌, refl, arith}
use Rattle.std.specs.Prelude.{codes, slice_index_or}
use Rattle.rdf_terms.specs.declared.term.Quad.{Quad}
use Rattle.rdf_terms.specs.declared.term.Term.{Term}
use Rattle.rdf_terms.specs.declared.term.Term.TheVariants.{Blank}
use Rattle.rdf_terms.specs.Canon.{canonical_line, canonical_term}
use Rattle.template_fill.specs.Metadata.{graph_at, hydra, mapping_quads, plain, rdf, statement}
use Rattle.hydra_controls.specs.declared.facts.PageFacts.{PageFacts}
use Rattle.hydra_controls.specs.Facts.{addresses_on, mappings_of}
use Rattle.hydra_controls.proofs.LineRows.{fixed_line, front_of, line_at, line_end}
use Rattle.hydra_controls.proofs.facts.PageFacts.mapping_text.Goals as goal

-- the statement in place n of the mappings has this text in front of its graph
mapped : (f : PageFacts) (i n : ℕ) (d : Quad) (s p o : Term) (text : List ℕ) → i ≡ n → slice_index_or (mappings_of f) n d ≡ statement (graph_at (addresses_on f)) s p o
    → text ≡ front_of (canonical_term s) (canonical_term p) (canonical_term o) ++ (graph_at (addresses_on f) ++ line_end) → canonical_line (slice_index_or (mappings_of f) i d) ≡ text
mapped f i n d s p o text is at written = line_at (mappings_of f) i n d (statement (graph_at (addresses_on f)) s p o) text is at (fixed_line (graph_at (addresses_on f)) s p o text written)

pub returns-then-i-eq0 : goal.returns-then-i-eq0
unfolding mapping_quads hydra
returns-then-i-eq0 c = λ d. mapped c.args.self c.args.i 0 d (Blank (codes "form")) (hydra (codes "mapping")) (Blank (codes "s")) _ c.if-i-eq0.true refl refl

pub returns-then-i-eq1 : goal.returns-then-i-eq1
unfolding mapping_quads hydra
returns-then-i-eq1 c = λ d. mapped c.args.self c.args.i 1 d (Blank (codes "s")) (hydra (codes "variable")) (plain (codes "subject")) _ c.if-i-eq1.true refl refl

pub returns-then-i-eq2 : goal.returns-then-i-eq2
unfolding mapping_quads hydra rdf
returns-then-i-eq2 c = λ d. mapped c.args.self c.args.i 2 d (Blank (codes "s")) (hydra (codes "property")) (rdf (codes "subject")) _ c.if-i-eq2.true refl refl

pub returns-then-i-eq3 : goal.returns-then-i-eq3
unfolding mapping_quads hydra
returns-then-i-eq3 c = λ d. mapped c.args.self c.args.i 3 d (Blank (codes "form")) (hydra (codes "mapping")) (Blank (codes "p")) _ c.if-i-eq3.true refl refl

pub returns-then-i-eq4 : goal.returns-then-i-eq4
unfolding mapping_quads hydra
returns-then-i-eq4 c = λ d. mapped c.args.self c.args.i 4 d (Blank (codes "p")) (hydra (codes "variable")) (plain (codes "predicate")) _ c.if-i-eq4.true refl refl

pub returns-then-i-eq5 : goal.returns-then-i-eq5
unfolding mapping_quads hydra rdf
returns-then-i-eq5 c = λ d. mapped c.args.self c.args.i 5 d (Blank (codes "p")) (hydra (codes "property")) (rdf (codes "predicate")) _ c.if-i-eq5.true refl refl

pub returns-then-i-eq6 : goal.returns-then-i-eq6
unfolding mapping_quads hydra
returns-then-i-eq6 c = λ d. mapped c.args.self c.args.i 6 d (Blank (codes "form")) (hydra (codes "mapping")) (Blank (codes "o")) _ c.if-i-eq6.true refl refl

pub returns-then-i-eq7 : goal.returns-then-i-eq7
unfolding mapping_quads hydra
returns-then-i-eq7 c = λ d. mapped c.args.self c.args.i 7 d (Blank (codes "o")) (hydra (codes "variable")) (plain (codes "object")) _ c.if-i-eq7.true refl refl

pub returns : goal.returns
unfolding mapping_quads hydra rdf
returns c = λ d. mapped c.args.self c.args.i 8 d (Blank (codes "o")) (hydra (codes "property")) (rdf (codes "object")) _ (omega arith) refl refl
