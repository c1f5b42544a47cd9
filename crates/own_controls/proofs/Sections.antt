-- The parts of a page's metadata, as they are written.
use Rattle.std.proofs.Common.{◌≡◌, ℕ, suc, ◌+◌, ◌<◌, ◌≤◌, length, drop, get_or, add-one, drop-cons, true, List, [], ◌∷◌, ◌++◌, Option, refl, sym, ◌∙◌, ap, append_assoc}
use Rattle.std.proofs.Math.ListN.{drop_of_length-le}
use Rattle.std.specs.Prelude.{codes, IfSome}
use Rattle.std.specs.Borrow.{Bor}
use Rattle.rdf_terms.specs.Canon.{canonical_form, canonical_term, canon}
use Rattle.rdf_terms.specs.declared.term.Term.TheVariants.{Iri, Blank}
use Rattle.rdf_terms.proofs.Canonical.{canon_of_both}
use Rattle.tpf_base.specs.Decimals.{decimal_text}
use Rattle.template_fill.specs.Metadata.{foaf, void, hydra, rdf, owl, plain, integer, topic_quads, form_quads, mapping_quads, count_quads, link_quads, version_quads}
use Rattle.own_controls.specs.declared.lines.LineText.{LineText}
use Rattle.own_controls.specs.Metadata.{graph_of, mappings}
use Rattle.own_controls.specs.Lines.{graph_end, line_text, lines_text}
use Rattle.own_controls.proofs.Pieces.{behind_same}
use Rattle.own_controls.proofs.Written.{iri_holds, section_holds, plain_holds, integer_holds, number_holds, two_line, subject_line, object_line, fixed_line}

-- lines with the ending of a page's metadata
pub behind_ended : (bytes ending page : List ℕ) (lines : List LineText) (text : List ℕ) (r : Option (Bor (List ℕ))) → ending ≡ graph_end page → lines_text (graph_end page) lines ≡ text
    → IfSome r (λ rest. bytes ≡ lines_text ending lines ++ rest.now) → IfSome r (λ rest. bytes ≡ text ++ rest.now)
behind_ended bytes ending page lines text r is same = behind_same bytes (lines_text ending lines) text r (ap (λ (end : List ℕ). lines_text end lines) is ∙ same)

-- a line of one piece, of three and of five
abbrev pub OfOne : List ℕ → LineText → List ℕ → Type 0
OfOne page l text = line_text (graph_end page) l ≡ text ++ graph_end page

abbrev pub OfThree : List ℕ → LineText → List ℕ → List ℕ → List ℕ → Type 0
OfThree page l opening one closing = line_text (graph_end page) l ≡ opening ++ (one ++ (closing ++ graph_end page))

abbrev pub OfFive : List ℕ → LineText → List ℕ → List ℕ → List ℕ → List ℕ → List ℕ → Type 0
OfFive page l opening one middle other closing = line_text (graph_end page) l ≡ opening ++ (one ++ (middle ++ (other ++ (closing ++ graph_end page))))

number_same : (page : List ℕ) (l : LineText) (middle digits other : List ℕ) → digits ≡ other → OfFive page l (codes "<") page middle digits (codes "\"^^<http://www.w3.org/2001/XMLSchema#integer>") → OfFive page l (codes "<") page middle other (codes "\"^^<http://www.w3.org/2001/XMLSchema#integer>")
number_same page l middle digits other same h = h ∙ ap (λ (t : List ℕ). codes "<" ++ (page ++ (middle ++ (t ++ (codes "\"^^<http://www.w3.org/2001/XMLSchema#integer>" ++ graph_end page))))) same

pub topic_lines : (page first base : List ℕ) (a b d : LineText) → OfFive page a (codes "<") page (codes "#metadata> <http://xmlns.com/foaf/0.1/primaryTopic> <") page (codes ">")
    → OfFive page b (codes "<") base (codes "#dataset> <http://rdfs.org/ns/void#subset> <") first (codes ">") → OfThree page d (codes "<") base (codes "#dataset> <http://www.w3.org/ns/hydra/core#search> _:form")
    → lines_text (graph_end page) (a ∷ b ∷ d ∷ []) ≡ canon (topic_quads (graph_of page) page first base)
unfolding topic_quads foaf void hydra
topic_lines page first base a b d e f g =
    let one = e ∙ two_line page (codes "<") page (codes "#metadata>") (codes "<") page (codes ">") (codes "#metadata> <http://xmlns.com/foaf/0.1/primaryTopic> <") (Iri (graph_of page)) (foaf (codes "primaryTopic")) (Iri page) (section_holds page (codes "#metadata") (codes "#metadata>") refl) (iri_holds page) refl in
    let two = f ∙ two_line page (codes "<") base (codes "#dataset>") (codes "<") first (codes ">") (codes "#dataset> <http://rdfs.org/ns/void#subset> <") (Iri (base ++ codes "#dataset")) (void (codes "subset")) (Iri first) (section_holds base (codes "#dataset") (codes "#dataset>") refl) (iri_holds first) refl in
    let three = g ∙ subject_line page (codes "<") base (codes "#dataset>") (codes "#dataset> <http://www.w3.org/ns/hydra/core#search> _:form") (Iri (base ++ codes "#dataset")) (hydra (codes "search")) (Blank (codes "form")) (section_holds base (codes "#dataset") (codes "#dataset>") refl) refl in
    λ i. one i ++ (two i ++ (three i ++ []))

pub form_lines : (page template : List ℕ) (a b : LineText) → canonical_form template ≡ template → OfThree page a (codes "_:form <http://www.w3.org/ns/hydra/core#template> \"") template (codes "\"") → OfOne page b (codes "_:form <http://www.w3.org/ns/hydra/core#variableRepresentation> <http://www.w3.org/ns/hydra/core#ExplicitRepresentation>")
    → lines_text (graph_end page) (a ∷ b ∷ []) ≡ canon (form_quads (graph_of page) template)
unfolding form_quads hydra
form_lines page template a b same e f =
    let one = e ∙ object_line page (codes "\"") template (codes "\"") (codes "_:form <http://www.w3.org/ns/hydra/core#template> \"") (Blank (codes "form")) (hydra (codes "template")) (plain template) (plain_holds template same) refl in
    let two = f ∙ fixed_line page (codes "_:form <http://www.w3.org/ns/hydra/core#variableRepresentation> <http://www.w3.org/ns/hydra/core#ExplicitRepresentation>") (Blank (codes "form")) (hydra (codes "variableRepresentation")) (hydra (codes "ExplicitRepresentation")) refl in
    λ i. one i ++ (two i ++ [])

lines_of_both : (ending : List ℕ) (xs ys : List LineText) → lines_text ending (xs ++ ys) ≡ lines_text ending xs ++ lines_text ending ys
lines_of_both ending [] ys = refl
lines_of_both ending (x ∷ xs) ys = ap (λ (l : List ℕ). line_text ending x ++ l) (lines_of_both ending xs ys) ∙ sym (append_assoc (line_text ending x) (lines_text ending xs) (lines_text ending ys))

subject_lines : (page : List ℕ) (a b d : LineText) → OfOne page a (codes "_:form <http://www.w3.org/ns/hydra/core#mapping> _:s") → OfOne page b (codes "_:s <http://www.w3.org/ns/hydra/core#variable> \"subject\"") → OfOne page d (codes "_:s <http://www.w3.org/ns/hydra/core#property> <http://www.w3.org/1999/02/22-rdf-syntax-ns#subject>")
    → lines_text (graph_end page) (a ∷ b ∷ d ∷ []) ≡ canon (mapping_quads (graph_of page) (codes "s") (codes "subject"))
unfolding mapping_quads hydra rdf
subject_lines page a b d e f g =
    let one = e ∙ fixed_line page (codes "_:form <http://www.w3.org/ns/hydra/core#mapping> _:s") (Blank (codes "form")) (hydra (codes "mapping")) (Blank (codes "s")) refl in
    let two = f ∙ fixed_line page (codes "_:s <http://www.w3.org/ns/hydra/core#variable> \"subject\"") (Blank (codes "s")) (hydra (codes "variable")) (plain (codes "subject")) refl in
    let three = g ∙ fixed_line page (codes "_:s <http://www.w3.org/ns/hydra/core#property> <http://www.w3.org/1999/02/22-rdf-syntax-ns#subject>") (Blank (codes "s")) (hydra (codes "property")) (rdf (codes "subject")) refl in
    λ i. one i ++ (two i ++ (three i ++ []))

predicate_lines : (page : List ℕ) (a b d : LineText) → OfOne page a (codes "_:form <http://www.w3.org/ns/hydra/core#mapping> _:p") → OfOne page b (codes "_:p <http://www.w3.org/ns/hydra/core#variable> \"predicate\"") → OfOne page d (codes "_:p <http://www.w3.org/ns/hydra/core#property> <http://www.w3.org/1999/02/22-rdf-syntax-ns#predicate>")
    → lines_text (graph_end page) (a ∷ b ∷ d ∷ []) ≡ canon (mapping_quads (graph_of page) (codes "p") (codes "predicate"))
unfolding mapping_quads hydra rdf
predicate_lines page a b d e f g =
    let one = e ∙ fixed_line page (codes "_:form <http://www.w3.org/ns/hydra/core#mapping> _:p") (Blank (codes "form")) (hydra (codes "mapping")) (Blank (codes "p")) refl in
    let two = f ∙ fixed_line page (codes "_:p <http://www.w3.org/ns/hydra/core#variable> \"predicate\"") (Blank (codes "p")) (hydra (codes "variable")) (plain (codes "predicate")) refl in
    let three = g ∙ fixed_line page (codes "_:p <http://www.w3.org/ns/hydra/core#property> <http://www.w3.org/1999/02/22-rdf-syntax-ns#predicate>") (Blank (codes "p")) (hydra (codes "property")) (rdf (codes "predicate")) refl in
    λ i. one i ++ (two i ++ (three i ++ []))

object_lines : (page : List ℕ) (a b d : LineText) → OfOne page a (codes "_:form <http://www.w3.org/ns/hydra/core#mapping> _:o") → OfOne page b (codes "_:o <http://www.w3.org/ns/hydra/core#variable> \"object\"") → OfOne page d (codes "_:o <http://www.w3.org/ns/hydra/core#property> <http://www.w3.org/1999/02/22-rdf-syntax-ns#object>")
    → lines_text (graph_end page) (a ∷ b ∷ d ∷ []) ≡ canon (mapping_quads (graph_of page) (codes "o") (codes "object"))
unfolding mapping_quads hydra rdf
object_lines page a b d e f g =
    let one = e ∙ fixed_line page (codes "_:form <http://www.w3.org/ns/hydra/core#mapping> _:o") (Blank (codes "form")) (hydra (codes "mapping")) (Blank (codes "o")) refl in
    let two = f ∙ fixed_line page (codes "_:o <http://www.w3.org/ns/hydra/core#variable> \"object\"") (Blank (codes "o")) (hydra (codes "variable")) (plain (codes "object")) refl in
    let three = g ∙ fixed_line page (codes "_:o <http://www.w3.org/ns/hydra/core#property> <http://www.w3.org/1999/02/22-rdf-syntax-ns#object>") (Blank (codes "o")) (hydra (codes "property")) (rdf (codes "object")) refl in
    λ i. one i ++ (two i ++ (three i ++ []))

pub mappings_lines : (page : List ℕ) (a b d e f g h i j : LineText)
    → OfOne page a (codes "_:form <http://www.w3.org/ns/hydra/core#mapping> _:s")
    → OfOne page b (codes "_:s <http://www.w3.org/ns/hydra/core#variable> \"subject\"")
    → OfOne page d (codes "_:s <http://www.w3.org/ns/hydra/core#property> <http://www.w3.org/1999/02/22-rdf-syntax-ns#subject>")
    → OfOne page e (codes "_:form <http://www.w3.org/ns/hydra/core#mapping> _:p")
    → OfOne page f (codes "_:p <http://www.w3.org/ns/hydra/core#variable> \"predicate\"")
    → OfOne page g (codes "_:p <http://www.w3.org/ns/hydra/core#property> <http://www.w3.org/1999/02/22-rdf-syntax-ns#predicate>")
    → OfOne page h (codes "_:form <http://www.w3.org/ns/hydra/core#mapping> _:o")
    → OfOne page i (codes "_:o <http://www.w3.org/ns/hydra/core#variable> \"object\"")
    → OfOne page j (codes "_:o <http://www.w3.org/ns/hydra/core#property> <http://www.w3.org/1999/02/22-rdf-syntax-ns#object>")
    → lines_text (graph_end page) (a ∷ b ∷ d ∷ e ∷ f ∷ g ∷ h ∷ i ∷ j ∷ []) ≡ canon (mappings (graph_of page))
unfolding mappings
mappings_lines page a b d e f g h i j ea eb ed ee ef eg eh ei ej =
    let graph = graph_of page in
    let s = mapping_quads graph (codes "s") (codes "subject") in
    let p = mapping_quads graph (codes "p") (codes "predicate") in
    let o = mapping_quads graph (codes "o") (codes "object") in
    lines_of_both (graph_end page) (a ∷ b ∷ d ∷ []) (e ∷ f ∷ g ∷ h ∷ i ∷ j ∷ [])
    ∙ (λ k. subject_lines page a b d ea eb ed k ++ (lines_of_both (graph_end page) (e ∷ f ∷ g ∷ []) (h ∷ i ∷ j ∷ []) ∙ (λ n. predicate_lines page e f g ee ef eg n ++ object_lines page h i j eh ei ej n) ∙ sym (canon_of_both p o)) k)
    ∙ sym (canon_of_both s (p ++ o))

pub counts_lines : (page first digits : List ℕ) (n : ℕ) (a b d e : LineText) → digits ≡ decimal_text n → OfFive page a (codes "<") first (codes "> <http://rdfs.org/ns/void#subset> <") page (codes ">")
    → OfFive page b (codes "<") page (codes "> <http://www.w3.org/ns/hydra/core#totalItems> \"") digits (codes "\"^^<http://www.w3.org/2001/XMLSchema#integer>") → OfFive page d (codes "<") page (codes "> <http://rdfs.org/ns/void#triples> \"") digits (codes "\"^^<http://www.w3.org/2001/XMLSchema#integer>") → OfFive page e (codes "<") page (codes "> <http://www.w3.org/ns/hydra/core#first> <") first (codes ">")
    → lines_text (graph_end page) (a ∷ b ∷ d ∷ e ∷ []) ≡ canon (count_quads (graph_of page) page first n)
unfolding count_quads void hydra
counts_lines page first digits n a b d e same ea eb ed ee =
    let one = ea ∙ two_line page (codes "<") first (codes ">") (codes "<") page (codes ">") (codes "> <http://rdfs.org/ns/void#subset> <") (Iri first) (void (codes "subset")) (Iri page) (iri_holds first) (iri_holds page) refl in
    let two = number_same page b (codes "> <http://www.w3.org/ns/hydra/core#totalItems> \"") digits (decimal_text n) same eb ∙ two_line page (codes "<") page (codes ">") (codes "\"") (decimal_text n) (codes "\"^^<http://www.w3.org/2001/XMLSchema#integer>") (codes "> <http://www.w3.org/ns/hydra/core#totalItems> \"") (Iri page) (hydra (codes "totalItems")) (integer n) (iri_holds page) (integer_holds n) refl in
    let three = number_same page d (codes "> <http://rdfs.org/ns/void#triples> \"") digits (decimal_text n) same ed ∙ two_line page (codes "<") page (codes ">") (codes "\"") (decimal_text n) (codes "\"^^<http://www.w3.org/2001/XMLSchema#integer>") (codes "> <http://rdfs.org/ns/void#triples> \"") (Iri page) (void (codes "triples")) (integer n) (iri_holds page) (integer_holds n) refl in
    let four = ee ∙ two_line page (codes "<") page (codes ">") (codes "<") first (codes ">") (codes "> <http://www.w3.org/ns/hydra/core#first> <") (Iri page) (hydra (codes "first")) (Iri first) (iri_holds page) (iri_holds first) refl in
    λ i. one i ++ (two i ++ (three i ++ (four i ++ [])))

link_spaced : (name : List ℕ) → codes "> <http://www.w3.org/ns/hydra/core#" ++ (name ++ codes "> <") ≡ codes ">" ++ (32 ∷ (canonical_term (Iri (codes "http://www.w3.org/ns/hydra/core#" ++ name)) ++ (32 ∷ codes "<")))
link_spaced name = ap (λ (l : List ℕ). codes "> <http://www.w3.org/ns/hydra/core#" ++ l) (sym (append_assoc name (62 ∷ []) (32 ∷ 60 ∷ [])))

pub link_lines : (page middle name target : List ℕ) (a : LineText) → middle ≡ codes "> <http://www.w3.org/ns/hydra/core#" ++ (name ++ codes "> <") → OfFive page a (codes "<") page middle target (codes ">")
    → lines_text (graph_end page) (a ∷ []) ≡ canon (link_quads true (graph_of page) page name target)
unfolding link_quads hydra
link_lines page middle name target a is e =
    let one = e ∙ two_line page (codes "<") page (codes ">") (codes "<") target (codes ">") middle (Iri page) (hydra name) (Iri target) (iri_holds page) (iri_holds target) (is ∙ link_spaced name) in
    λ i. one i ++ []

pub version_lines : (page base digits : List ℕ) (n : ℕ) (a : LineText) → digits ≡ decimal_text n → OfFive page a (codes "<") base (codes "#dataset> <http://www.w3.org/2002/07/owl#versionInfo> \"") digits (codes "\"")
    → lines_text (graph_end page) (a ∷ []) ≡ canon (version_quads (graph_of page) base n)
unfolding version_quads owl
version_lines page base digits n a same e =
    let one = e ∙ ap (λ (t : List ℕ). codes "<" ++ (base ++ (codes "#dataset> <http://www.w3.org/2002/07/owl#versionInfo> \"" ++ (t ++ (codes "\"" ++ graph_end page))))) same in
    let line = one ∙ two_line page (codes "<") base (codes "#dataset>") (codes "\"") (decimal_text n) (codes "\"") (codes "#dataset> <http://www.w3.org/2002/07/owl#versionInfo> \"") (Iri (base ++ codes "#dataset")) (owl (codes "versionInfo")) (plain (decimal_text n)) (section_holds base (codes "#dataset") (codes "#dataset>") refl) (number_holds n) refl in
    λ i. line i ++ []

-- ---- one line of several

-- a line stands in front of the lines that are left
pub one_more : (ending : List ℕ) (all : List LineText) (i : ℕ) (line : LineText) → i < length all → line ≡ get_or all i line → (rest after end : List ℕ)
    → rest ≡ line_text ending line ++ after → after ≡ lines_text ending (drop (i + 1) all) ++ end → rest ≡ lines_text ending (drop i all) ++ end
one_more ending all i line below at rest after end e f =
    let left : drop i all ≡ line ∷ drop (i + 1) all = rw add-one (drop-cons all i line below ∙ ap (λ (x : LineText). x ∷ drop (suc i) all) (sym at)) in
    e ∙ ap (λ (l : List ℕ). line_text ending line ++ l) f ∙ sym (append_assoc (line_text ending line) (lines_text ending (drop (i + 1) all)) end) ∙ ap (λ (l : List LineText). lines_text ending l ++ end) (sym left)

pub no_more : (ending : List ℕ) (all : List LineText) (i : ℕ) (rest : List ℕ) → length all ≤ i → rest ≡ lines_text ending (drop i all) ++ rest
no_more ending all i rest past = ap (λ (l : List LineText). lines_text ending l ++ rest) (sym (drop_of_length-le all past))
