-- Lines behind lines: how their text is read.
use Rattle.std.proofs.Common.{◌≡◌, ℕ, ◌+◌, ◌-◌, ◌≤◌, inl, inr, Bool, true, false, List, [], ◌∷◌, ◌++◌, length, take, drop, Option, Some, None, if◌then◌else◌, nat_eq, refl, sym, ◌∙◌, ap, subst, arith, append_assoc, length-append}
use Rattle.std.specs.Borrow.{Bor}
use Rattle.std.specs.List.{AllByRecursion}
use Rattle.std.specs.Prelude.{IfSome}
use Rattle.std.proofs.Math.Seq.{take-append_seam, drop-append_seam}
use Rattle.nquads_text.proofs.ReadLaws.{reads_append}
use Rattle.nquads_text.proofs.Lines.{first_by, onto_append}
use Rattle.rdf_terms.specs.Canon.{canonical_term, canonical_graph, canonical_line, canon}
use Rattle.rdf_terms.specs.declared.term.Term.{Term}
use Rattle.rdf_terms.specs.declared.term.Quad.{Quad}
use Rattle.nquads_text.specs.Reads.{onto_first, lines_from, lines_of, ReadsLines, Reads}
use Rattle.own_controls.specs.Safe.{IsShortGraph, HasShortTerms}
use Rattle.own_controls.specs.Lines.{EndsLine}

-- ---- the lines of two texts

abbrev Splits : Bool → List ℕ → List ℕ → Type 0
Splits cr xs ys = lines_from cr (xs ++ 10 ∷ ys) ≡ lines_from cr (xs ++ 10 ∷ []) ++ lines_from false ys

first_line : (xs : List ℕ) → (l : List ℕ) × (ls : List (List ℕ)) × (lines_from false (xs ++ 10 ∷ []) ≡ l ∷ ls)
first_line [] = ([], [], refl)
first_line (b ∷ xs) = first_by (nat_eq b 10) (nat_eq b 13) b (lines_from false (xs ++ 10 ∷ [])) (lines_from true (xs ++ 10 ∷ [])) (lines_from false (xs ++ 10 ∷ []))

split_more : (lf is_cr cr : Bool) (b : ℕ) (xs ys : List ℕ) → ((k : Bool) → Splits k xs ys)
    → (if lf then (if cr then lines_from false (xs ++ 10 ∷ ys) else [] ∷ lines_from false (xs ++ 10 ∷ ys)) else (if is_cr then [] ∷ lines_from true (xs ++ 10 ∷ ys) else onto_first b (lines_from false (xs ++ 10 ∷ ys))))
    ≡ (if lf then (if cr then lines_from false (xs ++ 10 ∷ []) else [] ∷ lines_from false (xs ++ 10 ∷ [])) else (if is_cr then [] ∷ lines_from true (xs ++ 10 ∷ []) else onto_first b (lines_from false (xs ++ 10 ∷ [])))) ++ lines_from false ys
split_more true k true b xs ys ih = ih false
split_more true k false b xs ys ih = ap (λ (l : List (List ℕ)). [] ∷ l) (ih false)
split_more false true cr b xs ys ih = ap (λ (l : List (List ℕ)). [] ∷ l) (ih true)
split_more false false cr b xs ys ih = ap (λ (l : List (List ℕ)). onto_first b l) (ih false) ∙ onto_append b (lines_from false (xs ++ 10 ∷ [])) (lines_from false ys) (first_line xs)

split : (cr : Bool) (xs ys : List ℕ) → Splits cr xs ys
split true [] ys = refl
split false [] ys = refl
split cr (b ∷ xs) ys = split_more (nat_eq b 10) (nat_eq b 13) cr b xs ys (λ k. split k xs ys)

lines_behind : (front text : List ℕ) → EndsLine front → lines_of (front ++ text) ≡ lines_of front ++ lines_of text
lines_behind front text (inl none) = subst (λ (l : List ℕ). lines_of (l ++ text) ≡ lines_of l ++ lines_of text) (sym none) refl
lines_behind front text (inr h) =
    subst (λ (l : List ℕ). lines_of (l ++ text) ≡ lines_of l ++ lines_of text) (sym h.1) (ap (λ (l : List ℕ). lines_of l) (append_assoc h.0 (10 ∷ []) text) ∙ split false h.0 text)

-- ---- their quads

pub reads_behind : (longest : ℕ) (front text : List ℕ) (a b : List Quad) → EndsLine front → Reads front longest a → Reads text longest b → Reads (front ++ text) longest (a ++ b)
reads_behind longest front text a b ended h k = subst (λ (l : List (List ℕ)). ReadsLines longest l (a ++ b)) (sym (lines_behind front text ended)) (reads_append longest (lines_of front) (lines_of text) a b h k)

-- ---- terms of a short text are short

line_long : (q : Quad) → length (canonical_term q.triple.subject) + length (canonical_term q.triple.predicate) + length (canonical_term q.triple.object) + length (canonical_graph q.graph) ≤ length (canonical_line q)
line_long q =
    let s = canonical_term q.triple.subject in
    let p = canonical_term q.triple.predicate in
    let o = canonical_term q.triple.object in
    let g = canonical_graph q.graph in
    let end : List ℕ = 32 ∷ 46 ∷ 10 ∷ [] in
    omega (arith, length-append s (32 ∷ (p ++ 32 ∷ (o ++ g ++ end))), length-append p (32 ∷ (o ++ g ++ end)), length-append (o ++ g) end, length-append o g)

graph_short : (longest : ℕ) (graph : Option Term) → length (canonical_graph graph) ≤ longest → IsShortGraph longest graph
graph_short longest None h = tt
graph_short longest (Some graph) h = omega (arith, h)

pub terms_short : (longest : ℕ) (qs : List Quad) → length (canon qs) ≤ longest → AllByRecursion (HasShortTerms longest) qs
terms_short longest [] h = tt
terms_short longest (q ∷ qs) h =
    let whole = length-append (canonical_line q) (canon qs) in
    let line = line_long q in (
      record {
        subject = omega (arith, h, whole, line);
        predicate = omega (arith, h, whole, line);
        object = omega (arith, h, whole, line);
        graph = graph_short longest q.graph (omega (arith, h, whole, line));
      },
      terms_short longest qs (omega (arith, h, whole)),
    )

-- ---- the text of quads in parts

-- ---- pieces

-- a piece, and one behind it
pub behind_both : (a b d p q : List ℕ) → a ≡ p ++ b → b ≡ q ++ d → a ≡ (p ++ q) ++ d
behind_both a b d p q e f = e ∙ ap (λ (l : List ℕ). p ++ l) f ∙ sym (append_assoc p q d)

-- two pieces, and one behind them
pub behind_third : (bytes p q d after : List ℕ) (r : Option (Bor (List ℕ))) → bytes ≡ p ++ (q ++ after) → IfSome r (λ rest. after ≡ d ++ rest.now) → IfSome r (λ rest. bytes ≡ (p ++ (q ++ d)) ++ rest.now)
behind_third bytes p q d after None e h = tt
behind_third bytes p q d after (Some rest) e h = behind_both bytes (q ++ after) rest.now p (q ++ d) e (behind_both (q ++ after) after rest.now q d refl h)

-- the pieces of a line, two and two and one, and what it ends with
pub behind_pieces : (bytes opening one middle other closing ending from_middle from_closing from_ending : List ℕ) (r : Option (Bor (List ℕ)))
    → bytes ≡ opening ++ (one ++ from_middle) → from_middle ≡ middle ++ (other ++ from_closing) → from_closing ≡ closing ++ from_ending → IfSome r (λ rest. from_ending ≡ ending ++ rest.now)
    → IfSome r (λ rest. bytes ≡ (opening ++ (one ++ (middle ++ (other ++ (closing ++ ending))))) ++ rest.now)
behind_pieces bytes opening one middle other closing ending from_middle from_closing from_ending None e f g h = tt
behind_pieces bytes opening one middle other closing ending from_middle from_closing from_ending (Some rest) e f g h =
    behind_third bytes opening one (middle ++ (other ++ (closing ++ ending))) from_middle (Some rest) e
    (behind_third from_middle middle other (closing ++ ending) from_closing (Some rest) f (behind_both from_closing from_ending rest.now closing ending g h))

-- the front of a text before what is left of it
pub front_is : (body front rest : List ℕ) → body ≡ front ++ rest → (take (length body - length rest) body ≡ front) × (drop (length body - length rest) body ≡ rest)
front_is body front rest e =
    let long : length body - length rest ≡ length front = ap (λ (l : List ℕ). length l - length rest) e ∙ omega (arith, length-append front rest) in (
      ap (λ (n : ℕ). take n body) long ∙ ap (λ (l : List ℕ). take (length front) l) e ∙ take-append_seam front rest,
      ap (λ (n : ℕ). drop n body) long ∙ ap (λ (l : List ℕ). drop (length front) l) e ∙ drop-append_seam front rest,
    )

-- one line more stands in front
pub more_front : (body front rest line after : List ℕ) → body ≡ front ++ rest → rest ≡ line ++ 10 ∷ after → (next : List ℕ) × (body ≡ next ++ after) × EndsLine next
more_front body front rest line after e f = (
  front ++ (line ++ 10 ∷ []),
  e ∙ ap (λ (l : List ℕ). front ++ l) (f ∙ sym (append_assoc line (10 ∷ []) after)) ∙ sym (append_assoc front (line ++ 10 ∷ []) after),
  inr (front ++ line, sym (append_assoc front line (10 ∷ []))),
)
