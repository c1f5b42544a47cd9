-- What is left of a body.
use Rattle.std.proofs.Common.{◌≡◌, ℕ, zero, suc, ◌+◌, ◌-◌, ◌<◌, ◌≤◌, Bool, true, false, List, [], ◌∷◌, ◌++◌, map, length, take, drop, refl, ap, ap₂, sym, subst, ◌∙◌, arith, append_assoc, append-nil, Vec, Global, length-append, length-drop}
use Rattle.std.specs.Prelude.{slice_index_or, nat_lt, ◌||◌}
use Rattle.std.specs.List.{concat}
use Rattle.std.proofs.lemmas.List.{drop_all, length-map}
use Rattle.std.proofs.lemmas.Bool.{le-ltb, lt-ltb, ltb-false, ltb-true, or_parts, true≢false}
use Rattle.rdf_terms.specs.declared.term.Triple.{Triple}
use Rattle.rdf_terms.specs.declared.term.Quad.{Quad}
use Rattle.rdf_terms.specs.declared.term.Term.TheVariants.{Iri}
use Rattle.rdf_terms.specs.Canon.{canonical_line}
use Rattle.triple_table.specs.declared.ids.IdTriple.{IdTriple}
use Rattle.triple_table.specs.declared.ids.Row.{Row}
use Rattle.triple_table.specs.declared.ids.Range.{Range}
use Rattle.triple_table.specs.Rows.{id_triple_of}
use Rattle.triple_table.specs.Stored.{Stored, IsIdTriple, held_terms, listed, rows_in, triple_at}
use Rattle.template_fill.specs.HttpAnswer.{refusal}
use Rattle.page_responses.specs.declared.limits.TheConstants.{LONGEST_PART}
use Rattle.page_responses.specs.declared.parts.Begun.{Begun}
use Rattle.page_responses.specs.declared.parts.Begun.TheVariants as begins
use Rattle.page_responses.specs.declared.status.Status.{Status}
use Rattle.page_responses.specs.Statuses.{code}
use Rattle.page_responses.specs.Lines.{quad_lines, some_quad, triple_line, triple_lines}
use Rattle.page_responses.specs.Parts.{triple_marks}
use Rattle.page_responses.specs.Given.{IsGiven, IsMore}
use Rattle.page_responses.specs.declared.rest.PageTriples.{PageTriples}
use Rattle.page_responses.specs.declared.rest.PageTriples.TheVariants.{Part, Listed}
use Rattle.page_responses.specs.PageRests.{ArePart, IsBegun, IsFirst, IsPart, IsShortMetadata, PageLines, after_first, begun_text, lines_left, lines_text, page_left, page_text, triples_left, triples_of}
use Rattle.page_responses.specs.declared.rest.Rest.{Rest}
use Rattle.page_responses.specs.declared.rest.Rest.TheVariants.{Nothing, Line, Words, Page}
use Rattle.page_responses.specs.Rests.{IsWithin, is_left, rest_text}
use Rattle.page_responses.proofs.StatusLaws.{body_few, body_some}
use Rattle.page_responses.proofs.LineLengths.{drop_at, line_length, triple_line_length}
use Rattle.page_responses.proofs.PartLaws.{are_dropped, marks_low, triple_are, triple_some, triple_text}

drop_one : {A : Type 0} (xs : List A) (n : ℕ) → drop 1 (drop n xs) ≡ drop (suc n) xs
drop_one [] zero = refl
drop_one [] (suc n) = refl
drop_one (x ∷ xs) zero = refl
drop_one (x ∷ xs) (suc n) = drop_one xs n

first_taken : {A B : Type 0} (f : A → B) (xs : List A) (n : ℕ) (d : B) → 0 < length (map f (take (suc n) xs))
    → map f (take (suc n) xs) ≡ slice_index_or (map f (take (suc n) xs)) 0 d ∷ map f (take n (drop 1 xs))
first_taken f [] n d h = absurd (omega arith)
first_taken f (x ∷ xs) n d h = refl

one_less : (from to : ℕ) → from < to → to - from ≡ suc (to - suc from)
one_less from to h = omega arith

first_from : {A B : Type 0} (f : A → B) (rows : List A) (from to : ℕ) (d : B) → from < to → 0 < length (map f (take (to - from) (drop from rows)))
    → map f (take (to - from) (drop from rows)) ≡ slice_index_or (map f (take (to - from) (drop from rows))) 0 d ∷ map f (take (to - suc from) (drop (suc from) rows))
first_from f rows from to d h some =
    let e = one_less from to h in
    subst (λ n. map f (take n (drop from rows)) ≡ slice_index_or (map f (take n (drop from rows))) 0 d ∷ map f (take (to - suc from) (drop (suc from) rows))) (sym e)
    (first_taken f (drop from rows) (to - suc from) d (subst (λ n. 0 < length (map f (take n (drop from rows)))) e some)
    ∙ ap (λ l. slice_index_or (map f (take (suc (to - suc from)) (drop from rows))) 0 d ∷ map f (take (to - suc from) l)) (drop_one rows from))

-- with the first triple passed
abbrev pub passed : Range → Range
passed range = record range { from = range.from + 1 }

pub next_listed : (s : Stored) (range : Range) (d : Triple) → range.from < range.to → length (listed s range) ≡ range.to - range.from
    → listed s range ≡ slice_index_or (listed s range) 0 d ∷ listed s (passed range)
next_listed s range d h count =
    let e : suc range.from ≡ range.from + 1 = omega arith in
    subst (λ (n : ℕ). listed s range ≡ slice_index_or (listed s range) 0 d ∷ listed s (record range { from = n })) e
    (first_from (λ (row : Row). triple_at s.terms (id_triple_of range.order row)) (rows_in s range.order) range.from range.to d h (omega arith))

pub none_listed : (s : Stored) (range : Range) → range.to ≤ range.from → listed s range ≡ []
none_listed s range h =
    let e : range.to - range.from ≡ 0 = omega arith in
    ap (λ (n : ℕ). map (λ (row : Row). triple_at s.terms (id_triple_of range.order row)) (take n (drop range.from (rows_in s range.order)))) e

pub part_passed : (s : Stored) (range : Range) → IsPart s range → range.from < range.to → IsPart s (passed range)
part_passed s range part some =
    let d : Triple = record { subject = Iri []; predicate = Iri []; object = Iri [] } in
    let next = ap (λ (l : List Triple). length l) (next_listed s range d some part.lists) in
    record {
      range = record { order = omega (arith, some); within = part.range.within };
      lists = omega (arith, next, part.lists, some);
    }

-- ---- the triples of a page

part_first : (s : Stored) (range : Range) (ids : IdTriple) → range.from < range.to → IsPart s range → ((d : Triple) → slice_index_or (listed s range) 0 d ≡ triple_at (held_terms s) ids)
    → listed s range ≡ triple_at (held_terms s) ids ∷ listed s (passed range)
part_first s range ids some part is =
    let first = triple_at (held_terms s) ids in
    next_listed s range first some part.lists ∙ ap (λ (x : Triple). x ∷ listed s (passed range)) (is first)

pub part_passes : (s : Stored) (triples : PageTriples) (range : Range) (ids : IdTriple) → triples ≡ Part range → ArePart s triples → triples_left triples ≡ true
    → ((d : Triple) → slice_index_or (listed s range) 0 d ≡ triple_at (held_terms s) ids) → triples_of s triples ≡ triple_at (held_terms s) ids ∷ triples_of s (Part (passed range))
part_passes s triples range ids is part left first =
    ap (triples_of s) is
    ∙ part_first s range ids (ltb-true range.from range.to (subst (λ (x : PageTriples). triples_left x ≡ true) is left)) (subst (ArePart s) is part) first

pub ids_first : (s : Stored) (ids : List IdTriple) (next : ℕ) (d : IdTriple) → next < length ids
    → map (triple_at (held_terms s)) (drop next ids) ≡ triple_at (held_terms s) (slice_index_or ids next d) ∷ map (triple_at (held_terms s)) (drop (next + 1) ids)
ids_first s ids next d within =
    let e : suc next ≡ next + 1 = omega arith in
    ap (λ (l : List IdTriple). map (triple_at (held_terms s)) l) (drop_at ids next d within ∙ ap (λ (n : ℕ). slice_index_or ids next d ∷ drop n ids) e)

pub part_is_first : (s : Stored) (triples : PageTriples) (range : Range) (ids : IdTriple) → triples ≡ Part range → ArePart s triples → triples_left triples ≡ true → IsIdTriple (held_terms s) ids
    → ((d : Triple) → slice_index_or (listed s range) 0 d ≡ triple_at (held_terms s) ids) → IsFirst s triples ids (after_first triples)
part_is_first s triples range ids is part left valid first =
    let own : IsPart s range = subst (ArePart s) is part in
    let some : range.from < range.to = ltb-true range.from range.to (subst (λ (x : PageTriples). triples_left x ≡ true) is left) in
    record {
      held = valid;
      first = part_passes s triples range ids is part left first ∙ ap (λ (t : PageTriples). triple_at (held_terms s) ids ∷ triples_of s (after_first t)) (sym is);
      part = subst (λ (t : PageTriples). ArePart s (after_first t)) (sym is) (part_passed s range own some);
    }

pub listed_first : (s : Stored) (triples : PageTriples) (list : Vec IdTriple Global) (next : ℕ) (ids : IdTriple) → triples ≡ Listed list next → ArePart s triples → triples_left triples ≡ true
    → ((d : IdTriple) → ids ≡ slice_index_or list.items next d) → IsIdTriple (held_terms s) ids → IsFirst s triples ids (after_first triples)
listed_first s triples list next ids is part left at valid =
    let within : next < length list.items = ltb-true next (length list.items) (subst (λ (x : PageTriples). triples_left x ≡ true) is left) in
    record {
      held = valid;
      first =
          ap (triples_of s) is
          ∙ ids_first s list.items next ids within
          ∙ ap (λ (t : IdTriple). triple_at (held_terms s) t ∷ map (triple_at (held_terms s)) (drop (next + 1) list.items)) (sym (at ids))
          ∙ ap (λ (t : PageTriples). triple_at (held_terms s) ids ∷ triples_of s (after_first t)) (sym is);
      part = subst (λ (t : PageTriples). ArePart s (after_first t)) (sym is) (subst (ArePart s) is part);
    }

-- of triples that are left there is one, and of others none
pub some_triples : (s : Stored) (triples : PageTriples) → ArePart s triples → triples_left triples ≡ true → 0 < length (triples_of s triples)
some_triples s (Part range) part left = omega (arith, part.lists, ltb-true range.from range.to left)
some_triples s (Listed ids next) part left =
    omega (arith, ltb-true next (length ids.items) left, length-map (drop next ids.items) (triple_at (held_terms s)), length-drop next ids.items)

pub no_triples : (s : Stored) (triples : PageTriples) → triples_left triples ≡ false → triples_of s triples ≡ []
no_triples s (Part range) none = none_listed s range (ltb-false range.from range.to none)
no_triples s (Listed ids next) none =
    ap (λ (l : List IdTriple). map (triple_at (held_terms s)) l) (drop_all next ids.items (ltb-false next (length ids.items) none))

-- ---- the line that was begun

long_triple : (t : Triple) (from : ℕ) → from < length (triple_marks t) → 0 < length (concat (drop from (triple_marks t)))
long_triple t from some =
    omega (arith, some, length-drop from (triple_marks t), marks_low (drop from (triple_marks t)) (are_dropped from (triple_marks t) (triple_are t)))

begun_long : (s : Stored) (quads : List Quad) (ids : IdTriple) (from : ℕ) → IsBegun s quads (begins.Triple ids from) → 0 < length (begun_text s quads (begins.Triple ids from))
unfolding begun_text
begun_long s quads ids from fits = long_triple (triple_at (held_terms s) ids) from fits.1

line_long : (s : Stored) (quads : List Quad) (place from : ℕ) → IsBegun s quads (begins.Line place from) → 0 < length (begun_text s quads (begins.Line place from))
unfolding begun_text
line_long s quads place from fits = omega (arith, fits.1, length-drop from (canonical_line (slice_index_or quads place some_quad)))

-- what is left where this line was begun
abbrev pub lines_at : Stored → List Quad → Begun → PageTriples → ℕ → PageLines
lines_at s quads b triples i = record { begun = begun_text s quads b; table = s; triples = triples; quads = drop i quads }

module _ (s : Stored) (quads : List Quad) (b : Begun) (triples : PageTriples) (i : ℕ) (p : PageLines) (same : lines_at s quads b triples i ≡ p) where
  pub none_begun : b ≡ begins.Nothing → false ≡ nat_lt 0 (length p.begun)
  unfolding begun_text
  none_begun is = ap (λ (x : Begun). nat_lt 0 (length (begun_text s quads x))) (sym is) ∙ ap (λ (x : PageLines). nat_lt 0 (length x.begun)) same

  pub triple_begun : (ids : IdTriple) (from : ℕ) → b ≡ begins.Triple ids from → IsBegun s quads b → true ≡ nat_lt 0 (length p.begun)
  triple_begun ids from is fits =
      sym (lt-ltb 0 (length (begun_text s quads (begins.Triple ids from))) (begun_long s quads ids from (subst (IsBegun s quads) is fits)))
      ∙ ap (λ (x : Begun). nat_lt 0 (length (begun_text s quads x))) (sym is) ∙ ap (λ (x : PageLines). nat_lt 0 (length x.begun)) same

  pub line_begun : (place from : ℕ) → b ≡ begins.Line place from → IsBegun s quads b → true ≡ nat_lt 0 (length p.begun)
  line_begun place from is fits =
      sym (lt-ltb 0 (length (begun_text s quads (begins.Line place from))) (line_long s quads place from (subst (IsBegun s quads) is fits)))
      ∙ ap (λ (x : Begun). nat_lt 0 (length (begun_text s quads x))) (sym is) ∙ ap (λ (x : PageLines). nat_lt 0 (length x.begun)) same

  pub not_none : b ≡ begins.Nothing → nat_lt 0 (length p.begun) ≡ true → ⊥
  not_none is some = true≢false (sym some ∙ sym (none_begun is))

  -- a part of what is left of it was given
  pub given_on : (new : Begun) (before after : List ℕ) → IsGiven (begun_text s quads b) (begun_text s quads new) before after → IsGiven (page_text p) (page_text (lines_at s quads new triples i)) before after
  unfolding page_text
  given_on new before after given = record {
    part = given.part;
    text =
        sym (ap page_text same)
        ∙ ap (λ (l : List ℕ). l ++ (concat (triple_lines (triples_of s triples)) ++ concat (quad_lines (drop i quads)))) given.text
        ∙ append_assoc given.part (begun_text s quads new) (concat (triple_lines (triples_of s triples)) ++ concat (quad_lines (drop i quads)));
    appended = given.appended;
    some = given.some;
    few = given.few;
  }

  pub given_triple : (held : Stored) (ids : IdTriple) (from : ℕ) (new : Begun) (before after : List ℕ) → held ≡ s → b ≡ begins.Triple ids from
      → IsGiven (begun_text held quads (begins.Triple ids from)) (begun_text held quads new) before after → IsGiven (page_text p) (page_text (lines_at s quads new triples i)) before after
  given_triple held ids from new before after of is given =
      given_on new before after
      (subst (λ (x : Begun). IsGiven (begun_text s quads x) (begun_text s quads new) before after) (sym is)
      (subst (λ (x : Stored). IsGiven (begun_text x quads (begins.Triple ids from)) (begun_text x quads new) before after) of given))

  pub given_line : (place from : ℕ) (new : Begun) (before after : List ℕ) → b ≡ begins.Line place from
      → IsGiven (begun_text s quads (begins.Line place from)) (begun_text s quads new) before after → IsGiven (page_text p) (page_text (lines_at s quads new triples i)) before after
  given_line place from new before after is given =
      given_on new before after (subst (λ (x : Begun). IsGiven (begun_text s quads x) (begun_text s quads new) before after) (sym is) given)

pub fits_triple : (s held : Stored) (quads : List Quad) (b : Begun) (ids : IdTriple) (from : ℕ) → held ≡ s → b ≡ begins.Triple ids from → IsBegun s quads b
    → IsIdTriple (held_terms held) ids × (from < length (triple_marks (triple_at (held_terms held) ids)))
fits_triple s held quads b ids from of is fits =
    subst (λ (x : Stored). IsIdTriple (held_terms x) ids × (from < length (triple_marks (triple_at (held_terms x) ids)))) (sym of) (subst (IsBegun s quads) is fits)

pub fits_line : (s : Stored) (quads : List Quad) (b : Begun) (place from : ℕ) → b ≡ begins.Line place from → IsBegun s quads b
    → (place < length quads) × (from < length (canonical_line (slice_index_or quads place some_quad)))
fits_line s quads b place from is fits = subst (IsBegun s quads) is fits

pub fits_on : (s held : Stored) (quads : List Quad) (new : Begun) → held ≡ s → IsBegun held quads new → IsBegun s quads new
fits_on s held quads new of fits = subst (λ (x : Stored). IsBegun x quads new) of fits

-- ---- the next line is begun

pub first_triple : (s : Stored) (quads : List Quad) (ids : IdTriple) → IsIdTriple (held_terms s) ids → IsBegun s quads (begins.Triple ids 0)
first_triple s quads ids is = (is, triple_some (triple_at (held_terms s) ids))

pub first_triple_long : (s : Stored) (quads : List Quad) (ids : IdTriple) → IsIdTriple (held_terms s) ids → nat_lt 0 (length (begun_text s quads (begins.Triple ids 0))) ≡ true
first_triple_long s quads ids is = lt-ltb 0 (length (begun_text s quads (begins.Triple ids 0))) (begun_long s quads ids 0 (first_triple s quads ids is))

pub first_line : (s : Stored) (quads : List Quad) (place : ℕ) → place < length quads → IsBegun s quads (begins.Line place 0)
first_line s quads place within = (within, omega (arith, line_length (slice_index_or quads place some_quad)))

pub first_line_long : (s : Stored) (quads : List Quad) (place : ℕ) → place < length quads → nat_lt 0 (length (begun_text s quads (begins.Line place 0))) ≡ true
first_line_long s quads place within = lt-ltb 0 (length (begun_text s quads (begins.Line place 0))) (line_long s quads place 0 (first_line s quads place within))

pub triple_stands : (s : Stored) (old new : PageTriples) (all quads : List Quad) (t : List ℕ) (ids : IdTriple) (p : PageLines) → record { begun = t; table = s; triples = old; quads = quads } ≡ p
    → p.begun ≡ [] → triples_of s old ≡ triple_at (held_terms s) ids ∷ triples_of s new
    → page_text (record { begun = begun_text s all (begins.Triple ids 0); table = s; triples = new; quads = quads }) ≡ page_text p
unfolding page_text begun_text
triple_stands s old new all quads t ids p same none first =
    let rest = concat (quad_lines quads) in
    let triple = triple_at (held_terms s) ids in
    ap (λ (l : List ℕ). l ++ (concat (triple_lines (triples_of s new)) ++ rest)) (triple_text triple)
    ∙ sym (append_assoc (triple_line triple) (concat (triple_lines (triples_of s new))) rest)
    ∙ ap (λ (l : List Triple). concat (triple_lines l) ++ rest) (sym first)
    ∙ ap (λ (l : List ℕ). l ++ (concat (triple_lines (triples_of s old)) ++ rest)) (sym (ap (λ (x : PageLines). x.begun) same ∙ none))
    ∙ ap page_text same

pub line_stands : (s : Stored) (triples : PageTriples) (quads : List Quad) (i : ℕ) (t : List ℕ) (p : PageLines) → record { begun = t; table = s; triples = triples; quads = drop i quads } ≡ p
    → p.begun ≡ [] → triples_left p.triples ≡ false → 0 < length p.quads
    → page_text (record { begun = begun_text s quads (begins.Line i 0); table = s; triples = triples; quads = drop (i + 1) quads }) ≡ page_text p
unfolding page_text begun_text
line_stands s triples quads i t p same none past some =
    let over : triples_left triples ≡ false = subst (λ (x : PageLines). triples_left x.triples ≡ false) (sym same) past in
    let more : 0 < length (drop i quads) = subst (λ (x : PageLines). 0 < length x.quads) (sym same) some in
    let within : i < length quads = omega (arith, more, length-drop i quads) in
    let e : suc i ≡ i + 1 = omega arith in
    let line = canonical_line (slice_index_or quads i some_quad) in
    ap (λ (l : List Triple). line ++ (concat (triple_lines l) ++ concat (quad_lines (drop (i + 1) quads)))) (no_triples s triples over)
    ∙ ap (λ (l : List Quad). concat (quad_lines l)) (sym (drop_at quads i some_quad within ∙ ap (λ (n : ℕ). slice_index_or quads i some_quad ∷ drop n quads) e))
    ∙ ap (λ (l : List Triple). concat (triple_lines l) ++ concat (quad_lines (drop i quads))) (sym (no_triples s triples over))
    ∙ ap (λ (l : List ℕ). l ++ (concat (triple_lines (triples_of s triples)) ++ concat (quad_lines (drop i quads)))) (sym (ap (λ (x : PageLines). x.begun) same ∙ none))
    ∙ ap page_text same

pub quads_within : (s : Stored) (triples : PageTriples) (quads : List Quad) (i : ℕ) (t : List ℕ) (p : PageLines) → record { begun = t; table = s; triples = triples; quads = drop i quads } ≡ p → 0 < length p.quads → i < length quads
quads_within s triples quads i t p same some =
    let more : 0 < length (drop i quads) = subst (λ (x : PageLines). 0 < length x.quads) (sym same) some in
    omega (arith, more, length-drop i quads)

pub part_kept : (p q : PageLines) → q.table ≡ p.table → q.triples ≡ p.triples → ArePart p.table p.triples → ArePart q.table q.triples
part_kept p q table triples part = subst (λ (x : Stored). ArePart x q.triples) (sym table) (subst (λ (x : PageTriples). ArePart p.table x) (sym triples) part)

-- ---- what is left

no_quads : (quads : List Quad) → nat_lt 0 (length quads) ≡ false → quads ≡ []
no_quads [] h = refl
no_quads (q ∷ quads) h = absurd (grind (arith, h))

pub no_bytes : (l : List ℕ) → nat_lt 0 (length l) ≡ false → l ≡ []
no_bytes [] h = refl
no_bytes (x ∷ l) h = absurd (grind (arith, h))

pub no_length : (n : ℕ) → nat_lt 0 (suc n) ≡ false → ⊥
no_length n h = grind (arith, h)

-- lines are left where none was begun
pub lines_of : (p : PageLines) → page_left p ≡ true → nat_lt 0 (length p.begun) ≡ false → lines_left p ≡ true
lines_of p left none = sym (ap (λ (b : Bool). b || lines_left p) none) ∙ left

some_of : (quads : List Quad) → nat_lt 0 (length quads) ≡ true → 0 < length quads
some_of quads h = grind (arith, h)

pub quads_left : (p : PageLines) → lines_left p ≡ true → triples_left p.triples ≡ false → 0 < length p.quads
quads_left p left past = some_of p.quads (sym (ap (λ (b : Bool). b || nat_lt 0 (length p.quads)) past) ∙ left)

pub page_done : (page : PageLines) → page_left page ≡ false → page_text page ≡ []
unfolding page_text
page_done page h =
    let none = or_parts (nat_lt 0 (length page.begun)) (lines_left page) h in
    let p = or_parts (triples_left page.triples) (nat_lt 0 (length page.quads)) none.1 in
    ap (λ (l : List ℕ). l ++ (concat (triple_lines (triples_of page.table page.triples)) ++ concat (quad_lines page.quads))) (no_bytes page.begun none.0)
    ∙ ap₂ (λ (l : List Triple) (quads : List Quad). concat (triple_lines l) ++ concat (quad_lines quads)) (no_triples page.table page.triples p.0) (no_quads page.quads p.1)

left_is : (quads : List Quad) (i : ℕ) → nat_lt i (length quads) ≡ nat_lt 0 (length (drop i quads))
left_is quads zero = refl
left_is [] (suc i) = le-ltb (suc i) 0 (omega arith)
left_is (q ∷ quads) (suc i) =
    let shorter : nat_lt (suc i) (suc (length quads)) ≡ nat_lt i (length quads) = grind arith in
    shorter ∙ left_is quads i

pub quads_are : (s : Stored) (triples : PageTriples) (quads : List Quad) (i n : ℕ) (t : List ℕ) (p : PageLines) → record { begun = t; table = s; triples = triples; quads = drop i quads } ≡ p → n ≡ length quads → nat_lt i n ≡ nat_lt 0 (length p.quads)
quads_are s triples quads i n t p same size = ap (nat_lt i) size ∙ left_is quads i ∙ ap (λ (x : PageLines). nat_lt 0 (length x.quads)) same

-- ---- several lines at once

-- a part was appended and then another one behind it
pub more_again : (room left : ℕ) (old mid new before one after : List ℕ) → left ≡ room - (length one - length before) → IsMore room old mid before one → IsMore left mid new one after
    → IsMore room old new before after
more_again room left old mid new before one after is first more =
    let size = ap (λ (l : List ℕ). length l) first.appended ∙ length-append before first.part in
    record {
      part = first.part ++ more.part;
      text = first.text ∙ ap (λ (l : List ℕ). first.part ++ l) more.text ∙ sym (append_assoc first.part more.part new);
      appended = more.appended ∙ ap (λ (l : List ℕ). l ++ more.part) first.appended ∙ append_assoc before first.part more.part;
      few = omega (arith, is, size, first.few, more.few, length-append first.part more.part);
    }

pub given_more : (room : ℕ) (old mid new before one after : List ℕ) → room ≡ LONGEST_PART - (length one - length before) → IsGiven old mid before one → IsMore room mid new one after → IsGiven old new before after
given_more room old mid new before one after is first more =
    let size = ap (λ (l : List ℕ). length l) first.appended ∙ length-append before first.part in
    record {
      part = first.part ++ more.part;
      text = first.text ∙ ap (λ (l : List ℕ). first.part ++ l) more.text ∙ sym (append_assoc first.part more.part new);
      appended = more.appended ∙ ap (λ (l : List ℕ). l ++ more.part) first.appended ∙ append_assoc before first.part more.part;
      some = omega (arith, first.some, length-append first.part more.part);
      few = omega (arith, is, size, first.few, more.few, length-append first.part more.part);
    }

module _ (s : Stored) (old new : PageTriples) (ids : IdTriple) (first : triples_of s old ≡ triple_at (held_terms s) ids ∷ triples_of s (after_first old)) (is : new ≡ after_first old) where
  first_line_is : lines_text s old ≡ triple_line (triple_at (held_terms s) ids) ++ lines_text s new
  first_line_is =
      ap (λ (l : List Triple). concat (triple_lines l)) first
      ∙ ap (λ (t : PageTriples). triple_line (triple_at (held_terms s) ids) ++ lines_text s t) (sym is)

  -- the line of the first triple was appended
  pub more_line : (room n : ℕ) (before after : List ℕ) → n ≡ length (triple_line (triple_at (held_terms s) ids)) → n ≤ room → after ≡ before ++ triple_line (triple_at (held_terms s) ids)
      → IsMore room (lines_text s old) (lines_text s new) before after
  more_line room n before after size fits appended =
      record { part = triple_line (triple_at (held_terms s) ids); text = first_line_is; appended = appended; few = omega (arith, size, fits) }

  pub fewer_lines : length (lines_text s new) < length (lines_text s old)
  fewer_lines =
      omega (arith, ap (λ (l : List ℕ). length l) first_line_is, length-append (triple_line (triple_at (held_terms s) ids)) (lines_text s new), triple_line_length (triple_at (held_terms s) ids))

-- lines were appended where none was begun
pub more_lines : (s held : Stored) (quads : List Quad) (b : Begun) (triples new : PageTriples) (i : ℕ) (p : PageLines) → lines_at s quads b triples i ≡ p → held ≡ s → b ≡ begins.Nothing
    → (room : ℕ) (before after : List ℕ) → IsMore room (lines_text held triples) (lines_text held new) before after → IsMore room (page_text p) (page_text (lines_at s quads b new i)) before after
unfolding page_text begun_text
more_lines s held quads b triples new i p same of is room before after more =
    let rest = concat (quad_lines (drop i quads)) in
    let none : begun_text s quads b ≡ [] = ap (begun_text s quads) is in
    let own : IsMore room (lines_text s triples) (lines_text s new) before after = subst (λ (x : Stored). IsMore room (lines_text x triples) (lines_text x new) before after) of more in
    record {
      part = own.part;
      text =
          sym (ap page_text same)
          ∙ ap (λ (l : List ℕ). l ++ (lines_text s triples ++ rest)) none
          ∙ ap (λ (l : List ℕ). l ++ rest) own.text
          ∙ append_assoc own.part (lines_text s new) rest
          ∙ ap (λ (l : List ℕ). own.part ++ (l ++ (lines_text s new ++ rest))) (sym none);
      appended = own.appended;
      few = own.few;
    }

pub short_metadata_is : (s : Stored) (quads : List Quad) (b : Begun) (triples : PageTriples) (i n : ℕ) (p : PageLines) → lines_at s quads b triples i ≡ p → i ≡ 0 → nat_lt 0 (length p.begun) ≡ false → triples_left p.triples ≡ false
    → n ≡ length (concat (quad_lines quads)) → n ≤ LONGEST_PART → IsShortMetadata p
short_metadata_is s quads b triples i n p same first none past size fits = record {
  begun = no_bytes p.begun none;
  past = past;
  few = subst (λ (x : PageLines). length (concat (quad_lines x.quads)) ≤ LONGEST_PART) same (subst (λ (k : ℕ). length (concat (quad_lines (drop k quads))) ≤ LONGEST_PART) (sym first) (omega (arith, size, fits)));
}

pub lines_some : (quads : List Quad) → 0 < length quads → 0 < length (concat (quad_lines quads))
lines_some [] h = absurd (omega arith)
lines_some (q ∷ quads) h = omega (arith, line_length q, length-append (canonical_line q) (concat (quad_lines quads)))

none_is : nat_lt 0 0 ≡ false
none_is = grind arith

-- the metadata were appended
pub given_metadata : (s : Stored) (quads : List Quad) (b : Begun) (triples : PageTriples) (i n : ℕ) (p : PageLines) → lines_at s quads b triples i ≡ p → IsShortMetadata p → page_left p ≡ true → n ≡ length quads
    → (before after : List ℕ) → after ≡ before ++ concat (quad_lines (drop i quads)) → IsGiven (page_text p) (page_text (lines_at s quads b triples n)) before after
unfolding page_text
given_metadata s quads b triples i n p same short left size before after appended =
    let text = concat (quad_lines p.quads) in
    let none : nat_lt 0 (length p.begun) ≡ false = ap (λ (l : List ℕ). nat_lt 0 (length l)) short.begun ∙ none_is in
    let begun : begun_text s quads b ≡ [] = ap (λ (x : PageLines). x.begun) same ∙ short.begun in
    let past : triples_left triples ≡ false = subst (λ (x : PageLines). triples_left x.triples ≡ false) (sym same) short.past in
    let over : page_text (lines_at s quads b triples n) ≡ [] =
    ap (λ (l : List ℕ). l ++ (concat (triple_lines (triples_of s triples)) ++ concat (quad_lines (drop n quads)))) begun
    ∙ ap₂ (λ (l : List Triple) (qs : List Quad). concat (triple_lines l) ++ concat (quad_lines qs)) (no_triples s triples past) (drop_all n quads (omega (arith, size))) in
    let all : page_text p ≡ text =
    ap (λ (l : List ℕ). l ++ (concat (triple_lines (triples_of p.table p.triples)) ++ text)) short.begun
    ∙ ap (λ (l : List Triple). concat (triple_lines l) ++ text) (no_triples p.table p.triples short.past) in
    record {
      part = text;
      text = all ∙ sym (append-nil text) ∙ ap (λ (l : List ℕ). text ++ l) (sym over);
      appended = appended ∙ ap (λ (x : PageLines). before ++ concat (quad_lines x.quads)) same;
      some = lines_some p.quads (quads_left p (lines_of p left none) short.past);
      few = short.few;
    }

-- ---- bodies

whole_given : (text new before after : List ℕ) → new ≡ [] → 0 < length text → length text ≤ LONGEST_PART → after ≡ before ++ text → IsGiven text new before after
whole_given text new before after none some few appended = record {
  part = text;
  text = sym (append-nil text) ∙ ap (λ (l : List ℕ). text ++ l) (sym none);
  appended = appended;
  some = some;
  few = few;
}

pub given_status : (rest : Rest) (status : Status) (before after : List ℕ) → rest ≡ Line status → after ≡ before ++ (refusal (code status)).body → IsGiven (rest_text rest) (rest_text Nothing) before after
unfolding rest_text
given_status rest status before after is appended =
    subst (λ (x : Rest). IsGiven (rest_text x) [] before after) (sym is) (whole_given (refusal (code status)).body [] before after refl (body_some status) (body_few status) appended)

pub given_words : (rest : Rest) (text : List ℕ) (before after : List ℕ) → rest ≡ Words text → IsWithin rest → after ≡ before ++ text → IsGiven (rest_text rest) (rest_text Nothing) before after
unfolding rest_text
given_words rest text before after is within appended =
    let w : IsWithin (Words text) = subst IsWithin is within in
    subst (λ (x : Rest). IsGiven (rest_text x) [] before after) (sym is) (whole_given text [] before after refl w.0 w.1 appended)

pub given_page : (rest : Rest) (p q : PageLines) (before after : List ℕ) → rest ≡ Page p → IsGiven (page_text p) (page_text q) before after → IsGiven (rest_text rest) (rest_text (Page q)) before after
unfolding rest_text
given_page rest p q before after is given =
    record { part = given.part; text = ap rest_text is ∙ given.text; appended = given.appended; some = given.some; few = given.few }

pub rest_done : (rest : Rest) → is_left rest ≡ false → rest_text rest ≡ rest_text Nothing
unfolding rest_text
rest_done Nothing h = refl
rest_done (Line status) h = absurd (true≢false h)
rest_done (Words text) h = absurd (true≢false h)
rest_done (Page page) h = page_done page h
