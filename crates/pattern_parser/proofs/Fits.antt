-- The patterns of a query name names that it has, and hold no blank node; the selected numbers are below the count.
use Rattle.std.proofs.Common.{ℕ, zero, suc, ◌≡◌, ◌+◌, ◌<◌, ◌≤◌, Bool, true, false, not, ◌&&◌, if◌then◌else◌, cond, List, [], ◌∷◌, ◌++◌, Option, Some, None, sym, ap, subst, ◌∙◌, map, length, arith, length-append, codes}
use Rattle.std.specs.List.{AllByRecursion, position_from}
use Rattle.std.specs.Option.{unwrap_or, is_some}
use Rattle.std.specs.Str.{bytes_eq}
use Rattle.rdf_terms.specs.declared.term.Term.{Term}
use Rattle.rdf_terms.specs.declared.term.Term.TheVariants as terms
use Rattle.rdf_terms.specs.declared.term.Kind.TheVariants.{Plain, Tagged}
use Rattle.rdf_terms.specs.Iri.{is_iri}
use Rattle.rdf_terms.specs.Kinds.{typed_kind}
use Rattle.rdf_terms.specs.Datatype.{is_lang_string}
use Rattle.rdf_terms.specs.Tag.{is_tag, lower}
use Rattle.bgp_core.specs.declared.pattern.Part.{Part}
use Rattle.bgp_core.specs.declared.pattern.Part.TheVariants as parts
use Rattle.bgp_core.specs.declared.pattern.Pattern.{Pattern}
use Rattle.rdf_terms.specs.Valid.{IsNotBlank}
use Rattle.bgp_core.specs.Queries.{IsPartOf, IsPatternOf}
use Rattle.query_words.specs.declared.word.Value.{Value}
use Rattle.query_words.specs.declared.word.Value.TheVariants as values
use Rattle.query_words.specs.declared.word.Word.{Word}
use Rattle.pattern_parser.specs.declared.item.Item.{Item}
use Rattle.pattern_parser.specs.declared.item.Item.TheVariants as items
use Rattle.pattern_parser.specs.Names.{anonymous, place_of, number, with_text, with_name, name_text, is_blank_name, variable_numbers}
use Rattle.pattern_parser.specs.Prefixes.{iri_text}
use Rattle.pattern_parser.specs.Items.{rdf_type, xsd_integer, xsd_decimal, xsd_double, xsd_boolean, iri_term, typed_term, tagged_term, datatype_term, string_before, string_term, term_of, name_or_term, part_of, more, mark_of, item_of, items_after, names_after, IsItemOf}
use Rattle.pattern_parser.specs.Triples.{block_patterns, triples_after}

-- ---- terms

iri_fits : (t : List ℕ) → IsNotBlank (iri_term t)
iri_fits t = pick (is_iri t)
  where
    pick : (b : Bool) → IsNotBlank (if b then terms.Iri t else terms.Literal t Plain)
    pick true = tt
    pick false = tt

typed_fits : (form d : List ℕ) → IsNotBlank (typed_term form d)
typed_fits form d = pick (is_iri d && not (is_lang_string d))
  where
    pick : (b : Bool) → IsNotBlank (if b then terms.Literal form (typed_kind d) else terms.Literal form Plain)
    pick true = tt
    pick false = tt

tagged_fits : (form t : List ℕ) → IsNotBlank (tagged_term form t)
tagged_fits form t = pick (is_tag t)
  where
    pick : (b : Bool) → IsNotBlank (if b then terms.Literal form (Tagged (lower t)) else terms.Literal form Plain)
    pick true = tt
    pick false = tt

datatype_fits : (iri : List ℕ → Option (List ℕ)) (s : List ℕ) (ws : List Word) → IsNotBlank (datatype_term iri s ws)
datatype_fits iri s [] = tt
datatype_fits iri s (d ∷ ws) = typed_fits s (iri_text iri d.value)

before_fits : (iri : List ℕ → Option (List ℕ)) (s : List ℕ) (v : Value) (ws : List Word) → IsNotBlank (string_before iri s v ws)
before_fits iri s (values.Tag t) ws = tagged_fits s t
before_fits iri s values.Carets ws = datatype_fits iri s ws
before_fits iri s _ ws = tt

string_fits : (iri : List ℕ → Option (List ℕ)) (s : List ℕ) (ws : List Word) → IsNotBlank (string_term iri s ws)
string_fits iri s [] = tt
string_fits iri s (w ∷ ws) = before_fits iri s w.value ws

abbrev TermFits : Option Term → Type 0
TermFits None = Unit {0}
TermFits (Some t) = IsNotBlank t

term_fits : (iri : List ℕ → Option (List ℕ)) (v : Value) (ws : List Word) → TermFits (term_of iri v ws)
term_fits iri (values.Iri t) ws = iri_fits t
term_fits iri (values.Prefix n) ws = iri_fits (iri_text iri (values.Prefix n))
term_fits iri (values.Prefixed n l) ws = iri_fits (iri_text iri (values.Prefixed n l))
term_fits iri (values.Str s) ws = string_fits iri s ws
term_fits iri (values.Integer t) ws = typed_fits t xsd_integer
term_fits iri (values.Decimal t) ws = typed_fits t xsd_decimal
term_fits iri (values.Double t) ws = typed_fits t xsd_double
term_fits iri values.True ws = typed_fits (codes "true") xsd_boolean
term_fits iri values.False ws = typed_fits (codes "false") xsd_boolean
term_fits iri values.TypeWord ws = iri_fits rdf_type
term_fits iri _ ws = tt

-- ---- names

abbrev Below : Option ℕ → ℕ → Type 0
Below None n = Unit {0}
Below (Some k) n = k < n

position_below : (t : List ℕ → Bool) (i : ℕ) (xs : List (List ℕ)) → Below (position_from t i xs) (i + length xs)
position_below t i [] = tt
position_below t i (x ∷ xs) =
    let e : i + 1 + length xs ≡ i + length (x ∷ xs) = omega arith in
    pick (t x) (subst (λ (n : ℕ). Below (position_from t (i + 1) xs) n) e (position_below t (i + 1) xs))
  where
    pick : (b : Bool) → Below (position_from t (i + 1) xs) (i + length (x ∷ xs)) → Below (cond b (Some i) (position_from t (i + 1) xs)) (i + length (x ∷ xs))
    pick true h = omega arith
    pick false h = h

place_below : (names : List (List ℕ)) (t : List ℕ) → Below (place_of names t) (length names)
place_below names t = pick (bytes_eq t anonymous)
  where
    all : Below (position_from (bytes_eq t) 0 names) (length names)
    all = let e : 0 + length names ≡ length names = omega arith in subst (λ (n : ℕ). Below (position_from (bytes_eq t) 0 names) n) e (position_below (bytes_eq t) 0 names)

    pick : (b : Bool) → Below (if b then None else position_from (bytes_eq t) 0 names) (length names)
    pick true = tt
    pick false = all

number_below : (names : List (List ℕ)) (t : List ℕ) → number names t < length (with_text names t)
number_below names t = pick (place_of names t) (place_below names t)
  where
    pick : (o : Option ℕ) → Below o (length names) → unwrap_or o (length names) < length (if is_some o then names else names ++ t ∷ [])
    pick None h = omega (arith, length-append names (t ∷ []))
    pick (Some k) h = h

text_grows : (names : List (List ℕ)) (t : List ℕ) → length names ≤ length (with_text names t)
text_grows names t = pick (is_some (place_of names t))
  where
    pick : (b : Bool) → length names ≤ length (if b then names else names ++ t ∷ [])
    pick true = omega arith
    pick false = omega (arith, length-append names (t ∷ []))

name_grows : (names : List (List ℕ)) (o : Option (List ℕ)) → length names ≤ length (with_name names o)
name_grows names None = omega arith
name_grows names (Some t) = text_grows names t

pub names_grow : (names : List (List ℕ)) (skip : ℕ) (ws : List Word) → length names ≤ length (names_after names skip ws)
names_grow names skip [] = omega arith
names_grow names (suc n) (w ∷ ws) = names_grow names n ws
names_grow names zero (w ∷ ws) =
    let a = name_grows names (name_text w.value) in
    let b = names_grow (with_name names (name_text w.value)) (more w.value ws) ws in
    omega (arith, a, b)

-- ---- items

abbrev PartFits : ℕ → Option Part → Type 0
PartFits count None = Unit {0}
PartFits count (Some p) = IsPartOf count p

part_fits : (names : List (List ℕ)) (o : Option (List ℕ)) (t : Option Term) → TermFits t → PartFits (length (with_name names o)) (name_or_term names o t)
part_fits names (Some n) t h = number_below names n
part_fits names None (Some t) h = h
part_fits names None None h = tt

pub part_grows : (m n : ℕ) (p : Part) → m ≤ n → IsPartOf m p → IsPartOf n p
part_grows m n (parts.Fixed t) h f = f
part_grows m n (parts.Name k) h f = omega arith

all_append : (P : Item → Type 0) (is js : List Item) → AllByRecursion P is → AllByRecursion P js → AllByRecursion P (is ++ js)
all_append P [] js a b = b
all_append P (i ∷ is) js a b = (a.0, all_append P is js a.1 b)

marks_fit : (count : ℕ) (v : Value) → AllByRecursion (IsItemOf count) (mark_of v)
marks_fit count values.Dot = (tt, tt)
marks_fit count values.Semicolon = (tt, tt)
marks_fit count values.Comma = (tt, tt)
marks_fit count _ = tt

item_fits : (m count : ℕ) (o : Option Part) (at : ℕ) (v : Value) → m ≤ count → PartFits m o → AllByRecursion (IsItemOf count) (item_of o at v)
item_fits m count None at v h f = marks_fit count v
item_fits m count (Some p) at v h f = (part_grows m count p h f, tt)

pub items_fit : (iri : List ℕ → Option (List ℕ)) (names : List (List ℕ)) (skip : ℕ) (ws : List Word) → AllByRecursion (IsItemOf (length (names_after names skip ws))) (items_after iri names skip ws)
items_fit iri names skip [] = tt
items_fit iri names (suc n) (w ∷ ws) = items_fit iri names n ws
items_fit iri names zero (w ∷ ws) =
    let new = with_name names (name_text w.value) in
    let count = length (names_after new (more w.value ws) ws) in
    let grows = names_grow new (more w.value ws) ws in
    all_append (IsItemOf count) (item_of (part_of iri names w.value ws) w.at w.value) (items_after iri new (more w.value ws) ws)
    (item_fits (length new) count (part_of iri names w.value ws) w.at w.value grows (part_fits names (name_text w.value) (term_of iri w.value ws) (term_fits iri w.value ws)))
    (items_fit iri new (more w.value ws) ws)

-- ---- patterns

pub triples_fit : (count : ℕ) (s v : Option Part) (is : List Item) → PartFits count s → PartFits count v → AllByRecursion (IsItemOf count) is → AllByRecursion (IsPatternOf count) (map (λ p. p.pattern) (triples_after s v is))
triples_fit count s v [] a b h = tt
triples_fit count None v (items.Part t at ∷ is) a b h = triples_fit count (Some t) None is h.0 tt h.1
triples_fit count (Some s) None (items.Part t at ∷ is) a b h = triples_fit count (Some s) (Some t) is a h.0 h.1
triples_fit count (Some s) (Some v) (items.Part t at ∷ is) a b h = (record { subject = a; predicate = b; object = h.0 }, triples_fit count (Some s) (Some v) is a b h.1)
triples_fit count s v (items.Dot ∷ is) a b h = triples_fit count None None is tt tt h.1
triples_fit count s v (items.Semicolon ∷ is) a b h = triples_fit count s None is a tt h.1
triples_fit count s v (items.Comma ∷ is) a b h = triples_fit count s v is a b h.1

pub patterns_fit : (iri : List ℕ → Option (List ℕ)) (names : List (List ℕ)) (ws : List Word) → AllByRecursion (IsPatternOf (length (names_after names 0 ws))) (map (λ p. p.pattern) (triples_after None None (items_after iri names 0 ws)))
patterns_fit iri names ws = triples_fit (length (names_after names 0 ws)) None None (items_after iri names 0 ws) tt tt (items_fit iri names 0 ws)

-- ---- selected numbers

pub numbers_fit : (n count : ℕ) (ts : List (List ℕ)) → n + length ts ≤ count → AllByRecursion (λ k. k < count) (variable_numbers n ts)
numbers_fit n count [] h = tt
numbers_fit n count (t ∷ ts) h =
    pick (is_blank_name t) (numbers_fit (n + 1) count ts (omega arith))
  where
    pick : (b : Bool) → AllByRecursion (λ k. k < count) (variable_numbers (n + 1) ts) → AllByRecursion (λ k. k < count) (if b then variable_numbers (n + 1) ts else n ∷ variable_numbers (n + 1) ts)
    pick true r = r
    pick false r = (omega arith, r)

pub chosen_fit : (count : ℕ) (b : Bool) (ts us : List (List ℕ)) → length ts ≤ count → length us ≤ count → AllByRecursion (λ k. k < count) (if b then variable_numbers 0 ts else variable_numbers 0 us)
chosen_fit count true ts us h k = numbers_fit 0 count ts (omega arith)
chosen_fit count false ts us h k = numbers_fit 0 count us (omega arith)

-- ---- at the names and the numbers of a query

pub patterns_fit_at : (iri : List ℕ → Option (List ℕ)) (names all : List (List ℕ)) (ws : List Word) (ps : List Pattern) → all ≡ names_after names 0 ws → ps ≡ block_patterns iri names ws → AllByRecursion (IsPatternOf (length all)) ps
patterns_fit_at iri names all ws ps e f =
    subst (λ (l : List (List ℕ)). AllByRecursion (IsPatternOf (length l)) ps) (sym e)
    (subst (λ (l : List Pattern). AllByRecursion (IsPatternOf (length (names_after names 0 ws))) l) (sym f) (patterns_fit iri names ws))

pub names_grow_at : (names all : List (List ℕ)) (ws : List Word) → all ≡ names_after names 0 ws → length names ≤ length all
names_grow_at names all ws e = let g = names_grow names 0 ws in let s = ap length e in omega (arith, g, s)

pub selected_fit : (b : Bool) (all listed slice : List (List ℕ)) (numbers selected : List ℕ) → slice ≡ all → length listed ≤ length all → numbers ≡ variable_numbers 0 listed → selected ≡ (if b then variable_numbers 0 slice else numbers) → AllByRecursion (λ k. k < length all) selected
selected_fit b all listed slice numbers selected e h f g =
    let whole : selected ≡ (if b then variable_numbers 0 all else variable_numbers 0 listed) = g ∙ ap (λ (l : List (List ℕ)). if b then variable_numbers 0 l else numbers) e ∙ ap (λ (l : List ℕ). if b then variable_numbers 0 all else l) f in
    subst (λ (l : List ℕ). AllByRecursion (λ k. k < length all) l) (sym whole) (chosen_fit (length all) b all listed (omega arith) h)
