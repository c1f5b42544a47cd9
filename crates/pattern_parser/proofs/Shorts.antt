-- The texts of a fixed term are parts of the text of its query, and of the names of the datatypes that numbers, true and false have: so for the tokens of any text, also of a query with groups.
use Rattle.std.proofs.Common.{ℕ, zero, suc, zero-add, ◌≡◌, ◌+◌, ◌-◌, ◌<◌, ◌≤◌, Bool, true, false, not, ◌&&◌, ◌||◌, ◌==◌, nat_lt, if◌then◌else◌, List, [], ◌∷◌, ◌++◌, codes, Option, Some, None, refl, sym, ap, subst, ◌∙◌, map, take, drop, length, arith, length-append, length-drop}
use Rattle.std.specs.Char.{encode_utf8, len_utf8, to_ascii_lowercase}
use Rattle.std.specs.List.{AllByRecursion}
use Rattle.std.specs.Option.{unwrap_or}
use Rattle.std.specs.Str.{bytes_eq, chars, encode_utf8_all}
use Rattle.std.proofs.lemmas.List.{drop-drop, map-append, length-map}
use Rattle.std.proofs.lemmas.Str.{encodes-chars, length-encode, len_utf8_bounds, length-le-encodes, len_utf8_ascii}
use Rattle.rdf_terms.specs.declared.term.Term.{Term}
use Rattle.rdf_terms.specs.declared.term.Term.TheVariants as terms
use Rattle.rdf_terms.specs.declared.term.Kind.TheVariants.{Plain, Typed, Tagged}
use Rattle.rdf_terms.specs.declared.limits.TheConstants.{MOST_UNWRITTEN}
use Rattle.rdf_terms.specs.Iri.{is_iri}
use Rattle.rdf_terms.specs.Datatype.{is_lang_string, is_xsd_string}
use Rattle.rdf_terms.specs.Sizes.{term_size}
use Rattle.rdf_terms.specs.Tag.{is_tag, lower}
use Rattle.bgp_core.specs.declared.pattern.Part.{Part}
use Rattle.bgp_core.specs.Queries.{QueryData}
use Rattle.query_tokens.specs.declared.kind.PieceKind.{PieceKind}
use Rattle.query_tokens.specs.declared.kind.PieceKind.TheVariants as pieces
use Rattle.query_tokens.specs.declared.piece.Piece.{Piece}
use Rattle.query_tokens.specs.declared.piece.TheConstants.{LONGEST_QUERY}
use Rattle.query_tokens.specs.Escapes.{character_of, character_or, hex_after, escape_value, escape_length, resolved_after}
use Rattle.query_tokens.specs.Pieces.{is_gap, byte_place, placed, placed_one}
use Rattle.query_words.specs.declared.word.Value.{Value}
use Rattle.query_words.specs.declared.word.Value.TheVariants as values
use Rattle.query_words.specs.declared.word.Word.{Word}
use Rattle.query_words.specs.Texts.{same_word, colon, unescaped, resolved_text}
use Rattle.query_words.specs.Words.{word_value, value_of, word_of, words_of}
use Rattle.pattern_parser.specs.declared.item.Item.{Item}
use Rattle.pattern_parser.specs.declared.item.Item.TheVariants as items
use Rattle.pattern_parser.specs.Names.{with_name, name_text}
use Rattle.pattern_parser.specs.Prefixes.{or_else, iri_in, first_iri, declares, iri_of, iri_text, before}
use Rattle.pattern_parser.specs.Items.{rdf_type, xsd_integer, xsd_decimal, xsd_double, xsd_boolean, iri_term, typed_term, tagged_term, datatype_term, string_before, string_term, term_of, name_or_term, part_of, more, mark_of, item_of, items_after}
use Rattle.pattern_parser.specs.Triples.{triples_after}
use Rattle.pattern_parser.specs.Queries.{is_select, is_brace, prologue, prefixes, body, block, select_names, Reads, ReadsTokens, ReadsQuery}
use Rattle.pattern_parser.specs.Short.{IsShortPart, IsShortPattern}

-- ---- bytes of characters

abbrev bytes : List ℕ → ℕ
bytes cs = length (encode_utf8_all cs)

bytes_cons : (c : ℕ) (cs : List ℕ) → bytes (c ∷ cs) ≡ len_utf8 c + bytes cs
bytes_cons c cs = length-append (encode_utf8 c) (encode_utf8_all cs) ∙ ap (λ (n : ℕ). n + bytes cs) (length-encode c)

bytes_split : (n : ℕ) (cs : List ℕ) → bytes (take n cs) + bytes (drop n cs) ≡ bytes cs
bytes_split zero cs = zero-add (bytes cs)
bytes_split (suc n) [] = refl
bytes_split (suc n) (c ∷ cs) = omega (arith, bytes_cons c cs, bytes_cons c (take n cs), bytes_split n cs)

bytes_drop : (n : ℕ) (cs : List ℕ) → bytes (drop n cs) ≤ bytes cs
bytes_drop n cs = omega (arith, bytes_split n cs)

bytes_take : (n : ℕ) (cs : List ℕ) → n < length cs → bytes (take n cs) + 1 ≤ bytes cs
bytes_take n cs h = omega (arith, h, bytes_split n cs, length-le-encodes (drop n cs), length-drop n cs)

unescaped_short : (cs : List ℕ) → bytes (unescaped cs) ≤ bytes cs
unescaped_short [] = omega arith
unescaped_short (c ∷ cs) = by (c == 92) refl (unescaped_short cs)
  where
    by : (b : Bool) → (c == 92) ≡ b → bytes (unescaped cs) ≤ bytes cs → bytes (unescaped (c ∷ cs)) ≤ bytes (c ∷ cs)
    by true e r =
        let out : unescaped (c ∷ cs) ≡ unescaped cs = rw e refl in
        omega (arith, ap bytes out, bytes_cons c cs, r)
    by false e r =
        let out : unescaped (c ∷ cs) ≡ c ∷ unescaped cs = rw e refl in
        omega (arith, ap bytes out, bytes_cons c (unescaped cs), bytes_cons c cs, r)

-- ---- escapes

-- how many characters are passed over
abbrev gone : ℕ → List ℕ → ℕ
gone skip [] = 0
gone (suc n) (c ∷ cs) = suc (gone n cs)
gone zero (c ∷ cs) = 0

-- what an escape stands for and what follows it have at most two bytes more than their text, which a backslash at the end needs
abbrev Escaped : List ℕ → ℕ → ℕ → Type 0
Escaped cs k v = bytes (resolved_after k cs) + gone k cs ≤ bytes cs + 2 → len_utf8 v + bytes (resolved_after k cs) ≤ bytes cs + 3

by_gone : (cs : List ℕ) (k v : ℕ) → len_utf8 v ≤ 1 + gone k cs → Escaped cs k v
by_gone cs k v g = λ h. omega (arith, h, g)

long_escape : (c : ℕ) (cs : List ℕ) (n v : ℕ) → Escaped (c ∷ cs) (suc (suc (suc n))) v
long_escape c [] n v = λ h. omega (arith, (len_utf8_bounds v).1, (len_utf8_bounds c).0, bytes_cons c [])
long_escape c (d ∷ []) n v = λ h. omega (arith, (len_utf8_bounds v).1, (len_utf8_bounds c).0, bytes_cons c (d ∷ []))
long_escape c (d ∷ e ∷ ds) n v = by_gone (c ∷ d ∷ e ∷ ds) (suc (suc (suc n))) v (omega (arith, (len_utf8_bounds v).1))

small : (n : ℕ) → n < 128 → len_utf8 (character_or n) ≡ 1
small n h =
    let t : nat_lt n 0xD800 ≡ true = grind (arith, h) in
    let e : character_or n ≡ n = rw t refl in
    ap len_utf8 e ∙ len_utf8_ascii n h

character_small : (c : ℕ) → character_of c < 128
character_small c = pick (c == 116) (c == 98) (c == 110) (c == 114) (c == 102) ((c == 34) || ((c == 39) || (c == 92))) refl
  where
    pick : (t b n r f q : Bool) → ((c == 34) || ((c == 39) || (c == 92))) ≡ q → (if t then 9 else (if b then 8 else (if n then 10 else (if r then 13 else (if f then 12 else (if q then c else 0)))))) < 128
    pick true b n r f q e = omega arith
    pick false true n r f q e = omega arith
    pick false false true r f q e = omega arith
    pick false false false true f q e = omega arith
    pick false false false false true q e = omega arith
    pick false false false false false true e = grind (arith, e)
    pick false false false false false false e = omega arith

escaped : (cs : List ℕ) → Escaped cs (escape_length cs) (escape_value cs)
unfolding escape_length escape_value
escaped [] = λ h. let e : len_utf8 0xFFFD ≡ 3 = refl in omega (arith, e)
escaped (c ∷ cs) = pick (c == 117) (c == 85)
  where
    pick : (p q : Bool) → Escaped (c ∷ cs) (if p then 5 else (if q then 9 else 1)) (if p then character_or (hex_after 0 (take 4 cs)) else (if q then character_or (hex_after 0 (take 8 cs)) else character_or (character_of c)))
    pick true q = long_escape c cs 2 (character_or (hex_after 0 (take 4 cs)))
    pick false true = long_escape c cs 6 (character_or (hex_after 0 (take 8 cs)))
    pick false false = by_gone (c ∷ cs) 1 (character_or (character_of c)) (omega (arith, small (character_of c) (character_small c)))

resolved_short : (skip : ℕ) (cs : List ℕ) → bytes (resolved_after skip cs) + gone skip cs ≤ bytes cs + 2
resolved_short skip [] = omega arith
resolved_short (suc n) (c ∷ cs) = omega (arith, resolved_short n cs, bytes_cons c cs, (len_utf8_bounds c).0)
resolved_short zero (c ∷ cs) = pick (c == 92) (resolved_short (escape_length cs) cs) (resolved_short 0 cs)
  where
    pick : (b : Bool) → bytes (resolved_after (escape_length cs) cs) + gone (escape_length cs) cs ≤ bytes cs + 2 → bytes (resolved_after 0 cs) + gone 0 cs ≤ bytes cs + 2 → bytes (if b then escape_value cs ∷ resolved_after (escape_length cs) cs else c ∷ resolved_after 0 cs) + 0 ≤ bytes (c ∷ cs) + 2
    pick true h k = omega (arith, escaped cs h, bytes_cons c cs, (len_utf8_bounds c).0, bytes_cons (escape_value cs) (resolved_after (escape_length cs) cs))
    pick false h k = omega (arith, k, bytes_cons c cs, bytes_cons c (resolved_after 0 cs))

-- the text of an IRI or a string is no longer than its token
text_short : (cs : List ℕ) → length (resolved_text cs) ≤ bytes cs
text_short [] = omega arith
text_short (c ∷ []) = omega arith
text_short (c ∷ d ∷ cs) =
    let n = length (c ∷ d ∷ cs) - 2 in
    let below : n < length (d ∷ cs) = omega arith in
    omega (arith, resolved_short 0 (take n (d ∷ cs)), bytes_take n (d ∷ cs) below, bytes_cons c (d ∷ cs), (len_utf8_bounds c).0)

-- ---- words

-- the bytes of what a token says that stand in a term
abbrev pub weight : Value → ℕ
weight (values.Iri t) = length t
weight (values.Prefixed n l) = length l
weight (values.Str s) = length s
weight (values.Tag t) = length t
weight (values.Integer t) = length t
weight (values.Decimal t) = length t
weight (values.Double t) = length t
weight _ = 0

abbrev pub total : List Word → ℕ
total [] = 0
total (w ∷ ws) = weight w.value + total ws

word_short : (cs : List ℕ) → weight (word_value cs) ≡ 0
unfolding word_value
word_short cs = pick (same_word (codes "prefix") cs) (same_word (codes "select") cs) (same_word (codes "where") cs) (same_word (codes "true") cs) (same_word (codes "false") cs) (bytes_eq cs (codes "a")) (same_word (codes "distinct") cs) (same_word (codes "optional") cs) (same_word (codes "union") cs)
  where
    pick : (p s w t f a d o u : Bool) → weight (if p then values.PrefixWord else (if s then values.SelectWord else (if w then values.WhereWord else (if t then values.True else (if f then values.False else (if a then values.TypeWord else (if d then values.DistinctWord else (if o then values.OptionalWord else (if u then values.UnionWord else values.OtherWord))))))))) ≡ 0
    pick true s w t f a d o u = refl
    pick false true w t f a d o u = refl
    pick false false true t f a d o u = refl
    pick false false false true f a d o u = refl
    pick false false false false true a d o u = refl
    pick false false false false false true d o u = refl
    pick false false false false false false true o u = refl
    pick false false false false false false false true u = refl
    pick false false false false false false false false true = refl
    pick false false false false false false false false false = refl

value_short : (k : PieceKind) (cs : List ℕ) → weight (value_of k cs) ≤ bytes cs
unfolding value_of
value_short pieces.Iri cs = text_short cs
value_short pieces.Prefixed cs = omega (arith, unescaped_short (drop (colon cs + 1) cs), bytes_drop (colon cs + 1) cs)
value_short pieces.Str cs = text_short cs
value_short pieces.Tag cs = bytes_drop 1 cs
value_short pieces.Word cs = omega (arith, word_short cs)
value_short _ cs = omega arith

pub total_append : (xs ys : List Word) → total (xs ++ ys) ≡ total xs + total ys
total_append [] ys = sym (zero-add (total ys))
total_append (x ∷ xs) ys = omega (arith, total_append xs ys)

one_short : (whole cs : List ℕ) (place : ℕ) (k : PieceKind) (len : ℕ) → drop place whole ≡ cs → total (words_of whole (placed_one whole place k len)) ≤ bytes (take len cs)
one_short whole cs place k len e = pick (is_gap k)
  where
    piece : Piece
    piece = record { kind = k; place = place; len = len; at = byte_place whole place; to = byte_place whole (place + len) }

    value : weight (value_of k (take len (drop place whole))) ≤ bytes (take len cs)
    value = subst (λ (l : List ℕ). weight (value_of k (take len l)) ≤ bytes (take len cs)) (sym e) (value_short k (take len cs))

    pick : (b : Bool) → total (words_of whole (if b then [] else piece ∷ [])) ≤ bytes (take len cs)
    pick true = omega arith
    pick false = omega (arith, value)

placed_short : (whole cs : List ℕ) (place : ℕ) (ps : List (PieceKind × ℕ)) → drop place whole ≡ cs → total (words_of whole (placed whole place ps)) ≤ bytes cs
placed_short whole cs place [] e = omega arith
placed_short whole cs place (p ∷ ps) e =
    let one = placed_one whole place p.0 p.1 in
    let rest = placed whole (place + p.1) ps in
    let next : drop (place + p.1) whole ≡ drop p.1 cs = sym (drop-drop p.1 place whole) ∙ ap (drop p.1) e in
    let all : total (words_of whole (one ++ rest)) ≡ total (words_of whole one) + total (words_of whole rest) = ap total (map-append (word_of whole) one rest) ∙ total_append (words_of whole one) (words_of whole rest) in
    omega (arith, all, one_short whole cs place p.0 p.1 e, placed_short whole (drop p.1 cs) (place + p.1) ps next, bytes_split p.1 cs)

pub tokens_short : (text : List ℕ) (ws : List Word) → ReadsTokens text ws → total ws ≤ LONGEST_QUERY
tokens_short text ws r =
    let cs = chars text in
    let there : total ws ≡ total (words_of cs (placed cs 0 r.are.pieces)) = ap total r.words ∙ ap (λ (l : List Piece). total (words_of cs l)) r.are.are in
    let size : bytes cs ≡ length text = ap length (encodes-chars text r.utf8) in
    omega (arith, there, placed_short cs cs 0 r.are.pieces refl, size, r.short)

pub total_split : (n : ℕ) (ws : List Word) → total (take n ws) + total (drop n ws) ≡ total ws
total_split zero ws = zero-add (total ws)
total_split (suc n) [] = refl
total_split (suc n) (w ∷ ws) = omega (arith, total_split n ws)

-- ---- the IRIs of prefixes

first_short : (ws : List Word) → length (unwrap_or (first_iri ws) []) ≤ total ws
first_short [] = omega arith
first_short (w ∷ ws) = omega (arith, pick w.value)
  where
    pick : (v : Value) → length (unwrap_or (iri_in v) []) ≤ weight v
    pick (values.Iri t) = omega arith
    pick _ = omega arith

declared_short : (v : Value) (ws : List Word) (n : List ℕ) → length (unwrap_or (declares v ws n) []) ≤ total ws
declared_short (values.Prefix p) ws n = pick (bytes_eq n p)
  where
    pick : (b : Bool) → length (unwrap_or (if b then first_iri ws else None) []) ≤ total ws
    pick true = first_short ws
    pick false = omega arith
declared_short _ ws n = omega arith

pub prefix_short : (ws : List Word) (n : List ℕ) → length (unwrap_or (iri_of ws n) []) ≤ total ws
prefix_short [] n = omega arith
prefix_short (w ∷ ws) n = pick (iri_of ws n) (prefix_short ws n)
  where
    pick : (o : Option (List ℕ)) → length (unwrap_or o []) ≤ total ws → length (unwrap_or (or_else o (declares w.value ws n)) []) ≤ weight w.value + total ws
    pick None h = omega (arith, declared_short w.value ws n)
    pick (Some t) h = omega (arith, h)

-- ---- terms

-- the IRI of each prefix has at most so many bytes
abbrev pub Bound : (List ℕ → Option (List ℕ)) → ℕ → Type 0
Bound iri b = (n : List ℕ) → length (unwrap_or (iri n) []) ≤ b

iri_size : (t : List ℕ) → term_size (iri_term t) ≡ length t
iri_size t = pick (is_iri t)
  where
    pick : (b : Bool) → term_size (if b then terms.Iri t else terms.Literal t Plain) ≡ length t
    pick true = refl
    pick false = omega arith

typed_size : (form d : List ℕ) → term_size (typed_term form d) ≤ length form + length d
typed_size form d = pick (is_iri d && not (is_lang_string d)) (is_xsd_string d)
  where
    pick : (b s : Bool) → term_size (if b then terms.Literal form (if s then Plain else Typed d) else terms.Literal form Plain) ≤ length form + length d
    pick true true = omega arith
    pick true false = omega arith
    pick false s = omega arith

tagged_size : (form t : List ℕ) → term_size (tagged_term form t) ≤ length form + length t
tagged_size form t = pick (is_tag t)
  where
    pick : (b : Bool) → term_size (if b then terms.Literal form (Tagged (lower t)) else terms.Literal form Plain) ≤ length form + length t
    pick true = omega (arith, length-map t to_ascii_lowercase)
    pick false = omega arith

text_size : (iri : List ℕ → Option (List ℕ)) (b : ℕ) → Bound iri b → (v : Value) → length (iri_text iri v) ≤ b + weight v
text_size iri b h (values.Iri t) = omega arith
text_size iri b h (values.Prefix n) = omega (arith, h n)
text_size iri b h (values.Prefixed n l) = omega (arith, h n, length-append (unwrap_or (iri n) []) l)
text_size iri b h _ = omega arith

datatype_size : (iri : List ℕ → Option (List ℕ)) (b : ℕ) → Bound iri b → (s : List ℕ) (ws : List Word) → term_size (datatype_term iri s ws) ≤ b + (length s + total ws)
datatype_size iri b h s [] = omega arith
datatype_size iri b h s (d ∷ ws) = omega (arith, typed_size s (iri_text iri d.value), text_size iri b h d.value)

before_size : (iri : List ℕ → Option (List ℕ)) (b : ℕ) → Bound iri b → (s : List ℕ) (v : Value) (ws : List Word) → term_size (string_before iri s v ws) ≤ b + (length s + (weight v + total ws))
before_size iri b h s (values.Tag t) ws = omega (arith, tagged_size s t)
before_size iri b h s values.Carets ws = omega (arith, datatype_size iri b h s ws)
before_size iri b h s _ ws = omega arith

string_size : (iri : List ℕ → Option (List ℕ)) (b : ℕ) → Bound iri b → (s : List ℕ) (ws : List Word) → term_size (string_term iri s ws) ≤ b + (length s + total ws)
string_size iri b h s [] = omega arith
string_size iri b h s (w ∷ ws) = before_size iri b h s w.value ws

integer_long : length xsd_integer ≡ 40
unfolding xsd_integer
integer_long = refl

decimal_long : length xsd_decimal ≡ 40
unfolding xsd_decimal
decimal_long = refl

double_long : length xsd_double ≡ 39
unfolding xsd_double
double_long = refl

boolean_long : length xsd_boolean ≡ 40
unfolding xsd_boolean
boolean_long = refl

type_long : length rdf_type ≡ 47
unfolding rdf_type
type_long = refl

true_long : length (codes "true") ≡ 4
true_long = refl

false_long : length (codes "false") ≡ 5
false_long = refl

abbrev ShortTerm : Option Term → Type 0
ShortTerm None = Unit {0}
ShortTerm (Some t) = term_size t ≤ LONGEST_QUERY + MOST_UNWRITTEN

term_short : (iri : List ℕ → Option (List ℕ)) (b : ℕ) → Bound iri b → (v : Value) (ws : List Word) → b + (weight v + total ws) ≤ LONGEST_QUERY → ShortTerm (term_of iri v ws)
term_short iri b h (values.Iri t) ws f = omega (arith, f, iri_size t)
term_short iri b h (values.Prefix n) ws f = omega (arith, f, iri_size (iri_text iri (values.Prefix n)), text_size iri b h (values.Prefix n))
term_short iri b h (values.Prefixed n l) ws f = omega (arith, f, iri_size (iri_text iri (values.Prefixed n l)), text_size iri b h (values.Prefixed n l))
term_short iri b h (values.Str s) ws f = omega (arith, f, string_size iri b h s ws)
term_short iri b h (values.Integer t) ws f = omega (arith, f, typed_size t xsd_integer, integer_long)
term_short iri b h (values.Decimal t) ws f = omega (arith, f, typed_size t xsd_decimal, decimal_long)
term_short iri b h (values.Double t) ws f = omega (arith, f, typed_size t xsd_double, double_long)
term_short iri b h values.True ws f = omega (arith, f, typed_size (codes "true") xsd_boolean, boolean_long, true_long)
term_short iri b h values.False ws f = omega (arith, f, typed_size (codes "false") xsd_boolean, boolean_long, false_long)
term_short iri b h values.TypeWord ws f = omega (arith, f, iri_size rdf_type, type_long)
term_short iri b h _ ws f = tt

-- ---- items

abbrev pub ShortPart : Option Part → Type 0
ShortPart None = Unit {0}
ShortPart (Some p) = IsShortPart p

abbrev pub ShortItem : Item → Type 0
ShortItem (items.Part p at) = IsShortPart p
ShortItem _ = Unit {0}

part_short : (names : List (List ℕ)) (o : Option (List ℕ)) (t : Option Term) → ShortTerm t → ShortPart (name_or_term names o t)
part_short names (Some n) t h = tt
part_short names None (Some t) h = h
part_short names None None h = tt

all_append : (is js : List Item) → AllByRecursion ShortItem is → AllByRecursion ShortItem js → AllByRecursion ShortItem (is ++ js)
all_append [] js a b = b
all_append (i ∷ is) js a b = (a.0, all_append is js a.1 b)

marks_short : (v : Value) → AllByRecursion ShortItem (mark_of v)
marks_short values.Dot = (tt, tt)
marks_short values.Semicolon = (tt, tt)
marks_short values.Comma = (tt, tt)
marks_short _ = tt

item_short : (o : Option Part) (at : ℕ) (v : Value) → ShortPart o → AllByRecursion ShortItem (item_of o at v)
item_short None at v f = marks_short v
item_short (Some p) at v f = (f, tt)

pub items_short : (iri : List ℕ → Option (List ℕ)) (b : ℕ) → Bound iri b → (names : List (List ℕ)) (skip : ℕ) (ws : List Word) → b + total ws ≤ LONGEST_QUERY → AllByRecursion ShortItem (items_after iri names skip ws)
items_short iri b h names skip [] f = tt
items_short iri b h names (suc n) (w ∷ ws) f = items_short iri b h names n ws (omega (arith, f))
items_short iri b h names zero (w ∷ ws) f =
    let new = with_name names (name_text w.value) in
    all_append (item_of (part_of iri names w.value ws) w.at w.value) (items_after iri new (more w.value ws) ws)
    (item_short (part_of iri names w.value ws) w.at w.value (part_short names (name_text w.value) (term_of iri w.value ws) (term_short iri b h w.value ws f)))
    (items_short iri b h new (more w.value ws) ws (omega (arith, f)))

-- ---- patterns

pub triples_short : (s v : Option Part) (is : List Item) → ShortPart s → ShortPart v → AllByRecursion ShortItem is → AllByRecursion IsShortPattern (map (λ p. p.pattern) (triples_after s v is))
triples_short s v [] a b h = tt
triples_short None v (items.Part t at ∷ is) a b h = triples_short (Some t) None is h.0 tt h.1
triples_short (Some s) None (items.Part t at ∷ is) a b h = triples_short (Some s) (Some t) is a h.0 h.1
triples_short (Some s) (Some v) (items.Part t at ∷ is) a b h = (record { subject = a; predicate = b; object = h.0 }, triples_short (Some s) (Some v) is a b h.1)
triples_short s v (items.Dot ∷ is) a b h = triples_short None None is tt tt h.1
triples_short s v (items.Semicolon ∷ is) a b h = triples_short s None is a tt h.1
triples_short s v (items.Comma ∷ is) a b h = triples_short s v is a b h.1

pub as_tokens : (text : List ℕ) (ws : List Word) → Reads text ws → ReadsTokens text ws
as_tokens text ws r = record { short = r.short; utf8 = r.utf8; tokens = r.tokens; are = r.are; words = r.words }

pub query_short : (text : List ℕ) (q : QueryData) → ReadsQuery text q → AllByRecursion IsShortPattern q.patterns
query_short text q r =
    let ws = r.words in
    let bs = body ws in
    let pro = prologue ws in
    let all = total_split (before is_select ws) ws in
    let part = total_split (before is_brace bs) bs in
    let few : total pro + total (block bs) ≤ LONGEST_QUERY = omega (arith, all, part, tokens_short text ws (as_tokens text ws r.reads)) in
    let there = triples_short None None (items_after (prefixes ws) (select_names bs) 0 (block bs)) tt tt (items_short (prefixes ws) (total pro) (prefix_short pro) (select_names bs) 0 (block bs) few) in
    subst (λ (d : QueryData). AllByRecursion IsShortPattern d.patterns) (sym r.is) there
