-- Each term of a query stands for what is written.
use Rattle.std.proofs.Common.{ℕ, suc, arith, append_assoc, map, ◌≡◌, Bool, true, false, not, ◌&&◌, if◌then◌else◌, List, [], ◌∷◌, ◌++◌, codes, Option, Some, None, refl, sym, ap, subst, ◌∙◌, inl, inr}
use Rattle.std.proofs.lemmas.List.{take-append-drop}
use Rattle.std.specs.Option.{unwrap_or, is_some}
use Rattle.std.specs.Str.{bytes_eq, chars}
use Rattle.std.proofs.lemmas.Bool.{not-false, false≢true}
use Rattle.list_laws.proofs.Options.{some_same}
use Rattle.rdf_terms.proofs.Iris.{is_iri_append}
use Rattle.query_words.proofs.Values.{open_value, close_value}
use Rattle.rdf_terms.specs.declared.term.Term.TheVariants as terms
use Rattle.rdf_terms.specs.declared.term.Kind.TheVariants.{Plain, Typed, Tagged}
use Rattle.rdf_terms.specs.Iri.{is_iri}
use Rattle.rdf_terms.specs.Kinds.{typed_kind}
use Rattle.rdf_terms.specs.Datatype.{is_lang_string, xsd_string, lang_string}
use Rattle.rdf_terms.specs.Tag.{is_tag, lower}
use Rattle.bgp_core.specs.Queries.{QueryData}
use Rattle.query_grammar.specs.declared.kind.Kind.{Kind}
use Rattle.query_grammar.specs.declared.kind.Kind.TheVariants as kinds
use Rattle.regular_expressions.specs.Combinators.{◌·◌, ◌∣◌, maybe}
use Rattle.query_grammar.specs.Grammar.{code, codes as letters_of, a, literal, subject}
use Rattle.query_grammar.specs.Grammar as grammar
use Rattle.query_words.specs.declared.word.Value.{Value}
use Rattle.query_words.specs.declared.word.Value.TheVariants as values
use Rattle.query_words.specs.declared.word.Word.{Word}
use Rattle.query_words.specs.Words.{kind_of, kinds_of}
use Rattle.pattern_parser.specs.declared.fault.QueryWhy.{QueryWhy}
use Rattle.pattern_parser.specs.declared.fault.QueryWhy.TheVariants as why
use Rattle.pattern_parser.specs.Prefixes.{or_else, iri_in, first_iri, declares, iri_of, iri_text, is_unknown, is_relative, first_at, is_carets, gives_lang_string, is_lang, lang_at, before}
use Rattle.pattern_parser.specs.Items.{rdf_type, xsd_integer, xsd_decimal, xsd_double, xsd_boolean, iri_term, typed_term, string_before, string_term, part_of, more_of, more_after, more, item_of, items_after}
use Rattle.pattern_parser.specs.Names.{anonymous, name_text, number, with_name}
use Rattle.pattern_parser.specs.declared.item.Item.{Item}
use Rattle.pattern_parser.specs.declared.item.Item.TheVariants as items
use Rattle.bgp_core.specs.declared.pattern.Part.{Part}
use Rattle.bgp_core.specs.declared.pattern.Part.TheVariants as parts
use Rattle.pattern_parser.specs.Queries.{is_select, prologue, body, block, select_names, prefixes, triples_of, excess, fault_or, first_of, term_fault, later_fault, Reads, ReadsQuery}
use Rattle.pattern_parser.specs.Written.{IsIriText, IsIriTerm, IsTermOf, IsPart, IsMark, IsItem, names_with, AreItems, words_in, IsWritten}
use Rattle.definition_laws.proofs.GoodWords.{Good, AllGood, words_good}
use Rattle.pattern_parser.proofs.Nexts.{is_iri_letter, Nexts, keeps_query}
use Rattle.pattern_parser.proofs.Splits.{Is, Are, flat, none, one, marked, leaf, iri_leaf}
use Rattle.pattern_parser.proofs.Blocks.{It, is_one, is_string, kind_more, more_by_kind, Stops, is_mark, marks, mark_read, verb_word}
use Rattle.definition_laws.proofs.WordGroups.{group, is_point, groups_stop, groups_of}
use Rattle.pattern_parser.proofs.Outline.{Outline, outline, body_is, block_is}

-- ---- no fault

none_first : (o later : Option (QueryWhy × ℕ)) → first_of o later ≡ None → o ≡ None
none_first None later e = refl
none_first (Some f) later e = e

none_fault : (o : Option ℕ) (w : QueryWhy) (later : Option (QueryWhy × ℕ)) → fault_or o w later ≡ None → (o ≡ None) × (later ≡ None)
none_fault None w later e = (refl, e)
none_fault (Some at) w later e = absurd (differ e)
  where
    differ : ◌≡◌ {A = Option (QueryWhy × ℕ)} (Some (w, at)) None → ⊥
    differ e = cc

none_if : (b : Bool) (at : ℕ) (o : Option ℕ) → (if b then Some at else o) ≡ None → (b ≡ false) × (o ≡ None)
none_if true at o e = absurd (differ e)
  where
    differ : ◌≡◌ {A = Option ℕ} (Some at) None → ⊥
    differ e = cc
none_if false at o e = (refl, e)

if_false : (b : Bool) (at : ℕ) (o : Option ℕ) → b ≡ false → o ≡ None → (if b then Some at else o) ≡ None
if_false b at o e f = rw (e, f) refl

-- no word of the front and none of the rest passes
none_both : (test : Value → Bool) (xs ys : List Word) → first_at test (xs ++ ys) ≡ None → (first_at test xs ≡ None) × (first_at test ys ≡ None)
none_both test [] ys e = (refl, e)
none_both test (x ∷ xs) ys e =
    let h = none_if (test x.value) x.at (first_at test (xs ++ ys)) e in
    let r = none_both test xs ys h.1 in
    (if_false (test x.value) x.at (first_at test xs) h.0 r.0, r.1)

-- ---- declared prefixes

no_text : (t : List ℕ) → ◌≡◌ {A = Option (List ℕ)} None (Some t) → ⊥
no_text t e = cc

iri_is : (v : Value) (t : List ℕ) → is_relative v ≡ false → iri_in v ≡ Some t → is_iri t ≡ true
iri_is (values.Iri u) t r e =
    let same : u ≡ t = some_same e in
    subst (λ (l : List ℕ). is_iri l ≡ true) same (not-false (is_iri u) r)
iri_is _ t r e = absurd (no_text t e)

first_is : (ws : List Word) (t : List ℕ) → first_at is_relative ws ≡ None → first_iri ws ≡ Some t → is_iri t ≡ true
first_is [] t h e = absurd (no_text t e)
first_is (w ∷ ws) t h e = iri_is w.value t (none_if (is_relative w.value) w.at (first_at is_relative ws) h).0 e

declared_is : (v : Value) (ws : List Word) (n t : List ℕ) → first_at is_relative ws ≡ None → declares v ws n ≡ Some t → is_iri t ≡ true
declared_is (values.Prefix p) ws n t h e = pick (bytes_eq n p) e
  where
    pick : (b : Bool) → (if b then first_iri ws else None) ≡ Some t → is_iri t ≡ true
    pick true e = first_is ws t h e
    pick false e = absurd (no_text t e)
declared_is _ ws n t h e = absurd (no_text t e)

-- the IRI of a declared prefix has a scheme
prefix_is : (ws : List Word) (n t : List ℕ) → first_at is_relative ws ≡ None → iri_of ws n ≡ Some t → is_iri t ≡ true
prefix_is [] n t h e = absurd (no_text t e)
prefix_is (w ∷ ws) n t h e =
    let r = (none_if (is_relative w.value) w.at (first_at is_relative ws) h).1 in
    pick (iri_of ws n) (λ f. prefix_is ws n t r f) (declared_is w.value ws n t r) e
  where
    pick : (o : Option (List ℕ)) → (o ≡ Some t → is_iri t ≡ true) → (declares w.value ws n ≡ Some t → is_iri t ≡ true) → or_else o (declares w.value ws n) ≡ Some t → is_iri t ≡ true
    pick None f g e = g e
    pick (Some u) f g e = f e

-- ---- IRIs

known : (o : Option (List ℕ)) → not (is_some o) ≡ false → o ≡ Some (unwrap_or o [])
known None e = cc
known (Some u) e = refl

abbrev is_iri_kind : Kind → Bool
is_iri_kind kinds.Iri = true
is_iri_kind kinds.Prefix = true
is_iri_kind kinds.Prefixed = true
is_iri_kind _ = false

abbrev is_tag_kind : Kind → Bool
is_tag_kind kinds.Tag = true
is_tag_kind _ = false

abbrev is_carets_kind : Kind → Bool
is_carets_kind kinds.Carets = true
is_carets_kind _ = false

-- each prefix that is known stands for an IRI
abbrev Declares : (List ℕ → Option (List ℕ)) → Type 0
Declares iri = (n t : List ℕ) → iri n ≡ Some t → is_iri t ≡ true

iri_sound : (iri : List ℕ → Option (List ℕ)) → Declares iri → (v : Value) → is_iri_kind (kind_of v) ≡ true → is_relative v ≡ false → is_unknown iri v ≡ false → Good v → IsIriText iri v (iri_text iri v)
iri_sound iri d (values.Iri t) k r u g = record { spells = refl; scheme = not-false (is_iri t) r }
iri_sound iri d (values.Prefix n) k r u g = let s = known (iri n) u in record { spells = s; scheme = d n (unwrap_or (iri n) []) s }
iri_sound iri d (values.Prefixed n l) k r u g =
    let front = unwrap_or (iri n) [] in
    let s = known (iri n) u in
    record { spells = (front, s, refl); scheme = is_iri_append front l (d n front s) g }
iri_sound iri d _ k r u g = absurd (false≢true k)

-- ---- what is fine of some words

record Fine (iri : List ℕ → Option (List ℕ)) (ws : List Word) : Type 0 where
  pub absolute : first_at is_relative ws ≡ None
  pub declared : first_at (is_unknown iri) ws ≡ None
  pub typed : lang_at iri ws ≡ None
  pub good : AllGood ws
  pub nexts : Nexts (letters_of (kinds_of ws))

fine_tail : (iri : List ℕ → Option (List ℕ)) (w : Word) (ws : List Word) → Fine iri (w ∷ ws) → Fine iri ws
fine_tail iri w ws f = record {
  absolute = (none_if (is_relative w.value) w.at (first_at is_relative ws) f.absolute).1;
  declared = (none_if (is_unknown iri w.value) w.at (first_at (is_unknown iri) ws) f.declared).1;
  typed = (none_if (is_lang iri w.value ws) w.at (lang_at iri ws) f.typed).1;
  good = f.good.1;
  nexts = f.nexts.1;
}

fine_rest : (iri : List ℕ → Option (List ℕ)) (front ws : List Word) → Fine iri (front ++ ws) → Fine iri ws
fine_rest iri [] ws f = f
fine_rest iri (w ∷ front) ws f = fine_rest iri front ws (fine_tail iri w (front ++ ws) f)

-- ---- datatypes

-- what follows '^^' is an IRI other than rdf:langString
abbrev TypeComes : (List ℕ → Option (List ℕ)) → List Word → Type 0
TypeComes iri [] = ⊥
TypeComes iri (d ∷ ws) = IsIriText iri d.value (iri_text iri d.value) × (is_lang_string (iri_text iri d.value) ≡ false)

iri_letter : (v : Value) → is_iri_letter (code (kind_of v)) ≡ true → is_iri_kind (kind_of v) ≡ true
iri_letter (values.Iri t) e = refl
iri_letter (values.Prefix n) e = refl
iri_letter (values.Prefixed n l) e = refl
iri_letter _ e = absurd (false≢true e)

type_comes : (iri : List ℕ → Option (List ℕ)) → Declares iri → (c : Word) (ws : List Word) → c.value ≡ values.Carets → gives_lang_string iri (c ∷ ws) ≡ false → Fine iri (c ∷ ws) → TypeComes iri ws
type_comes iri d c [] e l f = f.nexts.0 (ap (λ (v : Value). code (kind_of v)) e)
type_comes iri d c (w ∷ ws) e l f =
    let first : is_iri_letter (code (kind_of w.value)) ≡ true = f.nexts.0 (ap (λ (v : Value). code (kind_of v)) e) in
    let g = fine_tail iri c (w ∷ ws) f in
    let r = (none_if (is_relative w.value) w.at (first_at is_relative ws) g.absolute).0 in
    let u = (none_if (is_unknown iri w.value) w.at (first_at (is_unknown iri) ws) g.declared).0 in
    (iri_sound iri d w.value (iri_letter w.value first) r u g.good.0, ap (λ (v : Value). is_carets v && is_lang_string (iri_text iri w.value)) (sym e) ∙ l)

-- ---- numbers and truth values

integer_is : (form : List ℕ) → typed_term form xsd_integer ≡ terms.Literal form (Typed xsd_integer)
unfolding xsd_integer xsd_string lang_string
integer_is form = refl

decimal_is : (form : List ℕ) → typed_term form xsd_decimal ≡ terms.Literal form (Typed xsd_decimal)
unfolding xsd_decimal xsd_string lang_string
decimal_is form = refl

double_is : (form : List ℕ) → typed_term form xsd_double ≡ terms.Literal form (Typed xsd_double)
unfolding xsd_double xsd_string lang_string
double_is form = refl

boolean_is : (form : List ℕ) → typed_term form xsd_boolean ≡ terms.Literal form (Typed xsd_boolean)
unfolding xsd_boolean xsd_string lang_string
boolean_is form = refl

type_is : iri_term rdf_type ≡ terms.Iri rdf_type
unfolding rdf_type
type_is = refl

-- ---- one item and its words

iri_stands : (iri : List ℕ → Option (List ℕ)) → Declares iri → (v : Value) → is_iri_kind (kind_of v) ≡ true → is_relative v ≡ false → is_unknown iri v ≡ false → Good v → IsIriTerm iri v (iri_term (iri_text iri v))
iri_stands iri d v k r u g =
    let text = iri_text iri v in
    let s = iri_sound iri d v k r u g in
    (text, s, ap (λ (b : Bool). if b then terms.Iri text else terms.Literal text Plain) s.scheme)

-- a token that is a term or a name by itself
one_part : (iri : List ℕ → Option (List ℕ)) → Declares iri → (names : List (List ℕ)) (v : Value) (ws : List Word) → is_one (kind_of v) ≡ true → is_relative v ≡ false → is_unknown iri v ≡ false → Good v → (p : Part) × (part_of iri names v ws ≡ Some p) × (more v ws ≡ 0) × IsPart iri names v [] p
one_part iri d names (values.Iri t) ws e r u g = (parts.Fixed (iri_term t), refl, refl, inr (iri_term t, iri_stands iri d (values.Iri t) refl r u g, refl))
one_part iri d names (values.Prefix n) ws e r u g =
    let t = iri_term (iri_text iri (values.Prefix n)) in
    (parts.Fixed t, refl, refl, inr (t, iri_stands iri d (values.Prefix n) refl r u g, refl))
one_part iri d names (values.Prefixed n l) ws e r u g =
    let t = iri_term (iri_text iri (values.Prefixed n l)) in
    (parts.Fixed t, refl, refl, inr (t, iri_stands iri d (values.Prefixed n l) refl r u g, refl))
one_part iri d names (values.Variable t) ws e r u g = (parts.Name (number names t), refl, refl, inl (record { text = t; alone = refl; written = refl; is = refl }))
one_part iri d names (values.Label t) ws e r u g = (parts.Name (number names t), refl, refl, inl (record { text = t; alone = refl; written = refl; is = refl }))
one_part iri d names values.Anonymous ws e r u g = (parts.Name (number names anonymous), refl, refl, inl (record { text = anonymous; alone = refl; written = refl; is = refl }))
one_part iri d names (values.Integer t) ws e r u g = (parts.Fixed (typed_term t xsd_integer), refl, refl, inr (typed_term t xsd_integer, integer_is t, refl))
one_part iri d names (values.Decimal t) ws e r u g = (parts.Fixed (typed_term t xsd_decimal), refl, refl, inr (typed_term t xsd_decimal, decimal_is t, refl))
one_part iri d names (values.Double t) ws e r u g = (parts.Fixed (typed_term t xsd_double), refl, refl, inr (typed_term t xsd_double, double_is t, refl))
one_part iri d names values.True ws e r u g = (parts.Fixed (typed_term (codes "true") xsd_boolean), refl, refl, inr (typed_term (codes "true") xsd_boolean, boolean_is (codes "true"), refl))
one_part iri d names values.False ws e r u g = (parts.Fixed (typed_term (codes "false") xsd_boolean), refl, refl, inr (typed_term (codes "false") xsd_boolean, boolean_is (codes "false"), refl))
one_part iri d names values.TypeWord ws e r u g = (parts.Fixed (iri_term rdf_type), refl, refl, inr (iri_term rdf_type, type_is, refl))
one_part iri d names _ ws e r u g = absurd (false≢true e)

-- some words before others are one item
abbrev GroupRead : (List ℕ → Option (List ℕ)) → List (List ℕ) → List Word → List Word → Type 0
GroupRead iri names ws rest = (i : Item) × IsItem iri names ws i × (It iri names (ws ++ rest) ≡ i ∷ It iri (names_with names ws) rest)

word_group : (iri : List ℕ → Option (List ℕ)) → Declares iri → (names : List (List ℕ)) (w : Word) (rest : List Word) → is_one (kind_of w.value) ≡ true → Fine iri (w ∷ rest) → GroupRead iri names (w ∷ []) rest
word_group iri d names w rest e f =
    let r = (none_if (is_relative w.value) w.at (first_at is_relative rest) f.absolute).0 in
    let u = (none_if (is_unknown iri w.value) w.at (first_at (is_unknown iri) rest) f.declared).0 in
    let o = one_part iri d names w.value rest e r u f.good.0 in
    let new = with_name names (name_text w.value) in (
      items.Part o.0 w.at,
      inr (o.0, o.3, refl),
      ap (λ (q : Option Part). item_of q w.at w.value ++ items_after iri new (more w.value rest) rest) o.1 ∙ ap (λ (n : ℕ). items.Part o.0 w.at ∷ items_after iri new n rest) o.2,
    )

words_group : (iri : List ℕ → Option (List ℕ)) → Declares iri → (names : List (List ℕ)) (ws rest : List Word) → (w : Word) × (ws ≡ w ∷ []) × (is_one (kind_of w.value) ≡ true) → Fine iri (ws ++ rest) → GroupRead iri names ws rest
words_group iri d names ws rest o f =
    subst (λ (l : List Word). GroupRead iri names l rest) (sym o.1) (word_group iri d names o.0 rest o.2 (subst (λ (l : List Word). Fine iri (l ++ rest)) o.1 f))

mark_is : (v : Value) → is_point (kind_of v) ≡ true → (i : Item) × IsMark v [] i × (marks (kind_of v) ≡ i ∷ []) × (name_text v ≡ None) × (is_mark (kind_of v) ≡ true)
mark_is values.Dot e = (items.Dot, refl, refl, refl, refl)
mark_is values.Semicolon e = (items.Semicolon, refl, refl, refl, refl)
mark_is values.Comma e = (items.Comma, refl, refl, refl, refl)
mark_is _ e = absurd (false≢true e)

mark_group : (iri : List ℕ → Option (List ℕ)) (names : List (List ℕ)) (ws rest : List Word) → (w : Word) × (ws ≡ w ∷ []) × (is_point (kind_of w.value) ≡ true) → GroupRead iri names ws rest
mark_group iri names ws rest o = subst (λ (l : List Word). GroupRead iri names l rest) (sym o.1) (pick o.0 o.2)
  where
    pick : (w : Word) → is_point (kind_of w.value) ≡ true → GroupRead iri names (w ∷ []) rest
    pick w e =
        let m = mark_is w.value e in (
          m.0,
          inl m.1,
          mark_read (kind_of w.value) m.4 iri names w rest refl ∙ ap (λ (l : List Item). l ++ It iri names rest) m.2 ∙ ap (λ (n : Option (List ℕ)). m.0 ∷ It iri (with_name names n) rest) (sym m.3),
        )

-- ---- strings

-- the string's part, with so many words that belong to it
string_group : (iri : List ℕ → Option (List ℕ)) (names : List (List ℕ)) (w : Word) (ws rest : List Word) (n : ℕ) (s : List ℕ) → w.value ≡ values.Str s → more_after (ws ++ rest) ≡ n → ((new : List (List ℕ)) → items_after iri new n (ws ++ rest) ≡ It iri new rest) → IsTermOf iri (values.Str s) ws (string_term iri s (ws ++ rest)) → GroupRead iri names (w ∷ ws) rest
string_group iri names w ws rest n s e m g t =
    let all = ws ++ rest in
    let term = string_term iri s all in
    let new = with_name names (name_text w.value) in
    let part : part_of iri names w.value all ≡ Some (parts.Fixed term) = ap (λ (v : Value). part_of iri names v all) e in
    let count : more w.value all ≡ n = ap (λ (v : Value). more v all) e ∙ m in (
      items.Part (parts.Fixed term) w.at,
      inr (parts.Fixed term, inr (term, subst (λ (v : Value). IsTermOf iri v ws term) (sym e) t, refl), refl),
      ap (λ (q : Option Part). item_of q w.at w.value ++ items_after iri new (more w.value all) all) part ∙ ap (λ (k : ℕ). items.Part (parts.Fixed term) w.at ∷ items_after iri new k all) count ∙ ap (λ (l : List Item). items.Part (parts.Fixed term) w.at ∷ l) (g new),
    )

string_is : (v : Value) → is_string (kind_of v) ≡ true → (s : List ℕ) × (v ≡ values.Str s)
string_is (values.Str s) e = (s, refl)
string_is _ e = absurd (false≢true e)

tag_value : (v : Value) → is_tag_kind (kind_of v) ≡ true → (t : List ℕ) × (v ≡ values.Tag t)
tag_value (values.Tag t) e = (t, refl)
tag_value _ e = absurd (false≢true e)

carets_value : (v : Value) → is_carets_kind (kind_of v) ≡ true → v ≡ values.Carets
carets_value values.Carets e = refl
carets_value _ e = absurd (false≢true e)

no_more : (n : ℕ) → suc n ≡ 0 → ⊥
no_more n e = omega arith

before_alone : (iri : List ℕ → Option (List ℕ)) (s : List ℕ) (v : Value) (ws : List Word) → more_of v ≡ 0 → string_before iri s v ws ≡ terms.Literal s Plain
before_alone iri s (values.Tag t) ws e = absurd (no_more 0 e)
before_alone iri s values.Carets ws e = absurd (no_more 1 e)
before_alone iri s _ ws e = refl

alone_is : (iri : List ℕ → Option (List ℕ)) (s : List ℕ) (rest : List Word) → Stops rest → string_term iri s rest ≡ terms.Literal s Plain
alone_is iri s [] e = refl
alone_is iri s (w ∷ ws) e = before_alone iri s w.value ws e

alone_group : (iri : List ℕ → Option (List ℕ)) (names : List (List ℕ)) (w : Word) (ws rest : List Word) (s : List ℕ) → w.value ≡ values.Str s → ws ≡ [] → Stops rest → GroupRead iri names (w ∷ ws) rest
alone_group iri names w ws rest s e h stops =
    subst (λ (l : List Word). GroupRead iri names (w ∷ l) rest) (sym h) (string_group iri names w [] rest 0 s e stops (λ new. refl) (alone_is iri s rest stops))

tagged_group : (iri : List ℕ → Option (List ℕ)) (names : List (List ℕ)) (w t : Word) (rest : List Word) (s : List ℕ) → w.value ≡ values.Str s → kind_of t.value ≡ kinds.Tag → Good t.value → GroupRead iri names (w ∷ t ∷ []) rest
tagged_group iri names w t rest s e k g =
    let v = tag_value t.value (ap is_tag_kind k) in
    let good : is_tag v.0 ≡ true = subst Good v.1 g in
    let term : string_term iri s (t ∷ rest) ≡ terms.Literal s (Tagged (lower v.0)) = ap (λ (x : Value). string_before iri s x rest) v.1 ∙ ap (λ (b : Bool). if b then terms.Literal s (Tagged (lower v.0)) else terms.Literal s Plain) good in
    string_group iri names w (t ∷ []) rest 1 s e (more_by_kind t.value ∙ ap kind_more k) (λ new. refl) (record { tag = v.0; written = v.1; good = good; is = term })

typed_is : (s d : List ℕ) → is_iri d ≡ true → is_lang_string d ≡ false → typed_term s d ≡ terms.Literal s (typed_kind d)
typed_is s d a b = rw (a, b) refl

typed_group : (iri : List ℕ → Option (List ℕ)) → Declares iri → (names : List (List ℕ)) (w c d : Word) (rest : List Word) (s : List ℕ) → w.value ≡ values.Str s → kind_of c.value ≡ kinds.Carets → Fine iri (w ∷ c ∷ d ∷ rest) → GroupRead iri names (w ∷ c ∷ d ∷ []) rest
typed_group iri h names w c d rest s e k f =
    let v = carets_value c.value (ap is_carets_kind k) in
    let text = iri_text iri d.value in
    let lang : is_lang iri w.value (c ∷ d ∷ rest) ≡ false = (none_if (is_lang iri w.value (c ∷ d ∷ rest)) w.at (lang_at iri (c ∷ d ∷ rest)) f.typed).0 in
    let gives : gives_lang_string iri (c ∷ d ∷ rest) ≡ false = ap (λ (x : Value). is_lang iri x (c ∷ d ∷ rest)) (sym e) ∙ lang in
    let comes = type_comes iri h c (d ∷ rest) v gives (fine_tail iri w (c ∷ d ∷ rest) f) in
    let term : string_term iri s (c ∷ d ∷ rest) ≡ terms.Literal s (typed_kind text) = ap (λ (x : Value). string_before iri s x (d ∷ rest)) v ∙ typed_is s text comes.0.scheme comes.1 in
    string_group iri names w (c ∷ d ∷ []) rest 2 s e (more_by_kind c.value ∙ ap kind_more k) (λ new. refl) (record { carets = v; text = text; datatype = comes.0; other = comes.1; is = term })

string_read : (iri : List ℕ → Option (List ℕ)) → Declares iri → (names : List (List ℕ)) (ws rest : List Word) → Is (a kinds.Str · maybe (a kinds.Tag ∣ a kinds.Carets · grammar.iri)) ws → Stops rest → Fine iri (ws ++ rest) → GroupRead iri names ws rest
string_read iri d names ws rest m stops f =
    let c = marked kinds.Str (maybe (a kinds.Tag ∣ a kinds.Carets · grammar.iri)) ws m in
    let s = string_is c.0.value (ap is_string c.3) in
    subst (λ (l : List Word). GroupRead iri names l rest) (sym c.2) (pick c.0 c.1 s.0 s.1 c.4 (subst (λ (l : List Word). Fine iri (l ++ rest)) c.2 f))
  where
    pick : (w : Word) (ys : List Word) (s : List ℕ) → w.value ≡ values.Str s → Is (maybe (a kinds.Tag ∣ a kinds.Carets · grammar.iri)) ys → Fine iri (w ∷ (ys ++ rest)) → GroupRead iri names (w ∷ ys) rest
    pick w ys s e (inl (inl m)) f =
        let t = one kinds.Tag ys m in
        let g = subst (λ (l : List Word). Fine iri (w ∷ (l ++ rest))) t.1 f in
        subst (λ (l : List Word). GroupRead iri names (w ∷ l) rest) (sym t.1) (tagged_group iri names w t.0 rest s e t.2 g.good.1.0)
    pick w ys s e (inl (inr m)) f =
        let c = marked kinds.Carets grammar.iri ys m in
        let i = iri_leaf is_one refl refl refl c.1 c.4 in
        let both : ys ≡ c.0 ∷ i.0 ∷ [] = c.2 ∙ ap (λ (l : List Word). c.0 ∷ l) i.1 in
        let g = subst (λ (l : List Word). Fine iri (w ∷ (l ++ rest))) both f in
        subst (λ (l : List Word). GroupRead iri names (w ∷ l) rest) (sym both) (typed_group iri d names w c.0 i.0 rest s e c.3 g)
    pick w ys s e (inr m) f = alone_group iri names w ys rest s e (none ys m) stops

-- ---- all items

literal_read : (iri : List ℕ → Option (List ℕ)) → Declares iri → (names : List (List ℕ)) (ws rest : List Word) → Is literal ws → Stops rest → Fine iri (ws ++ rest) → GroupRead iri names ws rest
literal_read iri d names ws rest (inl (inl (inl m))) s f = string_read iri d names ws rest m s f
literal_read iri d names ws rest (inl (inl (inr m))) s f = words_group iri d names ws rest (leaf is_one kinds.Number refl ws m) f
literal_read iri d names ws rest (inl (inr m)) s f = words_group iri d names ws rest (leaf is_one kinds.TrueWord refl ws m) f
literal_read iri d names ws rest (inr m) s f = words_group iri d names ws rest (leaf is_one kinds.FalseWord refl ws m) f

subject_read : (iri : List ℕ → Option (List ℕ)) → Declares iri → (names : List (List ℕ)) (ws rest : List Word) → Is subject ws → Stops rest → Fine iri (ws ++ rest) → GroupRead iri names ws rest
subject_read iri d names ws rest (inl (inl (inl (inl m)))) s f = words_group iri d names ws rest (leaf is_one kinds.Variable refl ws m) f
subject_read iri d names ws rest (inl (inl (inl (inr m)))) s f = words_group iri d names ws rest (iri_leaf is_one refl refl refl ws m) f
subject_read iri d names ws rest (inl (inl (inr m))) s f = literal_read iri d names ws rest m s f
subject_read iri d names ws rest (inl (inr m)) s f = words_group iri d names ws rest (leaf is_one kinds.Blank refl ws m) f
subject_read iri d names ws rest (inr m) s f = words_group iri d names ws rest (leaf is_one kinds.Anonymous refl ws m) f

group_read : (iri : List ℕ → Option (List ℕ)) → Declares iri → (names : List (List ℕ)) (ws rest : List Word) → Is group ws → Stops rest → Fine iri (ws ++ rest) → GroupRead iri names ws rest
group_read iri d names ws rest (inl (inl (inl (inl m)))) s f = subject_read iri d names ws rest m s f
group_read iri d names ws rest (inl (inl (inl (inr m)))) s f = words_group iri d names ws rest (verb_word ws m) f
group_read iri d names ws rest (inl (inl (inr m))) s f = mark_group iri names ws rest (leaf is_point kinds.Dot refl ws m)
group_read iri d names ws rest (inl (inr m)) s f = mark_group iri names ws rest (leaf is_point kinds.Semicolon refl ws m)
group_read iri d names ws rest (inr m) s f = mark_group iri names ws rest (leaf is_point kinds.Comma refl ws m)

-- what the items of groups before the closing brace are
abbrev Walked : (List ℕ → Option (List ℕ)) → List (List ℕ) → List (List Word) → Word → Type 0
Walked iri names xs close = (gs : List (List Word × Item)) × (words_in gs ≡ flat xs) × AreItems iri names gs × (It iri names (flat xs ++ close ∷ []) ≡ map (λ g. g.1) gs)

walk : (iri : List ℕ → Option (List ℕ)) → Declares iri → (names : List (List ℕ)) (xs : List (List Word)) → Are group xs → (close : Word) → kind_of close.value ≡ kinds.CloseBrace → Fine iri (flat xs ++ close ∷ []) → Walked iri names xs close
walk iri d names [] h close k f = ([], refl, tt, mark_read kinds.CloseBrace refl iri names close [] k)
walk iri d names (x ∷ xs) h close k f =
    let rest = flat xs ++ close ∷ [] in
    let split : (x ++ flat xs) ++ close ∷ [] ≡ x ++ rest = append_assoc x (flat xs) (close ∷ []) in
    let g : Fine iri (x ++ rest) = subst (λ (l : List Word). Fine iri l) split f in
    let i = group_read iri d names x rest h.0 (groups_stop xs h.1 close k) g in
    let r = walk iri d (names_with names x) xs h.1 close k (fine_rest iri x rest g) in (
      (x, i.0) ∷ r.0,
      ap (λ (l : List Word). x ++ l) r.1,
      (i.1, r.2),
      ap (It iri names) split ∙ i.2 ∙ ap (λ (l : List Item). i.0 ∷ l) r.3,
    )

-- ---- a text that is read

good_rest : (front ws : List Word) → AllGood (front ++ ws) → AllGood ws
good_rest [] ws g = g
good_rest (w ∷ front) ws g = good_rest front ws g.1

nexts_rest : (front ws : List Word) → Nexts (letters_of (kinds_of (front ++ ws))) → Nexts (letters_of (kinds_of ws))
nexts_rest [] ws n = n
nexts_rest (w ∷ front) ws n = nexts_rest front ws n.1

-- the words before SELECT and those from it on
halves : (ws : List Word) → ws ≡ prologue ws ++ body ws
halves ws = sym (take-append-drop (before is_select ws) ws)

fine_body : (text : List ℕ) (ws : List Word) → Reads text ws → later_fault ws ≡ None → Fine (prefixes ws) (body ws) × Declares (prefixes ws)
fine_body text ws r n =
    let iri = prefixes ws in
    let bs = body ws in
    let none = none_first (term_fault iri ws bs) (fault_or (excess (triples_of iri bs)) why.TooManyPatterns None) n in
    let x = none_fault (first_at (is_unknown iri) bs) why.UnknownPrefix (fault_or (first_at is_relative ws) why.RelativeIri (fault_or (lang_at iri bs) why.LangString None)) none in
    let y = none_fault (first_at is_relative ws) why.RelativeIri (fault_or (lang_at iri bs) why.LangString None) x.1 in
    let z = none_fault (lang_at iri bs) why.LangString None y.1 in
    let absolute = none_both is_relative (prologue ws) bs (subst (λ (l : List Word). first_at is_relative l ≡ None) (halves ws) y.0) in
    let good : AllGood ws = subst AllGood (sym r.words) (words_good (chars text) r.tokens r.are) in (
      record {
        absolute = absolute.1;
        declared = x.0;
        typed = z.0;
        good = good_rest (prologue ws) bs (subst AllGood (halves ws) good);
        nexts = nexts_rest (prologue ws) bs (subst (λ (l : List Word). Nexts (letters_of (kinds_of l))) (halves ws) (keeps_query (letters_of (kinds_of ws)) r.query));
      },
      λ m t e. prefix_is (prologue ws) m t absolute.0 e,
    )

written_in : (iri : List ℕ → Option (List ℕ)) → Declares iri → (names : List (List ℕ)) (ws : List Word) (l : Outline ws) → Fine iri (body ws) → IsWritten iri names (block (body ws)) (It iri names (block (body ws)))
written_in iri d names ws l f =
    let inner = l.inner ++ l.close ∷ [] in
    let xs = groups_of l.inner l.inner_is in
    let g = subst (λ (b : List Word). Fine iri b) (body_is ws l) f in
    let here : Fine iri inner = fine_tail iri l.brace inner (fine_rest iri l.names (l.brace ∷ inner) (fine_tail iri l.select (l.names ++ l.brace ∷ inner) g)) in
    let there : inner ≡ flat xs.0 ++ l.close ∷ [] = ap (λ (b : List Word). b ++ l.close ∷ []) xs.2 in
    let w = walk iri d names xs.0 xs.1 l.close l.close_is (subst (λ (b : List Word). Fine iri b) there here) in
    record {
      open_brace = l.brace;
      close_brace = l.close;
      groups = w.0;
      opens = open_value l.brace.value l.brace_is;
      closes = close_value l.close.value l.close_is;
      words = block_is ws l ∙ ap (λ (b : List Word). l.brace ∷ b) (there ∙ ap (λ (b : List Word). b ++ l.close ∷ []) (sym w.1));
      items_are = ap (It iri names) (block_is ws l) ∙ mark_read kinds.OpenBrace refl iri names l.brace inner l.brace_is ∙ ap (It iri names) there ∙ w.3;
      each = w.2;
    }

-- each item of a query is what its words say
pub written : (text : List ℕ) (q : QueryData) (r : ReadsQuery text q) → IsWritten (prefixes r.words) (select_names (body r.words)) (block (body r.words)) (It (prefixes r.words) (select_names (body r.words)) (block (body r.words)))
written text q r =
    let f = fine_body text r.words r.reads r.fine in
    written_in (prefixes r.words) f.1 (select_names (body r.words)) r.words (outline r.words r.reads.query) f.0
