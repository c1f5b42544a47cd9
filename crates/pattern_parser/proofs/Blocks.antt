-- The items of words that the grammar reads as a block are a block of the productions.
use Rattle.std.proofs.Common.{ℕ, ◌≡◌, inl, inr, Bool, true, false, if◌then◌else◌, List, [], ◌∷◌, ◌++◌, Option, Some, None, refl, sym, ap, subst, ◌∙◌, append_assoc, codes}
use Rattle.std.proofs.lemmas.Bool.{false≢true}
use Rattle.std.proofs.lemmas.List.{append-nil}
use Rattle.regular_expressions.specs.Regular.{Regular, many}
use Rattle.query_grammar.specs.declared.kind.Kind.{Kind}
use Rattle.query_grammar.specs.declared.kind.Kind.TheVariants as kinds
use Rattle.regular_expressions.specs.Combinators.{◌·◌, ◌∣◌, maybe}
use Rattle.query_grammar.specs.Grammar.{a, iri, literal, subject, verb, object, verb_objects, list, same, block}
use Rattle.bgp_core.specs.declared.pattern.Part.{Part}
use Rattle.bgp_core.specs.declared.pattern.Part.TheVariants as parts
use Rattle.query_words.specs.declared.word.Value.{Value}
use Rattle.query_words.specs.declared.word.Value.TheVariants as values
use Rattle.query_words.specs.declared.word.Word.{Word}
use Rattle.query_words.specs.Words.{kind_of}
use Rattle.pattern_parser.specs.declared.item.Item.{Item}
use Rattle.pattern_parser.specs.declared.item.Item.TheVariants as items
use Rattle.pattern_parser.specs.Names.{anonymous, number, name_text, with_name}
use Rattle.pattern_parser.specs.Prefixes.{iri_text}
use Rattle.pattern_parser.specs.Items.{rdf_type, xsd_integer, xsd_decimal, xsd_double, xsd_boolean, iri_term, typed_term, string_term, part_of, more_of, more_after, more, item_of, items_after}
use Rattle.pattern_parser.specs.Triples.{Placed, placed}
use Rattle.pattern_parser.specs.Productions.{Objects, VerbObjects, MaybeVerbObjects, Each, after_marks, triples_of, Same, Block, Body}
use Rattle.pattern_parser.proofs.Splits.{Is, Are, flat, seq_split, none, many_split, one, marked, leaf, iri_leaf}

-- the items of some words after names
abbrev pub It : (List ℕ → Option (List ℕ)) → List (List ℕ) → List Word → List Item
It f names ws = items_after f names 0 ws

-- ---- what a word's kind says of its items

-- the kinds of the words that are a term or a name by themselves
abbrev pub is_one : Kind → Bool
is_one kinds.Iri = true
is_one kinds.Prefix = true
is_one kinds.Prefixed = true
is_one kinds.Variable = true
is_one kinds.Blank = true
is_one kinds.Anonymous = true
is_one kinds.Number = true
is_one kinds.TrueWord = true
is_one kinds.FalseWord = true
is_one kinds.TypeWord = true
is_one _ = false

one_value : (f : List ℕ → Option (List ℕ)) (names : List (List ℕ)) (v : Value) (ws : List Word) → is_one (kind_of v) ≡ true → (p : Part) × (part_of f names v ws ≡ Some p) × (more v ws ≡ 0)
one_value f names (values.Iri t) ws e = (parts.Fixed (iri_term t), refl, refl)
one_value f names (values.Prefix n) ws e = (parts.Fixed (iri_term (iri_text f (values.Prefix n))), refl, refl)
one_value f names (values.Prefixed n l) ws e = (parts.Fixed (iri_term (iri_text f (values.Prefixed n l))), refl, refl)
one_value f names (values.Variable t) ws e = (parts.Name (number names t), refl, refl)
one_value f names (values.Label t) ws e = (parts.Name (number names t), refl, refl)
one_value f names values.Anonymous ws e = (parts.Name (number names anonymous), refl, refl)
one_value f names (values.Integer t) ws e = (parts.Fixed (typed_term t xsd_integer), refl, refl)
one_value f names (values.Decimal t) ws e = (parts.Fixed (typed_term t xsd_decimal), refl, refl)
one_value f names (values.Double t) ws e = (parts.Fixed (typed_term t xsd_double), refl, refl)
one_value f names values.True ws e = (parts.Fixed (typed_term (codes "true") xsd_boolean), refl, refl)
one_value f names values.False ws e = (parts.Fixed (typed_term (codes "false") xsd_boolean), refl, refl)
one_value f names values.TypeWord ws e = (parts.Fixed (iri_term rdf_type), refl, refl)
one_value f names _ ws e = absurd (false≢true e)

abbrev pub is_string : Kind → Bool
is_string kinds.Str = true
is_string _ = false

string_value : (f : List ℕ → Option (List ℕ)) (names : List (List ℕ)) (v : Value) (ws : List Word) → is_string (kind_of v) ≡ true → (p : Part) × (part_of f names v ws ≡ Some p) × (more v ws ≡ more_after ws)
string_value f names (values.Str s) ws e = (parts.Fixed (string_term f s ws), refl, refl)
string_value f names _ ws e = absurd (false≢true e)

-- how many words after a string a kind says to belong to it
abbrev pub kind_more : Kind → ℕ
kind_more kinds.Tag = 1
kind_more kinds.Carets = 2
kind_more _ = 0

pub more_by_kind : (v : Value) → more_of v ≡ kind_more (kind_of v)
more_by_kind (values.Tag t) = refl
more_by_kind values.Carets = refl
more_by_kind _ = refl

-- no tag and no '^^' comes first
abbrev pub Stops : List Word → Type 0
Stops ws = more_after ws ≡ 0

pub stops_at : (k : Kind) → kind_more k ≡ 0 → (w : Word) (ws : List Word) → kind_of w.value ≡ k → Stops (w ∷ ws)
stops_at k t w ws e = more_by_kind w.value ∙ ap kind_more e ∙ t

pub one_stays : (k : Kind) → is_one k ≡ true → kind_more k ≡ 0
one_stays kinds.Tag e = absurd (false≢true e)
one_stays kinds.Carets e = absurd (false≢true e)
one_stays _ e = refl

-- the kinds of the marks, and their items
abbrev pub is_mark : Kind → Bool
is_mark kinds.OpenBrace = true
is_mark kinds.CloseBrace = true
is_mark kinds.Dot = true
is_mark kinds.Semicolon = true
is_mark kinds.Comma = true
is_mark _ = false

abbrev pub marks : Kind → List Item
marks kinds.Dot = items.Dot ∷ []
marks kinds.Semicolon = items.Semicolon ∷ []
marks kinds.Comma = items.Comma ∷ []
marks _ = []

mark_step : (f : List ℕ → Option (List ℕ)) (names : List (List ℕ)) (at : ℕ) (v : Value) (ws : List Word) → is_mark (kind_of v) ≡ true → item_of (part_of f names v ws) at v ++ items_after f (with_name names (name_text v)) (more v ws) ws ≡ marks (kind_of v) ++ It f names ws
mark_step f names at values.OpenBrace ws e = refl
mark_step f names at values.CloseBrace ws e = refl
mark_step f names at values.Dot ws e = refl
mark_step f names at values.Semicolon ws e = refl
mark_step f names at values.Comma ws e = refl
mark_step f names at _ ws e = absurd (false≢true e)

pub mark_read : (k : Kind) → is_mark k ≡ true → (f : List ℕ → Option (List ℕ)) (names : List (List ℕ)) (w : Word) (ws : List Word) → kind_of w.value ≡ k → It f names (w ∷ ws) ≡ marks k ++ It f names ws
mark_read k t f names w ws e =
    mark_step f names w.at w.value ws (ap is_mark e ∙ t) ∙ ap (λ (j : Kind). marks j ++ It f names ws) e

-- ---- terms and names

-- the words give one term or name, before others
abbrev ReadsOne : (List ℕ → Option (List ℕ)) → List (List ℕ) → List Word → List Word → Type 0
ReadsOne f names xs rest = (p : Part) × (at : ℕ) × (new : List (List ℕ)) × (It f names (xs ++ rest) ≡ items.Part p at ∷ It f new rest)

take_one : (f : List ℕ → Option (List ℕ)) (names : List (List ℕ)) (w : Word) (rest : List Word) → is_one (kind_of w.value) ≡ true → ReadsOne f names (w ∷ []) rest
take_one f names w rest e =
    let o = one_value f names w.value rest e in
    let new = with_name names (name_text w.value) in
    (o.0, w.at, new, ap (λ (q : Option Part). item_of q w.at w.value ++ items_after f new (more w.value rest) rest) o.1 ∙ ap (λ (n : ℕ). items.Part o.0 w.at ∷ items_after f new n rest) o.2)

-- a string, of which so many words are told to follow
take_string : (f : List ℕ → Option (List ℕ)) (names : List (List ℕ)) (w : Word) (ws rest : List Word) (n : ℕ) → kind_of w.value ≡ kinds.Str → more_after (ws ++ rest) ≡ n → ((new : List (List ℕ)) → items_after f new n (ws ++ rest) ≡ It f new rest) → ReadsOne f names (w ∷ ws) rest
take_string f names w ws rest n e m g =
    let o = string_value f names w.value (ws ++ rest) (ap is_string e) in
    let new = with_name names (name_text w.value) in
    (o.0, w.at, new, ap (λ (q : Option Part). item_of q w.at w.value ++ items_after f new (more w.value (ws ++ rest)) (ws ++ rest)) o.1 ∙ ap (λ (k : ℕ). items.Part o.0 w.at ∷ items_after f new k (ws ++ rest)) (o.2 ∙ m) ∙ ap (λ (l : List Item). items.Part o.0 w.at ∷ l) (g new))

string_alone : (f : List ℕ → Option (List ℕ)) (names : List (List ℕ)) (w : Word) (xs rest : List Word) → kind_of w.value ≡ kinds.Str → xs ≡ [] → Stops rest → ReadsOne f names (w ∷ xs) rest
string_alone f names w xs rest e g s =
    subst (λ (l : List Word). ReadsOne f names (w ∷ l) rest) (sym g) (take_string f names w [] rest 0 e s (λ new. refl))

string_tagged : (f : List ℕ → Option (List ℕ)) (names : List (List ℕ)) (w : Word) (xs rest : List Word) → kind_of w.value ≡ kinds.Str → Is (a kinds.Tag) xs → ReadsOne f names (w ∷ xs) rest
string_tagged f names w xs rest e m =
    let t = one kinds.Tag xs m in
    subst (λ (l : List Word). ReadsOne f names (w ∷ l) rest) (sym t.1) (take_string f names w (t.0 ∷ []) rest 1 e (more_by_kind t.0.value ∙ ap kind_more t.2) (λ new. refl))

string_typed : (f : List ℕ → Option (List ℕ)) (names : List (List ℕ)) (w : Word) (xs rest : List Word) → kind_of w.value ≡ kinds.Str → Is (a kinds.Carets · iri) xs → ReadsOne f names (w ∷ xs) rest
string_typed f names w xs rest e m =
    let c = marked kinds.Carets iri xs m in
    let d = iri_leaf is_one refl refl refl c.1 c.4 in
    let both : xs ≡ c.0 ∷ d.0 ∷ [] = c.2 ∙ ap (λ (l : List Word). c.0 ∷ l) d.1 in
    subst (λ (l : List Word). ReadsOne f names (w ∷ l) rest) (sym both) (take_string f names w (c.0 ∷ d.0 ∷ []) rest 2 e (more_by_kind c.0.value ∙ ap kind_more c.3) (λ new. refl))

string_read : (f : List ℕ → Option (List ℕ)) (names : List (List ℕ)) (xs rest : List Word) → Is (a kinds.Str · maybe (a kinds.Tag ∣ a kinds.Carets · iri)) xs → Stops rest → ReadsOne f names xs rest
string_read f names xs rest m s =
    let c = marked kinds.Str (maybe (a kinds.Tag ∣ a kinds.Carets · iri)) xs m in
    subst (λ (l : List Word). ReadsOne f names l rest) (sym c.2) (pick c.0 c.1 c.3 c.4)
  where
    pick : (w : Word) (ys : List Word) → kind_of w.value ≡ kinds.Str → Is (maybe (a kinds.Tag ∣ a kinds.Carets · iri)) ys → ReadsOne f names (w ∷ ys) rest
    pick w ys e (inl (inl m)) = string_tagged f names w ys rest e m
    pick w ys e (inl (inr m)) = string_typed f names w ys rest e m
    pick w ys e (inr m) = string_alone f names w ys rest e (none ys m) s

word_read : (f : List ℕ → Option (List ℕ)) (names : List (List ℕ)) (xs rest : List Word) → (w : Word) × (xs ≡ w ∷ []) × (is_one (kind_of w.value) ≡ true) → ReadsOne f names xs rest
word_read f names xs rest o = subst (λ (l : List Word). ReadsOne f names l rest) (sym o.1) (take_one f names o.0 rest o.2)

literal_read : (f : List ℕ → Option (List ℕ)) (names : List (List ℕ)) (xs rest : List Word) → Is literal xs → Stops rest → ReadsOne f names xs rest
literal_read f names xs rest (inl (inl (inl m))) s = string_read f names xs rest m s
literal_read f names xs rest (inl (inl (inr m))) s = word_read f names xs rest (leaf is_one kinds.Number refl xs m)
literal_read f names xs rest (inl (inr m)) s = word_read f names xs rest (leaf is_one kinds.TrueWord refl xs m)
literal_read f names xs rest (inr m) s = word_read f names xs rest (leaf is_one kinds.FalseWord refl xs m)

subject_read : (f : List ℕ → Option (List ℕ)) (names : List (List ℕ)) (xs rest : List Word) → Is subject xs → Stops rest → ReadsOne f names xs rest
subject_read f names xs rest (inl (inl (inl (inl m)))) s = word_read f names xs rest (leaf is_one kinds.Variable refl xs m)
subject_read f names xs rest (inl (inl (inl (inr m)))) s = word_read f names xs rest (iri_leaf is_one refl refl refl xs m)
subject_read f names xs rest (inl (inl (inr m))) s = literal_read f names xs rest m s
subject_read f names xs rest (inl (inr m)) s = word_read f names xs rest (leaf is_one kinds.Blank refl xs m)
subject_read f names xs rest (inr m) s = word_read f names xs rest (leaf is_one kinds.Anonymous refl xs m)

pub verb_word : (xs : List Word) → Is verb xs → (w : Word) × (xs ≡ w ∷ []) × (is_one (kind_of w.value) ≡ true)
verb_word xs (inl (inl m)) = leaf is_one kinds.Variable refl xs m
verb_word xs (inl (inr m)) = iri_leaf is_one refl refl refl xs m
verb_word xs (inr m) = leaf is_one kinds.TypeWord refl xs m

-- ---- what follows a term

marks_stop : (k : Kind) (r : Regular) → kind_more k ≡ 0 → (xs : List (List Word)) → Are (a k · r) xs → (rest : List Word) → Stops rest → Stops (flat xs ++ rest)
marks_stop k r t [] h rest s = s
marks_stop k r t (x ∷ xs) h rest s =
    let m = marked k r x h.0 in
    subst (λ (l : List Word). Stops ((l ++ flat xs) ++ rest)) (sym m.2) (stops_at k t m.0 ((m.1 ++ flat xs) ++ rest) m.3)

verb_stops : (xs rest : List Word) → Is verb_objects xs → Stops (xs ++ rest)
verb_stops xs rest m =
    let d = seq_split verb (object · many (a kinds.Comma · object)) xs m in
    let v = verb_word d.0 d.2 in
    let there : xs ≡ v.0 ∷ d.1 = d.4 ∙ ap (λ (l : List Word). l ++ d.1) v.1 in
    subst (λ (l : List Word). Stops (l ++ rest)) (sym there) (stops_at (kind_of v.0.value) (one_stays (kind_of v.0.value) v.2) v.0 (d.1 ++ rest) refl)

-- the items of a mark and the words after it, as one of several
marked_items : (k : Kind) → is_mark k ≡ true → (f : List ℕ → Option (List ℕ)) (names : List (List ℕ)) (x : List Word) (w : Word) (ys others rest : List Word) → x ≡ w ∷ ys → kind_of w.value ≡ k → It f names ((x ++ others) ++ rest) ≡ marks k ++ It f names (ys ++ (others ++ rest))
marked_items k t f names x w ys others rest e h =
    ap (λ (l : List Word). It f names ((l ++ others) ++ rest)) e ∙ mark_read k t f names w ((ys ++ others) ++ rest) h ∙ ap (λ (l : List Word). marks k ++ It f names l) (append_assoc ys others rest)

-- ---- objects

abbrev ReadsObjects : (List ℕ → Option (List ℕ)) → List (List ℕ) → Part → ℕ → List Word → List Word → Type 0
ReadsObjects f names p at ws rest = (is : List Item) × (new : List (List ℕ)) × ((s v : Part) → (ts : List Placed) × Objects s v (items.Part p at ∷ is) ts) × (It f names (ws ++ rest) ≡ is ++ It f new rest)

objects_more : (f : List ℕ → Option (List ℕ)) (names : List (List ℕ)) (p : Part) (at : ℕ) (xs : List (List Word)) → Are (a kinds.Comma · object) xs → (rest : List Word) → Stops rest → ReadsObjects f names p at (flat xs) rest
objects_more f names p at [] h rest s = ([], names, λ u v. (placed u v p at ∷ [], refl), refl)
objects_more f names p at (x ∷ xs) h rest s =
    let c = marked kinds.Comma object x h.0 in
    let o = subject_read f names c.1 (flat xs ++ rest) c.4 (marks_stop kinds.Comma object refl xs h.1 rest s) in
    let m = objects_more f o.2 o.0 o.1 xs h.1 rest s in (
      items.Comma ∷ items.Part o.0 o.1 ∷ m.0,
      m.1,
      λ u v. let r = m.2 u v in (placed u v p at ∷ r.0, (r.0, r.1, refl)),
      marked_items kinds.Comma refl f names x c.0 c.1 (flat xs) rest c.2 c.3 ∙ ap (λ (l : List Item). items.Comma ∷ l) (o.3 ∙ ap (λ (l : List Item). items.Part o.0 o.1 ∷ l) m.3),
    )

-- ---- verbs with their objects

abbrev ReadsVerb : (List ℕ → Option (List ℕ)) → List (List ℕ) → List Word → List Word → Type 0
ReadsVerb f names ws rest = (is : List Item) × (new : List (List ℕ)) × ((s : Part) → (ts : List Placed) × VerbObjects s is ts) × (It f names (ws ++ rest) ≡ is ++ It f new rest)

objects_read : (f : List ℕ → Option (List ℕ)) (names : List (List ℕ)) (ws rest : List Word) → Is (object · many (a kinds.Comma · object)) ws → Stops rest → (is : List Item) × (new : List (List ℕ)) × ((s v : Part) → (ts : List Placed) × Objects s v is ts) × (It f names (ws ++ rest) ≡ is ++ It f new rest)
objects_read f names ws rest m s =
    let d = seq_split object (many (a kinds.Comma · object)) ws m in
    let l = many_split (a kinds.Comma · object) d.1 d.3 in
    let o = subject_read f names d.0 (flat l.0 ++ rest) d.2 (marks_stop kinds.Comma object refl l.0 l.1 rest s) in
    let more = objects_more f o.2 o.0 o.1 l.0 l.1 rest s in
    let all : ws ≡ d.0 ++ flat l.0 = d.4 ∙ ap (λ (y : List Word). d.0 ++ y) l.2 in (
      items.Part o.0 o.1 ∷ more.0,
      more.1,
      more.2,
      ap (λ (y : List Word). It f names (y ++ rest)) all ∙ ap (It f names) (append_assoc d.0 (flat l.0) rest) ∙ o.3 ∙ ap (λ (y : List Item). items.Part o.0 o.1 ∷ y) more.3,
    )

verb_read : (f : List ℕ → Option (List ℕ)) (names : List (List ℕ)) (ws rest : List Word) → Is verb_objects ws → Stops rest → ReadsVerb f names ws rest
verb_read f names ws rest m s =
    let d = seq_split verb (object · many (a kinds.Comma · object)) ws m in
    let o = word_read f names d.0 (d.1 ++ rest) (verb_word d.0 d.2) in
    let b = objects_read f o.2 d.1 rest d.3 s in (
      items.Part o.0 o.1 ∷ b.0,
      b.1,
      λ u. let r = b.2 u o.0 in (r.0, (o.0, o.1, b.0, refl, r.1)),
      ap (λ (y : List Word). It f names (y ++ rest)) d.4 ∙ ap (It f names) (append_assoc d.0 d.1 rest) ∙ o.3 ∙ ap (λ (y : List Item). items.Part o.0 o.1 ∷ y) b.3,
    )

abbrev ReadsMaybe : (List ℕ → Option (List ℕ)) → List (List ℕ) → List Word → List Word → Type 0
ReadsMaybe f names ws rest = (is : List Item) × (new : List (List ℕ)) × ((s : Part) → (ts : List Placed) × MaybeVerbObjects s is ts) × (It f names (ws ++ rest) ≡ is ++ It f new rest)

maybe_read : (f : List ℕ → Option (List ℕ)) (names : List (List ℕ)) (ws rest : List Word) → Is (maybe verb_objects) ws → Stops rest → ReadsMaybe f names ws rest
maybe_read f names ws rest (inl m) s =
    let v = verb_read f names ws rest m s in
    (v.0, v.1, λ u. let r = v.2 u in (r.0, inr r.1), v.3)
maybe_read f names ws rest (inr m) s =
    ([], names, λ u. ([], inl (refl, refl)), ap (λ (y : List Word). It f names (y ++ rest)) (none ws m))

abbrev ReadsMore : (List ℕ → Option (List ℕ)) → List (List ℕ) → List Word → List Word → Type 0
ReadsMore f names ws rest = (is : List Item) × (new : List (List ℕ)) × ((s : Part) → (ps : List (List Item × List Placed)) × Each (MaybeVerbObjects s) ps × (is ≡ after_marks items.Semicolon ps)) × (It f names (ws ++ rest) ≡ is ++ It f new rest)

more_read : (f : List ℕ → Option (List ℕ)) (names : List (List ℕ)) (xs : List (List Word)) → Are (a kinds.Semicolon · maybe verb_objects) xs → (rest : List Word) → Stops rest → ReadsMore f names (flat xs) rest
more_read f names [] h rest s = ([], names, λ u. ([], tt, refl), refl)
more_read f names (x ∷ xs) h rest s =
    let c = marked kinds.Semicolon (maybe verb_objects) x h.0 in
    let v = maybe_read f names c.1 (flat xs ++ rest) c.4 (marks_stop kinds.Semicolon (maybe verb_objects) refl xs h.1 rest s) in
    let m = more_read f v.1 xs h.1 rest s in (
      items.Semicolon ∷ (v.0 ++ m.0),
      m.1,
      λ u. let q = v.2 u in let r = m.2 u in ((v.0, q.0) ∷ r.0, (q.1, r.1), ap (λ (y : List Item). items.Semicolon ∷ (v.0 ++ y)) r.2),
      marked_items kinds.Semicolon refl f names x c.0 c.1 (flat xs) rest c.2 c.3 ∙ ap (λ (y : List Item). items.Semicolon ∷ y) (v.3 ∙ ap (λ (y : List Item). v.0 ++ y) m.3 ∙ sym (append_assoc v.0 m.0 (It f m.1 rest))),
    )

-- ---- a subject with all that is said of it

abbrev ReadsSame : (List ℕ → Option (List ℕ)) → List (List ℕ) → List Word → List Word → Type 0
ReadsSame f names ws rest = (is : List Item) × (ts : List Placed) × (new : List (List ℕ)) × Same is ts × (It f names (ws ++ rest) ≡ is ++ It f new rest)

same_read : (f : List ℕ → Option (List ℕ)) (names : List (List ℕ)) (ws rest : List Word) → Is same ws → Stops rest → ReadsSame f names ws rest
same_read f names ws rest m s =
    let d = seq_split subject list ws m in
    let e = seq_split verb_objects (many (a kinds.Semicolon · maybe verb_objects)) d.1 d.3 in
    let l = many_split (a kinds.Semicolon · maybe verb_objects) e.1 e.3 in
    let last : Stops (flat l.0 ++ rest) = marks_stop kinds.Semicolon (maybe verb_objects) refl l.0 l.1 rest s in
    let tail : d.1 ≡ e.0 ++ flat l.0 = e.4 ∙ ap (λ (y : List Word). e.0 ++ y) l.2 in
    let all : ws ≡ d.0 ++ (e.0 ++ flat l.0) = d.4 ∙ ap (λ (y : List Word). d.0 ++ y) tail in
    let next : (e.0 ++ flat l.0) ++ rest ≡ e.0 ++ (flat l.0 ++ rest) = append_assoc e.0 (flat l.0) rest in
    let o = subject_read f names d.0 ((e.0 ++ flat l.0) ++ rest) d.2 (subst Stops (sym next) (verb_stops e.0 (flat l.0 ++ rest) e.2)) in
    let v = verb_read f o.2 e.0 (flat l.0 ++ rest) e.2 last in
    let q = more_read f v.1 l.0 l.1 rest s in
    let first = v.2 o.0 in
    let more = q.2 o.0 in (
      items.Part o.0 o.1 ∷ (v.0 ++ q.0),
      first.0 ++ triples_of more.0,
      q.1,
      record {
        subject = o.0;
        place = o.1;
        first = (v.0, first.0);
        more = more.0;
        first_is = first.1;
        more_are = more.1;
        items_are = ap (λ (y : List Item). items.Part o.0 o.1 ∷ (v.0 ++ y)) more.2;
        triples_are = refl;
      },
      ap (λ (y : List Word). It f names (y ++ rest)) all ∙ ap (It f names) (append_assoc d.0 (e.0 ++ flat l.0) rest) ∙ o.3 ∙
          ap (λ (y : List Item). items.Part o.0 o.1 ∷ y) (ap (It f o.2) next ∙ v.3 ∙ ap (λ (y : List Item). v.0 ++ y) q.3 ∙ sym (append_assoc v.0 q.0 (It f q.1 rest))),
    )

-- ---- blocks

abbrev ReadsDots : (List ℕ → Option (List ℕ)) → List (List ℕ) → List Word → List Word → Type 0
ReadsDots f names ws rest = (ps : List (List Item × List Placed)) × (new : List (List ℕ)) × Each Same ps × (It f names (ws ++ rest) ≡ after_marks items.Dot ps ++ It f new rest)

dots_read : (f : List ℕ → Option (List ℕ)) (names : List (List ℕ)) (xs : List (List Word)) → Are (a kinds.Dot · same) xs → (rest : List Word) → Stops rest → ReadsDots f names (flat xs) rest
dots_read f names [] h rest s = ([], names, tt, refl)
dots_read f names (x ∷ xs) h rest s =
    let c = marked kinds.Dot same x h.0 in
    let v = same_read f names c.1 (flat xs ++ rest) c.4 (marks_stop kinds.Dot same refl xs h.1 rest s) in
    let m = dots_read f v.2 xs h.1 rest s in (
      (v.0, v.1) ∷ m.0,
      m.1,
      (v.3, m.2),
      marked_items kinds.Dot refl f names x c.0 c.1 (flat xs) rest c.2 c.3 ∙ ap (λ (y : List Item). items.Dot ∷ y) (v.4 ∙ ap (λ (y : List Item). v.0 ++ y) m.3 ∙ sym (append_assoc v.0 (after_marks items.Dot m.0) (It f m.1 rest))),
    )

-- a last '.', or none
abbrev last : Bool → List Item
last b = if b then items.Dot ∷ [] else []

abbrev ReadsLast : (List ℕ → Option (List ℕ)) → List (List ℕ) → List Word → List Word → Type 0
ReadsLast f names ws rest = (b : Bool) × (It f names (ws ++ rest) ≡ last b ++ It f names rest) × Stops (ws ++ rest)

last_read : (f : List ℕ → Option (List ℕ)) (names : List (List ℕ)) (ws rest : List Word) → Is (maybe (a kinds.Dot)) ws → Stops rest → ReadsLast f names ws rest
last_read f names ws rest (inl m) s =
    let c = one kinds.Dot ws m in
    subst (λ (l : List Word). ReadsLast f names l rest) (sym c.1) (true, mark_read kinds.Dot refl f names c.0 rest c.2, stops_at kinds.Dot refl c.0 rest c.2)
last_read f names ws rest (inr m) s = subst (λ (l : List Word). ReadsLast f names l rest) (sym (none ws m)) (false, refl, s)

-- whether a '.' comes last does not depend on the names
last_stops : (ws rest : List Word) → Is (maybe (a kinds.Dot)) ws → Stops rest → Stops (ws ++ rest)
last_stops ws rest m s = (last_read (λ q. None) [] ws rest m s).2

abbrev pub ReadsBlock : (List ℕ → Option (List ℕ)) → List (List ℕ) → List Word → List Word → Type 0
ReadsBlock f names ws rest = (is : List Item) × (ts : List Placed) × (new : List (List ℕ)) × Block is ts × (It f names (ws ++ rest) ≡ is ++ It f new rest)

pub block_read : (f : List ℕ → Option (List ℕ)) (names : List (List ℕ)) (ws rest : List Word) → Is block ws → Stops rest → ReadsBlock f names ws rest
block_read f names ws rest m s =
    let d = seq_split (same · many (a kinds.Dot · same)) (maybe (a kinds.Dot)) ws m in
    let e = seq_split same (many (a kinds.Dot · same)) d.0 d.2 in
    let l = many_split (a kinds.Dot · same) e.1 e.3 in
    let stops : Stops (d.1 ++ rest) = last_stops d.1 rest d.3 s in
    let front : d.0 ≡ e.0 ++ flat l.0 = e.4 ∙ ap (λ (y : List Word). e.0 ++ y) l.2 in
    let all : ws ≡ (e.0 ++ flat l.0) ++ d.1 = d.4 ∙ ap (λ (y : List Word). y ++ d.1) front in
    let first = same_read f names e.0 (flat l.0 ++ (d.1 ++ rest)) e.2 (marks_stop kinds.Dot same refl l.0 l.1 (d.1 ++ rest) stops) in
    let more = dots_read f first.2 l.0 l.1 (d.1 ++ rest) stops in
    let dot = last_read f more.1 d.1 rest d.3 s in
    let tail : It f first.2 (flat l.0 ++ (d.1 ++ rest)) ≡ (after_marks items.Dot more.0 ++ last dot.0) ++ It f more.1 rest = more.3 ∙ ap (λ (y : List Item). after_marks items.Dot more.0 ++ y) dot.1 ∙ sym (append_assoc (after_marks items.Dot more.0) (last dot.0) (It f more.1 rest)) in (
      first.0 ++ (after_marks items.Dot more.0 ++ last dot.0),
      first.1 ++ triples_of more.0,
      more.1,
      record { first = (first.0, first.1); more = more.0; dot = dot.0; first_is = first.3; more_are = more.2; items_are = refl; triples_are = refl },
      ap (λ (y : List Word). It f names (y ++ rest)) all ∙ ap (It f names) (append_assoc (e.0 ++ flat l.0) d.1 rest ∙ append_assoc e.0 (flat l.0) (d.1 ++ rest)) ∙ first.4 ∙ ap (λ (y : List Item). first.0 ++ y) tail ∙ sym (append_assoc first.0 (after_marks items.Dot more.0 ++ last dot.0) (It f more.1 rest)),
    )

-- what stands before the closing brace is a body
pub body_of : (f : List ℕ → Option (List ℕ)) (names : List (List ℕ)) (ws : List Word) (w : Word) → Is (maybe block) ws → kind_of w.value ≡ kinds.CloseBrace → (ts : List Placed) × Body (It f names (ws ++ w ∷ [])) ts
body_of f names ws w (inl m) e =
    let b = block_read f names ws (w ∷ []) m (stops_at kinds.CloseBrace refl w [] e) in
    let end : It f b.2 (w ∷ []) ≡ [] = mark_read kinds.CloseBrace refl f b.2 w [] e in
    let all : It f names (ws ++ w ∷ []) ≡ b.0 = b.4 ∙ ap (λ (y : List Item). b.0 ++ y) end ∙ append-nil b.0 in
    (b.1, subst (λ (y : List Item). Body y b.1) (sym all) (inr b.3))
body_of f names ws w (inr m) e =
    let all : It f names (ws ++ w ∷ []) ≡ [] = ap (λ (y : List Word). It f names (y ++ w ∷ [])) (none ws m) ∙ mark_read kinds.CloseBrace refl f names w [] e in
    ([], subst (λ (y : List Item). Body y []) (sym all) (inl (refl, refl)))
