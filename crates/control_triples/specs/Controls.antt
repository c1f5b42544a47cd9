-- What the quads of a page say of it: which quads occur, in whatever order (Triple Pattern Fragments, "Metadata" and "Controls"; Hydra core vocabulary; VoID).
use Rattle.std.specs.Prelude.{ℕ, ◌≡◌, ◌≢◌, ◌⊎◌, Bool, true, ◌&&◌, nat_le, List, length, Option, Some, None}
use Rattle.std.specs.List.{Contains, list_all}
use Rattle.std.specs.Char.{is_ascii_digit}
use Rattle.std.specs.Str.Parse.{digits_value}
use Rattle.std.specs.declared.cmp.Ordering.TheVariants.{Less}
use Rattle.rdf_terms.specs.declared.term.Term.{Term}
use Rattle.rdf_terms.specs.declared.term.Term.TheVariants.{Iri, Blank, Literal}
use Rattle.rdf_terms.specs.declared.term.Quad.{Quad}
use Rattle.rdf_terms.specs.Order.{term_order}
use Rattle.tpf_base.specs.declared.limits.TheConstants.{MOST_DIGITS}
use Rattle.tpf_base.specs.Addresses.{Address, IsAddress, authority_of}
use Rattle.control_triples.specs.Vocabulary.{primary_topic, void_triples, total_items, next_page, search_form, form_template, representation, explicit_representation, form_mapping, mapped_variable, mapped_property, rdf_subject, rdf_predicate, rdf_object, version_info}

-- ---- how many

-- x is the only one
abbrev pub IsOnly : {X : Type 0} → (X → Type 0) → X → Type 0
IsOnly {X} P x = P x × ((other : X) → P other → other ≡ x)

-- there are two that differ
abbrev pub HasTwo : {X : Type 0} → (X → Type 0) → Type 0
HasTwo {X} P = (x : X) × (y : X) × P x × P y × (x ≢ y)

-- ---- the topic

-- the quad occurs in this named graph
abbrev pub Holds : List Quad → Term → Term → Term → Term → Type 0
Holds quads graph subject predicate object = Contains quads (record { triple = record { subject = subject; predicate = predicate; object = object }; graph = Some graph })

-- the named graph is about the page with this text
abbrev pub IsAbout : List Quad → Term → List ℕ → Type 0
IsAbout quads graph text = (subject : Term) × Holds quads graph subject primary_topic (Iri text)

-- some named graph is
abbrev pub HasTopic : List Quad → List ℕ → Type 0
HasTopic quads text = (graph : Term) × IsAbout quads graph text

-- the topic of a page whose own address has this text: that text where it is a topic, else the only one
abbrev pub IsTopic : List Quad → List ℕ → List ℕ → Type 0
IsTopic quads own text = ((text ≡ own) × HasTopic quads own) ⊎ ((HasTopic quads own → ⊥) × IsOnly (HasTopic quads) text)

abbrev pub HasNoTopic : List Quad → List ℕ → Type 0
HasNoTopic quads own = (text : List ℕ) → IsTopic quads own text → ⊥

-- a named graph about the topic says so: these are the control quads
pub record Says (quads : List Quad) (topic : List ℕ) (subject predicate object : Term) : Type 0 where
  pub graph : Term
  pub about : IsAbout quads graph topic
  pub holds : Holds quads graph subject predicate object

-- ---- the count

-- the objects of hydra:totalItems, and only if there are none those of void:triples
abbrev pub IsCountObject : List Quad → List ℕ → Term → Type 0
IsCountObject quads topic object =
    Says quads topic (Iri topic) total_items object
    ⊎ (((other : Term) → Says quads topic (Iri topic) total_items other → ⊥) × Says quads topic (Iri topic) void_triples object)

-- 1 to MOST_DIGITS ASCII digits
abbrev pub is_count_text : List ℕ → Bool
is_count_text form = nat_le 1 (length form) && (nat_le (length form) MOST_DIGITS && list_all is_ascii_digit form)

-- a literal whose form is the number, in 1 to MOST_DIGITS digits
abbrev pub IsNumber : Term → ℕ → Type 0
IsNumber (Iri text) n = ⊥
IsNumber (Blank label) n = ⊥
IsNumber (Literal form kind) n = (is_count_text form ≡ true) × (n ≡ digits_value 10 form)

abbrev pub IsCount : List Quad → List ℕ → ℕ → Type 0
IsCount quads topic n = (object : Term) × IsOnly (IsCountObject quads topic) object × IsNumber object n

abbrev pub HasNoCount : List Quad → List ℕ → Type 0
HasNoCount quads topic = (object : Term) → IsCountObject quads topic object → ⊥

-- more than one object, or one that is no number
abbrev pub HasBadCount : List Quad → List ℕ → Type 0
HasBadCount quads topic = HasTwo (IsCountObject quads topic) ⊎ ((object : Term) × IsCountObject quads topic object × ((n : ℕ) → IsNumber object n → ⊥))

-- ---- the form

-- the texts of a form: its template, and the names of the variables for the three places
pub record FormTexts : Type 0 where
  pub template : List ℕ
  pub subject : List ℕ
  pub predicate : List ℕ
  pub object : List ℕ

abbrev pub IsLiteral : Term → List ℕ → Type 0
IsLiteral (Iri text) form = ⊥
IsLiteral (Blank label) form = ⊥
IsLiteral (Literal form kind) other = form ≡ other

-- a literal that the node has as template
abbrev pub IsTemplateOf : List Quad → List ℕ → Term → Term → Type 0
IsTemplateOf quads topic node literal = Says quads topic node form_template literal × ((text : List ℕ) × IsLiteral literal text)

-- a mapping of the node gives the property a variable with this text
pub record MapsTo (quads : List Quad) (topic : List ℕ) (node property : Term) (text : List ℕ) : Type 0 where
  pub mapping : Term
  pub variable : Term
  pub is_mapping : Says quads topic node form_mapping mapping
  pub has_property : Says quads topic mapping mapped_property property
  pub has_variable : Says quads topic mapping mapped_variable variable
  pub is_text : IsLiteral variable text

-- the node is a form with these texts
pub record IsForm (quads : List Quad) (topic : List ℕ) (node : Term) (texts : FormTexts) : Type 0 where
  pub searched : (subject : Term) × Says quads topic subject search_form node
  pub literal : Term
  pub template : IsOnly (IsTemplateOf quads topic node) literal
  pub template_text : IsLiteral literal texts.template
  pub explicit : (object : Term) → Says quads topic node representation object → object ≡ explicit_representation
  pub subject : IsOnly (MapsTo quads topic node rdf_subject) texts.subject
  pub predicate : IsOnly (MapsTo quads topic node rdf_predicate) texts.predicate
  pub object : IsOnly (MapsTo quads topic node rdf_object) texts.object
  pub subject_predicate : texts.subject ≢ texts.predicate
  pub subject_object : texts.subject ≢ texts.object
  pub predicate_object : texts.predicate ≢ texts.object

abbrev pub HasNoForm : List Quad → List ℕ → Type 0
HasNoForm quads topic = (node : Term) (texts : FormTexts) → IsForm quads topic node texts → ⊥

-- the texts of the form whose node is the least in the order of terms
pub record IsLeastForm (quads : List Quad) (topic : List ℕ) (texts : FormTexts) : Type 0 where
  pub node : Term
  pub is_form : IsForm quads topic node texts
  pub least : (other : Term) (more : FormTexts) → IsForm quads topic other more → term_order other node ≢ Less

-- ---- the version

-- a literal of 1 to MOST_DIGITS digits that something has as its version
abbrev pub IsVersionObject : List Quad → List ℕ → Term → Type 0
IsVersionObject quads topic object = ((subject : Term) × Says quads topic subject version_info object) × ((n : ℕ) × IsNumber object n)

-- the number of the only such literal; none where there is no such literal, or more than one
abbrev pub IsVersion : List Quad → List ℕ → Option ℕ → Type 0
IsVersion quads topic None = (object : Term) → IsOnly (IsVersionObject quads topic) object → ⊥
IsVersion quads topic (Some n) = (object : Term) × IsOnly (IsVersionObject quads topic) object × IsNumber object n

-- ---- links

-- the term is an IRI that is this address
abbrev pub IsLink : Term → Address → Type 0
IsLink (Iri text) address = IsAddress text address
IsLink (Blank label) address = ⊥
IsLink (Literal form kind) address = ⊥

abbrev pub IsNextObject : List Quad → List ℕ → Term → Type 0
IsNextObject quads topic object = Says quads topic (Iri topic) next_page object

-- the only object of hydra:next, an address of the authority; or there is none
abbrev pub IsNext : List Quad → List ℕ → List ℕ → Option Address → Type 0
IsNext quads topic authority None = (object : Term) → IsNextObject quads topic object → ⊥
IsNext quads topic authority (Some next) = (object : Term) × IsOnly (IsNextObject quads topic) object × IsLink object next × (authority_of next ≡ authority)

abbrev pub HasTwoNext : List Quad → List ℕ → Type 0
HasTwoNext quads topic = HasTwo (IsNextObject quads topic)

-- an object of hydra:next that is no address of the authority
abbrev pub HasForeignNext : List Quad → List ℕ → List ℕ → Type 0
HasForeignNext quads topic authority = (object : Term) × IsNextObject quads topic object × ((next : Address) → IsLink object next → authority_of next ≢ authority)
