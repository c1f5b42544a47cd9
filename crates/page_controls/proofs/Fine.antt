-- What is found excludes the faults before it, and what each fault says comes of one page alone.
use Rattle.std.proofs.Common.{ℕ, ◌≡◌, ◌<◌, List, [], refl, sym, ap, subst, ◌∙◌, arith, inl, inr, Option, Some, None}
use Rattle.std.specs.Prelude.{◌≢◌}
use Rattle.std.specs.declared.cmp.Ordering.{Ordering}
use Rattle.std.specs.declared.cmp.Ordering.TheVariants.{Less, Equal, Greater}
use Rattle.std.specs.Ordering.{ordering_reverse}
use Rattle.list_laws.proofs.Tests.{not_both_ways}
use Rattle.rdf_terms.specs.declared.term.Term.{Term}
use Rattle.rdf_terms.specs.declared.term.Term.TheVariants.{Iri, Blank, Literal}
use Rattle.rdf_terms.specs.declared.term.Quad.{Quad}
use Rattle.rdf_terms.specs.Order.{term_order}
use Rattle.rdf_terms.specs.OrderLaws.{term_total, term_equal}
use Rattle.tpf_base.specs.Addresses.{Address, IsAddress, authority_of}
use Rattle.template_fill.specs.Templates.{Template, read_template, expansion}
use Rattle.template_fill.specs.WebAddress.{OneAddress}
use Rattle.template_fill.specs.declared.form.Form.{Form}
use Rattle.fragment_page.specs.declared.page.PageFault.{PageFault}
use Rattle.fragment_page.specs.declared.page.PageFault.TheVariants as faults
use Rattle.control_triples.specs.Controls.{IsCountObject, IsNumber, IsCount, HasNoCount, HasBadCount, FormTexts, IsLiteral, IsForm, HasNoForm, IsLeastForm, IsLink, IsNextObject, IsNext, HasTwoNext, HasForeignNext, IsVersionObject, IsVersion}
use Rattle.control_triples.proofs.Only.{only_not_two, only_one}
use Rattle.page_controls.specs.Controls.{names_all, IsFormOf, HasBadTemplate, IsHome, IsForeign}
use Rattle.control_triples.specs.Contents.{HasBlankData}
use Rattle.page_controls.specs.Faults.{FindsForm, HasForeignForm, HasForeignLink, place_of}
use Rattle.page_controls.specs.Outcomes.{IsFaultOf}
use Rattle.page_controls.specs.Counts.{WhyNoCount, WhyNoNext, TakesForm, WhyNoForm}
use Rattle.page_controls.specs.Stages.{IsAmiss, FirstAmiss}

-- ---- the count

number_one : (o : Term) (n m : ℕ) → IsNumber o n → IsNumber o m → n ≡ m
number_one (Iri text) n m h k = absurd h
number_one (Blank label) n m h k = absurd h
number_one (Literal form kind) n m h k = h.1 ∙ sym k.1

pub one_count : (quads : List Quad) (topic : List ℕ) (n m : ℕ) → IsCount quads topic n → IsCount quads topic m → n ≡ m
one_count quads topic n m h k =
    number_one k.0 n m (subst (λ (o : Term). IsNumber o n) (only_one (IsCountObject quads topic) h.0 k.0 h.1 k.1) h.2) k.2

pub count_there : (quads : List Quad) (topic : List ℕ) (n : ℕ) → IsCount quads topic n → HasNoCount quads topic → ⊥
count_there quads topic n h lacking = lacking h.0 h.1.0

pub count_good : (quads : List Quad) (topic : List ℕ) (n : ℕ) → IsCount quads topic n → HasBadCount quads topic → ⊥
count_good quads topic n h (inl two) = only_not_two (IsCountObject quads topic) h.0 h.1 two
count_good quads topic n h (inr bad) = bad.2 n (subst (λ (o : Term). IsNumber o n) (sym (h.1.1 bad.0 bad.1)) h.2)

pub one_version : (quads : List Quad) (topic : List ℕ) (a b : Option ℕ) → IsVersion quads topic a → IsVersion quads topic b → a ≡ b
one_version quads topic None None h k = refl
one_version quads topic None (Some n) h k = absurd (h k.0 k.1)
one_version quads topic (Some n) None h k = absurd (k h.0 h.1)
one_version quads topic (Some n) (Some m) h k =
    ap (λ (x : ℕ). Some x) (number_one k.0 n m (subst (λ (o : Term). IsNumber o n) (only_one (IsVersionObject quads topic) h.0 k.0 h.1 k.1) h.2) k.2)

bad_there : (quads : List Quad) (topic : List ℕ) → HasBadCount quads topic → HasNoCount quads topic → ⊥
bad_there quads topic (inl two) lacking = lacking two.0 two.2
bad_there quads topic (inr bad) lacking = lacking bad.0 bad.1

-- ---- the form

literal_one : (o : Term) (a b : List ℕ) → IsLiteral o a → IsLiteral o b → a ≡ b
literal_one (Iri text) a b h k = absurd h
literal_one (Blank label) a b h k = absurd h
literal_one (Literal form kind) a b h k = sym h ∙ k

form_texts_one : (quads : List Quad) (topic : List ℕ) (node : Term) (a b : FormTexts) → IsForm quads topic node a → IsForm quads topic node b → a ≡ b
form_texts_one quads topic node a b h k =
    let t : a.template ≡ b.template = literal_one k.literal a.template b.template (subst (λ (o : Term). IsLiteral o a.template) (only_one _ h.literal k.literal h.template k.template) h.template_text) k.template_text in
    let s = only_one _ a.subject b.subject h.subject k.subject in
    let p = only_one _ a.predicate b.predicate h.predicate k.predicate in
    let o = only_one _ a.object b.object h.object k.object in
    λ i. record { template = t i; subject = s i; predicate = p i; object = o i }

neither : (p q : Ordering) → p ≡ ordering_reverse q → p ≢ Less → q ≢ Less → p ≡ Equal
neither Less q e h k = absurd (h refl)
neither Equal q e h k = refl
neither Greater Less e h k = absurd (k refl)
neither Greater Equal e h k = absurd (cc)
neither Greater Greater e h k = absurd (cc)

pub one_least : (quads : List Quad) (topic : List ℕ) (a b : FormTexts) → IsLeastForm quads topic a → IsLeastForm quads topic b → a ≡ b
one_least quads topic a b h k =
    let tied = neither (term_order h.node k.node) (term_order k.node h.node) (term_total.antisymm h.node k.node) (k.least h.node a h.is_form) (h.least k.node b k.is_form) in
    let same = (term_equal h.node k.node).0 tied in
    form_texts_one quads topic k.node a b (subst (λ (node : Term). IsForm quads topic node a) same h.is_form) k.is_form

some_template : (a b : Template) → ◌≡◌ {A = Option Template} (Some a) (Some b) → a ≡ b
some_template a b e = cc

pub one_form : (texts : FormTexts) (a b : Form) → IsFormOf texts a → IsFormOf texts b → a ≡ b
one_form texts a b h k =
    let t = some_template a.template b.template (sym h.template ∙ k.template) in
    let s = h.subject ∙ sym k.subject in
    let p = h.predicate ∙ sym k.predicate in
    let o = h.object ∙ sym k.object in
    λ i. record { template = t i; subject = s i; predicate = p i; object = o i }

pub form_there : (quads : List Quad) (topic : List ℕ) (form : Form) → TakesForm quads topic form → HasNoForm quads topic → ⊥
form_there quads topic form h lacking = let l = h.least in lacking l.node h.texts l.is_form

pub form_good : (quads : List Quad) (topic : List ℕ) (form : Form) → TakesForm quads topic form → FindsForm HasBadTemplate quads topic → ⊥
form_good quads topic form h bad =
    let same = one_least quads topic bad.0 h.texts bad.1 h.least in
    let f = h.is_form in
    not_both_ways (names_all form.template h.texts) f.names (subst (λ (texts : FormTexts). HasBadTemplate texts) same bad.2 form.template f.template)

bad_form_there : (quads : List Quad) (topic : List ℕ) → FindsForm HasBadTemplate quads topic → HasNoForm quads topic → ⊥
bad_form_there quads topic bad lacking = let l = bad.1 in lacking l.node bad.0 l.is_form

-- ---- links

link_one : OneAddress → (o : Term) (a b : Address) → IsLink o a → IsLink o b → a ≡ b
link_one one (Iri text) a b h k = one text a b h k
link_one one (Blank label) a b h k = absurd h
link_one one (Literal form kind) a b h k = absurd h

pub one_next : OneAddress → (quads : List Quad) (topic authority : List ℕ) (a b : Option Address) → IsNext quads topic authority a → IsNext quads topic authority b → a ≡ b
one_next one quads topic authority None None h k = refl
one_next one quads topic authority None (Some b) h k = absurd (h k.0 k.1.0)
one_next one quads topic authority (Some a) None h k = absurd (k h.0 h.1.0)
one_next one quads topic authority (Some a) (Some b) h k =
    ap (λ (x : Address). Some x) (link_one one k.0 a b (subst (λ (o : Term). IsLink o a) (only_one (IsNextObject quads topic) h.0 k.0 h.1 k.1) h.2) k.2)

pub next_one : (quads : List Quad) (topic authority : List ℕ) (next : Option Address) → IsNext quads topic authority next → HasTwoNext quads topic → ⊥
next_one quads topic authority None h two = h two.0 two.2
next_one quads topic authority (Some next) h two = only_not_two (IsNextObject quads topic) h.0 h.1 two

pub next_home : (quads : List Quad) (topic authority : List ℕ) (next : Option Address) → IsNext quads topic authority next → HasForeignNext quads topic authority → ⊥
next_home quads topic authority None h bad = h bad.0 bad.1
next_home quads topic authority (Some next) h bad = bad.2 next (subst (λ (o : Term). IsLink o next) (sym (h.1.1 bad.0 bad.1)) h.2) h.3

pub form_home : OneAddress → (quads : List Quad) (topic authority : List ℕ) (form : Form) → TakesForm quads topic form → IsHome form.template authority → FindsForm (HasForeignForm authority) quads topic → ⊥
form_home one quads topic authority form h home bad =
    let same = one_least quads topic bad.0 h.texts bad.1 h.least in
    let f = h.is_form in
    let t : bad.2.0 ≡ form.template = some_template bad.2.0 form.template (sym bad.2.1 ∙ ap (λ (texts : FormTexts). read_template texts.template) same ∙ f.template) in
    let there : IsAddress (expansion form.template []) bad.2.2.0 = subst (λ (x : Template). IsAddress (expansion x []) bad.2.2.0) t bad.2.2.1 in
    bad.2.2.2 (ap authority_of (one (expansion form.template []) bad.2.2.0 home.0 there home.1) ∙ home.2)

-- ---- no earlier fault

pub earlier : (quads : List Quad) (topic authority : List ℕ) (n : ℕ) → (2 < n → HasNoCount quads topic → ⊥) → (3 < n → HasBadCount quads topic → ⊥) → (4 < n → HasNoForm quads topic → ⊥) → (5 < n → FindsForm HasBadTemplate quads topic → ⊥) →
    (6 < n → HasTwoNext quads topic → ⊥) → (7 < n → HasForeignLink authority quads topic → ⊥) → (8 < n → HasBlankData quads → ⊥) → (other : PageFault) → place_of other < n → IsAmiss quads topic authority other → ⊥
earlier quads topic authority n a b c d e f g faults.Text l h = h
earlier quads topic authority n a b c d e f g faults.NoTopic l h = h
earlier quads topic authority n a b c d e f g faults.NoCount l h = a l h
earlier quads topic authority n a b c d e f g faults.CountText l h = b l h
earlier quads topic authority n a b c d e f g faults.NoForm l h = c l h
earlier quads topic authority n a b c d e f g faults.BadTemplate l h = d l h
earlier quads topic authority n a b c d e f g faults.TwoNext l h = e l h
earlier quads topic authority n a b c d e f g faults.ForeignLink l h = f l h
earlier quads topic authority n a b c d e f g faults.BlankData l h = g l h
earlier quads topic authority n a b c d e f g faults.OutOfMemory l h = h

module _ (quads : List Quad) (topic authority : List ℕ) where
  first_as : (fault actual : PageFault) → actual ≡ fault → FirstAmiss quads topic authority fault → FirstAmiss quads topic authority actual
  first_as fault actual e h = subst (FirstAmiss quads topic authority) (sym e) h

  pub count_amiss : (fault : PageFault) → IsFaultOf (WhyNoCount quads topic) fault → IsFaultOf (FirstAmiss quads topic authority) fault
  count_amiss fault (inl e) = inl e
  count_amiss fault (inr (inl h)) = inr (first_as faults.NoCount fault h.0 record {
    amiss = h.1;
    first = earlier quads topic authority 2 (λ l. absurd (omega arith)) (λ l. absurd (omega arith)) (λ l. absurd (omega arith)) (λ l. absurd (omega arith)) (λ l. absurd (omega arith)) (λ l. absurd (omega arith)) (λ l. absurd (omega arith));
  })
  count_amiss fault (inr (inr h)) = inr (first_as faults.CountText fault h.0 record {
    amiss = h.1;
    first = earlier quads topic authority 3 (λ l. bad_there quads topic h.1) (λ l. absurd (omega arith)) (λ l. absurd (omega arith)) (λ l. absurd (omega arith)) (λ l. absurd (omega arith)) (λ l. absurd (omega arith)) (λ l. absurd (omega arith));
  })

  pub form_amiss : (n : ℕ) (fault : PageFault) → IsCount quads topic n → IsFaultOf (WhyNoForm quads topic) fault → IsFaultOf (FirstAmiss quads topic authority) fault
  form_amiss n fault count (inl e) = inl e
  form_amiss n fault count (inr (inl h)) = inr (first_as faults.NoForm fault h.0 record {
    amiss = h.1;
    first = earlier quads topic authority 4 (λ l. count_there quads topic n count) (λ l. count_good quads topic n count) (λ l. absurd (omega arith)) (λ l. absurd (omega arith)) (λ l. absurd (omega arith)) (λ l. absurd (omega arith)) (λ l. absurd (omega arith));
  })
  form_amiss n fault count (inr (inr h)) = inr (first_as faults.BadTemplate fault h.0 record {
    amiss = h.1;
    first = earlier quads topic authority 5 (λ l. count_there quads topic n count) (λ l. count_good quads topic n count) (λ l. bad_form_there quads topic h.1) (λ l. absurd (omega arith)) (λ l. absurd (omega arith)) (λ l. absurd (omega arith)) (λ l. absurd (omega arith));
  })

  pub next_amiss : (n : ℕ) (form : Form) (fault : PageFault) → IsCount quads topic n → TakesForm quads topic form → IsFaultOf (WhyNoNext quads topic authority) fault → IsFaultOf (FirstAmiss quads topic authority) fault
  next_amiss n form fault count taken (inl e) = inl e
  next_amiss n form fault count taken (inr (inl h)) = inr (first_as faults.TwoNext fault h.0 record {
    amiss = h.1;
    first = earlier quads topic authority 6 (λ l. count_there quads topic n count) (λ l. count_good quads topic n count) (λ l. form_there quads topic form taken) (λ l. form_good quads topic form taken) (λ l. absurd (omega arith)) (λ l. absurd (omega arith)) (λ l. absurd (omega arith));
  })
  next_amiss n form fault count taken (inr (inr h)) = inr (first_as faults.ForeignLink fault h.0 record {
    amiss = inl h.2;
    first = earlier quads topic authority 7 (λ l. count_there quads topic n count) (λ l. count_good quads topic n count) (λ l. form_there quads topic form taken) (λ l. form_good quads topic form taken) (λ l. h.1) (λ l. absurd (omega arith)) (λ l. absurd (omega arith));
  })

  pub home_amiss : (n : ℕ) (form : Form) (next : Option Address) (fault : PageFault) → IsCount quads topic n → TakesForm quads topic form → IsNext quads topic authority next →
      IsFaultOf (λ fault. (fault ≡ faults.ForeignLink) × IsForeign form.template authority) fault → IsFaultOf (FirstAmiss quads topic authority) fault
  home_amiss n form next fault count taken following (inl e) = inl e
  home_amiss n form next fault count taken following (inr h) = let f = taken.is_form in inr (first_as faults.ForeignLink fault h.0 record {
    amiss = inr (taken.texts, taken.least, (form.template, f.template, h.1));
    first = earlier quads topic authority 7 (λ l. count_there quads topic n count) (λ l. count_good quads topic n count) (λ l. form_there quads topic form taken) (λ l. form_good quads topic form taken) (λ l. next_one quads topic authority next following) (λ l. absurd (omega arith)) (λ l. absurd (omega arith));
  })
