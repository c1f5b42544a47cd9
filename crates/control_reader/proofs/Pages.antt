-- A body is one page, or has one first fault.
use Rattle.std.proofs.Common.{ℕ, ◌≡◌, ◌<◌, Bool, true, false, cond, nat_eq, ltb, List, refl, sym, ap, subst, ◌∙◌, arith, inl, inr, Result, Ok, Err}
use Rattle.rdf_terms.specs.declared.term.Quad.{Quad}
use Rattle.rdf_terms.specs.declared.limits.TheConstants.{LONGEST_READ}
use Rattle.nquads_text.proofs.ReadLaws.{reads_text, not_both}
use Rattle.tpf_base.specs.Addresses.{Address, address_text, authority_of}
use Rattle.template_fill.proofs.Reading.{one_address}
use Rattle.page_controls.specs.declared.told.Told.{Told}
use Rattle.fragment_page.specs.declared.page.Page.{Page}
use Rattle.fragment_page.specs.declared.page.PageFault.{PageFault}
use Rattle.fragment_page.specs.declared.page.PageFault.TheVariants as faults
use Rattle.control_triples.specs.Controls.{IsTopic, FormTexts, IsCount, IsLeastForm, IsNext, IsVersion}
use Rattle.page_controls.specs.Controls.{IsFormOf}
use Rattle.control_triples.specs.Contents.{page_triples, HasBlankData}
use Rattle.control_reader.specs.Takes.{IsBody, HasControls, Takes, Finds, IsWrong, Faults}
use Rattle.page_controls.specs.Faults.{HasForeignLink, place_of}
use Rattle.page_controls.specs.Outcomes.{Answers, IsFaultOf}
use Rattle.control_reader.specs.Outcomes.{IsPageOrMemory, IsFaultOrMemory}
use Rattle.page_controls.specs.Stages.{IsAmiss, FirstAmiss, TakesPage, WhyNoPage}
use Rattle.control_triples.proofs.Topics.{one_topic}
use Rattle.page_controls.proofs.Fine.{one_count, count_there, count_good, one_least, one_form, form_there, form_good, one_version, one_next, next_one, next_home, form_home, earlier}

ok_same : {E : Type 0} (x y : List Quad) → ◌≡◌ {A = Result (List Quad) E} (Ok x) (Ok y) → x ≡ y
ok_same x y e = cc

pub one_body : (bytes : List ℕ) (a b : List Quad) → IsBody bytes a → IsBody bytes b → a ≡ b
one_body bytes a b h k = ok_same a b (sym (reads_text LONGEST_READ bytes a h) ∙ reads_text LONGEST_READ bytes b k)

module _ (bytes : List ℕ) (address : Address) where
  same_quads : (a b : List Quad) (s t : List ℕ) → HasControls bytes address a s → HasControls bytes address b t → a ≡ b
  same_quads a b s t h k = one_body bytes a b h.body k.body

  same_topic : (a b : List Quad) (s t : List ℕ) → HasControls bytes address a s → HasControls bytes address b t → s ≡ t
  same_topic a b s t h k = one_topic b (address_text address) s t (subst (λ (q : List Quad). IsTopic q (address_text address) s) (same_quads a b s t h k) h.is_topic) k.is_topic

  -- what is found holds of the quads and the topic
  pub found : (P : List Quad → List ℕ → Type 0) (quads : List Quad) (topic : List ℕ) → HasControls bytes address quads topic → Finds bytes address P → P quads topic
  found P quads topic h f =
      subst (λ (q : List Quad). P q topic) (same_quads f.0 quads f.1 topic f.2 h) (subst (λ (t : List ℕ). P f.0 t) (same_topic f.0 quads f.1 topic f.2 h) f.3)

  pub one_page : (a b : Page) → Takes bytes address a → Takes bytes address b → a ≡ b
  one_page a b h k =
      let q = same_quads h.quads k.quads h.topic k.topic h.controls k.controls in
      let t = same_topic h.quads k.quads h.topic k.topic h.controls k.controls in
      let n = one_count k.quads k.topic a.count b.count (subst (λ (x : List ℕ). IsCount k.quads x a.count) t (subst (λ (x : List Quad). IsCount x h.topic a.count) q h.count)) k.count in
      let l = one_least k.quads k.topic h.texts k.texts (subst (λ (x : List ℕ). IsLeastForm k.quads x h.texts) t (subst (λ (x : List Quad). IsLeastForm x h.topic h.texts) q h.least)) k.least in
      let f = one_form k.texts a.form b.form (subst (λ (x : FormTexts). IsFormOf x a.form) l h.form) k.form in
      let x = one_next one_address k.quads k.topic (authority_of address) a.next b.next (subst (λ (x : List ℕ). IsNext k.quads x (authority_of address) a.next) t (subst (λ (x : List Quad). IsNext x h.topic (authority_of address) a.next) q h.next)) k.next in
      let v = one_version k.quads k.topic a.version b.version (subst (λ (x : List ℕ). IsVersion k.quads x a.version) t (subst (λ (x : List Quad). IsVersion x h.topic a.version) q h.version)) k.version in
      let ts = h.triples ∙ ap page_triples q ∙ sym k.triples in
      λ i. record { triples = ts i; count = n i; next = x i; form = f i; version = v i }

  -- ---- no page is at fault

  pub not_wrong : (page : Page) → Takes bytes address page → (fault : PageFault) → IsWrong bytes address fault → ⊥
  not_wrong page h faults.Text w = let c = h.controls in not_both LONGEST_READ bytes h.quads w.0 w.1 c.body w.2
  not_wrong page h faults.NoTopic w = let c = h.controls in w.2 h.topic (subst (λ (q : List Quad). IsTopic q (address_text address) h.topic) (one_body bytes h.quads w.0 c.body w.1) c.is_topic)
  not_wrong page h faults.NoCount w = count_there h.quads h.topic page.count h.count (found _ h.quads h.topic h.controls w)
  not_wrong page h faults.CountText w = count_good h.quads h.topic page.count h.count (found _ h.quads h.topic h.controls w)
  not_wrong page h faults.NoForm w = form_there h.quads h.topic page.form (record { texts = h.texts; least = h.least; is_form = h.form }) (found _ h.quads h.topic h.controls w)
  not_wrong page h faults.BadTemplate w = form_good h.quads h.topic page.form (record { texts = h.texts; least = h.least; is_form = h.form }) (found _ h.quads h.topic h.controls w)
  not_wrong page h faults.TwoNext w = next_one h.quads h.topic (authority_of address) page.next h.next (found _ h.quads h.topic h.controls w)
  not_wrong page h faults.ForeignLink w = by (found (HasForeignLink (authority_of address)) h.quads h.topic h.controls w)
    where
      by : HasForeignLink (authority_of address) h.quads h.topic → ⊥
      by (inl bad) = next_home h.quads h.topic (authority_of address) page.next h.next bad
      by (inr bad) = form_home one_address h.quads h.topic (authority_of address) page.form (record { texts = h.texts; least = h.least; is_form = h.form }) h.home bad
  not_wrong page h faults.BlankData w = h.no_blank (found (λ quads topic. HasBlankData quads) h.quads h.topic h.controls w)
  not_wrong page h faults.OutOfMemory w = w

  -- ---- one first fault

  fault_at : ℕ → PageFault
  fault_at n = cond (nat_eq n 0) faults.Text (cond (nat_eq n 1) faults.NoTopic (cond (nat_eq n 2) faults.NoCount (cond (nat_eq n 3) faults.CountText (cond (nat_eq n 4) faults.NoForm (cond (nat_eq n 5) faults.BadTemplate (cond (nat_eq n 6) faults.TwoNext (cond (nat_eq n 7) faults.ForeignLink (cond (nat_eq n 8) faults.BlankData faults.OutOfMemory))))))))

  back : (fault : PageFault) → fault_at (place_of fault) ≡ fault
  unfolding fault_at
  back faults.Text = refl
  back faults.NoTopic = refl
  back faults.NoCount = refl
  back faults.CountText = refl
  back faults.NoForm = refl
  back faults.BadTemplate = refl
  back faults.TwoNext = refl
  back faults.ForeignLink = refl
  back faults.BlankData = refl
  back faults.OutOfMemory = refl

  pub one_fault : (a b : PageFault) → Faults bytes address a → Faults bytes address b → a ≡ b
  one_fault a b h k = by (ltb (place_of a) (place_of b)) (ltb (place_of b) (place_of a)) refl refl
    where
      by : (p q : Bool) → ltb (place_of a) (place_of b) ≡ p → ltb (place_of b) (place_of a) ≡ q → a ≡ b
      by true q e f = absurd (k.first a (grind (arith, e)) h.wrong)
      by false true e f = absurd (h.first b (grind (arith, f)) k.wrong)
      by false false e f = let same : place_of a ≡ place_of b = grind (arith, e, f) in sym (back a) ∙ ap fault_at same ∙ back b

  -- ---- what the parts find

  amiss_wrong : (quads : List Quad) (topic : List ℕ) → HasControls bytes address quads topic → (fault : PageFault) → IsAmiss quads topic (authority_of address) fault → IsWrong bytes address fault
  amiss_wrong quads topic c faults.Text h = absurd h
  amiss_wrong quads topic c faults.NoTopic h = absurd h
  amiss_wrong quads topic c faults.NoCount h = (quads, topic, c, h)
  amiss_wrong quads topic c faults.CountText h = (quads, topic, c, h)
  amiss_wrong quads topic c faults.NoForm h = (quads, topic, c, h)
  amiss_wrong quads topic c faults.BadTemplate h = (quads, topic, c, h)
  amiss_wrong quads topic c faults.TwoNext h = (quads, topic, c, h)
  amiss_wrong quads topic c faults.ForeignLink h = (quads, topic, c, h)
  amiss_wrong quads topic c faults.BlankData h = (quads, topic, c, h)
  amiss_wrong quads topic c faults.OutOfMemory h = absurd h

  no_wrong : (quads : List Quad) (topic : List ℕ) → HasControls bytes address quads topic → (other : PageFault) → (IsAmiss quads topic (authority_of address) other → ⊥) → IsWrong bytes address other → ⊥
  no_wrong quads topic c faults.Text not w = not_both LONGEST_READ bytes quads w.0 w.1 c.body w.2
  no_wrong quads topic c faults.NoTopic not w = w.2 topic (subst (λ (q : List Quad). IsTopic q (address_text address) topic) (one_body bytes quads w.0 c.body w.1) c.is_topic)
  no_wrong quads topic c faults.NoCount not w = not (found _ quads topic c w)
  no_wrong quads topic c faults.CountText not w = not (found _ quads topic c w)
  no_wrong quads topic c faults.NoForm not w = not (found _ quads topic c w)
  no_wrong quads topic c faults.BadTemplate not w = not (found _ quads topic c w)
  no_wrong quads topic c faults.TwoNext not w = not (found _ quads topic c w)
  no_wrong quads topic c faults.ForeignLink not w = not (found (HasForeignLink (authority_of address)) quads topic c w)
  no_wrong quads topic c faults.BlankData not w = not (found (λ quads topic. HasBlankData quads) quads topic c w)
  no_wrong quads topic c faults.OutOfMemory not w = w

  first_fault : (quads : List Quad) (topic : List ℕ) → HasControls bytes address quads topic → (fault : PageFault) → FirstAmiss quads topic (authority_of address) fault → Faults bytes address fault
  first_fault quads topic c fault h = record {
    wrong = amiss_wrong quads topic c fault h.amiss;
    first = λ other l. no_wrong quads topic c other (h.first other l);
  }

  only_text : (quads : List Quad) → IsBody bytes quads → (other : PageFault) → place_of other < 1 → IsWrong bytes address other → ⊥
  only_text quads body faults.Text l w = not_both LONGEST_READ bytes quads w.0 w.1 body w.2
  only_text quads body faults.NoTopic l w = absurd (omega arith)
  only_text quads body faults.NoCount l w = absurd (omega arith)
  only_text quads body faults.CountText l w = absurd (omega arith)
  only_text quads body faults.NoForm l w = absurd (omega arith)
  only_text quads body faults.BadTemplate l w = absurd (omega arith)
  only_text quads body faults.TwoNext l w = absurd (omega arith)
  only_text quads body faults.ForeignLink l w = absurd (omega arith)
  only_text quads body faults.BlankData l w = absurd (omega arith)
  only_text quads body faults.OutOfMemory l w = absurd (omega arith)

  pub page_fault : (quads : List Quad) (fault : PageFault) → IsBody bytes quads → IsFaultOf (WhyNoPage quads address) fault → IsFaultOf (Faults bytes address) fault
  page_fault quads fault body (inl e) = inl e
  page_fault quads fault body (inr (inl h)) = inr (subst (Faults bytes address) (sym h.0) record { wrong = (quads, body, h.1); first = only_text quads body })
  page_fault quads fault body (inr (inr h)) = inr (first_fault quads h.0 record { body = body; is_topic = h.1 } fault h.2)

  fine : (quads : List Quad) (told : Told) (page : TakesPage quads address told) (other : PageFault) → place_of other < 8 → IsAmiss quads page.topic (authority_of address) other → ⊥
  fine quads told page =
      let t = page.controls in
      earlier quads page.topic (authority_of address) 8 (λ l. count_there quads page.topic told.count t.count) (λ l. count_good quads page.topic told.count t.count) (λ l. form_there quads page.topic told.form t.form)
      (λ l. form_good quads page.topic told.form t.form) (λ l. next_one quads page.topic (authority_of address) told.next t.next) (λ l. foreign quads told page) (λ l. absurd (omega arith))
    where
      foreign : (quads : List Quad) (told : Told) (page : TakesPage quads address told) → HasForeignLink (authority_of address) quads page.topic → ⊥
      foreign quads told page (inl bad) = let t = page.controls in next_home quads page.topic (authority_of address) told.next t.next bad
      foreign quads told page (inr bad) = let t = page.controls in form_home one_address quads page.topic (authority_of address) told.form t.form t.home bad

  pub data_fault : (quads : List Quad) (told : Told) (fault : PageFault) → IsBody bytes quads → TakesPage quads address told → IsFaultOf (λ fault. (fault ≡ faults.BlankData) × HasBlankData quads) fault → IsFaultOf (Faults bytes address) fault
  data_fault quads told fault body page (inl e) = inl e
  data_fault quads told fault body page (inr h) =
      inr (subst (Faults bytes address) (sym h.0) (first_fault quads page.topic record { body = body; is_topic = page.is_topic } faults.BlankData record { amiss = h.1; first = fine quads told page }))

  -- ---- exactly so

  pub exactly_page : (r : Result Page PageFault) → Answers (Takes bytes address) (Faults bytes address) r → (page : Page) → Takes bytes address page → IsPageOrMemory page r
  exactly_page (Ok p) h page t = one_page p page h t
  exactly_page (Err e) (inl m) page t = m
  exactly_page (Err e) (inr f) page t = absurd (not_wrong page t e f.wrong)

  pub exactly_fault : (r : Result Page PageFault) → Answers (Takes bytes address) (Faults bytes address) r → (fault : PageFault) → Faults bytes address fault → IsFaultOrMemory fault r
  exactly_fault (Ok p) h fault f = not_wrong p h fault f.wrong
  exactly_fault (Err e) (inl m) fault f = inl m
  exactly_fault (Err e) (inr g) fault f = inr (one_fault e fault g f)
