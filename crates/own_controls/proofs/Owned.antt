-- A body that ends with the metadata of a page of our own.
use Rattle.std.proofs.Common.{◌≡◌, ℕ, ◌≤◌, true, List, ◌++◌, length, Option, Some, None, refl, sym, ◌∙◌, ap, subst, append_assoc}
use Rattle.std.specs.Prelude.{codes, is_some, IfSome}
use Rattle.std.specs.Borrow.{Bor}
use Rattle.std.specs.List.{list_all}
use Rattle.std.specs.Char.{is_ascii}
use Rattle.std.proofs.lemmas.List.Folds.{list_all-append}
use Rattle.rdf_terms.specs.Canon.{canon}
use Rattle.rdf_terms.specs.declared.term.Quad.{Quad}
use Rattle.rdf_terms.proofs.Canonical.{canon_of_both}
use Rattle.rdf_terms.specs.declared.limits.TheConstants.{LONGEST_READ}
use Rattle.tpf_base.specs.declared.limits.TheConstants.{HIGHEST_NUMBER}
use Rattle.template_fill.specs.Metadata.{topic_quads, form_quads, mapping_quads, count_quads, link_quads, version_quads}
use Rattle.own_controls.specs.declared.own.OwnControls.{OwnControls}
use Rattle.own_controls.specs.Metadata.{Parts, metadata, graph_of, mappings, link_target}
use Rattle.own_controls.specs.Safe.{IsWeb}
use Rattle.own_controls.specs.Lines.{EndsLine}
use Rattle.own_controls.specs.Own.{IsOwn}
use Rattle.own_controls.proofs.Web.{web_more}

regrouped : (t f s p o c n b v : List Quad) → t ++ f ++ s ++ p ++ o ++ c ++ n ++ b ++ v ≡ t ++ (f ++ ((s ++ (p ++ o)) ++ (c ++ (n ++ (b ++ v)))))
regrouped t f s p o c n b v = simp append_assoc

canon_parts : (t f m c n b v : List Quad) → canon (t ++ (f ++ (m ++ (c ++ (n ++ (b ++ v)))))) ≡ canon t ++ (canon f ++ (canon m ++ (canon c ++ (canon n ++ (canon b ++ canon v)))))
canon_parts t f m c n b v =
    canon_of_both t _
    ∙ ap (λ (l : List ℕ). canon t ++ l) (canon_of_both f _
    ∙ ap (λ (l : List ℕ). canon f ++ l) (canon_of_both m _
    ∙ ap (λ (l : List ℕ). canon m ++ l) (canon_of_both c _
    ∙ ap (λ (l : List ℕ). canon c ++ l) (canon_of_both n _
    ∙ ap (λ (l : List ℕ). canon n ++ l) (canon_of_both b v)))))

-- the texts, where a page without a next or a previous one has its own in their place
abbrev pub parts_of : List ℕ → List ℕ → List ℕ → List ℕ → Option (Bor (List ℕ)) → Option (Bor (List ℕ)) → ℕ → ℕ → Parts
parts_of page first base template next previous count version = record {
  graph = graph_of page;
  page = page;
  first = first;
  base = base;
  template = template;
  next = link_target page next;
  previous = link_target page previous;
  count = count;
  version = version;
}

target_web : (page : List ℕ) (target : Option (Bor (List ℕ))) → IsWeb page → IfSome target (λ t. IsWeb t.now) → IsWeb (link_target page target)
target_web page None web h = web
target_web page (Some target) web h = h

target_there : (page : List ℕ) (target : Option (Bor (List ℕ))) → IfSome target (λ t. link_target page target ≡ t.now)
target_there page None = tt
target_there page (Some target) = refl

template_ascii : (base template : List ℕ) → IsWeb base → template ≡ base ++ codes "{?subject,predicate,object}" → list_all is_ascii template ≡ true
template_ascii base template web e = ap (list_all is_ascii) e ∙ list_all-append is_ascii base (codes "{?subject,predicate,object}") ∙ rw web.ascii refl

module _ (page first base template : List ℕ) (next previous : Option (Bor (List ℕ))) (count version : ℕ) where
  abbrev m : Parts
  m = parts_of page first base template next previous count version

  pub text_is : (lines counts links back end : List ℕ)
      → lines ≡ canon (topic_quads (graph_of page) page first base) ++ (canon (form_quads (graph_of page) template) ++ (canon (mappings (graph_of page)) ++ counts))
      → counts ≡ canon (count_quads (graph_of page) page first count) ++ links
      → links ≡ canon (link_quads (is_some next) (graph_of page) page (codes "next") (link_target page next)) ++ back
      → back ≡ canon (link_quads (is_some previous) (graph_of page) page (codes "previous") (link_target page previous)) ++ end
      → end ≡ canon (version_quads (graph_of page) base version)
      → lines ≡ canon (metadata (is_some next) (is_some previous) m)
  unfolding metadata mappings
  text_is lines counts links back end e f g h i =
      let t = topic_quads (graph_of page) page first base in
      let form = form_quads (graph_of page) template in
      let s = mapping_quads (graph_of page) (codes "s") (codes "subject") in
      let p = mapping_quads (graph_of page) (codes "p") (codes "predicate") in
      let o = mapping_quads (graph_of page) (codes "o") (codes "object") in
      let c = count_quads (graph_of page) page first count in
      let n = link_quads (is_some next) (graph_of page) page (codes "next") (link_target page next) in
      let b = link_quads (is_some previous) (graph_of page) page (codes "previous") (link_target page previous) in
      let v = version_quads (graph_of page) base version in
      e ∙ ap (λ (l : List ℕ). canon t ++ (canon form ++ (canon (s ++ (p ++ o)) ++ l))) (f ∙ ap (λ (l : List ℕ). canon c ++ l) (g ∙ ap (λ (l : List ℕ). canon n ++ l) (h ∙ ap (λ (l : List ℕ). canon b ++ l) i)))
      ∙ sym (canon_parts t form (s ++ (p ++ o)) c n b v) ∙ ap canon (sym (regrouped t form s p o c n b v))

  pub is_own : (body lines : List ℕ) (own : OwnControls) → own.count ≡ count → own.version ≡ version → own.template.now ≡ template → own.next ≡ next
      → body ≡ own.front.now ++ lines → EndsLine own.front.now → lines ≡ canon (metadata (is_some next) (is_some previous) m) → length lines ≤ LONGEST_READ
      → count ≤ HIGHEST_NUMBER → version ≤ HIGHEST_NUMBER
      → IsWeb page → IsWeb first → IsWeb base → template ≡ base ++ codes "{?subject,predicate,object}" → IfSome next (λ t. IsWeb t.now) → IfSome previous (λ t. IsWeb t.now)
      → IsOwn body page own
  is_own body lines own count_is version_is template_is next_is body_is front_is lines_are short few early page_web first_web base_web template_of next_web previous_web =
      record {
        parts = m;
        back = is_some previous;
        body_is = body_is ∙ ap (λ (l : List ℕ). own.front.now ++ l) lines_are ∙ ap (λ (o : Option (Bor (List ℕ))). own.front.now ++ canon (metadata (is_some o) (is_some previous) m)) (sym next_is);
        front = front_is;
        page = refl;
        template = sym template_is;
        next = subst (λ (o : Option (Bor (List ℕ))). IfSome o (λ t. link_target page next ≡ t.now)) (sym next_is) (target_there page next);
        count = sym count_is;
        few = few;
        version = sym version_is;
        early = early;
        safe = record {
          graph = web_more page (codes "#metadata") page_web refl refl;
          page = page_web;
          first = first_web;
          base = base_web;
          template = template_ascii base template base_web template_of;
          next = target_web page next page_web next_web;
          previous = target_web page previous page_web previous_web;
        };
        short = subst (λ (o : Option (Bor (List ℕ))). length (canon (metadata (is_some o) (is_some previous) m)) ≤ LONGEST_READ) (sym next_is) (subst (λ (l : List ℕ). length l ≤ LONGEST_READ) lines_are short);
      }
