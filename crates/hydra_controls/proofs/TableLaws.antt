-- The statements of the metadata by their places.
use Rattle.std.proofs.Common.{◌≡◌, ℕ, ◌+◌, ◌-◌, ◌<◌, ◌≤◌, Bool, true, false, nat_lt, List, [], ◌∷◌, ◌++◌, length, refl, sym, ap, ◌∙◌, arith, append_assoc, append-nil, length-append, if◌then◌else◌}
use Rattle.std.specs.Prelude.{codes, slice_index_or}
use Rattle.std.proofs.lemmas.Bool.{lt-ltb, le-ltb, ne_eqb}
use Rattle.std.proofs.lemmas.List.{get_or-append-add, get_or_append_left}
use Rattle.rdf_terms.specs.declared.term.Quad.{Quad}
use Rattle.tpf_base.specs.Decimals.{decimal_text}
use Rattle.template_fill.specs.Pages.{page_pair}
use Rattle.template_fill.specs.Metadata.{graph_at, topic_quads, form_quads, mapping_quads, count_quads, link_quads, version_quads}
use Rattle.hydra_controls.specs.declared.facts.PageFacts.{PageFacts}
use Rattle.hydra_controls.specs.Facts.{addresses_on, closing_of, counts_of, form_of, links_of, mappings_of, mark_of, next_of, previous_of, quads_of, topic_of, version_of}

-- ---- the address of a page

pub page_1 : (first name : List ℕ) (mark k : ℕ) → k ≡ 1 → first ++ name ≡ (first ++ page_pair mark k) ++ name
page_1 first name mark k is = ap (λ (l : List ℕ). l ++ name) (sym (append-nil first) ∙ ap (λ (n : ℕ). first ++ page_pair mark n) (sym is))

pair_is : (mark k : ℕ) → (k ≡ 1 → ⊥) → mark ∷ (codes "page=" ++ decimal_text k) ≡ page_pair mark k
pair_is mark k other = ap (λ (b : Bool). if b then [] else mark ∷ (codes "page=" ++ decimal_text k)) (sym (ne_eqb k 1 other))

pub page_above : (first middle name : List ℕ) (fixed : Bool) (k : ℕ) → (k ≡ 1 → ⊥) → middle ≡ mark_of fixed ∷ codes "page="
    → first ++ (middle ++ (decimal_text k ++ name)) ≡ (first ++ page_pair (mark_of fixed) k) ++ name
page_above first middle name fixed k other is =
    ap (λ (l : List ℕ). first ++ (l ++ (decimal_text k ++ name))) is
    ∙ ap (λ (l : List ℕ). first ++ (l ++ name)) (pair_is (mark_of fixed) k other)
    ∙ sym (append_assoc first (page_pair (mark_of fixed) k) name)

-- ---- parts of a list

pub behind : (xs ys : List Quad) (n i j : ℕ) (d : Quad) → length xs ≡ n → i ≡ n + j → slice_index_or (xs ++ ys) i d ≡ slice_index_or ys j d
behind xs ys n i j d size is =
    ap (λ (k : ℕ). slice_index_or (xs ++ ys) k d) (is ∙ ap (λ (k : ℕ). k + j) (sym size)) ∙ get_or-append-add xs ys j d

pub before : (xs ys : List Quad) (i : ℕ) (d : Quad) → i < length xs → slice_index_or (xs ++ ys) i d ≡ slice_index_or xs i d
before xs ys i d within = get_or_append_left xs ys d i within

topic_size : (f : PageFacts) → length (topic_of f) ≡ 3
unfolding topic_quads
topic_size f = refl

form_size : (f : PageFacts) → length (form_of f) ≡ 2
unfolding form_quads
form_size f = refl

mappings_size : (f : PageFacts) → length (mappings_of f) ≡ 9
unfolding mapping_quads
mappings_size f = refl

counts_size : (f : PageFacts) → length (counts_of f) ≡ 4
unfolding count_quads
counts_size f = refl

version_size : (f : PageFacts) → length (version_of f) ≡ 1
unfolding version_quads
version_size f = refl

link_size : (there : Bool) (graph page name target : List ℕ) → length (link_quads there graph page name target) ≡ (if there then 1 else 0)
unfolding link_quads
link_size true graph page name target = refl
link_size false graph page name target = refl

closing_size : (f : PageFacts) → length (closing_of f) ≡ (if nat_lt 1 f.number then 1 else 0) + 1
unfolding closing_of
closing_size f = omega (arith, length-append (previous_of f) (version_of f), version_size f, link_size (nat_lt 1 f.number) (graph_at (addresses_on f)) (addresses_on f).page (codes "previous") (addresses_on f).previous)

links_size : (f : PageFacts) → length (links_of f) ≡ (if nat_lt f.number f.last then 1 else 0) + ((if nat_lt 1 f.number then 1 else 0) + 1)
unfolding links_of
links_size f = omega (arith, length-append (next_of f) (closing_of f), closing_size f, link_size (nat_lt f.number f.last) (graph_at (addresses_on f)) (addresses_on f).page (codes "next") (addresses_on f).next)

parts_size : (f : PageFacts) → length (quads_of f) ≡ 18 + length (links_of f)
unfolding quads_of
parts_size f =
    omega (arith, length-append (topic_of f) (form_of f ++ (mappings_of f ++ (counts_of f ++ links_of f))), length-append (form_of f) (mappings_of f ++ (counts_of f ++ links_of f)), length-append (mappings_of f) (counts_of f ++ links_of f), length-append (counts_of f) (links_of f), topic_size f, form_size f, mappings_size f, counts_size f)

pub quads_size : (f : PageFacts) (next previous : ℕ) → next ≡ (if nat_lt f.number f.last then 1 else 0) → previous ≡ (if nat_lt 1 f.number then 1 else 0) → 19 + next + previous ≡ length (quads_of f)
quads_size f next previous a b = omega (arith, a, b, parts_size f, links_size f)

-- ---- where each part stands

pub in_topic : (f : PageFacts) (i : ℕ) (d : Quad) → i < 3 → slice_index_or (quads_of f) i d ≡ slice_index_or (topic_of f) i d
unfolding quads_of
in_topic f i d within = before (topic_of f) (form_of f ++ (mappings_of f ++ (counts_of f ++ links_of f))) i d (omega (arith, within, topic_size f))

behind_topic : (f : PageFacts) (i j : ℕ) (d : Quad) → i ≡ 3 + j → slice_index_or (quads_of f) i d ≡ slice_index_or (form_of f ++ (mappings_of f ++ (counts_of f ++ links_of f))) j d
unfolding quads_of
behind_topic f i j d is = behind (topic_of f) (form_of f ++ (mappings_of f ++ (counts_of f ++ links_of f))) 3 i j d (topic_size f) is

pub in_form : (f : PageFacts) (i j : ℕ) (d : Quad) → i ≡ 3 + j → j < 2 → slice_index_or (quads_of f) i d ≡ slice_index_or (form_of f) j d
in_form f i j d is within = behind_topic f i j d is ∙ before (form_of f) (mappings_of f ++ (counts_of f ++ links_of f)) j d (omega (arith, within, form_size f))

behind_form : (f : PageFacts) (i j : ℕ) (d : Quad) → i ≡ 5 + j → slice_index_or (quads_of f) i d ≡ slice_index_or (mappings_of f ++ (counts_of f ++ links_of f)) j d
behind_form f i j d is = behind_topic f i (2 + j) d (omega (arith, is)) ∙ behind (form_of f) (mappings_of f ++ (counts_of f ++ links_of f)) 2 (2 + j) j d (form_size f) refl

pub in_mappings : (f : PageFacts) (i j : ℕ) (d : Quad) → i ≡ 5 + j → j < 9 → slice_index_or (quads_of f) i d ≡ slice_index_or (mappings_of f) j d
in_mappings f i j d is within = behind_form f i j d is ∙ before (mappings_of f) (counts_of f ++ links_of f) j d (omega (arith, within, mappings_size f))

behind_mappings : (f : PageFacts) (i j : ℕ) (d : Quad) → i ≡ 14 + j → slice_index_or (quads_of f) i d ≡ slice_index_or (counts_of f ++ links_of f) j d
behind_mappings f i j d is = behind_form f i (9 + j) d (omega (arith, is)) ∙ behind (mappings_of f) (counts_of f ++ links_of f) 9 (9 + j) j d (mappings_size f) refl

pub in_counts : (f : PageFacts) (i j : ℕ) (d : Quad) → i ≡ 14 + j → j < 4 → slice_index_or (quads_of f) i d ≡ slice_index_or (counts_of f) j d
in_counts f i j d is within = behind_mappings f i j d is ∙ before (counts_of f) (links_of f) j d (omega (arith, within, counts_size f))

pub in_links : (f : PageFacts) (i j : ℕ) (d : Quad) → i ≡ 18 + j → slice_index_or (quads_of f) i d ≡ slice_index_or (links_of f) j d
in_links f i j d is = behind_mappings f i (4 + j) d (omega (arith, is)) ∙ behind (counts_of f) (links_of f) 4 (4 + j) j d (counts_size f) refl

pub links_within : (f : PageFacts) (i : ℕ) → i < length (quads_of f) → 18 ≤ i → i - 18 < length (links_of f)
links_within f i within high = omega (arith, within, high, parts_size f)

-- ---- links and the version

module _ (there : Bool) (graph page name target : List ℕ) (rest : List Quad) (d : Quad) where
  -- the first of two lists where the link is there
  pub link_first : (q : Quad) (i : ℕ) → there ≡ true → i ≡ 0 → link_quads true graph page name target ≡ q ∷ [] → slice_index_or (link_quads there graph page name target ++ rest) i d ≡ q
  link_first q i is zero one =
      ap (λ (b : Bool). slice_index_or (link_quads b graph page name target ++ rest) i d) is
      ∙ ap (λ (l : List Quad). slice_index_or (l ++ rest) i d) one
      ∙ ap (λ (n : ℕ). slice_index_or (q ∷ rest) n d) zero

  pub link_passed : (i j : ℕ) → there ≡ true → i ≡ 1 + j → slice_index_or (link_quads there graph page name target ++ rest) i d ≡ slice_index_or rest j d
  link_passed i j is next = behind (link_quads there graph page name target) rest 1 i j d (link_size there graph page name target ∙ ap (λ (b : Bool). if b then 1 else 0) is) next

  pub link_missing : (i : ℕ) → there ≡ false → slice_index_or (link_quads there graph page name target ++ rest) i d ≡ slice_index_or rest i d
  link_missing i is = behind (link_quads there graph page name target) rest 0 i i d (link_size there graph page name target ∙ ap (λ (b : Bool). if b then 1 else 0) is) (omega arith)

-- the version that stands alone
version_alone : (f : PageFacts) (q : Quad) (i : ℕ) (d : Quad) → version_of f ≡ q ∷ [] → i ≡ 0 → slice_index_or (version_of f) i d ≡ q
version_alone f q i d one zero = ap (λ (l : List Quad). slice_index_or l i d) one ∙ ap (λ (n : ℕ). slice_index_or (q ∷ []) n d) zero

previous_size : (f : PageFacts) → 1 < f.number → length (closing_of f) ≡ 2
previous_size f some = closing_size f ∙ ap (λ (b : Bool). (if b then 1 else 0) + 1) (lt-ltb 1 f.number some)

no_previous_size : (f : PageFacts) → f.number ≤ 1 → length (closing_of f) ≡ 1
no_previous_size f none = closing_size f ∙ ap (λ (b : Bool). (if b then 1 else 0) + 1) (le-ltb 1 f.number none)

pub previous_first : (f : PageFacts) (q : Quad) (i : ℕ) (d : Quad) → 1 < f.number → i ≡ 0
    → link_quads true (graph_at (addresses_on f)) (addresses_on f).page (codes "previous") (addresses_on f).previous ≡ q ∷ [] → slice_index_or (closing_of f) i d ≡ q
unfolding closing_of
previous_first f q i d some zero one =
    link_first (nat_lt 1 f.number) (graph_at (addresses_on f)) (addresses_on f).page (codes "previous") (addresses_on f).previous (version_of f) d q i (lt-ltb 1 f.number some) zero one

pub version_behind : (f : PageFacts) (q : Quad) (i : ℕ) (d : Quad) → 1 < f.number → (i ≡ 0 → ⊥) → i < length (closing_of f) → version_of f ≡ q ∷ [] → slice_index_or (closing_of f) i d ≡ q
unfolding closing_of
version_behind f q i d some other within one =
    let last : i ≡ 1 + 0 = omega (arith, other, within, previous_size f some) in
    link_passed (nat_lt 1 f.number) (graph_at (addresses_on f)) (addresses_on f).page (codes "previous") (addresses_on f).previous (version_of f) d i 0 (lt-ltb 1 f.number some) last
    ∙ version_alone f q 0 d one refl

pub version_first : (f : PageFacts) (q : Quad) (i : ℕ) (d : Quad) → f.number ≤ 1 → i < length (closing_of f) → version_of f ≡ q ∷ [] → slice_index_or (closing_of f) i d ≡ q
unfolding closing_of
version_first f q i d none within one =
    link_missing (nat_lt 1 f.number) (graph_at (addresses_on f)) (addresses_on f).page (codes "previous") (addresses_on f).previous (version_of f) d i (le-ltb 1 f.number none)
    ∙ version_alone f q i d one (omega (arith, within, no_previous_size f none))

next_size : (f : PageFacts) → f.number < f.last → length (links_of f) ≡ 1 + length (closing_of f)
next_size f some = links_size f ∙ ap (λ (b : Bool). (if b then 1 else 0) + ((if nat_lt 1 f.number then 1 else 0) + 1)) (lt-ltb f.number f.last some) ∙ ap (λ (n : ℕ). 1 + n) (sym (closing_size f))

no_next_size : (f : PageFacts) → f.last ≤ f.number → length (links_of f) ≡ length (closing_of f)
no_next_size f none = omega (arith, links_size f, ap (λ (b : Bool). (if b then 1 else 0) + ((if nat_lt 1 f.number then 1 else 0) + 1)) (le-ltb f.number f.last none), closing_size f)

pub next_first : (f : PageFacts) (q : Quad) (i : ℕ) (d : Quad) → f.number < f.last → i ≡ 0
    → link_quads true (graph_at (addresses_on f)) (addresses_on f).page (codes "next") (addresses_on f).next ≡ q ∷ [] → slice_index_or (links_of f) i d ≡ q
unfolding links_of
next_first f q i d some zero one =
    link_first (nat_lt f.number f.last) (graph_at (addresses_on f)) (addresses_on f).page (codes "next") (addresses_on f).next (closing_of f) d q i (lt-ltb f.number f.last some) zero one

pub behind_next : (f : PageFacts) (q : Quad) (i : ℕ) (d : Quad) → f.number < f.last → (i ≡ 0 → ⊥) → slice_index_or (closing_of f) (i - 1) d ≡ q → slice_index_or (links_of f) i d ≡ q
unfolding links_of
behind_next f q i d some other is =
    link_passed (nat_lt f.number f.last) (graph_at (addresses_on f)) (addresses_on f).page (codes "next") (addresses_on f).next (closing_of f) d i (i - 1) (lt-ltb f.number f.last some) (omega (arith, other)) ∙ is

pub without_next : (f : PageFacts) (q : Quad) (i : ℕ) (d : Quad) → f.last ≤ f.number → slice_index_or (closing_of f) i d ≡ q → slice_index_or (links_of f) i d ≡ q
unfolding links_of
without_next f q i d none is =
    link_missing (nat_lt f.number f.last) (graph_at (addresses_on f)) (addresses_on f).page (codes "next") (addresses_on f).next (closing_of f) d i (le-ltb f.number f.last none) ∙ is

pub behind_next_within : (f : PageFacts) (i : ℕ) → f.number < f.last → (i ≡ 0 → ⊥) → i < length (links_of f) → i - 1 < length (closing_of f)
behind_next_within f i some other within = omega (arith, other, within, next_size f some)

pub without_next_within : (f : PageFacts) (i : ℕ) → f.last ≤ f.number → i < length (links_of f) → i < length (closing_of f)
without_next_within f i none within = omega (arith, within, no_next_size f none)
