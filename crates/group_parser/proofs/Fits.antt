-- The patterns of a group name names that the query has, and hold no blank node.
use Rattle.std.proofs.Common.{ℕ, zero, suc, ◌≡◌, ◌+◌, ◌≤◌, length, List, [], ◌∷◌, ◌++◌, Option, refl, sym, ap, subst, arith}
use Rattle.std.specs.List.{AllByRecursion}
use Rattle.std.proofs.lemmas.List.{append-nil}
use Rattle.bgp_core.specs.declared.pattern.Pattern.{Pattern}
use Rattle.bgp_core.specs.Queries.{IsPatternOf}
use Rattle.query_words.specs.declared.word.Word.{Word}
use Rattle.pattern_parser.specs.Items.{names_after}
use Rattle.pattern_parser.proofs.Fits.{part_grows, patterns_fit, names_grow}
use Rattle.group_query.specs.Trees.{Tree, block, empty, optional, union, blocks_of, TreeFits}
use Rattle.group_parser.specs.Groups.{Element, Triples, Groups, Optional, joined, united, translated, Reading, IsBlock, AreUnions, AreElements, IsGroup}
use Rattle.group_parser.proofs.Walked.{block_is_read}

abbrev pub Iri : Type 0
Iri = List ℕ → Option (List ℕ)

-- ---- blocks

abbrev BlockFits : ℕ → List Pattern → Type 0
BlockFits count ps = AllByRecursion (IsPatternOf count) ps

pattern_grows : (m n : ℕ) (ps : List Pattern) → m ≤ n → BlockFits m ps → BlockFits n ps
pattern_grows m n [] l f = tt
pattern_grows m n (p ∷ ps) l f =
    (record { subject = part_grows m n p.subject l f.0.subject; predicate = part_grows m n p.predicate l f.0.predicate; object = part_grows m n p.object l f.0.object }, pattern_grows m n ps l f.1)

blocks_grow : (m n : ℕ) (bs : List (List Pattern)) → m ≤ n → AllByRecursion (λ ps. BlockFits m ps) bs → AllByRecursion (λ ps. BlockFits n ps) bs
blocks_grow m n [] l f = tt
blocks_grow m n (b ∷ bs) l f = (pattern_grows m n b l f.0, blocks_grow m n bs l f.1)

both_fit : (n : ℕ) (bs cs : List (List Pattern)) → AllByRecursion (λ ps. BlockFits n ps) bs → AllByRecursion (λ ps. BlockFits n ps) cs → AllByRecursion (λ ps. BlockFits n ps) (bs ++ cs)
both_fit n [] cs f g = g
both_fit n (b ∷ bs) cs f g = (f.0, both_fit n bs cs f.1 g)

tree_grows : (m n : ℕ) (t : Tree) → m ≤ n → TreeFits m t → TreeFits n t
tree_grows m n t l f = blocks_grow m n (blocks_of t) l f

pub blocks_joined : (a b : Tree) → blocks_of (joined a b) ≡ blocks_of a ++ blocks_of b
blocks_joined empty b = refl
blocks_joined a empty = sym (append-nil (blocks_of a))
blocks_joined a b = refl

joined_fits : (n : ℕ) (a b : Tree) → TreeFits n a → TreeFits n b → TreeFits n (joined a b)
joined_fits n a b f g = subst (λ (l : List (List Pattern)). AllByRecursion (λ ps. BlockFits n ps) l) (sym (blocks_joined a b)) (both_fit n (blocks_of a) (blocks_of b) f g)

-- ---- groups

abbrev pub Fits : List (List ℕ) → Tree → List (List ℕ) → Type 0
Fits names t names' = (length names ≤ length names') × TreeFits (length names') t

abbrev pub FitsGroups : Reading Tree → Type 0
FitsGroups G = (names : List (List ℕ)) (ws : List Word) (t : Tree) (names' : List (List ℕ)) → G names ws t names' → Fits names t names'

block_fits : (iri : Iri) (names : List (List ℕ)) (ws : List Word) (ps : List Pattern) (names' : List (List ℕ)) → IsBlock iri names ws ps names' → Fits names (block ps) names'
block_fits iri names ws ps names' b =
    let grows : length names ≤ length names' = subst (λ (l : List (List ℕ)). length names ≤ length l) (sym b.names_are) (names_grow names 0 ws) in
    let fits : BlockFits (length names') ps = subst (λ (l : List (List ℕ)). BlockFits (length l) ps) (sym b.names_are) (subst (λ (l : List Pattern). BlockFits (length (names_after names 0 ws)) l) (block_is_read iri names ws ps names' b) (patterns_fit iri names ws)) in
    (grows, (fits, tt))

unions_fit : (iri : Iri) (G : Reading Tree) → FitsGroups G → (ts : List Tree) (names : List (List ℕ)) (ws : List Word) (names' : List (List ℕ)) (t : Tree) → AreUnions iri G names ws ts names' → TreeFits (length names) t → Fits names (united t ts) names'
unions_fit iri G g [] names ws names' t m f = let e = ap length m.1 in (omega (arith, e), subst (λ (l : List (List ℕ)). TreeFits (length l) t) (sym m.1) f)
unions_fit iri G g (u ∷ ts) names ws names' t m f =
    let a = g names m.1 u m.3 m.6 in
    let fits : TreeFits (length m.3) (union t u) = both_fit (length m.3) (blocks_of t) (blocks_of u) (tree_grows (length names) (length m.3) t a.0 f) a.1 in
    let r = unions_fit iri G g ts m.3 m.2 names' (union t u) m.7 fits in
    let l = a.0 in
    let k = r.0 in
    (omega (arith, l, k), r.1)

elements_fit : (iri : Iri) (G : Reading Tree) → FitsGroups G → (es : List Element) (names : List (List ℕ)) (ws : List Word) (names' : List (List ℕ)) (t : Tree) → AreElements iri G names ws es names' → TreeFits (length names) t → Fits names (translated t es) names'
elements_fit iri G g [] names ws names' t m f = let e = ap length m.1 in (omega (arith, e), subst (λ (l : List (List ℕ)). TreeFits (length l) t) (sym m.1) f)
elements_fit iri G g (Triples ps ∷ es) names ws names' t m f =
    let a = block_fits iri names m.0 ps m.2 m.4 in
    let r = elements_fit iri G g es m.2 m.1 names' (joined t (block ps)) m.5 (joined_fits (length m.2) t (block ps) (tree_grows (length names) (length m.2) t a.0 f) a.1) in
    let l = a.0 in
    let k = r.0 in
    (omega (arith, l, k), r.1)
elements_fit iri G g (Groups first more ∷ es) names ws names' t m f =
    let first_fits = g names m.4.front first m.4.between m.4.is_first in
    let a = unions_fit iri G g more m.4.between m.4.unions m.2 first m.4.are_more first_fits.1 in
    let h = first_fits.0 in
    let j = a.0 in
    let grows : length names ≤ length m.2 = omega (arith, h, j) in
    let r = elements_fit iri G g es m.2 m.1 names' (joined t (united first more)) m.5 (joined_fits (length m.2) t (united first more) (tree_grows (length names) (length m.2) t grows f) a.1) in
    let k = r.0 in
    (omega (arith, grows, k), r.1)
elements_fit iri G g (Optional u ∷ es) names ws names' t m f =
    let a = g names m.4.group u m.2 m.4.is_group in
    let fits : TreeFits (length m.2) (optional t u) = both_fit (length m.2) (blocks_of t) (blocks_of u) (tree_grows (length names) (length m.2) t a.0 f) a.1 in
    let r = elements_fit iri G g es m.2 m.1 names' (optional t u) m.5 fits in
    let l = a.0 in
    let k = r.0 in
    (omega (arith, l, k), r.1)

pub group_fits : (n : ℕ) (iri : Iri) → FitsGroups (IsGroup iri n)
group_fits zero iri names ws t names' m = absurd m
group_fits (suc n) iri names ws t names' m =
    let r = elements_fit iri (IsGroup iri n) (group_fits n iri) m.elements names m.inner names' empty m.are_elements tt in
    (r.0, subst (λ (u : Tree). TreeFits (length names') u) (sym m.is) r.1)
