-- The nodes that the rows of a page become.
use Rattle.std.proofs.Common.{◌≡◌, ◌<◌, List, [], ◌∷◌, ◌++◌, length, map, ap, sym, ◌∙◌, append_assoc}
use Rattle.std.specs.List.{All, AllByRecursion}
use Rattle.std.proofs.lemmas.List.{map-append}
use Rattle.std.proofs.lemmas.List.Elements.{All-weaker}
use Rattle.bgp_core.specs.declared.pattern.Pattern.{Pattern}
use Rattle.bgp_core.specs.Solutions.{Places}
use Rattle.bgp_core.specs.Queries.{HasPlacesFor}
use Rattle.request_plan.specs.Blocks.{Cut, blocks}
use Rattle.request_plan.specs.Plans.{askable_rows, HavePlacesFor}
use Rattle.join_core.specs.Nodes.{NodeData, fresh}
use Rattle.join_core.specs.Levels.{Seed, seed_node}
use Rattle.join_core.specs.Shown.{IsBlockFor}
use Rattle.join_core.proofs.Lists.{both-all}
use Rattle.join_core.proofs.Over.{IsAskedFor, blocks-asked, blocks-have}

-- the blocks of rows that have places for the names of the patterns
pub blocks-fit : (cut : Cut) (ps : List Pattern) (rows : List Places) → HavePlacesFor ps rows → 0 < length ps → All (IsBlockFor ps) (blocks cut ps (askable_rows ps rows))
blocks-fit cut ps rows places some =
    let lists = blocks cut ps (askable_rows ps rows) in
    let each = both-all (IsAskedFor ps) (HavePlacesFor ps) lists (blocks-asked cut ps rows) (blocks-have (λ row. AllByRecursion (HasPlacesFor (length row)) ps) cut ps rows places) in
    All-weaker (λ (l : List Places). IsAskedFor ps l × HavePlacesFor ps l) (IsBlockFor ps) (λ l b. record { places = b.1; some_rows = b.0.0; some = some; askable = b.0.1 }) lists each

-- a block more is a node more
pub nodes-more : (ps qs : List Pattern) (seeds more : List Seed) (seed : Seed) (block : List Places) (rest items : List (List Places)) (whole : List NodeData) → more ≡ seeds ++ seed ∷ [] → seed ≡ record { rows = block; rest = qs } → qs ≡ ps → items ≡ block ∷ rest → map seed_node seeds ++ map (fresh ps) items ≡ whole → map seed_node more ++ map (fresh ps) rest ≡ whole
nodes-more ps qs seeds more seed block rest items whole pushed is same steps h =
    let one : seed_node seed ≡ fresh ps block = ap seed_node is ∙ ap (λ (l : List Pattern). fresh l block) same in
    ap (λ (l : List Seed). map seed_node l ++ map (fresh ps) rest) pushed
    ∙ ap (λ (l : List NodeData). l ++ map (fresh ps) rest) (map-append seed_node seeds (seed ∷ []))
    ∙ append_assoc (map seed_node seeds) (seed_node seed ∷ []) (map (fresh ps) rest)
    ∙ ap (λ (n : NodeData). map seed_node seeds ++ n ∷ map (fresh ps) rest) one
    ∙ ap (λ (l : List (List Places)). map seed_node seeds ++ map (fresh ps) l) (sym steps)
    ∙ h
