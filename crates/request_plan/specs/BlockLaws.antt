-- That rows are cut into blocks.
use Rattle.std.specs.Prelude.{true, ◌≡◌, ◌<◌, ◌≤◌, List, [], ◌∷◌, length, map}
use Rattle.std.specs.List.{All, flat_map}
use Rattle.bgp_core.specs.declared.pattern.Pattern.{Pattern}
use Rattle.bgp_core.specs.Solutions.{Places}
use Rattle.request_plan.specs.Blocks.{Cut, all_fit, blocks}

-- no row is lost, none is doubled, each block has a row and at most so many, and what a block of several rows asks for has short targets
pub record AreBlocks (cut : Cut) (ps : List Pattern) (rows : List Places) : Type 0 where
  pub all : flat_map (λ block. block) (blocks cut ps rows) ≡ rows
  pub some : All (λ block. 0 < length block) (blocks cut ps rows)
  pub few : 0 < cut.most → All (λ block. length block ≤ cut.most) (blocks cut ps rows)
  pub short : All (λ block. 1 < length block → all_fit cut ps block ≡ true) (blocks cut ps rows)

abbrev pub BlocksAreCut : Type 0
BlocksAreCut = (cut : Cut) (ps : List Pattern) (rows : List Places) → AreBlocks cut ps rows

-- blocks of at most one row are the rows
abbrev pub BlocksOfOne : Type 0
BlocksOfOne = (cut : Cut) (ps : List Pattern) (rows : List Places) → cut.most ≡ 1 → blocks cut ps rows ≡ map (λ row. row ∷ []) rows
