-- The path and the query of a target.
use Rattle.std.proofs.Common.{◌≡◌, ℕ, List, ◌++◌, take, drop}
use Rattle.template_fill.specs.ReadAddress.{path_of, query_of}

-- the first mark stands at a place, or behind it
pub record IsBefore (target : List ℕ) (i : ℕ) : Type 0 where
  pub path : take i target ++ path_of (drop i target) ≡ path_of target
  pub query : query_of (drop i target) ≡ query_of target
