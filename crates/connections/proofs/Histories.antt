-- Histories of what is served.
use Rattle.std.proofs.Common.{◌+◌, ◌-◌, ◌≤◌, List, [], ◌∷◌, ◌++◌, replicate, refl, ap, ◌∙◌, length-append, arith}
use Rattle.std.proofs.lemmas.List.{length-replicate}
use Rattle.connections.specs.Versions.{Serving, IsHistory}

-- some history ends with what is served
pub some_history : {Data Settings : Type 0} (serving : Serving Data Settings) → 1 ≤ serving.version → (history : List Data) × IsHistory history serving
some_history serving first = (
  replicate (serving.version - 1) serving.data_set ++ serving.data_set ∷ [],
  record {
    count = length-append (replicate (serving.version - 1) serving.data_set) (serving.data_set ∷ []) ∙ ap (λ n. n + 1) (length-replicate (serving.version - 1) serving.data_set) ∙ omega (arith, first);
    before = replicate (serving.version - 1) serving.data_set;
    last = refl;
  },
)
