-- The versions that the start pages told.
use Rattle.std.specs.Prelude.{ℕ, List, [], ◌∷◌, if◌then◌else◌, bytes_eq, Option, None}
use Rattle.tpf_base.specs.Addresses.{Address, authority_of}
use Rattle.tpf_client.specs.declared.turns.Bounds.{Bounds}

-- the version that the page of the first start told that has the authority of an address; each address that is asked has the authority of a start, so the last of them is not compared
abbrev pub told_at : List Address → List (Option ℕ) → Address → Option ℕ
told_at starts [] address = None
told_at [] (version ∷ versions) address = version
told_at (start ∷ []) (version ∷ versions) address = version
told_at (start ∷ next ∷ starts) (version ∷ versions) address = if bytes_eq (authority_of start) (authority_of address) then version else told_at (next ∷ starts) versions address

abbrev pub told_in : Bounds → Address → Option ℕ
told_in bounds address = told_at bounds.starts.now bounds.versions.now address

-- the first of these versions
abbrev pub told_first : List (Option ℕ) → Option ℕ
told_first [] = None
told_first (version ∷ versions) = version
