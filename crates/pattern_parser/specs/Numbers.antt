-- What a list of names with a map of their numbers keeps. It serves the reader and the proofs alone.
use Rattle.std.specs.Prelude.{ℕ, ◌≡◌, false, List}
use Rattle.std.specs.BTreeMap.{get_by_text}
use Rattle.std.specs.List.{position_from}
use Rattle.std.specs.Str.{bytes_eq}
use Rattle.pattern_parser.specs.declared.names.Names.{Names}
use Rattle.pattern_parser.specs.Names.{anonymous}

-- the map has the first place of each text but that of an anonymous node
abbrev pub AreNumbered : Names → Type 0
AreNumbered n = (q : List ℕ) → bytes_eq q anonymous ≡ false → get_by_text n.places q ≡ position_from (bytes_eq q) 0 n.texts.items
