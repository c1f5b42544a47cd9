-- A name that no command has.
use Rattle.std.proofs.Common.{◌≡◌, refl, Bool, true, false, List, None, codes}
use Rattle.std.specs.Str.{bytes_eq}
use Rattle.std.proofs.lemmas.Slice.Eq.{bytes_eq-Decides}
use Rattle.command_words.specs.Words.{Text}
use Rattle.command_words.specs.Commands.{command_by}

other_name : (name other : Text) → (name ≡ other → ⊥) → bytes_eq name other ≡ false
other_name name other differs = go (bytes_eq name other) refl
  where
    go : (b : Bool) → bytes_eq name other ≡ b → b ≡ false
    go true e = absurd (differs ((bytes_eq-Decides name other).0 e))
    go false e = refl

pub no_command : (name : Text) (words : List Text) → (name ≡ codes "local" → ⊥) → (name ≡ codes "query" → ⊥) → (name ≡ codes "federate" → ⊥) → (name ≡ codes "serve" → ⊥) → (name ≡ codes "make" → ⊥) → None ≡ command_by name words
no_command name words local query federate serve make = rw (other_name name (codes "local") local, other_name name (codes "query") query, other_name name (codes "federate") federate, other_name name (codes "serve") serve, other_name name (codes "make") make) refl
