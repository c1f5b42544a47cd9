-- A form by the names that the code has. It serves the reading of words alone.
use Rattle.std.specs.Prelude.{List, map}
use Rattle.std.specs.Borrow.{Bor}
use Rattle.command_words.specs.Words.{Form, Text}

abbrev pub texts : List (Bor Text) → List Text
texts names = map (λ n. n.now) names

abbrev pub form_of : List (Bor Text) → List (Bor Text) → List (Bor Text) → Form
form_of positionals options flags = record { positionals = texts positionals; options = texts options; flags = texts flags }
