-- The tokens that cut a group into blocks and parts.
use Rattle.std.specs.Prelude.{Bool, true, false, List, [], ◌∷◌, ◌++◌, if◌then◌else◌}
use Rattle.query_words.specs.declared.word.Value.{Value}
use Rattle.query_words.specs.declared.word.Value.TheVariants as values
use Rattle.query_words.specs.declared.word.Word.{Word}
use Rattle.group_faults.specs.declared.sign.Sign.{Sign}
use Rattle.group_faults.specs.declared.sign.Sign.TheVariants as signs

-- a brace, OPTIONAL, UNION, or none of them
abbrev pub sign_of : Value → Sign
sign_of values.OpenBrace = signs.Open
sign_of values.CloseBrace = signs.Close
sign_of values.OptionalWord = signs.Optional
sign_of values.UnionWord = signs.Union
sign_of _ = signs.Other

abbrev pub is_other : Sign → Bool
is_other signs.Other = true
is_other _ = false

-- the runs of tokens between them, where this run is begun
abbrev pub runs_after : List Word → List Word → List (List Word)
runs_after run [] = run ∷ []
runs_after run (w ∷ ws) = if is_other (sign_of w.value) then runs_after (run ++ w ∷ []) ws else run ∷ runs_after [] ws

abbrev pub runs_of : List Word → List (List Word)
runs_of ws = runs_after [] ws
