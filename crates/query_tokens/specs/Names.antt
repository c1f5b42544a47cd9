-- Whether the name that a text goes on with comes to a colon. It serves the reader and the proofs alone.
use Rattle.std.specs.Prelude.{ℕ, ⊤, ◌≡◌, ◌≤◌, ◌<◌, drop, Bool, true, false, not, ◌&&◌, List, [], ◌∷◌, if◌then◌else◌}
use Rattle.query_tokens.specs.declared.ahead.Run.{Run}
use Rattle.query_tokens.specs.declared.machine.State.{State}
use Rattle.query_tokens.specs.declared.machine.State.TheVariants.{Name, NameDots}
use Rattle.query_tokens.specs.Classes.{class_of}
use Rattle.query_tokens.specs.Sets.{is_in, name_char}
use Rattle.query_tokens.specs.declared.class.Class.TheVariants.{Colon, Dot}

-- after characters of a name, of which the last was '.' or not, characters of a name and '.' lead to ':' with no '.' before it
abbrev pub leads : Bool → List ℕ → Bool
leads dot [] = false
leads dot (c ∷ cs) = if is_in name_char (class_of c) then leads false cs else (if is_in (Dot ∷ []) (class_of c) then leads true cs else (is_in (Colon ∷ []) (class_of c) && not dot))

-- from one place to before another, the text leads to a colon or not, as is told
abbrev pub IsRun : List ℕ → Run → Type 0
IsRun cs r = (q : ℕ) → r.from ≤ q → q < r.end → leads false (drop q cs) ≡ r.leads

-- inside a prefix that is no word
abbrev pub IsInName : State → Type 0
IsInName Name = ⊤
IsInName NameDots = ⊤
IsInName _ = ⊥
