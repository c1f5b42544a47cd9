-- How the reader goes over the tokens of a group. It serves the reader and the proofs alone.
use Rattle.std.specs.Prelude.{ℕ, ◌-◌, take, drop, Bool, true, false, List, [], ◌∷◌, ◌++◌, Option, if◌then◌else◌}
use Rattle.bgp_core.specs.declared.pattern.Pattern.{Pattern}
use Rattle.query_words.specs.declared.word.Word.{Word}
use Rattle.pattern_parser.specs.Items.{names_after}
use Rattle.pattern_parser.specs.Triples.{block_patterns}
use Rattle.group_query.specs.declared.step.Step.{Step}
use Rattle.group_query.specs.declared.step.Step.TheVariants as steps
use Rattle.group_faults.specs.declared.sign.Sign.{Sign}
use Rattle.group_faults.specs.declared.sign.Sign.TheVariants as signs
use Rattle.group_faults.specs.Signs.{sign_of, is_other}
use Rattle.group_parser.specs.declared.walk.Opener.{Opener}
use Rattle.group_parser.specs.declared.walk.Opener.TheVariants as openers
use Rattle.group_parser.specs.declared.walk.Pending.{Pending}
use Rattle.group_parser.specs.declared.walk.Pending.TheVariants.{Nothing, Empty, Written}
use Rattle.group_parser.specs.declared.walk.Frame.{Frame}

-- where the reader stands: the steps so far, whether the innermost group is empty so far, the groups of its last part, what the next brace opens, and the groups around it, the innermost first
pub record Walking : Type 0 where
  pub steps : List Step
  pub is_empty : Bool
  pub pending : Pending
  pub next : Opener
  pub around : List Frame

abbrev pub begun : Walking
begun = record { steps = []; is_empty = true; pending = Nothing; next = openers.Part; around = [] }

-- the step of the empty group, where none of a group is written
abbrev pub empty_step : Bool → List Step
empty_step true = steps.Empty ∷ []
empty_step false = []

abbrev pub with_empty : Bool → Walking → Walking
with_empty b w = record w { steps = w.steps ++ empty_step b }

-- the step that joins written steps to a group
abbrev pub join_step : Bool → List Step
join_step true = []
join_step false = steps.Join ∷ []

abbrev pub joined : Walking → Walking
joined w = record w { steps = w.steps ++ join_step w.is_empty; is_empty = false }

abbrev pub no_pending : Walking → Walking
no_pending w = record w { pending = Nothing }

-- the last part is joined
abbrev pub settled_by : Pending → Walking → Walking
settled_by Written w = joined w
settled_by Nothing w = w
settled_by Empty w = w

abbrev pub settled : Walking → Walking
settled w = settled_by w.pending (no_pending w)

abbrev pub is_pending_empty : Pending → Bool
is_pending_empty Empty = true
is_pending_empty _ = false

-- what stands before a group is written
abbrev pub ready_by : Opener → Walking → Walking
ready_by openers.Part w = settled w
ready_by openers.Optional w = with_empty w.is_empty w
ready_by openers.Union w = with_empty (is_pending_empty w.pending) w

abbrev pub ready : Walking → Walking
ready w = ready_by w.next w

abbrev pub entered : Walking → Walking
entered w = record { steps = w.steps; is_empty = true; pending = Nothing; next = openers.Part; around = record { is_empty = w.is_empty; opener = w.next } ∷ w.around }

abbrev pub opened : Walking → Walking
opened w = entered (ready w)

-- the last step of the group of OPTIONAL or UNION
abbrev pub with_last : Step → Walking → Walking
with_last s w = record w { steps = (w.steps ++ empty_step w.is_empty) ++ s ∷ [] }

abbrev pub pending_by : Bool → Pending
pending_by true = Empty
pending_by false = Written

-- back in a group, by what the brace of the one inside had opened
abbrev pub left_by : Opener → Bool → Walking → Walking
left_by openers.Part outer w = record w { pending = pending_by w.is_empty; is_empty = outer }
left_by openers.Optional outer w = record (with_last steps.Optional w) { is_empty = false }
left_by openers.Union outer w = record (with_last steps.Union w) { is_empty = outer; pending = Written }

abbrev pub left : Frame → Walking → Walking
left f w = left_by f.opener f.is_empty w

abbrev pub closed_in : List Frame → Walking → Walking
closed_in [] w = w
closed_in (f ∷ around) w = left f (record w { around = around })

abbrev pub closed : Walking → Walking
closed w = closed_in (settled w).around (settled w)

abbrev pub with_sign : Sign → Walking → Walking
with_sign signs.Open w = opened w
with_sign signs.Close w = closed w
with_sign signs.Optional w = record (settled w) { next = openers.Optional }
with_sign signs.Union w = record w { next = openers.Union }
with_sign signs.Other w = w

-- one more block
abbrev pub written : Step → Walking → Walking
written s w = record w { steps = w.steps ++ s ∷ [] }

abbrev pub with_block : List Pattern → Walking → Walking
with_block ps w = joined (written (steps.Block ps) (settled w))

-- the patterns of a run of tokens are a block, unless there are none
abbrev pub with_patterns : List Pattern → Walking → Walking
with_patterns [] w = w
with_patterns (p ∷ ps) w = with_block (p ∷ ps) w

abbrev pub with_run : (List ℕ → Option (List ℕ)) → List (List ℕ) → List Word → Walking → Walking
with_run iri names run w = with_patterns (block_patterns iri names run) w

-- where the reader stands, and the names so far
pub record Walked : Type 0 where
  pub at : Walking
  pub names : List (List ℕ)

-- over some tokens, behind a run that is begun
abbrev pub walked : (List ℕ → Option (List ℕ)) → List (List ℕ) → Walking → List Word → List Word → Walked
walked iri names w run [] = record { at = with_run iri names run w; names = names_after names 0 run }
walked iri names w run (t ∷ ts) =
    if is_other (sign_of t.value) then walked iri names w (run ++ t ∷ []) ts
    else walked iri (names_after names 0 run) (with_sign (sign_of t.value) (with_run iri names run w)) [] ts

-- from the token at i on, where the run that is begun has the tokens from another on
abbrev pub walked_from : (List ℕ → Option (List ℕ)) → List (List ℕ) → Walking → ℕ → ℕ → List Word → Walked
walked_from iri names w from i ws = walked iri names w (take (i - from) (drop from ws)) (drop i ws)

abbrev pub whole_walk : (List ℕ → Option (List ℕ)) → List (List ℕ) → List Word → Walked
whole_walk iri names ws = walked iri names begun [] ws

abbrev pub finished : Walking → List Step
finished w = (settled w).steps ++ empty_step (settled w).is_empty

-- the steps and the names of the tokens of a group, behind these names
abbrev pub steps_read : (List ℕ → Option (List ℕ)) → List (List ℕ) → List Word → List Step
steps_read iri names ws = finished (whole_walk iri names ws).at

abbrev pub names_read : (List ℕ → Option (List ℕ)) → List (List ℕ) → List Word → List (List ℕ)
names_read iri names ws = (whole_walk iri names ws).names
