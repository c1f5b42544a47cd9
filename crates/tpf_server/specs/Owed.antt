-- What is owed on a connection.
use Rattle.std.specs.Prelude.{ℕ, ◌-◌, ◌≡◌, ◌≤◌, ◌⊎◌, ◌||◌, Bool, false, nat_lt, List, ◌++◌, length}
use Rattle.std.specs.List.{AllByRecursion, flat_map}
use Rattle.tpf_base.specs.declared.limits.TheConstants.{ENOUGH_PENDING}
use Rattle.template_fill.specs.Metadata.{Config}
use Rattle.template_fill.specs.HttpAnswer.{answer_text}
use Rattle.page_responses.specs.declared.rest.Rest.{Rest}
use Rattle.page_responses.specs.Rests.{IsWithin, is_left, rest_text}
use Rattle.tpf_server.specs.declared.limits.TheConstants.{MOST_PENDING}
use Rattle.tpf_server.specs.declared.asked.Queued.{Queued}
use Rattle.tpf_server.specs.declared.owed.Debt.{Debt}
use Rattle.tpf_server.specs.Asked.{IsAsked, answer_of}

-- the text of an answer that is not begun
abbrev pub queued_text : Config → Queued → List ℕ
queued_text config queued = answer_text (answer_of config queued.asking) queued.without_body queued.closes

-- of several answers
abbrev pub queue_text : Config → List Queued → List ℕ
queue_text config waiting = flat_map (queued_text config) waiting

-- what is left of an answer, and the answers behind it
unfoldable pub debt_text : Config → Rest → List Queued → List ℕ
debt_text config rest waiting = rest_text rest ++ queue_text config waiting

-- something is owed
abbrev pub debt_left : Rest → List Queued → Bool
debt_left rest waiting = is_left rest || nat_lt 0 (length waiting)

-- the rest is one of its table, and what waits can be answered
pub record Fits (rest : Rest) (waiting : List Queued) : Type 0 where
  pub range : IsWithin rest
  pub asked : AllByRecursion (λ (queued : Queued). IsAsked queued.asking) waiting

-- a first part of the text was appended; behind the bytes that were taken stand at most MOST_PENDING, where no more stood there before
pub record Fills (debt left : List ℕ) (taken : ℕ) (before after : List ℕ) : Type 0 where
  pub part : List ℕ
  pub owed : debt ≡ part ++ left
  pub made : after ≡ before ++ part
  pub few : length before - taken ≤ MOST_PENDING → length after - taken ≤ MOST_PENDING

-- parts were appended until at least ENOUGH_PENDING bytes stand behind those that were taken, or nothing is owed
pub record FillsUp (config : Config) (taken : ℕ) (old new : Debt) (before after : List ℕ) : Type 0 where
  pub fills : Fills (debt_text config old.rest old.waiting.items) (debt_text config new.rest new.waiting.items) taken before after
  pub enough : (ENOUGH_PENDING ≤ length after - taken) ⊎ (debt_left new.rest new.waiting.items ≡ false)
  pub fits : Fits new.rest new.waiting.items
