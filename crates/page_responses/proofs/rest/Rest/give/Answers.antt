use Rattle.std.proofs.Common.{◌∙◌, ap, List, ℕ, ◌++◌}
use Rattle.page_responses.proofs.RestLaws.{given_status, given_words}
use Rattle.page_responses.proofs.StatusLaws.{body_is}
use Rattle.page_responses.proofs.rest.Rest.give.Goals as goal

pub returns-in_ok-extend_from_slice-in-Line-clause-ok : goal.returns-in_ok-extend_from_slice-in-Line-clause-ok
returns-in_ok-extend_from_slice-in-Line-clause-ok c =
    given_status c.args.self.now _ c.args.out.now.items c.extend_from_slice.new.self.items c.in-Line.is (c.in_ok-extend_from_slice-in-Line.ensures.items ∙ ap (λ (l : List ℕ). c.args.out.now.items ++ l) (c.as_bytes.ensures.value ∙ c.body.ensures ∙ body_is _))

pub returns-in_ok-extend_from_slice-in-Words-clause-ok : goal.returns-in_ok-extend_from_slice-in-Words-clause-ok
returns-in_ok-extend_from_slice-in-Words-clause-ok c =
    given_words c.args.self.now c.in-Words.text c.args.out.now.items c.extend_from_slice-in-Words.new.self.items c.in-Words.is c.requires.range (c.in_ok-extend_from_slice-in-Words.ensures.items ∙ ap (λ (l : List ℕ). c.args.out.now.items ++ l) (c.as_bytes-in-Words.ensures.value ∙ c.as_str.ensures.value))
