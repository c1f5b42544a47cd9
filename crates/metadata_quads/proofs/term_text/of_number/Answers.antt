use Rattle.std.proofs.Common.{List, ℕ, ◌∙◌, ap, subst, sym, append-nil}
use Rattle.tpf_base.specs.Decimals.{decimal_text}
use Rattle.metadata_quads.specs.TermTexts.{IsTextOf, term_as, term_of}
use Rattle.metadata_quads.proofs.term_text.of_number.Goals as goal

pub returns-clause-term : goal.returns-clause-term
unfolding term_of
returns-clause-term c = ap (term_as c.args.kind) (c.numbered.ensures ∙ append-nil (decimal_text c.args.number))

pub returns-clause-text : goal.returns-clause-text
returns-clause-text c =
    record { text = subst (λ (l : List ℕ). IsTextOf c.args.kind l) (sym (c.numbered.ensures ∙ append-nil (decimal_text c.args.number))) c.requires }
