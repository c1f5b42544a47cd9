use Rattle.std.proofs.Common.{List, ℕ, ap, subst, sym}
use Rattle.metadata_quads.specs.TermTexts.{IsTextOf, term_as, term_of}
use Rattle.metadata_quads.proofs.term_text.of_texts.Goals as goal

pub returns-clause-term : goal.returns-clause-term
unfolding term_of
returns-clause-term c = ap (term_as c.args.kind) c.new.ensures

pub returns-clause-text : goal.returns-clause-text
returns-clause-text c = record { text = subst (λ (l : List ℕ). IsTextOf c.args.kind l) (sym c.new.ensures) c.requires }
