use Rattle.std.proofs.Common.{sym, ◌∙◌}
use Rattle.std.proofs.lemmas.Bool.{true≢false}
use Rattle.rdf_terms.specs.EqualityLaws.{term_decides}
use Rattle.triple_table.proofs.Ranked.{last_is, some_terms}
use Rattle.triple_table.proofs.ranking.is_last.Goals as goal

pub returns-clause-yes : goal.returns-clause-yes
returns-clause-yes c = λ h. (
  some_terms c.args.terms.now c.if-count-eq0.false,
  λ n m. last_is c.args.terms.now c.index-terms-count.result c.if-count-eq0.false n m ∙ (term_decides _ c.args.term.now).0 (sym c.eq.ensures ∙ h),
)

pub returns-clause-no : goal.returns-clause-no
returns-clause-no c = λ h n m e.
    true≢false (sym ((term_decides _ c.args.term.now).1 (sym (last_is c.args.terms.now c.index-terms-count.result c.if-count-eq0.false n m) ∙ e)) ∙ sym c.eq.ensures ∙ h)
