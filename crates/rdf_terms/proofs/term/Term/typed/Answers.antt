use Rattle.std.proofs.Common.{◌≡◌, true, false, sym, ◌∙◌}
use Rattle.rdf_terms.proofs.Types.{lang_is_iri}
use Rattle.rdf_terms.proofs.term.Term.typed.Goals as goal

never : true ≡ false → ⊥
never e = cc

pub returns-then-is_lang_string-clause-only_iri : goal.returns-then-is_lang_string-clause-only_iri
returns-then-is_lang_string-clause-only_iri c = λ e. absurd (never (sym (lang_is_iri c.args.datatype.now (sym c.if-is_lang_string.ensures)) ∙ e))
