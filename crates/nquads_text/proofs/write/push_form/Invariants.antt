use Rattle.std.proofs.Common.{◌≡◌, ◌++◌, length}
use Rattle.list_laws.specs.Begins.{Begins}
use Rattle.rdf_terms.specs.Canon.{canonical_form}
use Rattle.nquads_text.proofs.write.push_form.Given as goal

abbrev pub invariant-loop-n : goal.invariant-loop-n
invariant-loop-n l = record {
  written : l.out.items ++ canonical_form l.rest ≡ l.initial.out.items ++ canonical_form l.form;
  front : Begins l.initial.out.items l.out.items;
}

abbrev pub decreases-loop-n : goal.decreases-loop-n
decreases-loop-n l = length l.rest
