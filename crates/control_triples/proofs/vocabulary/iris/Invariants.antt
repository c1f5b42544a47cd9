use Rattle.std.proofs.Common.{◌≡◌, take}
use Rattle.control_triples.specs.Vocabulary.{iris_of}
use Rattle.control_triples.proofs.vocabulary.iris.Given as goal

abbrev pub invariant-loop-text : goal.invariant-loop-text
invariant-loop-text l = l.terms.items ≡ iris_of (take l.text-index l.texts)
