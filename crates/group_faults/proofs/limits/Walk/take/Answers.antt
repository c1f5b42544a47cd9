use Rattle.std.proofs.Common.{◌≡◌, ◌+◌, ◌∙◌, ℕ, true, false, ap, sym, subst, get_or}
use Rattle.query_words.specs.declared.word.Word.{Word}
use Rattle.group_faults.specs.Signs.{sign_of, is_other}
use Rattle.group_faults.specs.Faults.{triples_in, place_at}
use Rattle.group_faults.specs.Walks.{runs_from}
use Rattle.group_faults.proofs.Runs.{other_taken, sign_taken, none_weaker}
use Rattle.group_faults.proofs.limits.Walk.take.Goals as goal

pub returns-then-is_other-clause-within : goal.returns-then-is_other-clause-within
returns-then-is_other-clause-within c = λ iri names.
    let w = c.index-words-i.result in
    let there : is_other (sign_of (get_or c.args.words.now c.args.i w).value) ≡ true = ap is_other (sym c.sign_of.ensures) ∙ sym c.is_other.ensures ∙ c.if-is_other.true in
    let other : is_other (sign_of w.value) ≡ true = subst (λ (v : Word). is_other (sign_of v.value) ≡ true) (sym c.index-words-i.is) there in
    other_taken c.args.words.now c.args.self.now.from c.args.i w c.args.self.now.left c.requires.from c.requires.within c.index-words-i.is other iri names

pub returns-clause-within : goal.returns-clause-within
returns-clause-within c =
    let w = c.index-words-i.result in
    let ws = c.args.words.now in
    let i = c.args.i in
    let there : is_other (sign_of (get_or ws i w).value) ≡ false = ap is_other (sym c.sign_of.ensures) ∙ sym c.is_other.ensures ∙ c.if-is_other.false in
    let sign : is_other (sign_of w.value) ≡ false = subst (λ (v : Word). is_other (sign_of v.value) ≡ false) (sym c.index-words-i.is) there in
    none_weaker c.count.result
    (λ h iri names.
    let s = sign_taken ws c.args.self.now.from i w c.args.self.now.left c.count.new.self.left c.requires.within c.index-words-i.is sign h iri names in
    (s.0, ap (λ (n : ℕ). place_at c.count.new.self.left (triples_in iri s.0 (runs_from n (i + 1) ws))) c.count.ensures.from ∙ s.1)) c.count.ensures.within
