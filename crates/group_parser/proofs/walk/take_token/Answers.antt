use Rattle.std.proofs.Common.{◌≡◌, ◌∙◌, true, ap, sym, subst, get_or}
use Rattle.std.specs.BTreeMap.{get_by_text}
use Rattle.query_words.specs.declared.word.Word.{Word}
use Rattle.group_faults.specs.Signs.{sign_of, is_other}
use Rattle.group_parser.proofs.Tokens.{other_walk}
use Rattle.group_parser.proofs.walk.take_token.Goals as goal

pub returns-then-is_other-clause-walk : goal.returns-then-is_other-clause-walk
returns-then-is_other-clause-walk c =
    let t = c.index-words-i.result in
    let ws = c.args.words.now in
    let there : is_other (sign_of (get_or ws c.args.i t).value) ≡ true = ap is_other (sym c.sign_of-sign.ensures) ∙ sym c.is_other.ensures ∙ c.if-is_other.true in
    let other : is_other (sign_of t.value) ≡ true = subst (λ (v : Word). is_other (sign_of v.value) ≡ true) (sym c.index-words-i.is) there in
    other_walk (λ q. get_by_text c.args.prefixes.now q) c.args.names.now.texts.items c.args.walk.now ws c.args.from c.args.i t c.requires.begun c.requires.within c.index-words-i.is other
