-- The number is that of the name's place, or else that of the one that joins.
use Rattle.std.proofs.Common.{◌++◌, ◌∷◌, [], ℕ, Option, cond, length, sym, ap, ◌∙◌}
use Rattle.std.specs.Option.{unwrap_or, is_some}
use Rattle.std.proofs.lemmas.Result.{IfOk-weaker, IfOk-equal}
use Rattle.pattern_parser.proofs.names.Names.number.Goals as goal

pub place_of-requires : goal.place_of-requires
place_of-requires c = c.requires.numbered

pub push-requires-clause-numbered : goal.push-requires-clause-numbered
push-requires-clause-numbered c = c.requires.numbered

pub push-requires-clause-few : goal.push-requires-clause-few
push-requires-clause-few c = c.requires.few

pub push-requires-clause-new : goal.push-requires-clause-new
push-requires-clause-new c = sym c.in-None.ensures

pub returns-in-Some-clause-number : goal.returns-in-Some-clause-number
returns-in-Some-clause-number c = ap (λ (o : Option ℕ). unwrap_or o (length c.args.self.now.texts.items)) c.in-Some.ensures

pub returns-in-Some-clause-names : goal.returns-in-Some-clause-names
returns-in-Some-clause-names c =
    let texts = c.args.self.now.texts.items in
    ap (λ (o : Option ℕ). cond (is_some o) texts (texts ++ c.args.text.now ∷ [])) c.in-Some.ensures

pub returns-in-Some-clause-numbered : goal.returns-in-Some-clause-numbered
returns-in-Some-clause-numbered c = c.requires.numbered

pub returns-in-None-clause-number : goal.returns-in-None-clause-number
returns-in-None-clause-number c = IfOk-weaker c.push.result _ _ (λ n p. p ∙ ap (λ (o : Option ℕ). unwrap_or o (length c.args.self.now.texts.items)) c.in-None.ensures) c.push.ensures.number

pub returns-in-None-clause-names : goal.returns-in-None-clause-names
returns-in-None-clause-names c =
    let texts = c.args.self.now.texts.items in
    IfOk-equal c.push.result _ _ _ c.push.ensures.names (ap (λ (o : Option ℕ). cond (is_some o) texts (texts ++ c.args.text.now ∷ [])) c.in-None.ensures)

pub returns-in-None-clause-numbered : goal.returns-in-None-clause-numbered
returns-in-None-clause-numbered c = c.push.ensures.numbered
