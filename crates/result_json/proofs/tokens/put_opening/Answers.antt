use Rattle.std.proofs.Common.{List, [], ◌∷◌, ◌++◌, codes, ap, ◌∙◌, append_assoc}
use Rattle.std.proofs.lemmas.Result.{on_ok_weaker}
use Rattle.json.specs.Token.{Token, begin_object, begin_array, key}
use Rattle.result_json.specs.Pieces.{opening}
use Rattle.result_json.proofs.tokens.put_opening.Goals as goal

pub returns-clause-tokens : goal.returns-clause-tokens
unfolding opening
returns-clause-tokens c =
    let before = c.args.writer.now.tokens in
    let object = key (codes "results") ∷ begin_object ∷ [] in
    let array = key (codes "bindings") ∷ begin_array ∷ [] in
    on_ok_weaker c.open_array.result (λ h. h ∙ ap (λ (ts : List Token). ts ++ array) c.in_ok-open_object.ensures.tokens ∙ append_assoc before object array) c.open_array.ensures.tokens
