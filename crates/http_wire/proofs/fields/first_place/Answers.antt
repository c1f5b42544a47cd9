use Rattle.std.proofs.Common.{◌==◌, ◌∙◌, ℕ, ap, length, rules, tests}
use Rattle.std.specs.Prelude.{Option, unwrap_or}
use Rattle.std.proofs.lemmas.Iterator.{YieldsList-from_slice}
use Rattle.std.proofs.lemmas.Iterator.Search.{position_from_yields_List}
use Rattle.list_laws.proofs.Options.{place_or_length}
use Rattle.http_wire.proofs.FieldLemmas.{place_within}
use Rattle.http_wire.proofs.fields.first_place.Goals as goal

pub returns-clause-is : goal.returns-clause-is
returns-clause-is c =
    let found = position_from_yields_List (λ b. b == c.args.byte) _ _ _ c.position.ensures.ran (YieldsList-from_slice c.args.bytes.now c.iter.ensures.rest) (λ x b q k. search (rules, tests)) in
    c.unwrap_or.ensures ∙ ap (λ (o : Option ℕ). unwrap_or o (length c.args.bytes.now)) found ∙ place_or_length _ (length c.args.bytes.now) (place_within (λ b. b == c.args.byte) c.args.bytes.now)
