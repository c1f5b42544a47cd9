use Rattle.std.proofs.Common.{◌≡◌, ◌++◌, ap, sym, ◌∙◌}
use Rattle.rdf_terms.specs.Canon.{canon}
use Rattle.generated_data.specs.Generated.{names, cities, about}
use Rattle.generated_data.proofs.Texts.{about_text}
use Rattle.generated_data.proofs.lines.add_person.Goals as goal

pub returns : goal.returns
returns c =
    let e : c.add_name.new.buffer.items ++ canon (cities c.args.person) ≡ c.args.buffer.now.items ++ canon (about c.args.persons c.args.person)
    = ap (λ l. l ++ canon (cities c.args.person)) (c.in_ok-add_name.ensures ∙ ap (λ l. l ++ canon (names c.args.person)) c.in_ok-add_knows.ensures)
    ∙ about_text c.args.persons c.args.person c.args.buffer.now.items in
    rw (sym e) c.add_city.ensures
