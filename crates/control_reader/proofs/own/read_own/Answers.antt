use Rattle.std.proofs.Common.{Some, refl, sym, subst}
use Rattle.control_reader.specs.Blanks.{TakesTriples}
use Rattle.control_reader.proofs.OwnPages.{own_page}
use Rattle.control_reader.proofs.own.read_own.Goals as goal

pub returns : goal.returns
returns c =
    let own = c.in-Some.own in
    let lines = c.in_ok-triples.ensures in
    own_page c.args.body.now c.args.address.now own lines.0
    (record { triples = c.from_vec.result; count = own.count; next = c.in_ok-next.next; form = c.in_ok-form.form; version = Some own.version })
    c.in-Some.ensures lines.1 (subst (TakesTriples lines.0) (sym c.from_vec.ensures) lines.2) c.in_ok-form.ensures c.in_ok-next.ensures refl refl
