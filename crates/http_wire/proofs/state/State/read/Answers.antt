use Rattle.std.proofs.Common.{ℕ, List, ◌∷◌, [], get_or, refl, ◌∙◌, sym, ap, arith}
use Rattle.http_wire.specs.Places.{place_of, line_behind, body_behind}
use Rattle.http_wire.proofs.ReadLemmas.{read_run, read_byte}
use Rattle.http_wire.proofs.state.State.read.Goals as goal

pub returns-then-n-gt0 : goal.returns-then-n-gt0
returns-then-n-gt0 c =
    let least = c.min-n.ensures in
    let room = c.body_room.ensures in
    let more = c.requires.more in
    read_run c.args.self.now _ c.args.bytes.now c.args.at c.min-n.result c.body_run.ensures.limit refl c.body_run.ensures.count c.requires.begins (omega arith) c.if-n-gt0.true (omega arith) c.requires.goes_on c.body_run.ensures.place

pub returns : goal.returns
returns c =
    read_byte c.args.self.now c.pass.new.self c.args.bytes.now c.args.at c.byte-part.result (c.pass.ensures.limit ∙ c.byte-part.ensures.limit)
    (λ e. c.pass.ensures.goes_on e ∙ c.byte-part.ensures.begins) c.pass.ensures.over (c.pass.ensures.count ∙ c.byte-part.ensures.count) c.requires.begins c.requires.more c.requires.goes_on
    (λ held body is count. c.pass.ensures.place _ _
    ∙ ap (λ (x : List ℕ). place_of c.byte-part.new.self (line_behind c.byte-part.result x) (body_behind c.byte-part.result body (get_or c.args.bytes.now c.args.at 0 ∷ []))) (sym c.part_of.ensures)
    ∙ c.byte-part.ensures.place held body (c.part_of.ensures ∙ is) count)
