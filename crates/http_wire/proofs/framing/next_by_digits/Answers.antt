use Rattle.std.proofs.Common.{ℕ, sym, ap, ◌∙◌}
use Rattle.tpf_base.specs.HttpReply.{body_place, Sized}
use Rattle.std.specs.Prelude.{Some}
use Rattle.http_wire.specs.Places.{announced}
use Rattle.http_wire.proofs.FramingLemmas.{place_over, place_empty, place_sized}
use Rattle.http_wire.proofs.framing.next_by_digits.Goals as goal

pub returns-in-None : goal.returns-in-None
returns-in-None c = place_over c.args.limit _ c.args.keeps c.in-None.ensures

pub returns-then-n-eq0 : goal.returns-then-n-eq0
returns-then-n-eq0 c = place_empty c.args.limit c.args.keeps ∙ ap (λ (n : ℕ). body_place c.args.limit (announced c.args.keeps (Some (Sized n)))) (sym c.if-n-eq0.true ∙ c.in-Some.ensures.0)

pub returns-else-n-eq0 : goal.returns-else-n-eq0
returns-else-n-eq0 c = place_sized c.args.limit c.in-Some.n c.args.keeps c.in-Some.ensures.1 c.if-n-eq0.false ∙ ap (λ (n : ℕ). body_place c.args.limit (announced c.args.keeps (Some (Sized n)))) c.in-Some.ensures.0
