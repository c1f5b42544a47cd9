-- The first ask that waits is begun, or lost.
use Rattle.std.proofs.Common.{refl, ap}
use Rattle.exchange.specs.Exchanges.{Exchanging}
use Rattle.request_pool.proofs.Steps.{begun, begun_err, room_as}
use Rattle.request_pool.proofs.pool.Pool.begin.Goals as goal

pub returns-in-Ok-clause-ok : goal.returns-in-Ok-clause-ok
returns-in-Ok-clause-ok c = begun _ _ _ _ c.self.view_is (record {
  first = c.in-Some.field-0;
  rest = c.pop_front.new.self.items;
  link = c.take_link-link.result;
  spare = c.take_link-link.new.spare.items;
  room = room_as _ _ c.self.view_is c.requires.room;
  is_first = c.in-Some.ensures.items;
  takes = c.take_link-link.ensures c.in-Some.field-0.ticket;
  is_new = refl;
  flight = ap (λ (x : Exchanging). record { ticket = c.in-Some.field-0.ticket; failed = c.in-Some.field-0.failed; exchange = x }) c.in-Ok.ensures;
})

pub returns-in-Err-clause-err : goal.returns-in-Err-clause-err
returns-in-Err-clause-err c = begun_err _ _ _ c.in-Some.field-0 c.pop_front.new.self.items c.take_link-link.result c.take_link-link.new.spare.items c.self.view_is c.requires.room c.in-Some.ensures.items (c.take_link-link.ensures c.in-Some.field-0.ticket) refl
