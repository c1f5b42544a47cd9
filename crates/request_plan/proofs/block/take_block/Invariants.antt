use Rattle.std.proofs.Common.{◌≡◌, ◌≤◌, take, drop}
use Rattle.request_plan.proofs.block.take_block.Given as goal

abbrev pub invariant-loop : goal.invariant-loop
invariant-loop l = record {
  low : 1 ≤ l.counter;
  high : l.counter ≤ l.count;
  block : l.block ≡ take l.counter l.fn.rows.items;
  left : l.rows.items ≡ drop l.counter l.fn.rows.items;
}
