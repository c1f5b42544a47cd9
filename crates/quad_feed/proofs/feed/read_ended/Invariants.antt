use Rattle.std.proofs.Common.{ℕ, ◌≡◌, true, false, List, [], ◌++◌, length}
use Rattle.std.specs.List.{list_all}
use Rattle.quad_feed.specs.Feed.{is_inside}
use Rattle.quad_feed.specs.Pieces.{reading, ReadsEnded}
use Rattle.quad_feed.proofs.feed.read_ended.Given as goal

abbrev pub invariant-loop-n : goal.invariant-loop-n
invariant-loop-n l = record {
  same : (more : List ℕ) → reading l.longest l.initial.quads.items l.initial.number false (l.initial.kept.items ++ (l.bytes ++ more)) ≡ reading l.longest l.quads.items l.number l.cr (l.kept.items ++ (l.rest ++ more));
  ended : ReadsEnded l.longest l.initial.quads.items l.initial.number (l.initial.kept.items ++ l.bytes) l.quads.items l.number l.cr (l.kept.items ++ l.rest);
  inside : list_all is_inside l.kept.items ≡ true;
  cr : l.cr ≡ true → l.rest ≡ [];
  begun : l.cr ≡ true → l.kept.items ≡ [];
}

abbrev pub decreases-loop-n : goal.decreases-loop-n
decreases-loop-n l = length l.rest
