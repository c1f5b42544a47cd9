use Rattle.triple_table.specs.Chosen.{chosen}
use Rattle.triple_table.specs.Served.{terms_of}
use Rattle.triple_table.proofs.LabelMembers.{labels_ascend, labels_are}
use Rattle.triple_table.proofs.labels.sorted_labels.Goals as goal

pub returns : goal.returns
returns c = record {
  ascending = labels_ascend (terms_of (chosen c.args.choice.now c.args.quads.now)) _ _ _ c.in_ok-labels.ensures c.sort_unstable.ensures.permutation c.dedup.ensures.filtered c.sort_unstable.ensures.sorted;
  members = labels_are (terms_of (chosen c.args.choice.now c.args.quads.now)) _ _ _ c.in_ok-labels.ensures c.sort_unstable.ensures.permutation c.dedup.ensures.filtered;
}
