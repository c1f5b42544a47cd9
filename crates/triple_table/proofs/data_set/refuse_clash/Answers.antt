use Rattle.triple_table.proofs.data_set.refuse_clash.Goals as goal

pub refuse_first-requires-clause-members : goal.refuse_first-requires-clause-members
refuse_first-requires-clause-members c = rw c.as_slice.ensures.value c.in_ok-labels.ensures.members
