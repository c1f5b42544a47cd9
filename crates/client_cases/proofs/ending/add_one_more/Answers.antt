use Rattle.client_cases.proofs.ending.add_one_more.Goals as goal

pub add_steps-requires : goal.add_steps-requires
add_steps-requires g c = record { suits = c.put_all.ensures.suits _ (c.requires.suits _) }
