use Rattle.plan_laws.proofs.Reading.{plan_read, base_read, start_read}
use Rattle.plan_laws.proofs.plans_are_read.Goals as goal

pub returns-clause-plan : goal.returns-clause-plan
returns-clause-plan c = λ block history mark config patterns names low high s askable.
    plan_read c.explicit_forms_are_short.ensures c.pages_are_answered.ensures.given c.pages_are_answered.ensures.answered c.pages_share_authority.ensures.addresses c.pages_share_authority.ensures.authority c.askable_slots_are_kept.ensures.kept c.controls_read_back.ensures.taken c.controls_read_back.ensures.there c.versions_are_valid.ensures.versions history mark config s block low high patterns names askable

pub returns-clause-base : goal.returns-clause-base
returns-clause-base c = λ history mark config s.
    base_read c.explicit_forms_are_short.ensures c.pages_are_answered.ensures.given c.pages_are_answered.ensures.answered c.pages_share_authority.ensures.addresses c.pages_share_authority.ensures.authority c.askable_slots_are_kept.ensures.kept c.controls_read_back.ensures.taken c.controls_read_back.ensures.there c.versions_are_valid.ensures.versions history mark config s

pub returns-clause-start : goal.returns-clause-start
returns-clause-start c = λ history mark config start s same few answered.
    start_read c.explicit_forms_are_short.ensures c.pages_are_answered.ensures.given c.pages_are_answered.ensures.answered c.pages_share_authority.ensures.addresses c.pages_share_authority.ensures.authority c.askable_slots_are_kept.ensures.kept c.controls_read_back.ensures.taken c.controls_read_back.ensures.there c.versions_are_valid.ensures.versions history mark config s start same few answered
