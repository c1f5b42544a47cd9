use Rattle.plan_laws.proofs.JointPlans.{joint_plan_read}
use Rattle.plan_laws.proofs.joint_plans_are_read.Goals as goal

pub returns : goal.returns
returns c = λ servers patterns names some all askable.
    joint_plan_read c.explicit_forms_are_short.ensures c.pages_are_answered.ensures.given c.pages_are_answered.ensures.answered c.pages_share_authority.ensures.addresses c.pages_share_authority.ensures.authority c.askable_slots_are_kept.ensures.kept c.controls_read_back.ensures.taken c.controls_read_back.ensures.there c.versions_are_valid.ensures.versions servers patterns names some all askable
