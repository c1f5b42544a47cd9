use Rattle.plan_laws.proofs.Servers.{world-of, form-of, pages-of}
use Rattle.plan_laws.proofs.a_server_is_a_world.Goals as goal

pub returns-clause-world : goal.returns-clause-world
returns-clause-world c = world-of (λ a b e. (c.triple_order_tells_apart.ensures a b).1 e) c.askable_slots_are_kept.ensures.others c.versions_are_valid.ensures.versions

pub returns-clause-form : goal.returns-clause-form
returns-clause-form c = form-of c.pages_share_authority.ensures.addresses c.first_page_is_expansion.ensures.rows

pub returns-clause-pages : goal.returns-clause-pages
returns-clause-pages c = pages-of c.pages_share_authority.ensures.addresses c.an_address_is_one.ensures.one c.controls_read_back.ensures.only
