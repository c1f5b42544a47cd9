use Rattle.tpf_client.proofs.laws.solutions_rest_on_laws.Goals as goal

pub returns : goal.returns
returns c = record {
  empty = c.whole_replies_come_first.ensures.empty;
  puts = c.whole_replies_come_first.ensures.put;
  steps = c.whole_replies_come_first.ensures.step;
  faults = c.whole_replies_come_first.ensures.fault;
  given = c.pages_are_answered.ensures.given;
  answered = c.pages_are_answered.ensures.answered;
  only = c.controls_read_back.ensures.only;
  never_both = c.a_body_is_one_page.ensures.never_both;
  worlds = c.a_server_is_a_world.ensures.world;
  forms = c.a_server_is_a_world.ensures.form;
  pages = c.a_server_is_a_world.ensures.pages;
  kept = c.askable_slots_are_kept.ensures.kept;
  addresses = c.pages_share_authority.ensures.addresses;
  pieces = c.pieces_make_the_text.ensures;
  goes_on = c.rows_go_on.ensures;
  plain = c.requests_are_cut.ensures.plain;
  reads = c.an_answer_is_read.ensures.read;
  long = c.an_answer_is_read.ensures.refused;
  short = c.an_answer_is_read.ensures.short;
  status = c.an_answer_is_read.ensures.status;
  server = c.an_answer_is_read.ensures.server;
  quads = c.an_answer_is_read.ensures.pages;
  sends = c.a_response_is_cut.ensures.sent;
  responses = c.a_response_is_cut.ensures.cut;
  replies = c.a_response_is_cut.ensures.replies;
  next = c.a_response_is_cut.ensures.next;
  stays = c.a_reading_stays.ensures.stays;
  authorities = c.authorities_are_hosts_and_ports.ensures;
}
