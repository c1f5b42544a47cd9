use Rattle.pool_laws.proofs.ends_are_true.Goals as goal

pub returns : goal.returns
returns c = record {
  plain = c.requests_are_cut.ensures.plain;
  reads = c.an_answer_is_read.ensures.read;
  long = c.an_answer_is_read.ensures.refused;
  short = c.an_answer_is_read.ensures.short;
  status = c.an_answer_is_read.ensures.status;
  server = c.an_answer_is_read.ensures.server;
  pages = c.an_answer_is_read.ensures.pages;
  sends = c.a_response_is_cut.ensures.sent;
  responses = c.a_response_is_cut.ensures.cut;
  replies = c.a_response_is_cut.ensures.replies;
  next = c.a_response_is_cut.ensures.next;
  stays = c.a_reading_stays.ensures.stays;
}
