-- The answer to what was asked, as it is found before its body is made.
use Rattle.std.specs.Prelude.{◌≡◌, length}
use Rattle.template_fill.specs.Metadata.{Config}
use Rattle.page_responses.specs.declared.pages.Opened.{Opened}
use Rattle.page_responses.specs.Statuses.{code, media_of}
use Rattle.page_responses.specs.Rests.{IsWithin, rest_text}
use Rattle.tpf_server.specs.declared.asked.Asking.{Asking}
use Rattle.tpf_server.specs.Asked.{answer_of}

-- the answer is that to what was asked
pub record Opens (config : Config) (asking : Asking) (o : Opened) : Type 0 where
  pub status : code o.status ≡ (answer_of config asking).status
  pub media : media_of o.media ≡ (answer_of config asking).media_type
  pub length : o.length ≡ length (answer_of config asking).body
  pub body : rest_text o.body ≡ (answer_of config asking).body
  pub range : IsWithin o.body
