use Rattle.std.proofs.Common.{◌∙◌, sym, arith}
use Rattle.template_fill.proofs.Reading.{reads_address}
use Rattle.command_words.proofs.Addresses.{not_read, short_url}
use Rattle.command_words.proofs.values.url_of.Goals as goal

pub returns-in-Ok : goal.returns-in-Ok
returns-in-Ok c = sym (short_url c.args.text.now (omega arith) ∙ reads_address c.args.text.now _ c.in-Ok.ensures.read)

pub returns-in-Err-BadAddress : goal.returns-in-Err-BadAddress
returns-in-Err-BadAddress c = sym (short_url c.args.text.now (omega arith) ∙ not_read c.args.text.now (c.in-Err-BadAddress.ensures.refused.0 (cc)))
