use Rattle.std.proofs.Common.{◌∙◌, sym, map, string_bytes}
use Rattle.clap.specs.Words.{app_of}
use Rattle.command_words.specs.Forms.{form_of}
use Rattle.command_words.proofs.Found.{clap_refused, clap_taken}
use Rattle.command_words.proofs.LoneDash.{are_texts, lone_dash_refused}
use Rattle.command_words.proofs.arguments.arguments_of.Goals as goal

pub returns-then-has_lone_dash : goal.returns-then-has_lone_dash
returns-then-has_lone_dash c = sym (lone_dash_refused (form_of c.args.positionals.now c.args.options.now c.args.flags.now) (map string_bytes c.args.words.now) (sym c.has_lone_dash.ensures ∙ c.if-has_lone_dash.true))

pub returns-in-Ok-matches_by : goal.returns-in-Ok-matches_by
returns-in-Ok-matches_by c = clap_taken (form_of c.args.positionals.now c.args.options.now c.args.flags.now) (map string_bytes c.args.words.now) (app_of c.in-Ok.command) _ c.in-Ok.ensures c.requires.few (are_texts c.args.words.now) (sym c.has_lone_dash.ensures ∙ c.if-has_lone_dash.false) c.in-Ok-matches_by.ensures.taken c.in-Ok-matches_by.ensures.rows

pub returns-in-Err-Usage : goal.returns-in-Err-Usage
returns-in-Err-Usage c = clap_refused (form_of c.args.positionals.now c.args.options.now c.args.flags.now) (map string_bytes c.args.words.now) (app_of c.in-Ok.command) c.in-Ok.ensures c.requires.few (are_texts c.args.words.now) (sym c.has_lone_dash.ensures ∙ c.if-has_lone_dash.false) (c.in-Err-Usage.ensures.refused (cc))
