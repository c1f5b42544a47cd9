use lib.Utf8.{encode}
use Rattle.std.proofs.Common.{refl, sym, ap, ◌∙◌, Ok, lit<}
use Rattle.std.proofs.lemmas.Str.Pattern.{strip_prefix_char}
use Rattle.template_fill.proofs.Quotes.{suffixed-empty, suffixed-none, suffixed-tagged, suffixed-marked}
use Rattle.template_fill.proofs.explicit_form.suffixed.Goals as goal

pub returns-in-None-clause-given : goal.returns-in-None-clause-given
unfolding encode
returns-in-None-clause-given c = suffixed-none c.args.form.now c.args.suffix.now c.if-is_empty.ensures c.in_default.ensures.cases c.in-None.ensures.cases

pub returns-in-None-clause-refused : goal.returns-in-None-clause-refused
unfolding encode
returns-in-None-clause-refused c = rw (suffixed-none c.args.form.now c.args.suffix.now c.if-is_empty.ensures c.in_default.ensures.cases c.in-None.ensures.cases) refl

pub returns-in_err-plain-clause-refused : goal.returns-in_err-plain-clause-refused
returns-in_err-plain-clause-refused c = rw (suffixed-empty c.args.form.now c.args.suffix.now c.if-is_empty.ensures) tt

pub returns-then-is_empty-clause-given : goal.returns-then-is_empty-clause-given
returns-then-is_empty-clause-given c = suffixed-empty c.args.form.now c.args.suffix.now c.if-is_empty.ensures ∙ ap Ok (sym c.in_ok-plain.ensures)

pub returns-then-is_empty-clause-refused : goal.returns-then-is_empty-clause-refused
returns-then-is_empty-clause-refused c = rw (suffixed-empty c.args.form.now c.args.suffix.now c.if-is_empty.ensures) tt

pub returns-in-Some-clause-given : goal.returns-in-Some-clause-given
returns-in-Some-clause-given c =
    let is = rw c.in-Some.is at (strip_prefix_char 64 c.args.suffix.now c.strip_prefix.result c.strip_prefix.ensures.cases (lit< tt)) in
    rw (suffixed-tagged c.args.form.now c.args.suffix.now c.in-Some.tag.now is) c.tagged.ensures.given

pub returns-in-Some-clause-refused : goal.returns-in-Some-clause-refused
returns-in-Some-clause-refused c =
    let is = rw c.in-Some.is at (strip_prefix_char 64 c.args.suffix.now c.strip_prefix.result c.strip_prefix.ensures.cases (lit< tt)) in
    rw (suffixed-tagged c.args.form.now c.args.suffix.now c.in-Some.tag.now is) c.tagged.ensures.refused

pub returns-in-Some-strip_prefix-clause-given : goal.returns-in-Some-strip_prefix-clause-given
returns-in-Some-strip_prefix-clause-given c =
    let is = rw c.in-Some-strip_prefix.is at (strip_prefix_char 94 c.args.suffix.now c.strip_prefix-2.result c.strip_prefix-2.ensures.cases (lit< tt)) in
    rw (suffixed-marked c.args.form.now c.args.suffix.now c.in-Some-strip_prefix.rest.now is) c.marked.ensures.given

pub returns-in-Some-strip_prefix-clause-refused : goal.returns-in-Some-strip_prefix-clause-refused
returns-in-Some-strip_prefix-clause-refused c =
    let is = rw c.in-Some-strip_prefix.is at (strip_prefix_char 94 c.args.suffix.now c.strip_prefix-2.result c.strip_prefix-2.ensures.cases (lit< tt)) in
    rw (suffixed-marked c.args.form.now c.args.suffix.now c.in-Some-strip_prefix.rest.now is) c.marked.ensures.refused
