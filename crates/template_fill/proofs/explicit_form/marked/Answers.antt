use lib.Utf8.{encode}
use Rattle.std.proofs.Common.{refl, lit<}
use Rattle.std.proofs.lemmas.Str.Pattern.{strip_prefix_char}
use Rattle.template_fill.proofs.Quotes.{marked-none, marked-some}
use Rattle.template_fill.proofs.explicit_form.marked.Goals as goal

pub returns-in-None-clause-given : goal.returns-in-None-clause-given
unfolding encode
returns-in-None-clause-given c = marked-none c.args.form.now c.args.rest.now c.in-None.ensures.cases

pub returns-in-None-clause-refused : goal.returns-in-None-clause-refused
unfolding encode
returns-in-None-clause-refused c = rw (marked-none c.args.form.now c.args.rest.now c.in-None.ensures.cases) refl

pub returns-in-Some-clause-given : goal.returns-in-Some-clause-given
returns-in-Some-clause-given c =
    let is = rw c.in-Some.is at (strip_prefix_char 94 c.args.rest.now c.strip_prefix.result c.strip_prefix.ensures.cases (lit< tt)) in
    rw (marked-some c.args.form.now c.args.rest.now c.in-Some.datatype.now is) c.typed.ensures.given

pub returns-in-Some-clause-refused : goal.returns-in-Some-clause-refused
returns-in-Some-clause-refused c =
    let is = rw c.in-Some.is at (strip_prefix_char 94 c.args.rest.now c.strip_prefix.result c.strip_prefix.ensures.cases (lit< tt)) in
    rw (marked-some c.args.form.now c.args.rest.now c.in-Some.datatype.now is) c.typed.ensures.refused
