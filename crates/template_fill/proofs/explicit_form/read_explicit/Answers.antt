use lib.Utf8.{encode}
use Rattle.std.proofs.Common.{lit<}
use Rattle.std.proofs.lemmas.Bool.{false≢true}
use Rattle.std.proofs.lemmas.Str.Pattern.{starts_char}
use Rattle.template_fill.specs.Explicit.{read_iri}
use Rattle.template_fill.proofs.Quotes.{slot-iri, gives-fixed, refused-fixed}
use Rattle.template_fill.proofs.explicit_form.read_explicit.Goals as goal

pub returns-in-None-clause-given : goal.returns-in-None-clause-given
unfolding encode
returns-in-None-clause-given c =
    let free = rw c.if-starts_with.false at (starts_char 63 c.args.text.now c.starts_with.result c.starts_with.ensures.cases (lit< tt) (lit< tt)) in
    rw (slot-iri c.args.text.now c.if-is_empty.ensures (λ is. absurd (false≢true (free.1 is))) c.in-None.ensures.cases, c.fixed-in-None.ensures) (gives-fixed c.iri.result (read_iri c.args.text.now) c.iri.ensures.given)

pub returns-in-None-clause-refused : goal.returns-in-None-clause-refused
unfolding encode
returns-in-None-clause-refused c =
    let free = rw c.if-starts_with.false at (starts_char 63 c.args.text.now c.starts_with.result c.starts_with.ensures.cases (lit< tt) (lit< tt)) in
    rw (slot-iri c.args.text.now c.if-is_empty.ensures (λ is. absurd (false≢true (free.1 is))) c.in-None.ensures.cases, c.fixed-in-None.ensures) (refused-fixed c.iri.result (read_iri c.args.text.now) c.iri.ensures.refused)
