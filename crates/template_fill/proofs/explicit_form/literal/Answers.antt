use Rattle.std.proofs.Common.{refl}
use Rattle.template_fill.proofs.Quotes.{rsplit_quote}
use Rattle.template_fill.proofs.explicit_form.literal.Goals as goal

pub returns-in-None-clause-given : goal.returns-in-None-clause-given
returns-in-None-clause-given c =
    let none = rw c.in-None.is at (rsplit_quote c.args.text.now c.rsplit_once.result c.rsplit_once.ensures.cases) in
    none

pub returns-in-None-clause-refused : goal.returns-in-None-clause-refused
returns-in-None-clause-refused c =
    let none = rw c.in-None.is at (rsplit_quote c.args.text.now c.rsplit_once.result c.rsplit_once.ensures.cases) in
    rw none refl

pub returns-in-Some-clause-given : goal.returns-in-Some-clause-given
returns-in-Some-clause-given c =
    let cut = rw c.in-Some.is at (rsplit_quote c.args.text.now c.rsplit_once.result c.rsplit_once.ensures.cases) in
    rw cut c.suffixed.ensures.given

pub returns-in-Some-clause-refused : goal.returns-in-Some-clause-refused
returns-in-Some-clause-refused c =
    let cut = rw c.in-Some.is at (rsplit_quote c.args.text.now c.rsplit_once.result c.rsplit_once.ensures.cases) in
    rw cut c.suffixed.ensures.refused
