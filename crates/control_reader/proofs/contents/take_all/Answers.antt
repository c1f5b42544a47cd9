use Rattle.std.proofs.Common.{refl, sym, ap, ◌∙◌, inr}
use Rattle.std.specs.List.{list_any}
use Rattle.control_reader.specs.Blanks.{holds_blank}
use Rattle.control_reader.proofs.Blanks.{blank_data}
use Rattle.control_reader.proofs.contents.take_all.Goals as goal

pub returns-then-have_blank : goal.returns-then-have_blank
returns-then-have_blank c =
    inr (
      refl,
      blank_data c.args.quads.items c.in_ok-triples.triples.items (c.in_ok-triples.ensures ∙ c.requires)
          (ap (list_any holds_blank) (sym c.as_slice.ensures.value) ∙ sym c.have_blank.ensures ∙ c.if-have_blank.true),
    )
