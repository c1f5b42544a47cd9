use Rattle.std.proofs.Common.{◌≡◌, ◌∙◌, false, true}
use Rattle.std.specs.Option.{option_copied}
use Rattle.template_fill.specs.Templates.{is_name}
use Rattle.template_fill.proofs.Sections.{name-step, name-stop, name_ascii, all-push, left_over-after}
use Rattle.template_fill.proofs.part.read_names.Goals as goal

pub returns-then-not-is_name-clause-refused : goal.returns-then-not-is_name-clause-refused
returns-then-not-is_name-clause-refused c =
    let stop : is_name c.cut.result.0.now ≡ false = cc in
    let sections = rw c.in-Some.is at c.loop-rest.invariant.sections in
    λ _. name-stop c.args.bytes.now c.loop-rest.names.items c.in-Some.text.now c.cut.result.0.now sections c.cut.ensures.before stop

pub ascii_text-requires : goal.ascii_text-requires
ascii_text-requires c =
    let passes : is_name c.cut.result.0.now ≡ true = cc in
    name_ascii c.cut.result.0.now passes

pub loop-rest-smaller : goal.loop-rest-smaller
loop-rest-smaller c =
    let less = left_over-after 44 c.in-Some.text.now in
    rw (c.in-Some.is, c.cut.ensures.after) less

pub loop-rest-preserved : goal.loop-rest-preserved
loop-rest-preserved c =
    let same : c.in_ok-copy.field-0 ≡ c.cut.result.0.now = c.in_ok-copy.ensures ∙ c.ascii_text.ensures in
    let passes : is_name c.cut.result.0.now ≡ true = cc in
    let sections = rw c.in-Some.is at c.loop-rest.invariant.sections in
    record {
      sections = rw c.in_ok-push.ensures.items (name-step _ c.loop-rest.names.items c.in-Some.text.now c.in_ok-copy.field-0 (option_copied c.cut.result.1) sections (same ∙ c.cut.ensures.before) c.cut.ensures.after);
      all = rw c.in_ok-push.ensures.items (all-push c.loop-rest.names.items c.in_ok-copy.field-0 c.loop-rest.invariant.all (rw same passes));
    }
