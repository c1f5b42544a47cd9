use Rattle.std.proofs.Common.{◌≡◌, Bool, true, false, not, sym, subst, refl, ◌∙◌}
use Rattle.std.specs.Bool.{OnFalse}
use Rattle.joint_pages.proofs.News.{Stands}
use Rattle.joint_pages.proofs.Takings.{had-none, set-none}
use Rattle.joint_pages.proofs.joining.take_one.Goals as goal

not-false : (b : Bool) → not b ≡ false → b ≡ true
not-false true e = refl
not-false false e = cc

pub returns-in-Ok-false-clause-triples : goal.returns-in-Ok-false-clause-triples
returns-in-Ok-false-clause-triples c =
    had-none c.args.taken.now c.args.triples.now.items c.args.triple (not-false (Stands c.args.taken.now c.args.triple) (sym c.in-Ok-false.ensures.is_new ∙ c.in-Ok-false.field-0-test))

pub returns-in-Ok-false-clause-taken : goal.returns-in-Ok-false-clause-taken
returns-in-Ok-false-clause-taken c =
    subst (λ (b : Bool). OnFalse b (c.put_copy.new.set ≡ c.args.taken.now)) c.in-Ok-false.field-0-test c.in-Ok-false.ensures.held
    ∙ set-none c.args.taken.now c.args.triple (not-false (Stands c.args.taken.now c.args.triple) (sym c.in-Ok-false.ensures.is_new ∙ c.in-Ok-false.field-0-test))
