use Rattle.std.proofs.Common.{ℕ, ◌≡◌, ◌++◌, true, List, refl, sym, subst, ◌∙◌, ap, arith}
use Rattle.std.specs.List.{list_all}
use Rattle.quad_feed.specs.Feed.{is_inside}
use Rattle.quad_feed.proofs.PieceLaws.{no_end_inside, inside_append}
use Rattle.quad_feed.proofs.EndedLaws.{none_ended, next_ended, next_same}
use Rattle.quad_feed.proofs.feed.read_ended.Goals as goal

pub returns-clause-inside : goal.returns-clause-inside
returns-clause-inside c =
    let rest = no_end_inside 0 c.loop-n.rest.now (sym c.line_end.ensures.place ∙ c.in_default.is) in
    subst (λ (l : List ℕ). list_all is_inside l ≡ true) (sym c.in_ok-extend_from_slice.ensures.items) (inside_append c.loop-n.kept.items c.loop-n.rest.now c.loop-n.invariant.inside rest)

pub loop-n-init : goal.loop-n-init
loop-n-init c = record {
  same = λ more. refl;
  ended = none_ended c.args.longest c.args.number.now c.args.quads.now.items (c.args.kept.now.items ++ c.args.bytes.now) (omega (arith, c.requires.number));
  inside = c.requires.inside;
  cr = λ e. cc;
  begun = λ e. cc;
}

pub loop-n-preserved : goal.loop-n-preserved
loop-n-preserved c = record {
  same = λ more.
      next_same _ c.args.longest c.loop-n.number c.read_next.new.number c.loop-n.quads.items c.read_next.new.quads.items c.loop-n.kept.items c.loop-n.rest.now c.in_ok-cut.after.now c.read_next.new.kept.items more c.in-Some.n c.loop-n.cr c.in_ok-cut.cut
      (c.loop-n.invariant.same more) c.loop-n.invariant.cr (sym c.line_end.ensures.place ∙ c.in-Some.is) c.in_ok-cut.ensures.kept (c.in_ok-cut.ensures.ok more);
  ended = next_ended c.args.longest c.args.number.now c.loop-n.number c.read_next.new.number c.args.quads.now.items c.loop-n.quads.items c.read_next.new.quads.items (c.args.kept.now.items ++ c.args.bytes.now) c.loop-n.kept.items c.loop-n.rest.now c.in_ok-cut.after.now c.read_next.new.kept.items c.in-Some.n c.loop-n.cr c.in_ok-cut.cut
      c.loop-n.invariant.ended c.loop-n.invariant.cr (sym c.line_end.ensures.place ∙ c.in-Some.is) c.in_ok-cut.ensures.kept c.in_ok-cut.ensures.ended;
  inside = ap (λ (l : List ℕ). list_all is_inside l) c.in_ok-cut.ensures.kept;
  cr = c.in_ok-cut.ensures.cr;
  begun = λ e. c.in_ok-cut.ensures.kept;
}
