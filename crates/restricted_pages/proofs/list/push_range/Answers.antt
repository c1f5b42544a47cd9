-- The triple of the turn stands behind those so far, and a whole range is all its triples.
use Rattle.std.proofs.Common.{◌≡◌, ◌++◌, List, [], ◌∷◌, ◌<◌, ◌≤◌, length, map, append-nil, arith, All, sym, ap, subst, ◌∙◌}
use Rattle.std.proofs.lemmas.List.{take_all}
use Rattle.std.proofs.lemmas.List.Elements.{All-push}
use Rattle.std.proofs.lemmas.Result.{IfOk-from_err}
use Rattle.triple_table.specs.declared.ids.IdTriple.{IdTriple}
use Rattle.triple_table.specs.Stored.{IsIdTriple, triple_at, listed}
use Rattle.restricted_pages.proofs.Walks.{pushed_more}
use Rattle.restricted_pages.proofs.list.push_range.Goals as goal

pub count-i-end-requires : goal.count-i-end-requires
count-i-end-requires c = c.requires.range

pub loop-i-init : goal.loop-i-init
loop-i-init c = record { each = c.requires.ids; are = sym (append-nil _) }

pub at-requires-clause-range : goal.at-requires-clause-range
at-requires-clause-range c = c.requires.range

pub at-requires-clause-within : goal.at-requires-clause-within
at-requires-clause-within c = subst (λ n. c.loop-i.i < n) c.count-i-end.ensures.size c.loop-i-test.true

pub returns-in_err-push : goal.returns-in_err-push
returns-in_err-push c = IfOk-from_err _ _ c.from_residual.ensures.0

pub loop-i-preserved : goal.loop-i-preserved
loop-i-preserved c =
    let s = c.args.table.now in let xs = listed s c.args.range.now in
    let pushed : c.push.new.self.items ≡ c.loop-i.ids.items ++ c.at.result ∷ [] = c.in_ok-push.ensures.items in
    let within : c.loop-i.i < length xs = let l = c.loop-i-test.true in let e = c.count-i-end.ensures.count in omega (arith, l, e) in
    record {
      each = subst (λ (ids : List IdTriple). All (IsIdTriple s.terms) ids) (sym pushed) (All-push (IsIdTriple s.terms) c.loop-i.ids.items c.at.result c.loop-i.invariant.each c.at.ensures.ids);
      are = pushed_more s (map (triple_at s.terms) c.args.ids.now.items) xs c.loop-i.i c.loop-i.ids.items c.push.new.self.items c.at.result within c.at.ensures.triple pushed c.loop-i.invariant.are;
    }

pub returns : goal.returns
returns c =
    let s = c.args.table.now in record {
      each = c.loop-i.invariant.each;
      are = c.loop-i.invariant.are
          ∙ ap (λ xs. map (triple_at s.terms) c.args.ids.now.items ++ xs) (take_all c.loop-i.i (listed s c.args.range.now) (subst (λ n. n ≤ c.loop-i.i) c.count-i-end.ensures.count c.loop-i-test.false));
    }
