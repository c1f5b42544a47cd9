-- A part takes or passes over the triple of the turn, and what follows is what is left of the range.
use Rattle.std.proofs.Common.{◌≡◌, ◌+◌, ◌<◌, ◌≤◌, ◌++◌, List, [], length, map, take, drop, All, sym, ap, subst, ◌∙◌, arith}
use Rattle.std.specs.List.{filter}
use Rattle.std.proofs.lemmas.Bool.{false≢true}
use Rattle.std.proofs.lemmas.List.{drop_all}
use Rattle.std.proofs.lemmas.List.Elements.{All-nil}
use Rattle.std.proofs.lemmas.Result.{IfOk-from_err}
use Rattle.rdf_terms.specs.declared.term.Term.TheVariants.{Iri}
use Rattle.rdf_terms.specs.declared.term.Triple.{Triple}
use Rattle.triple_table.specs.declared.ids.IdTriple.{IdTriple}
use Rattle.triple_table.specs.Stored.{IsIdTriple, listed, triple_at}
use Rattle.restricted_pages.specs.declared.scan.Part.{Part}
use Rattle.restricted_pages.specs.Patterns.{filled, matches_pattern}
use Rattle.restricted_pages.proofs.Walks.{all_taken, none_counted, none_here, none_taken, one_counted, one_here}
use Rattle.restricted_pages.proofs.scan.walked.Goals as goal
use Rattle.restricted_pages.proofs.scan.walked.Goals.{in-Some+in_ok-add-in-Some, in-None}

pub count-i-end-requires : goal.count-i-end-requires
count-i-end-requires c = c.requires.range

pub loop-i-init : goal.loop-i-init
loop-i-init c =
    let s = c.args.table.now in let next = filter (matches_pattern s c.args.patterns.now) (listed s c.args.range.now) in record {
      few = omega arith;
      counts = omega arith;
      ids = subst (λ (ids : List IdTriple). All (IsIdTriple s.terms) ids) (sym c.new.ensures.items) (All-nil (IsIdTriple s.terms));
      filled = ap (λ (ids : List IdTriple). map (triple_at s.terms) ids ++ take c.args.size (drop c.args.before next)) c.new.ensures.items;
    }

pub returns-then-not-to_end : goal.returns-then-not-to_end
returns-then-not-to_end c = record {
  page = record {
    each = c.loop-i.invariant.ids;
    are = sym (none_taken _ _ _ c.if-part-eq0.true) ∙ c.loop-i.invariant.filled;
  };
  count = λ e. absurd (false≢true (sym c.if-not-to_end.true ∙ e));
}

pub matching_at-requires-clause-range : goal.matching_at-requires-clause-range
matching_at-requires-clause-range c = c.requires.range

pub matching_at-requires-clause-within : goal.matching_at-requires-clause-within
matching_at-requires-clause-within c = subst (λ n. c.loop-i.i < n) c.count-i-end.ensures.count c.loop-i-test.true

pub matching_at-requires-clause-ranking : goal.matching_at-requires-clause-ranking
matching_at-requires-clause-ranking c = c.requires.ranking

pub matching_at-requires-clause-ids : goal.matching_at-requires-clause-ids
matching_at-requires-clause-ids c = c.requires.ids

pub add-requires : goal.add-requires
add-requires c = let few = c.loop-i.invariant.few in let l = c.loop-i-test.true in let small = c.count-i-end.type_inv in omega (arith, few, l, small)

pub returns-in_err-add-in-Some : goal.returns-in_err-add-in-Some
returns-in_err-add-in-Some c = IfOk-from_err _ _ c.from_residual.ensures.0

any : Triple
any = record { subject = Iri []; predicate = Iri []; object = Iri [] }

pub loop-i-preserved : goal.loop-i-preserved
loop-i-preserved c =
    let s = c.args.table.now in let ps = c.args.patterns.now in let xs = listed s c.args.range.now in let i = c.loop-i.i in let old = c.loop-i.invariant in
    let within : i < length xs = let l = c.loop-i-test.true in let e = c.count-i-end.ensures.count in omega (arith, l, e) in
    let next = filter (matches_pattern s ps) (drop (i + 1) xs) in
    let page = take c.args.size (drop c.args.before (filter (matches_pattern s ps) xs)) in
    elim c.match-matching_at.branch [
      | in-Some+in_ok-add-in-Some w ↦
          let adds = w.in_ok-add-in-Some.ensures in let is = ap (λ (part : Part). part.count) w.part-is ∙ adds.counts in record {
            few = let few = old.few in omega (arith, few, is);
            counts = one_counted s ps xs i within w.in-Some.triple w.in-Some.ensures (length (filter (matches_pattern s ps) xs)) c.loop-i.part.count c.match-matching_at.part.count old.counts is;
            ids = subst (λ (part : Part). All (IsIdTriple s.terms) part.triples.items) (sym w.part-is) (adds.ids s.terms old.ids w.in-Some.ensures.0);
            filled = subst (λ (part : Part). filled s.terms part next ≡ page) (sym w.part-is)
                (adds.fills s.terms next ∙ ap (filled s.terms c.loop-i.part) (one_here s ps xs i within w.in-Some.triple w.in-Some.ensures) ∙ old.filled);
          }
      | in-None w ↦
          let is = ap (λ (part : Part). part.count) w.part-is in record {
            few = let few = old.few in omega (arith, few, is);
            counts = none_counted s ps xs i within w.in-None.ensures any (length (filter (matches_pattern s ps) xs)) c.loop-i.part.count c.match-matching_at.part.count old.counts is;
            ids = subst (λ (part : Part). All (IsIdTriple s.terms) part.triples.items) (sym w.part-is) old.ids;
            filled = subst (λ (part : Part). filled s.terms part next ≡ page) (sym w.part-is) (ap (filled s.terms c.loop-i.part) (none_here s ps xs i within w.in-None.ensures any) ∙ old.filled);
          }
    ]

pub returns : goal.returns
returns c =
    let s = c.args.table.now in let ps = c.args.patterns.now in let xs = listed s c.args.range.now in
    let none = ap (filter (matches_pattern s ps)) (drop_all c.loop-i.i xs (subst (λ n. n ≤ c.loop-i.i) c.count-i-end.ensures.count c.loop-i-test.false)) in record {
      page = record {
        each = c.loop-i.invariant.ids;
        are = sym (all_taken _ _ _ _ none) ∙ c.loop-i.invariant.filled;
      };
      count = λ _. let counts = c.loop-i.invariant.counts in let left = ap length none in omega (arith, counts, left);
    }
