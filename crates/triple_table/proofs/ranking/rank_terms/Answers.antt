use Rattle.std.proofs.Common.{List, All, ap, sym, subst, arith}
use Rattle.std.specs.Borrow.{Bor}
use Rattle.std.specs.List.Sorted.{IsSortedBy}
use Rattle.std.specs.Ordering.{is_lt}
use Rattle.std.proofs.lemmas.List.{length-map}
use Rattle.rdf_terms.specs.declared.term.Term.{Term}
use Rattle.rdf_terms.specs.Order.{term_order}
use Rattle.triple_table.specs.declared.ranking.Entry.{Entry}
use Rattle.triple_table.specs.Ranking.{borrowed_terms, AreEntries, IsEntry}
use Rattle.triple_table.proofs.Ranked.{ranked_none, ranked_more, ranked_all, ranks_at, not_below}
use Rattle.triple_table.proofs.ranking.rank_terms.Goals as goal

pub loop-entry-init : goal.loop-entry-init
loop-entry-init c =
    let len = c.in_ok-ranks.ensures.len in let ok = c.in_ok-ranks.ranks.ok in let m = length-map c.args.terms.now (λ (b : Bor Term). b.now) in
    ranked_none (borrowed_terms c.args.terms.now) c.deref-entry-items.result.now (borrowed_terms c.new-ordered.result.items) c.in_ok-ranks.ranks.items (ap borrowed_terms c.new-ordered.ensures.items)
    (omega (arith, len, ok, m))

pub index_mut-requires : goal.index_mut-requires
index_mut-requires c =
    ranks_at (borrowed_terms c.args.terms.now) c.deref-entry-items.result.now c.loop-entry.entry-index c.entry-item.result c.loop-entry.ranks.items
    (subst (λ (es : List Entry). All (IsEntry (borrowed_terms c.args.terms.now)) es) (sym c.deref-entry-items.ensures.value) c.in_ok-entries.ensures.entries.each) c.loop-entry-test.true c.entry-item.is _ c.loop-entry.ranks.ok.0 c.loop-entry.invariant.len

pub loop-entry-preserved : goal.loop-entry-preserved
loop-entry-preserved c =
    let each : All (IsEntry (borrowed_terms c.args.terms.now)) c.deref-entry-items.result.now =
    subst (λ (es : List Entry). All (IsEntry (borrowed_terms c.args.terms.now)) es) (sym c.deref-entry-items.ensures.value) c.in_ok-entries.ensures.entries.each in
    let sorted : IsSortedBy (λ (a b : Entry). is_lt (term_order a.term.now b.term.now)) c.deref-entry-items.result.now =
    subst (λ (es : List Entry). IsSortedBy (λ (a b : Entry). is_lt (term_order a.term.now b.term.now)) es) (sym c.deref-entry-items.ensures.value) c.in_ok-entries.ensures.sorted in
    ranked_more (borrowed_terms c.args.terms.now) c.deref-entry-items.result.now each sorted c.loop-entry.entry-index c.loop-entry-test.true (borrowed_terms c.loop-entry.ordered.items) c.loop-entry.ranks.items c.loop-entry.invariant
    c.entry-item.result (borrowed_terms c.rank_of.new.terms.items) c.in_ok-rank.rank c.entry-item.is c.in_ok-rank.ensures.gathers c.in_ok-rank.ensures.last
    (c.in_ok-rank.ensures.ascending c.loop-entry.invariant.ascending
    (not_below (borrowed_terms c.args.terms.now) c.deref-entry-items.result.now each sorted c.loop-entry.entry-index c.loop-entry-test.true (borrowed_terms c.loop-entry.ordered.items) c.loop-entry.ranks.items c.loop-entry.invariant c.entry-item.result c.entry-item.is))

pub returns : goal.returns
returns c =
    ranked_all (borrowed_terms c.args.terms.now) c.deref-entry-items.result.now c.loop-entry.entry-index (borrowed_terms c.loop-entry.ordered.items) c.loop-entry.ranks.items
    (subst (λ (es : List Entry). AreEntries (borrowed_terms c.args.terms.now) es) (sym c.deref-entry-items.ensures.value) c.in_ok-entries.ensures.entries) c.loop-entry-test.false c.loop-entry.invariant
