use Rattle.std.proofs.Common.{List, All, ap, sym, subst, ◌∙◌, arith}
use Rattle.std.specs.Borrow.{Bor}
use Rattle.std.proofs.lemmas.List.{length-map}
use Rattle.std.proofs.lemmas.List.Elements.{All-push}
use Rattle.rdf_terms.specs.declared.term.Term.{Term}
use Rattle.triple_table.specs.declared.ranking.Entry.{Entry}
use Rattle.triple_table.specs.Ranking.{borrowed_terms, IsEntry}
use Rattle.triple_table.proofs.Ranked.{is_entry, all_more}
use Rattle.triple_table.proofs.ranking.entries.Goals as goal

pub loop-place-preserved : goal.loop-place-preserved
loop-place-preserved c = record {
  each = subst (λ (es : List Entry). All (IsEntry (borrowed_terms c.args.terms.now)) es) (sym c.in_ok-push.ensures.items)
      (All-push (IsEntry (borrowed_terms c.args.terms.now)) c.loop-place.entries.items c.entry_of.result c.loop-place.invariant.each
      (is_entry c.args.terms.now c.loop-place.place c.index-terms-place.result c.entry_of.result c.loop-place-test.true (c.entry_of.ensures.term ∙ ap (λ (b : Bor Term). b.now) c.index-terms-place.is) c.entry_of.ensures.place));
  all = all_more c.loop-place.entries.items c.push.new.self.items c.entry_of.result c.loop-place.place c.in_ok-push.ensures.items c.entry_of.ensures.place c.loop-place.invariant.all;
}

pub returns : goal.returns
returns c = record {
  each = c.loop-place.invariant.each;
  all = λ k l. let e = length-map c.args.terms.now (λ (t : Bor Term). t.now) in let past = c.loop-place-test.false in c.loop-place.invariant.all k (omega (arith, e, l, past));
}
