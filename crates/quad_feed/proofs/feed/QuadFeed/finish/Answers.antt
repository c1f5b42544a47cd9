use Rattle.std.proofs.Common.{ℕ, List, [], Result, subst, ◌∙◌, sym}
use Rattle.rdf_terms.specs.declared.term.Quad.{Quad}
use Rattle.nquads_text.specs.declared.fault.Why.{Why}
use Rattle.nquads_text.specs.Lines.{Gives}
use Rattle.quad_feed.specs.Pieces.{fed_reading}
use Rattle.quad_feed.proofs.FedLaws.{at_last, last_read, last_refused, with_reads, with_fault}
use Rattle.nquads_text.proofs.ReadLaws.{ok_of, bad_of}
use Rattle.quad_feed.proofs.feed.QuadFeed.finish.Goals as goal

abbrev Found : Type 0
Found = Result (List Quad) (ℕ × Why)

gives : (c : goal.After-drop-self-inside-2) → Gives (λ v. v.items) c.read_last.result (fed_reading c.args.self [])
gives c =
    at_last (λ v. v.items) c.read_last.result c.args.self c.self.inside.longest c.self.inside.quads.items c.self.inside.number c.self.inside.after_cr c.self.inside.kept.items c.as_slice.result.now c.self.inside.fault (sym c.self.view_is) c.as_slice.ensures.value
    (c.read_last.ensures c.self.inside.after_cr (λ h. c.as_slice.ensures.value ∙ c.self.invariant.1 h))

pub returns-clause-read : goal.returns-clause-read
returns-clause-read c = λ e. last_read (λ v. v.items) c.read_last.result c.args.self (gives c)

pub returns-clause-refused : goal.returns-clause-refused
returns-clause-refused c = λ e. last_refused (λ v. v.items) c.read_last.result c.args.self (gives c)

pub returns-clause-only_read : goal.returns-clause-only_read
returns-clause-only_read c = λ e quads h. ok_of (λ v. v.items) quads c.read_last.result (subst (λ (r : Found). Gives (λ v. v.items) c.read_last.result r) (with_reads c.args.self [] quads h) (gives c))

pub returns-clause-only_refused : goal.returns-clause-only_refused
returns-clause-only_refused c = λ e n why h. bad_of (λ v. v.items) n why c.read_last.result (subst (λ (r : Found). Gives (λ v. v.items) c.read_last.result r) (with_fault c.args.self [] n why h) (gives c))
