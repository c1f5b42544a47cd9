use Rattle.std.proofs.Common.{ℕ, ◌≡◌, ◌+◌, ◌^◌, ◌<◌, ◌≤◌, length, subst, sym}
use Rattle.std.specs.List.{Contains}
use Rattle.triple_table.specs.Served.{terms_of}
use Rattle.triple_table.specs.Stored.{Stored, IsStored, triples_in}
use Rattle.triple_table.specs.declared.ids.Order.TheVariants.{Spo}
use Rattle.triple_table.proofs.Ranges.{digits_of_terms, stored_len}
use Rattle.triple_table.proofs.table.Table.id.Goals as goal

cost_of : (s t : Stored) (start now : ℕ) → s ≡ t → IsStored s → ((digits : ℕ) → length s.terms < 2 ^ digits → now ≤ start + digits) → (digits : ℕ) → length (triples_in t) < 2 ^ digits → now ≤ start + (digits + 2)
cost_of s t start now e h f digits l =
    f (digits + 2) (digits_of_terms (length s.terms) (length s.spo) digits h.few (subst (λ n. n < 2 ^ digits) (sym (stored_len s Spo s.spo (h.rows Spo))) (subst (λ x. length (triples_in x) < 2 ^ digits) (sym e) l)))

pub returns-in_err-place-clause-id : goal.returns-in_err-place-clause-id
returns-in_err-place-clause-id g c = rw c.from_residual.ensures (λ h.
    c.in_err-place.ensures.place ((c.self.invariant.ranking.members c.args.term.now).1 (subst (λ x. Contains (terms_of (triples_in x)) c.args.term.now) (sym c.self.view_is) h)))

pub returns-in_err-place-clause-cost : goal.returns-in_err-place-clause-cost
returns-in_err-place-clause-cost g c = cost_of _ _ c.args.steps.now c.find.new.steps c.self.view_is c.self.invariant c.in_err-place.ensures.cost

pub returns-clause-cost : goal.returns-clause-cost
returns-clause-cost g c = cost_of _ _ c.args.steps.now c.find.new.steps c.self.view_is c.self.invariant c.in_ok-place.ensures.cost
