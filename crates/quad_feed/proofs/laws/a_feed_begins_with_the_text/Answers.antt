use Rattle.std.proofs.Common.{ℕ, ◌≡◌, ◌+◌, min, List, length, refl, ap, sym, subst, ◌∙◌, arith}
use Rattle.rdf_terms.specs.declared.term.Quad.{Quad}
use Rattle.nquads_text.specs.declared.fault.Why.{Why}
use Rattle.nquads_text.specs.Reads.{Reads, FirstFault}
use Rattle.quad_feed.specs.Feed.{last_number, nothing_fed, ReadsWith, FaultWith}
use Rattle.quad_feed.proofs.laws.a_feed_begins_with_the_text.Goals as goal

reads : (longest : ℕ) (bytes : List ℕ) (quads : List Quad) → ReadsWith (nothing_fed longest) bytes quads → Reads bytes longest quads
unfolding nothing_fed
reads longest bytes quads h = subst (λ (q : List Quad). Reads bytes longest q) (sym h.2) h.1

only_reads : (longest : ℕ) (bytes : List ℕ) (quads : List Quad) → Reads bytes longest quads → ReadsWith (nothing_fed longest) bytes quads
unfolding nothing_fed
only_reads longest bytes quads h = (quads, h, refl)

faults : (longest : ℕ) (bytes : List ℕ) (number : ℕ) (why : Why) → FirstFault bytes longest number why → FaultWith (nothing_fed longest) bytes (min number last_number) why
unfolding nothing_fed
faults longest bytes number why f =
    let place : number ≡ 1 + length f.front = omega (arith, f.place) in
    record { front = f.front; line = f.line; rest = f.rest; lines = f.lines; place = ap (λ (k : ℕ). min k last_number) place; before = f.before; fault = f.fault }

only_faults : (longest : ℕ) (bytes : List ℕ) (number : ℕ) (why : Why) → FaultWith (nothing_fed longest) bytes number why → (n : ℕ) × FirstFault bytes longest n why × (number ≡ min n last_number)
unfolding nothing_fed
only_faults longest bytes number why f =
    let turn : 1 + length f.front ≡ length f.front + 1 = omega arith in
    (length f.front + 1, record { front = f.front; line = f.line; rest = f.rest; lines = f.lines; place = refl; before = f.before; fault = f.fault }, f.place ∙ ap (λ (k : ℕ). min k last_number) turn)

pub returns : goal.returns
returns c = record { reads = reads; only_reads = only_reads; faults = faults; only_faults = only_faults }
