-- The link at the place is taken.
use Rattle.std.proofs.Common.{ℕ, ◌≡◌, ◌<◌, List, length, refl, subst, sym, arith, slice_index_or}
use Rattle.request_pool.specs.declared.asks.Spare.{Spare}
use Rattle.request_pool.specs.Polls.{IsFor}
use Rattle.request_pool.proofs.Taking.{takes_one}
use Rattle.request_pool.proofs.links.take_link.Goals as goal

at_place : (xs ys : List Spare) (i : ℕ) → xs ≡ ys → i < length xs → i < length ys
at_place xs ys i e h = subst (λ (l : List Spare). i < length l) e h

pub returns-in-Some : goal.returns-in-Some
returns-in-Some c = λ ticket. (
  omega (arith, c.if-failed-gt0.false),
  (
    c.remove.result,
    refl,
    subst (λ (x : Spare). IsFor c.args.address.now x) (sym c.remove.ensures.value) (subst (λ (l : List Spare). IsFor c.args.address.now (slice_index_or l c.in-Some.place c.remove.result)) c.as_slice.ensures.value (c.in-Some.ensures.1 c.remove.result)),
    takes_one c.args.spare.now.items c.remove.new.self.items c.in-Some.place c.remove.result (at_place _ _ c.in-Some.place c.as_slice.ensures.value c.in-Some.ensures.0) c.remove.ensures.value c.remove.ensures.by_index.2,
  ),
)
