-- The first start with the authority, or the last.
use Rattle.std.proofs.Common.{◌+◌, ◌<◌, ◌≤◌, length, refl, sym, ap, ◌∙◌, arith}
use Rattle.std.proofs.lemmas.Bool.{false≢true}
use Rattle.tpf_base.specs.Addresses.{authority_of}
use Rattle.tpf_client.proofs.Told.{last-at, found-at, passed-at}
use Rattle.tpf_client.proofs.turns.Bounds.version_at.Goals as goal

pub returns-then-place-count : goal.returns-then-place-count
returns-then-place-count c =
    let below : c.loop-place.place < length c.args.self.now.versions.now = omega arith in
    let last : length c.args.self.now.starts.now ≤ c.loop-place.place + 1 = omega arith in
    sym (last-at c.args.self.now.starts.now c.args.self.now.versions.now c.args.address.now c.loop-place.place below last) ∙ c.loop-place.invariant

pub returns-then-same_authority : goal.returns-then-same_authority
returns-then-same_authority c =
    let below : c.loop-place.place < length c.args.self.now.versions.now = omega arith in
    let here : c.loop-place.place < length c.args.self.now.starts.now = omega arith in
    sym (found-at c.args.self.now.starts.now c.args.self.now.versions.now c.args.address.now c.loop-place.place c.index-self-place.result c.index-self-place.is below here (ap authority_of c.index-self-place.is ∙ c.if-same_authority.ensures.0 refl)) ∙ c.loop-place.invariant

pub loop-place-preserved : goal.loop-place-preserved
loop-place-preserved c =
    let below : c.loop-place.place < length c.args.self.now.versions.now = omega arith in
    let more : c.loop-place.place + 1 < length c.args.self.now.starts.now = omega arith in
    sym (passed-at c.args.self.now.starts.now c.args.self.now.versions.now c.args.address.now c.loop-place.place c.index-self-place.result c.index-self-place.is below more (λ e. false≢true (c.if-same_authority.ensures.1 (ap authority_of (sym c.index-self-place.is) ∙ e)))) ∙ c.loop-place.invariant
