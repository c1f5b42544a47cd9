use Rattle.std.proofs.Common.{◌-◌, ◌+◌, ℕ, ap}
use Rattle.http_wire.specs.Requests.{Held}
use Rattle.http_wire.proofs.FeedLemmas.{note_searched}
use Rattle.http_wire.proofs.request.RequestFeed.note.Goals as goal

pub invariant_of-self : goal.invariant_of-self
invariant_of-self c = note_searched c.self.inside.bytes.items c.self.inside.given c.args.blank _ c.args.self.now.bytes (ap (λ (h : Held). h.bytes) c.self.view_is) c.self.invariant.0 c.requires.blank c.requires.none (ap (λ (n : ℕ). n - c.args.blank + 1) c.held.ensures)
