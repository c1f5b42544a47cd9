-- So many starts were read.
use Rattle.std.proofs.Common.{◌≡◌, List, take}
use Rattle.tpf_base.specs.Links.{SameAllowed}
use Rattle.fragment_page.specs.declared.page.Page.{Page}
use Rattle.tpf_client.specs.Starts.{HasStarts, forms_of, versions_of}
use Rattle.tpf_client.proofs.start.ask_starts.Given as goal

abbrev pub invariant-loop-start : goal.invariant-loop-start
invariant-loop-start g l = record {
  so : (pages : List Page) × (l.forms.items ≡ forms_of pages) × (l.versions.items ≡ versions_of pages) × HasStarts (g.W.Wire.allows l.fn.wire) (take l.start-index l.starts) pages l.fn.asks l.asks (g.W.Wire.state l.fn.wire) (g.W.Wire.state l.wire);
  allowed : SameAllowed (g.W.Wire.allows l.fn.wire) (g.W.Wire.allows l.wire);
}
