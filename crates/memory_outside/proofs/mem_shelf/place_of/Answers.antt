use Rattle.std.proofs.Common.{◌∙◌, sym, ap, ℕ, ◌≡◌, ◌<◌, true, List, length, refl, arith}
use Rattle.std.specs.Str.{bytes_eq}
use Rattle.std.proofs.lemmas.Option.{slice_get_read}
use Rattle.memory_outside.proofs.Shelves.{content_at}
use Rattle.memory_outside.proofs.mem_shelf.place_of.Goals as goal

pub returns-then-eq-clause-found : goal.returns-then-eq-clause-found
returns-then-eq-clause-found c =
    let below : c.loop-i.i < length c.args.files.now = omega arith in
    let same : bytes_eq c.index-files-i.result.0 c.args.name.now ≡ true = ap (λ (s : List ℕ). bytes_eq s c.args.name.now) (sym c.as_str.ensures.value) ∙ sym c.if-eq.ensures in (
      c.index-files-i.result,
      slice_get_read c.args.files.now _ c.loop-i.i _ refl below c.index-files-i.is,
      c.loop-i.invariant ∙ content_at _ _ c.loop-i.i c.index-files-i.result below c.index-files-i.is same,
    )
