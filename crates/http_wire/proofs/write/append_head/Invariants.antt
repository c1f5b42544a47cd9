use Rattle.std.proofs.Common.{◌≡◌, ◌++◌, take}
use Rattle.std.specs.List.{flat_map}
use Rattle.tpf_base.specs.HttpText.{status_line, field_line}
use Rattle.http_wire.specs.Fields.{pairs_of}
use Rattle.http_wire.proofs.write.append_head.Given as goal

abbrev pub invariant-loop-field : goal.invariant-loop-field
invariant-loop-field l =
    l.out.items ≡ l.fn.out.items ++ (status_line l.fn.digits l.fn.phrase ++ flat_map field_line (pairs_of (take l.field-index l.fields)))
