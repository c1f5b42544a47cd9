use Rattle.std.proofs.Common.{sym, ap, subst, ◌∙◌}
use Rattle.std.specs.Str.{IsAscii}
use Rattle.tpf_base.specs.HttpHeads.{from_path}
use Rattle.http_wire.proofs.FieldLemmas.{path_is_ascii}
use Rattle.http_wire.proofs.target.origin_form.Goals as goal

pub with_path-requires : goal.with_path-requires
with_path-requires c = subst IsAscii (sym (c.from_path.ensures ∙ ap from_path c.after_scheme.ensures)) (path_is_ascii c.args.target.now c.requires)
