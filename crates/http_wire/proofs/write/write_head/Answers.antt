use Rattle.std.proofs.Common.{◌≡◌, ℕ, List, ◌++◌, subst, ap₂}
use Rattle.std.specs.Prelude.{OnOk}
use Rattle.tpf_base.specs.HttpText.{answer_head}
use Rattle.http_wire.specs.Fields.{pairs_of}
use Rattle.http_wire.proofs.write.write_head.Goals as goal

pub returns-else-is_err-clause-ok : goal.returns-else-is_err-clause-ok
returns-else-is_err-clause-ok c =
    subst (λ (x : List ℕ). OnOk c.append_head-done.result (c.append_head-done.new.out.items ≡ c.args.out.now.items ++ x))
    (ap₂ (λ (d p : List ℕ). answer_head d p (pairs_of c.args.fields.now)) c.as_bytes.ensures.value c.as_bytes-2.ensures.value)
    c.append_head-done.ensures.ok
