use Rattle.std.proofs.Common.{◌≡◌, ℕ, List, [], ◌∷◌, ◌++◌, subst, sym, ap₂, ◌∙◌}
use Rattle.std.specs.Prelude.{OnOk, codes}
use Rattle.http_wire.proofs.WriteLemmas.{request_is}
use Rattle.http_wire.proofs.write.write_request.Goals as goal

pub returns-clause-ok : goal.returns-clause-ok
returns-clause-ok c =
    subst (λ (x : List ℕ). OnOk c.append_all.result (c.append_all.new.out.items ≡ c.args.out.now.items ++ x))
    (ap₂ (λ (t a : List ℕ). codes "GET " ++ (t ++ ((codes " HTTP/1.1" ++ (13 ∷ 10 ∷ []) ++ codes "Host: ") ++ (a ++ (((13 ∷ 10 ∷ []) ++ codes "Accept: application/n-quads" ++ (13 ∷ 10 ∷ 13 ∷ 10 ∷ [])) ++ []))))) c.as_bytes.ensures.value c.as_bytes-2.ensures.value
    ∙ sym (request_is c.args.authority.now c.args.target.now))
    c.append_all.ensures.ok
