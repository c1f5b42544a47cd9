-- The start of a server in the same process is an address.
use Rattle.std.proofs.Common.{inl, [], codes, refl}
use Rattle.tpf_base.specs.Addresses.{IsAddress}
use Rattle.template_fill.specs.WebAddress.{IsNoAddress}
use Rattle.query_command.specs.Loops.{local_base}

pub is_base : IsAddress (codes "http://localhost/data") local_base
is_base = record {
  typed_host = codes "localhost";
  typed_port = [];
  typed_path = codes "/data";
  is_text = refl;
  host = refl;
  host_kept = refl;
  port = inl (refl, refl);
  path = refl;
  path_kept = refl;
  query = refl;
}

pub is_some_base : IsNoAddress (codes "http://localhost/data") → ⊥
is_some_base none = none local_base is_base
