-- Addresses by example: as they are typed, and as they stand once they were read.
use Rattle.std.specs.Prelude.{◌≡◌, [], Some, None, codes}
use Rattle.std.proofs.Common.{refl, inr}
use Rattle.std.specs.Fmt.{digits}
use Rattle.tpf_base.specs.Addresses.{IsAddress, IsAuthority, address_text, authority_of, target_of}

-- the host in lower case, no port 80, and / for the empty path
pub short : IsAddress (codes "http://E.Example:80") (record { host = codes "e.example"; port = 80; path = codes "/"; query = None })
unfolding digits
short = record {
  typed_host = codes "E.Example";
  typed_port = codes ":80";
  typed_path = [];
  is_text = refl;
  host = refl;
  host_kept = refl;
  port = inr (refl, refl);
  path = refl;
  path_kept = refl;
  query = refl;
}

-- what is kept of it
pub short_text : address_text (record { host = codes "e.example"; port = 80; path = codes "/"; query = None }) ≡ codes "http://e.example/"
short_text = refl

-- a port of its own, a path and a query
pub long : IsAddress (codes "http://localhost:8080/data?subject=a") (record { host = codes "localhost"; port = 8080; path = codes "/data"; query = Some (codes "subject=a") })
unfolding digits
long = record {
  typed_host = codes "localhost";
  typed_port = codes ":8080";
  typed_path = codes "/data";
  is_text = refl;
  host = refl;
  host_kept = refl;
  port = inr (refl, refl);
  path = refl;
  path_kept = refl;
  query = refl;
}

pub long_authority : authority_of (record { host = codes "localhost"; port = 8080; path = codes "/data"; query = Some (codes "subject=a") }) ≡ codes "localhost:8080"
unfolding digits
long_authority = refl

pub long_target : target_of (record { host = codes "localhost"; port = 8080; path = codes "/data"; query = Some (codes "subject=a") }) ≡ codes "/data?subject=a"
long_target = refl

-- the authority of the program's own server
pub local : IsAuthority (codes "localhost")
local = record { host = codes "localhost"; port = 80; is_text = refl; is_host = refl; is_port = refl }
