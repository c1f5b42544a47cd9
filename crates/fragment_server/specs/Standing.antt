-- Where a server of fragments stands, and what a wire in one process to several of them is.
use Rattle.std.specs.Prelude.{ℕ, ◌≡◌, ◌==◌, ◌&&◌, bytes_eq, Bool, true, false, List, [], ◌∷◌, Option, Some}
use Rattle.std.specs.List.{AllByRecursion}
use Rattle.rdf_terms.specs.declared.term.Triple.{Triple}
use Rattle.tpf_base.specs.Addresses.{Address}
use Rattle.tpf_base.specs.Links.{All, WireState}
use Rattle.template_fill.specs.Authorities.{ShareAuthority}
use Rattle.template_fill.specs.Responses.{answering, IsHonestAt}
use Rattle.connections.specs.Versions.{IsHistory}
use Rattle.loop_wire.specs.Standing.{first_there, owed_to}
use Rattle.loop_wire.specs.Looped.{Looped, state_in}
use Rattle.fragment_server.specs.declared.server.FragmentServer.{FragmentServer}
use Rattle.fragment_server.specs.Failing.{failing_response}
use Rattle.fragment_server.specs.Fragments.{serving_of}

-- the base of its addresses
abbrev pub base_of : FragmentServer → Address
base_of server = server.server.config.base

-- at the host and the port of its base, which are those of each of its pages
abbrev pub stands_there : FragmentServer → List ℕ → ℕ → Bool
stands_there server host port = bytes_eq (base_of server).host host && ((base_of server).port == port)

-- no server has the host and the port of another one's base
abbrev pub StandApart : List FragmentServer → Type 0
StandApart [] = Unit {0}
StandApart (server ∷ servers) = AllByRecursion (λ other. ShareAuthority (base_of server) (base_of other) → ⊥) servers × StandApart servers

-- ---- a wire in one process to servers

-- what is owed to what was sent to a host and a port: the response of the first server that stands there, in which a reload request is answered as one that failed; nothing where none stands
abbrev pub owes : List FragmentServer → Option (List ℕ × ℕ) → List ℕ → List ℕ
owes servers = owed_to failing_response (λ server. serving_of server.server) (first_there stands_there) servers

abbrev pub allows_of : Looped (List FragmentServer) → List ℕ → ℕ → List ℕ → List ℕ → Type 0
allows_of wire host port sent owed = owed ≡ owes wire.server (Some (host, port)) sent

abbrev pub wire_of : Looped (List FragmentServer) → WireState
wire_of wire = state_in false (owes wire.server) wire

-- ---- honesty

-- at the host and the port of its base a server answers, over each history of as many data sets as the number of its version, of which the last is the one that is served
abbrev pub IsHonestThere : (List ℕ → ℕ → List ℕ → List ℕ → Type 0) → FragmentServer → Type 0
IsHonestThere allows server = (history : List (List Triple)) → IsHistory history (serving_of server.server)
    → IsHonestAt allows (base_of server).host (base_of server).port (answering history server.server.config)

-- A wire that tells all, and over which each of its servers answers at the host and the port of its base.
pub record IsHonestToEach (wire : Looped (List FragmentServer)) : Type 0 where
  pub tells : (wire_of wire).nature.tells ≡ All
  pub lively : (wire_of wire).nature.lively ≡ true
  pub servers : AllByRecursion (IsHonestThere (allows_of wire)) wire.server

-- The law: so is a wire in one process to servers that stand apart, however often it was called.
abbrev pub WiresToServersAreHonest : Type 0
WiresToServersAreHonest = (wire : Looped (List FragmentServer)) → StandApart wire.server → IsHonestToEach wire
