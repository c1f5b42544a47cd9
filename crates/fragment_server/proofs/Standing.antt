-- Which server answers at the base of a server, where all stand apart.
use Rattle.std.proofs.Common.{◌≡◌, ◌==◌, bytes_eq, true, false, List, [], ◌∷◌, Some, refl, sym, ap, ◌∙◌}
use Rattle.std.specs.List.{AllByRecursion}
use Rattle.std.proofs.lemmas.Bool.{and_from, and_parts, eq-eqb, eqb-true, false_from_ne_true, cond-true, cond-false}
use Rattle.std.proofs.lemmas.Slice.Eq.{bytes_eq-Decides}
use Rattle.template_fill.specs.Authorities.{ShareAuthority}
use Rattle.loop_wire.specs.Standing.{first_at, owed_by}
use Rattle.loop_wire.specs.Looped.{Looped}
use Rattle.fragment_server.specs.declared.server.FragmentServer.{FragmentServer}
use Rattle.fragment_server.specs.Failing.{failing_response}
use Rattle.fragment_server.specs.Fragments.{serving_of}
use Rattle.fragment_server.specs.Standing.{base_of, stands_there, StandApart, allows_of, IsHonestThere, WiresToServersAreHonest}
use Rattle.fragment_server.proofs.Honest.{owes_response}

-- it stands at its own base
at_home : (server : FragmentServer) → stands_there server (base_of server).host (base_of server).port ≡ true
at_home server = and_from _ _ ((bytes_eq-Decides (base_of server).host (base_of server).host).1 refl) (eq-eqb (base_of server).port (base_of server).port refl)

-- and not at that of one that stands apart
not_there : (server other : FragmentServer) → (ShareAuthority (base_of server) (base_of other) → ⊥) → stands_there server (base_of other).host (base_of other).port ≡ false
not_there server other apart = false_from_ne_true _ (λ there.
    let both = and_parts (bytes_eq (base_of server).host (base_of other).host) ((base_of server).port == (base_of other).port) there in
    apart (record {
      host = sym ((bytes_eq-Decides (base_of server).host (base_of other).host).0 both.0);
      port = sym (eqb-true (base_of server).port (base_of other).port both.1);
    }))

-- the first server that stands at its base is itself
abbrev AnswersAtHome : List FragmentServer → FragmentServer → Type 0
AnswersAtHome servers server = first_at stands_there servers (base_of server).host (base_of server).port ≡ Some server

behind : (first : FragmentServer) (servers some : List FragmentServer) → AllByRecursion (λ other. ShareAuthority (base_of first) (base_of other) → ⊥) some → AllByRecursion (AnswersAtHome servers) some → AllByRecursion (AnswersAtHome (first ∷ servers)) some
behind first servers [] apart home = tt
behind first servers (server ∷ some) apart home = (cond-false _ _ _ (not_there first server apart.0) ∙ home.0, behind first servers some apart.1 home.1)

all_home : (servers : List FragmentServer) → StandApart servers → AllByRecursion (AnswersAtHome servers) servers
all_home [] apart = tt
all_home (server ∷ servers) apart = (cond-true _ _ _ (at_home server), behind server servers servers apart.0 (all_home servers apart.1))

honest_there : (wire : Looped (List FragmentServer)) (some : List FragmentServer) → AllByRecursion (AnswersAtHome wire.server) some → AllByRecursion (IsHonestThere (allows_of wire)) some
honest_there wire [] home = tt
honest_there wire (server ∷ some) home = (
  (λ history last sent owed is. owes_response (serving_of server.server) history last sent owed (is ∙ ap (λ o. owed_by (λ s. failing_response (serving_of s.server)) o sent) home.0)),
  honest_there wire some home.1,
)

pub wires_are_honest : WiresToServersAreHonest
wires_are_honest wire apart = record { tells = refl; lively = refl; servers = honest_there wire wire.server (all_home wire.server apart) }
