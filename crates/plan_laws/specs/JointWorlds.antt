-- What several servers have together: the union of their triples, asked for in rounds of which each has a page of all servers.
use Rattle.std.specs.Prelude.{ℕ, zero, suc, ◌+◌, ◌-◌, ◌<◌, ◌&&◌, Bool, true, if◌then◌else◌, nat_lt, nat_le, max, List, [], ◌∷◌, ◌++◌, length, map}
use Rattle.std.specs.List.{flat_map, list_any, All}
use Rattle.rdf_terms.specs.declared.term.Triple.{Triple}
use Rattle.rdf_terms.specs.declared.slots.Slots.{Slots}
use Rattle.rdf_terms.specs.Same.{triple_eq}
use Rattle.rdf_terms.specs.Selections.{Selection}
use Rattle.rdf_terms.specs.Order.{triple_order}
use Rattle.rdf_terms.specs.Fragments.{sorted}
use Rattle.bgp_core.specs.Solutions.{distinct_after}
use Rattle.tpf_base.specs.Addresses.{Address}
use Rattle.request_plan.specs.Rounds.{RoundData}
use Rattle.request_plan.specs.Worlds.{World, IsWorld}

-- the union of sets of triples: each triple of one of them, once, in the order of triples (RDF 1.1 Concepts, 3.1: a graph is a set)
unfoldable pub union : List (List Triple) → List Triple
union sets = sorted triple_order (flat_map (λ set. set) sets)

-- the number of triples that the servers tell of together; one that several of them hold is told of by each
abbrev pub joint_count : List World → Selection → ℕ
joint_count [] s = 0
joint_count (w ∷ worlds) s = w.count s + joint_count worlds s

-- the greatest number of a last page
abbrev pub joint_last : List World → Selection → ℕ
joint_last [] s = 0
joint_last (w ∷ worlds) s = max (w.last s) (joint_last worlds s)

-- what stands on the page after the first k pages at each server that has it
abbrev pub items_at : Selection → ℕ → World → List Triple
items_at s k w = if nat_lt k (w.last s) then w.items s k else []

abbrev pub all_items : List World → Selection → ℕ → List Triple
all_items worlds s k = flat_map (items_at s k) worlds

-- the triples of the first k pages of all servers, each once, in the order in which they come first
abbrev pub taken_before : List World → Selection → ℕ → List Triple
taken_before worlds s zero = []
taken_before worlds s (suc k) = taken_before worlds s k ++ distinct_after (taken_before worlds s k) (all_items worlds s k)

-- those of the page after them that are new
abbrev pub joint_items : List World → Selection → ℕ → List Triple
joint_items worlds s k = distinct_after (taken_before worlds s k) (all_items worlds s k)

-- the addresses of page k at each server that has it
abbrev pub addresses_at : Selection → ℕ → World → List Address
addresses_at s k w = if nat_le k (w.last s) then (w.round s k).addresses else []

abbrev pub joint_round : List World → Selection → ℕ → RoundData
joint_round worlds s k = record { addresses = flat_map (addresses_at s k) worlds; taken = sorted triple_order (taken_before worlds s (k - 1)) }

abbrev pub holds : World → Triple → Bool
holds w t = list_any (λ other. triple_eq other t) w.triples

-- a triple is kept where one of the servers that have it keeps it
abbrev pub joint_keeps : List World → List Slots → Triple → Bool
joint_keeps worlds rows t = if list_any (λ w. holds w t) worlds then list_any (λ w. holds w t && w.keeps rows t) worlds else true

-- the world of several servers, which are asked row by row
abbrev pub several_world : List World → World
several_world worlds = record {
  triples = union (map (λ w. w.triples) worlds);
  keeps = joint_keeps worlds;
  block = 1;
  count = joint_count worlds;
  last = joint_last worlds;
  items = joint_items worlds;
  round = joint_round worlds;
}

-- the world of all servers together; that of one alone is the server's own, whose pages hold each triple once by themselves
abbrev pub joint_world : List World → World
joint_world [] = several_world []
joint_world (w ∷ []) = w
joint_world (w ∷ v ∷ worlds) = several_world (w ∷ v ∷ worlds)

-- where each of some servers is a world, they are a world together
abbrev pub WorldsAreJoined : Type 0
WorldsAreJoined = (worlds : List World) → All IsWorld worlds → 0 < length worlds → IsWorld (joint_world worlds)
