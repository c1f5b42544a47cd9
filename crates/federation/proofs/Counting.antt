-- There are as many forms as servers.
use Rattle.std.proofs.Common.{ℕ, suc, ◌≡◌, ◌<◌, ◌≤◌, Bool, if◌then◌else◌, List, [], ◌∷◌, ◌++◌, length, refl, ap, ◌∙◌, arith}
use Rattle.std.specs.Prelude.{◌==◌}
use Rattle.std.specs.List.{All, flat_map}
use Rattle.std.proofs.lemmas.Bool.{le-leb}
use Rattle.std.proofs.lemmas.List.Elements.{All-head, All-tail}
use Rattle.rdf_terms.specs.declared.slots.Slot.TheVariants.{Any}
use Rattle.rdf_terms.specs.Selections.{Selection, all_of}
use Rattle.tpf_base.specs.Addresses.{Address}
use Rattle.template_fill.specs.declared.form.Form.{Form}
use Rattle.request_plan.specs.Rounds.{RoundData, AreFirst}
use Rattle.request_plan.specs.Worlds.{World, IsWorld, IsOneServer}
use Rattle.join_core.specs.Joins.{JoinData, Suits}
use Rattle.plan_laws.specs.JointWorlds.{addresses_at, joint_world}
use Rattle.joint_pages.specs.Truths.{AreServers, is_one}

as-many : (forms : List Form) (s : Selection) (addresses : List Address) → AreFirst forms s addresses → length forms ≡ length addresses
as-many [] s [] h = refl
as-many [] s (a ∷ addresses) h = absurd h
as-many (form ∷ forms) s [] h = absurd h
as-many (form ∷ forms) s (a ∷ addresses) h = ap (λ (n : ℕ). suc n) (as-many forms s addresses h.1)

some-page : (n : ℕ) → 0 < n → 1 ≤ n
some-page n h = omega (arith, h)

-- each server has one first page
round-many : (worlds : List World) → All IsWorld worlds → All IsOneServer worlds → (s : Selection) → length (flat_map (addresses_at s 1) worlds) ≡ length worlds
round-many [] are one s = refl
round-many (w ∷ worlds) are one s =
    let rest = flat_map (addresses_at s 1) worlds in
    let here = le-leb 1 (w.last s) (some-page (w.last s) ((All-head IsWorld w worlds are).some s)) in
    ap (λ (b : Bool). length ((if b then (w.round s 1).addresses else []) ++ rest)) here
    ∙ ap (λ (r : RoundData). length (r.addresses ++ rest)) (All-head IsOneServer w worlds one s 1).1
    ∙ ap (λ (n : ℕ). suc n) (round-many worlds (All-tail IsWorld w worlds are) (All-tail IsOneServer w worlds one) s)

joint-many : (worlds : List World) → AreServers worlds → (s : Selection) → length ((joint_world worlds).round s 1).addresses ≡ length worlds
joint-many [] servers s = refl
joint-many (w ∷ []) servers s = ap (λ (r : RoundData). length r.addresses) (All-head IsOneServer w [] servers.are_one s 1).1
joint-many (w ∷ v ∷ worlds) servers s = round-many (w ∷ v ∷ worlds) servers.are_worlds servers.are_one s

-- the selection of all triples
everything : Selection
everything = all_of (record { subject = Any; predicate = Any; object = Any })

-- whether a join has one form tells whether there is one server
pub one-server : (worlds : List World) (j : JoinData) → AreServers worlds → Suits (joint_world worlds) j → (length j.forms == 1) ≡ is_one worlds
unfolding everything
one-server worlds j servers s = ap (λ (n : ℕ). n == 1) (as-many j.forms everything _ (s.forms.first everything refl).addresses ∙ joint-many worlds servers everything)
