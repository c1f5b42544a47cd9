-- Between the bounds of a pattern stand exactly the rows that it matches.
use Rattle.std.proofs.Common.{ℕ, ◌≡◌, ◌<◌, ◌≤◌, Option, Some, None, arith}
use Rattle.triple_table.specs.declared.ids.Row.{Row}
use Rattle.triple_table.specs.declared.ids.IdTriple.{IdTriple}
use Rattle.triple_table.specs.declared.ids.IdPattern.{IdPattern}
use Rattle.triple_table.specs.Rows.{key, id_triple_of, order_by, bound_of}
use Rattle.triple_table.proofs.Bounds.{IsSmall, one_is, two_are, three_are}

-- an open place fits every id
abbrev pub FitsId : Option ℕ → ℕ → Type 0
FitsId None x = Unit {0}
FitsId (Some y) x = y ≡ x

abbrev pub IsSmallId : Option ℕ → Type 0
IsSmallId None = Unit {0}
IsSmallId (Some y) = y < 4294967296

abbrev pub pattern : Option ℕ → Option ℕ → Option ℕ → IdPattern
pattern a b c = record { subject = a; predicate = b; object = c }

pub record MatchesIds (a b c : Option ℕ) (t : IdTriple) : Type 0 where
  pub subject : FitsId a t.subject
  pub predicate : FitsId b t.predicate
  pub object : FitsId c t.object

pub from_bounds : (a b c : Option ℕ) (r : Row) → IsSmallId a → IsSmallId b → IsSmallId c → IsSmall r → key (bound_of (pattern a b c) 0) ≤ key r → key r ≤ key (bound_of (pattern a b c) 4294967295) →
    MatchesIds a b c (id_triple_of (order_by a b c) r)
unfolding key
from_bounds None None None r i j k s l m = record { subject = tt; predicate = tt; object = tt }
from_bounds (Some x) None None r i j k s l m = record { subject = one_is x r.first r.second r.third s.second s.third l m; predicate = tt; object = tt }
from_bounds None (Some y) None r i j k s l m = record { subject = tt; predicate = one_is y r.first r.second r.third s.second s.third l m; object = tt }
from_bounds None None (Some z) r i j k s l m = record { subject = tt; predicate = tt; object = one_is z r.first r.second r.third s.second s.third l m }
from_bounds (Some x) (Some y) None r i j k s l m = let e = two_are x y r.first r.second r.third j s.second s.third l m in record { subject = e.0; predicate = e.1; object = tt }
from_bounds None (Some y) (Some z) r i j k s l m = let e = two_are y z r.first r.second r.third k s.second s.third l m in record { subject = tt; predicate = e.0; object = e.1 }
from_bounds (Some x) None (Some z) r i j k s l m = let e = two_are z x r.first r.second r.third i s.second s.third l m in record { subject = e.1; predicate = tt; object = e.0 }
from_bounds (Some x) (Some y) (Some z) r i j k s l m = let e = three_are x y z r.first r.second r.third j k s.second s.third l m in record { subject = e.0; predicate = e.1; object = e.2 }

pub to_bounds : (a b c : Option ℕ) (r : Row) → IsSmall r → MatchesIds a b c (id_triple_of (order_by a b c) r) → (key (bound_of (pattern a b c) 0) ≤ key r) × (key r ≤ key (bound_of (pattern a b c) 4294967295))
unfolding key
to_bounds None None None r s h = let x = s.first in let y = s.second in let z = s.third in (omega (arith, x, y, z), omega (arith, x, y, z))
to_bounds (Some a) None None r s h = let e = h.subject in let y = s.second in let z = s.third in (omega (arith, e, y, z), omega (arith, e, y, z))
to_bounds None (Some b) None r s h = let e = h.predicate in let y = s.second in let z = s.third in (omega (arith, e, y, z), omega (arith, e, y, z))
to_bounds None None (Some c) r s h = let e = h.object in let y = s.second in let z = s.third in (omega (arith, e, y, z), omega (arith, e, y, z))
to_bounds (Some a) (Some b) None r s h = let e = h.subject in let f = h.predicate in let z = s.third in (omega (arith, e, f, z), omega (arith, e, f, z))
to_bounds None (Some b) (Some c) r s h = let e = h.predicate in let f = h.object in let z = s.third in (omega (arith, e, f, z), omega (arith, e, f, z))
to_bounds (Some a) None (Some c) r s h = let e = h.object in let f = h.subject in let z = s.third in (omega (arith, e, f, z), omega (arith, e, f, z))
to_bounds (Some a) (Some b) (Some c) r s h = let e = h.subject in let f = h.predicate in let g = h.object in (omega (arith, e, f, g), omega (arith, e, f, g))

pub bound_small : (a b c : Option ℕ) (fill : ℕ) → fill < 4294967296 → IsSmallId a → IsSmallId b → IsSmallId c → IsSmall (bound_of (pattern a b c) fill)
bound_small None None None fill f i j k = record { first = f; second = f; third = f }
bound_small (Some x) None None fill f i j k = record { first = i; second = f; third = f }
bound_small None (Some y) None fill f i j k = record { first = j; second = f; third = f }
bound_small None None (Some z) fill f i j k = record { first = k; second = f; third = f }
bound_small (Some x) (Some y) None fill f i j k = record { first = i; second = j; third = f }
bound_small None (Some y) (Some z) fill f i j k = record { first = j; second = k; third = f }
bound_small (Some x) None (Some z) fill f i j k = record { first = k; second = i; third = f }
bound_small (Some x) (Some y) (Some z) fill f i j k = record { first = i; second = j; third = k }
