-- Tests of three places, and of one more.
use Rattle.std.proofs.Common.{◌≡◌, Bool, true, false, ◌&&◌, ◌||◌, refl, sym}

-- three tests and three tests are three tests of two
pub place_by_place : (a b c d e f : Bool) → ((a && (b && c)) && (d && (e && f))) ≡ ((a && d) && ((b && e) && (c && f)))
place_by_place false b c d e f = refl
place_by_place true false c true e f = refl
place_by_place true false c false e f = refl
place_by_place true true c true true f = refl
place_by_place true true true true false f = refl
place_by_place true true false true false f = refl
place_by_place true true true false e f = refl
place_by_place true true false false e f = refl

pub second_false : (a c : Bool) → (a && (false && c)) ≡ false
second_false true c = refl
second_false false c = refl

pub third_false : (a b : Bool) → (a && (b && false)) ≡ false
third_false true true = refl
third_false true false = refl
third_false false b = refl

pub three : (a b c x y z : Bool) → a ≡ x → b ≡ y → c ≡ z → (a && (b && c)) ≡ (x && (y && z))
three a b c x y z e f g = cc

pub and_or : (b x r : Bool) → (b && (x || r)) ≡ ((b && x) || (b && r))
and_or true x r = refl
and_or false x r = refl

pub or_absorbed : (m r : Bool) → (m ≡ true → r ≡ true) → (m || r) ≡ r
or_absorbed true r h = sym (h refl)
or_absorbed false r h = refl

pub either : (a b x y : Bool) → a ≡ x → b ≡ y → (a || b) ≡ (x || y)
either a b x y e f = cc
