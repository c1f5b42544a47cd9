-- A base is no longer than a start that it answers.
use Rattle.std.proofs.Common.{ℕ, suc, ◌≡◌, ◌==◌, ◌+◌, ◌≤◌, ◌++◌, Bool, true, false, [], ◌∷◌, List, length, codes, Option, None, if◌then◌else◌, refl, ap, ◌∙◌, arith, length-append, append-nil}
use Rattle.tpf_base.specs.Addresses.{Address, address_text, authority_of, query_text, target_of}
use Rattle.template_fill.specs.declared.limits.TheConstants.{LONGEST_START}
use Rattle.template_fill.specs.ReadAddress.{path_of}

path_short : (target : List ℕ) → length (path_of target) ≤ length target
path_short [] = omega arith
path_short (b ∷ rest) = by (b == 63) (path_short rest)
  where
    by : (t : Bool) → length (path_of rest) ≤ length rest → length (if t then [] else b ∷ path_of rest) ≤ suc (length rest)
    by true h = omega arith
    by false h = omega (arith, h)

-- the text of an address is its authority and its target, behind the scheme
pub text_length : (address : Address) → length (address_text address) ≡ 7 + (length (authority_of address) + length (target_of address))
text_length address = omega (arith, length-append (codes "http://" ++ authority_of address) (target_of address), length-append (codes "http://") (authority_of address), scheme_long)
  where
    scheme_long : length (codes "http://") ≡ 7
    scheme_long = refl

target_is : (base : Address) → base.query ≡ None → length (target_of base) ≡ length base.path
target_is base none = ap (λ (query : Option (List ℕ)). length (base.path ++ query_text query)) none ∙ ap length (append-nil base.path)

-- a base that has the authority and the path of the start is no longer than it
pub base_of_start : (base start : Address) → base.query ≡ None → authority_of start ≡ authority_of base → path_of (target_of start) ≡ base.path → length (address_text start) ≤ LONGEST_START → length (address_text base) ≤ LONGEST_START
base_of_start base start none same path few =
    omega (arith, few, text_length base, text_length start, target_is base none, ap length same, ap length path, path_short (target_of start))

pub target_of_start : (start : Address) → length (address_text start) ≤ LONGEST_START → length (target_of start) ≤ LONGEST_START
target_of_start start few = omega (arith, few, text_length start)
