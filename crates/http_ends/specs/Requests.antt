-- Requests as the server reads them, and the bytes of a link as requests.
use Rattle.std.specs.Prelude.{ℕ, ◌≡◌, ◌≤◌, ◌<◌, ◌-◌, false, true, Bool, not, ◌==◌, ◌&&◌, if◌then◌else◌, List, [], ◌∷◌, ◌++◌, length, map, drop, codes, bytes_eq}
use Rattle.std.specs.List.{flat_map, list_all, AllByRecursion}
use Rattle.tpf_base.specs.Addresses.{Address, IsAddress, authority_of, target_of}
use Rattle.tpf_base.specs.declared.limits.TheConstants.{HEAD_LIMIT}
use Rattle.tpf_base.specs.HttpHeads.{Request, Incomplete, Taken, next_request, ends_empty}
use Rattle.tpf_base.specs.HttpText.{request_text}

-- the request for an address
abbrev pub request_for : Address → List ℕ
request_for address = request_text (authority_of address) (target_of address)

-- what it is read as
abbrev pub asks : Address → Request
asks address = record { method = codes "GET"; target = target_of address; closes = false }

-- The request for an address is read as the GET of its target, which does not close, of exactly its length, whatever follows; a proper front of it is no request yet. It has its empty line at its end alone.
pub record IsReadWhole (address : Address) : Type 0 where
  pub next : (more : List ℕ) → next_request (request_for address ++ more) ≡ Taken (asks address) (length (request_for address))
  pub incomplete : (front rest : List ℕ) → request_for address ≡ front ++ rest → 0 < length rest → next_request front ≡ Incomplete
  pub whole : ends_empty (request_for address) (length (request_for address)) ≡ true
  pub part : (n : ℕ) (more : List ℕ) → n < length (request_for address) → ends_empty (request_for address ++ more) n ≡ false

abbrev pub RequestIsRead : Type 0
RequestIsRead = (text : List ℕ) (address : Address) → IsAddress text address → length (request_for address) ≤ HEAD_LIMIT → IsReadWhole address

-- ---- one way to cut

-- an authority and a target
pub record RequestParts : Type 0 where
  pub authority : List ℕ
  pub target : List ℕ

abbrev pub parts_text : RequestParts → List ℕ
parts_text asked = request_text asked.authority asked.target

abbrev pub parts_of : Address → RequestParts
parts_of address = record { authority = authority_of address; target = target_of address }

-- no space, CR or LF
abbrev pub is_plain : ℕ → Bool
is_plain b = not (b == 32) && (not (b == 13) && not (b == 10))

pub record IsPlain (asked : RequestParts) : Type 0 where
  pub authority : list_all is_plain asked.authority ≡ true
  pub target : list_all is_plain asked.target ≡ true

-- each address has such an authority and such a target
abbrev pub AddressesArePlain : Type 0
AddressesArePlain = (text : List ℕ) (address : Address) → IsAddress text address → IsPlain (parts_of address)

-- Of two lists of bytes that begin with requests, if they are equal then so are the requests and what follows them: none is a proper front of another.
abbrev pub RequestsDiffer : Type 0
RequestsDiffer =
    (one other : RequestParts) (more rest : List ℕ) → IsPlain one → IsPlain other → parts_text one ++ more ≡ parts_text other ++ rest → (one ≡ other) × (more ≡ rest)

-- no request stands at the front
abbrev pub HasNoRequest : List ℕ → Type 0
HasNoRequest rest = (asked : RequestParts) (more : List ℕ) → IsPlain asked → rest ≡ parts_text asked ++ more → ⊥

-- a proper front of a request has none
abbrev pub PartsHaveNone : Type 0
PartsHaveNone = (asked : RequestParts) (part more : List ℕ) → IsPlain asked → parts_text asked ≡ part ++ more → 0 < length more → HasNoRequest part

-- Bytes are cut into whole requests and a rest without one in one way.
abbrev pub RequestsAreCut : Type 0
RequestsAreCut =
    (some others : List RequestParts) (rest left : List ℕ) → AllByRecursion IsPlain some → AllByRecursion IsPlain others → HasNoRequest rest → HasNoRequest left
    → flat_map parts_text some ++ rest ≡ flat_map parts_text others ++ left → (some ≡ others) × (rest ≡ left)

-- ---- how to cut

-- the last four bytes are CR LF CR LF
abbrev pub ends_in_empty_line : List ℕ → Bool
ends_in_empty_line piece = bytes_eq (drop (length piece - 4) piece) (13 ∷ 10 ∷ 13 ∷ 10 ∷ [])

-- the bytes cut behind each empty line, where some of the first piece stand already, and what is left behind the last one
abbrev pub cut_pieces : List ℕ → List ℕ → List (List ℕ) × List ℕ
cut_pieces piece [] = ([], piece)
cut_pieces piece (b ∷ bs) =
    if ends_in_empty_line (piece ++ b ∷ []) then ((piece ++ b ∷ []) ∷ (cut_pieces [] bs).0, (cut_pieces [] bs).1) else cut_pieces (piece ++ b ∷ []) bs

-- Requests, and a proper front of one behind them, are cut as they were put together.
abbrev pub PiecesAreRequests : Type 0
PiecesAreRequests =
    (all : List RequestParts) (last : RequestParts) (part more : List ℕ) → AllByRecursion IsPlain all → IsPlain last → parts_text last ≡ part ++ more → 0 < length more
    → cut_pieces [] (flat_map parts_text all ++ part) ≡ (map parts_text all, part)
