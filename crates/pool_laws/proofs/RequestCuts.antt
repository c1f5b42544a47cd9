-- What a link tells was requested in one way.
use Rattle.std.proofs.Common.{ℕ, ◌≡◌, ◌<◌, ◌++◌, List, [], ◌∷◌, map, length, Some, refl, sym, ◌∙◌, ap, subst, arith, append-nil}
use Rattle.std.specs.List.{AllByRecursion, flat_map}
use Rattle.tpf_base.specs.Addresses.{Address}
use Rattle.tpf_base.specs.Links.{Link}
use Rattle.http_ends.specs.Requests.{request_for, RequestParts, parts_text, parts_of, IsPlain, AddressesArePlain, HasNoRequest, PartsHaveNone, RequestsAreCut}
use Rattle.list_laws.proofs.Each.{all_append}
use Rattle.pool_laws.specs.Following.{IsWebAddress}
use Rattle.pool_laws.specs.Sending.{requests_for}
use Rattle.pool_laws.specs.Requested.{Exchanged, IsAnswered, addresses_exchanged, LastRequest, NoneWhole, Unanswered, Replied, LinkRequests, last_whole, whole_requests, IsProperPart, Nothing, FrontOf, IsLast, TellsRequests, RequestsAreOne}
use Rattle.pool_laws.proofs.Following.{flat-append}

same_texts : (xs : List Address) → flat_map parts_text (map parts_of xs) ≡ requests_for xs
same_texts [] = refl
same_texts (x ∷ xs) = ap (λ (t : List ℕ). request_for x ++ t) (same_texts xs)

each_text : (xs : List Address) → map request_for xs ≡ map parts_text (map parts_of xs)
each_text [] = refl
each_text (x ∷ xs) = ap (λ (t : List (List ℕ)). request_for x ∷ t) (each_text xs)

are_addresses : (limit : ℕ) (answered : List Exchanged) → AllByRecursion (IsAnswered limit) answered → AllByRecursion IsWebAddress (addresses_exchanged answered)
are_addresses limit [] all = tt
are_addresses limit (x ∷ xs) all = (all.0.is_address, are_addresses limit xs all.1)

-- the bytes are the requests for these addresses and a rest without one
record CutAs (xs : List Address) (sent : List ℕ) : Type 0 where
  rest : List ℕ
  none : HasNoRequest rest
  are : AllByRecursion IsWebAddress xs
  is : sent ≡ requests_for xs ++ rest

module _ (plain : AddressesArePlain) (parts : PartsHaveNone) (cut : RequestsAreCut) where
  are_plain : (xs : List Address) → AllByRecursion IsWebAddress xs → AllByRecursion IsPlain (map parts_of xs)
  are_plain [] all = tt
  are_plain (x ∷ xs) all = (plain all.0.0 x all.0.1, are_plain xs all.1)

  some_text : (asked : RequestParts) → 0 < length (parts_text asked)
  some_text asked = omega arith

  nothing_none : HasNoRequest []
  nothing_none =
      let asked : RequestParts = record { authority = []; target = [] } in
      parts asked [] (parts_text asked) (record { authority = refl; target = refl }) refl (some_text asked)

  part_none : (part : List ℕ) → IsProperPart part → HasNoRequest part
  part_none part (Nothing e) = subst HasNoRequest (sym e) nothing_none
  part_none part (FrontOf address rest is e some) = parts (parts_of address) part rest (plain is.0 address is.1) e some

  whole_last : (xs : List Address) (address : Address) (sent part : List ℕ) → AllByRecursion IsWebAddress xs → IsWebAddress address → part ≡ request_for address → sent ≡ requests_for xs ++ part → CutAs (xs ++ address ∷ []) sent
  whole_last xs address sent part all is same e = record {
    rest = [];
    none = nothing_none;
    are = all_append IsWebAddress xs (address ∷ []) all (is, tt);
    is = e ∙ ap (λ (t : List ℕ). requests_for xs ++ t) (same ∙ sym (append-nil (request_for address))) ∙ sym (flat-append request_for xs (address ∷ [])) ∙ sym (append-nil (requests_for (xs ++ address ∷ [])));
  }

  cut_last : (limit : ℕ) (link : Link) (last : LastRequest) (xs : List Address) (sent part received : List ℕ) → AllByRecursion IsWebAddress xs → IsLast limit link last part received → sent ≡ requests_for xs ++ part → CutAs (xs ++ last_whole last) sent
  cut_last limit link NoneWhole xs sent part received all h e =
      subst (λ (l : List Address). CutAs l sent) (sym (append-nil xs)) (record { rest = part; none = part_none part h; are = all; is = e })
  cut_last limit link (Unanswered address) xs sent part received all h e = whole_last xs address sent part all h.0 h.1 e
  cut_last limit link (Replied address) xs sent part received all h e = whole_last xs address sent part all h.0 h.1 e

  cut_of : (limit : ℕ) (link : Link) (r : LinkRequests) (sent : List ℕ) → link.sent ≡ Some sent → TellsRequests limit link r → CutAs (whole_requests r) sent
  cut_of limit link r sent told h = cut_last limit link r.last (addresses_exchanged r.answered) sent h.sent h.received (are_addresses limit r.answered h.answered) h.last (h.sent_is sent told)

  one_way : (xs ys : List Address) (sent : List ℕ) → CutAs xs sent → CutAs ys sent → map request_for xs ≡ map request_for ys
  one_way xs ys sent c d =
      let both : flat_map parts_text (map parts_of xs) ++ c.rest ≡ flat_map parts_text (map parts_of ys) ++ d.rest
      = ap (λ (t : List ℕ). t ++ c.rest) (same_texts xs) ∙ sym c.is ∙ d.is ∙ ap (λ (t : List ℕ). t ++ d.rest) (sym (same_texts ys)) in
      let same = (cut (map parts_of xs) (map parts_of ys) c.rest d.rest (are_plain xs c.are) (are_plain ys d.are) c.none d.none both).0 in
      each_text xs ∙ ap (λ (l : List RequestParts). map parts_text l) same ∙ sym (each_text ys)

  pub requests_one : RequestsAreOne
  requests_one limit link one other sent told h i = one_way (whole_requests one) (whole_requests other) sent (cut_of limit link one sent told h) (cut_of limit link other sent told i)
