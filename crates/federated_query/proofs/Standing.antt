-- Where honest servers stand at starts that are apart, one stands at each address with the authority of one of these, and the version that a choice has there is one of its.
use Rattle.std.proofs.Common.{ℕ, ◌≡◌, ◌<◌, inl, inr, true, List, [], ◌∷◌, length, refl, sym, ap, subst, ◌∙◌, arith, ⊎_elim}
use Rattle.std.specs.List.{All, AllZip, Contains}
use Rattle.std.proofs.lemmas.List.Elements.{All-head, All-tail}
use Rattle.list_laws.proofs.Members.{head_or_tail, none_in}
use Rattle.tpf_base.specs.Addresses.{Address, authority_text, authority_of}
use Rattle.tpf_base.specs.Links as links
use Rattle.tpf_base.specs.Links.{WireState}
use Rattle.template_fill.specs.Authorities.{ShareAuthority}
use Rattle.template_fill.specs.Responses.{answering, IsHonestAt}
use Rattle.bgp_core.specs.Queries.{QueryData}
use Rattle.request_plan.specs.Evaluations.{HasHome}
use Rattle.tpf_client.specs.Offers.{Publisher, StandsAmong, HasAmong, AreVersions, IsVersionOf, servers_offer}
use Rattle.tpf_client.specs.Ends.{AnswersAs}
use Rattle.tpf_client.proofs.Covered.{StandsThere}
use Rattle.pool_laws.proofs.Answers.{over_any}
use Rattle.federated_query.specs.Servers.{AreApart}

-- ---- authorities

pub same-authority : (one other : Address) → ShareAuthority one other → authority_of one ≡ authority_of other
same-authority one other s = ap (λ (h : List ℕ). authority_text h one.port) (sym s.host) ∙ ap (λ (n : ℕ). authority_text other.host n) (sym s.port)

-- an address has the authority of one of two that are apart
pub not-both : (one other address : Address) → (authority_of one ≡ authority_of other → ⊥) → ShareAuthority one address → ShareAuthority other address → ⊥
not-both one other address apart p q = apart (same-authority one address p ∙ sym (same-authority other address q))

-- ---- what the wire tells

-- there is a start, so the wire tells all
pub all-told : (allows : List ℕ → ℕ → List ℕ → List ℕ → Type 0) (wire : WireState) (starts : List Address) (publishers : List Publisher) → 0 < length starts → AllZip (AnswersAs allows wire) starts publishers → wire.nature.tells ≡ links.All
all-told allows wire [] publishers some a = absurd (omega (arith, some))
all-told allows wire (start ∷ starts) [] some a = absurd a
all-told allows wire (start ∷ starts) (p ∷ publishers) some a = a.0.tells

-- ---- a server at each address

module _ (allows : List ℕ → ℕ → List ℕ → List ℕ → Type 0) (wire : WireState) where
  -- a server that stands among these at an address, and answers there
  record Among (publishers : List Publisher) (starts : List Address) (address : Address) : Type 0 where
    server : Publisher
    stands : StandsAmong publishers starts address server
    answers : AnswersAs allows wire address server

  pub at-share : (start address : Address) (p : Publisher) → ShareAuthority start address → AnswersAs allows wire start p → AnswersAs allows wire address p
  at-share start address p s a = record {
    tells = a.tells;
    is_honest = subst (λ (port : ℕ). IsHonestAt allows address.host port (answering p.history p.config)) (sym s.port)
        (subst (λ (host : List ℕ). IsHonestAt allows host start.port (answering p.history p.config)) (sym s.host) a.is_honest);
    is_history = a.is_history;
    is_config = a.is_config;
    few = a.few;
  }

  among : (starts : List Address) (publishers : List Publisher) → AllZip (AnswersAs allows wire) starts publishers → (home address : Address) → Contains starts home → ShareAuthority home address → Among publishers starts address
  among [] publishers a home address c s = absurd (none_in home c)
  among (start ∷ starts) [] a home address c s = absurd a
  among (start ∷ starts) (p ∷ publishers) a home address c s =
      ⊎_elim
      (λ (e : start ≡ home). let own : ShareAuthority start address = subst (λ (x : Address). ShareAuthority x address) (sym e) s in let r : Among (p ∷ publishers) (start ∷ starts) address = record { server = p; stands = inl (own, refl); answers = at-share start address p own a.0 } in r)
      (λ (m : Contains starts home). let b = among starts publishers a.1 home address m s in let r : Among (p ∷ publishers) (start ∷ starts) address = record { server = b.server; stands = inr b.stands; answers = b.answers } in r)
      (head_or_tail start home starts c)

  pub servers-stand : (publishers : List Publisher) (q : QueryData) (starts : List Address) → AllZip (AnswersAs allows wire) starts publishers → (address : Address) → HasHome starts address → StandsThere allows (servers_offer publishers q starts) address
  servers-stand publishers q starts a address home =
      let r = among starts publishers a home.0 address home.1 home.2 in
      record {
        server = r.server;
        stands = r.stands;
        is_history = r.answers.is_history;
        is_config = r.answers.is_config;
        is_honest = r.answers.is_honest;
        served = λ version. true;
        is_over = over_any allows address.host address.port r.server.history r.server.config r.answers.is_honest;
      }

-- ---- the version that a choice has there

-- none of those behind stands where the first does
none-stands : (start : Address) (starts : List Address) (publishers : List Publisher) (address : Address) (server : Publisher) → All (λ other. authority_of start ≡ authority_of other → ⊥) starts → ShareAuthority start address → StandsAmong publishers starts address server → ⊥
none-stands start starts [] address server apart own s = s
none-stands start [] (p ∷ publishers) address server apart own s = s
none-stands start (other ∷ starts) (p ∷ publishers) address server apart own (inl h) = not-both start other address (All-head (λ x. authority_of start ≡ authority_of x → ⊥) other starts apart) own h.0
none-stands start (other ∷ starts) (p ∷ publishers) address server apart own (inr h) = none-stands start starts publishers address server (All-tail (λ x. authority_of start ≡ authority_of x → ⊥) other starts apart) own h

pub none-has : (start : Address) (starts : List Address) (versions : List ℕ) (address : Address) (told : ℕ) → All (λ other. authority_of start ≡ authority_of other → ⊥) starts → ShareAuthority start address → HasAmong starts versions address told → ⊥
none-has start [] versions address told apart own h = h
none-has start (other ∷ starts) [] address told apart own h = h
none-has start (other ∷ starts) (version ∷ versions) address told apart own (inl h) = not-both start other address (All-head (λ x. authority_of start ≡ authority_of x → ⊥) other starts apart) own h.0
none-has start (other ∷ starts) (version ∷ versions) address told apart own (inr h) = none-has start starts versions address told (All-tail (λ x. authority_of start ≡ authority_of x → ⊥) other starts apart) own h

pub servers-number : (publishers : List Publisher) (starts : List Address) (versions : List ℕ) (address : Address) (server : Publisher) (told : ℕ)
    → AreApart starts → AreVersions publishers versions → StandsAmong publishers starts address server → HasAmong starts versions address told → IsVersionOf server.history told
servers-number [] starts versions address server told apart are stands has = absurd stands
servers-number (p ∷ publishers) [] versions address server told apart are stands has = absurd stands
servers-number (p ∷ publishers) (start ∷ starts) [] address server told apart are stands has = absurd has
servers-number (p ∷ publishers) (start ∷ starts) (version ∷ versions) address server told apart are (inl s) (inl h) =
    subst (λ (x : Publisher). IsVersionOf x.history told) (sym s.1) (subst (λ (n : ℕ). IsVersionOf p.history n) (sym h.1) are.0)
servers-number (p ∷ publishers) (start ∷ starts) (version ∷ versions) address server told apart are (inl s) (inr h) = absurd (none-has start starts versions address told apart.0 s.0 h)
servers-number (p ∷ publishers) (start ∷ starts) (version ∷ versions) address server told apart are (inr s) (inl h) = absurd (none-stands start starts publishers address server apart.0 h.0 s)
servers-number (p ∷ publishers) (start ∷ starts) (version ∷ versions) address server told apart are (inr s) (inr h) = servers-number publishers starts versions address server told apart.1 are.1 s h
