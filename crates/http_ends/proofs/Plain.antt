-- Bytes that are no space, CR or LF, and where they stop.
use Rattle.std.proofs.Common.{◌≡◌, ℕ, Bool, true, false, ◌==◌, List, [], ◌∷◌, ◌++◌, drop, refl, sym, ap, ap₂, ◌∙◌, arith, append_assoc}
use Rattle.std.specs.Prelude.{codes, slice_index}
use Rattle.std.specs.List.{flat_map, list_all}
use Rattle.std.proofs.lemmas.Grind.{common_steps}
use Rattle.std.proofs.lemmas.Bool.{and_parts, both_ways}
use Rattle.std.proofs.lemmas.List.{append_cancel_left}
use Rattle.tpf_base.specs.HttpText.{request_text}
use Rattle.http_ends.specs.Requests.{RequestParts, parts_text, is_plain, RequestsDiffer, RequestsAreCut}
use Rattle.http_ends.proofs.EmptyLines.{quiet, ends_at}

-- two runs of bytes that pass, each before one that does not, are equal where what they begin is
pub same_run : (test : ℕ → Bool) (stop : ℕ) → test stop ≡ false → (xs ys more rest : List ℕ) → list_all test xs ≡ true → list_all test ys ≡ true
    → xs ++ stop ∷ more ≡ ys ++ stop ∷ rest → (xs ≡ ys) × (more ≡ rest)
same_run test stop fails [] [] more rest all others is = (refl, ap (drop 1) is)
same_run test stop fails [] (y ∷ ys) more rest all others is =
    let same : stop ≡ y = ap (λ (t : List ℕ). slice_index t 0) is in
    absurd (both_ways (test stop) fails (ap test same ∙ (and_parts (test y) (list_all test ys) others).0))
same_run test stop fails (x ∷ xs) [] more rest all others is =
    let same : x ≡ stop = ap (λ (t : List ℕ). slice_index t 0) is in
    absurd (both_ways (test stop) fails (ap test (sym same) ∙ (and_parts (test x) (list_all test xs) all).0))
same_run test stop fails (x ∷ xs) (y ∷ ys) more rest all others is =
    let first : x ≡ y = ap (λ (t : List ℕ). slice_index t 0) is in
    let further = same_run test stop fails xs ys more rest (and_parts (test x) (list_all test xs) all).1 (and_parts (test y) (list_all test ys) others).1 (ap (drop 1) is) in
    (ap₂ (λ (b : ℕ) (bs : List ℕ). b ∷ bs) first further.0, further.1)

-- ---- requests

unfoldable pub between : List ℕ
between = codes "HTTP/1.1" ++ 13 ∷ 10 ∷ codes "Host: "

unfoldable pub behind : List ℕ
behind = 10 ∷ codes "Accept: application/n-quads" ++ 13 ∷ 10 ∷ 13 ∷ 10 ∷ []

-- a request as its parts, each before a byte that it does not have
pub request_parts : (authority target more : List ℕ) → request_text authority target ++ more ≡ codes "GET " ++ (target ++ 32 ∷ (between ++ (authority ++ 13 ∷ (behind ++ more))))
unfolding between behind
request_parts authority target more = simp append_assoc refl

parts_same : (a b t u more rest : List ℕ) → list_all is_plain a ≡ true → list_all is_plain b ≡ true → list_all is_plain t ≡ true → list_all is_plain u ≡ true
    → codes "GET " ++ (t ++ 32 ∷ (between ++ (a ++ 13 ∷ (behind ++ more)))) ≡ codes "GET " ++ (u ++ 32 ∷ (between ++ (b ++ 13 ∷ (behind ++ rest))))
    → (a ≡ b) × (t ≡ u) × (more ≡ rest)
parts_same a b t u more rest pa pb pt pu is =
    let targets = same_run is_plain 32 refl t u _ _ pt pu (append_cancel_left (codes "GET ") _ _ is) in
    let authorities = same_run is_plain 13 refl a b _ _ pa pb (append_cancel_left between _ _ targets.1) in
    (authorities.0, targets.0, append_cancel_left behind more rest authorities.1)

pub requests_differ : RequestsDiffer
requests_differ one other more rest p q is =
    let parts = parts_same one.authority other.authority one.target other.target more rest p.authority q.authority p.target q.target
    (sym (request_parts one.authority one.target more) ∙ is ∙ request_parts other.authority other.target rest) in
    (ap₂ (λ (a t : List ℕ). record { authority = a; target = t }) parts.0 parts.1, parts.2)

pub requests_are_cut : RequestsAreCut
requests_are_cut [] [] rest left some others none nothing is = (refl, is)
requests_are_cut [] (b ∷ bs) rest left some others none nothing is =
    absurd (none b (flat_map parts_text bs ++ left) others.0 (is ∙ append_assoc (parts_text b) (flat_map parts_text bs) left))
requests_are_cut (a ∷ as_) [] rest left some others none nothing is =
    absurd (nothing a (flat_map parts_text as_ ++ rest) some.0 (sym is ∙ append_assoc (parts_text a) (flat_map parts_text as_) rest))
requests_are_cut (a ∷ as_) (b ∷ bs) rest left some others none nothing is =
    let first = requests_differ a b (flat_map parts_text as_ ++ rest) (flat_map parts_text bs ++ left) some.0 others.0
    (sym (append_assoc (parts_text a) (flat_map parts_text as_) rest) ∙ is ∙ append_assoc (parts_text b) (flat_map parts_text bs) left) in
    let further = requests_are_cut as_ bs rest left some.1 others.1 none nothing first.1 in
    (ap₂ (λ (x : RequestParts) (xs : List RequestParts). x ∷ xs) first.0 further.0, further.1)

-- ---- quiet texts

step : (p q b : ℕ) → is_plain b ≡ true → ends_at p q b ≡ false
step p q b h = grind (arith, common_steps)

pub quiet_word : (p q : ℕ) (word more : List ℕ) → list_all is_plain word ≡ true → ((x y : ℕ) → (y == 10) ≡ false → (y == 13) ≡ false → quiet x y more ≡ true)
    → (q == 10) ≡ false → (q == 13) ≡ false → quiet p q (word ++ more) ≡ true
unfolding quiet
quiet_word p q [] more all rest other another = rest p q other another
quiet_word p q (b ∷ word) more all rest other another =
    let parts = and_parts (is_plain b) (list_all is_plain word) all in
    let own = no_end b parts.0 in
    rw (step p q b parts.0) (quiet_word q b word more parts.1 rest own.0 own.1)
  where
    no_end : (b : ℕ) → is_plain b ≡ true → ((b == 10) ≡ false) × ((b == 13) ≡ false)
    no_end b h = (grind (arith, common_steps), grind (arith, common_steps))
