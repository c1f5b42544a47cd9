-- The target of an address with rows is longer by the rows.
use Rattle.std.proofs.Common.{ℕ, ◌≡◌, ◌+◌, inl, inr, Bool, true, false, ◌==◌, cond, List, [], ◌∷◌, ◌++◌, length, Option, Some, None, refl, ap, subst, ◌∙◌, arith, append_assoc, length-append}
use Rattle.std.specs.Prelude.{codes, decimal}
use Rattle.std.specs.List.{list_all, list_any}
use Rattle.std.specs.Char.{is_ascii_digit}
use Rattle.std.proofs.lemmas.Bool.Decides.{nat_tests}
use Rattle.std.proofs.lemmas.List.Folds.{list_any-append, list_all-append}
use Rattle.list_laws.proofs.Tests.{and_first, and_second}
use Rattle.rdf_terms.specs.declared.slots.Slots.{Slots}
use Rattle.tpf_base.specs.Addresses.{Address, IsAddress, IsPortTyped, is_host_byte, is_path, is_path_byte, is_address_byte, is_query_part, query_text, target_of}
use Rattle.tpf_base.proofs.AddressBytes.{port_below}
use Rattle.template_fill.specs.Rows.{row_text, rows_text}
use Rattle.template_fill.specs.Values.{encoded_value}
use Rattle.template_fill.specs.Forms.{mark_behind}
use Rattle.template_fill.specs.ReadAddress.{read_address}
use Rattle.template_fill.proofs.Addresses.{all_host, all_digits-decimal, unmarked, unmarked-host, unmarked-digit}
use Rattle.template_fill.proofs.FirstPages.{unmarked-path}
use Rattle.template_fill.proofs.PageTexts.{rows-address}
use Rattle.template_fill.proofs.Reading.{reads_address}
use Rattle.request_plan.specs.Blocks.{target_length}
use Rattle.request_plan.specs.Targets.{rows_length}

-- ---- a text holds a ? where its address has a query

abbrev marked : List ℕ → Bool
marked bytes = list_any (λ b. b == 63) bytes

path-unmarked : (path : List ℕ) → is_path path ≡ true → marked path ≡ false
path-unmarked [] h = refl
path-unmarked (b ∷ path) h =
    let slash : (b == 63) ≡ false = grind (arith, nat_tests, and_first (b == 47) _ h) in
    rw slash (unmarked is_path_byte unmarked-path path (and_second (b == 47) _ h))

port-unmarked : (typed : List ℕ) (port : ℕ) → IsPortTyped typed port → marked typed ≡ false
port-unmarked typed port (inl h) = rw h.0 refl
port-unmarked typed port (inr h) =
    rw h.0 (unmarked is_ascii_digit unmarked-digit (decimal port) (all_digits-decimal port (omega (arith, port_below typed port (inr h)))))

both-unmarked : (xs ys : List ℕ) → marked xs ≡ false → marked ys ≡ false → marked (xs ++ ys) ≡ false
both-unmarked xs ys x y = list_any-append (λ b. b == 63) xs ys ∙ rw x y

mark-is : (text : List ℕ) (a : Address) → IsAddress text a → marked text ≡ marked (query_text a.query)
mark-is text a is =
    let front = codes "http://" ++ is.typed_host ++ is.typed_port ++ is.typed_path in
    let host : marked (codes "http://" ++ is.typed_host) ≡ false = unmarked is_host_byte unmarked-host is.typed_host (all_host is.typed_host is.host) in
    let authority = both-unmarked (codes "http://" ++ is.typed_host) is.typed_port host (port-unmarked is.typed_port a.port is.port) in
    let none : marked front ≡ false = both-unmarked (codes "http://" ++ is.typed_host ++ is.typed_port) is.typed_path authority (path-unmarked is.typed_path is.path) in
    ap marked is.is_text ∙ list_any-append (λ b. b == 63) front (query_text a.query) ∙ rw none refl

-- ---- more of a query is read

abbrev asking : Address → List ℕ → Address
asking a query = record { host = a.host; port = a.port; path = a.path; query = Some query }

first-query : (text : List ℕ) (a : Address) → IsAddress text a → a.query ≡ None → (more : List ℕ) → list_all is_address_byte more ≡ true → IsAddress (text ++ 63 ∷ more) (asking a more)
first-query text a is none more all =
    let front = codes "http://" ++ is.typed_host ++ is.typed_port ++ is.typed_path in
    record {
      typed_host = is.typed_host;
      typed_port = is.typed_port;
      typed_path = is.typed_path;
      is_text = ap (λ t. t ++ 63 ∷ more) (is.is_text ∙ ap (λ q. front ++ query_text q) none) ∙ append_assoc front [] (63 ∷ more);
      host = is.host;
      host_kept = is.host_kept;
      port = is.port;
      path = is.path;
      path_kept = is.path_kept;
      query = all;
    }

more-query : (text : List ℕ) (a : Address) → IsAddress text a → (query : List ℕ) → a.query ≡ Some query → (more : List ℕ) → list_all is_address_byte more ≡ true → IsAddress (text ++ more) (asking a (query ++ more))
more-query text a is query some more all =
    let front = codes "http://" ++ is.typed_host ++ is.typed_port ++ is.typed_path in
    let own : list_all is_address_byte query ≡ true = subst (λ (q : Option (List ℕ)). is_query_part q ≡ true) some is.query in
    record {
      typed_host = is.typed_host;
      typed_port = is.typed_port;
      typed_path = is.typed_path;
      is_text = ap (λ t. t ++ more) (is.is_text ∙ ap (λ q. front ++ query_text q) some) ∙ append_assoc front (63 ∷ query) more;
      host = is.host;
      host_kept = is.host_kept;
      port = is.port;
      path = is.path;
      path_kept = is.path_kept;
      query = rw (list_all-append is_address_byte query more, own) all;
    }

-- ---- rows

target-none : (a : Address) → a.query ≡ None → length (target_of a) ≡ length a.path + 0
target-none a none = ap (λ q. length (a.path ++ query_text q)) none ∙ length-append a.path []

target-some : (a : Address) (query : List ℕ) → a.query ≡ Some query → length (target_of a) ≡ length a.path + length (63 ∷ query)
target-some a query some = ap (λ q. length (a.path ++ query_text q)) some ∙ length-append a.path (63 ∷ query)

by-query : (text : List ℕ) (a : Address) → IsAddress text a → (row : Slots) (rows : List Slots) (query : Option (List ℕ)) → a.query ≡ query → target_length (read_address (text ++ rows_text (mark_behind text) (row ∷ rows))) ≡ length (target_of a) + rows_length (row ∷ rows)
by-query text a is row rows None e =
    let mark : mark_behind text ≡ 63 = ap (λ (b : Bool). cond b 38 63) (mark-is text a is ∙ ap (λ (q : Option (List ℕ)). marked (query_text q)) e) in
    let more = (codes "row=" ++ encoded_value (row_text row)) ++ rows_text 38 rows in
    let new = first-query text a is e more (rows-address 63 (row ∷ rows) refl) in
    ap (λ (m : ℕ). target_length (read_address (text ++ rows_text m (row ∷ rows)))) mark
    ∙ ap target_length (reads_address (text ++ 63 ∷ more) (asking a more) new)
    ∙ omega (arith, target-none a e, target-some (asking a more) more refl)
by-query text a is row rows (Some query) e =
    let mark : mark_behind text ≡ 38 = ap (λ (b : Bool). cond b 38 63) (mark-is text a is ∙ ap (λ (q : Option (List ℕ)). marked (query_text q)) e) in
    let more = rows_text 38 (row ∷ rows) in
    let new = more-query text a is query e more (rows-address 38 (row ∷ rows) refl) in
    ap (λ (m : ℕ). target_length (read_address (text ++ rows_text m (row ∷ rows)))) mark
    ∙ ap target_length (reads_address (text ++ more) (asking a (query ++ more)) new)
    ∙ omega (arith, target-some a query e, target-some (asking a (query ++ more)) (query ++ more) refl, length-append query more)

pub longer-target : (text : List ℕ) (a : Address) → IsAddress text a → (row : Slots) (rows : List Slots) → target_length (read_address (text ++ rows_text (mark_behind text) (row ∷ rows))) ≡ length (target_of a) + rows_length (row ∷ rows)
longer-target text a is row rows = by-query text a is row rows a.query refl

pub rows_length-cons : (row : Slots) (rows : List Slots) → rows_length (row ∷ rows) ≡ rows_length (row ∷ []) + rows_length rows
rows_length-cons row rows =
    let pair = 38 ∷ (codes "row=" ++ encoded_value (row_text row)) in
    omega (arith, length-append pair (rows_text 38 rows), length-append pair [])

pub rows_length-more : (rows : List Slots) (row : Slots) → rows_length (rows ++ row ∷ []) ≡ rows_length rows + rows_length (row ∷ [])
rows_length-more [] row = omega arith
rows_length-more (first ∷ rows) row = omega (arith, rows_length-more rows row, rows_length-cons first rows, rows_length-cons first (rows ++ row ∷ []))
