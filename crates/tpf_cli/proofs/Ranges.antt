-- The words of a command keep to their ranges.
use Rattle.std.proofs.Common.{ℕ, ◌≡◌, ◌≤◌, ◌<◌, ◌+◌, ◌⊎◌, inl, inr, List, [], ◌∷◌, Bool, true, false, not, ◌&&◌, nat_le, length, is_some, Option, Some, None, codes, if◌then◌else◌, refl, sym, ap, ◌∙◌, subst, true≢false, arith, lit≤}
use Rattle.std.proofs.lemmas.Bool.{and_parts, or_parts, not-true}
use Rattle.std.proofs.lemmas.Bool.Decides.{nat_tests}
use Rattle.std.proofs.lemmas.List.Elements.{All-nil, All-cons}
use Rattle.std.proofs.lemmas.Slice.Eq.{bytes_eq-Decides}
use Rattle.std.specs.Str.{bytes_eq}
use Rattle.std.specs.List.{All, AllByRecursion, list_any}
use Rattle.list_laws.specs.Options.{◌>>=◌, when}
use Rattle.list_laws.proofs.Options.{some_same, bind_some, when_some, map_some}
use Rattle.rdf_terms.specs.declared.limits.TheConstants.{MOST_ROWS}
use Rattle.tpf_base.specs.Addresses.{Address, authority_of}
use Rattle.tpf_base.specs.declared.limits.TheConstants.{MOST_LINKS}
use Rattle.tpf_base.specs.declared.usual.TheConstants.{USUAL_WINDOW, USUAL_LINKS, USUAL_RETRIES, USUAL_BUDGET, USUAL_BODY, USUAL_PAGE}
use Rattle.template_fill.specs.declared.limits.TheConstants.{LARGEST_PAGE, LONGEST_START}
use Rattle.template_fill.specs.Configurations.{HasReloadPath, is_reload_path}
use Rattle.template_fill.specs.ReadAddress.{read_address}
use Rattle.generated_data.specs.declared.limits.TheConstants.{MOST_PERSONS}
use Rattle.command_words.specs.declared.limits.TheConstants.{LONGEST_TYPED, MOST_WINDOW, MOST_RETRIES, MOST_BUDGET, LARGEST_BODY, MOST_CONNECTIONS, RAREST_FAILURE}
use Rattle.command_words.specs.declared.command.ClientWords.{ClientWords}
use Rattle.command_words.specs.Words.{Text, Values, Form, arguments}
use Rattle.command_words.specs.Commands.{Command, Federated, federate, local_form, query_form, federate_form, serve_form, make_form, is_number, number_after, number_of, number_or, number_in, count_of, url_of, without_query, base_of, reload_of, choice_in, page_in, client_in, url_names, urls_in, url_and, has_authority, are_apart, servers_in, federate_with, rows_in, seed_in, local_from, query_from, federate_from, serve_from, make_from, words_of, command_of, local_of, query_of, federate_of, serve_of, make_of}
use Rattle.federated_query.specs.Servers.{AreApart}
use Rattle.tpf_cli.specs.Ranges.{IsClient, IsTyped, IsInRange}
use Rattle.tpf_cli.proofs.Typed.{read_length}

-- ---- numbers

in_range : (low high usual n : ℕ) (given : Option Text) → low ≤ usual → usual ≤ high → number_or low high usual given ≡ Some n → (low ≤ n) × (n ≤ high)
in_range low high usual n None a b e = let same : usual ≡ n = some_same e in (subst (λ (k : ℕ). low ≤ k) same a, subst (λ (k : ℕ). k ≤ high) same b)
in_range low high usual n (Some text) a b e =
    let p = when_some (is_number text && (nat_le low (number_after 0 text) && nat_le (number_after 0 text) high)) (number_after 0 text) n e in
    let q = and_parts (is_number text) (nat_le low (number_after 0 text) && nat_le (number_after 0 text) high) p.0 in
    let r = and_parts (nat_le low (number_after 0 text)) (nat_le (number_after 0 text) high) q.1 in
    (subst (λ (k : ℕ). low ≤ k) p.1 (grind (arith, nat_tests, r.0)), subst (λ (k : ℕ). k ≤ high) p.1 (grind (arith, nat_tests, r.1)))

-- one row, or as many as are given
block_range : (n : ℕ) (given : Option Text) → number_or 2 MOST_ROWS 1 given ≡ Some n → (1 ≤ n) × (n ≤ MOST_ROWS)
block_range n None e = let same : 1 ≡ n = some_same e in (omega (arith, same), omega (arith, same))
block_range n (Some text) e = let r = in_range 2 MOST_ROWS 2 n (Some text) (omega arith) (omega arith) e in (omega (arith, r.0), r.1)

-- ---- clients

client_range : (values : Values) (client : ClientWords) → client_in values ≡ Some client → IsClient client
client_range values client e =
    let w = bind_some (number_in values (codes "window") 1 MOST_WINDOW USUAL_WINDOW) _ client e in
    let k = bind_some (number_in values (codes "block") 2 MOST_ROWS 1) _ client w.2 in
    let l = bind_some (number_in values (codes "links") 1 MOST_LINKS USUAL_LINKS) _ client k.2 in
    let r = bind_some (number_in values (codes "retries") 0 MOST_RETRIES USUAL_RETRIES) _ client l.2 in
    let b = bind_some (number_in values (codes "budget") 1 MOST_BUDGET USUAL_BUDGET) _ client r.2 in
    let m = bind_some (number_in values (codes "max-body") 1 LARGEST_BODY USUAL_BODY) _ client b.2 in
    let same : record { window = w.0; block = k.0; links = l.0; retries = r.0; budget = b.0; max_body = m.0 } ≡ client = some_same m.2 in
    let rows = block_range k.0 (values (codes "block")) k.1 in
    let links = in_range 1 MOST_LINKS USUAL_LINKS l.0 (values (codes "links")) (omega arith) (omega arith) l.1 in
    subst IsClient same (record {
      window = (in_range 1 MOST_WINDOW USUAL_WINDOW w.0 (values (codes "window")) (omega arith) (omega arith) w.1).0;
      one = rows.0;
      block = rows.1;
      some = links.0;
      few = links.1;
      budget = (in_range 1 MOST_BUDGET USUAL_BUDGET b.0 (values (codes "budget")) (omega arith) (omega arith) b.1).1;
    })

page_range : (values : Values) (page : ℕ) → page_in values ≡ Some page → (1 ≤ page) × (page ≤ LARGEST_PAGE)
page_range values page e = in_range 1 LARGEST_PAGE USUAL_PAGE page (values (codes "page")) (omega arith) (omega arith) e

-- ---- commands

local_range : (values : Values) (c : Command) → local_from values ≡ Some c → IsInRange c
local_range values c e =
    let name = bind_some (values (codes "FILE")) _ c e in
    let asked = bind_some (values (codes "QUERYFILE")) _ c name.2 in
    let choice = bind_some (choice_in values) _ c asked.2 in
    let client = bind_some (client_in values) _ c choice.2 in
    let page = bind_some (page_in values) _ c client.2 in
    let seed = bind_some (seed_in values) _ c page.2 in
    let fail_every = bind_some (number_in values (codes "fail-every") 0 RAREST_FAILURE 0) _ c seed.2 in
    let p = page_range values page.0 page.1 in
    subst IsInRange (some_same fail_every.2) (p.0, p.1, client_range values client.0 client.1)

-- there is room for what an address that is typed becomes
room : LONGEST_TYPED + 269 ≤ LONGEST_START
room = lit≤ tt

is_typed : (text : Text) (url : Address) → url_of text ≡ Some url → IsTyped url
is_typed text url e =
    let given = bind_some (when (nat_le (length text) LONGEST_TYPED) text) read_address url e in
    let p = when_some (nat_le (length text) LONGEST_TYPED) text given.0 given.1 in
    let short : length text ≤ LONGEST_TYPED = grind (arith, nat_tests, p.0) in
    omega (arith, short, room, ap length p.1, read_length given.0 url given.2)

query_range : (values : Values) (c : Command) → query_from values ≡ Some c → IsInRange c
query_range values c e =
    let url = bind_some (values (codes "URL") >>= url_of) _ c e in
    let asked = bind_some (values (codes "QUERYFILE")) _ c url.2 in
    let client = bind_some (client_in values) _ c asked.2 in
    let text = bind_some (values (codes "URL")) url_of url.0 url.1 in
    subst IsInRange (some_same client.2) (is_typed text.0 url.0 text.2, client_range values client.0 client.1)

-- no later address has the authority of an earlier one
apart_here : (url : Address) (others : List Address) → list_any (has_authority url) others ≡ false → All (λ other. authority_of url ≡ authority_of other → ⊥) others
apart_here url [] e = All-nil (λ other. authority_of url ≡ authority_of other → ⊥)
apart_here url (other ∷ others) e =
    let p = or_parts (has_authority url other) (list_any (has_authority url) others) e in
    All-cons (λ x. authority_of url ≡ authority_of x → ⊥) other others
    (λ same. true≢false (sym ((bytes_eq-Decides (authority_of other) (authority_of url)).1 (sym same)) ∙ p.0)) (apart_here url others p.1)

apart_all : (urls : List Address) → are_apart urls ≡ true → AreApart urls
apart_all [] e = tt
apart_all (url ∷ urls) e =
    let p = and_parts (not (list_any (has_authority url) urls)) (are_apart urls) e in
    (apart_here url urls (not-true (list_any (has_authority url) urls) p.0), apart_all urls p.1)

-- each address that is given is typed
all_typed : (values : Values) (names : List Text) (urls : List Address) → urls_in values names ≡ Some urls → AllByRecursion IsTyped urls
all_typed values [] urls e = subst (AllByRecursion IsTyped) (some_same e) tt
all_typed values (name ∷ names) urls e = by (values name) (λ us f. all_typed values names us f) e
  where
    by : (o : Option Text) → ((us : List Address) → urls_in values names ≡ Some us → AllByRecursion IsTyped us) → url_and o (urls_in values names) ≡ Some urls → AllByRecursion IsTyped urls
    by None rest f = subst (AllByRecursion IsTyped) (some_same f) tt
    by (Some text) rest f =
        let url = bind_some (url_of text) _ urls f in
        let more = map_some (λ (us : List Address). url.0 ∷ us) (urls_in values names) urls url.2 in
        subst (AllByRecursion IsTyped) more.2 (is_typed text url.0 url.1, rest more.0 more.1)

federate_range : (values : Values) (c : Command) → federate_from values ≡ Some c → IsInRange c
federate_range values c e =
    let found = map_some (λ several. federate several) (federate_with values (servers_in values) (client_in values)) c e in
    let urls = bind_some (servers_in values) _ found.0 found.1 in
    let asked = bind_some (values (codes "QUERYFILE")) _ found.0 urls.2 in
    let client = bind_some (client_in values) _ found.0 asked.2 in
    let typed = bind_some (urls_in values url_names) _ urls.0 urls.1 in
    let p = when_some (nat_le 1 (length typed.0) && are_apart typed.0) typed.0 urls.0 typed.2 in
    let q = and_parts (nat_le 1 (length typed.0)) (are_apart typed.0) p.0 in
    let some : 0 < length typed.0 = grind (arith, nat_tests, q.0) in
    subst IsInRange found.2 (subst (λ (s : Federated). IsInRange (federate s)) (some_same client.2) (
      subst (λ (us : List Address). 0 < length us) p.1 some,
      subst AreApart p.1 (apart_all typed.0 q.1),
      subst (AllByRecursion IsTyped) p.1 (all_typed values url_names typed.0 typed.1),
      client_range values client.0 client.1,
    ))

none_there : {A : Type 0} (o : Option A) → not (is_some o) ≡ true → o ≡ None
none_there None e = refl
none_there (Some x) e = cc

no_query : (found : Option Address) (base : Address) → without_query found ≡ Some base → base.query ≡ None
no_query None base e = cc
no_query (Some address) base e =
    let p = when_some (not (is_some address.query)) address base e in
    none_there base.query (subst (λ (a : Address). not (is_some a.query) ≡ true) p.1 p.0)

has_path : (base : Address) (given reload : Option Text) → reload_of base given ≡ Some reload → HasReloadPath base reload
has_path base None reload e = subst (HasReloadPath base) (some_same e) tt
has_path base (Some path) reload e = let p = when_some (is_reload_path base path) (Some path) reload e in subst (HasReloadPath base) p.1 p.0

serve_range : (values : Values) (c : Command) → serve_from values ≡ Some c → IsInRange c
serve_range values c e =
    let base = bind_some (values (codes "base") >>= base_of) _ c e in
    let reload = bind_some (reload_of base.0 (values (codes "reload"))) _ c base.2 in
    let name = bind_some (values (codes "FILE")) _ c reload.2 in
    let choice = bind_some (choice_in values) _ c name.2 in
    let page = bind_some (page_in values) _ c choice.2 in
    let stop_after = bind_some (count_of 1 MOST_CONNECTIONS (values (codes "stop-after"))) _ c page.2 in
    let rows = bind_some (rows_in values reload.0) _ c stop_after.2 in
    let text = bind_some (values (codes "base")) base_of base.0 base.1 in
    let p = page_range values page.0 page.1 in
    subst IsInRange (some_same rows.2) (p.0, p.1, no_query (url_of text.0) base.0 text.2, has_path base.0 (values (codes "reload")) reload.0 reload.1)

make_range : (values : Values) (c : Command) → make_from values ≡ Some c → IsInRange c
make_range values c e =
    let count = bind_some (values (codes "N") >>= number_of 1 MOST_PERSONS) _ c e in
    let text = bind_some (values (codes "N")) (number_of 1 MOST_PERSONS) count.0 count.1 in
    subst IsInRange (some_same count.2) (in_range 1 MOST_PERSONS 1 count.0 (Some text.0) (omega arith) (omega arith) text.2)

-- ---- words

words_range : (form : Form) (from : Values → Option Command) (words : List Text) (c : Command) → ((values : Values) → from values ≡ Some c → IsInRange c) → words_of form from words ≡ Some c → IsInRange c
words_range form from words c range e = let values = bind_some (arguments form words) from c e in range values.0 values.2

-- one of five, or nothing
chosen : (a b d f h : Bool) (v w x y z : Option Command) (c : Command) → (if a then v else (if b then w else (if d then x else (if f then y else (if h then z else None))))) ≡ Some c
    → (v ≡ Some c) ⊎ ((w ≡ Some c) ⊎ ((x ≡ Some c) ⊎ ((y ≡ Some c) ⊎ (z ≡ Some c))))
chosen true b d f h v w x y z c e = inl e
chosen false true d f h v w x y z c e = inr (inl e)
chosen false false true f h v w x y z c e = inr (inr (inl e))
chosen false false false true h v w x y z c e = inr (inr (inr (inl e)))
chosen false false false false true v w x y z c e = inr (inr (inr (inr e)))
chosen false false false false false v w x y z c e = cc

pub ranges : (words : List Text) (c : Command) → command_of words ≡ Some c → IsInRange c
unfolding local_of query_of federate_of serve_of make_of
ranges [] c e = cc
ranges (program ∷ []) c e = cc
ranges (program ∷ name ∷ words) c e = found (chosen (bytes_eq name (codes "local")) (bytes_eq name (codes "query")) (bytes_eq name (codes "federate")) (bytes_eq name (codes "serve")) (bytes_eq name (codes "make")) _ _ _ _ _ c e)
  where
    found : (words_of local_form local_from words ≡ Some c) ⊎ ((words_of query_form query_from words ≡ Some c) ⊎ ((words_of federate_form federate_from words ≡ Some c) ⊎ ((words_of serve_form serve_from words ≡ Some c) ⊎ (words_of make_form make_from words ≡ Some c)))) → IsInRange c
    found (inl p) = words_range local_form local_from words c (λ values. local_range values c) p
    found (inr (inl p)) = words_range query_form query_from words c (λ values. query_range values c) p
    found (inr (inr (inl p))) = words_range federate_form federate_from words c (λ values. federate_range values c) p
    found (inr (inr (inr (inl p)))) = words_range serve_form serve_from words c (λ values. serve_range values c) p
    found (inr (inr (inr (inr p)))) = words_range make_form make_from words c (λ values. make_range values c) p
