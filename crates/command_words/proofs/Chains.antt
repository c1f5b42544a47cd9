-- What a chain of values comes to, by what is known of each.
use Rattle.std.proofs.Common.{ℕ, ◌≡◌, ◌∙◌, ◌<◌, ◌≤◌, ◌+◌, refl, sym, ap, List, [], ◌∷◌, ◌++◌, length, drop, get_or, append_assoc, append-nil, Bool, codes, Option, Some, None}
use Rattle.std.specs.Borrow.{Bor}
use Rattle.std.specs.Option.{option_map}
use Rattle.std.proofs.lemmas.List.{drop_more, drop_all}
use Rattle.list_laws.specs.Options.{◌>>=◌}
use Rattle.tpf_base.specs.Addresses.{Address}
use Rattle.triple_table.specs.declared.choice.Choice.{Choice}
use Rattle.command_words.specs.declared.command.ClientWords.{ClientWords}
use Rattle.command_words.specs.declared.limits.TheConstants.{MOST_CONNECTIONS, RAREST_FAILURE}
use Rattle.command_words.specs.Words.{Text, Values}
use Rattle.command_words.specs.Commands.{local, serve, count_of, local_with, number_in, page_in, rows_in, seed_in, serve_with, url_and, url_of, urls_in}
use Rattle.command_words.specs.Forms.{texts}

-- ---- the addresses under some names

module _ (values : Values) (names : List (Bor Text)) where
  -- the addresses that were read stand before those that come
  abbrev SoFar : ℕ → List Address → Type 0
  SoFar i items = urls_in values (texts names) ≡ option_map (λ urls. items ++ urls) (urls_in values (texts (drop i names)))

  none_before : (o : Option (List Address)) → o ≡ option_map (λ (urls : List Address). [] ++ urls) o
  none_before None = refl
  none_before (Some urls) = refl

  pub no_urls : (items : List Address) → items ≡ [] → SoFar 0 items
  no_urls items e = none_before (urls_in values (texts names)) ∙ ap (λ (us : List Address). option_map (λ urls. us ++ urls) (urls_in values (texts names))) (sym e)

  pub all_urls : (i : ℕ) (items : List Address) → length names ≤ i → SoFar i items → Some items ≡ urls_in values (texts names)
  all_urls i items over so_far =
      sym (so_far ∙ ap (λ (ns : List (Bor Text)). option_map (λ urls. items ++ urls) (urls_in values (texts ns))) (drop_all i names over) ∙ ap (λ (us : List Address). Some us) (append-nil items))

  module _ (i : ℕ) (d : Bor Text) (items : List Address) (within : i < length names) (so_far : SoFar i items) where
    next : urls_in values (texts (drop i names)) ≡ url_and (values (get_or names i d).now) (urls_in values (texts (drop (i + 1) names)))
    next = ap (λ (ns : List (Bor Text)). urls_in values (texts ns)) (drop_more names i d within)

    told : (o : Option Text) → o ≡ values (get_or names i d).now → urls_in values (texts names) ≡ option_map (λ urls. items ++ urls) (url_and o (urls_in values (texts (drop (i + 1) names))))
    told o e = so_far ∙ ap (λ (us : Option (List Address)). option_map (λ urls. items ++ urls) us) (next ∙ ap (λ (t : Option Text). url_and t (urls_in values (texts (drop (i + 1) names)))) (sym e))

    -- no name has a value from here on
    pub last_url : None ≡ values (get_or names i d).now → Some items ≡ urls_in values (texts names)
    last_url none = sym (told None none ∙ ap (λ (us : List Address). Some us) (append-nil items))

    read : (text : Text) (o : Option Address) → Some text ≡ values (get_or names i d).now → o ≡ url_of text → urls_in values (texts names) ≡ option_map (λ urls. items ++ urls) (o >>= (λ url. option_map (λ urls. url ∷ urls) (urls_in values (texts (drop (i + 1) names)))))
    read text o given is = told (Some text) given ∙ ap (λ (a : Option Address). option_map (λ urls. items ++ urls) (a >>= (λ url. option_map (λ urls. url ∷ urls) (urls_in values (texts (drop (i + 1) names)))))) (sym is)

    pub bad_url : (text : Text) (o : Option Address) → Some text ≡ values (get_or names i d).now → o ≡ url_of text → o ≡ None → None ≡ urls_in values (texts names)
    bad_url text o given is none = sym (read text None given (sym none ∙ is))

    shift : (url : Address) (more : List Address) → more ≡ items ++ url ∷ [] → (later : Option (List Address)) → option_map (λ urls. items ++ urls) (option_map (λ (urls : List Address). url ∷ urls) later) ≡ option_map (λ urls. more ++ urls) later
    shift url more e None = refl
    shift url more e (Some us) = ap (λ (xs : List Address). Some xs) (sym (append_assoc items (url ∷ []) us) ∙ ap (λ (xs : List Address). xs ++ us) (sym e))

    pub one_url : (text : Text) (o : Option Address) (url : Address) (more : List Address) → Some text ≡ values (get_or names i d).now → o ≡ url_of text → o ≡ Some url → more ≡ items ++ url ∷ [] → SoFar (i + 1) more
    one_url text o url more given is some e = read text (Some url) given (sym some ∙ is) ∙ shift url more e (urls_in values (texts (drop (i + 1) names)))

-- ---- the words of a command

module _ (values : Values) (chosen : Option Choice) (asked : Option ClientWords) where
  pub local_no_name : None ≡ values (codes "FILE") → None ≡ local_with values chosen asked
  local_no_name a = rw (sym a) refl

  pub local_no_query : (name : Text) → Some name ≡ values (codes "FILE") → None ≡ values (codes "QUERYFILE") → None ≡ local_with values chosen asked
  local_no_query name a b = rw (sym a, sym b) refl

  module _ (name query : Text) (a : Some name ≡ values (codes "FILE")) (b : Some query ≡ values (codes "QUERYFILE")) where
    pub local_no_choice : chosen ≡ None → None ≡ local_with values chosen asked
    local_no_choice e = rw (sym a, sym b, e) refl

    pub local_no_client : (choice : Choice) → chosen ≡ Some choice → asked ≡ None → None ≡ local_with values chosen asked
    local_no_client choice e f = rw (sym a, sym b, e, f) refl

    module _ (choice : Choice) (client : ClientWords) (e : chosen ≡ Some choice) (f : asked ≡ Some client) where
      pub local_no_page : None ≡ page_in values → None ≡ local_with values chosen asked
      local_no_page p = rw (sym a, sym b, e, f, sym p) refl

      pub local_no_seed : (page : ℕ) → Some page ≡ page_in values → None ≡ seed_in values → None ≡ local_with values chosen asked
      local_no_seed page p s = rw (sym a, sym b, e, f, sym p, sym s) refl

      module _ (page seed : ℕ) (p : Some page ≡ page_in values) (s : Some seed ≡ seed_in values) where
        pub local_no_fail : None ≡ number_in values (codes "fail-every") 0 RAREST_FAILURE 0 → None ≡ local_with values chosen asked
        local_no_fail g = rw (sym a, sym b, e, f, sym p, sym s, sym g) refl

        pub local_as : (fail_every : ℕ) → Some fail_every ≡ number_in values (codes "fail-every") 0 RAREST_FAILURE 0 → Some (local name query choice page client seed fail_every) ≡ local_with values chosen asked
        local_as fail_every g = rw (sym a, sym b, e, f, sym p, sym s, sym g) refl

module _ (values : Values) (chosen : Option Choice) (base : Address) (reload : Option Text) where
  pub serve_no_name : None ≡ values (codes "FILE") → None ≡ serve_with values chosen base reload
  serve_no_name a = rw (sym a) refl

  module _ (name : Text) (a : Some name ≡ values (codes "FILE")) where
    pub serve_no_choice : chosen ≡ None → None ≡ serve_with values chosen base reload
    serve_no_choice e = rw (sym a, e) refl

    module _ (choice : Choice) (e : chosen ≡ Some choice) where
      pub serve_no_page : None ≡ page_in values → None ≡ serve_with values chosen base reload
      serve_no_page p = rw (sym a, e, sym p) refl

      module _ (page : ℕ) (p : Some page ≡ page_in values) where
        pub serve_no_stop : None ≡ count_of 1 MOST_CONNECTIONS (values (codes "stop-after")) → None ≡ serve_with values chosen base reload
        serve_no_stop s = rw (sym a, e, sym p, sym s) refl

        module _ (stop_after : Option ℕ) (s : Some stop_after ≡ count_of 1 MOST_CONNECTIONS (values (codes "stop-after"))) where
          pub serve_no_rows : None ≡ rows_in values reload → None ≡ serve_with values chosen base reload
          serve_no_rows r = rw (sym a, e, sym p, sym s, sym r) refl

          pub serve_as : (rows : Bool) → Some rows ≡ rows_in values reload → Some (serve name base choice page stop_after reload rows) ≡ serve_with values chosen base reload
          serve_as rows r = rw (sym a, e, sym p, sym s, sym r) refl
