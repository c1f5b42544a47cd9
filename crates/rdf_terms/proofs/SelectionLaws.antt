-- What is selected ascends and holds exactly the triples that match; no other list does.
use Rattle.std.proofs.Common.{◌≡◌, ◌⊎◌, inl, inr, Bool, true, List, [], ◌∷◌, refl, ⊎_elim}
use Rattle.std.specs.List.{Any, Contains, filter}
use Rattle.std.proofs.lemmas.List.Folds.{Any-from_list_any, list_any-from_Any}
use Rattle.list_laws.proofs.Ascending.{strict_filter}
use Rattle.list_laws.proofs.Members.{in_filter, from_filter, passed_filter}
use Rattle.list_laws.proofs.Told.{one_list}
use Rattle.rdf_terms.specs.declared.term.Triple.{Triple}
use Rattle.rdf_terms.specs.declared.slots.Slots.{Slots}
use Rattle.rdf_terms.specs.Slots.{Matches, matches, order_of}
use Rattle.rdf_terms.specs.Fragments.{IsFragment, fragment}
use Rattle.rdf_terms.specs.Selections.{Selection, matches_one, restricted, selected, MatchesOne, IsSelected, NoRowsSelectAll, SelectionIsOne}
use Rattle.rdf_terms.proofs.FragmentLaws.{fragment_is, matches_decides, order_of_total}

pub all-selected : NoRowsSelectAll
all-selected = record { items = λ triples slots. refl; pages = λ triples slots k size. refl; last = λ triples slots size. refl }

-- a fact for another, of one of the rows
any-so : (P Q : Slots → Type 0) → ((row : Slots) → P row → Q row) → (rows : List Slots) → Any P rows → Any Q rows
any-so P Q w rows h = (h.0, h.1, h.2, h.3, w h.1 h.4)

one-matches : (rows : List Slots) (t : Triple) → matches_one rows t ≡ true → Any (λ row. Matches row t) rows
one-matches rows t h = any-so (λ row. matches row t ≡ true) (λ row. Matches row t) (λ row e. (matches_decides row t).0 e) rows (Any-from_list_any (λ row. matches row t) rows h)

matches-one : (rows : List Slots) (t : Triple) → Any (λ row. Matches row t) rows → matches_one rows t ≡ true
matches-one rows t h = list_any-from_Any (λ row. matches row t) rows (any-so (λ row. Matches row t) (λ row. matches row t ≡ true) (λ row m. (matches_decides row t).1 m) rows h)

by-rows : (triples : List Triple) (slots : Slots) (rows : List Slots) → IsSelected triples (record { slots = slots; rows = rows }) (restricted rows (fragment triples slots))
by-rows triples slots [] =
    let f = fragment_is triples slots in
    record { ascending = f.ascending; members = λ t. (λ h. let m = (f.members t).0 h in (m.0, m.1, inl refl), λ h. (f.members t).1 (h.0, h.1)) }
by-rows triples slots (row ∷ rows) = record { ascending = strict_filter (order_of slots) test items f.ascending; members = λ t. (inside t, outside t) }
  where
    test : Triple → Bool
    test = matches_one (row ∷ rows)

    items : List Triple
    items = fragment triples slots

    f : IsFragment triples slots items
    f = fragment_is triples slots

    inside : (t : Triple) → Contains (filter test items) t → Contains triples t × Matches slots t × MatchesOne (row ∷ rows) t
    inside t h = let m = (f.members t).0 (from_filter test items t h) in (m.0, m.1, inr (one-matches (row ∷ rows) t (passed_filter test items t h)))

    outside : (t : Triple) → Contains triples t × Matches slots t × MatchesOne (row ∷ rows) t → Contains (filter test items) t
    outside t h = in_filter test items t (⊎_elim (λ e. absurd (no-rows e)) (λ one. matches-one (row ∷ rows) t one) h.2) ((f.members t).1 (h.0, h.1))
      where
        no-rows : row ∷ rows ≡ [] → ⊥
        no-rows e = cc

pub one-selection : SelectionIsOne
one-selection = record { is = λ triples s. by-rows triples s.slots s.rows; only = only }
  where
    only : (triples : List Triple) (s : Selection) (items : List Triple) → IsSelected triples s items → items ≡ selected triples s
    only triples s items f =
        let g = by-rows triples s.slots s.rows in
        one_list (order_of_total s.slots) items (selected triples s) f.ascending g.ascending (λ t h. (g.members t).1 ((f.members t).0 h)) (λ t h. (f.members t).1 ((g.members t).0 h))
