-- The values of the four names and the rows, gathered pair by pair.
use Rattle.std.proofs.Common.{◌≡◌, ℕ, Bool, true, false, List, [], ◌∷◌, map, refl, ap, ◌∙◌, if◌then◌else◌}
use Rattle.std.specs.Prelude.{codes, bytes_eq}
use Rattle.std.specs.List.{filter}
use Rattle.template_fill.specs.Answers.{values_under}
use Rattle.tpf_server.specs.declared.parameters.Values.{Values}
use Rattle.tpf_server.specs.declared.parameters.Values.TheVariants.{Absent, Several}
use Rattle.tpf_server.specs.declared.rows.RowValues.{RowValues}
use Rattle.tpf_server.specs.declared.rows.RowValues.TheVariants.{Read}
use Rattle.tpf_server.specs.declared.parameters.Parameters.{Parameters}
use Rattle.tpf_server.specs.Parameters.{found, found_in, noted, noted_if, noted_pair}
use Rattle.tpf_server.proofs.RowLaws.{all_rows, rows_after}

-- before a pair
abbrev pub nothing : Parameters
nothing = record { subject = Absent; predicate = Absent; object = Absent; page = Absent; rows = Read [] }

abbrev pub noted_all : Bool → Parameters → List (List ℕ × List ℕ) → Parameters
noted_all reads p [] = p
noted_all reads p (pair ∷ pairs) = noted_all reads (noted_pair reads p pair) pairs

-- of one name
abbrev values_after : List ℕ → Values → List (List ℕ × List ℕ) → Values
values_after name v [] = v
values_after name v (pair ∷ pairs) = values_after name (noted_if name pair.0 pair.1 v) pairs

abbrev with_all : Values → List (List ℕ) → Values
with_all v [] = v
with_all v (value ∷ values) = with_all (noted v value) values

abbrev each_name : Bool → Parameters → List (List ℕ × List ℕ) → Parameters
each_name reads p pairs = record {
  subject = values_after (codes "subject") p.subject pairs;
  predicate = values_after (codes "predicate") p.predicate pairs;
  object = values_after (codes "object") p.object pairs;
  page = values_after (codes "page") p.page pairs;
  rows = rows_after reads p.rows pairs;
}

each_name_is : (reads : Bool) (p : Parameters) (pairs : List (List ℕ × List ℕ)) → noted_all reads p pairs ≡ each_name reads p pairs
unfolding noted_pair
each_name_is reads p [] = refl
each_name_is reads p (pair ∷ pairs) = each_name_is reads (noted_pair reads p pair) pairs

abbrev second : List ℕ × List ℕ → List ℕ
second p = p.1

after_if : (name : List ℕ) (named : Bool) (v : Values) (pair : List ℕ × List ℕ) (pairs : List (List ℕ × List ℕ))
    → ((w : Values) → values_after name w pairs ≡ with_all w (values_under name pairs))
    → values_after name (if named then noted v pair.1 else v) pairs ≡ with_all v (map (λ (p : List ℕ × List ℕ). p.1) (if named then pair ∷ filter (λ (p : List ℕ × List ℕ). bytes_eq p.0 name) pairs else filter (λ (p : List ℕ × List ℕ). bytes_eq p.0 name) pairs))
after_if name true v pair pairs again = again (noted v pair.1)
after_if name false v pair pairs again = again v

after_is : (name : List ℕ) (v : Values) (pairs : List (List ℕ × List ℕ)) → values_after name v pairs ≡ with_all v (values_under name pairs)
after_is name v [] = refl
after_is name v (pair ∷ pairs) = after_if name (bytes_eq pair.0 name) v pair pairs (λ w. after_is name w pairs)

several_stay : (values : List (List ℕ)) → with_all Several values ≡ Several
several_stay [] = refl
several_stay (value ∷ values) = several_stay values

found_is : (values : List (List ℕ)) → with_all Absent values ≡ found values
found_is [] = refl
found_is (value ∷ []) = refl
found_is (value ∷ other ∷ more) = several_stay more

of_name : (name : List ℕ) (pairs : List (List ℕ × List ℕ)) → values_after name Absent pairs ≡ found (values_under name pairs)
of_name name pairs = after_is name Absent pairs ∙ found_is (values_under name pairs)

-- the values, one name after another
abbrev values_of : Values → Values → Values → Values → RowValues → Parameters
values_of s p o k rows = record { subject = s; predicate = p; object = o; page = k; rows = rows }

pub all_found : (reads : Bool) (pairs : List (List ℕ × List ℕ)) → noted_all reads nothing pairs ≡ found_in reads pairs
unfolding found_in
all_found reads pairs =
    let after : List ℕ → Values = λ name. values_after name Absent pairs in
    let under : List ℕ → Values = λ name. found (values_under name pairs) in
    let rows = rows_after reads (Read []) pairs in
    each_name_is reads nothing pairs
    ∙ ap (λ (v : Values). values_of v (after (codes "predicate")) (after (codes "object")) (after (codes "page")) rows) (of_name (codes "subject") pairs)
    ∙ ap (λ (v : Values). values_of (under (codes "subject")) v (after (codes "object")) (after (codes "page")) rows) (of_name (codes "predicate") pairs)
    ∙ ap (λ (v : Values). values_of (under (codes "subject")) (under (codes "predicate")) v (after (codes "page")) rows) (of_name (codes "object") pairs)
    ∙ ap (λ (v : Values). values_of (under (codes "subject")) (under (codes "predicate")) (under (codes "object")) v rows) (of_name (codes "page") pairs)
    ∙ ap (values_of (under (codes "subject")) (under (codes "predicate")) (under (codes "object")) (under (codes "page"))) (all_rows reads pairs)
