-- Worked examples of rows in addresses and in what targets ask for, by computing.
use Rattle.std.proofs.Common.{◌≡◌, ℕ, zero, suc, List, [], ◌∷◌, true, false, Some, None, refl}
use Rattle.std.specs.Prelude.{⊤, codes}
use Rattle.rdf_terms.specs.declared.term.Term.TheVariants.{Iri}
use Rattle.rdf_terms.specs.declared.slots.Slot.TheVariants.{Any, Fixed}
use Rattle.rdf_terms.specs.declared.slots.Slots.{Slots}
use Rattle.rdf_terms.specs.Selections.{Selection, all_of}
use Rattle.template_fill.specs.Values.{encoded_value}
use Rattle.template_fill.specs.Rows.{row_text, row_of, few_rows_of}
use Rattle.template_fill.specs.Pages.{page_address, places_text, selection_text}
use Rattle.template_fill.specs.Forms.{rows_behind}
use Rattle.template_fill.specs.HttpAnswer.{refusal}
use Rattle.template_fill.specs.Configurations.{reading_rows}
use Rattle.template_fill.specs.Answers.{question_of, version_answer}
use Rattle.tpf_base.specs.Decimals.{digits_up_to, decimal_text}
use Rattle.law_tests.proofs.WorkedAnswers as worked
use Rattle.law_tests.proofs.WorkedAnswers.{config, anything}

-- what writing an address with rows unfolds
unfoldable pub addresses : ⊤
unfolding page_address selection_text places_text row_text encoded_value decimal_text digits_up_to
addresses = tt

-- what reading a target with rows unfolds
unfoldable pub rows_read : ⊤
unfolding row_of worked.targets
rows_read = tt

-- ---- rows with the subjects b and c

unfoldable pub row_b : Slots
row_b = record { subject = Fixed (Iri (codes "http://e/b")); predicate = Any; object = Any }

unfoldable pub row_c : Slots
row_c = record { subject = Fixed (Iri (codes "http://e/c")); predicate = Any; object = Any }

unfoldable pub named : Selection
unfolding row_b row_c
named = record { slots = record { subject = Any; predicate = Fixed (Iri (codes "http://e/n")); object = Any }; rows = row_b ∷ row_c ∷ [] }

first_page : page_address config.base named 1
    ≡ codes "http://localhost/data?predicate=http%3A%2F%2Fe%2Fn&row=http%253A%252F%252Fe%252Fb%2C%2C&row=http%253A%252F%252Fe%252Fc%2C%2C"
unfolding config named row_b row_c addresses
first_page = refl

third_page : page_address config.base named 3
    ≡ codes "http://localhost/data?predicate=http%3A%2F%2Fe%2Fn&row=http%253A%252F%252Fe%252Fb%2C%2C&row=http%253A%252F%252Fe%252Fc%2C%2C&page=3"
unfolding config named row_b row_c addresses
third_page = refl

-- where no place is fixed, the first row stands after the ?
rows_alone : page_address config.base (record { slots = anything; rows = row_b ∷ [] }) 1 ≡ codes "http://localhost/data?row=http%253A%252F%252Fe%252Fb%2C%2C"
unfolding config anything row_b addresses
rows_alone = refl

-- another server's form: after & where its address has a ?, after ? else
with_a_query : rows_behind (codes "http://h/f?s=1") (row_b ∷ row_c ∷ []) ≡ codes "http://h/f?s=1&row=http%253A%252F%252Fe%252Fb%2C%2C&row=http%253A%252F%252Fe%252Fc%2C%2C"
unfolding row_b row_c addresses
with_a_query = refl

with_no_query : rows_behind (codes "http://h/f") (row_b ∷ row_c ∷ []) ≡ codes "http://h/f?row=http%253A%252F%252Fe%252Fb%2C%2C&row=http%253A%252F%252Fe%252Fc%2C%2C"
unfolding row_b row_c addresses
with_no_query = refl

-- ---- read

read_back : question_of true (codes "/data?predicate=http%3A%2F%2Fe%2Fn&row=http%253A%252F%252Fe%252Fb%2C%2C&row=http%253A%252F%252Fe%252Fc%2C%2C") ≡ Some (record { selection = named; page = 1 })
unfolding named row_b row_c rows_read
read_back = refl

-- passed over where rows are not read
passed_over : question_of false (codes "/data?predicate=http%3A%2F%2Fe%2Fn&row=http%253A%252F%252Fe%252Fb%2C%2C") ≡ Some (record { selection = all_of named.slots; page = 1 })
unfolding named row_b row_c rows_read
passed_over = refl

-- a row in which every place is free
free_row : question_of true (codes "/data?row=%2C%2C") ≡ Some (record { selection = record { slots = anything; rows = anything ∷ [] }; page = 1 })
unfolding anything rows_read
free_row = refl

-- ---- refused

no_comma : question_of true (codes "/data?row=a") ≡ None
unfolding rows_read
no_comma = refl

no_comma_passed_over : question_of false (codes "/data?row=a") ≡ Some (record { selection = all_of anything; page = 1 })
unfolding anything rows_read
no_comma_passed_over = refl

three_commas : question_of true (codes "/data?row=%2C%2C%2C") ≡ None
unfolding rows_read
three_commas = refl

no_iri : question_of true (codes "/data?row=a%2C%2C") ≡ None
unfolding rows_read
no_iri = refl

-- an escaped byte that is no UTF-8
no_text : question_of true (codes "/data?row=%25FF%2C%2C") ≡ None
unfolding rows_read
no_text = refl

bad_request : version_answer ([] ∷ []) 1 (reading_rows config) (record { method = codes "GET"; target = codes "/data?row=a"; closes = false }) ≡ refusal 400
unfolding version_answer config rows_read
bad_request = refl

-- ---- how many

free_rows : ℕ → List (List ℕ)
free_rows zero = []
free_rows (suc n) = codes ",," ∷ free_rows n

read_rows : ℕ → List Slots
unfolding anything
read_rows zero = []
read_rows (suc n) = anything ∷ read_rows n

most : few_rows_of (free_rows 64) ≡ Some (read_rows 64)
unfolding free_rows read_rows anything rows_read
most = refl

too_many : few_rows_of (free_rows 65) ≡ None
unfolding free_rows
too_many = refl
