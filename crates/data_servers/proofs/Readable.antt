-- The generated quads are as the text of quads can give them.
use Rattle.std.proofs.Common.{◌≡◌, ℕ, zero, suc, ◌+◌, ◌*◌, ◌%◌, ◌<◌, ◌≤◌, ◌==◌, Bool, true, List, [], ◌∷◌, ◌++◌, length, Err, refl, sym, ap, subst, arith, lit≤, lit<, length-append}
use Rattle.std.specs.Prelude.{◌&&◌, ◌^◌, codes, decimal}
use Rattle.std.specs.Char.{is_ascii, is_ascii_digit}
use Rattle.std.specs.List.{list_all, AllByRecursion, flat_map, range_with_len}
use Rattle.std.proofs.lemmas.List.Folds.{list_all-append}
use Rattle.std.proofs.lemmas.Nat.{mod_below}
use Rattle.list_laws.proofs.Bytes.{digit_ascii}
use Rattle.list_laws.proofs.Each.{all_append, all_if}
use Rattle.tpf_base.proofs.DecimalTexts.{decimal_of_u64, decimal_text-short}
use Rattle.template_fill.proofs.Addresses.{all_digits-decimal, utf8-ascii}
use Rattle.template_fill.proofs.Passing.{list_all-wider}
use Rattle.rdf_terms.specs.declared.limits.TheConstants.{LONGEST_TERM}
use Rattle.rdf_terms.specs.Iri.{is_iri, is_iri_byte, has_scheme}
use Rattle.rdf_terms.proofs.Iris.{digit_iri}
use Rattle.rdf_terms.specs.Canon.{canon, canonical_form}
use Rattle.rdf_terms.specs.declared.term.Quad.{Quad}
use Rattle.rdf_terms.specs.declared.term.Term.TheVariants.{Iri}
use Rattle.nquads_text.specs.Laws.{CanonReadsBack}
use Rattle.nquads_text.specs.Quads.{IsReadableTerm, IsReadable}
use Rattle.nquads_text.specs.Reads.{Reads, IsOkOrMemory}
use Rattle.nquads_text.specs.declared.fault.Why.{Why}
use Rattle.nquads_text.specs.declared.fault.TextFault.{TextFault}
use Rattle.nquads_text.specs.declared.fault.TextFault.TheVariants.{Bad}
use Rattle.generated_data.specs.declared.limits.TheConstants.{MOST_PERSONS}
use Rattle.generated_data.specs.Generated.{person, city, name, knows, names, cities, about, generated}
use Rattle.generated_data.proofs.Texts.{number_text}

-- ---- numbers

-- a text before a number passes where it does by itself
passes : (test : ℕ → Bool) → ((b : ℕ) → is_ascii_digit b ≡ true → test b ≡ true) → (before : List ℕ) (n : ℕ) → n < 2 ^ 64 → list_all test before ≡ true → list_all test (before ++ decimal n) ≡ true
passes test digit before n fits h = rw (list_all-append test before (decimal n), h) (list_all-wider is_ascii_digit test digit (decimal n) (all_digits-decimal n fits))

short : (n : ℕ) → n < 2 ^ 64 → length (decimal n) ≤ 20
short n fits = subst (λ (ds : List ℕ). length ds ≤ 20) (sym (decimal_of_u64 n fits)) (decimal_text-short n 20 (omega arith) (omega (arith, fits)))

-- ---- terms

both_true : (a b : Bool) → a ≡ true → b ≡ true → (a && b) ≡ true
both_true a b p q = rw (p, q) refl

room : 202 ≤ LONGEST_TERM
room = lit≤ tt

bracketed_short : (text : List ℕ) → length text ≤ 200 → length (60 ∷ (text ++ 62 ∷ [])) ≤ LONGEST_TERM
bracketed_short text few = omega (arith, few, room, length-append text (62 ∷ []))

-- an IRI that ends in a number, and one that does not
numbered_iri : (before : List ℕ) (n : ℕ) → n < 2 ^ 64 → list_all is_iri_byte before ≡ true → list_all is_ascii before ≡ true → has_scheme (before ++ decimal n) ≡ true → length before ≤ 100 → IsReadableTerm LONGEST_TERM (Iri (before ++ decimal n))
numbered_iri before n fits iri ascii scheme few = record {
  valid = (both_true _ _ (passes is_iri_byte digit_iri before n fits iri) scheme, utf8-ascii (before ++ decimal n) (passes is_ascii digit_ascii before n fits ascii));
  fits = bracketed_short (before ++ decimal n) (omega (arith, few, short n fits, length-append before (decimal n)));
  label = tt;
}

plain_iri : (text : List ℕ) → is_iri text ≡ true → list_all is_ascii text ≡ true → length text ≤ 100 → IsReadableTerm LONGEST_TERM (Iri text)
plain_iri text iri ascii few = record {
  valid = (iri, utf8-ascii text ascii);
  fits = bracketed_short text (omega (arith, few));
  label = tt;
}

person_reads : (n : ℕ) → n < 2 ^ 64 → IsReadableTerm LONGEST_TERM (person n)
person_reads n fits = numbered_iri (codes "http://example.org/person/") n fits refl refl refl (lit≤ tt)

city_reads : (n : ℕ) → n < 2 ^ 64 → IsReadableTerm LONGEST_TERM (city n)
city_reads n fits = numbered_iri (codes "http://example.org/city/") n fits refl refl refl (lit≤ tt)

-- the form of a name is written as it is
name_form : (n : ℕ) → n < 2 ^ 64 → canonical_form (codes "Person " ++ decimal n) ≡ codes "Person " ++ decimal n
name_form n fits = ap (λ ds. codes "Person " ++ ds) (number_text n fits)

quoted_short : (form : List ℕ) → length form ≤ 100 → length (34 ∷ (form ++ 34 ∷ [])) ≤ LONGEST_TERM
quoted_short form few = omega (arith, few, room, length-append form (34 ∷ []))

name_short : (n : ℕ) → n < 2 ^ 64 → length (codes "Person " ++ decimal n) ≤ 100
name_short n fits = let front : length (codes "Person ") ≤ 7 = lit≤ tt in omega (arith, front, short n fits, length-append (codes "Person ") (decimal n))

name_reads : (n : ℕ) → n < 2 ^ 64 → IsReadableTerm LONGEST_TERM (name n)
name_reads n fits = record {
  valid = (utf8-ascii (codes "Person " ++ decimal n) (passes is_ascii digit_ascii (codes "Person ") n fits refl), tt);
  fits = subst (λ (form : List ℕ). length (34 ∷ (form ++ 34 ∷ [])) ≤ LONGEST_TERM) (sym (name_form n fits)) (quoted_short (codes "Person " ++ decimal n) (name_short n fits));
  label = tt;
}

-- ---- quads

-- what holds of the quads about each person among n
all_about : (P : Quad → Type 0) (n : ℕ) → ((i : ℕ) → i < n → AllByRecursion P (about n i)) → (from k : ℕ) → from + k ≤ n → AllByRecursion P (flat_map (about n) (range_with_len from k))
all_about P n each from zero within = tt
all_about P n each from (suc k) within = all_append P (about n from) (flat_map (about n) (range_with_len (from + 1) k)) (each from (omega arith)) (all_about P n each (from + 1) k (omega arith))

about_reads : (n i : ℕ) → n ≤ MOST_PERSONS → i < n → AllByRecursion (IsReadable LONGEST_TERM) (about n i)
unfolding about knows names cities
about_reads n i most below =
    let small : i < 2 ^ 64 = omega arith in
    let rest = mod_below (7 * i + 1) n (omega arith) in
    let known : (7 * i + 1) % n < 2 ^ 64 = omega (arith, rest) in
    let subject = person_reads i small in (
      record { classes = record { triple = record { subject = tt; predicate = tt }; graph = tt }; subject = subject; predicate = plain_iri (codes "http://example.org/knows") refl refl (lit≤ tt); object = person_reads ((7 * i + 1) % n) known; graph = tt },
      all_append (IsReadable LONGEST_TERM) (names i) (cities i)
          (all_if (IsReadable LONGEST_TERM) (i % 3 == 0) _ (record { classes = record { triple = record { subject = tt; predicate = tt }; graph = tt }; subject = subject; predicate = plain_iri (codes "http://example.org/name") refl refl (lit≤ tt); object = name_reads i small; graph = tt }))
          (all_if (IsReadable LONGEST_TERM) (i % 10 == 0) _ (record { classes = record { triple = record { subject = tt; predicate = tt }; graph = tt }; subject = subject; predicate = plain_iri (codes "http://example.org/city") refl refl (lit≤ tt); object = city_reads (i % 7) (omega (arith, mod_below i 7 (lit< tt))); graph = tt })),
    )

pub generated_reads : (n : ℕ) → n ≤ MOST_PERSONS → AllByRecursion (IsReadable LONGEST_TERM) (generated n)
unfolding generated
generated_reads n most = all_about (IsReadable LONGEST_TERM) n (λ i below. about_reads n i most below) 0 n (omega arith)

-- the text is read as the generated quads
pub text_reads : CanonReadsBack → (n : ℕ) → n ≤ MOST_PERSONS → (bytes : List ℕ) → bytes ≡ canon (generated n) → Reads bytes LONGEST_TERM (generated n)
text_reads law n most bytes is = subst (λ (b : List ℕ). Reads b LONGEST_TERM (generated n)) (sym is) (law LONGEST_TERM (generated n) (generated_reads n most))

-- what is read has no fault
pub never_bad : {X : Type 0} (P : X → Type 0) (fault : TextFault) (line : ℕ) (why : Why) → fault ≡ Bad line why → IsOkOrMemory P (Err fault) → ⊥
never_bad P fault line why is h = subst (λ (f : TextFault). IsOkOrMemory P (Err f)) is h
