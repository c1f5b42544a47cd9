-- What was read is what some files hold, and those that the shelf tells.
use Rattle.std.proofs.Common.{ℕ, ◌≡◌, ◌≤◌, Bool, List, [], ◌∷◌, length, Option, Some, None, if◌then◌else◌, Result, Ok, Err, IfOk, OnOk, refl, ap}
use Rattle.std.proofs.lemmas.Slice.Eq.{bytes_eq-Decides}
use Rattle.tpf_base.specs.Outside.{content_of}
use Rattle.rdf_terms.specs.declared.limits.TheConstants.{LONGEST_TERM}
use Rattle.rdf_terms.specs.declared.term.Quad.{Quad}
use Rattle.nquads_text.specs.Reads.{Reads}
use Rattle.triple_table.specs.declared.choice.Choice.{Choice}
use Rattle.triple_table.specs.Chosen.{chosen}
use Rattle.triple_table.specs.Served.{Clashes, IsServed}
use Rattle.triple_table.specs.Stored.{Stored, triples_in}
use Rattle.bgp_core.specs.Queries.{QueryData}
use Rattle.pattern_parser.specs.Queries.{ReadsQuery}
use Rattle.group_parser.specs.declared.reading.Asked.{Asked}
use Rattle.group_parser.specs.declared.reading.Asked.TheVariants.{Plain, Groups}
use Rattle.group_parser.specs.Asking.{IsAsked}
use Rattle.data_files.specs.declared.data.TheConstants.{MOST_BYTES}
use Rattle.data_files.specs.declared.fault.DataFault.{DataFault}
use Rattle.data_files.specs.declared.query.Grammar.TheVariants as grammars
use Rattle.data_files.specs.Data.{Files, OfContents, HoldsData, AreFew, IsOfFile}
use Rattle.data_files.specs.Queries.{IsOfQueryFile, IsOfAskedFile}

-- a file alone
alone : (name bytes : List ℕ) → content_of ((name, bytes) ∷ []) name ≡ Some bytes
alone name bytes = ap (λ (b : Bool). if b then Some bytes else None) ((bytes_eq-Decides name name).1 refl)

module _ (told : Option Files) (name bytes : List ℕ) (whole : (files : Files) → told ≡ Some files → content_of files name ≡ Some bytes) where
  pub held_data : (quads : List Quad) → length bytes ≤ MOST_BYTES → Reads bytes LONGEST_TERM quads → OfContents told (λ files. HoldsData files name quads)
  held_data quads few reads = record {
    files = (name, bytes) ∷ [];
    holds = (bytes, alone name bytes, few, reads);
    tells = λ files is. (bytes, whole files is, few, reads);
  }

  pub held_patterns : (q : QueryData) → ReadsQuery bytes q → IsOfQueryFile told name q
  held_patterns q is_read = record {
    files = (name, bytes) ∷ [];
    holds = (bytes, alone name bytes, is_read);
    tells = λ files is. (bytes, whole files is, is_read);
  }

  pub held_query : (asked : Asked) → IsAsked bytes asked → IsOfAskedFile grammars.Groups told name asked
  held_query (Plain q) is_asked = held_patterns q is_asked.1
  held_query (Groups g) is_asked = record {
    files = (name, bytes) ∷ [];
    holds = (bytes, alone name bytes, is_asked);
    tells = λ files is. (bytes, whole files is, is_asked);
  }

pub held_served : (told : Option Files) (name : List ℕ) (choice : Choice) (authority : List ℕ) (quads : List Quad) → OfContents told (λ files. HoldsData files name quads) → (result : Result Stored DataFault)
    → OnOk result ((label : List ℕ) → ¬ (Clashes authority (chosen choice quads) label))
    → IfOk result (λ table. IsServed authority (chosen choice quads) (triples_in table)) → IfOk result (λ table. AreFew (triples_in table)) → IfOk result (λ table. IsOfFile told name choice authority (triples_in table))
held_served told name choice authority quads h (Ok table) free served few = record {
  files = h.files;
  holds = (quads, h.holds, free, served, few);
  tells = λ files is. (quads, h.tells files is, free, served, few);
}
held_served told name choice authority quads h (Err fault) free served few = tt
