-- The law of a feed before its first piece.
use Rattle.std.specs.Prelude.{ℕ, ◌≡◌, min, List}
use Rattle.rdf_terms.specs.declared.term.Quad.{Quad}
use Rattle.nquads_text.specs.declared.fault.Why.{Why}
use Rattle.nquads_text.specs.Reads.{Reads, FirstFault}
use Rattle.quad_feed.specs.Feed.{last_number, nothing_fed, ReadsWith, FaultWith}

-- before the first piece, what comes is read as the whole text is read
pub record BeginsWithText : Type 0 where
  pub reads : (longest : ℕ) (bytes : List ℕ) (quads : List Quad) → ReadsWith (nothing_fed longest) bytes quads → Reads bytes longest quads
  pub only_reads : (longest : ℕ) (bytes : List ℕ) (quads : List Quad) → Reads bytes longest quads → ReadsWith (nothing_fed longest) bytes quads
  pub faults : (longest : ℕ) (bytes : List ℕ) (number : ℕ) (why : Why) → FirstFault bytes longest number why → FaultWith (nothing_fed longest) bytes (min number last_number) why
  pub only_faults : (longest : ℕ) (bytes : List ℕ) (number : ℕ) (why : Why) → FaultWith (nothing_fed longest) bytes number why → (n : ℕ) × FirstFault bytes longest n why × (number ≡ min n last_number)
