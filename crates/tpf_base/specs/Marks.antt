-- How the head of a request was answered.
use Rattle.std.specs.Prelude.{ℕ}

-- over the data of a version; a reload that failed, or that met want of memory
pub data Mark : Type 0 where
  Served : ℕ → Mark
  Failed : ℕ → Mark
  Starved : ℕ → Mark

-- the version of a mark
abbrev pub version_at : Mark → ℕ
version_at (Served version) = version
version_at (Failed version) = version
version_at (Starved version) = version
