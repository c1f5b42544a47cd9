-- The response of a server that answers over one version, and reloads nothing.
use Rattle.std.specs.Prelude.{ℕ, ◌≡◌, List, [], ◌++◌}
use Rattle.std.specs.List.{AllByRecursion}
use Rattle.connections.specs.Kinds.{Kind}
use Rattle.tpf_base.specs.Marks.{Mark, Served, Failed, Starved}
use Rattle.connections.specs.Versions.{Serving, IsHistory}

-- answered over this version, or as a reload that failed at it
abbrev pub IsOf : ℕ → Mark → Type 0
IsOf version (Served v) = v ≡ version
IsOf version (Failed v) = v ≡ version
IsOf version (Starved v) = ⊥

module _ {C Data Settings : Type 0} where
  -- The connection answers what came over the version that is served. No reload request was given a number.
  pub record Answering (kind : Kind C Data Settings) (serving : Serving Data Settings) (history : List Data) (fed taken : List ℕ) (c : C) : Type 0 where
    pub marks : List Mark
    pub answers : kind.Answers history serving.config fed taken marks c
    pub versions : AllByRecursion (IsOf serving.version) marks
    pub numbers : kind.reloads serving.config fed marks ≡ []

  -- marks of that version make the response of the kind this one
  abbrev pub IsResponse : Kind C Data Settings → (Serving Data Settings → List ℕ → List ℕ) → Type 0
  IsResponse kind response_at = (history : List Data) (serving : Serving Data Settings) (fed : List ℕ) (marks : List Mark)
      → IsHistory history serving → kind.IsMarked history serving.config fed marks → AllByRecursion (IsOf serving.version) marks
      → kind.reloads serving.config fed marks ≡ [] → kind.response history serving.config fed marks ≡ response_at serving fed

  -- what was taken and what is pending is a front of the response
  abbrev pub BeginsAt : Kind C Data Settings → (Serving Data Settings → List ℕ → List ℕ) → Type 0
  BeginsAt kind response_at = (history : List Data) (serving : Serving Data Settings) (fed taken : List ℕ) (c : C)
      → IsHistory history serving → Answering kind serving history fed taken c
      → (rest : List ℕ) × (response_at serving fed ≡ taken ++ (kind.pending c ++ rest))

  -- A connection before some calls and after them: these bytes were fed, and those were taken.
  abbrev pub Continues : Kind C Data Settings → Serving Data Settings → List ℕ → List ℕ → C → C → Type 0
  Continues kind serving piece given old new = (history : List Data) (fed taken : List ℕ) → IsHistory history serving
      → Answering kind serving history fed taken old → Answering kind serving history (fed ++ piece) (taken ++ given) new

  -- the same where none was
  abbrev pub Stays : Kind C Data Settings → Serving Data Settings → C → C → Type 0
  Stays kind serving old new = (history : List Data) (fed taken : List ℕ) → IsHistory history serving
      → Answering kind serving history fed taken old → Answering kind serving history fed taken new

-- the response to more begins with the response to less
abbrev pub Lasts : {Data Settings : Type 0} → (Serving Data Settings → List ℕ → List ℕ) → Type 0
Lasts {Data} {Settings} response_at = (serving : Serving Data Settings) (fed more : List ℕ) → (rest : List ℕ) × (response_at serving (fed ++ more) ≡ response_at serving fed ++ rest)
