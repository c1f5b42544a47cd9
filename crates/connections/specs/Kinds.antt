-- What a kind of connection means, and what each call does in its terms.
use Rattle.std.specs.Prelude.{ℕ, ◌≡◌, ◌⊎◌, ◌≤◌, ◌<◌, Bool, true, false, List, [], ◌∷◌, ◌++◌, length, take}
use Rattle.std.specs.List.{AllByRecursion}
use Rattle.connections.specs.declared.reloaded.Reloaded.{Reloaded}
use Rattle.connections.specs.declared.reloaded.Reloaded.TheVariants as outcomes
use Rattle.tpf_base.specs.declared.limits.TheConstants.{ENOUGH_PENDING}
use Rattle.tpf_base.specs.Marks.{Mark, Served, Failed, Starved, version_at}
use Rattle.connections.specs.Versions.{Serving, IsHistory}

-- A kind of connection. The first four are of its value; `Answers history config fed taken marks c` ties it to all that came and went: `marks` has one mark for each head that was read. The last four are the kind's definitions.
pub record Kind (C Data Settings : Type 0) : Type 1 where
  pub pending : C → List ℕ
  pub closing : C → Bool
  pub wants : C → Bool
  pub owes : C → Bool
  pub Answers : List Data → Settings → List ℕ → List ℕ → List Mark → C → Type 0
  -- the response to bytes whose heads have these marks; marks that fit them; the numbers of the versions with which reload requests among them were answered; whether one of the heads closes
  pub response : List Data → Settings → List ℕ → List Mark → List ℕ
  pub IsMarked : List Data → Settings → List ℕ → List Mark → Type 0
  pub reloads : Settings → List ℕ → List Mark → List ℕ
  pub closes : Settings → List ℕ → Bool

-- each mark is this version
abbrev pub AreServed : ℕ → List Mark → Type 0
AreServed version marks = AllByRecursion (λ mark. mark ≡ Served version) marks

-- no mark of a failure
abbrev pub IsNoFailure : Mark → Type 0
IsNoFailure (Served version) = Unit {0}
IsNoFailure (Failed version) = ⊥
IsNoFailure (Starved version) = Unit {0}

-- the mark of a reload request, and the number that it was given
abbrev pub mark_of : ℕ → Reloaded → Mark
mark_of version (outcomes.Version v) = Served version
mark_of version outcomes.Failed = Failed version
mark_of version outcomes.OutOfMemory = Starved version

abbrev pub numbers_of : Reloaded → List ℕ
numbers_of (outcomes.Version v) = v ∷ []
numbers_of outcomes.Failed = []
numbers_of outcomes.OutOfMemory = []

module _ {Data Settings : Type 0} where
  -- a version that was reached is the one that is served
  abbrev pub IsOutcome : Serving Data Settings → Reloaded → Type 0
  IsOutcome server (outcomes.Version v) = v ≡ server.version
  IsOutcome server outcomes.Failed = Unit {0}
  IsOutcome server outcomes.OutOfMemory = Unit {0}

module _ {C Data Settings : Type 0} where
  -- nothing came yet, and nothing is to be sent
  pub record Opens (kind : Kind C Data Settings) (c : C) : Type 0 where
    pub pending : kind.pending c ≡ []
    pub wants : kind.wants c ≡ false
    pub owes : kind.owes c ≡ false
    pub answers : (history : List Data) (config : Settings) → kind.Answers history config [] [] [] c
    pub numbers : (config : Settings) → kind.reloads config [] [] ≡ []

  -- further marks of the bytes fed so far and of further bytes
  pub record Reads (kind : Kind C Data Settings) (history : List Data) (server : Serving Data Settings) (fed taken : List ℕ) (marks : List Mark) (piece : List ℕ) (first : List Mark) (asked : List ℕ) (new : C) : Type 0 where
    pub later : List Mark
    pub served : AreServed server.version later
    pub answers : kind.Answers history server.config (fed ++ piece) taken (marks ++ (first ++ later)) new
    pub numbers : kind.reloads server.config (fed ++ piece) (marks ++ (first ++ later)) ≡ kind.reloads server.config fed marks ++ asked

  -- the heads that were read are answered over the version that is served
  pub record Feeds (kind : Kind C Data Settings) (server : Serving Data Settings) (piece : List ℕ) (old new : C) : Type 0 where
    pub pending : kind.pending new ≡ kind.pending old
    pub reads : (history : List Data) (fed taken : List ℕ) (marks : List Mark) → IsHistory history server
        → kind.Answers history server.config fed taken marks old → Reads kind history server fed taken marks piece [] [] new

  -- the reload request was answered, and the heads behind it over the version that is served
  pub record Reloads (kind : Kind C Data Settings) (server : Serving Data Settings) (outcome : Reloaded) (old new : C) : Type 0 where
    pub pending : kind.pending new ≡ kind.pending old
    pub owes : kind.owes new ≡ true
    pub reads : (history : List Data) (fed taken : List ℕ) (marks : List Mark) → IsHistory history server
        → kind.Answers history server.config fed taken marks old
        → Reads kind history server fed taken marks [] (mark_of server.version outcome ∷ []) (numbers_of outcome) new

  -- further bytes of the response are pending: many, or all
  pub record Fills (kind : Kind C Data Settings) (server : Serving Data Settings) (old new : C) : Type 0 where
    pub answers : (history : List Data) (fed taken : List ℕ) (marks : List Mark) → kind.Answers history server.config fed taken marks old → kind.Answers history server.config fed taken marks new
    -- what was made stands behind what was pending, and is nothing where nothing was owed
    pub more : List ℕ
    pub pending : kind.pending new ≡ kind.pending old ++ more
    pub idle : kind.owes old ≡ false → more ≡ []
    pub enough : (ENOUGH_PENDING ≤ length (kind.pending new)) ⊎ (kind.owes new ≡ false)
    pub some : kind.owes old ≡ true → 0 < length (kind.pending new)
    pub wants : kind.wants new ≡ kind.wants old
    pub closing : kind.closing new ≡ kind.closing old

  -- the front of what is pending was taken
  pub record Takes (kind : Kind C Data Settings) (n : ℕ) (old new : C) : Type 0 where
    pub answers : (history : List Data) (config : Settings) (fed taken : List ℕ) (marks : List Mark) → kind.Answers history config fed taken marks old
        → kind.Answers history config fed (taken ++ take n (kind.pending old)) marks new

  -- ---- the laws

  -- the response to these bytes with all their marks begins with what was sent
  pub record Begins (kind : Kind C Data Settings) (history : List Data) (config : Settings) (fed bytes sent : List ℕ) (marks : List Mark) : Type 0 where
    pub all : List Mark
    pub padding : List Mark
    pub rest : List ℕ
    pub split : all ≡ marks ++ padding
    pub no_failure : AllByRecursion IsNoFailure padding
    -- what is not yet marked is answered over the last version
    pub latest : AllByRecursion (λ mark. length history ≤ version_at mark) padding
    pub marked : kind.IsMarked history config bytes all
    pub text : kind.response history config bytes all ≡ sent ++ rest
    pub numbers : kind.reloads config bytes all ≡ kind.reloads config fed marks

  abbrev pub BeginsResponse : Kind C Data Settings → Type 0
  BeginsResponse kind = (history : List Data) (config : Settings) (fed taken : List ℕ) (marks : List Mark) (c : C)
      → 1 ≤ length history → kind.Answers history config fed taken marks c
      → (more : List ℕ) (n : ℕ) → n ≤ length (kind.pending c)
      → Begins kind history config fed (fed ++ more) (taken ++ take n (kind.pending c)) marks

  -- a longer history changes nothing
  abbrev pub Grows : Kind C Data Settings → Type 0
  Grows kind = (history more : List Data) (config : Settings) (fed taken : List ℕ) (marks : List Mark) (c : C)
      → kind.Answers history config fed taken marks c → kind.Answers (history ++ more) config fed taken marks c

  -- what was taken is the whole response
  pub record Whole (kind : Kind C Data Settings) (history : List Data) (config : Settings) (fed taken : List ℕ) (marks : List Mark) (c : C) : Type 0 where
    pub marked : kind.IsMarked history config fed marks
    pub text : taken ≡ kind.response history config fed marks
    pub closing : kind.closing c ≡ kind.closes config fed

  abbrev pub IsWhole : Kind C Data Settings → Type 0
  IsWhole kind = (history : List Data) (config : Settings) (fed taken : List ℕ) (marks : List Mark) (c : C)
      → kind.Answers history config fed taken marks c → kind.pending c ≡ [] → kind.owes c ≡ false → kind.wants c ≡ false
      → Whole kind history config fed taken marks c
