-- The response to the bytes of a connection: the answers to its heads, one after another, up to the first that closes (RFC 9112, sections 9.3 and 9.6).
use Rattle.std.specs.Prelude.{ℕ, ◌≡◌, ◌≤◌, Bool, true, false, List, [], ◌∷◌, ◌++◌, map, length, codes, bytes_eq, if◌then◌else◌}
use Rattle.std.specs.List.{AllByRecursion, AllZip}
use Rattle.tpf_base.specs.HttpHeads.{Request, Verdict, Accepted, Rejected}
use Rattle.tpf_base.specs.HttpConnection.{heads_of, closes, unread_of}
use Rattle.rdf_terms.specs.declared.term.Triple.{Triple}
use Rattle.template_fill.specs.HttpAnswer.{Answer, answer_text, refusal}
use Rattle.template_fill.specs.Metadata.{Config}
use Rattle.tpf_base.specs.Marks.{Mark, Served, Failed, Starved, version_at}
use Rattle.template_fill.specs.Answers.{is_reload, answer_to}

-- ---- what a server answers

-- what a server answers to a request over a mark, which requests ask for a reload, and how many versions there are
pub record Answering : Type 0 where
  pub answer : Mark → Request → Answer
  pub reloads : Request → Bool
  pub versions : ℕ

-- the answers over a history
abbrev pub answering : List (List Triple) → Config → Answering
answering history config = record {
  answer = λ mark request. answer_to history mark config request;
  reloads = λ request. is_reload config request;
  versions = length history;
}

-- ---- the response

-- the head alone is asked for
abbrev pub asks_head : Request → Bool
asks_head request = bytes_eq request.method (codes "HEAD")

-- the answer to one head; a head that is refused closes the connection
abbrev pub head_answer : Answering → Verdict → Mark → List ℕ
head_answer server (Rejected status) mark = answer_text (refusal status) false true
head_answer server (Accepted request) mark = answer_text (server.answer mark request) (asks_head request) request.closes

abbrev pub answers : Answering → List Verdict → List Mark → List ℕ
answers server [] marks = []
answers server (head ∷ heads) [] = []
answers server (head ∷ heads) (mark ∷ marks) = head_answer server head mark ++ answers server heads marks

-- the answers to the heads at the front of the bytes, one mark for each
unfoldable pub response_by : Answering → List ℕ → List Mark → List ℕ
response_by server bytes marks = answers server (heads_of bytes).heads marks

abbrev pub response : List (List Triple) → Config → List ℕ → List Mark → List ℕ
response history config bytes marks = response_by (answering history config) bytes marks

-- ---- marks

-- the head asks for a reload
abbrev pub asks_reload : Answering → Verdict → Bool
asks_reload server (Rejected status) = false
asks_reload server (Accepted request) = server.reloads request

-- a failure and want of memory are marks of reload requests alone
abbrev pub FitsHead : Answering → Verdict → Mark → Type 0
FitsHead server head (Served version) = Unit {0}
FitsHead server head (Failed version) = asks_reload server head ≡ true
FitsHead server head (Starved version) = asks_reload server head ≡ true

-- the version of the mark is one of so many
pub record IsVersion (versions : ℕ) (mark : Mark) : Type 0 where
  pub low : 1 ≤ version_at mark
  pub high : version_at mark ≤ versions

-- the version of each mark is at most that of each later one
abbrev pub IsRising : List Mark → Type 0
IsRising [] = Unit {0}
IsRising (mark ∷ marks) = AllByRecursion (λ later. version_at mark ≤ version_at later) marks × IsRising marks

-- marks of heads: one for each, their versions among those that there are and never falling
pub record AreMarks (server : Answering) (heads : List Verdict) (marks : List Mark) : Type 0 where
  pub fits : AllZip (FitsHead server) heads marks
  pub versions : AllByRecursion (IsVersion server.versions) marks
  pub rising : IsRising marks

-- marks of the heads at the front of the bytes
abbrev pub IsMarkedBy : Answering → List ℕ → List Mark → Type 0
IsMarkedBy server bytes marks = AreMarks server (heads_of bytes).heads marks

abbrev pub IsMarked : List (List Triple) → Config → List ℕ → List Mark → Type 0
IsMarked history config bytes marks = IsMarkedBy (answering history config) bytes marks

-- each head answered over one version
unfoldable pub marks_at : ℕ → List ℕ → List Mark
marks_at version bytes = map (λ head. Served version) (heads_of bytes).heads

-- the response over one version
abbrev pub response_at : List (List Triple) → Config → ℕ → List ℕ → List ℕ
response_at history config version bytes = response history config bytes (marks_at version bytes)

-- what an unanswered head is given: want of memory where it asks for a reload, and else the version
abbrev pub padding_mark : Answering → ℕ → Verdict → Mark
padding_mark server version head = if asks_reload server head then Starved version else Served version

abbrev pub padding : Answering → ℕ → List Verdict → List Mark
padding server version heads = map (padding_mark server version) heads

-- the versions with which reload requests among the heads were answered
abbrev pub reload_version : Bool → Mark → List ℕ
reload_version false mark = []
reload_version true (Served version) = version ∷ []
reload_version true (Failed version) = []
reload_version true (Starved version) = []

abbrev pub reload_versions : Answering → List Verdict → List Mark → List ℕ
reload_versions server [] marks = []
reload_versions server (head ∷ heads) [] = []
reload_versions server (head ∷ heads) (mark ∷ marks) = reload_version (asks_reload server head) mark ++ reload_versions server heads marks

-- ---- honesty

-- what is owed for what was sent is the response to it, over some marks
abbrev pub OwesBy : Answering → List ℕ → List ℕ → Type 0
OwesBy server sent owed = (marks : List Mark) × (IsMarkedBy server sent marks × (owed ≡ response_by server sent marks))

abbrev pub Owes : List (List Triple) → Config → List ℕ → List ℕ → Type 0
Owes history config sent owed = OwesBy (answering history config) sent owed

-- What the other end of a wire owes at one host and port. `allows` holds of the host, the port, what was sent and what is owed.
abbrev pub IsHonestAt : (List ℕ → ℕ → List ℕ → List ℕ → Type 0) → List ℕ → ℕ → Answering → Type 0
IsHonestAt allows host port server = (sent owed : List ℕ) → allows host port sent owed → OwesBy server sent owed

-- at every host and port
abbrev pub IsHonestBy : (List ℕ → ℕ → List ℕ → List ℕ → Type 0) → Answering → Type 0
IsHonestBy allows server = (host : List ℕ) (port : ℕ) → IsHonestAt allows host port server

abbrev pub IsHonest : (List ℕ → ℕ → List ℕ → List ℕ → Type 0) → List (List Triple) → Config → Type 0
IsHonest allows history config = IsHonestBy allows (answering history config)

-- ---- the laws

-- The response to a longer list is that to the shorter, and then, unless that closes, the response to what was not read and the rest.
pub record GoesOn (server : Answering) (bytes more : List ℕ) : Type 0 where
  pub text : (marks later : List Mark) → length marks ≡ length (heads_of bytes).heads
      → response_by server (bytes ++ more) (marks ++ later)
      ≡ response_by server bytes marks ++ (if closes bytes then [] else response_by server (unread_of bytes ++ more) later)
  pub closing : closes (bytes ++ more) ≡ (if closes bytes then true else closes (unread_of bytes ++ more))
  pub left : unread_of (bytes ++ more) ≡ (if closes bytes then [] else unread_of (unread_of bytes ++ more))

abbrev pub ResponseGoesOn : Type 0
ResponseGoesOn = (server : Answering) (bytes more : List ℕ) → GoesOn server bytes more

-- the same over one version
abbrev pub ResponseAtGoesOn : Type 0
ResponseAtGoesOn =
    (history : List (List Triple)) (config : Config) (version : ℕ) (bytes more : List ℕ)
    → response_at history config version (bytes ++ more)
    ≡ response_at history config version bytes ++ (if closes bytes then [] else response_at history config version (unread_of bytes ++ more))

-- Marks of bytes and marks of what is behind them are marks of the whole, where no version falls between them.
abbrev pub MarksAreJoined : Type 0
MarksAreJoined =
    (server : Answering) (bytes more : List ℕ) (marks later : List Mark)
    → IsMarkedBy server bytes marks
    → (closes bytes ≡ true → later ≡ [])
    → (closes bytes ≡ false → IsMarkedBy server (unread_of bytes ++ more) later)
    → AllByRecursion (λ mark. AllByRecursion (λ after. version_at mark ≤ version_at after) later) marks
    → IsMarkedBy server (bytes ++ more) (marks ++ later)

-- The response to a longer list with its marks begins with that to the shorter, whose marks are the first of these.
pub record Begins (server : Answering) (bytes more : List ℕ) (all : List Mark) : Type 0 where
  pub marks : List Mark
  pub later : List Mark
  pub rest : List ℕ
  pub split : all ≡ marks ++ later
  pub marked : IsMarkedBy server bytes marks
  pub text : response_by server (bytes ++ more) all ≡ response_by server bytes marks ++ rest

abbrev pub ResponseBegins : Type 0
ResponseBegins = (server : Answering) (bytes more : List ℕ) (all : List Mark) → IsMarkedBy server (bytes ++ more) all → Begins server bytes more all

-- Over a longer history the marks are marks still, and the response is the same.
pub record Grows (history more : List (List Triple)) (config : Config) (bytes : List ℕ) (marks : List Mark) : Type 0 where
  pub marked : IsMarked (history ++ more) config bytes marks
  pub text : response (history ++ more) config bytes marks ≡ response history config bytes marks

abbrev pub LongerHistoriesAgree : Type 0
LongerHistoriesAgree =
    (history more : List (List Triple)) (config : Config) (bytes : List ℕ) (marks : List Mark) → IsMarked history config bytes marks → Grows history more config bytes marks

-- Marks of the first heads are padded: the response begins with the answers to these, and no further reload is answered.
pub record IsPadded (server : Answering) (bytes : List ℕ) (first later : List Verdict) (marks : List Mark) (version : ℕ) : Type 0 where
  pub marked : IsMarkedBy server bytes (marks ++ padding server version later)
  pub text : response_by server bytes (marks ++ padding server version later) ≡ answers server first marks ++ answers server later (padding server version later)
  pub reloads : reload_versions server (heads_of bytes).heads (marks ++ padding server version later) ≡ reload_versions server first marks

abbrev pub MarksArePadded : Type 0
MarksArePadded =
    (server : Answering) (bytes : List ℕ) (first later : List Verdict) (marks : List Mark) (version : ℕ)
    → (heads_of bytes).heads ≡ first ++ later
    → AreMarks server first marks
    → 1 ≤ version → version ≤ server.versions
    → AllByRecursion (λ mark. version_at mark ≤ version) marks
    → IsPadded server bytes first later marks version

-- over one version that there is, each head has that version as its mark
abbrev pub OneVersionIsMarked : Type 0
OneVersionIsMarked =
    (history : List (List Triple)) (config : Config) (version : ℕ) (bytes : List ℕ) → 1 ≤ version → version ≤ length history → IsMarked history config bytes (marks_at version bytes)
