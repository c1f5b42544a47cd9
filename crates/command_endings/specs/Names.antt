-- The names of faults, in lower-case words.
use Rattle.std.specs.Prelude.{ℕ, List, codes}
use Rattle.nquads_text.specs.declared.fault.Why.{Why}
use Rattle.nquads_text.specs.declared.fault.Why.TheVariants.{Utf8, Statement, Escape, RelativeIri, LangString, TermTooLong}
use Rattle.pattern_parser.specs.declared.fault.QueryWhy.{QueryWhy}
use Rattle.pattern_parser.specs.declared.fault.QueryWhy.TheVariants as queries
use Rattle.group_faults.specs.declared.fault.GroupWhy.{GroupWhy}
use Rattle.group_faults.specs.declared.fault.GroupWhy.TheVariants as groups
use Rattle.fragment_page.specs.declared.page.PageFault.{PageFault}
use Rattle.fragment_page.specs.declared.page.PageFault.TheVariants as pages

-- of data
abbrev pub why_text : Why → List ℕ
why_text Utf8 = codes "utf8"
why_text Statement = codes "statement"
why_text Escape = codes "escape"
why_text RelativeIri = codes "relative iri"
why_text LangString = codes "lang string"
why_text TermTooLong = codes "term too long"

-- of a query that may be one without groups
abbrev pub query_why_text : QueryWhy → List ℕ
query_why_text queries.TooLong = codes "too long"
query_why_text queries.Utf8 = codes "utf8"
query_why_text queries.Token = codes "token"
query_why_text queries.Grammar = codes "grammar"
query_why_text queries.UnknownPrefix = codes "unknown prefix"
query_why_text queries.RelativeIri = codes "relative iri"
query_why_text queries.LangString = codes "lang string"
query_why_text queries.TooManyPatterns = codes "too many patterns"

-- of a query
abbrev pub group_why_text : GroupWhy → List ℕ
group_why_text (groups.Basic why) = query_why_text why
group_why_text groups.TooDeep = codes "too deep"
group_why_text groups.SharedBlank = codes "shared blank"

-- of a page
abbrev pub page_text : PageFault → List ℕ
page_text pages.Text = codes "text"
page_text pages.NoTopic = codes "no topic"
page_text pages.NoCount = codes "no count"
page_text pages.CountText = codes "count text"
page_text pages.NoForm = codes "no form"
page_text pages.BadTemplate = codes "bad template"
page_text pages.TwoNext = codes "two next"
page_text pages.ForeignLink = codes "foreign link"
page_text pages.BlankData = codes "blank data"
page_text pages.OutOfMemory = codes "out of memory"
