-- The statuses of answers (RFC 9110, 15; RFC 6585, 5), and what their bodies are.
use Rattle.std.specs.Prelude.{ℕ, List, [], ◌∷◌, ◌++◌, codes}
use Rattle.tpf_base.specs.Decimals.{decimal_text}
use Rattle.template_fill.specs.HttpAnswer as definitions
use Rattle.page_responses.specs.declared.status.Status.{Status}
use Rattle.page_responses.specs.declared.status.Status.TheVariants.{Success, BadRequest, NotFound, MethodNotAllowed, HeaderFieldsTooLarge, InternalServerError, ServiceUnavailable}
use Rattle.page_responses.specs.declared.head.MediaType.{MediaType}
use Rattle.page_responses.specs.declared.head.MediaType.TheVariants.{NQuads, PlainText}

abbrev pub code : Status → ℕ
code Success = 200
code BadRequest = 400
code NotFound = 404
code MethodNotAllowed = 405
code HeaderFieldsTooLarge = 431
code InternalServerError = 500
code ServiceUnavailable = 503

-- the body of an answer of this status: the code, the phrase and LF
unfoldable pub body_text : Status → List ℕ
body_text Success = codes "200 OK" ++ 10 ∷ []
body_text BadRequest = codes "400 Bad Request" ++ 10 ∷ []
body_text NotFound = codes "404 Not Found" ++ 10 ∷ []
body_text MethodNotAllowed = codes "405 Method Not Allowed" ++ 10 ∷ []
body_text HeaderFieldsTooLarge = codes "431 Request Header Fields Too Large" ++ 10 ∷ []
body_text InternalServerError = codes "500 Internal Server Error" ++ 10 ∷ []
body_text ServiceUnavailable = codes "503 Service Unavailable" ++ 10 ∷ []

-- the media type as the definitions have it
abbrev pub media_of : MediaType → definitions.MediaType
media_of NQuads = definitions.NQuads
media_of PlainText = definitions.PlainText

-- the body of the answer to a reload
unfoldable pub version_line : ℕ → List ℕ
version_line number = codes "version " ++ decimal_text number ++ 10 ∷ []
