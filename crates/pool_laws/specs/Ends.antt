-- The laws of the two ends of HTTP, on which what is said of other ends that answer as a server does rests. It serves the proofs alone.
use Rattle.http_ends.specs.Requests.{AddressesArePlain}
use Rattle.http_ends.specs.Answers.{AnswersAreRead, LongHeadsAreRefused, HeadsAreShort, AnswersHaveStatus, PagesAreNQuads, ServerAnswersAreRead, ReadingsStay}
use Rattle.http_ends.specs.Cuts.{RequestIsSent, ResponseIsCut, RepliesAreCut, NextAnswerIsCut}

pub record EndsAreTrue : Type 0 where
  pub plain : AddressesArePlain
  pub reads : AnswersAreRead
  pub long : LongHeadsAreRefused
  pub short : HeadsAreShort
  pub status : AnswersHaveStatus
  pub server : ServerAnswersAreRead
  pub pages : PagesAreNQuads
  pub sends : RequestIsSent
  pub responses : ResponseIsCut
  pub replies : RepliesAreCut
  pub next : NextAnswerIsCut
  pub stays : ReadingsStay
