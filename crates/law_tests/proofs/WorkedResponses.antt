-- Worked examples of reloads, of marks and of responses over several versions, by computing.
use Rattle.std.proofs.Common.{◌≡◌, ℕ, ◌≤◌, List, [], ◌∷◌, ◌++◌, true, false, drop, refl, lit≤, arith}
use Rattle.std.specs.Prelude.{codes}
use Rattle.rdf_terms.specs.declared.term.Term.TheVariants.{Iri}
use Rattle.rdf_terms.specs.declared.term.Triple.{Triple}
use Rattle.rdf_terms.specs.Selections.{all_of}
use Rattle.tpf_base.specs.HttpHeads.{Verdict, Accepted}
use Rattle.tpf_base.specs.HttpConnection.{heads_up_to}
use Rattle.template_fill.specs.HttpAnswer.{NQuads, text_answer, answer_text}
use Rattle.template_fill.specs.Bodies.{page_body}
use Rattle.tpf_base.specs.Marks.{Mark, Served, Failed, Starved}
use Rattle.template_fill.specs.Responses.{Answering, answering, head_answer, answers, response_by, AreMarks, IsHonest, OwesBy, padding, reload_versions}
use Rattle.law_tests.proofs.WorkedAnswers as worked
use Rattle.law_tests.proofs.WorkedAnswers.{config, anything, line}

-- ---- a server whose data were read again: no triple first, and then one

triple : Triple
triple = record { subject = Iri (codes "http://e/s"); predicate = Iri (codes "http://e/p"); object = Iri (codes "http://e/o") }

unfoldable history : List (List Triple)
unfolding triple
history = [] ∷ (triple ∷ []) ∷ []

unfoldable server : Answering
unfolding history config
server = answering history config

unfoldable get : Verdict
get = Accepted (record { method = codes "GET"; target = codes "/data"; closes = false })

unfoldable post : Verdict
post = Accepted (record { method = codes "POST"; target = codes "/reload"; closes = false })

-- ---- the page of each version

first_page : List ℕ
unfolding history config anything
first_page = page_body history 1 config (all_of anything) 1

version_line : drop 2143 first_page ≡ codes "<http://localhost/data#dataset> <http://www.w3.org/2002/07/owl#versionInfo> \"1\" <http://localhost/data#metadata> ." ++ 10 ∷ []
unfolding first_page worked.bodies history config anything
version_line = refl

-- ---- reloads

reloaded : head_answer server post (Served 2)
    ≡ line (codes "HTTP/1.1 200 OK") ++ line (codes "Content-Type: text/plain") ++ line (codes "Content-Length: 10") ++ line [] ++ codes "version 2" ++ 10 ∷ []
unfolding server post line worked.answers
reloaded = refl

not_reloaded : head_answer server post (Failed 1)
    ≡ line (codes "HTTP/1.1 500 Internal Server Error") ++ line (codes "Content-Type: text/plain") ++ line (codes "Content-Length: 26") ++ line [] ++ codes "500 Internal Server Error" ++ 10 ∷ []
unfolding server post line worked.answers
not_reloaded = refl

no_memory : head_answer server post (Starved 1)
    ≡ line (codes "HTTP/1.1 503 Service Unavailable") ++ line (codes "Content-Type: text/plain") ++ line (codes "Content-Length: 24") ++ line [] ++ codes "503 Service Unavailable" ++ 10 ∷ []
unfolding server post line worked.answers
no_memory = refl

-- GET and HEAD on the path of a reload are answered as on any other path
read_reload : head_answer server (Accepted (record { method = codes "HEAD"; target = codes "/reload"; closes = false })) (Served 1)
    ≡ line (codes "HTTP/1.1 404 Not Found") ++ line (codes "Content-Type: text/plain") ++ line (codes "Content-Length: 14") ++ line []
unfolding server line worked.answers
read_reload = refl

-- another method on another path is no reload
other_post : head_answer server (Accepted (record { method = codes "POST"; target = codes "/data"; closes = false })) (Failed 1)
    ≡ line (codes "HTTP/1.1 405 Method Not Allowed") ++ line (codes "Content-Type: text/plain") ++ line (codes "Content-Length: 23") ++ line (codes "Allow: GET, HEAD") ++ line [] ++ codes "405 Method Not Allowed" ++ 10 ∷ []
unfolding server line worked.answers
other_post = refl

-- ---- a reload between two requests

page_text : ℕ → List ℕ
unfolding history config anything
page_text version = answer_text (record { status = 200; media_type = NQuads; body = page_body history version config (all_of anything) 1 }) false false

between : answers server (get ∷ post ∷ get ∷ []) (Served 1 ∷ Served 2 ∷ Served 2 ∷ [])
    ≡ page_text 1 ++ (answer_text (text_answer 200 (codes "version 2" ++ 10 ∷ [])) false false ++ page_text 2)
unfolding server get post page_text history config anything worked.answers worked.targets worked.bodies
between = refl

-- the page of the second data set begins with its triple
second_page : page_body history 2 config (all_of anything) 1 ≡ codes "<http://e/s> <http://e/p> <http://e/o> ." ++ 10 ∷ drop 41 (page_body history 2 config (all_of anything) 1)
unfolding history triple config anything worked.bodies
second_page = refl

-- ---- marks

rising : AreMarks server (get ∷ post ∷ get ∷ []) (Served 1 ∷ Served 2 ∷ Served 2 ∷ [])
unfolding server history get post
rising = record {
  fits = (tt, (tt, (tt, tt)));
  versions = (record { low = lit≤ tt; high = lit≤ tt }, (record { low = lit≤ tt; high = lit≤ tt }, (record { low = lit≤ tt; high = lit≤ tt }, tt)));
  rising = ((lit≤ tt, (lit≤ tt, tt)), ((lit≤ tt, tt), (tt, tt)));
}

-- a version that no head of this connection saw is passed over
skipping : AreMarks (answering ([] ∷ [] ∷ [] ∷ []) config) (get ∷ get ∷ []) (Served 1 ∷ Served 3 ∷ [])
unfolding get config
skipping = record {
  fits = (tt, (tt, tt));
  versions = (record { low = lit≤ tt; high = lit≤ tt }, (record { low = lit≤ tt; high = lit≤ tt }, tt));
  rising = ((lit≤ tt, tt), (tt, tt));
}

falling : AreMarks server (get ∷ get ∷ []) (Served 2 ∷ Served 1 ∷ []) → ⊥
falling marks = let low : 2 ≤ 1 = marks.rising.0.0 in absurd (omega (arith, low))

past_the_last : AreMarks server (get ∷ []) (Served 3 ∷ []) → ⊥
unfolding server history
past_the_last marks = let high : 3 ≤ 2 = marks.versions.0.high in absurd (omega (arith, high))

before_the_first : AreMarks server (get ∷ []) (Served 0 ∷ []) → ⊥
before_the_first marks = let low : 1 ≤ 0 = marks.versions.0.low in absurd (omega (arith, low))

failed_page : AreMarks server (get ∷ []) (Failed 1 ∷ []) → ⊥
unfolding server get worked.answers
failed_page marks = let is : false ≡ true = marks.fits.0 in absurd cc

starved_page : AreMarks server (get ∷ []) (Starved 1 ∷ []) → ⊥
unfolding server get worked.answers
starved_page marks = let is : false ≡ true = marks.fits.0 in absurd cc

one_short : AreMarks server (get ∷ get ∷ []) (Served 1 ∷ []) → ⊥
one_short marks = marks.fits.1

-- heads that were not answered
padded : padding server 1 (get ∷ post ∷ []) ≡ Served 1 ∷ Starved 1 ∷ []
unfolding server get post worked.answers
padded = refl

numbers : reload_versions server (get ∷ post ∷ post ∷ get ∷ []) (Served 1 ∷ Served 2 ∷ Failed 2 ∷ Served 2 ∷ []) ≡ 2 ∷ []
unfolding server get post worked.answers
numbers = refl

-- ---- honesty

-- an end that may owe anything is not honest
nothing_is_owed : (marks : List Mark) → response_by (answering history config) [] marks ≡ []
unfolding response_by heads_up_to
nothing_is_owed marks = refl

not_empty : (bytes : List ℕ) → bytes ≡ [] → 0 ∷ [] ≡ bytes → ⊥
not_empty bytes none is = cc

anything_is_owed : IsHonest (λ host port sent owed. Unit {0}) history config → ⊥
anything_is_owed honest = let owes = honest (codes "h") 80 [] (0 ∷ []) tt in not_empty (response_by (answering history config) [] owes.0) (nothing_is_owed owes.0) owes.1.1

-- one that owes the response over some marks is
response_is_owed : IsHonest (λ host port sent owed. OwesBy (answering history config) sent owed) history config
response_is_owed host port sent owed is = is
