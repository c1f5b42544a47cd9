-- A loop without connections begins, takes its turns, and closes the links that are left.
use Rattle.std.proofs.Common.{sym, subst, ℕ, ◌+◌, ◌≤◌, ap, ◌∙◌}
use Rattle.std.proofs.lemmas.Result.{IfOk-weaker, IfErr-weaker, on_ok_weaker}
use Rattle.connections.proofs.Histories.{some_history}
use Rattle.serve_loop.proofs.CallLemmas.{alone_then}
use Rattle.serve_loop.proofs.ServeLemmas.{begins_at, sentence_left, whole_left, closed_left, older_left, links_given}
use Rattle.serve_loop.proofs.ServiceLemmas.{serves_left, fails_left, rose_left}
use Rattle.serve_loop.proofs.AskedLemmas.{asks_left}
use Rattle.serve_loop.proofs.AcceptLemmas.{suits_empty}
use Rattle.serve_loop.proofs.service.serve.Goals as goal

pub serve_on-served-requires-clause-listens : goal.serve_on-served-requires-clause-listens
serve_on-served-requires-clause-listens g c = c.requires.listens

pub serve_on-served-requires-clause-empty : goal.serve_on-served-requires-clause-empty
serve_on-served-requires-clause-empty g c = c.new-connections.ensures.len

pub serve_on-served-requires-clause-none : goal.serve_on-served-requires-clause-none
serve_on-served-requires-clause-none g c = c.new-connections.ensures.none

pub serve_on-served-requires-clause-suits : goal.serve_on-served-requires-clause-suits
serve_on-served-requires-clause-suits g c = suits_empty _ _ _ _ c.new-connections.ensures.none

pub close-requires-clause-distinct : goal.close-requires-clause-distinct
close-requires-clause-distinct g c = c.serve_on-served.ensures.suits.distinct

pub close-requires-clause-is_open : goal.close-requires-clause-is_open
close-requires-clause-is_open g c = c.serve_on-served.ensures.suits.is_open

pub returns-clause-alone : goal.returns-clause-alone
returns-clause-alone g c = alone_then _ _ _ c.serve_on-served.ensures.alone c.close.ensures.leaves.alone

pub returns-clause-older : goal.returns-clause-older
returns-clause-older g c =
    let s = some_history (g.C.Server.Serves.serving c.args.server.now) (g.met.C.Server.Serves.numbered c.args.server.now) in
    older_left _ _ s.0 _ _ _ _ _ _ _ _ c.close.ensures.leaves c.close.ensures.none
    (c.serve_on-served.ensures.carries s.0 _ _ (begins_at _ _ s.0 _ _ _ _ _ c.new-connections.ensures.len c.new-connections.ensures.none s.1))

pub returns-clause-prefixes : goal.returns-clause-prefixes
returns-clause-prefixes g c = λ first h. sentence_left _ g.met.C.Converses.begins _ _ _ _ _ _ _ _ _ _ c.close.ensures.leaves c.close.ensures.none
    (c.serve_on-served.ensures.carries first _ _ (begins_at _ _ first _ _ _ _ _ c.new-connections.ensures.len c.new-connections.ensures.none h))

pub returns-clause-whole : goal.returns-clause-whole
returns-clause-whole g c = IfOk-weaker c.serve_on-served.result _ _ (λ served f first h. whole_left _ g.met.C.Converses.begins g.met.C.Converses.whole _ _ _ _ served _ _ _ _ _ _ _ _ c.close.ensures.leaves c.close.ensures.none
    (f first _ _ (begins_at _ _ first _ _ _ _ _ c.new-connections.ensures.len c.new-connections.ensures.none h))) c.serve_on-served.ensures.serves

pub returns-clause-closed : goal.returns-clause-closed
returns-clause-closed g c =
    let s = some_history (g.C.Server.Serves.serving c.args.server.now) (g.met.C.Server.Serves.numbered c.args.server.now) in
    closed_left _ _ s.0 _ _ _ _ _ _ _ _ c.close.ensures.leaves c.close.ensures.none
    (c.serve_on-served.ensures.carries s.0 _ _ (begins_at _ _ s.0 _ _ _ _ _ c.new-connections.ensures.len c.new-connections.ensures.none s.1))

pub returns-clause-turns : goal.returns-clause-turns
returns-clause-turns g c = IfOk-weaker c.serve_on-served.result _ _ (λ served s. serves_left _ _ c.args.stop_after served.connections _ _ _ _ c.close.ensures.leaves s) c.serve_on-served.ensures.turns

pub returns-clause-fails : goal.returns-clause-fails
returns-clause-fails g c = IfErr-weaker c.serve_on-served.result _ _ (λ fault s. fails_left _ _ c.args.stop_after fault _ _ _ _ c.close.ensures.leaves s) c.serve_on-served.ensures.fails

pub returns-clause-asks : goal.returns-clause-asks
returns-clause-asks g c = asks_left _ _ _ _ _ _ _ _ c.close.ensures.leaves c.serve_on-served.ensures.asks

pub returns-clause-stops : goal.returns-clause-stops
returns-clause-stops g c = c.serve_on-served.ensures.stops

pub returns-clause-first : goal.returns-clause-first
returns-clause-first g c = c.serve_on-served.ensures.first

pub returns-clause-never : goal.returns-clause-never
returns-clause-never g c = c.serve_on-served.ensures.never

pub returns-clause-links : goal.returns-clause-links
returns-clause-links g c =
    let s = some_history (g.C.Server.Serves.serving c.args.server.now) (g.met.C.Server.Serves.numbered c.args.server.now) in
    IfOk-weaker c.serve_on-served.result _ _ (λ served f. subst (λ (n : ℕ). (g.W.Wire.state c.args.wire.now).given + served.connections ≤ n) (sym c.close.ensures.leaves.given)
    (links_given _ _ s.0 _ served _ _ _ _ (f s.0 _ _ (begins_at _ _ s.0 _ _ _ _ _ c.new-connections.ensures.len c.new-connections.ensures.none s.1)))) c.serve_on-served.ensures.serves

pub returns-clause-calm : goal.returns-clause-calm
returns-clause-calm g c = on_ok_weaker c.serve_on-served.result (λ calm. ap (λ d. d.faults) c.close.ensures.leaves.door ∙ calm) c.serve_on-served.ensures.calm

pub returns-clause-wire : goal.returns-clause-wire
returns-clause-wire g c = IfErr-weaker c.serve_on-served.result _ _ (λ fault w e. rose_left _ _ _ _ c.close.ensures.leaves (w e)) c.serve_on-served.ensures.wire

pub returns-clause-follows : goal.returns-clause-follows
returns-clause-follows g c = c.serve_on-served.ensures.follows

pub returns-clause-keeps : goal.returns-clause-keeps
returns-clause-keeps g c = c.serve_on-served.ensures.keeps

pub returns-clause-same : goal.returns-clause-same
returns-clause-same g c = c.serve_on-served.ensures.same
