-- Each start page that comes is one more; the one that does not come is the last.
use Rattle.std.proofs.Common.{ℕ, ◌≡◌, ◌≤◌, ◌+◌, ◌<◌, ◌++◌, List, [], ◌∷◌, length, take, drop, sym, ap, subst, ◌∙◌, arith}
use Rattle.std.proofs.lemmas.List.{map-append, take_all}
use Rattle.tpf_base.specs.Addresses.{Address}
use Rattle.fragment_page.specs.declared.page.Page.{Page}
use Rattle.template_fill.specs.declared.form.Form.{Form}
use Rattle.tpf_client.specs.Starts.{HasStarts}
use Rattle.tpf_base.proofs.SendingLemmas.{allowed_same}
use Rattle.tpf_client.proofs.Several.{starts-none, starts-more, starts-fail, starts-lacking, split-at, more-at, behind-at, some-read}
use Rattle.tpf_client.proofs.Waiting.{allowed-then}
use Rattle.tpf_client.proofs.start.ask_starts.Goals as goal

pub loop-start-init : goal.loop-start-init
loop-start-init g c = record {
  so = ([], c.new-forms.ensures.items, c.new-versions.ensures.items, starts-none (g.W.Wire.allows c.args.wire.now) c.args.asks.now (g.W.Wire.state c.args.wire.now) c.requires.rest);
  allowed = allowed_same (g.W.Wire.allows c.args.wire.now);
}

pub ask_start-requires : goal.ask_start-requires
ask_start-requires g c = record { rest = c.loop-start.invariant.so.3.rest }

pub loop-start-preserved : goal.loop-start-preserved
loop-start-preserved g c =
    let i = c.loop-start.invariant in
    let n = c.loop-start.start-index in
    let start = c.start-item.result in
    let page = c.in-Ok.page in
    let s = c.in-Ok.ensures.starts in
    let below : n < length c.args.starts.now = omega arith in
    let home = (c.pages_keep_authority.ensures _ s.reply.body start page c.is_valid.ensures s.taken).form in
    let more = starts-more (g.W.Wire.allows c.args.wire.now) (g.W.Wire.allows c.loop-start.wire) i.allowed (take n c.args.starts.now) i.so.0 c.args.asks.now c.loop-start.asks c.ask_start.new.asks (g.W.Wire.state c.args.wire.now) (g.W.Wire.state c.loop-start.wire) (g.W.Wire.state c.ask_start.new.wire) i.so.3 start page s home in
    record {
      so = (
        i.so.0 ++ page ∷ [],
        c.in-Ok-note_page.ensures.forms ∙ (ap (λ (l : List Form). l ++ page.form ∷ []) i.so.1 ∙ sym (map-append (λ (p : Page). p.form) i.so.0 (page ∷ []))),
        c.in-Ok-note_page.ensures.versions ∙ (ap (λ l. l ++ page.version ∷ []) i.so.2 ∙ sym (map-append (λ (p : Page). p.version) i.so.0 (page ∷ []))),
        subst (λ (l : List Address). HasStarts (g.W.Wire.allows c.args.wire.now) l (i.so.0 ++ page ∷ []) c.args.asks.now c.ask_start.new.asks (g.W.Wire.state c.args.wire.now) (g.W.Wire.state c.ask_start.new.wire)) (more-at c.args.starts.now n start below c.start-item.is) more,
      );
      allowed = allowed-then (g.W.Wire.allows c.args.wire.now) (g.W.Wire.allows c.loop-start.wire) (g.W.Wire.allows c.ask_start.new.wire) i.allowed c.in-Ok.ensures.allowed;
    }

pub returns-in-Err-clause-starts : goal.returns-in-Err-clause-starts
returns-in-Err-clause-starts g c =
    let i = c.loop-start.invariant in
    let n = c.loop-start.start-index in
    let below : n < length c.args.starts.now = omega arith in
    starts-fail (g.W.Wire.allows c.args.wire.now) (g.W.Wire.allows c.loop-start.wire) i.allowed (take n c.args.starts.now) i.so.0 c.args.asks.now c.loop-start.asks c.ask_start.new.asks (g.W.Wire.state c.args.wire.now) (g.W.Wire.state c.loop-start.wire) (g.W.Wire.state c.ask_start.new.wire) i.so.3 c.start-item.result (drop (n + 1) c.args.starts.now) c.args.starts.now c.args.budget c.in-Err.fault (split-at c.args.starts.now n c.start-item.result below c.start-item.is) c.in-Err.ensures.starts

pub returns-in-Err-clause-allowed : goal.returns-in-Err-clause-allowed
returns-in-Err-clause-allowed g c = allowed-then (g.W.Wire.allows c.args.wire.now) (g.W.Wire.allows c.loop-start.wire) (g.W.Wire.allows c.ask_start.new.wire) c.loop-start.invariant.allowed c.in-Err.ensures.allowed

pub returns-in-Err-note_page-clause-starts : goal.returns-in-Err-note_page-clause-starts
returns-in-Err-note_page-clause-starts g c =
    let i = c.loop-start.invariant in
    let n = c.loop-start.start-index in
    let start = c.start-item.result in
    let page = c.in-Ok.page in
    let s = c.in-Ok.ensures.starts in
    let below : n < length c.args.starts.now = omega arith in
    let home = (c.pages_keep_authority.ensures _ s.reply.body start page c.is_valid.ensures s.taken).form in
    let more = starts-more (g.W.Wire.allows c.args.wire.now) (g.W.Wire.allows c.loop-start.wire) i.allowed (take n c.args.starts.now) i.so.0 c.args.asks.now c.loop-start.asks c.ask_start.new.asks (g.W.Wire.state c.args.wire.now) (g.W.Wire.state c.loop-start.wire) (g.W.Wire.state c.ask_start.new.wire) i.so.3 start page s home in
    starts-lacking (g.W.Wire.allows c.args.wire.now) (take n c.args.starts.now ++ start ∷ []) (i.so.0 ++ page ∷ []) (drop (n + 1) c.args.starts.now) c.args.starts.now c.args.budget c.args.asks.now c.ask_start.new.asks (g.W.Wire.state c.args.wire.now) (g.W.Wire.state c.ask_start.new.wire)
    (behind-at c.args.starts.now (n + 1) ∙ ap (λ (l : List Address). l ++ drop (n + 1) c.args.starts.now) (sym (more-at c.args.starts.now n start below c.start-item.is))) more

pub returns-in-Err-note_page-clause-allowed : goal.returns-in-Err-note_page-clause-allowed
returns-in-Err-note_page-clause-allowed g c = allowed-then (g.W.Wire.allows c.args.wire.now) (g.W.Wire.allows c.loop-start.wire) (g.W.Wire.allows c.ask_start.new.wire) c.loop-start.invariant.allowed c.in-Ok.ensures.allowed

-- all were read
whole : (starts : List Address) (n : ℕ) → length starts ≤ n → take n starts ≡ starts
whole starts n few = take_all n starts few

pub from_vec-requires : goal.from_vec-requires
from_vec-requires g c = let i = c.loop-start.invariant in some-read c.args.starts.now c.loop-start.start-index i.so.0 i.so.3.events c.loop-start.forms.items c.requires.some (omega arith) i.so.1 i.so.3.reads

pub returns-clause-starts : goal.returns-clause-starts
returns-clause-starts g c =
    let i = c.loop-start.invariant in
    (i.so.0, record { forms = c.from_vec.ensures ∙ i.so.1; versions = i.so.2 }, subst (λ (l : List Address). HasStarts (g.W.Wire.allows c.args.wire.now) l i.so.0 c.args.asks.now c.loop-start.asks (g.W.Wire.state c.args.wire.now) (g.W.Wire.state c.loop-start.wire)) (whole c.args.starts.now c.loop-start.start-index (omega arith)) i.so.3)

pub returns-clause-allowed : goal.returns-clause-allowed
returns-clause-allowed g c = c.loop-start.invariant.allowed
