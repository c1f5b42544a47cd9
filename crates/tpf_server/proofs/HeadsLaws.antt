-- How the heads of more bytes stand behind those that were read.
use Rattle.std.proofs.Common.{◌≡◌, ℕ, zero, suc, ◌≤◌, Bool, true, false, List, [], ◌∷◌, ◌++◌, drop, length, refl, ap, sym, subst, ◌∙◌, arith, append_assoc, append-nil, if◌then◌else◌}
use Rattle.tpf_base.specs.HttpHeads.{Verdict, Accepted, Taken}
use Rattle.tpf_base.specs.HttpConnection.{Heads, heads_of, last_head, with_head, with_more}
use Rattle.http_wire.proofs.ConnectionLemmas.{heads_at, more_heads}
use Rattle.http_wire.proofs.StayLemmas.{taken_stays, taken_within}
use Rattle.template_fill.specs.Metadata.{Config}
use Rattle.tpf_server.specs.declared.reading.Reading.{Reading}
use Rattle.tpf_server.specs.declared.reading.Reading.TheVariants.{Reads, Waits, Ended}
use Rattle.tpf_server.specs.Reading.{is_ended}
use Rattle.tpf_server.specs.Read.{IsReload, Stands, heads_then}
use Rattle.tpf_server.proofs.Readings.{then_head}

then_more_at : (first heads : List Verdict) (unread piece : List ℕ) (closed : Bool)
    → with_more (heads_then first (record { heads = heads; unread = unread; closed = closed })) piece ≡ heads_then first (with_more (record { heads = heads; unread = unread; closed = closed }) piece)
then_more_at first heads unread piece true = refl
then_more_at first heads unread piece false =
    let more = heads_of (unread ++ piece) in
    ap (λ (l : List Verdict). record { heads = l; unread = more.unread; closed = more.closed }) (append_assoc first heads more.heads)

then_more : (first : List Verdict) (h : Heads) (piece : List ℕ) → with_more (heads_then first h) piece ≡ heads_then first (with_more h piece)
then_more first h piece = then_more_at first h.heads h.unread piece h.closed

then_then : (first more : List Verdict) (h : Heads) → heads_then first (heads_then more h) ≡ heads_then (first ++ more) h
then_then first more h = ap (λ (l : List Verdict). record { heads = l; unread = h.unread; closed = h.closed }) (sym (append_assoc first more h.heads))

pub heads_more : (first : List Verdict) (fed rest piece : List ℕ) → heads_of fed ≡ heads_then first (heads_of rest) → heads_of (fed ++ piece) ≡ heads_then first (heads_of (rest ++ piece))
heads_more first fed rest piece is =
    more_heads fed piece ∙ ap (λ (h : Heads). with_more h piece) is ∙ then_more first (heads_of rest) piece ∙ ap (heads_then first) (sym (more_heads rest piece))

pub stands_behind : (config : Config) (all whole : Heads) (first more : List Verdict) (reading : Reading) (unread : List ℕ) → whole ≡ heads_then first all → Stands config all more reading unread → Stands config whole (first ++ more) reading unread
stands_behind config all whole first more Reads unread is s = (is ∙ ap (heads_then first) s.0 ∙ then_then first more (heads_of unread), s.1)
stands_behind config all whole first more (Waits last) unread is s = (s.0, (is ∙ ap (heads_then first) s.1.0 ∙ then_then first more (heads_of s.0), s.1.1))
stands_behind config all whole first more Ended unread is s = is ∙ ap (heads_then first) s

-- what is kept is what was held, unless the heads ended
pub stands_kept : (config : Config) (all : Heads) (heads : List Verdict) (reading : Reading) (held kept : List ℕ) → (is_ended reading ≡ false → kept ≡ held) → Stands config all heads reading held → Stands config all heads reading kept
stands_kept config all heads Reads held kept same s = subst (Stands config all heads Reads) (sym (same refl)) s
stands_kept config all heads (Waits last) held kept same s = subst (Stands config all heads (Waits last)) (sym (same refl)) s
stands_kept config all heads Ended held kept same s = s

pub left_heads : (config : Config) (all : Heads) (heads : List Verdict) (reading : Reading) (unread : List ℕ) → Stands config all heads reading unread → (left : List Verdict) × (all.heads ≡ heads ++ left)
left_heads config all heads Reads unread s = ((heads_of unread).heads, ap (λ (h : Heads). h.heads) s.0)
left_heads config all heads (Waits last) unread s = ((heads_of s.0).heads, ap (λ (h : Heads). h.heads) s.1.0)
left_heads config all heads Ended unread s = ([], ap (λ (h : Heads). h.heads) s ∙ sym (append-nil heads))

pub reads_on : (config : Config) (fed unread piece : List ℕ) (first more : List Verdict) (old reading : Reading) (held : List ℕ) → old ≡ Reads → Stands config (heads_of fed) first old unread
    → Stands config (heads_of (unread ++ piece)) more reading held → Stands config (heads_of (fed ++ piece)) (first ++ more) reading held
reads_on config fed unread piece first more old reading held is s next =
    let there = subst (λ (r : Reading). Stands config (heads_of fed) first r unread) is s in
    stands_behind config (heads_of (unread ++ piece)) (heads_of (fed ++ piece)) first more reading held (heads_more first fed unread piece there.0) next

drop_behind : (n : ℕ) (xs ys : List ℕ) → n ≤ length xs → drop n (xs ++ ys) ≡ drop n xs ++ ys
drop_behind zero xs ys h = refl
drop_behind (suc n) [] ys h = absurd (omega arith)
drop_behind (suc n) (x ∷ xs) ys h = drop_behind n xs ys (omega arith)

reload_stays : (config : Config) (bytes piece unread : List ℕ) (last : Bool) → IsReload config bytes last unread → IsReload config (bytes ++ piece) last (unread ++ piece)
reload_stays config bytes piece unread last r = record {
  request = r.request;
  count = r.count;
  next = taken_stays bytes piece r.request r.count r.next;
  asks = r.asks;
  last = r.last;
  behind = ap (λ (l : List ℕ). l ++ piece) r.behind ∙ sym (drop_behind r.count bytes piece (taken_within bytes r.request r.count r.next).1);
}

pub waits_on : (config : Config) (fed unread piece : List ℕ) (first : List Verdict) (last : Bool) → Stands config (heads_of fed) first (Waits last) unread → Stands config (heads_of (fed ++ piece)) (first ++ []) (Waits last) (unread ++ piece)
waits_on config fed unread piece first last s =
    subst (λ (l : List Verdict). Stands config (heads_of (fed ++ piece)) l (Waits last) (unread ++ piece)) (sym (append-nil first))
    (s.0 ++ piece, (heads_more first fed s.0 piece s.1.0, reload_stays config s.0 piece unread last s.1.1))

pub ended_on : (config : Config) (fed unread piece : List ℕ) (first : List Verdict) → Stands config (heads_of fed) first Ended unread → Stands config (heads_of (fed ++ piece)) (first ++ []) Ended unread
ended_on config fed unread piece first s =
    subst (λ (l : List Verdict). Stands config (heads_of (fed ++ piece)) l Ended unread) (sym (append-nil first)) (more_heads fed piece ∙ ap (λ (h : Heads). with_more h piece) s)

-- ---- behind a reload request

reload_heads : (config : Config) (bytes unread : List ℕ) (last : Bool) (r : IsReload config bytes last unread) → heads_of bytes ≡ (if last then last_head (Accepted r.request) else with_head (Accepted r.request) (heads_of unread))
reload_heads config bytes unread last r =
    heads_at bytes (Taken r.request r.count) r.next
    ∙ ap (λ (l : List ℕ). if r.request.closes then last_head (Accepted r.request) else with_head (Accepted r.request) (heads_of l)) (sym r.behind)
    ∙ ap (λ (b : Bool). if b then last_head (Accepted r.request) else with_head (Accepted r.request) (heads_of unread)) r.last

pub reload_ends : (config : Config) (fed bytes unread : List ℕ) (first : List Verdict) (r : IsReload config bytes true unread) → heads_of fed ≡ heads_then first (heads_of bytes)
    → (kept : List ℕ) → Stands config (heads_of (fed ++ [])) (first ++ Accepted r.request ∷ []) Ended kept
reload_ends config fed bytes unread first r is kept = ap heads_of (append-nil fed) ∙ is ∙ ap (heads_then first) (reload_heads config bytes unread true r)

pub reload_goes : (config : Config) (fed bytes unread : List ℕ) (first more : List Verdict) (reading : Reading) (held : List ℕ) (r : IsReload config bytes false unread) → heads_of fed ≡ heads_then first (heads_of bytes)
    → Stands config (heads_of unread) more reading held → Stands config (heads_of (fed ++ [])) (first ++ (Accepted r.request ∷ more)) reading held
reload_goes config fed bytes unread first more reading held r is next =
    subst (λ (l : List Verdict). Stands config (heads_of (fed ++ [])) l reading held) (append_assoc first (Accepted r.request ∷ []) more)
    (stands_behind config (heads_of unread) (heads_of (fed ++ [])) (first ++ Accepted r.request ∷ []) more reading held
    (ap heads_of (append-nil fed) ∙ is ∙ ap (heads_then first) (reload_heads config bytes unread false r) ∙ then_head first (Accepted r.request) (heads_of unread)) next)
