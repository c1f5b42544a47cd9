-- What the bytes come to, and whether the link stays.
use Rattle.std.proofs.Common.{ℕ, ◌≡◌, ◌+◌, ◌==◌, ◌&&◌, List, length, Bool, true, false, Ok, refl, sym, ◌∙◌, ap, arith, if◌then◌else◌, Some}
use Rattle.std.proofs.lemmas.Bool.Decides.{nat_tests}
use Rattle.tpf_base.specs.HttpReply as reply
use Rattle.tpf_base.specs.HttpReply.{begun, is_open, after_bytes, reply_of}
use Rattle.http_wire.specs.declared.message.Reply.{Reply}
use Rattle.tpf_base.specs.Links.{WireState}
use Rattle.tpf_base.specs.Calls.{Closes}
use Rattle.exchange.specs.Exchanges.{Exchanging}
use Rattle.exchange.specs.Incoming.{Coming, concluded}
use Rattle.exchange.specs.Parts.{Concludes}
use Rattle.exchange.specs.declared.exchange.Standing.{Standing}
use Rattle.exchange.specs.declared.exchange.Standing.TheVariants.{Left, Over}

same_test : (n spare len : ℕ) → n + spare ≡ len → (spare == 0) ≡ (n == len)
same_test n spare len e = grind (arith, nat_tests)

stays_at : (stays : Bool) (x : Standing) → x ≡ (if stays then Left else Over) → x ≡ Left → stays ≡ true
stays_at true x e l = refl
stays_at false x e l = cc

closes_at : (stays : Bool) (x : Standing) → x ≡ (if stays then Left else Over) → x ≡ Over → stays ≡ false
closes_at true x e l = cc
closes_at false x e l = refl

standing_is : (ended stays keeps : Bool) (n spare len : ℕ) (x : Standing) → x ≡ (if stays then Left else Over) → stays ≡ keeps && (spare == 0)
    → (ended ≡ true → keeps ≡ false) → (ended ≡ false → n + spare ≡ len) → x ≡ (if keeps && (n == len) then Left else Over)
standing_is true stays keeps n spare len x e s none l =
    let f = none refl in
    e ∙ ap (λ (b : Bool). if b then Left else Over) (s ∙ ap (λ (b : Bool). b && (spare == 0)) f ∙ ap (λ (b : Bool). b && (n == len)) (sym f))
standing_is false stays keeps n spare len x e s none l = e ∙ ap (λ (b : Bool). if b then Left else Over) (s ∙ ap (λ (b : Bool). keeps && b) (same_test n spare len (l refl)))

pub conclude_whole : (k : ℕ) (w new : Exchanging) (i : Coming) (spare : ℕ) (ended stays : Bool) (answer : Reply) (b c : WireState) → w.received ≡ i.received → w.limit ≡ i.limit
    → i.place ≡ after_bytes i.limit begun i.received → is_open (after_bytes w.limit begun w.received) ≡ ended
    → ((n : ℕ) × (concluded i ≡ reply.Whole answer.body n answer.keeps) × (is_open i.place ≡ true → answer.keeps ≡ false))
    → ((body : List ℕ) (n : ℕ) (keeps : Bool) → reply_of i.received false i.limit ≡ reply.Whole body n keeps → n + spare ≡ length i.received)
    → new.standing ≡ (if stays then Left else Over) → (stays ≡ true → c ≡ b) → (stays ≡ false → Closes k b c) → stays ≡ answer.keeps && (spare == 0)
    → Concludes k ended w new b c (Some (Ok answer))
conclude_whole k w new i spare ended stays answer b c r l leads o whole behind standing left closes s =
    let here : is_open i.place ≡ ended =
    ap is_open leads ∙ ap (λ m. is_open (after_bytes m begun i.received)) (sym l) ∙ ap (λ x. is_open (after_bytes w.limit begun x)) (sym r) ∙ o in
    let at_i : reply_of i.received ended i.limit ≡ reply.Whole answer.body whole.0 answer.keeps = ap (λ x. reply_of i.received x i.limit) (sym here) ∙ whole.1 in
    let at_w : reply_of w.received ended w.limit ≡ reply.Whole answer.body whole.0 answer.keeps =
    ap (λ x. reply_of x ended w.limit) r ∙ ap (λ m. reply_of i.received ended m) l ∙ at_i in (
      whole.0,
      at_w,
      λ e. whole.2 (here ∙ e),
      standing_is ended stays answer.keeps whole.0 spare (length w.received) new.standing standing s (λ e. whole.2 (here ∙ e))
          (λ e. behind answer.body whole.0 answer.keeps (ap (λ x. reply_of i.received x i.limit) (sym e) ∙ at_i) ∙ ap length (sym r)),
      λ e. left (stays_at stays new.standing standing e),
      λ e. closes (closes_at stays new.standing standing e),
    )

pub whole_as : (i j : Coming) (answer : Reply) → j ≡ i → ((n : ℕ) × (concluded j ≡ reply.Whole answer.body n answer.keeps) × (is_open j.place ≡ true → answer.keeps ≡ false))
    → (n : ℕ) × (concluded i ≡ reply.Whole answer.body n answer.keeps) × (is_open i.place ≡ true → answer.keeps ≡ false)
whole_as i j answer e w = (w.0, ap concluded (sym e) ∙ w.1, λ o. w.2 (ap (λ c. is_open c.place) e ∙ o))
