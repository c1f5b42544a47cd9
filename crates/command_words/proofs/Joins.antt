-- Values given one after another.
use Rattle.std.proofs.Common.{◌≡◌, ◌∙◌, sym, ap, subst, refl, cond, Bool, true, false, ◌||◌, [], ◌∷◌, ◌++◌, Option, Some, None}
use Rattle.std.specs.Str.{bytes_eq}
use Rattle.std.proofs.lemmas.Slice.Eq.{bytes_eq-Decides}
use Rattle.command_words.specs.Words.{Text, Given, with_value, is_given}

pub same_name : (a b : Text) → bytes_eq a b ≡ true → a ≡ b
same_name a b e = (bytes_eq-Decides a b).0 e

pub own_name : (a : Text) → bytes_eq a a ≡ true
own_name a = (bytes_eq-Decides a a).1 refl

pub other_name : (a b : Text) → bytes_eq a b ≡ false → bytes_eq b a ≡ false
other_name a b e = go (bytes_eq b a) refl
  where
    go : (q : Bool) → bytes_eq b a ≡ q → q ≡ false
    go false f = refl
    go true f = let same : b ≡ a = same_name b a f in let own : bytes_eq a a ≡ false = subst (λ (x : Text). bytes_eq a x ≡ false) same e in sym (own_name a) ∙ own

-- values in front of what follows them
abbrev pub joined : Given → Option Given → Option Given
joined [] r = r
joined (g ∷ gs) r = with_value g.0 g.1 (joined gs r)

-- no name stands twice
abbrev pub Distinct : Given → Type 0
Distinct gs = joined gs (Some []) ≡ Some gs

pub joined_more : (gs : Given) (g : Text × Text) (r : Option Given) → joined (gs ++ g ∷ []) r ≡ joined gs (with_value g.0 g.1 r)
joined_more [] g r = refl
joined_more (x ∷ gs) g r = ap (with_value x.0 x.1) (joined_more gs g r)

pub joined_none : (gs : Given) → joined gs None ≡ None
joined_none [] = refl
joined_none (g ∷ gs) = ap (with_value g.0 g.1) (joined_none gs)

-- what stands behind a value that was put in front
pub record Behind (name value : Text) (r : Option Given) (all : Given) : Type 0 where
  pub rest : Given
  pub is_rest : r ≡ Some rest
  pub is_all : all ≡ (name, value) ∷ rest
  pub once : is_given name rest ≡ false

pub behind : (name value : Text) (r : Option Given) (all : Given) → with_value name value r ≡ Some all → Behind name value r all
behind name value None all e = absurd (cc)
behind name value (Some rest) all e = go (is_given name rest) refl e
  where
    go : (b : Bool) → is_given name rest ≡ b → cond b None (Some ((name, value) ∷ rest)) ≡ Some all → Behind name value (Some rest) all
    go true t e = absurd (cc)
    go false f e = record { rest = rest; is_rest = refl; is_all = cc; once = f }

-- a name that stands in front cannot come again
stays : (gs : Given) (name value : Text) (r : Option Given) (all : Given) → joined gs (with_value name value r) ≡ Some all → is_given name all ≡ true
stays [] name value r all e =
    let b = behind name value r all e in
    rw (b.is_all, own_name name) refl
stays (g ∷ gs) name value r all e =
    let b = behind g.0 g.1 (joined gs (with_value name value r)) all e in
    let more : is_given name b.rest ≡ true = stays gs name value r b.rest b.is_rest in
    rw (b.is_all, more) (or_true (bytes_eq g.0 name))
  where
    or_true : (p : Bool) → (p || true) ≡ true
    or_true true = refl
    or_true false = refl

pub twice : (gs : Given) (name value : Text) (r : Option Given) → is_given name gs ≡ true → joined gs (with_value name value r) ≡ None
twice [] name value r e = absurd (cc)
twice (g ∷ gs) name value r e = go (bytes_eq g.0 name) refl e (λ h. twice gs name value r h)
  where
    here : (o : Option Given) → joined gs (with_value name value r) ≡ o → g.0 ≡ name → with_value g.0 g.1 o ≡ None
    here None f same = refl
    here (Some all) f same = let among : is_given g.0 all ≡ true = subst (λ (n : Text). is_given n all ≡ true) (sym same) (stays gs name value r all f) in rw among refl

    go : (b : Bool) → bytes_eq g.0 name ≡ b → (b || is_given name gs) ≡ true → (is_given name gs ≡ true → joined gs (with_value name value r) ≡ None) → with_value g.0 g.1 (joined gs (with_value name value r)) ≡ None
    go true t h more = here (joined gs (with_value name value r)) refl (same_name g.0 name t)
    go false f h more = ap (with_value g.0 g.1) (more h)

given_more : (gs : Given) (g : Text × Text) (name : Text) → is_given name gs ≡ false → bytes_eq g.0 name ≡ false → is_given name (gs ++ g ∷ []) ≡ false
given_more [] g name e f = rw f refl
given_more (x ∷ gs) g name e f = go (bytes_eq x.0 name) e (λ h. given_more gs g name h f)
  where
    go : (b : Bool) → (b || is_given name gs) ≡ false → (is_given name gs ≡ false → is_given name (gs ++ g ∷ []) ≡ false) → (b || is_given name (gs ++ g ∷ [])) ≡ false
    go true h more = absurd (cc)
    go false h more = more h

pub one_more : (gs : Given) (g : Text × Text) → Distinct gs → is_given g.0 gs ≡ false → Distinct (gs ++ g ∷ [])
one_more [] g d e = refl
one_more (x ∷ gs) g d e =
    let b = behind x.0 x.1 (joined gs (Some [])) (x ∷ gs) d in
    let rest : gs ≡ b.rest = cc in
    let inner : Distinct gs = b.is_rest ∙ ap (λ (ys : Given). Some ys) (sym rest) in
    let once : is_given x.0 gs ≡ false = subst (λ (ys : Given). is_given x.0 ys ≡ false) (sym rest) b.once in
    go (bytes_eq x.0 g.0) refl e once (λ h. one_more gs g inner h)
  where
    go : (b : Bool) → bytes_eq x.0 g.0 ≡ b → (b || is_given g.0 gs) ≡ false → is_given x.0 gs ≡ false → (is_given g.0 gs ≡ false → Distinct (gs ++ g ∷ [])) → Distinct ((x ∷ gs) ++ g ∷ [])
    go true t h once more = absurd (cc)
    go false t h once more =
        let last : is_given x.0 (gs ++ g ∷ []) ≡ false = given_more gs g x.0 once (other_name x.0 g.0 t) in
        ap (with_value x.0 x.1) (more h) ∙ (rw last refl)
