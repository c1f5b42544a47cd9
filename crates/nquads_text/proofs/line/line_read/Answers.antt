use Rattle.std.proofs.Common.{◌≡◌, ap, ◌∙◌, Option, None, Some, true, not}
use Rattle.std.specs.Option.{option_map, is_some, MatchOption}
use Rattle.std.proofs.lemmas.Str.{IsUtf8-from_is_utf8}
use Rattle.nquads_text.specs.Views.{quad_view}
use Rattle.nquads_text.proofs.LineLaws.{form_written}
use Rattle.nquads_text.proofs.line.line_read.Goals as goal

there : {X : Type 0} (r : Option X) (P : Type 0) (Q : X → Type 0) → is_some r ≡ true → MatchOption r P Q → (x : X) × Q x
there None P Q e m = cc
there (Some x) P Q e m = (x, m)

pub quad_of-requires : goal.quad_of-requires
quad_of-requires c = form_written c.args.line.now (quad_view c.in-Some-Some.raw) (IsUtf8-from_is_utf8 c.args.line.now (there c.as_text.result _ _ (c.is_none.ensures ∙ ap not c.if-is_none.false) c.as_text.ensures).1.1) (c.in-Some-Some.ensures ∙ ap (λ o. Some (option_map quad_view o)) c.in-Some-Some.field-0-is)
