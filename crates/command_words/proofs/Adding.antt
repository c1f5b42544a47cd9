-- An argument that is given to a command, by what it is.
use Rattle.std.proofs.Common.{◌≡◌, ◌∙◌, sym, ap, map, false, Some, Result}
use Rattle.std.specs.Prelude.{IfOk}
use Rattle.std.specs.Borrow.{Bor}
use Rattle.std.proofs.lemmas.Result.{IfOk-weaker}
use Rattle.clap.specs.declared.builder.command.Command.{Command}
use Rattle.clap.specs.declared.builder.arg.Arg.{Arg}
use Rattle.clap.specs.declared.builder.ArgAction.TheVariants.{Set, SetTrue}
use Rattle.clap.specs.Walk.{rule_of as rule_in}
use Rattle.clap.specs.Words.{AddsArg, App, Rule, app_of, new_rule, with_rule}
use Rattle.command_words.specs.declared.arguments.Role.{Role}
use Rattle.command_words.specs.declared.arguments.Role.TheVariants as roles
use Rattle.command_words.specs.Apps.{app_of_form, bare_app, rule_of, with_rules}
use Rattle.command_words.specs.Words.{Form, Text}

module _ {E : Type 0} (r : Result Command E) where
  adds : (old : Command) (a : Arg) (role role' : Role) (name : Text) → role ≡ role' → a.global ≡ false → rule_in a ≡ rule_of role' name → IfOk r (λ c. AddsArg old a c) → IfOk r (λ c. app_of c ≡ with_rule (app_of old) (rule_of role name))
  adds old a role role' name is g e h = IfOk-weaker r (λ c. AddsArg old a c) (λ c. app_of c ≡ with_rule (app_of old) (rule_of role name)) (λ c s. s.shape g ∙ ap (λ (rule : Rule). with_rule (app_of old) rule) (e ∙ ap (λ (role : Role). rule_of role name) (sym is))) h

  module _ (old : Command) (role : Role) (id : Bor Text) (new a : Arg) (rule : rule_in new ≡ new_rule id.now) (g : new.global ≡ false) where
    pub adds_positional : role ≡ roles.Positional → a ≡ record new { action = Some Set } → IfOk r (λ c. AddsArg old a c) → IfOk r (λ c. app_of c ≡ with_rule (app_of old) (rule_of role id.now))
    adds_positional is e h = adds old a role roles.Positional id.now is (ap (λ (x : Arg). x.global) e ∙ g) (ap rule_in e ∙ ap (λ (x : Rule). record x { action = Some Set }) rule) h

    pub adds_option : (long : Arg) → role ≡ roles.Option → long ≡ record new { long = Some id } → a ≡ record long { action = Some Set } → IfOk r (λ c. AddsArg old a c) → IfOk r (λ c. app_of c ≡ with_rule (app_of old) (rule_of role id.now))
    adds_option long is l e h =
        adds old a role roles.Option id.now is (ap (λ (x : Arg). x.global) (e ∙ ap (λ (x : Arg). record x { action = Some Set }) l) ∙ g)
        (ap rule_in (e ∙ ap (λ (x : Arg). record x { action = Some Set }) l) ∙ ap (λ (x : Rule). record x { long = Some id.now; action = Some Set }) rule) h

    pub adds_flag : (long : Arg) → role ≡ roles.Flag → long ≡ record new { long = Some id } → a ≡ record long { action = Some SetTrue } → IfOk r (λ c. AddsArg old a c) → IfOk r (λ c. app_of c ≡ with_rule (app_of old) (rule_of role id.now))
    adds_flag long is l e h =
        adds old a role roles.Flag id.now is (ap (λ (x : Arg). x.global) (e ∙ ap (λ (x : Arg). record x { action = Some SetTrue }) l) ∙ g)
        (ap rule_in (e ∙ ap (λ (x : Arg). record x { action = Some SetTrue }) l) ∙ ap (λ (x : Rule). record x { long = Some id.now; action = Some SetTrue }) rule) h

  -- the three kinds of arguments, one after another
  pub formed : (bare one two : App) (form : Form) → bare ≡ bare_app → one ≡ with_rules bare (map (rule_of roles.Positional) form.positionals) → two ≡ with_rules one (map (rule_of roles.Option) form.options) → IfOk r (λ c. app_of c ≡ with_rules two (map (rule_of roles.Flag) form.flags)) → IfOk r (λ c. app_of c ≡ app_of_form form)
  formed bare one two form e f g h =
      IfOk-weaker r (λ c. app_of c ≡ with_rules two (map (rule_of roles.Flag) form.flags)) (λ c. app_of c ≡ app_of_form form)
      (λ c s. s ∙ ap (λ (app : App). with_rules app (map (rule_of roles.Flag) form.flags)) (g ∙ ap (λ (app : App). with_rules app (map (rule_of roles.Option) form.options)) (f ∙ ap (λ (app : App). with_rules app (map (rule_of roles.Positional) form.positionals)) e))) h
