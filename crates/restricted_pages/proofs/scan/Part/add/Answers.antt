use Rattle.std.proofs.Common.{List, All, refl, sym, subst}
use Rattle.std.proofs.lemmas.List.Elements.{All-push}
use Rattle.triple_table.specs.declared.ids.IdTriple.{IdTriple}
use Rattle.triple_table.specs.Stored.{IsIdTriple}
use Rattle.restricted_pages.proofs.Walks.{full, passed, some_room, taken}
use Rattle.restricted_pages.proofs.scan.Part.add.Goals as goal

pub returns-then-self-gt0 : goal.returns-then-self-gt0
returns-then-self-gt0 c = record {
  counts = refl;
  ids = λ terms held id. held;
  fills = λ terms next. passed terms c.args.self.now.before c.args.self.now.room c.args.self.now.triples.items c.args.triple next c.if-self-gt0.true;
}

pub returns-then-self-eq0 : goal.returns-then-self-eq0
returns-then-self-eq0 c = record {
  counts = refl;
  ids = λ terms held id. held;
  fills = λ terms next. full terms c.args.self.now.before c.args.self.now.room c.args.self.now.triples.items c.args.triple next c.if-self-eq0.true;
}

pub returns : goal.returns
returns c = record {
  counts = refl;
  ids = λ terms held id. subst (λ (ids : List IdTriple). All (IsIdTriple terms) ids) (sym c.in_ok-push.ensures.items) (All-push (IsIdTriple terms) c.args.self.now.triples.items c.args.triple held id);
  fills = λ terms next. taken terms c.args.self.now.before c.args.self.now.room c.args.self.now.triples.items c.push.new.self.items c.args.triple next c.if-self-gt0.false (some_room c.args.self.now.room c.if-self-eq0.false) c.in_ok-push.ensures.items;
}
