use Rattle.std.proofs.Common.{◌≡◌, ◌++◌, ◌∷◌, [], length, ◌∙◌, refl}
use Rattle.memory_outside.proofs.Shelves.{finds_file}
use Rattle.memory_outside.proofs.mem_shelf.MemShelfShelf.find.Goals as goal

pub returns-in-Ok-clause-finds : goal.returns-in-Ok-clause-finds
returns-in-Ok-clause-finds c =
    let found = c.in-Some.ensures.found in
    let number : c.len-number.result ≡ length c.args.self.now.opened.items = c.len-number.ensures ∙ c.args.self.now.opened.ok.0 in
    let noted : c.with-self.result.names ≡ c.args.self.now.asked.names ++ c.args.name.now ∷ [] = rw (c.with-self.ensures, c.as_bytes.ensures.value) refl in
    finds_file _ _ _ _ _ c.in-Some.which _ found.0 _ _ c.args.self.now.failures c.is_next_due.new.self _ refl c.in-Ok.ensures.items number
    (rw (← c.deref.ensures.value) found.1) (rw (← c.deref.ensures.value) found.2) noted c.is_next_due.ensures.counts
