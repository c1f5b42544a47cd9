-- What a connection means that gives back what it gets.
use Rattle.std.specs.Prelude.{◌≡◌, [], ◌++◌, ◌==◌, length, false, not}
use Rattle.connections.specs.Kinds.{Kind}
use Rattle.echo_server.specs.declared.echo.Echo.{Echo}

-- What was taken, is pending and is owed is what was fed. No head is read, so there are no marks.
abbrev pub echoes : {Data Settings : Type 0} → Kind Echo Data Settings
echoes = record {
  pending = λ c. c.pending.items;
  closing = λ c. false;
  wants = λ c. false;
  owes = λ c. not (length c.owed.items == 0);
  Answers = λ history config fed taken marks c. (taken ++ (c.pending.items ++ c.owed.items) ≡ fed) × (marks ≡ []);
  response = λ history config bytes marks. bytes;
  IsMarked = λ history config bytes marks. marks ≡ [];
  reloads = λ config bytes marks. [];
  closes = λ config bytes. false;
}
