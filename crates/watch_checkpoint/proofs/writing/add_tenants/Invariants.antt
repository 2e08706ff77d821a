use Rattle.std.proofs.Common.{◌≡◌, ◌++◌, drop}
use Rattle.watch_checkpoint.specs.Spelling.{clients_lines}
use Rattle.watch_checkpoint.proofs.writing.add_tenants.Given as goal

-- the lines so far and those to come are all
abbrev pub invariant-clients : goal.invariant-clients
invariant-clients l = l.text.items ++ clients_lines (drop l.client-index l.clients) ≡ l.fn.text.items ++ clients_lines l.clients
