use Rattle.std.proofs.Common.{◌≡◌, ◌++◌, drop, map}
use Rattle.watch_checkpoint.specs.Content.{permission_entry}
use Rattle.watch_checkpoint.specs.Spelling.{lines_of}
use Rattle.watch_checkpoint.proofs.writing.add_permissions.Given as goal

-- the lines so far and those to come are all
abbrev pub invariant-permissions : goal.invariant-permissions
invariant-permissions l = l.text.items ++ lines_of (map permission_entry (drop l.ip-index l.permissions)) ≡ l.fn.text.items ++ lines_of (map permission_entry l.permissions)
