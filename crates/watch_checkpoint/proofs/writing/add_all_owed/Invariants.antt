use Rattle.std.proofs.Common.{◌≡◌, ◌++◌, drop, map}
use Rattle.watch_checkpoint.specs.declared.entry.Entry.TheVariants as entry
use Rattle.watch_checkpoint.specs.Spelling.{lines_of}
use Rattle.watch_checkpoint.proofs.writing.add_all_owed.Given as goal

-- the lines so far and those to come are all
abbrev pub invariant-owed : goal.invariant-owed
invariant-owed l = l.text.items ++ lines_of (map entry.Owed (drop l.came-index l.owed)) ≡ l.fn.text.items ++ lines_of (map entry.Owed l.owed)
