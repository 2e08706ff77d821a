use Rattle.std.proofs.Common.{◌≡◌, ◌++◌, drop, map}
use Rattle.watch_checkpoint.specs.declared.entry.Entry.TheVariants as entry
use Rattle.watch_checkpoint.specs.Spelling.{lines_of}
use Rattle.watch_checkpoint.proofs.writing.add_waiting.Given as goal

-- the lines so far and those to come are all
abbrev pub invariant-waiting : goal.invariant-waiting
invariant-waiting l = l.text.items ++ lines_of (map entry.Waits (drop l.came-index l.waiting)) ≡ l.fn.text.items ++ lines_of (map entry.Waits l.waiting)
