use Rattle.std.proofs.Common.{◌≡◌, ◌++◌, drop}
use Rattle.watch_checkpoint.specs.Content.{numbered}
use Rattle.watch_checkpoint.specs.Spelling.{lines_of}
use Rattle.watch_checkpoint.proofs.writing.add_interfaces.Given as goal

-- the lines so far and those to come are all
abbrev pub invariant-interfaces : goal.invariant-interfaces
invariant-interfaces l = record {
  counted : l.number ≡ l.interface-index;
  lines : l.text.items ++ lines_of (numbered l.number (drop l.interface-index l.interfaces)) ≡ l.fn.text.items ++ lines_of (numbered 0 l.interfaces);
}
