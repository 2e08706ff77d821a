use Rattle.std.proofs.Common.{◌≡◌, ◌++◌, drop, map}
use Rattle.watch_checkpoint.specs.Content.{channel_entry}
use Rattle.watch_checkpoint.specs.Spelling.{lines_of}
use Rattle.watch_checkpoint.proofs.writing.add_channels.Given as goal

-- the lines so far and those to come are all
abbrev pub invariant-channels : goal.invariant-channels
invariant-channels l = l.text.items ++ lines_of (map channel_entry (drop l.number-index l.channels)) ≡ l.fn.text.items ++ lines_of (map channel_entry l.channels)
