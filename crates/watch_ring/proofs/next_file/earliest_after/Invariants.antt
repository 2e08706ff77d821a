use Rattle.watch_ring.proofs.Earliest.{EarliestBelow}
use Rattle.watch_ring.proofs.next_file.earliest_after.Given as goal

abbrev pub invariant-loop-file : goal.invariant-loop-file
invariant-loop-file l = EarliestBelow l.file-index l.files l.current l.found
