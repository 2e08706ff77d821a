use Rattle.std.proofs.Common.{◌≡◌, ◌++◌, ◌+◌, ◌<◌, ℕ, [], List, length, get_or}
use Rattle.std.specs.Prelude.{IfNone}
use Rattle.std.specs.Vec.Iter.{into_iter_items, into_iter_len}
use Rattle.audit_sightings.specs.Files.{Fed, StandsFor}
use Rattle.audit_files.specs.Captures.{Took}
use Rattle.audit_files.proofs.SideBySide.{TookFirst}
use Rattle.audit_files.proofs.apart.all_joined.Given as goal

-- the intake has the captures up to the next one
abbrev pub invariant-readings : goal.invariant-readings
invariant-readings g l = record {
  policy : l.whole.policy ≡ l.fn.intake.policy;
  split : l.yielded ++ into_iter_items l.reading-iterator ≡ into_iter_items l.initial.reading-iterator;
  left : into_iter_len l.reading-iterator ≡ length (into_iter_items l.reading-iterator);
  fed : (texts : List (List ℕ)) (files : List Fed) → StandsFor l.fn.intake files → length texts ≡ length l.fn.readings.items
      → ((i : ℕ) (d : _) → i < length l.fn.readings.items → IfNone (get_or l.fn.readings.items i d).stop (Took (length files + i) (get_or texts i []) (get_or l.fn.readings.items i d).intake))
      → TookFirst files texts (length l.yielded) l.whole;
}
