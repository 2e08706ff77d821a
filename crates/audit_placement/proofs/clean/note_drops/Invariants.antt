use Rattle.std.proofs.Common.{take, None, map}
use Rattle.audit_sightings.specs.Intake.{taken}
use Rattle.audit_placement.specs.Entries.{arrival_of}
use Rattle.audit_placement.specs.Keys.{key_at}
use Rattle.audit_placement.proofs.CleanTurns.{CleanTurn}
use Rattle.audit_placement.proofs.clean.note_drops.Given as goal

-- the drops so far are clean
abbrev pub invariant-drops : goal.invariant-drops
invariant-drops l = CleanTurn (taken l.intake) (key_at l.fn.keys) (key_at l.keys) None (map arrival_of (take l.dropped-index l.drops)) l.last
