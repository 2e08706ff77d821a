use Rattle.std.proofs.Common.{take, map, None}
use Rattle.audit_sightings.specs.Intake.{taken}
use Rattle.audit_placement.specs.Entries.{arrival_of}
use Rattle.audit_placement.proofs.Turns.{InTurn}
use Rattle.audit_placement.proofs.events.drops_breach.Given as goal

-- what the drops so far show
abbrev pub invariant-drops : goal.invariant-drops
invariant-drops l = InTurn (taken l.intake) l.certificate l.fn.first l.first None l.lane (map arrival_of (take l.place l.drops)) l.least l.last
