use Rattle.std.proofs.Common.{◌≡◌, ◌++◌, take}
use Rattle.std.specs.List.{flat_map}
use Rattle.audit_cert.specs.Spelling.{event_line}
use Rattle.audit_cert.proofs.piece_texts.add_events.Given as goal

-- the lines so far were added
abbrev pub invariant-events : goal.invariant-events
invariant-events l = l.text.items ≡ l.fn.text.items ++ flat_map event_line (take l.event-index l.events)
