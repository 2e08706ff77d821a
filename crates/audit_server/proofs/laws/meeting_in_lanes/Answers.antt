use Rattle.audit_server.specs.Captured.{rules_of}
use Rattle.audit_server.proofs.Meeting.{meet_in_lanes, one_lane}
use Rattle.audit_server.proofs.laws.meeting_in_lanes.Goals as goal

pub returns : goal.returns
returns c = λ policy key_for sighting events run once. (one_lane (rules_of policy key_for sighting) events run once, meet_in_lanes events)
