use Rattle.std.proofs.Common.{◌≡◌, take}
use Rattle.std.specs.Prelude.{vec_len}
use Rattle.audit_keys.specs.KeyFor.{key_for}
use Rattle.audit_sightings.specs.Intake.{taken}
use Rattle.audit_live.specs.Turn.{Walks}
use Rattle.audit_live.proofs.lanes.LiveLanes.walk.Given as goal

-- the events so far are taken in
abbrev pub invariant-events : goal.invariant-events
invariant-events l = record {
  walks : Walks (taken l.intake) (key_for l.credentials) l.fn.self (take l.number-index l.events) l.self l.least;
  count : vec_len l.self.lanes ≡ vec_len l.fn.self.lanes;
}
