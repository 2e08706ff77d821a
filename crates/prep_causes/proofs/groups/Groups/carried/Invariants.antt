use Rattle.std.proofs.Common.{◌≡◌, drop}
use Rattle.prep_causes.specs.Groups.{carried_with}
use Rattle.prep_causes.proofs.groups.Groups.carried.Given as goal

-- the departures so far with those of the groups to come are all of them
abbrev pub invariant-loop-group : goal.invariant-loop-group
invariant-loop-group l = carried_with l.carried l.reach (drop l.group-index l.self.groups.items) ≡ carried_with 0 l.reach l.self.groups.items
