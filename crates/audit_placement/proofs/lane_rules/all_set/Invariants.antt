use Rattle.std.proofs.Common.{All, take}
use Rattle.std.specs.Prelude.{IsTrue}
use Rattle.audit_placement.proofs.lane_rules.all_set.Given as goal

-- the flags so far are set
abbrev pub invariant-flags : goal.invariant-flags
invariant-flags l = All IsTrue (take l.flag-index l.flags)
