-- A sighting that an index excludes explains nothing.
use Rattle.std.specs.Prelude.{IfSome}
use Rattle.audit_sightings.specs.Intake.{Taken}
use Rattle.audit_faults.specs.declared.index.Index.{Index}
use Rattle.audit_faults.specs.ArrivalKeys.{AreArrivalsByKey}
use Rattle.audit_faults.specs.Leased.{AreLeases}
use Rattle.audit_faults.specs.Pairs.{ArePairs}
use Rattle.audit_faults.specs.Reach.{AreExtents}
use Rattle.audit_faults.specs.RepeatBlocks.{AreBlocks}
use Rattle.audit_faults.specs.Repeats.{AreRepeats}
use Rattle.audit_faults.specs.declared.repeats.Arrivals.{Arrivals}

-- the arrivals are listed by what they request, those marked as repeats are repeats, and the
-- clients are listed with their relayed addresses
pub record AreArrivals (taken : Taken) (arrivals : Arrivals) : Type 0 where
  pub keyed : AreArrivalsByKey taken arrivals.by_key
  pub repeats : AreRepeats taken arrivals.by_key.places.now arrivals.repeats.now
  pub blocks : AreBlocks taken arrivals.by_key.places.now arrivals.blocks.now
  pub pairs : ArePairs taken arrivals.pairs.now

-- its moments, leases and arrivals are right
pub record IsIndex (taken : Taken) (index : Index) : Type 0 where
  pub reach : AreExtents taken index.extents.now
  pub leases : IfSome index.leases (AreLeases taken)
  pub arrivals : IfSome index.arrivals (AreArrivals taken)
