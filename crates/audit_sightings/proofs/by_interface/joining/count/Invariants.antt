use Rattle.std.proofs.Common.{◌≡◌, ◌≤◌, take}
use Rattle.audit_sightings.specs.declared.by_interface.TheConstants.{MAX_SIGHTINGS}
use Rattle.audit_sightings.specs.ByInterface.{count_of}
use Rattle.audit_sightings.proofs.by_interface.joining.count.Given as goal

-- the sightings of the interfaces so far
abbrev pub invariant-interfaces : goal.invariant-interfaces
invariant-interfaces l = record {
  counted : l.count ≡ count_of (take l.interface-index l.interfaces);
  few : l.count ≤ MAX_SIGHTINGS;
}
