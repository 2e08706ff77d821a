use Rattle.std.proofs.Common.{◌+◌, List, refl, sym, subst}
use Rattle.audit_keys.specs.KeyFor.{key_for}
use Rattle.audit_sightings.specs.Intake.{taken}
use Rattle.audit_faults.specs.declared.fault.ShownFault.{ShownFault}
use Rattle.audit_faults.specs.Shown.{AreFaultsBefore}
use Rattle.audit_faults.proofs.Listing.{more_none, more_one}
use Rattle.audit_faults.proofs.every.add_of_sighting.Goals as goal

pub returns-in_ok-push : goal.returns-in_ok-push
returns-in_ok-push c =
    let taken = taken c.args.intake.now in
    let key_for = key_for c.args.credentials.now in
    subst (λ (faults : List ShownFault). AreFaultsBefore taken key_for (record { iface = c.args.sight.iface; index = c.args.sight.index + 1 }) faults) (sym c.in_ok-push.ensures.items)
    (more_one taken key_for c.args.sight c.args.faults.now.items (record { sight = c.args.sight; fault = c.in-Some.fault; may_predate = c.may_predate-may_predate.result; granted = c.granted_when-granted.result; last = c.last_grant-last.result }) refl c.requires.so_far
    (c.in-Some.ensures.shown, c.in-Some.ensures.first, c.may_predate-may_predate.ensures, c.granted_when-granted.ensures, c.last_grant-last.ensures))

pub returns-in_default : goal.returns-in_default
returns-in_default c = more_none (taken c.args.intake.now) (key_for c.args.credentials.now) c.args.sight c.args.faults.now.items c.requires.so_far (c.in_default.ensures.none refl)
