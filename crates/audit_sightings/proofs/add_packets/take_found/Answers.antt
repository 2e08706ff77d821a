use Rattle.std.proofs.Common.{ℕ, ◌+◌, ◌*◌, length, refl, ap, subst, ◌∙◌, Some, None, Ok, Err}
use Rattle.std.specs.Prelude.{OnOk}
use Rattle.audit_sightings.specs.ByInterface.{of_interface, Adds}
use Rattle.audit_sightings.specs.Sightings.{sighting_of}
use Rattle.audit_sightings.specs.Stretch.{owned}
use Rattle.std.proofs.lemmas.Result.{on_ok_weaker}
use Rattle.audit_pcapng.specs.Packets.{packet_of}
use Rattle.audit_sightings.proofs.AddPacketsSteps.{TakesIn-other, TakesIn-kept}
use Rattle.audit_sightings.proofs.Refusing.{refused_unowned, refused_by_limit, found_as}
use Rattle.audit_sightings.proofs.add_packets.take_found.Goals as goal

pub returns-in-Err-clause-err : goal.returns-in-Err-clause-err
returns-in-Err-clause-err c =
    refused_unowned c.args.policy.now c.args.interfaces.now (packet_of c.args.packet) c.in-Err.fault (found_as c.args.policy.now (packet_of c.args.packet) c.args.found (Err c.in-Err.fault) c.requires.found c.in-Err.is)

pub returns-in_default-clause-ok : goal.returns-in_default-clause-ok
returns-in_default-clause-ok c =
    TakesIn-other c.args.policy.now c.args.interfaces.now c.args.file (packet_of c.args.packet)
    (found_as c.args.policy.now (packet_of c.args.packet) c.args.found (Ok None) c.requires.found (c.in-Ok.is ∙ ap Ok c.in_default.is))

pub returns-clause-ok : goal.returns-clause-ok
returns-clause-ok c =
    let found = found_as c.args.policy.now (packet_of c.args.packet) c.args.found (Ok (Some c.in-Some.kept)) c.requires.found (c.in-Ok.is ∙ ap Ok c.in-Some.is) in
    let iface = 64 * c.args.file + c.args.packet.iface in
    on_ok_weaker c.push.result
    (TakesIn-kept c.args.policy.now c.args.interfaces.now c.push.new.self c.args.file (64 * c.args.file + c.args.packet.iface) (packet_of c.args.packet) (owned c.in-Some.kept) found c.if-packet-ge-INTERFACES_OF_FILE.false refl)
    (subst (λ (skew : ℕ). OnOk c.push.result (Adds c.args.interfaces.now iface (sighting_of skew iface (length (of_interface c.args.interfaces.now iface)) (owned c.in-Some.kept)) c.push.new.self)) c.skew_for.ensures c.push.ensures.ok)

pub returns-clause-err : goal.returns-clause-err
returns-clause-err c =
    let found = found_as c.args.policy.now (packet_of c.args.packet) c.args.found (Ok (Some c.in-Some.kept)) c.requires.found (c.in-Ok.is ∙ ap Ok c.in-Some.is) in
    refused_by_limit c.args.policy.now c.args.interfaces.now (packet_of c.args.packet) (owned c.in-Some.kept) c.push.result found c.push.ensures.refused
