use Rattle.std.proofs.Common.{List, arith, rules}
use Rattle.std.proofs.lemmas.List.Elements.{All-weaker}
use Rattle.audit_model.specs.declared.certificate.Certificate.{Certificate}
use Rattle.audit_keys.specs.KeyFor.{key_for}
use Rattle.audit_sightings.specs.Intake.{taken}
use Rattle.audit_server.specs.Step.{Step}
use Rattle.audit_whole.specs.CaptureRun.{rules_for, IsCaptureRun}
use Rattle.audit_whole.specs.Conforms.{Conforms}
use Rattle.audit_faults.specs.Shown.{IsFirstFault}
use Rattle.audit_faults.proofs.Listing.{all_done}
use Rattle.audit_faults.proofs.every.shown_faults.Goals as goal

pub returns-clause-exact : goal.returns-clause-exact
returns-clause-exact c = all_done (taken c.args.intake.now) (key_for c.args.credentials.now) c.interfaces.iface c.interfaces.faults.items (omega arith) c.interfaces.invariant

pub returns-clause-no_run : goal.returns-clause-no_run
returns-clause-no_run c =
    let taken = taken c.args.intake.now in
    let key_for = key_for c.args.credentials.now in
    All-weaker (IsFirstFault taken key_for) (λ shown. (steps : List Step) → IsCaptureRun taken (rules_for taken key_for) steps → ⊥)
    (λ shown first. c.fault_excludes.ensures taken key_for shown.fault shown.sight first.0) c.interfaces.faults.items c.interfaces.invariant.each

pub returns-clause-no_certificate : goal.returns-clause-no_certificate
returns-clause-no_certificate c =
    let taken = taken c.args.intake.now in
    let key_for = key_for c.args.credentials.now in
    All-weaker (IsFirstFault taken key_for) (λ shown. (certificate : Certificate) → Conforms taken (rules_for taken key_for) certificate → ⊥)
    (λ shown first certificate k. c.fault_excludes.ensures taken key_for shown.fault shown.sight first.0 _ k.run) c.interfaces.faults.items c.interfaces.invariant.each

pub add_of_interface-requires-clause-arrivals : goal.add_of_interface-requires-clause-arrivals
add_of_interface-requires-clause-arrivals c = record {
  keyed = rw (c.by_key-by_key.ensures.places, c.by_key-by_key.ensures.width) c.in_ok-kept_arrivals.ensures;
  repeats = rw c.as_slice-repeats.ensures.value c.in_ok-repeats_kept.ensures;
  blocks = rw c.as_slice-blocks.ensures.value c.in_ok-blocks_kept.ensures;
  pairs = rw c.as_slice-pairs.ensures.value c.in_ok-pairs_kept.ensures;
}

pub add_of_interface-requires-clause-index : goal.add_of_interface-requires-clause-index
add_of_interface-requires-clause-index c = record {
  reach = search rules;
  leases = search rules;
  arrivals = record {
    keyed = rw (c.by_key-by_key.ensures.places, c.by_key-by_key.ensures.width) c.in_ok-kept_arrivals.ensures;
    repeats = rw c.as_slice-repeats.ensures.value c.in_ok-repeats_kept.ensures;
    blocks = rw c.as_slice-blocks.ensures.value c.in_ok-blocks_kept.ensures;
    pairs = rw c.as_slice-pairs.ensures.value c.in_ok-pairs_kept.ensures;
  };
}

pub blocks_of-requires : goal.blocks_of-requires
blocks_of-requires c = rw c.as_slice-repeats.ensures.value c.in_ok-repeats_kept.ensures
