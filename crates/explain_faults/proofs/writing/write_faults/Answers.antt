use Rattle.std.proofs.Common.{◌≡◌, ◌∙◌, List, ap, subst, sym}
use Rattle.audit_faults.specs.declared.fault.ShownFault.{ShownFault}
use Rattle.audit_faults.specs.Shown.{AreFaults}
use Rattle.audit_keys.specs.KeyFor.{key_for}
use Rattle.audit_model.specs.Sink.{followed_by}
use Rattle.audit_sightings.specs.Intake.{taken}
use Rattle.explain_faults.specs.declared.reported.Reported.{Reported}
use Rattle.explain_faults.specs.FaultsText.{faults_text, status_of}
use Rattle.explain_faults.proofs.writing.write_faults.Goals as goal

pub returns : goal.returns
returns g c =
    let first = c.first_note-first.result.now in
    record {
      faults = c.in_ok-all.all.items;
      all = subst (λ (faults : List ShownFault). AreFaults (taken c.args.intake.now) (key_for c.args.users.now) faults) (sym (c.in_ok-all.ensures ∙ c.as_slice-found.ensures.value)) c.in_ok-faults.ensures.exact;
      first = first;
      written = subst (λ (faults : List Reported). g.O.Sink.taken c.report_faults.new.out ≡ followed_by (g.O.Sink.taken c.args.out.now) (faults_text (taken c.args.intake.now) first faults)) c.as_slice-reported.ensures.value c.in_ok-report_faults.ensures;
      are_written = c.status.ensures ∙ ap status_of c.as_slice-reported.ensures.value;
    }
