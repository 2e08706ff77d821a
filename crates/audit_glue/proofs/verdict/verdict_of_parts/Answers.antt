use Rattle.std.proofs.Common.{◌≡◌, ℕ, List, None, subst, ◌∙◌, inr}
use Rattle.audit_model.specs.Least.{IsLeast}
use Rattle.audit_keys.specs.KeyFor.{key_for}
use Rattle.audit_lane.specs.Content.{Found}
use Rattle.audit_lane.specs.Concluded.{ConcludesTo}
use Rattle.audit_lane.proofs.InOrder.{in_order}
use Rattle.audit_placement.specs.Shows.{Shows}
use Rattle.audit_sightings.specs.Intake.{taken}
use Rattle.audit_sightings.specs.ByInterface.{count_of}
use Rattle.audit_verdict.specs.Verdicts.{IsVerdict}
use Rattle.audit_glue.proofs.Oks.{ok_more, if_ok, on_ok}
use Rattle.audit_glue.proofs.verdict.verdict_of_parts.Goals as goal

pub returns : goal.returns
returns c =
    let t = taken c.args.intake.now in
    let certificate = c.args.certificate.now in
    let key = key_for c.args.credentials.now in
    let job = c.in_ok-job.job in
    let fs = c.in_ok-findings.findings.items in
    let datagrams : c.datagrams.result ≡ count_of t.interfaces = c.datagrams.ensures ∙ if_ok c.in_ok-placement.field-0 c.in-Ok.placement (λ p. p.datagrams ≡ count_of t.interfaces) c.in-Ok.is c.in_ok-placement.ensures.datagrams in
    let passes : IsLeast (Shows t certificate) None = on_ok c.in_ok-placement.field-0 c.in-Ok.placement (IsLeast (Shows t certificate) None) c.in-Ok.is c.in_ok-placement.ensures.passes in
    ok_more c.conclude.result (ConcludesTo c.datagrams.result c.as_slice.result.now) (IsVerdict t key certificate)
    (λ v h. inr (record {
      placed = passes;
      job = job;
      is_job = c.in_ok-job.ensures;
      concluded = record {
        founds = fs;
        lanes = in_order job fs c.in_ok-findings.ensures;
        concludes = subst (λ (n : ℕ). ConcludesTo n fs v) datagrams (subst (λ (l : List Found). ConcludesTo c.datagrams.result l v) c.as_slice.ensures.value h);
      };
    }))
    c.conclude.ensures
