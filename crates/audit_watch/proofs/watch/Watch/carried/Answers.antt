use Rattle.std.proofs.Common.{◌≡◌, false, Bool, ap, ◌∙◌}
use Rattle.audit_model.specs.declared.sighting.SightId.{SightId}
use Rattle.audit_cuts.specs.Absolute.{absolute_cut}
use Rattle.audit_cuts.specs.Carried.{cut_in}
use Rattle.audit_cuts.specs.Rebasing.{bases_of}
use Rattle.audit_cuts.specs.declared.carried.Carried.{Carried}
use Rattle.audit_machine.specs.Carrying.{base_at}
use Rattle.audit_machine.specs.Machine.{cut_of}
use Rattle.audit_machine.proofs.Carried.{one_cut}
use Rattle.audit_watch.specs.Watch.{watch_cut}
use Rattle.audit_watch.proofs.Watching.{both_ok, more_bases}
use Rattle.audit_watch.proofs.watch.Watch.carried.Goals as goal

pub returns-clause-cut : goal.returns-clause-cut
returns-clause-cut c =
    let m = c.args.self.now.machine in
    let all = c.deref-2.result.now in
    both_ok c.carried.result (λ (kept : Carried). (excluded : SightId → Bool) → cut_in kept excluded ≡ cut_of m excluded) (λ (kept : Carried). bases_of kept.interfaces.items ≡ all)
    (λ (kept : Carried). absolute_cut kept (λ _. false) ≡ watch_cut c.args.self.now)
    (λ kept cut bases. one_cut all kept m bases cut (λ _. false) ∙ more_bases c.args.self.now.bases.items all m (λ iface. ap (λ l. base_at l iface) c.deref-2.ensures.value ∙ c.in_ok-bases.ensures iface ∙ ap (λ l. base_at l iface) c.deref.ensures.value)) c.carried.ensures.cut c.carried.ensures.bases
