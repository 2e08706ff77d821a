use Rattle.std.proofs.Common.{◌≡◌, sym, ◌∙◌, Bool, inl, inr}
use Rattle.std.proofs.lemmas.Result.{err_from_is_err_and}
use Rattle.audit_model.specs.declared.sighting.SightId.{SightId}
use Rattle.audit_cuts.specs.Carried.{cut_in}
use Rattle.audit_machine.specs.declared.machine.Machine.{Machine}
use Rattle.audit_machine.specs.Carrying.{AreOneCut, CanNotBeRebased, CanNotResume, IsCarriedOver}
use Rattle.audit_machine.specs.Machine.{cut_of}
use Rattle.audit_machine.proofs.Carried.{err_then, one_cut, ok_then}
use Rattle.audit_machine.proofs.machine.Machine.rebased.Goals as goal

pub returns-clause-cut : goal.returns-clause-cut
returns-clause-cut c =
    let before = c.in_ok-carried.carried in
    let kept = c.rebase.new.self in
    ok_then c.resume.result (λ (m : Machine). (excluded : SightId → Bool) → cut_of m excluded ≡ cut_in kept excluded) (λ (m : Machine). (excluded : SightId → Bool) → AreOneCut c.args.bases.now c.args.self.now c.args.others.now m excluded)
    (λ m same excluded. sym (one_cut c.args.others.now kept m c.in_ok-rebase.ensures.bases (λ x. sym (same x)) excluded) ∙ c.in_ok-rebase.ensures.cut excluded
    ∙ one_cut c.args.bases.now before c.args.self.now c.in_ok-carried.ensures.bases c.in_ok-carried.ensures.cut excluded)
    c.resume.ensures.cut

pub returns-in_err-rebase-clause-why : goal.returns-in_err-rebase-clause-why
returns-in_err-rebase-clause-why c =
    let before = c.in_ok-carried.carried in
    let bases = c.args.bases.now in
    let over : IsCarriedOver c.args.self.now bases bases before = (c.in_ok-carried.ensures.bases, λ excluded. one_cut bases before c.args.self.now c.in_ok-carried.ensures.bases c.in_ok-carried.ensures.cut excluded) in
    let result = err_from_is_err_and c.from_residual-in_err-rebase.result c.from_residual-in_err-rebase.ensures.1 in
    rw (result.1, result.2) (inr (inl (before, over, c.in_err-rebase.ensures.why)))

pub returns-clause-why : goal.returns-clause-why
returns-clause-why c =
    let before = c.in_ok-carried.carried in
    let kept = c.rebase.new.self in
    let bases = c.args.bases.now in
    let others = c.args.others.now in
    let over : IsCarriedOver c.args.self.now bases others kept =
    (c.in_ok-rebase.ensures.bases, λ excluded. c.in_ok-rebase.ensures.cut excluded ∙ one_cut bases before c.args.self.now c.in_ok-carried.ensures.bases c.in_ok-carried.ensures.cut excluded) in
    err_then c.resume.result (CanNotResume c.args.policy.grace kept) (CanNotBeRebased c.args.policy.grace c.args.self.now bases others) (λ error why. inr (inr (kept, over, why))) c.resume.ensures.why
