use Rattle.std.proofs.Common.{ℕ, List, sym, ◌∙◌, subst}
use Rattle.audit_stun.specs.Parts.{parts_of}
use Rattle.audit_faults.specs.Keyed.{placed_as}
use Rattle.audit_faults.specs.Leased.{answer_key, HasSuccessKey}
use Rattle.audit_faults.proofs.Listed.{success_listed}
use Rattle.audit_faults.proofs.answers.add_success.Goals as goal

pub returns-clause-here : goal.returns-clause-here
returns-clause-here c key (leaves, message, has) =
    let s = c.args.sighting.now in
    let success : List ℕ = c.in-Some.success in
    success_listed s c.add_allocated.new.keyed.items success
    (c.in_ok-add_allocated.ensures.kept (placed_as (answer_key (parts_of success).method s.to (parts_of success).tid) s.id s) c.in_ok-add_answer.ensures.here)
    c.in_ok-add_allocated.ensures.begins c.in_ok-add_allocated.ensures.by_address key (subst (λ (p : List ℕ). HasSuccessKey s.to p key) (sym (c.in-Some.ensures.0 ∙ c.as_slice.ensures)) has)
