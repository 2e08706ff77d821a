use Rattle.std.proofs.Common.{◌≡◌, ℕ, List, true, false, sym, ◌∙◌, subst}
use Rattle.audit_stun.specs.Parts.{parts_of}
use Rattle.audit_faults.specs.Keyed.{placed_as}
use Rattle.audit_stun.specs.declared.class.Class.TheVariants.{Request}
use Rattle.audit_faults.specs.Leased.{allocate_key, permission_key, Answers, HasRequestKey, IsLeaseMessage}
use Rattle.audit_faults.proofs.Leasing.{request_message}
use Rattle.audit_faults.proofs.Listed.{request_listed}
use Rattle.audit_faults.proofs.requests.add_request.Goals as goal

pub returns-in_default-clause-here : goal.returns-in_default-clause-here
returns-in_default-clause-here c key (arrives, has, answered) = absurd (c.in_default.ensures (subst (λ (p : List ℕ). IsLeaseMessage Request p) (sym c.as_slice.ensures) (request_message c.args.sighting.now.from c.args.sighting.now.payload key has)))

pub returns-then-not-is_answered-clause-here : goal.returns-then-not-is_answered-clause-here
returns-then-not-is_answered-clause-here c key (arrives, has, (success, captured, answers)) =
    let answers' : Answers c.args.sighting.now.from c.in-Some.request success = subst (λ (p : List ℕ). Answers c.args.sighting.now.from p success) (sym (c.in-Some.ensures.0 ∙ c.as_slice.ensures)) answers in
    absurd (let k : true ≡ false = sym (c.is_answered.ensures success captured answers') ∙ c.if-not-is_answered.true in cc)

pub returns-clause-here : goal.returns-clause-here
returns-clause-here c key (arrives, has, answered) =
    let s = c.args.sighting.now in
    let request : List ℕ = c.in-Some.request in
    request_listed s c.add_bound.new.keyed.items request
    (λ m. c.in_ok-add_bound.ensures.kept (placed_as (allocate_key s.from (parts_of request).tid) s.id s) (c.in_ok-add_permissions.ensures.kept (placed_as (allocate_key s.from (parts_of request).tid) s.id s) (c.in_ok-add_allocate.ensures.here m)))
    (λ ip h. c.in_ok-add_bound.ensures.kept (placed_as (permission_key s.from ip) s.id s) (c.in_ok-add_permissions.ensures.here ip h))
    c.in_ok-add_bound.ensures.permission c.in_ok-add_bound.ensures.channel key (subst (λ (p : List ℕ). HasRequestKey s.from p key) (sym (c.in-Some.ensures.0 ∙ c.as_slice.ensures)) has)
