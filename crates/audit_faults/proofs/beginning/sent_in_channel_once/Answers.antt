use Rattle.std.proofs.Common.{◌≡◌, ℕ, true, false, sym, subst}
use Rattle.audit_model.specs.declared.policy.Policy.{Policy}
use Rattle.audit_sightings.specs.Intake.{taken}
use Rattle.audit_faults.specs.declared.fault.Lease.TheVariants as leases
use Rattle.audit_faults.specs.Causes.{SentInChannel}
use Rattle.audit_faults.specs.Beginning.{WasWanted}
use Rattle.audit_faults.proofs.beginning.sent_in_channel_once.Goals as goal

pub returns-in_default : goal.returns-in_default
returns-in_default c = (
  λ h. absurd (let k : false ≡ true = h in cc),
  λ s. absurd (c.in_default.ensures.found s.0 (subst (λ (p : Policy). SentInChannel p s.0 c.args.arrival.now c.args.departure.now) (sym c.policy.ensures) s.1)),
)

pub returns-then-was_wanted : goal.returns-then-was_wanted
returns-then-was_wanted c =
    let found = c.in-Some.ensures.found in (
      λ t. (c.in-Some.number, subst (λ (p : Policy). SentInChannel p c.in-Some.number c.args.arrival.now c.args.departure.now) c.policy.ensures found, c.was_wanted.ensures.0 c.if-was_wanted.true, c.was_wanted-then-was_wanted.ensures.0 t),
      λ s.
          let e : s.0 ≡ c.in-Some.number = c.in-Some.ensures.only s.0 c.in-Some.number (subst (λ (p : Policy). SentInChannel p s.0 c.args.arrival.now c.args.departure.now) (sym c.policy.ensures) s.1) found in
          c.was_wanted-then-was_wanted.ensures.1 (subst (λ (n : ℕ). WasWanted (taken c.args.intake.now) c.args.fault c.args.left.now.hi c.args.arrival.now.from c.args.arrival.now.to (leases.Channel n c.args.departure.now.to)) e s.3),
    )
