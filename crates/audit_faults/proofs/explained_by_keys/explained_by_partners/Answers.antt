use Rattle.std.proofs.Common.{◌≡◌, ℕ, true, false, sym, ◌∙◌, subst, arith}
use Rattle.std.specs.Prelude.{Contains}
use Rattle.audit_model.specs.declared.sighting.Sighting.{Sighting}
use Rattle.audit_keys.specs.KeyFor.{key_for}
use Rattle.audit_sightings.specs.Intake.{taken}
use Rattle.audit_faults.specs.ArrivalKeys.{IsArrivalBy}
use Rattle.audit_faults.specs.Explains.{Explains}
use Rattle.audit_faults.specs.Keyed.{number_at}
use Rattle.audit_faults.proofs.Pairing.{none_at_all, none_at_first, none_past}
use Rattle.audit_faults.proofs.explained_by_keys.explained_by_partners.Goals as goal

pub partners-init : goal.partners-init
partners-init c = none_at_first (taken c.args.intake.now) (λ (s : Sighting). Explains (taken c.args.intake.now) (key_for c.args.credentials.now) c.args.fault s c.args.departure.now) c.args.arrivals.pairs.now c.args.key c.address_number-number.result

pub partners-preserved : goal.partners-preserved
partners-preserved c =
    let taken = taken c.args.intake.now in
    none_past taken (λ (s : Sighting). Explains taken (key_for c.args.credentials.now) c.args.fault s c.args.departure.now) c.args.arrivals.pairs.now c.args.key c.address_number-number.result
    c.partners.least c.in-Some.partner _ c.partners.invariant c.in-Some.ensures (omega arith)
    (λ s captured owned p. let k : true ≡ false = sym (c.explained_by-in-Some.ensures.all s captured (subst (λ (n : ℕ). IsArrivalBy taken.policy n s) (sym c.owned_key-owned.ensures) owned.1) p) ∙ c.if-explained_by.false in cc)

pub returns-clause-all : goal.returns-clause-all
returns-clause-all c partner arrival paired captured owned p =
    let taken = taken c.args.intake.now in
    let here : Contains c.args.arrivals.pairs.now (number_at c.address_number-number.result partner) = subst (λ (n : ℕ). Contains c.args.arrivals.pairs.now (number_at n partner)) (sym c.address_number-number.ensures) paired.1 in
    absurd (none_at_all taken (λ (s : Sighting). Explains taken (key_for c.args.credentials.now) c.args.fault s c.args.departure.now) c.args.arrivals.pairs.now c.args.key c.address_number-number.result c.partners.least partner c.partners.invariant
    (λ from has. c.in_default.ensures partner from paired.0 has) here arrival captured owned p)

pub returns-then-steps-eq0-clause-all : goal.returns-then-steps-eq0-clause-all
returns-then-steps-eq0-clause-all c partner arrival paired captured owned p = c.explained_by.ensures.all arrival captured owned.0 p
