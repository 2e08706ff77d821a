use Rattle.std.proofs.Common.{◌≡◌, ◌≤◌, ◌+◌, ℕ, Bool, List, [], ◌∷◌, length, take, get_or, sym, ◌∙◌, ap, subst, arith}
use Rattle.std.proofs.Math.Seq.{take-length}
use Rattle.std.proofs.lemmas.List.{take_more}
use Rattle.audit_keys.specs.KeyFor.{key_for}
use Rattle.audit_model.specs.declared.policy.Policy.{Policy}
use Rattle.audit_model.specs.declared.sighting.SightId.{SightId}
use Rattle.audit_sightings.specs.Intake.{taken, sighting_at}
use Rattle.audit_segments.specs.Cut.{Cut}
use Rattle.audit_segments.specs.Segment.{IsSegment}
use Rattle.audit_machine.specs.declared.moves.Action.{Action}
use Rattle.audit_machine.specs.declared.moves.Action.TheVariants.{Arrive}
use Rattle.audit_machine.specs.Machine.{cut_of}
use Rattle.audit_machine.specs.Moves.{step_of, steps_of, NamesIncluded, LeadsTo}
use Rattle.audit_machine.proofs.Lists.{leads_on}
use Rattle.audit_machine.proofs.machine.Machine.apply_all.Goals as goal

pub actions-preserved : goal.actions-preserved
actions-preserved c =
    let xs = c.args.actions.now in
    let i = c.actions.place in
    let none : Action = Arrive (record { iface = 0; index = 0 }) 0 in
    let x : Action = get_or xs i none in
    let view = sighting_at (taken c.args.intake.now) in
    let keys = key_for c.args.credentials.now in
    record {
      leads = leads_on c.args.self.now.policy keys view (cut_of c.args.self.now) (cut_of c.actions.self) (cut_of c.apply.new.self) (take i xs) (take (i + 1) xs) x (take_more xs i none c.actions-test.true) c.actions.invariant.leads
          (subst (λ (p : Policy). (excluded : SightId → Bool) → NamesIncluded excluded x → IsSegment p keys view (cut_of c.actions.self excluded) (step_of x ∷ []) (cut_of c.apply.new.self excluded)) c.actions.invariant.policy c.in_default.ensures.segment);
      consistent = c.in_default.ensures.consistent;
      policy = c.apply.ensures.policy ∙ c.actions.invariant.policy;
    }

pub returns-in-Err-clause-refused : goal.returns-in-Err-clause-refused
returns-in-Err-clause-refused c harmless =
    let xs = take c.actions.place c.args.actions.now in
    let still = c.in-Err.ensures.refused harmless in (
      λ excluded free. subst (λ (cut : Cut). IsSegment c.args.self.now.policy (key_for c.args.credentials.now) (sighting_at (taken c.args.intake.now)) (cut_of c.args.self.now excluded) (steps_of xs) cut) (sym (still.cut excluded)) (c.actions.invariant.leads excluded free),
      still.consistent,
      still.policy ∙ c.actions.invariant.policy,
    )

all_taken : (xs : List Action) (i : ℕ) → length xs ≤ i → i ≤ length xs → take i xs ≡ xs
all_taken xs i h k = let e : i ≡ length xs = omega (arith, h, k) in ap (λ n. take n xs) e ∙ take-length xs

pub returns-clause-segment : goal.returns-clause-segment
returns-clause-segment c =
    subst (λ (xs : List Action). LeadsTo c.args.self.now.policy (key_for c.args.credentials.now) (sighting_at (taken c.args.intake.now)) (cut_of c.args.self.now) (cut_of c.actions.self) xs)
    (all_taken c.args.actions.now c.actions.place c.actions-test.false c.actions.auto.place-end) c.actions.invariant.leads
