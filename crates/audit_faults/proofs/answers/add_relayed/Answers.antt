use Rattle.std.proofs.Common.{◌≡◌, ℕ, None, Some, sym, ◌∙◌, subst}
use Rattle.std.specs.Prelude.{Contains}
use Rattle.std.proofs.lemmas.Option.{same_Some}
use Rattle.audit_model.specs.declared.address.Addr.{Addr}
use Rattle.audit_faults.specs.Keyed.{placed_as}
use Rattle.audit_faults.specs.Leased.{relayed_key}
use Rattle.audit_faults.proofs.answers.add_relayed.Goals as goal

pub returns-in_ok-add_key-clause-here : goal.returns-in_ok-add_key-clause-here
returns-in_ok-add_key-clause-here c relayed named =
    let s = c.args.sighting.now in
    let same : relayed ≡ c.in-Some.relayed = same_Some relayed c.in-Some.relayed (sym named ∙ sym c.in-Some.ensures) in
    subst (λ (a : Addr). Contains c.add_key.new.keyed.items (placed_as (relayed_key s.to a) s.id s)) (sym same)
    (subst (λ (k : ℕ). Contains c.add_key.new.keyed.items (placed_as k s.id s)) c.relayed_key.ensures c.in_ok-add_key.ensures.here)

pub returns-in_default-clause-here : goal.returns-in_default-clause-here
returns-in_default-clause-here c relayed named = absurd (let k : Some relayed ≡ None = sym named ∙ sym c.in_default.ensures in cc)
