use Rattle.std.proofs.Common.{◌≡◌, inl, inr, ℕ, sym, ◌∙◌, ap, subst}
use Rattle.std.specs.Prelude.{Contains}
use Rattle.audit_faults.specs.ArrivalKeys.{owned_key}
use Rattle.audit_faults.specs.Keyed.{placed_as}
use Rattle.audit_faults.proofs.arrival_keys.add_data.Goals as goal

pub returns-clause-here : goal.returns-clause-here
returns-clause-here c key either =
    let s = c.args.sighting.now in
    elim either [
      | inl k ↦ c.in_ok-add_key-2.ensures.kept (placed_as key s.id s) (subst (λ (it : ℕ). Contains c.add_key.new.keyed.items (placed_as it s.id s)) (sym k) c.in_ok-add_key.ensures.here)
      | inr k ↦
          let same : c.owned_key.result ≡ key = c.owned_key.ensures ∙ ap (λ (n : ℕ). owned_key c.args.key n) c.address_number.ensures ∙ sym k in
          subst (λ (it : ℕ). Contains c.add_key-2.new.keyed.items (placed_as it s.id s)) same c.in_ok-add_key-2.ensures.here
    ]
