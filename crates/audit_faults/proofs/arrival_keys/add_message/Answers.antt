use Rattle.std.proofs.Common.{◌≡◌, inl, inr, ℕ, List, sym, ◌∙◌, subst}
use Rattle.audit_stun.specs.Message.{IsMessage}
use Rattle.audit_stun.specs.Parts.{parts_of}
use Rattle.audit_faults.specs.Keyed.{placed_as}
use Rattle.audit_faults.proofs.Seeking.{request_placed, send_placed}
use Rattle.audit_faults.proofs.arrival_keys.add_message.Goals as goal

pub returns-in_default-clause-here : goal.returns-in_default-clause-here
returns-in_default-clause-here c key has =
    let none : IsMessage c.args.sighting.now.payload (parts_of c.args.sighting.now.payload) → ⊥ = λ is. c.in_default.ensures (subst (λ (p : List ℕ). IsMessage p (parts_of p)) (sym c.as_slice.ensures) is) in
    elim has [
      | inl r ↦ absurd (none r.0)
      | inr r ↦ absurd (none r.0)
    ]

pub returns-clause-here : goal.returns-clause-here
returns-clause-here c key has =
    let s = c.args.sighting.now in
    let said : List ℕ = c.in-Some.said in
    let e : said ≡ s.payload = c.in-Some.ensures.0 ∙ c.as_slice.ensures in
    elim has [
      | inl r ↦ c.in_ok-add_send.ensures.kept (placed_as key s.id s) (request_placed s c.add_request.new.keyed.items said e c.in_ok-add_request.ensures.here key r)
      | inr r ↦ send_placed s c.add_send.new.keyed.items said e c.in_ok-add_send.ensures.here key r
    ]
