use Rattle.std.proofs.Common.{◌≡◌, inl, inr, ℕ, None, Some, sym, ◌∙◌, subst}
use Rattle.std.specs.Prelude.{Contains}
use Rattle.audit_stun.specs.XorAddress.{address_of}
use Rattle.audit_faults.specs.Keyed.{placed_as}
use Rattle.audit_faults.specs.Leased.{permission_key}
use Rattle.audit_faults.proofs.Listed.{IsToCome, names_first, names_none, names_no_more, named_at_all}
use Rattle.audit_faults.proofs.requests.add_permissions.Goals as goal

pub peers-preserved : goal.peers-preserved
peers-preserved c =
    let s = c.args.sighting.now in
    let some : address_of c.in-Some.value.now ≡ Some c.in-Some-address.peer = sym c.address.ensures.value ∙ c.in-Some-address.is in
    record {
      kept = λ one h. c.in_ok-add_key.ensures.kept one (c.peers.invariant.kept one h);
      here = λ ip e. elim (c.peers.invariant.here ip e) [
        | inl h ↦ inl (c.in_ok-add_key.ensures.kept (placed_as (permission_key s.from ip) s.id s) h)
        | inr h ↦ elim (names_first ip c.in-Some.value.now c.next.new.self c.in-Some-address.peer some (subst (IsToCome ip) c.in-Some.ensures.steps h)) [
          | inl same ↦ inl (subst (λ (i : ℕ). Contains c.add_key.new.keyed.items (placed_as (permission_key s.from i) s.id s)) same
              (subst (λ (k : ℕ). Contains c.add_key.new.keyed.items (placed_as k s.id s)) c.permission_key.ensures c.in_ok-add_key.ensures.here))
          | inr more ↦ inr more
        ]
      ];
    }

pub returns-in_default-address-clause-here : goal.returns-in_default-address-clause-here
returns-in_default-address-clause-here c ip h =
    let none : address_of c.in-Some.value.now ≡ None = sym c.address.ensures.value ∙ c.in_default-address.is in
    elim (c.peers.invariant.here ip (named_at_all ip c.args.request.now h)) [
      | inl listed ↦ listed
      | inr more ↦ absurd (names_none ip c.in-Some.value.now c.next.new.self none (subst (IsToCome ip) c.in-Some.ensures.steps more))
    ]

pub returns-clause-here : goal.returns-clause-here
returns-clause-here c ip h = elim (c.peers.invariant.here ip (named_at_all ip c.args.request.now h)) [
  | inl listed ↦ listed
  | inr more ↦ absurd (names_no_more ip (subst (IsToCome ip) c.in_default.ensures.steps.0 more))
]
