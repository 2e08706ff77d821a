use Rattle.std.proofs.Common.{◌≡◌, ℕ, None, Some, List, sym, ◌∙◌, subst}
use Rattle.audit_stun.specs.declared.class.Class.TheVariants.{Indication}
use Rattle.audit_stun.specs.declared.numbers.attribute.TheConstants.{XOR_PEER_ADDRESS, DATA}
use Rattle.audit_stun.specs.declared.numbers.method.TheConstants.{DATA as DATA_METHOD}
use Rattle.audit_stun.specs.Parts.{parts_of}
use Rattle.audit_rules.specs.Situation.{IsOf}
use Rattle.audit_rules.specs.Values.{Has, Names}
use Rattle.audit_faults.proofs.Seeking.{by_delivered}
use Rattle.audit_faults.proofs.departure_keys.key_of_named_peer.Goals as goal

pub returns-in_default : goal.returns-in_default
returns-in_default c arrival arrives d = absurd (c.in_default.ensures (subst (λ (p : List ℕ). IsOf p Indication DATA_METHOD) (sym c.as_slice-payload.ensures) d.indication))

pub returns-in_default-address_in : goal.returns-in_default-address_in
returns-in_default-address_in c arrival arrives d =
    let e : c.in-Some.indication ≡ c.args.departure.now.payload = c.in-Some.ensures.0 ∙ c.as_slice-payload.ensures in
    let named : Names XOR_PEER_ADDRESS (parts_of c.in-Some.indication) arrival.from = subst (λ (p : List ℕ). Names XOR_PEER_ADDRESS (parts_of p) arrival.from) (sym e) d.peer in
    let k : None ≡ Some arrival.from = c.in_default-address_in.ensures ∙ named in
    cc

pub returns-in_default-first : goal.returns-in_default-first
returns-in_default-first c arrival arrives d =
    let e : c.in-Some.indication ≡ c.args.departure.now.payload = c.in-Some.ensures.0 ∙ c.as_slice-payload.ensures in
    let has : Has DATA (parts_of c.in-Some.indication) arrival.payload = subst (λ (p : List ℕ). Has DATA (parts_of p) arrival.payload) (sym e) d.sends in
    let k : None ≡ Some arrival.payload = c.in_default-first.ensures ∙ has in
    cc

pub returns : goal.returns
returns c arrival arrives d =
    by_delivered c.args.policy.now arrival c.args.departure.now arrives c.delivered_key.result c.in-Some.indication c.in-Some-first.data.now c.in-Some-address_in.peer (c.in-Some.ensures.0 ∙ c.as_slice-payload.ensures)
    (sym c.in-Some-address_in.ensures) (sym c.in-Some-first.ensures) c.delivered_key.ensures d
