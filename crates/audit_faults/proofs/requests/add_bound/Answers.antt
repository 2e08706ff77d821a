use Rattle.std.proofs.Common.{◌≡◌, ℕ, None, Some, sym, ◌∙◌, ap, subst}
use Rattle.std.specs.Prelude.{Contains}
use Rattle.std.proofs.lemmas.Option.{same_Some}
use Rattle.audit_model.specs.declared.address.Addr.{Addr}
use Rattle.audit_faults.specs.Keyed.{placed_as}
use Rattle.audit_faults.specs.Leased.{permission_key, channel_key}
use Rattle.audit_faults.proofs.requests.add_bound.Goals as goal

pub returns-in_default-clause-permission : goal.returns-in_default-clause-permission
returns-in_default-clause-permission c ip binds = absurd (let k : Some binds.0 ≡ None = sym binds.1 ∙ sym c.in_default.ensures in cc)

pub returns-in_default-clause-channel : goal.returns-in_default-clause-channel
returns-in_default-clause-channel c number peer numbered named = absurd (let k : Some peer ≡ None = sym named ∙ sym c.in_default.ensures in cc)

pub returns-clause-permission : goal.returns-clause-permission
returns-clause-permission c ip binds =
    let s = c.args.sighting.now in
    let same : binds.0 ≡ c.in-Some.peer = same_Some binds.0 c.in-Some.peer (sym binds.1 ∙ sym c.in-Some.ensures) in
    let one : c.in-Some.peer.ip ≡ ip = ap (λ (a : Addr). a.ip) (sym same) ∙ binds.2 in
    c.in_ok-add_channel.ensures.kept (placed_as (permission_key s.from ip) s.id s)
    (subst (λ (i : ℕ). Contains c.add_key.new.keyed.items (placed_as (permission_key s.from i) s.id s)) one
    (subst (λ (k : ℕ). Contains c.add_key.new.keyed.items (placed_as k s.id s)) c.permission_key.ensures c.in_ok-add_key.ensures.here))

pub returns-clause-channel : goal.returns-clause-channel
returns-clause-channel c number peer numbered named =
    let s = c.args.sighting.now in
    let same : peer ≡ c.in-Some.peer = same_Some peer c.in-Some.peer (sym named ∙ sym c.in-Some.ensures) in
    subst (λ (a : Addr). Contains c.add_channel.new.keyed.items (placed_as (channel_key s.from number a) s.id s)) (sym same) (c.in_ok-add_channel.ensures.here number numbered)
