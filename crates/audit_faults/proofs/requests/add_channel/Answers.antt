use Rattle.std.proofs.Common.{◌≡◌, ℕ, None, Some, sym, ◌∙◌, subst}
use Rattle.std.specs.Prelude.{Contains}
use Rattle.std.proofs.lemmas.Option.{same_Some}
use Rattle.audit_faults.specs.Keyed.{placed_as}
use Rattle.audit_faults.specs.Leased.{channel_key}
use Rattle.audit_faults.proofs.requests.add_channel.Goals as goal

pub returns-in_ok-add_key-clause-here : goal.returns-in_ok-add_key-clause-here
returns-in_ok-add_key-clause-here c number numbered =
    let s = c.args.sighting.now in
    let same : number ≡ c.in-Some.number = same_Some number c.in-Some.number (sym numbered ∙ sym c.in-Some.ensures) in
    subst (λ (n : ℕ). Contains c.add_key.new.keyed.items (placed_as (channel_key s.from n c.args.peer) s.id s)) (sym same)
    (subst (λ (k : ℕ). Contains c.add_key.new.keyed.items (placed_as k s.id s)) c.channel_key.ensures c.in_ok-add_key.ensures.here)

pub returns-in_default-clause-here : goal.returns-in_default-clause-here
returns-in_default-clause-here c number numbered = absurd (let k : Some number ≡ None = sym numbered ∙ sym c.in_default.ensures in cc)
