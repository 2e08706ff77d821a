-- What passes as the same is one.
use Rattle.std.proofs.Common.{◌≡◌, ◌≢◌, Bool, true, false, ◌&&◌, ◌==◌, refl, sym, ◌∙◌, ap}
use Rattle.std.proofs.lemmas.Bool.{eqb-true, eq-eqb}
use Rattle.audit_model.specs.declared.address.Addr.{Addr}
use Rattle.audit_model.specs.declared.pair.Pair.{Pair}
use Rattle.audit_model.specs.declared.sighting.SightId.{SightId}
use Rattle.audit_model.specs.Lanes.{same_addr}
use Rattle.audit_model.specs.Sames.{same_sight, same_client}

both_true : (a b : Bool) → (a && b) ≡ true → (a ≡ true) × (b ≡ true)
both_true true b h = (refl, h)
both_true false b h = absurd (let e : false ≡ true = h in cc)

and_true : (a b : Bool) → a ≡ true → b ≡ true → (a && b) ≡ true
and_true a b h k = ap (λ c. c && b) h ∙ k

not_true : (b : Bool) → (b ≡ true → ⊥) → b ≡ false
not_true true h = absurd (h refl)
not_true false h = refl

-- of sightings
pub sight_true : (a b : SightId) → same_sight a b ≡ true → a ≡ b
sight_true a b h =
    let k = both_true (a.iface == b.iface) (a.index == b.index) h in
    let i : a.iface ≡ b.iface = eqb-true a.iface b.iface k.0 in
    let j : a.index ≡ b.index = eqb-true a.index b.index k.1 in
    λ n. record { iface = i n; index = j n }

pub sight_same : (a b : SightId) → a ≡ b → same_sight a b ≡ true
sight_same a b h = and_true (a.iface == b.iface) (a.index == b.index) (eq-eqb a.iface b.iface (ap (λ (x : SightId). x.iface) h)) (eq-eqb a.index b.index (ap (λ (x : SightId). x.index) h))

pub sight_apart : (a b : SightId) → a ≢ b → same_sight a b ≡ false
sight_apart a b ne = not_true (same_sight a b) (λ e. ne (sight_true a b e))

pub sight_false : (a b : SightId) → same_sight a b ≡ false → a ≢ b
sight_false a b h e = let k : true ≡ false = sym (sight_same a b e) ∙ h in cc

-- of addresses
pub addr_true : (a b : Addr) → same_addr a b ≡ true → a ≡ b
addr_true a b h =
    let k = both_true (a.ip == b.ip) (a.port == b.port) h in
    let i : a.ip ≡ b.ip = eqb-true a.ip b.ip k.0 in
    let j : a.port ≡ b.port = eqb-true a.port b.port k.1 in
    λ n. record { ip = i n; port = j n }

pub addr_same : (a b : Addr) → a ≡ b → same_addr a b ≡ true
addr_same a b h = and_true (a.ip == b.ip) (a.port == b.port) (eq-eqb a.ip b.ip (ap (λ (x : Addr). x.ip) h)) (eq-eqb a.port b.port (ap (λ (x : Addr). x.port) h))

-- of clients at their listen addresses
pub client_true : (a b : Pair) → same_client a b ≡ true → a ≡ b
client_true a b h =
    let k = both_true (same_addr a.client b.client) (same_addr a.listen b.listen) h in
    let i : a.client ≡ b.client = addr_true a.client b.client k.0 in
    let j : a.listen ≡ b.listen = addr_true a.listen b.listen k.1 in
    λ n. record { client = i n; listen = j n }

pub client_same : (a b : Pair) → a ≡ b → same_client a b ≡ true
client_same a b h = and_true (same_addr a.client b.client) (same_addr a.listen b.listen) (addr_same a.client b.client (ap (λ (x : Pair). x.client) h)) (addr_same a.listen b.listen (ap (λ (x : Pair). x.listen) h))

pub client_apart : (a b : Pair) → a ≢ b → same_client a b ≡ false
client_apart a b ne = not_true (same_client a b) (λ e. ne (client_true a b e))
