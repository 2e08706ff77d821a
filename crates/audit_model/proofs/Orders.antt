-- The orders of keys, acts and breaches are total.
use Rattle.std.proofs.Common.{ℕ}
use Rattle.std.specs.Cmp.{IsTotalOrder, nat_cmp_total, on_total, then_total}
use Rattle.audit_model.specs.declared.event.Key.{Key}
use Rattle.audit_model.specs.declared.sighting.SightId.{SightId}
use Rattle.audit_model.specs.declared.verdict.Breach.{Breach}
use Rattle.audit_model.specs.Breach.{key_cmp, sight_cmp, breach_cmp}
use Rattle.audit_model.specs.Clash.{act_cmp}
use Rattle.audit_model.specs.Rule.{rank_of}

pub key_total : IsTotalOrder key_cmp
key_total = then_total (on_total (λ (k : Key). k.moment) nat_cmp_total) (on_total (λ (k : Key). k.tie) nat_cmp_total)

pub sight_total : IsTotalOrder sight_cmp
sight_total = then_total (on_total (λ (s : SightId). s.iface) nat_cmp_total) (on_total (λ (s : SightId). s.index) nat_cmp_total)

-- acts, as pairs of a key and a lane
pub act_total : IsTotalOrder (λ (a b : Key × ℕ). act_cmp a.0 a.1 b.0 b.1)
act_total = then_total (on_total (λ (a : Key × ℕ). a.0) key_total) (on_total (λ (a : Key × ℕ). a.1) nat_cmp_total)

pub breach_total : IsTotalOrder breach_cmp
breach_total =
    then_total
    (then_total
    (then_total (then_total (on_total (λ (b : Breach). b.at.key) key_total) (on_total (λ (b : Breach). b.at.lane) nat_cmp_total))
    (on_total (λ (b : Breach). rank_of b.rule) nat_cmp_total))
    (on_total (λ (b : Breach). b.at.place) nat_cmp_total))
    (on_total (λ (b : Breach). b.sight) sight_total)
