use Rattle.std.proofs.Common.{◌≡◌, ◌+◌, ◌/◌, length, ap, ◌∙◌}
use Rattle.rayon.specs.Numbers.{nat_range}
use Rattle.audit_sightings.specs.Stretch.{read_of, stretch_at}
use Rattle.audit_sightings.proofs.StretchSteps.{collected}
use Rattle.audit_sightings.proofs.parallel.read_stretches.Goals as goal

pub returns : goal.returns
returns g c =
    let h = c.in_ok-collect.ensures in
    let ends = c.into_par_iter.ensures in
    let chain = rw (c.map.ensures.base, c.map.ensures.f) at h.1 in
    collected (λ number stretch. stretch ≡ read_of c.args.policy.now (stretch_at c.args.packets.now number)) (λ stretches. stretches.items) chain.0 (nat_range 0 (length c.args.packets.now / 2048 + 1)) h.0 c.in_ok-collect.field-0
    chain.2 (chain.1 ∙ ap (λ it. nat_range it.start it.end) c.with_min_len.ensures.base ∙ (λ i. nat_range (ends.0 i) (ends.1 i))) h.2
