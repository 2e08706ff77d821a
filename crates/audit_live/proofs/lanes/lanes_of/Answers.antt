use Rattle.std.proofs.Common.{◌≡◌, ℕ, map, take, ap, ◌∙◌, length, arith}
use Rattle.std.proofs.Math.Seq.{take-length}
use Rattle.std.proofs.lemmas.List.Filters.{dedup_is}
use Rattle.audit_model.specs.declared.event.Event.{Event}
use Rattle.audit_live.proofs.Fresh.{are_touched}
use Rattle.audit_live.proofs.lanes.lanes_of.Goals as goal

pub returns : goal.returns
returns c =
    let whole : c.events.number-index ≡ length c.args.events.now = omega arith in
    are_touched c.args.events.now c.events.numbers.items c.sort_unstable.new.self.items c.dedup.new.self.items
    (c.events.invariant ∙ ap (λ n. map (λ (e : ℕ × Event). e.0) (take n c.args.events.now)) whole ∙ ap (map (λ (e : ℕ × Event). e.0)) (take-length c.args.events.now))
    c.sort_unstable.ensures.permutation (dedup_is _ _ _ c.dedup.ensures.filtered)
