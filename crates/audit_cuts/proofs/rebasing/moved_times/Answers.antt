use Rattle.std.proofs.Common.{◌≡◌, ◌+◌, ◌<◌, ℕ, length, get_or, sym, ◌∙◌, arith, rules}
use Rattle.std.proofs.lemmas.List.{get_or-map, length-map}
use Rattle.audit_model.specs.declared.sighting.SightId.{SightId}
use Rattle.audit_segments.specs.Shifted.{shifted}
use Rattle.audit_cuts.specs.declared.carried.Came.{Came}
use Rattle.audit_cuts.specs.Carried.{base_in}
use Rattle.audit_cuts.specs.Rebasing.{absolute_times}
use Rattle.audit_cuts.proofs.Pushed.{pushed, moment_there}
use Rattle.audit_cuts.proofs.rebasing.moved_times.Goals as goal

pub returns-in_default-clause-why : goal.returns-in_default-clause-why
returns-in_default-clause-why c = (moment_there c.args.times.now c.loop-came.came-index _ c.loop-came-test.true, search rules)

pub loop-came-preserved : goal.loop-came-preserved
loop-came-preserved c =
    let base = base_in c.args.interfaces.now in
    let other = base_in c.args.others.now in
    let at : Came → SightId × ℕ = λ (came : Came). (shifted base came.sight, came.moment) in
    let none : Came = record { sight = record { iface = 0; index = 0 }; moment = 0 } in
    let came : Came = get_or c.args.times.now c.loop-came.came-index none in
    let same : other came.sight.iface + c.in-Some.index ≡ base came.sight.iface + came.sight.index = rw (sym c.base_of-base.ensures) (rw (sym c.base_of-other.ensures) c.in-Some.ensures.some) in
    let there : c.loop-came.came-index < length c.args.times.now = c.loop-came-test.true in
    let of_all : c.loop-came.came-index < length (absolute_times base c.args.times.now) = omega (arith, there, length-map c.args.times.now at) in
    pushed (λ (came : Came). (shifted other came.sight, came.moment)) c.loop-came.moved.items c.push.new.self.items _ (absolute_times base c.args.times.now) c.loop-came.came-index (at none) of_all c.loop-came.invariant c.in_ok-push.ensures.items
    ((λ n. (record { iface = came.sight.iface; index = same n }, came.moment)) ∙ sym (get_or-map at c.args.times.now c.loop-came.came-index none (at none) there))
