use Rattle.std.proofs.Common.{◌<◌, length, ap, arith}
use Rattle.std.proofs.lemmas.List.{length-map}
use Rattle.audit_lane.proofs.Lists.{get_map}
use Rattle.audit_lane.proofs.job.Job.input.Goals as goal

pub returns-clause-number : goal.returns-clause-number
returns-clause-number c =
    let items = c.self.inside.inputs.items in
    let within : c.args.lane < length items = omega (arith, c.requires, ap length c.self.view_is, length-map items (λ a. a.value)) in
    c.self.invariant.1 c.args.lane c.index.result.now.value (get_map (λ a. a.value) items c.args.lane c.index.result.now _ within c.index.ensures)
