use Rattle.std.proofs.Common.{refl}
use Rattle.prep_records.specs.declared.recorder.Recorder.{Recorder}
use Rattle.prep_records.proofs.Going.{first}
use Rattle.prep_records.proofs.recorder.Recorder.new.Goals as goal

pub returns : goal.returns
returns c =
    let made : Recorder = record { policy = c.args.policy; stated = c.args.stated; splitter = c.new.result; allocations = c.new-2.result; keeper = c.new-3.result; alloc = c.args.alloc } in
    first made c.args.policy.now c.args.stated.since refl refl c.new.ensures c.new-2.ensures.released c.new-2.ensures.senders c.new-2.ensures.leases
