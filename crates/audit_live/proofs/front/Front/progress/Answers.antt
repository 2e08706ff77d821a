use Rattle.std.proofs.Common.{rules, ◌≡◌, ◌∙◌, min}
use Rattle.audit_live.proofs.OwedExactly.{owed_of_lanes}
use Rattle.audit_live.proofs.front.Front.progress.Goals as goal

pub returns-clause-placed : goal.returns-clause-placed
returns-clause-placed c = λ taken key_for last knows. c.count.ensures knows.before knows.keeps

pub returns-clause-owed : goal.returns-clause-owed
returns-clause-owed c = λ taken key_for last knows.
    let counted : c.unwrap_or.result ≡ min c.args.self.now.lanes.owed 4294967295 = search rules in
    counted ∙ owed_of_lanes taken key_for last c.args.self.now knows
