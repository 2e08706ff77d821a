use Rattle.std.proofs.Common.{set, ap, rules}
use Rattle.audit_finder.proofs.Departures.{noted}
use Rattle.audit_finder.proofs.departed.Departed.note.Goals as goal

pub returns-clause-noted : goal.returns-clause-noted
returns-clause-noted c s free =
    let both = noted c.args.self.now.rows.items c.in-Some.row.now _ c.args.sight.iface c.args.sight.index s (search rules) (search rules) (search rules) (ap (set c.in-Some.row.now.items c.args.sight.index) c.replace.ensures.after) free in
    (both.0, λ _. both.1)
