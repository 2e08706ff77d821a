use Rattle.std.proofs.Common.{refl}
use Rattle.prep_cut.proofs.Noting.{kept_asked, kept_granted}
use Rattle.prep_cut.proofs.allocations.Allocations.note_datagram.Goals as goal

pub returns-in_ok-insert-in-Arrives-clause-kept : goal.returns-in_ok-insert-in-Arrives-clause-kept
returns-in_ok-insert-in-Arrives-clause-kept c =
    kept_asked c.args.self.now (record { asked = c.insert.new.self; granted = c.args.self.now.granted; released = c.args.self.now.released; senders = c.args.self.now.senders; leases = c.args.self.now.leases; first = c.args.self.now.first }) c.in-Some.transaction refl c.in_ok-insert-in-Arrives.ensures.updates

pub returns-in_ok-insert-in-Leaves-clause-kept : goal.returns-in_ok-insert-in-Leaves-clause-kept
returns-in_ok-insert-in-Leaves-clause-kept c =
    kept_granted c.args.self.now (record { asked = c.args.self.now.asked; granted = c.insert-in-Leaves.new.self; released = c.args.self.now.released; senders = c.args.self.now.senders; leases = c.args.self.now.leases; first = c.args.self.now.first }) c.in-Some.transaction refl c.in_ok-insert-in-Leaves.ensures.updates
