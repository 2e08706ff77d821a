use Rattle.prep_cut.proofs.Heard.{sender_noted}
use Rattle.prep_cut.proofs.allocations.Allocations.note_sender.Goals as goal

pub returns-in_ok-insert-clause-senders : goal.returns-in_ok-insert-clause-senders
returns-in_ok-insert-clause-senders c =
    sender_noted c.args.self.now.senders c.insert.new.self c.args.datagram.now c.in_ok-insert.ensures.updates c.in-Arrives.is
