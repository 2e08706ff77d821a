use Rattle.std.proofs.Common.{codes, decimal}
use Rattle.watch_checkpoint.specs.Spelling.{ip_text, entry_text}
use Rattle.watch_checkpoint.proofs.Texts.{four}
use Rattle.watch_checkpoint.proofs.spelling.add_permission.Goals as goal

pub returns : goal.returns
unfolding entry_text
returns c = four c.add_number.result _ _ _ _ _ (codes "permission ") (ip_text c.args.ip) (codes " ") (decimal c.args.lease.until)
    c.in_ok-extend_from_slice.ensures.items c.in_ok-add_ip.ensures c.in_ok-extend_from_slice-2.ensures.items c.add_number.ensures
