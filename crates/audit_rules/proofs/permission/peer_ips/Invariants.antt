use Rattle.std.proofs.Common.{◌≡◌, ◌++◌, length, option_map}
use Rattle.audit_stun.specs.Parts.{parts_of}
use Rattle.audit_rules.specs.Values.{ips_of, peer_ips_of}
use Rattle.audit_rules.proofs.permission.peer_ips.Given as goal

-- the IPs so far and those of the peers that are still to come are those of all
abbrev pub invariant-loop-value : goal.invariant-loop-value
invariant-loop-value l = option_map (λ others. l.ips.items ++ others) (ips_of l.peers) ≡ peer_ips_of (parts_of l.request)

abbrev pub decreases-loop-value : goal.decreases-loop-value
decreases-loop-value l = length l.peers
