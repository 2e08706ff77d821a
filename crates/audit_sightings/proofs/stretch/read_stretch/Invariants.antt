use Rattle.std.proofs.Common.{◌≡◌, map, take, vec_len}
use Rattle.std.specs.List.{All}
use Rattle.audit_sightings.specs.Stretch.{found_in, read_of, LiesWithin}
use Rattle.audit_sightings.proofs.stretch.read_stretch.Given as goal

abbrev pub invariant-packets : goal.invariant-packets
invariant-packets l =
    (map (found_in l.arena.items) l.founds.items ≡ read_of l.policy (take l.packet-index l.packets))
    × All (LiesWithin (vec_len l.arena)) l.founds.items
