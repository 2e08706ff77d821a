use Rattle.std.proofs.Common.{◌≡◌, drop}
use Rattle.prep_program.specs.ListText.{clients_with}
use Rattle.prep_program.proofs.list_totals.clients_in.Given as goal

-- the clients so far with those of what is left are all of them
abbrev pub invariant-loop-reason : goal.invariant-loop-reason
invariant-loop-reason l = clients_with l.clients (drop l.reason-index l.lines) l.rest ≡ clients_with 0 l.lines l.tallies
