use Rattle.std.proofs.Common.{◌≡◌, drop}
use Rattle.prep_program.specs.ListText.{sums_of, sums_with}
use Rattle.prep_program.proofs.list_totals.add_up.Given as goal

-- the sums so far with what is left are those of all
abbrev pub invariant-loop-tally : goal.invariant-loop-tally
invariant-loop-tally l = sums_with l.sums (drop l.tally-index l.tallies) ≡ sums_of l.tallies
