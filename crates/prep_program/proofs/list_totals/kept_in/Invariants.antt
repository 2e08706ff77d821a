use Rattle.std.proofs.Common.{◌≡◌, drop}
use Rattle.prep_program.specs.ListText.{kept_of, kept_with}
use Rattle.prep_program.proofs.list_totals.kept_in.Given as goal

-- the datagrams so far with what is left are those of all
abbrev pub invariant-loop-one : goal.invariant-loop-one
invariant-loop-one l = kept_with l.kept (drop l.one-index l.totals) ≡ kept_of l.totals
