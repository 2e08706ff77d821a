use Rattle.std.proofs.Common.{◌∙◌, ap, arith, sym, subst, map}
use Rattle.audit_model.specs.EventCount.{event_count}
use Rattle.audit_sightings.specs.Intake.{taken}
use Rattle.audit_finder.specs.Found.{pair_of, AllNamed}
use Rattle.audit_finder.specs.Departures.{out_count}
use Rattle.audit_finder.proofs.Found.{pairs_of_empty, none_in_empty, none_leaves, empty_named}
use Rattle.audit_finder.proofs.filling.Filled.new.Goals as goal

pub returns-clause-pairs : goal.returns-clause-pairs
returns-clause-pairs c = ap (map pair_of) c.in_ok-lanes.ensures ∙ pairs_of_empty c.args.pairs.now

pub returns-clause-room : goal.returns-clause-room
returns-clause-room c = omega (arith, ap event_count c.in_ok-lanes.ensures, none_in_empty c.args.pairs.now)

pub returns-clause-named : goal.returns-clause-named
returns-clause-named c =
    let intake = taken c.args.intake.now in
    subst (AllNamed intake) (sym c.in_ok-lanes.ensures) (empty_named intake c.args.pairs.now)

pub returns-clause-noted : goal.returns-clause-noted
returns-clause-noted c s =
    let none = ap (out_count s) c.in_ok-lanes.ensures ∙ none_leaves s c.args.pairs.now in (
      omega (arith, none),
      λ free. none,
    )
