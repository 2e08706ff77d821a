use Rattle.std.proofs.Common.{◌+◌, ◌++◌, [], ◌∷◌, ◌∙◌, List, ap, arith}
use Rattle.audit_model.specs.declared.sighting.Sighting.{Sighting}
use Rattle.audit_sightings.proofs.RowSteps.{one_empty}
use Rattle.audit_sightings.proofs.by_interface.add_interfaces.Goals as goal

pub room-preserved : goal.room-preserved
room-preserved c = record {
  few = omega (arith, c.in_ok-push.ensures.len, c.room.invariant.few);
  empty = (
    c.room.invariant.empty.0 + 1,
    c.in_ok-push.ensures.items ∙ ap (λ (r : List Sighting). c.room.interfaces.items ++ r ∷ []) c.new.ensures
        ∙ one_empty c.args.interfaces.now.items c.room.interfaces.items c.room.invariant.empty.0 c.room.invariant.empty.1,
  );
}
