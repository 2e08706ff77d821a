use Rattle.std.proofs.Common.{ap}
use Rattle.audit_model.specs.declared.event.Event.{Event}
use Rattle.audit_placement.specs.FirstPlace.{places}
use Rattle.audit_placement.proofs.first.FirstPlaces.place_entry.Goals as goal
use Rattle.audit_placement.proofs.FirstPush.{notes_push, notes_same, places_one, where_ok}

pub returns-in-Act-clause-notes : goal.returns-in-Act-clause-notes
returns-in-Act-clause-notes c = λ earlier notes.
    notes_same c.args.certificate.now c.args.self.now c.args.entry.now (λ s. ap (λ (e : Event). places e s) c.in-Act.is) earlier notes

pub returns-in-In-clause-notes : goal.returns-in-In-clause-notes
returns-in-In-clause-notes c = λ earlier notes.
    where_ok c.place.result _ _ _ c.place.ensures.found c.place.ensures.noted
    (λ placed is set. notes_push c.args.certificate.now c.args.self.now c.place.new.self c.args.entry.now _ c.in-In.sight c.requires (places_one c.args.entry.now.event c.in-In.sight c.in-In.is) placed is set earlier notes)
