-- The cut by the ids of sightings among all that were captured.
use Rattle.std.specs.Prelude.{Bool}
use Rattle.audit_model.specs.declared.sighting.SightId.{SightId}
use Rattle.audit_segments.specs.Cut.{Cut}
use Rattle.audit_segments.specs.Shifted.{shifted, shifted_cut}
use Rattle.audit_cuts.specs.declared.carried.Carried.{Carried}
use Rattle.audit_cuts.specs.Carried.{base_in, cut_in}

-- the cut if these sightings, among all that were captured, are excluded
abbrev pub absolute_cut : Carried → (SightId → Bool) → Cut
absolute_cut carried excluded = let base = base_in carried.interfaces.items in shifted_cut base excluded (cut_in carried (λ s. excluded (shifted base s)))
