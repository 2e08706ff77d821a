-- The ids of a segment that counts the sightings of each interface from a base, translated to ids
-- that count from the first sighting.
use Rattle.std.specs.Prelude.{ℕ, ◌+◌, ◌-◌, Bool, false, if◌then◌else◌, None, List, map, nat_lt}
use Rattle.audit_model.specs.declared.sighting.SightId.{SightId}
use Rattle.audit_server.specs.State.{State}
use Rattle.audit_server.specs.Step.{Step, Move, In, Act, Out}
use Rattle.audit_segments.specs.Cut.{Cut}
use Rattle.audit_segments.specs.Renamed.{renamed_if}
use Rattle.audit_segments.specs.Segment.{View}

module _ (base : ℕ → ℕ) where
  -- the id among all sightings, from the id that counts from the base
  abbrev pub shifted : SightId → SightId
  shifted s = record { iface = s.iface; index = base s.iface + s.index }

  -- whether an id is of a sighting before the base
  abbrev pub is_below : SightId → Bool
  is_below s = nat_lt s.index (base s.iface)

  -- the id that counts from the base
  abbrev pub unshifted : SightId → SightId
  unshifted s = record { iface = s.iface; index = s.index - base s.iface }

  -- a function of ids that count from the base, and a constant for the ids below the base
  abbrev pub from_base : {A : Type 0} → A → (SightId → A) → SightId → A
  from_base below f s = if is_below s then below else f (unshifted s)

  -- the sightings with their ids among all sightings
  abbrev pub shifted_view : View → View
  shifted_view view s = renamed_if s (from_base None view s)

  abbrev pub shifted_move : Move → Move
  shifted_move (In s) = In (shifted s)
  shifted_move (Act c s t) = Act c (shifted s) (shifted t)
  shifted_move (Out t) = Out (shifted t)

  abbrev pub shifted_step : Step → Step
  shifted_step e = record { moment = e.moment; move = shifted_move e.move }

  abbrev pub shifted_steps : List Step → List Step
  shifted_steps steps = map shifted_step steps

  abbrev pub shifted_state : State → State
  shifted_state st = record { table = st.table; waiting = from_base None st.waiting; owed = from_base None st.owed; sent = from_base false st.sent; now = st.now }

  -- all sightings below the base are placed, and those of them that are excluded are the ones that
  -- were excluded earlier
  abbrev pub shifted_cut : (SightId → Bool) → Cut → Cut
  shifted_cut excluded cut = record {
    state = shifted_state cut.state;
    placed = λ iface. base iface + cut.placed iface;
    excluded = λ s. if is_below s then excluded s else cut.excluded (unshifted s);
  }
