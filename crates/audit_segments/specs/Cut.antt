-- A cut: what must be known of the earlier steps of a run to judge the later ones.
use Rattle.std.specs.Prelude.{ℕ, ◌≡◌, ◌≤◌, Bool, true, false}
use Rattle.audit_model.specs.declared.sighting.SightId.{SightId}
use Rattle.audit_server.specs.State.{State, at_first}
use Rattle.audit_server.specs.Step.{Move, In, Act, Out}
use Rattle.audit_segments.specs.Alike.{is_placed}

-- The server's state, without what no later step depends on; how many sightings of each interface
-- are placed, excluded ones included; and which sightings are excluded from the claim.
pub record Cut : Type 0 where
  pub state : State
  pub placed : ℕ → ℕ
  pub excluded : SightId → Bool

-- before the first step: an empty table, and nothing is placed or excluded
abbrev pub empty_cut : Cut
empty_cut = record { state = at_first; placed = λ _. 0; excluded = λ _. false }

-- From the old cut to the new one more sightings may be placed and more excluded. None is removed
-- from either, and of those that the old cut has placed none is excluded later.
pub record Extends (old new : Cut) : Type 0 where
  pub placed : (iface : ℕ) → old.placed iface ≤ new.placed iface
  pub excluded : (s : SightId) → old.excluded s ≡ true → new.excluded s ≡ true
  pub settled : (s : SightId) → is_placed old.placed s ≡ true → new.excluded s ≡ old.excluded s

-- the move names no excluded sighting, and the departure of an act is not placed by the cut
abbrev pub MayName : Cut → Move → Type 0
MayName cut (In s) = cut.excluded s ≡ false
MayName cut (Act c s t) = (cut.excluded s ≡ false) × (cut.excluded t ≡ false) × (is_placed cut.placed t ≡ false)
MayName cut (Out t) = cut.excluded t ≡ false
