-- All sightings are placed if all of each interface are, and if nothing is excluded, no move names an excluded sighting.
use Rattle.std.proofs.Common.{◌≡◌, ◌≤◌, ◌<◌, ℕ, true, false, List, [], ◌∷◌, Option, Some, None, length, inl, inr, refl, sym, ◌∙◌, ap, arith}
use Rattle.std.specs.Prelude.{is_some, slice_get, option_and_then}
use Rattle.std.proofs.lemmas.Bool.{true≢false, cases_lt}
use Rattle.std.proofs.lemmas.Option.{slice_get_past, slice_get_within}
use Rattle.audit_model.specs.declared.sighting.SightId.{SightId}
use Rattle.audit_model.specs.declared.sighting.Sighting.{Sighting}
use Rattle.audit_sightings.specs.Intake.{Taken, sighting_at, interface_at}
use Rattle.audit_whole.proofs.Placement.{in_row}
use Rattle.audit_segments.specs.Alike.{is_placed}
use Rattle.audit_segments.proofs.States.{below_placed}
use Rattle.audit_machine.specs.declared.moves.Action.{Action}
use Rattle.audit_machine.specs.declared.moves.Action.TheVariants as actions
use Rattle.audit_machine.specs.Moves.{NamesIncluded, AllNameIncluded}

pub all_placed : (taken : Taken) (placed : ℕ → ℕ) → ((k : ℕ) → k < length taken.interfaces → length (interface_at taken k) ≤ placed k) → (s : SightId) → is_some (sighting_at taken s) ≡ true → is_placed placed s ≡ true
all_placed taken placed all s there = elim (cases_lt s.iface (length taken.interfaces)) [
  | inl lt ↦ by_sighting (sighting_at taken s) refl lt
  | inr le ↦
      let none : sighting_at taken s ≡ None = ap (option_and_then (λ (row : List Sighting). slice_get row s.index)) (slice_get_past taken.interfaces s.iface le) in
      absurd (true≢false (sym there ∙ ap is_some none))
] where
  by_sighting : (o : Option Sighting) → sighting_at taken s ≡ o → s.iface < length taken.interfaces → is_placed placed s ≡ true
  by_sighting None is lt = absurd (true≢false (sym there ∙ ap is_some is))
  by_sighting (Some x) is lt = below_placed placed s (omega (arith, slice_get_within (interface_at taken s.iface) s.index x (in_row taken s x is), all s.iface lt))

names_included : (action : Action) → NamesIncluded (λ _. false) action
names_included (actions.Arrive sight moment) = refl
names_included (actions.Act pair arrival departure moment) = (refl, refl)
names_included (actions.Leave sight moment) = refl

pub all_name_included : (all : List Action) → AllNameIncluded (λ _. false) all
all_name_included [] = tt
all_name_included (action ∷ others) = (names_included action, all_name_included others)
