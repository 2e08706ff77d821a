-- The events of an extension name what is there, where those of the grown certificate do.
use Rattle.std.proofs.Common.{◌≡◌, ◌+◌, ◌<◌, ◌≤◌, ◌==◌, ℕ, Bool, true, false, cond, List, [], ◌∷◌, ◌++◌, All, length, map, get_or, refl, sym, ◌∙◌, arith, ◌≢◌, eq-eqb}
use Rattle.std.specs.List.{filter}
use Rattle.std.proofs.lemmas.Bool.{true≢false}
use Rattle.std.proofs.lemmas.List.Elements.{All-nil, All-cons, All-head, All-tail, All-weaker}
use Rattle.audit_model.specs.declared.certificate.CertLane.{CertLane}
use Rattle.audit_model.specs.declared.event.Event.{Event}
use Rattle.audit_order.specs.Grown.{of_lane, with_events}
use Rattle.audit_placement.proofs.CleanSteps.{all_right}

module _ (P : Event → Type 0) where
  of_number : (number : ℕ) (event : ℕ × Event) (events : List (ℕ × Event)) (is : Bool) → (event.0 == number) ≡ is
      → (All P (of_lane number events) → All (λ (e : ℕ × Event). (e.0 == number) ≡ true → P e.1) events)
      → All P (map (λ (e : ℕ × Event). e.1) (cond is (event ∷ filter (λ (e : ℕ × Event). e.0 == number) events) (filter (λ (e : ℕ × Event). e.0 == number) events)))
      → All (λ (e : ℕ × Event). (e.0 == number) ≡ true → P e.1) (event ∷ events)
  of_number number event events true is rest all =
      All-cons (λ (e : ℕ × Event). (e.0 == number) ≡ true → P e.1) event events (λ _. All-head P event.1 (of_lane number events) all) (rest (All-tail P event.1 (of_lane number events) all))
  of_number number event events false is rest all =
      All-cons (λ (e : ℕ × Event). (e.0 == number) ≡ true → P e.1) event events (λ same. absurd (true≢false (sym same ∙ is))) (rest all)

  of_lane_all : (number : ℕ) (events : List (ℕ × Event)) → All P (of_lane number events) → All (λ (e : ℕ × Event). (e.0 == number) ≡ true → P e.1) events
  of_lane_all number [] all = All-nil (λ (e : ℕ × Event). (e.0 == number) ≡ true → P e.1)
  of_lane_all number (event ∷ events) all = of_number number event events (event.0 == number) refl (of_lane_all number events) all

  by_number : (number : ℕ) (event : ℕ × Event) (is : Bool) → (event.0 == number) ≡ is → ((event.0 == number) ≡ true → P event.1) → (number + 1 ≤ event.0 → P event.1) → number ≤ event.0 → P event.1
  by_number number event true is here beyond from = here is
  by_number number event false is here beyond from =
      let other : event.0 ≢ number = λ same. true≢false (sym (eq-eqb event.0 number same) ∙ is) in
      beyond (omega (arith, other, from))

  pub events_named : (number : ℕ) (lanes : List CertLane) (events : List (ℕ × Event)) → All (λ (lane : CertLane). All P lane.events) (with_events number lanes events)
      → All (λ (e : ℕ × Event). e.0 < number + length lanes) events → All (λ (e : ℕ × Event). number ≤ e.0 → P e.1) events
  events_named number [] events all within = λ k d there from. absurd (let below = within k d there in omega (arith, below, from))
  events_named number (lane ∷ lanes) events all within =
      let grown : CertLane = record { events = lane.events ++ of_lane number events; client = lane.client; listen = lane.listen } in
      let here = of_lane_all number events (all_right P lane.events (of_lane number events) (All-head (λ (l : CertLane). All P l.events) grown (with_events (number + 1) lanes events) all)) in
      let beyond = events_named (number + 1) lanes events (All-tail (λ (l : CertLane). All P l.events) grown (with_events (number + 1) lanes events) all)
      (All-weaker (λ (e : ℕ × Event). e.0 < number + length (lane ∷ lanes)) (λ (e : ℕ × Event). e.0 < number + 1 + length lanes) (λ e below. omega (arith, below)) events within) in
      λ k d there from. by_number number (get_or events k d) _ refl (here k d there) (beyond k d there) from
