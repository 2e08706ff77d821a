-- The turn of each lane, and the tenancies that it leaves.
use Rattle.std.proofs.Common.{◌≡◌, ◌+◌, ◌≤◌, ◌++◌, ◌⊎◌, inl, inr, ℕ, zero, suc, Bool, true, false, cond, ◌==◌, List, [], ◌∷◌, length, map, Option, Some, None, refl, sym, ap, ◌∙◌, subst, arith, append-nil}
use Rattle.std.specs.Prelude.{Contains, option_to_list, slice_get}
use Rattle.std.specs.List.{AllByRecursion, filter}
use Rattle.std.proofs.lemmas.Bool.{eqb-true}
use Rattle.std.proofs.lemmas.List.Elements.{Contains-append_right}
use Rattle.std.proofs.lemmas.Option.{none-some, same_Some}
use Rattle.audit_model.specs.declared.certificate.CertLane.{CertLane}
use Rattle.audit_model.specs.declared.event.Event.{Event}
use Rattle.audit_model.specs.declared.verdict.Tenancy.{Tenancy}
use Rattle.audit_order.specs.Grown.{of_lane}
use Rattle.audit_placement.specs.Entries.{entries_from}
use Rattle.audit_prefix.specs.Turn.{Turn, ended_in, fresh_in, has_after, more_of, runs_after, turns_from, whole}
use Rattle.audit_prefix.proofs.Continuing.{all_born, cut, sits_cut}
use Rattle.audit_prefix.proofs.Extending.{in_lane}
use Rattle.audit_prefix.proofs.Holders.{in_lane as runs_in_list}
use Rattle.audit_rules.specs.Allocation.{Allocation}
use Rattle.audit_server.specs.Placed.{Placed}
use Rattle.audit_server.specs.Rules.{Rules}
use Rattle.audit_server.specs.Tenancies.{tenancies_from, tenancies_in}
use Rattle.audit_server.proofs.Holding.{InLane, Sits}
use Rattle.audit_server.proofs.Orders.{all_append}
use Rattle.audit_whole.specs.Glued.{pair_of_lane, placed_of}
use Rattle.audit_whole.proofs.Conforming.{contained_all}
use Rattle.audit_live.specs.Walked.{events_of}
use Rattle.audit_live.proofs.Lists.{contains_cases, contains_head, contains_none, contains_tail}
use Rattle.audit_live.proofs.Outcomes.{turn_of}

module _ (events : List (ℕ × Event)) where
  -- ---- where a turn stands

  turn_by : (n : ℕ) (lanes : List CertLane) (turn : Turn) → Contains (turns_from n lanes events) turn → (i : ℕ) × (lane : CertLane) × (slice_get lanes i ≡ Some lane) × (turn ≡ turn_of events (n + i) lane)
  turn_by n [] turn c = absurd (contains_none turn c)
  turn_by n (lane ∷ lanes) turn c = elim (contains_cases (turn_of events n lane) turn (turns_from (n + 1) lanes events) c) [
    | inl is ↦ (0, lane, refl, sym is ∙ ap (λ k. turn_of events k lane) (let same : n ≡ n + 0 = omega arith in same))
    | inr there ↦
        let rest = turn_by (n + 1) lanes turn there in
        (suc rest.0, rest.1, rest.2, rest.3 ∙ ap (λ k. turn_of events k rest.1) (let same : n + 1 + rest.0 ≡ n + suc rest.0 = omega arith in same))
  ]

  pub turn_at : (lanes : List CertLane) (turn : Turn) → Contains (turns_from 0 lanes events) turn → (i : ℕ) × (lane : CertLane) × (slice_get lanes i ≡ Some lane) × (turn ≡ turn_of events i lane)
  turn_at lanes turn c =
      let found = turn_by 0 lanes turn c in
      (found.0, found.1, found.2, found.3 ∙ ap (λ k. turn_of events k found.1) (let same : 0 + found.0 ≡ found.0 = omega arith in same))

  turn_from : (n i number : ℕ) (lanes : List CertLane) (lane : CertLane) → number ≡ n + i → slice_get lanes i ≡ Some lane → Contains (turns_from n lanes events) (turn_of events number lane)
  turn_from n i number [] lane is there = absurd (none-some lane there)
  turn_from n zero number (one ∷ lanes) lane is there =
      subst (λ (l : CertLane). Contains (turns_from n (one ∷ lanes) events) (turn_of events number l)) (same_Some one lane there)
      (subst (λ (k : ℕ). Contains (turns_from n (one ∷ lanes) events) (turn_of events k one)) (let same : n ≡ number = omega (arith, is) in same) (contains_head (turn_of events n one) (turns_from (n + 1) lanes events)))
  turn_from n (suc i) number (one ∷ lanes) lane is there =
      contains_tail (turn_of events n one) (turn_of events number lane) (turns_from (n + 1) lanes events) (turn_from (n + 1) i number lanes lane (omega (arith, is)) there)

  pub turn_there : (lanes : List CertLane) (i : ℕ) (lane : CertLane) → slice_get lanes i ≡ Some lane → Contains (turns_from 0 lanes events) (turn_of events i lane)
  turn_there lanes i lane there = turn_from 0 i i lanes lane (omega arith) there

  -- ---- its events

  pub has_events : (number : ℕ) (all : List (ℕ × Event)) → Contains (map (λ (e : ℕ × Event). e.0) all) number ⊎ (of_lane number all ≡ [])
  has_events number [] = inr refl
  has_events number (e ∷ all) = by_number (e.0 == number) refl (has_events number all) where
    by_number : (b : Bool) → (e.0 == number) ≡ b → Contains (map (λ (e : ℕ × Event). e.0) all) number ⊎ (of_lane number all ≡ []) → Contains (map (λ (e : ℕ × Event). e.0) (e ∷ all)) number
        ⊎ (map (λ (e : ℕ × Event). e.1) (cond b (e ∷ filter (λ (e : ℕ × Event). e.0 == number) all) (filter (λ (e : ℕ × Event). e.0 == number) all)) ≡ [])
    by_number true same rest = inl (subst (Contains (map (λ (e : ℕ × Event). e.0) (e ∷ all))) (eqb-true e.0 number same) (contains_head e.0 (map (λ (e : ℕ × Event). e.0) all)))
    by_number false same (inl there) = inl (contains_tail e.0 number (map (λ (e : ℕ × Event). e.0) all) there)
    by_number false same (inr none) = inr none

  pub no_more : (number : ℕ) (lane : CertLane) → of_lane number events ≡ [] → more_of number lane events ≡ []
  no_more number lane none = ap (λ es. map placed_of (entries_from (Some (pair_of_lane lane)) number (length lane.events) None es)) none

pub lane_of_events : (number : ℕ) (lane : CertLane) → InLane number (events_of number lane)
lane_of_events number lane = in_lane (Some (pair_of_lane lane)) number 0 None lane.events

pub lane_of_turn : (events : List (ℕ × Event)) (number : ℕ) (lane : CertLane) → InLane number (whole (turn_of events number lane))
lane_of_turn events number lane =
    all_append (λ (e : Placed). e.at.lane ≡ number) (events_of number lane) (more_of number lane events) (lane_of_events number lane)
    (in_lane (Some (pair_of_lane lane)) number (length lane.events) None (of_lane number events))

module _ (w : Rules) where
  -- ---- tenancies

  pub born_in_lane : (number : ℕ) (es : List Placed) (r : Tenancy) → InLane number es → runs_after w None None es ≡ Some r → r.born.lane ≡ number
  born_in_lane number es r all runs = by_both (has_after w None es) (runs_after w None None es) (sits_cut w number es None None all tt) runs where
    by_both : (x : Option Allocation) (ten : Option Tenancy) → Sits w.grace number x ten → ten ≡ Some r → r.born.lane ≡ number
    by_both x None sits is = absurd (none-some r is)
    by_both None (Some t) sits is = absurd sits
    by_both (Some a) (Some t) sits is = ap (λ (u : Tenancy). u.born.lane) (sym (same_Some t r is)) ∙ sits.lane'

  pub born_by : (horizon : ℕ) (es : List Placed) (r : Tenancy) → AllByRecursion (λ (e : Placed). e.at.key.moment ≤ horizon) es → runs_after w None None es ≡ Some r → r.born.key.moment ≤ horizon
  born_by horizon es r by_then runs = contained_all (λ (t : Tenancy). t.born.key.moment ≤ horizon) (tenancies_in w es) r (all_born w horizon es by_then) (runs_in_list w es r runs)

  pub fresh_in_whole : (turn : Turn) (t : Tenancy) → Contains (fresh_in w turn) t → Contains (tenancies_in w (whole turn)) t
  fresh_in_whole turn t c =
      subst (λ (ts : List Tenancy). Contains ts t) (sym (cut w turn.before turn.more None None)) (Contains-append_right (ended_in w None None turn.before) (fresh_in w turn) t c)

  -- a turn without events leaves what ran
  pub fresh_runs : (turn : Turn) → turn.more ≡ [] → fresh_in w turn ≡ option_to_list (runs_after w None None turn.before)
  fresh_runs turn none = ap (λ (es : List Placed). tenancies_from w (has_after w None turn.before) (runs_after w None None turn.before) es) none

  pub whole_runs : (turn : Turn) → turn.more ≡ [] → whole turn ≡ turn.before
  whole_runs turn none = ap (λ (es : List Placed). turn.before ++ es) none ∙ append-nil turn.before
