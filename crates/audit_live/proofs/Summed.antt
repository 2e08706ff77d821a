-- What all lanes owe is the sum of what each does, from one turn to the next.
use Rattle.std.proofs.Common.{◌≡◌, ◌+◌, ◌*◌, ◌<◌, ◌≤◌, ◌-◌, ℕ, zero, suc, List, [], ◌∷◌, ◌++◌, length, map, min, Option, Some, None, refl, sym, ap, ◌∙◌, subst, arith, inl, inr, get_or}
use Rattle.std.specs.Prelude.{slice_get, slice_set, sum_by, vec_len}
use Rattle.std.specs.List.{AllByRecursion}
use Rattle.std.proofs.lemmas.List.Sums.{sum_by-append, sum_by-cons, sum_by-set}
use Rattle.std.proofs.lemmas.Option.{none-some, same_Some, slice_get_within}
use Rattle.audit_model.specs.declared.address.Addr.{Addr}
use Rattle.audit_model.specs.declared.verdict.Breach.{Breach}
use Rattle.audit_model.specs.declared.event.Event.{Event}
use Rattle.audit_lane.specs.Seen.{kept_of}
use Rattle.audit_rules.specs.Keys.{KeyFor}
use Rattle.audit_sightings.specs.Intake.{Taken}
use Rattle.audit_live.specs.declared.lane.LiveLane.{LiveLane}
use Rattle.audit_live.specs.declared.lanes.LiveLanes.{LiveLanes}
use Rattle.audit_live.specs.Chain.{Chain}
use Rattle.audit_live.specs.Steps.{Steps}
use Rattle.audit_live.specs.Turn.{AddsLane, NotesChecked, Shown, StepsIn}
use Rattle.audit_live.specs.Walked.{IsSummed}
use Rattle.audit_live.proofs.LaneShare.{all_length}

abbrev owes_of : LiveLane → ℕ
owes_of lane = lane.owes

abbrev IsFew : LiveLane → Type 0
IsFew lane = lane.owes ≤ 4294967295

abbrev AreFew : List LiveLane → Type 0
AreFew lanes = AllByRecursion IsFew lanes

few_sum : (lanes : List LiveLane) → AreFew lanes → sum_by owes_of lanes ≤ length lanes * 4294967295
few_sum [] few = omega arith
few_sum (lane ∷ lanes) few = let sum = sum_by-cons owes_of lane lanes in let rest = few_sum lanes few.1 in omega (arith, sum, rest, few.0)

few_push : (lanes : List LiveLane) (lane : LiveLane) → AreFew lanes → IsFew lane → AreFew (lanes ++ lane ∷ [])
few_push [] lane few one = (one, tt)
few_push (first ∷ lanes) lane few one = (few.0, few_push lanes lane few.1 one)

few_set : (lanes : List LiveLane) (number : ℕ) (lane : LiveLane) → AreFew lanes → IsFew lane → AreFew (slice_set lanes number lane)
few_set [] number lane few one = tt
few_set (first ∷ lanes) zero lane few one = (one, few.1)
few_set (first ∷ lanes) (suc number) lane few one = (few.0, few_set lanes number lane few.1 one)

few_at : (lanes : List LiveLane) (number : ℕ) (lane : LiveLane) → AreFew lanes → slice_get lanes number ≡ Some lane → IsFew lane
few_at [] number lane few there = absurd (none-some lane there)
few_at (first ∷ lanes) zero lane few there = subst IsFew (same_Some first lane there) few.0
few_at (first ∷ lanes) (suc number) lane few there = few_at lanes number lane few.1 there

at_sum : (lanes : List LiveLane) (number : ℕ) (lane : LiveLane) → slice_get lanes number ≡ Some lane → lane.owes ≤ sum_by owes_of lanes
at_sum [] number lane there = absurd (none-some lane there)
at_sum (first ∷ lanes) zero lane there = let sum = sum_by-cons owes_of first lanes in let same = ap owes_of (same_Some first lane there) in omega (arith, sum, same)
at_sum (first ∷ lanes) (suc number) lane there = let sum = sum_by-cons owes_of first lanes in let rest = at_sum lanes number lane there in omega (arith, sum, rest)

or_there : (lanes : List LiveLane) (number : ℕ) (lane d : LiveLane) → slice_get lanes number ≡ Some lane → get_or lanes number d ≡ lane
or_there [] number lane d there = absurd (none-some lane there)
or_there (first ∷ lanes) zero lane d there = same_Some first lane there
or_there (first ∷ lanes) (suc number) lane d there = or_there lanes number lane d there

-- one lane is set
set_sum : (lanes : List LiveLane) (number : ℕ) (was is : LiveLane) → slice_get lanes number ≡ Some was → sum_by owes_of (slice_set lanes number is) + was.owes ≡ sum_by owes_of lanes + is.owes
set_sum lanes number was is there =
    ap (λ (lane : LiveLane). sum_by owes_of (slice_set lanes number is) + lane.owes) (sym (or_there lanes number was was there)) ∙ sum_by-set owes_of lanes number is was (slice_get_within lanes number was there)

none_of : (lanes : List LiveLane) → length lanes ≡ 0 → lanes ≡ []
none_of [] none = refl
none_of (lane ∷ lanes) none = absurd (omega (arith, none))

-- without lanes nothing is owed
pub summed_first : (lanes : LiveLanes) → vec_len lanes.lanes ≡ 0 → lanes.owed ≡ 0 → IsSummed lanes
summed_first lanes none nothing =
    let ok = lanes.lanes.ok in
    let empty : lanes.lanes.items ≡ [] = none_of lanes.lanes.items (omega (arith, none, ok)) in
    record { sum = nothing ∙ sym (ap (sum_by owes_of) empty); few = subst AreFew (sym empty) tt }

-- lanes more owe nothing
pub adds_none : (pairs : List (Addr × Addr)) (old new : List LiveLane) → Chain AddsLane old pairs new → AreFew old → AreFew new × (sum_by owes_of new ≡ sum_by owes_of old)
adds_none [] old new chain few = subst (λ (ls : List LiveLane). AreFew ls × (sum_by owes_of ls ≡ sum_by owes_of old)) (sym chain) (few, refl)
adds_none (pair ∷ pairs) old new chain few =
    let lane = chain.1.0 in
    let nothing : lane.owes ≡ 0 = chain.1.1.owes in
    let mid_few = subst AreFew (sym chain.1.2) (few_push old lane few (omega (arith, nothing))) in
    let rest = adds_none pairs chain.0 new chain.2 mid_few in
    let more : sum_by owes_of chain.0 ≡ sum_by owes_of old + sum_by owes_of (lane ∷ []) = ap (sum_by owes_of) chain.1.2 ∙ sum_by-append owes_of old (lane ∷ []) in
    let one : sum_by owes_of (lane ∷ []) ≡ lane.owes + sum_by owes_of [] = sum_by-cons owes_of lane [] in
    (rest.0, rest.1 ∙ (let same : sum_by owes_of chain.0 ≡ sum_by owes_of old = omega (arith, more, one, nothing) in same))

-- what is checked of a lane changes nothing that it owes
pub notes_none : (touched : List ℕ) (old new : List LiveLane) → Chain NotesChecked old touched new → AreFew old → AreFew new × (sum_by owes_of new ≡ sum_by owes_of old)
notes_none [] old new chain few = subst (λ (ls : List LiveLane). AreFew ls × (sum_by owes_of ls ≡ sum_by owes_of old)) (sym chain) (few, refl)
notes_none (number ∷ touched) old new chain few =
    let was = chain.1.0 in
    let is : LiveLane = record was { checked = length (kept_of was.state).ended } in
    let mid_few = subst AreFew (sym chain.1.2) (few_set old number is few (few_at old number was few chain.1.1)) in
    let rest = notes_none touched chain.0 new chain.2 mid_few in
    let set = set_sum old number was is chain.1.1 in
    let mid = ap (sum_by owes_of) chain.1.2 in
    (rest.0, rest.1 ∙ (let same : sum_by owes_of chain.0 ≡ sum_by owes_of old = omega (arith, set, mid) in same))

module _ (taken : Taken) (key_for : KeyFor) where
  stepped_few : (event : Event) (was is : LiveLane) (found : Option Breach) → Steps taken key_for was event is found → IsFew was → IsFew is
  stepped_few event was is None (inl still) few = subst IsFew (sym still.1) few
  stepped_few event was is None (inr stepped) few = let count = stepped.owing.2 in omega (arith, count)
  stepped_few event was is (Some breach) broken few = let same = ap owes_of broken.rest in omega (arith, same, few)

  step_summed : (one : Shown) (old new : LiveLanes) → length old.lanes.items ≤ 65536 → IsSummed old → StepsIn taken key_for old one new → IsSummed new
  step_summed one old new count summed step =
      let few_is = stepped_few one.event step.was step.is one.found step.steps (few_at old.lanes.items one.number step.was summed.few step.there) in
      let few : AreFew new.lanes.items = subst AreFew (sym step.lanes) (few_set old.lanes.items one.number step.is summed.few few_is) in
      let set = set_sum old.lanes.items one.number step.was step.is step.there in
      let before = few_sum old.lanes.items summed.few in
      let among = at_sum old.lanes.items one.number step.was step.there in
      let sum = ap (sum_by owes_of) step.lanes in
      record { sum = omega (arith, step.owed, summed.sum, set, sum, before, among, count, few_is); few = few }

  pub steps_summed : (shown : List Shown) (old new : LiveLanes) → length old.lanes.items ≤ 65536 → IsSummed old → Chain (StepsIn taken key_for) old shown new → IsSummed new
  steps_summed [] old new count summed chain = subst IsSummed (sym chain) summed
  steps_summed (one ∷ shown) old new count summed chain =
      let same = all_length taken key_for (one ∷ []) old chain.0 (chain.0, chain.1, refl) in
      steps_summed shown chain.0 new (omega (arith, same, count)) (step_summed one old chain.0 count summed chain.1) chain.2

  -- a turn that shows nothing
  pub turn_summed : (old with_new mid new : LiveLanes) (pairs : List (Addr × Addr)) (shown : List Shown) (touched : List ℕ) → length with_new.lanes.items ≤ 65536 → IsSummed old
      → Chain AddsLane old.lanes.items pairs with_new.lanes.items → with_new.owed ≡ old.owed → Chain (StepsIn taken key_for) with_new shown mid
      → Chain NotesChecked mid.lanes.items touched new.lanes.items → new.owed ≡ mid.owed → IsSummed new
  turn_summed old with_new mid new pairs shown touched count summed adds owed steps notes owed_now =
      let first = adds_none pairs old.lanes.items with_new.lanes.items adds summed.few in
      let walked = steps_summed shown with_new mid count (record { sum = owed ∙ summed.sum ∙ sym first.1; few = first.0 }) steps in
      let last = notes_none touched mid.lanes.items new.lanes.items notes walked.few in
      record { sum = owed_now ∙ walked.sum ∙ sym last.1; few = last.0 }
