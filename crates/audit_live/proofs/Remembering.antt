-- A step of a lane is one of its walk.
use Rattle.std.proofs.Common.{◌≡◌, ◌++◌, ℕ, Bool, true, false, cond, ◌&&◌, List, [], ◌∷◌, Option, Some, None, refl, sym, ap, ◌∙◌, subst, append-nil}
use Rattle.std.specs.Prelude.{is_some, option_map, option_to_list}
use Rattle.std.specs.Str.{bytes_eq}
use Rattle.std.proofs.lemmas.Bool.{ltb-false}
use Rattle.std.proofs.lemmas.Option.{none-some, same_Some}
use Rattle.audit_lane.specs.declared.noted.Arrival.{Arrival}
use Rattle.audit_lane.specs.declared.noted.Departure.{Departure}
use Rattle.audit_lane.specs.After.{after, came_first, new_arrival, taken_up, departure_for}
use Rattle.audit_lane.specs.Content.{Happening, Came, Acted, Went, User, user_of}
use Rattle.audit_lane.specs.Faults.{IsRight, out_fault, is_past}
use Rattle.audit_lane.specs.Kept.{Kept, Terms, place_at, user_by, situation_in}
use Rattle.audit_lane.specs.Seen.{SameKept, terms_by}
use Rattle.audit_lane.specs.Walk.{key_at}
use Rattle.audit_model.specs.declared.event.Key.{Key}
use Rattle.audit_model.specs.declared.pair.Pair.{Pair}
use Rattle.audit_model.specs.declared.rule.Rule.{Rule}
use Rattle.audit_model.specs.declared.rule.Rule.TheVariants.{HeldTooLong, LeftWithoutAct}
use Rattle.audit_model.specs.declared.sighting.SightId.{SightId}
use Rattle.audit_model.specs.declared.sighting.Sighting.{Sighting}
use Rattle.audit_model.specs.Sames.{same_sight}
use Rattle.audit_model.specs.Window.{later}
use Rattle.audit_placement.proofs.FirstPush.{same_is}
use Rattle.audit_prefix.specs.Walk.{GoesOn, IsInTime, Memory, remembered}
use Rattle.audit_rules.specs.declared.credentials.CredRow.{CredRow}
use Rattle.audit_rules.specs.Allocation.{applied}
use Rattle.audit_rules.specs.Tenancies.{running_after, ended_by}
use Rattle.audit_rules.specs.Answer.{MayAnswer}
use Rattle.audit_rules.specs.Keys.{KeyFor}
use Rattle.audit_rules.specs.Said.{change_in}
use Rattle.audit_rules.specs.Seen.{key_in}
use Rattle.audit_rules.specs.Situation.{Situation}
use Rattle.audit_verdict.specs.Run.{IsKnown, move_of, placed_at}
use Rattle.audit_verdict.proofs.Agreeing.{user_agrees}
use Rattle.audit_verdict.proofs.KeysTold.{AgreeInRequest, may_said}
use Rattle.audit_verdict.proofs.Running.{IsOpen, open_to, change_same}
use Rattle.audit_server.specs.Captured.{MayBetween}
use Rattle.audit_server.specs.State.{put}
use Rattle.audit_sightings.specs.Intake.{Taken, sighting_at}
use Rattle.audit_whole.specs.CaptureRun.{rules_for}
use Rattle.audit_live.specs.Remembered.{Remembers, GoesOnAsWalk}
use Rattle.audit_live.specs.Steps.{AreRowsOf, IsRowOf}

-- the one row's key is the one user's
key_same : (row : CredRow) (user realm : List ℕ) (is : Bool) → option_map (λ (r : CredRow). r.key) (cond is (Some row) None) ≡ option_map (λ (u : User). u.key) (cond is (Some (user_of row)) None)
key_same row user realm true = refl
key_same row user realm false = refl

-- the row of the user that a request names has the key that the credentials have
pub row_agrees : (key_for : KeyFor) (payload : List ℕ) (named : Option CredRow) → IsRowOf key_for payload named → AgreeInRequest (key_in (option_to_list named)) key_for payload
row_agrees key_for payload None nobody = user_agrees key_for [] payload None nobody
row_agrees key_for payload (Some row) names = λ message class user realm names_user names_realm.
    key_same row user realm (bytes_eq row.user.now user && bytes_eq row.realm.now realm) ∙ user_agrees key_for (user_of row ∷ []) payload (Some 0) names message class user realm names_user names_realm

past_to : (b : Bool) (r : Rule) → cond b (Some r) None ≡ None → b ≡ false
past_to true r h = absurd (none-some r (sym h))
past_to false r h = refl

left_in_time : (hold moment : ℕ) (sent : Option Departure) → out_fault hold sent moment ≡ None → IsInTime hold (option_map (λ (d : Departure). d.arrived) sent) moment
left_in_time hold moment None right = absurd (none-some LeftWithoutAct (sym right))
left_in_time hold moment (Some sent) right = ltb-false (later sent.arrived hold) moment (past_to (is_past hold sent.arrived moment) HeldTooLong right)

module _ (taken : Taken) (key_for : KeyFor) (pair : Pair) (number place : ℕ) (rows : List CredRow) (old : Kept) (m : Memory) (known : Remembers pair old m) where
  abbrev pub terms : Terms
  terms = terms_by number taken.policy rows

  module _ (a l : Sighting) (key : Key) (may_be : IsOpen taken.policy.hold key.moment (old.came a.id) (old.gave l.id)) where
    abbrev pub arrived : Arrival
    arrived = record { moment = may_be.came; user = may_be.user; acted = false }

    pub came_then : m.came a.id ≡ Some may_be.came
    came_then = sym (known.came a.id) ∙ ap (option_map (λ (x : Arrival). x.moment)) may_be.is

    pub not_taken : m.taken a.id ≡ false
    not_taken = sym (known.taken a.id arrived may_be.is)

    pub not_since : is_some (m.since l.id) ≡ false
    not_since = ap is_some (sym (known.since l.id) ∙ ap (option_map (λ (d : Departure). d.arrived)) may_be.not_given)

    first_user_is : user_by (old.came a.id) ≡ Some 0
    first_user_is = ap user_by may_be.is ∙ known.first_user a.id arrived may_be.is

    -- the key of whom the arrival names
    pub agrees : (named : Option CredRow) → rows ≡ option_to_list named → IsRowOf key_for a.payload named → AgreeInRequest (terms.keys (user_by (old.came a.id))) key_for a.payload
    agrees named rows_are is =
        subst (λ (first_user : Option ℕ). AgreeInRequest (terms.keys first_user) key_for a.payload) (sym first_user_is)
        (subst (λ (rs : List CredRow). AgreeInRequest ((terms_by number taken.policy rs).keys (Some 0)) key_for a.payload) (sym rows_are) (first_row named is))
      where
        first_row : (named : Option CredRow) → IsRowOf key_for a.payload named → AgreeInRequest ((terms_by number taken.policy (option_to_list named)).keys (Some 0)) key_for a.payload
        first_row None nobody = row_agrees key_for a.payload None nobody
        first_row (Some row) names = row_agrees key_for a.payload (Some row) names

    unfoldable pub request_situation : KeyFor → Situation
    request_situation keys = record { client = pair.client; listen = pair.listen; policy = taken.policy; key_for = keys; allocation = m.allocation; arrives = a; leaves = l; moment = key.moment }

    pub request_situation_is : situation_in terms old a l key.moment ≡ request_situation (terms.keys (user_by (old.came a.id)))
    unfolding request_situation
    request_situation_is = λ i. record {
      client = known.client i;
      listen = known.listen i;
      policy = taken.policy;
      key_for = terms.keys (user_by (old.came a.id));
      allocation = known.allocation i;
      arrives = a;
      leaves = l;
      moment = key.moment;
    }

    may_answer : AgreeInRequest (terms.keys (user_by (old.came a.id))) key_for a.payload → MayAnswer (situation_in terms old a l key.moment) (change_in (situation_in terms old a l key.moment))
        → sighting_at taken a.id ≡ Some a → sighting_at taken l.id ≡ Some l → (rules_for taken key_for).MayAnswer pair a.id l.id key.moment m.allocation
    unfolding request_situation
    may_answer agree right there gives_there =
        let by_all = may_said key_for (request_situation (terms.keys (user_by (old.came a.id)))) agree (subst (λ (x : Situation). MayAnswer x (change_in x)) request_situation_is right) in
        subst (λ o. MayBetween taken.policy key_for pair key.moment m.allocation o (sighting_at taken l.id)) (sym there)
        (subst (λ o. MayBetween taken.policy key_for pair key.moment m.allocation (Some a) o) (sym gives_there) by_all)

  pub goes_on : (event : Happening) → AreRowsOf key_for event rows → IsKnown (sighting_at taken) event → IsRight terms old event → GoesOn (rules_for taken key_for) m (key_at event).moment (move_of pair event)
  goes_on (Came s user key) named there right = tt
  goes_on (Acted a l key) named there right =
      let may_be = open_to taken.policy.hold key.moment (old.came a.id) (old.gave l.id) right.0 in (
        subst (λ (o : Option ℕ). IsInTime taken.policy.hold o key.moment) (sym (came_then a l key may_be)) may_be.in_time,
        not_taken a l key may_be,
        not_since a l key may_be,
        may_answer a l key may_be (agrees a l key may_be named.0 named.1 named.2) right.1 there.0 there.1,
      )
  goes_on (Went s key) named there right = subst (λ (o : Option ℕ). IsInTime taken.policy.hold o key.moment) (known.since s.id) (left_in_time taken.policy.hold key.moment (old.gave s.id) right)

  -- what is kept then, by fields
  module _ (s : Sighting) (user : Option ℕ) (key : Key) (first : user ≡ Some 0) where
    abbrev here : SightId → Option Arrival
    here = came_first old.came s.id (new_arrival user key.moment) (old.came s.id)

    -- an arrival that came before, or this one
    came_by : (was : Option Arrival) → old.came s.id ≡ was → (q : SightId) →
        option_map (λ (a : Arrival). a.moment) (came_first old.came s.id (new_arrival user key.moment) was q)
        ≡ cond (is_some (option_map (λ (a : Arrival). a.moment) was)) m.came (put same_sight m.came s.id (Some key.moment)) q
    came_by (Some before) is q = known.came q
    came_by None is q = by_sight (same_sight q s.id)
      where
        by_sight : (b : Bool) → option_map (λ (a : Arrival). a.moment) (cond b (Some (new_arrival user key.moment)) (old.came q)) ≡ cond b (Some key.moment) (m.came q)
        by_sight true = refl
        by_sight false = known.came q

    first_user_then : (was : Option Arrival) (q : SightId) (a : Arrival) → came_first old.came s.id (new_arrival user key.moment) was q ≡ Some a → a.user ≡ Some 0
    first_user_then (Some before) q a is = known.first_user q a is
    first_user_then None q a is = by_sight (same_sight q s.id) is
      where
        by_sight : (b : Bool) → cond b (Some (new_arrival user key.moment)) (old.came q) ≡ Some a → a.user ≡ Some 0
        by_sight true is = sym (ap (λ (x : Arrival). x.user) (same_Some (new_arrival user key.moment) a is)) ∙ first
        by_sight false is = known.first_user q a is

    taken_then : (was : Option Arrival) → old.came s.id ≡ was → (q : SightId) (a : Arrival) → came_first old.came s.id (new_arrival user key.moment) was q ≡ Some a → a.acted ≡ m.taken q
    taken_then (Some before) at q a is = known.taken q a is
    taken_then None at q a is = by_sight (same_sight q s.id) refl is
      where
        by_sight : (b : Bool) → same_sight q s.id ≡ b → cond b (Some (new_arrival user key.moment)) (old.came q) ≡ Some a → a.acted ≡ m.taken q
        by_sight true one is =
            sym (ap (λ (x : Arrival). x.acted) (same_Some (new_arrival user key.moment) a is)) ∙ sym (known.fresh q (ap old.came (same_is q s.id one) ∙ at))
        by_sight false one is = known.taken q a is

    fresh_then : (was : Option Arrival) (q : SightId) → came_first old.came s.id (new_arrival user key.moment) was q ≡ None → m.taken q ≡ false
    fresh_then (Some before) q is = known.fresh q is
    fresh_then None q is = by_sight (same_sight q s.id) is
      where
        by_sight : (b : Bool) → cond b (Some (new_arrival user key.moment)) (old.came q) ≡ None → m.taken q ≡ false
        by_sight true is = absurd (none-some (new_arrival user key.moment) (sym is))
        by_sight false is = known.fresh q is

  arrives : (s : Sighting) (user : Option ℕ) (key : Key) (new : Kept) → user ≡ Some 0 → SameKept new (after terms place old (Came s user key))
      → Remembers pair new (remembered (rules_for taken key_for) m (placed_at terms pair place (Came s user key)))
  arrives s user key new first same = record {
    client = ap (λ x. x.client) same.standing ∙ known.client;
    listen = ap (λ x. x.listen) same.standing ∙ known.listen;
    came = λ q. ap (option_map (λ (a : Arrival). a.moment)) (same.came q) ∙ came_by s user key first (old.came s.id) refl q
        ∙ ap (λ (o : Option ℕ). cond (is_some o) m.came (put same_sight m.came s.id (Some key.moment)) q) (known.came s.id);
    first_user = λ q a is. first_user_then s user key first (old.came s.id) q a (sym (same.came q) ∙ is);
    taken = λ q a is. taken_then s user key first (old.came s.id) refl q a (sym (same.came q) ∙ is);
    fresh = λ q is. fresh_then s user key first (old.came s.id) q (sym (same.came q) ∙ is);
    since = λ t. ap (option_map (λ (d : Departure). d.arrived)) (same.gave t) ∙ known.since t;
    allocation = ap (λ x. x.allocation) same.standing ∙ known.allocation;
    runs = ap (λ x. x.tenancy) same.standing ∙ known.runs;
    ended = same.ended ∙ known.ended ∙ sym (append-nil m.ended);
  }

  leaves : (s : Sighting) (key : Key) (new : Kept) → SameKept new (after terms place old (Went s key))
      → Remembers pair new (remembered (rules_for taken key_for) m (placed_at terms pair place (Went s key)))
  leaves s key new same = record {
    client = ap (λ x. x.client) same.standing ∙ known.client;
    listen = ap (λ x. x.listen) same.standing ∙ known.listen;
    came = λ q. ap (option_map (λ (a : Arrival). a.moment)) (same.came q) ∙ known.came q;
    first_user = λ q a is. known.first_user q a (sym (same.came q) ∙ is);
    taken = λ q a is. known.taken q a (sym (same.came q) ∙ is);
    fresh = λ q is. known.fresh q (sym (same.came q) ∙ is);
    since = λ t. ap (option_map (λ (d : Departure). d.arrived)) (same.gave t) ∙ known.since t;
    allocation = ap (λ x. x.allocation) same.standing ∙ known.allocation;
    runs = ap (λ x. x.tenancy) same.standing ∙ known.runs;
    ended = same.ended ∙ known.ended ∙ sym (append-nil m.ended);
  }

  -- an act: its arrival came in
  module _ (a l : Sighting) (key : Key) (new : Kept) (may_be : IsOpen taken.policy.hold key.moment (old.came a.id) (old.gave l.id)) (there : sighting_at taken a.id ≡ Some a) (gives_there : sighting_at taken l.id ≡ Some l)
      (same : SameKept new (after terms place old (Acted a l key))) where
    abbrev first : Arrival
    first = record { moment = may_be.came; user = may_be.user; acted = false }

    came_act : (q : SightId) (b : Bool) → same_sight q a.id ≡ b → option_map (λ (x : Arrival). x.moment) (cond b (taken_up (old.came a.id)) (old.came q)) ≡ m.came q
    came_act q true one = ap (λ (o : Option Arrival). option_map (λ (x : Arrival). x.moment) (taken_up o)) may_be.is ∙ sym (ap (option_map (λ (x : Arrival). x.moment)) may_be.is) ∙ known.came a.id ∙ ap m.came (sym (same_is q a.id one))
    came_act q false one = known.came q

    first_user_act : (q : SightId) (x : Arrival) (b : Bool) → cond b (taken_up (old.came a.id)) (old.came q) ≡ Some x → x.user ≡ Some 0
    first_user_act q x true is = sym (ap (λ (y : Arrival). y.user) (same_Some (record { moment = may_be.came; user = may_be.user; acted = true }) x (sym (ap taken_up may_be.is) ∙ is))) ∙ known.first_user a.id first may_be.is
    first_user_act q x false is = known.first_user q x is

    taken_act : (q : SightId) (x : Arrival) (b : Bool) → cond b (taken_up (old.came a.id)) (old.came q) ≡ Some x → x.acted ≡ cond b true (m.taken q)
    taken_act q x true is = sym (ap (λ (y : Arrival). y.acted) (same_Some (record { moment = may_be.came; user = may_be.user; acted = true }) x (sym (ap taken_up may_be.is) ∙ is)))
    taken_act q x false is = known.taken q x is

    fresh_act : (q : SightId) (b : Bool) → cond b (taken_up (old.came a.id)) (old.came q) ≡ None → cond b true (m.taken q) ≡ false
    fresh_act q true is = absurd (none-some (record { moment = may_be.came; user = may_be.user; acted = true }) (sym is ∙ ap taken_up may_be.is))
    fresh_act q false is = known.fresh q is

    since_act : (q : SightId) (b : Bool) → option_map (λ (d : Departure). d.arrived) (cond b (departure_for (old.came a.id) place) (old.gave q)) ≡ cond b (m.came a.id) (m.since q)
    since_act q true = ap (λ (o : Option Arrival). option_map (λ (d : Departure). d.arrived) (departure_for o place)) may_be.is ∙ sym (sym (known.came a.id) ∙ ap (option_map (λ (x : Arrival). x.moment)) may_be.is)
    since_act q false = known.since q

    change_is : (rules_for taken key_for).change pair a.id l.id key.moment m.allocation ≡ change_in (situation_in terms old a l key.moment)
    change_is = change_same terms key_for pair (sighting_at taken) old (known.client, known.listen) m.allocation a l key.moment there gives_there (sym known.allocation)

    acts : Remembers pair new (remembered (rules_for taken key_for) m (placed_at terms pair place (Acted a l key)))
    acts = record {
      client = ap (λ x. x.client) same.standing ∙ known.client;
      listen = ap (λ x. x.listen) same.standing ∙ known.listen;
      came = λ q. ap (option_map (λ (x : Arrival). x.moment)) (same.came q) ∙ came_act q (same_sight q a.id) refl;
      first_user = λ q x is. first_user_act q x (same_sight q a.id) (sym (same.came q) ∙ is);
      taken = λ q x is. taken_act q x (same_sight q a.id) (sym (same.came q) ∙ is);
      fresh = λ q is. fresh_act q (same_sight q a.id) (sym (same.came q) ∙ is);
      since = λ q. ap (option_map (λ (d : Departure). d.arrived)) (same.gave q) ∙ since_act q (same_sight q l.id);
      allocation = ap (λ x. x.allocation) same.standing ∙ ap (λ c. applied c old.standing.allocation) (sym change_is) ∙ ap (applied ((rules_for taken key_for).change pair a.id l.id key.moment m.allocation)) known.allocation;
      runs = ap (λ x. x.tenancy) same.standing ∙ ap (λ c. running_after taken.policy.grace (place_at terms key place) a.id c old.standing.tenancy) (sym change_is)
          ∙ ap (running_after taken.policy.grace (place_at terms key place) a.id ((rules_for taken key_for).change pair a.id l.id key.moment m.allocation)) known.runs;
      ended = same.ended ∙ ap (λ ts. ts ++ option_to_list (ended_by key (change_in (situation_in terms old a l key.moment)) old.standing.tenancy)) known.ended
          ∙ ap (λ c. m.ended ++ option_to_list (ended_by key c old.standing.tenancy)) (sym change_is)
          ∙ ap (λ t. m.ended ++ option_to_list (ended_by key ((rules_for taken key_for).change pair a.id l.id key.moment m.allocation) t)) known.runs;
    }

pub remembers_on : (taken : Taken) (key_for : KeyFor) (pair : Pair) (number place : ℕ) (event : Happening) (rows : List CredRow) (old new : Kept) (m : Memory) → GoesOnAsWalk taken key_for pair number place event rows old new m
remembers_on taken key_for pair number place (Came s user key) rows old new m named there known right same =
    (tt, arrives taken key_for pair number place rows old m known s user key new named same)
remembers_on taken key_for pair number place (Acted a l key) rows old new m named there known right same = (
  goes_on taken key_for pair number place rows old m known (Acted a l key) named there right,
  acts taken key_for pair number place rows old m known a l key new (open_to taken.policy.hold key.moment (old.came a.id) (old.gave l.id) right.0) there.0 there.1 same,
)
remembers_on taken key_for pair number place (Went s key) rows old new m named there known right same = (
  goes_on taken key_for pair number place rows old m known (Went s key) named there right,
  leaves taken key_for pair number place rows old m known s key new same,
)
