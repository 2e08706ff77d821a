-- An act that the client's table allows is one that the server may do.
use Rattle.std.proofs.Common.{◌≡◌, ◌≢◌, ◌<◌, ◌^◌, ℕ, ◌==◌, Bool, true, false, cond, Option, Some, None, List, sym, ◌∙◌, ap, subst, arith}
use Rattle.std.specs.Prelude.{option_and_then}
use Rattle.std.proofs.lemmas.Bool.{cond-false}
use Rattle.audit_model.specs.declared.address.Addr.{Addr}
use Rattle.audit_model.specs.declared.pair.Pair.{Pair}
use Rattle.audit_model.specs.declared.policy.Policy.{Policy}
use Rattle.audit_model.specs.declared.sighting.SightId.{SightId}
use Rattle.audit_model.specs.declared.sighting.Sighting.{Sighting}
use Rattle.audit_model.specs.Sames.{same_client}
use Rattle.audit_model.proofs.Sames.{client_apart}
use Rattle.audit_expiry.specs.Lease.{IsUsable}
use Rattle.audit_rules.specs.declared.credentials.CredRow.{CredRow}
use Rattle.audit_rules.specs.declared.table.LaneTable.{LaneTable}
use Rattle.audit_rules.specs.Keys.{KeyFor, with_keys}
use Rattle.audit_machine.specs.Keys.{AgreeInRequest}
use Rattle.audit_rules.specs.Allocation.{Allocation, Change, Same, Makes, Renews, Grants, Binds, Removes, applied}
use Rattle.audit_rules.specs.Allocating.{seconds_after}
use Rattle.audit_rules.specs.Answer.{MayAnswer, Answers, Case, Binding, Error as ErrorCase, New, Again, Refresh, Permission, ChannelBind, Send, ChannelUp, Data, ChannelDown}
use Rattle.audit_rules.specs.Effect.{standing}
use Rattle.audit_rules.specs.Said.{change_in}
use Rattle.audit_rules.specs.Seen.{key_in, situation_of}
use Rattle.audit_rules.specs.Situation.{Situation}
use Rattle.audit_rules.proofs.Keys.{change_keyed}
use Rattle.audit_machine.proofs.KeysOfRequest.{may_said}
use Rattle.audit_server.specs.Captured.{situation_at, MayBetween, change_between, rules_of}
use Rattle.audit_server.specs.Rules.{Rules}
use Rattle.audit_server.specs.Run.{HasAddress, IsFree}
use Rattle.audit_server.specs.State.{State, acted, put}
use Rattle.audit_server.specs.Step.{Act}
use Rattle.audit_segments.specs.Segment.{View}
use Rattle.audit_machine.specs.declared.tables.Tables.{Tables}
use Rattle.audit_machine.specs.Machine.{IsFreeFor, IfUsable}
use Rattle.audit_machine.specs.Tables.{table_of, allocation_in, allocation_of}

-- ---- a new allocation is usable

abbrev IsMade : Change → (Allocation → Type 0) → Type 0
IsMade Same P = Unit {0}
IsMade (Makes made) P = P made
IsMade (Renews until) P = Unit {0}
IsMade (Grants ips until) P = Unit {0}
IsMade (Binds number peer until permitted) P = Unit {0}
IsMade Removes P = Unit {0}

module _ (x : Situation) (small : x.moment < 2 ^ 64) where
  abbrev Lasts : Allocation → Type 0
  Lasts a = IsUsable a.until x.moment x.policy.grace

  either : (b : Bool) (until : ℕ) → IsMade (cond b Removes (Renews until)) Lasts
  either true until = tt
  either false until = tt

  case_made : (case : Case) (ch : Change) → Answers case x ch → IsMade ch Lasts
  case_made Binding ch r = subst (λ (d : Change). IsMade d Lasts) (sym r.1) tt
  case_made ErrorCase ch r = subst (λ (d : Change). IsMade d Lasts) (sym r.1) tt
  case_made New ch r = subst (λ (d : Change). IsMade d Lasts) (sym r.changes) (omega (arith, small))
  case_made Again ch r = subst (λ (d : Change). IsMade d Lasts) (sym r.1) tt
  case_made Refresh ch r = subst (λ (d : Change). IsMade d Lasts) (sym r.changes) (either (r.seconds == 0) (seconds_after x.moment r.seconds))
  case_made Permission ch r = subst (λ (d : Change). IsMade d Lasts) (sym r.changes) tt
  case_made ChannelBind ch r = subst (λ (d : Change). IsMade d Lasts) (sym r.changes) tt
  case_made Send ch r = subst (λ (d : Change). IsMade d Lasts) (sym r.1) tt
  case_made ChannelUp ch r = subst (λ (d : Change). IsMade d Lasts) (sym r.1) tt
  case_made Data ch r = subst (λ (d : Change). IsMade d Lasts) (sym r.1) tt
  case_made ChannelDown ch r = subst (λ (d : Change). IsMade d Lasts) (sym r.1) tt

  pub may_made : (ch : Change) → MayAnswer x ch → IsMade ch Lasts
  unfolding MayAnswer
  may_made ch m = case_made m.1 ch m.2

-- ---- without the table of one client, the others have the same

pub others_same : (old new : Tables) (pair : Pair) → ((c : Pair) → table_of new c ≡ put same_client (table_of old) pair None c) → (c : Pair) → c ≢ pair → allocation_of new c ≡ allocation_of old c
others_same old new pair rest c ne = ap (option_and_then allocation_in) (rest c ∙ cond-false (same_client c pair) None (table_of old c) (client_apart c pair ne))

pub free_before : (old new : Tables) (grace moment : ℕ) (pair : Pair) (relayed : Addr) → ((c : Pair) → table_of new c ≡ put same_client (table_of old) pair None c) → IsFreeFor new grace moment pair relayed → IsFreeFor old grace moment pair relayed
free_before old new grace moment pair relayed rest f other ne h = f other ne (subst (HasAddress grace moment relayed) (sym (others_same old new pair rest other ne)) h)

-- ---- the act

module _ (policy : Policy) (key_for : KeyFor) (users : List CredRow) (pair : Pair) (arrives leaves : Sighting) (moment : ℕ) (agree : AgreeInRequest (key_in users) key_for arrives.payload)
    (view : View) (s t : SightId) (there_s : view s ≡ Some arrives) (there_t : view t ≡ Some leaves)
    (old : State) (before : LaneTable) (client : (standing before).client ≡ pair.client) (listen : (standing before).listen ≡ pair.listen) (allocation : (standing before).allocation ≡ old.table pair)
    (may : MayAnswer (situation_of before users policy arrives leaves moment) (change_in (situation_of before users policy arrives leaves moment))) where
  abbrev W : Rules
  W = rules_of policy key_for view

  abbrev X : Situation
  X = situation_of before users policy arrives leaves moment

  abbrev Y : Situation
  Y = situation_at policy (key_in users) pair moment (old.table pair) arrives leaves

  same : X ≡ Y
  same = λ i. record { client = client i; listen = listen i; policy = policy; key_for = key_in users; allocation = allocation i; arrives = arrives; leaves = leaves; moment = moment }

  may_y : MayAnswer Y (change_in Y)
  may_y = subst (λ (x : Situation). MayAnswer x (change_in x)) same may

  may_z : MayAnswer (with_keys key_for Y) (change_in (with_keys key_for Y))
  may_z = may_said key_for Y agree may_y

  pub may_here : W.MayAnswer pair s t moment (old.table pair)
  may_here =
      subst (λ (o : Option Sighting). MayBetween policy key_for pair moment (old.table pair) o (view t)) (sym there_s)
      (subst (λ (o : Option Sighting). MayBetween policy key_for pair moment (old.table pair) (Some arrives) o) (sym there_t) may_z)

  change_z : W.change pair s t moment (old.table pair) ≡ change_in (with_keys key_for Y)
  change_z = ap (λ o. change_between policy key_for pair moment (old.table pair) o (view t)) there_s ∙ ap (λ o. change_between policy key_for pair moment (old.table pair) (Some arrives) o) there_t

  pub change_here : W.change pair s t moment (old.table pair) ≡ change_in X
  change_here = change_z ∙ sym (change_keyed key_for Y) ∙ sym (ap change_in same)

  module _ (after : LaneTable) (is : (standing after).allocation ≡ applied (change_in X) (standing before).allocation) where
    pub acted_here : acted W moment (Act pair s t) (old.table pair) ≡ (standing after).allocation
    acted_here = ap (λ ch. applied ch (old.table pair)) change_here ∙ ap (applied (change_in X)) (sym allocation) ∙ sym is

    free_by : (small : moment < 2 ^ 64) → (free : IfUsable policy.grace moment (standing after).allocation (λ a. (other : Pair) → other ≢ pair → HasAddress policy.grace moment a.relayed (old.table other) → ⊥)) →
        (ch : Change) → IsMade ch (λ a. IsUsable a.until moment policy.grace) → (standing after).allocation ≡ applied ch (standing before).allocation → IsFree W old moment pair ch
    free_by small free Same m e = tt
    free_by small free (Makes made) m e = free made e m
    free_by small free (Renews until) m e = tt
    free_by small free (Grants ips until) m e = tt
    free_by small free (Binds number peer until permitted) m e = tt
    free_by small free Removes m e = tt

    pub free_here : moment < 2 ^ 64 → IfUsable policy.grace moment (standing after).allocation (λ a. (other : Pair) → other ≢ pair → HasAddress policy.grace moment a.relayed (old.table other) → ⊥) →
        IsFree W old moment pair (W.change pair s t moment (old.table pair))
    free_here small free = subst (λ (ch : Change). IsFree W old moment pair ch) (sym change_here) (free_by small free (change_in X) (may_made X small (change_in X) may) is)
