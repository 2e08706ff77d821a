-- When a step may come, and the runs of a server.
use Rattle.std.specs.Prelude.{ℕ, ◌≡◌, ◌≢◌, ◌≤◌, false, Option, Some, None, List, [], ◌∷◌}
use Rattle.std.specs.List.{fold}
use Rattle.audit_model.specs.declared.address.Addr.{Addr}
use Rattle.audit_model.specs.declared.pair.Pair.{Pair}
use Rattle.audit_model.specs.declared.sighting.SightId.{SightId}
use Rattle.audit_model.specs.Window.{later}
use Rattle.audit_expiry.specs.Lease.{IsUsable}
use Rattle.audit_rules.specs.Allocation.{Allocation, Change, Same, Makes, Renews, Grants, Binds, Removes}
use Rattle.audit_server.specs.Rules.{Rules}
use Rattle.audit_server.specs.State.{State, at_first, after}
use Rattle.audit_server.specs.Step.{Step, Move, In, Act, Out}

-- it arrived, at most hold ago
abbrev pub InTime : Rules → Option ℕ → ℕ → Type 0
InTime w None moment = ⊥
InTime w (Some came) moment = moment ≤ later came w.hold

-- the conditions of a move apart from other clients: an arrival that waits, a departure not sent
-- before, and an act that the rules allow
abbrev pub MayMove : Rules → State → ℕ → Move → Type 0
MayMove w st moment (In s) = Unit {0}
MayMove w st moment (Act c s t) = InTime w (st.waiting s) moment × (st.sent t ≡ false) × w.MayAnswer c s t moment (st.table c)
MayMove w st moment (Out t) = InTime w (st.owed t) moment

-- an allocation with this relayed address is usable at the moment
abbrev pub HasAddress : ℕ → ℕ → Addr → Option Allocation → Type 0
HasAddress grace moment relayed None = ⊥
HasAddress grace moment relayed (Some a) = (a.relayed ≡ relayed) × IsUsable a.until moment grace

-- no other client has a usable allocation with the address that is granted (RFC 8656, section 6)
abbrev pub IsFree : Rules → State → ℕ → Pair → Change → Type 0
IsFree w st moment c Same = Unit {0}
IsFree w st moment c (Makes made) = (other : Pair) → other ≢ c → HasAddress w.grace moment made.relayed (st.table other) → ⊥
IsFree w st moment c (Renews until) = Unit {0}
IsFree w st moment c (Grants ips until) = Unit {0}
IsFree w st moment c (Binds number peer until permitted) = Unit {0}
IsFree w st moment c Removes = Unit {0}

-- for the address that an act grants, if it grants one
abbrev pub HandsOutFree : Rules → State → ℕ → Move → Type 0
HandsOutFree w st moment (In s) = Unit {0}
HandsOutFree w st moment (Act c s t) = IsFree w st moment c (w.change c s t moment (st.table c))
HandsOutFree w st moment (Out t) = Unit {0}

-- the step may come in this state
pub record Allowed (w : Rules) (st : State) (e : Step) : Type 0 where
  pub in_order : st.now ≤ e.moment
  pub may : MayMove w st e.moment e.move
  pub free : HandsOutFree w st e.moment e.move

-- each step may come in the state after the steps before it
abbrev pub RunFrom : Rules → State → List Step → Type 0
RunFrom w st [] = Unit {0}
RunFrom w st (e ∷ es) = Allowed w st e × RunFrom w (after w st e) es

-- The steps are a run of the server from an empty table, which owes nothing at the end.
pub record IsRun (w : Rules) (steps : List Step) : Type 0 where
  pub runs : RunFrom w at_first steps
  pub nothing_owed : (t : SightId) → (fold (after w) at_first steps).owed t ≡ None
