-- An act depends only on the key of the user that its request names.
use Rattle.std.proofs.Common.{ℕ, subst}
use Rattle.audit_stun.specs.declared.class.Class.TheVariants.{Request}
use Rattle.audit_rules.specs.Allocation.{Change}
use Rattle.audit_rules.specs.Answer.{MayAnswer, Answers, Case, Binding, Error as ErrorCase, New, Again, Refresh, Permission, ChannelBind, Send, ChannelUp, Data, ChannelDown}
use Rattle.audit_rules.specs.Keys.{KeyFor, with_keys}
use Rattle.audit_rules.specs.Said.{change_in}
use Rattle.audit_rules.specs.Situation.{Situation, IsOf}
use Rattle.audit_machine.specs.Keys.{AgreeInRequest}
use Rattle.audit_rules.proofs.Keys.{may_keyed, change_keyed}

module _ (key_for : KeyFor) (x : Situation) (agree : AgreeInRequest x.key_for key_for x.arrives.payload) where
  by_request : (method : ℕ) → IsOf x.arrives.payload Request method → (change : Change) → MayAnswer x change → MayAnswer (with_keys key_for x) change
  by_request method request change may = may_keyed key_for x (agree request.0 request.1) change may

  may_case : (change : Change) (may : MayAnswer x change) (case : Case) → Answers case x change → MayAnswer (with_keys key_for x) change
  unfolding MayAnswer
  may_case change may Binding r = by_request _ r.0.response.request change may
  may_case change may ErrorCase r = by_request _ r.0.response.request change may
  may_case change may New r = by_request _ r.response.request change may
  may_case change may Again r = by_request _ r.0.response.request change may
  may_case change may Refresh r = by_request _ r.response.request change may
  may_case change may Permission r = by_request _ r.response.request change may
  may_case change may ChannelBind r = by_request _ r.response.request change may
  may_case change may Send r = (may.0, Send, (record { goes = r.0.goes; indication = r.0.indication; relays = r.0.relays; peer = r.0.peer; sends = r.0.sends }, r.1))
  may_case change may ChannelUp r = (may.0, ChannelUp, (record { goes = r.0.goes; number = r.0.number; past = r.0.past; says = r.0.says; relays = r.0.relays }, r.1))
  may_case change may Data r = (may.0, Data, (record { goes = r.0.goes; indication = r.0.indication; relays = r.0.relays; peer = r.0.peer; sends = r.0.sends }, r.1))
  may_case change may ChannelDown r = (may.0, ChannelDown, (record { goes = r.0.goes; number = r.0.number; past = r.0.past; says = r.0.says; padding = r.0.padding; relays = r.0.relays }, r.1))

  may_by_request : (change : Change) → MayAnswer x change → MayAnswer (with_keys key_for x) change
  unfolding MayAnswer
  may_by_request change may = may_case change may may.1 may.2

  -- by what it says itself
  pub may_said : MayAnswer x (change_in x) → MayAnswer (with_keys key_for x) (change_in (with_keys key_for x))
  may_said may = subst (λ (change : Change). MayAnswer (with_keys key_for x) change) (change_keyed key_for x) (may_by_request (change_in x) may)
