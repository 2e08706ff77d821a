-- An answer changes what its departure says.
use Rattle.std.proofs.Common.{◌≡◌, ℕ, cond, Option, Some, Bool, true, false, refl, sym, ap, subst, ◌∙◌}
use Rattle.audit_stun.specs.declared.class.Class.{Class}
use Rattle.audit_stun.specs.declared.class.Class.TheVariants.{Success, Error}
use Rattle.audit_stun.specs.declared.numbers.method.TheConstants.{BINDING, ALLOCATE, REFRESH, CREATE_PERMISSION, CHANNEL_BIND}
use Rattle.audit_stun.specs.declared.numbers.attribute.TheConstants.{USERNAME, XOR_RELAYED_ADDRESS, XOR_PEER_ADDRESS}
use Rattle.audit_stun.specs.Counted.{first_of}
use Rattle.audit_rules.specs.declared.path.Path.{Path}
use Rattle.audit_rules.specs.declared.path.Path.TheVariants.{Client, Relay}
use Rattle.audit_rules.specs.Allocation.{Change, Same}
use Rattle.audit_rules.specs.Allocating.{AnswersNew, AnswersRefresh}
use Rattle.audit_rules.specs.Granting.{AnswersPermission, AnswersChannelBind}
use Rattle.audit_rules.specs.Answer.{MayAnswer, Answers, Case, Binding, Error as ErrorCase, New, Again, Refresh, Permission, ChannelBind, Send, ChannelUp, Data, ChannelDown}
use Rattle.audit_rules.specs.FirstRule.{made_it}
use Rattle.audit_rules.specs.Said.{allocated, lengthened, permitted, channelled, change_by_method, change_by_class, change_by_paths, change_in}
use Rattle.audit_rules.specs.Situation.{Situation, arrival_parts, answered, arrival_path, departure_path}
use Rattle.audit_rules.specs.Standing.{IsResponse}
use Rattle.audit_rules.specs.Values.{address_named, lifetime_of}
use Rattle.audit_rules.proofs.Chosen.{made_true, made_false, again_is}

of_paths : (x : Situation) (a d : Option Path) → arrival_path x ≡ a → departure_path x ≡ d → change_in x ≡ change_by_paths x a d
of_paths x a d e f = ap (λ p. change_by_paths x p (departure_path x)) e ∙ ap (change_by_paths x a) f

of_response : (x : Situation) (class : Class) (method : ℕ) → IsResponse x class method → change_in x ≡ change_by_class x class
of_response x class method r = of_paths x (Some Client) (Some Client) r.forth r.back ∙ ap (change_by_class x) r.response.1

of_success : (x : Situation) (method : ℕ) → IsResponse x Success method → change_in x ≡ change_by_method x method
of_success x method r = of_response x Success method r ∙ ap (change_by_method x) r.response.2

of_allocate : (x : Situation) (made : Bool) → IsResponse x Success ALLOCATE → made_it x x.allocation ≡ made →
    change_in x ≡ cond made Same (allocated x (address_named XOR_RELAYED_ADDRESS (answered x)) (first_of USERNAME (arrival_parts x).attributes) (lifetime_of (answered x)))
of_allocate x made r e = of_success x ALLOCATE r ∙ ap (λ b. cond b Same (allocated x (address_named XOR_RELAYED_ADDRESS (answered x)) (first_of USERNAME (arrival_parts x).attributes) (lifetime_of (answered x)))) e

new_says : (x : Situation) (change : Change) → AnswersNew x change → change_in x ≡ change
new_says x change r =
    of_allocate x false r.response (made_false x (made_it x x.allocation) refl r.first)
    ∙ ap (λ o. allocated x o (first_of USERNAME (arrival_parts x).attributes) (lifetime_of (answered x))) r.names_relayed
    ∙ ap (λ o. allocated x (Some r.relayed) o (lifetime_of (answered x))) r.authentic.names_user
    ∙ ap (allocated x (Some r.relayed) (Some r.user)) r.lasts.0 ∙ sym r.changes

refresh_says : (x : Situation) (change : Change) → AnswersRefresh x change → change_in x ≡ change
refresh_says x change r = of_success x REFRESH r.response ∙ ap (lengthened x.moment) r.lasts ∙ sym r.changes

permission_says : (x : Situation) (change : Change) → AnswersPermission x change → change_in x ≡ change
permission_says x change r = of_success x CREATE_PERMISSION r.response ∙ ap (permitted x.moment) r.names ∙ sym r.changes

channel_bind_says : (x : Situation) (change : Change) → AnswersChannelBind x change → change_in x ≡ change
channel_bind_says x change r =
    of_success x CHANNEL_BIND r.response ∙ ap (λ o. channelled x.moment o (address_named XOR_PEER_ADDRESS (arrival_parts x))) r.has_number
    ∙ ap (channelled x.moment (Some r.number)) r.names ∙ sym r.changes

-- what an answer changes is what is said
pub case_says : (case : Case) (x : Situation) (change : Change) → Answers case x change → change_in x ≡ change
case_says Binding x change r = of_success x BINDING r.0.response ∙ sym r.1
case_says ErrorCase x change r = of_response x Error (arrival_parts x).method r.0.response ∙ sym r.1
case_says New x change r = new_says x change r
case_says Again x change r = of_allocate x true r.0.response (made_true x x.allocation (again_is x r.0)) ∙ sym r.1
case_says Refresh x change r = refresh_says x change r
case_says Permission x change r = permission_says x change r
case_says ChannelBind x change r = channel_bind_says x change r
case_says Send x change r = of_paths x (Some Client) (Some Relay) r.0.goes.0 r.0.goes.1 ∙ sym r.1
case_says ChannelUp x change r = of_paths x (Some Client) (Some Relay) r.0.goes.0 r.0.goes.1 ∙ sym r.1
case_says Data x change r = of_paths x (Some Relay) (Some Client) r.0.goes.0 r.0.goes.1 ∙ sym r.1
case_says ChannelDown x change r = of_paths x (Some Relay) (Some Client) r.0.goes.0 r.0.goes.1 ∙ sym r.1

-- where the server may answer by a change, it is the one that is said
pub may_says : (x : Situation) (change : Change) → MayAnswer x change → change_in x ≡ change
unfolding MayAnswer
may_says x change may = case_says may.1 x change may.2

pub may_as_said : (x : Situation) (change : Change) → MayAnswer x change → MayAnswer x (change_in x)
may_as_said x change may = subst (MayAnswer x) (sym (may_says x change may)) may
