-- docs/RULES.md, Which answer. The first rule that an act breaks: its paths and first bytes
-- determine the case, and then that case's checks apply.
use Rattle.std.specs.Prelude.{◌≡◌, ◌⊎◌, ℕ, ◌/◌, Bool, true, false, ◌&&◌, ◌==◌, List, [], ◌∷◌, Option, Some, None}
use Rattle.std.specs.Str.{bytes_eq}
use Rattle.audit_model.specs.declared.rule.Rule.{Rule}
use Rattle.audit_model.specs.declared.rule.Rule.TheVariants.{NotAnAnswer, Malformed}
use Rattle.audit_stun.specs.declared.class.Class.{Class}
use Rattle.audit_stun.specs.declared.class.Class.TheVariants.{Request, Indication, Success, Error}
use Rattle.audit_stun.specs.declared.numbers.method.TheConstants.{BINDING, ALLOCATE, REFRESH, SEND, DATA, CREATE_PERMISSION, CHANNEL_BIND}
use Rattle.audit_stun.specs.Message.{IsMessage}
use Rattle.audit_expiry.specs.Lease.{is_usable}
use Rattle.audit_rules.specs.declared.path.Path.{Path}
use Rattle.audit_rules.specs.declared.path.Path.TheVariants.{Client, Relay}
use Rattle.audit_rules.specs.Allocation.{Allocation}
use Rattle.audit_rules.specs.Situation.{Situation, IsServed, arrival_parts, answered, IsOf, arrival_path, departure_path}
use Rattle.audit_rules.specs.Check.{Check, check_by, FirstFails}
use Rattle.audit_rules.specs.Checks.{SaysChannel, binding_checks, error_checks, new_checks, again_checks, refresh_checks, permission_checks, channel_bind_checks, send_checks, channel_up_checks, data_checks, channel_down_checks}

-- it is none of the cases
abbrev pub is_none : List Check
is_none = check_by ⊥ NotAnAnswer ∷ []

-- whether this request made the allocation, and it is usable
abbrev pub made_it : Situation → Option Allocation → Bool
made_it x None = false
made_it x (Some a) = is_usable a.until x.moment x.policy.grace && bytes_eq a.id (arrival_parts x).tid

-- the first list if the test holds, else the second
abbrev pub choose : Bool → List Check → List Check → List Check
choose true these those = these
choose false these those = those

abbrev pub success_checks : Situation → ℕ → List Check
success_checks x method =
    choose (method == BINDING) (binding_checks x)
    (choose (method == ALLOCATE) (choose (made_it x x.allocation) (again_checks x) (new_checks x))
    (choose (method == REFRESH) (refresh_checks x)
    (choose (method == CREATE_PERMISSION) (permission_checks x)
    (choose (method == CHANNEL_BIND) (channel_bind_checks x)
    is_none))))

abbrev pub class_checks : Situation → Class → List Check
class_checks x Success = success_checks x (answered x).method
class_checks x Error = error_checks x
class_checks x Request = []
class_checks x Indication = []

-- a request of the client and its response
abbrev pub IsRequest : Situation → Type 0
IsRequest x = IsMessage x.arrives.payload (arrival_parts x) × ((arrival_parts x).class ≡ Request)

abbrev pub IsItsResponse : Situation → Type 0
IsItsResponse x = ((answered x).method ≡ (arrival_parts x).method) × ((answered x).tid ≡ (arrival_parts x).tid) × (((answered x).class ≡ Success) ⊎ ((answered x).class ≡ Error))

abbrev pub response_checks : Situation → List Check
response_checks x =
    check_by (IsMessage x.leaves.payload (answered x)) Malformed
    ∷ check_by (IsRequest x) NotAnAnswer
    ∷ check_by (IsItsResponse x) NotAnAnswer
    ∷ class_checks x (answered x).class

-- its two first bits are those of ChannelData (RFC 8656, section 12)
abbrev pub is_channel : List ℕ → Bool
is_channel [] = false
is_channel (first ∷ rest) = first / 64 == 1

abbrev pub IsAnyChannelData : List ℕ → Type 0
IsAnyChannelData payload = SaysChannel payload (λ number bytes after. Unit {0})

-- from the client to a peer
abbrev pub up_checks : Situation → List Check
up_checks x =
    choose (is_channel x.arrives.payload) (check_by (IsAnyChannelData x.arrives.payload) NotAnAnswer ∷ channel_up_checks x)
    (check_by (IsOf x.arrives.payload Indication SEND) NotAnAnswer ∷ send_checks x)

-- from a peer to the client
abbrev pub down_checks : Situation → List Check
down_checks x =
    choose (is_channel x.leaves.payload) (check_by (IsAnyChannelData x.leaves.payload) Malformed ∷ channel_down_checks x)
    (check_by (IsMessage x.leaves.payload (answered x)) Malformed ∷ check_by (IsOf x.leaves.payload Indication DATA) NotAnAnswer ∷ data_checks x)

abbrev pub path_checks : Situation → Option Path → Option Path → List Check
path_checks x (Some Client) (Some Client) = response_checks x
path_checks x (Some Client) (Some Relay) = up_checks x
path_checks x (Some Relay) (Some Client) = down_checks x
path_checks x _ _ = is_none

-- all checks of an act
abbrev pub checks_of : Situation → List Check
checks_of x = check_by (IsServed x) NotAnAnswer ∷ path_checks x (arrival_path x) (departure_path x)

-- the rule of the first of them that fails
abbrev pub FirstRule : Situation → Rule → Type 0
FirstRule x rule = FirstFails (checks_of x) rule
