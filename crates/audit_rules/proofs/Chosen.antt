-- Which answer it is: all checks of an act hold exactly where it may be answered so.
use Rattle.std.proofs.Common.{◌≡◌, ◌⊎◌, inl, inr, ℕ, ◌<◌, ◌==◌, List, [], ◌∷◌, ◌++◌, Option, Some, None, Bool, true, false, refl, sym, ap, subst, ◌∙◌, arith}
use Rattle.std.specs.Prelude.{IsSome, IsSomeAnd, length}
use Rattle.std.specs.Int.{w16, w32, to_be_bytes}
use Rattle.audit_stun.specs.declared.numbers.TheConstants.{MAGIC_COOKIE}
use Rattle.std.proofs.lemmas.Bool.{eqb-true}
use Rattle.std.proofs.lemmas.Bool.Decides.{nat_tests}
use Rattle.std.proofs.lemmas.Slice.Eq.{bytes_eq-Decides}
use Rattle.audit_model.specs.declared.rule.Rule.{Rule}
use Rattle.audit_model.specs.declared.rule.Rule.TheVariants.{NotAnAnswer, Malformed}
use Rattle.audit_stun.specs.declared.class.Class.{Class}
use Rattle.audit_stun.specs.declared.class.Class.TheVariants.{Request, Indication, Success, Error}
use Rattle.audit_stun.specs.declared.numbers.method.TheConstants.{BINDING, ALLOCATE, REFRESH, CREATE_PERMISSION, CHANNEL_BIND, SEND, DATA as DATA_METHOD}
use Rattle.audit_stun.specs.declared.numbers.attribute.TheConstants.{XOR_RELAYED_ADDRESS, XOR_PEER_ADDRESS}
use Rattle.audit_stun.specs.Message.{Parts, IsMessage}
use Rattle.audit_stun.specs.MessageType.{IsType}
use Rattle.audit_stun.specs.ChannelData.{channel_data_of}
use Rattle.audit_rules.specs.declared.path.Path.{Path}
use Rattle.audit_rules.specs.declared.path.Path.TheVariants.{Client, Relay}
use Rattle.audit_rules.specs.Allocation.{Allocation, Change, Same}
use Rattle.audit_rules.specs.Situation.{Situation, IsServed, arrival_parts, answered, IsOf, arrival_path, departure_path}
use Rattle.audit_rules.specs.Values.{AreBytes, Names, address_named, lifetime_of, channel_number_of, peer_ips_of}
use Rattle.audit_rules.specs.Standing.{IsResponse, UsableNow, IsOwn}
use Rattle.audit_rules.specs.Allocating.{IsAgain, AnswersAgain}
use Rattle.audit_rules.specs.Granting.{IsChannelNumber}
use Rattle.audit_rules.specs.Answer.{MayAnswer, Answers, Case, Binding, Error as ErrorCase, New, Again, Refresh, Permission, ChannelBind, Send, ChannelUp, Data, ChannelDown}
use Rattle.audit_rules.specs.Check.{Check, check_by, AllHold, FirstFails}
use Rattle.audit_rules.specs.Checks.{new_checks, again_checks, refresh_checks, permission_checks, channel_bind_checks, send_checks, channel_up_checks, data_checks, channel_down_checks}
use Rattle.audit_rules.specs.FirstRule.{choose, made_it, success_checks, class_checks, is_channel, IsAnyChannelData, IsRequest, IsItsResponse, up_checks, down_checks, path_checks, checks_of}
use Rattle.audit_rules.proofs.Facts.{some_and, some_has, map_some, authentic}
use Rattle.audit_rules.proofs.Answered.{made_is, binding_may, error_may, new_may, again_may, refresh_may, permission_may, channel_bind_may, send_may, channel_up_may, data_may, channel_down_may}
use Rattle.audit_rules.proofs.Held.{binding_held, error_held, new_held, again_held, refresh_held, permission_held, channel_bind_held, send_held, channel_up_held, data_held, channel_down_held}

-- where a first check fails, not all hold
pub not_both : (checks : List Check) (rule : Rule) → FirstFails checks rule → AllHold checks → ⊥
not_both [] rule f all = f
not_both (check ∷ checks) rule (inl f) all = f.1 all.0
not_both (check ∷ checks) rule (inr f) all = not_both checks rule f.1 all.1

-- one check is the first that fails
pub one_first : (checks : List Check) (one other : Rule) → FirstFails checks one → FirstFails checks other → one ≡ other
one_first [] one other f g = absurd f
one_first (check ∷ checks) one other (inl f) (inl g) = f.0 ∙ sym g.0
one_first (check ∷ checks) one other (inl f) (inr g) = absurd (f.1 g.0)
one_first (check ∷ checks) one other (inr f) (inl g) = absurd (g.1 f.0)
one_first (check ∷ checks) one other (inr f) (inr g) = one_first checks one other f.1 g.1

-- ---- from the answer to the checks

path_at : (x : Situation) (a d : Option Path) → arrival_path x ≡ a → departure_path x ≡ d → AllHold (path_checks x a d) → AllHold (path_checks x (arrival_path x) (departure_path x))
path_at x a d e f h = subst (λ q. AllHold (path_checks x q (departure_path x))) (sym e) (subst (λ q. AllHold (path_checks x a q)) (sym f) h)

of_class : (c d : Class) → c ≡ d → (d ≡ Success) ⊎ (d ≡ Error) → (c ≡ Success) ⊎ (c ≡ Error)
of_class c d e (inl s) = inl (e ∙ s)
of_class c d e (inr s) = inr (e ∙ s)

response_all : (x : Situation) (class : Class) (method : ℕ) → IsServed x → IsResponse x class method → (class ≡ Success) ⊎ (class ≡ Error) → AllHold (class_checks x class) → AllHold (checks_of x)
response_all x class method served r which all =
    let classes : AllHold (class_checks x (answered x).class) = subst (λ c. AllHold (class_checks x c)) (sym r.response.1) all in (
      served,
      path_at x (Some Client) (Some Client) r.forth r.back
          (r.response.0, ((r.request.0, r.request.1), ((r.response.2 ∙ sym r.request.2, r.same_id, of_class (answered x).class class r.response.1 which), classes))),
    )

success_all : (x : Situation) (method : ℕ) → IsServed x → IsResponse x Success method → AllHold (success_checks x method) → AllHold (checks_of x)
success_all x method served r all = response_all x Success method served r (inl refl) (subst (λ m. AllHold (success_checks x m)) (sym r.response.2) all)

pub made_true : (x : Situation) (found : Option Allocation) → IsSomeAnd found (λ a. UsableNow x a.until × (a.id ≡ (arrival_parts x).tid)) → made_it x found ≡ true
made_true x None h = absurd h
made_true x (Some a) h = grind (arith, nat_tests, bytes_eq-Decides, h)

pub made_false : (x : Situation) (b : Bool) → made_it x x.allocation ≡ b → (IsAgain x → ⊥) → b ≡ false
made_false x true e first = absurd (first (made_is x x.allocation e))
made_false x false e first = refl

allocate_all : (x : Situation) (made : Bool) → IsServed x → IsResponse x Success ALLOCATE → made_it x x.allocation ≡ made → AllHold (choose made (again_checks x) (new_checks x)) → AllHold (checks_of x)
allocate_all x made served r e all = success_all x ALLOCATE served r (subst (λ b. AllHold (choose b (again_checks x) (new_checks x))) (sym e) all)

pub again_is : (x : Situation) → AnswersAgain x → IsAgain x
again_is x r = map_some x.allocation (λ a. UsableNow x a.until × ((a.id ≡ (arrival_parts x).tid) × IsOwn x a × Names XOR_RELAYED_ADDRESS (answered x) a.relayed)) (λ a. UsableNow x a.until × (a.id ≡ (arrival_parts x).tid)) (λ a h. (h.0, h.1.0)) r.same

-- a STUN message begins with two zero bits
message_begins : (number : ℕ) (rest : List ℕ) → number < 16384 → is_channel (to_be_bytes w16 number ++ rest) ≡ false
message_begins number rest small = grind (arith, nat_tests, small)

type_is_small : (number : ℕ) (class : Class) (method : ℕ) → IsType number class method → number < 16384
type_is_small number Request method t = let h = t.five_bits in let m = t.three_bits in let l = t.four_bits in let j = t.joined in omega arith
type_is_small number Indication method t = let h = t.five_bits in let m = t.three_bits in let l = t.four_bits in let j = t.joined in omega arith
type_is_small number Success method t = let h = t.five_bits in let m = t.three_bits in let l = t.four_bits in let j = t.joined in omega arith
type_is_small number Error method t = let h = t.five_bits in let m = t.three_bits in let l = t.four_bits in let j = t.joined in omega arith

pub message_is_none : (payload : List ℕ) (parts : Parts) → IsMessage payload parts → is_channel payload ≡ false
message_is_none payload parts m = ap is_channel m.spelled ∙ message_begins m.number (to_be_bytes w16 (length m.body) ++ to_be_bytes w32 MAGIC_COOKIE ++ parts.tid ++ m.body) (type_is_small m.number parts.class parts.method m.typed)

pub channel_is : (payload : List ℕ) (number : ℕ) (bytes : List ℕ) (past : ℕ) → AreBytes payload → channel_data_of payload ≡ Some (number, bytes, past) → is_channel payload ≡ true
unfolding channel_data_of
channel_is [] number bytes past fits e = absurd cc
channel_is (a ∷ []) number bytes past fits e = absurd cc
channel_is (a ∷ b ∷ []) number bytes past fits e = absurd cc
channel_is (a ∷ b ∷ c ∷ []) number bytes past fits e = absurd cc
channel_is (a ∷ b ∷ c ∷ d ∷ rest) number bytes past fits e =
    let second : b < 256 = fits 1 in
    grind (arith, nat_tests, e, second)

up_all : (x : Situation) (b : Bool) → IsServed x → arrival_path x ≡ Some Client → departure_path x ≡ Some Relay → is_channel x.arrives.payload ≡ b
    → AllHold (choose b (check_by (IsAnyChannelData x.arrives.payload) NotAnAnswer ∷ channel_up_checks x) (check_by (IsOf x.arrives.payload Indication SEND) NotAnAnswer ∷ send_checks x)) → AllHold (checks_of x)
up_all x b served f g e all = (
  served,
  path_at x (Some Client) (Some Relay) f g
      (subst (λ t. AllHold (choose t (check_by (IsAnyChannelData x.arrives.payload) NotAnAnswer ∷ channel_up_checks x) (check_by (IsOf x.arrives.payload Indication SEND) NotAnAnswer ∷ send_checks x))) (sym e) all),
)

down_all : (x : Situation) (b : Bool) → IsServed x → arrival_path x ≡ Some Relay → departure_path x ≡ Some Client → is_channel x.leaves.payload ≡ b
    → AllHold (choose b (check_by (IsAnyChannelData x.leaves.payload) Malformed ∷ channel_down_checks x) (check_by (IsMessage x.leaves.payload (answered x)) Malformed ∷ check_by (IsOf x.leaves.payload Indication DATA_METHOD) NotAnAnswer ∷ data_checks x)) → AllHold (checks_of x)
down_all x b served f g e all = (
  served,
  path_at x (Some Relay) (Some Client) f g
      (subst (λ t. AllHold (choose t (check_by (IsAnyChannelData x.leaves.payload) Malformed ∷ channel_down_checks x) (check_by (IsMessage x.leaves.payload (answered x)) Malformed ∷ check_by (IsOf x.leaves.payload Indication DATA_METHOD) NotAnAnswer ∷ data_checks x))) (sym e) all),
)

case_holds : (case : Case) (x : Situation) (change : Change) → AreBytes x.arrives.payload → AreBytes x.leaves.payload → IsServed x → Answers case x change → AllHold (checks_of x)
case_holds Binding x change up down served r = success_all x BINDING served r.0.response (binding_held x r.0)
case_holds ErrorCase x change up down served r = response_all x Error (arrival_parts x).method served r.0.response (inr refl) (error_held x r.0)
case_holds New x change up down served r = allocate_all x false served r.response (made_false x (made_it x x.allocation) refl r.first) (new_held x change r)
case_holds Again x change up down served r = allocate_all x true served r.0.response (made_true x x.allocation (again_is x r.0)) (again_held x r.0)
case_holds Refresh x change up down served r = success_all x REFRESH served r.response (refresh_held x change r)
case_holds Permission x change up down served r = success_all x CREATE_PERMISSION served r.response (permission_held x change r)
case_holds ChannelBind x change up down served r = success_all x CHANNEL_BIND served r.response (channel_bind_held x change r)
case_holds Send x change up down served r = up_all x false served r.0.goes.0 r.0.goes.1 (message_is_none x.arrives.payload (arrival_parts x) r.0.indication.0) (r.0.indication, send_held x r.0)
case_holds ChannelUp x change up down served r =
    up_all x true served r.0.goes.0 r.0.goes.1 (channel_is x.arrives.payload r.0.number x.leaves.payload r.0.past up r.0.says)
    (some_has (channel_data_of x.arrives.payload) (λ s. Unit {0}) (r.0.number, x.leaves.payload, r.0.past) r.0.says tt, channel_up_held x r.0)
case_holds Data x change up down served r = down_all x false served r.0.goes.0 r.0.goes.1 (message_is_none x.leaves.payload (answered x) r.0.indication.0) (r.0.indication.0, (r.0.indication, data_held x r.0))
case_holds ChannelDown x change up down served r =
    down_all x true served r.0.goes.0 r.0.goes.1 (channel_is x.leaves.payload r.0.number x.arrives.payload r.0.past down r.0.says)
    (some_has (channel_data_of x.leaves.payload) (λ s. Unit {0}) (r.0.number, x.arrives.payload, r.0.past) r.0.says tt, channel_down_held x r.0)

pub may_all : (x : Situation) (change : Change) → AreBytes x.arrives.payload → AreBytes x.leaves.payload → MayAnswer x change → AllHold (checks_of x)
unfolding MayAnswer
may_all x change up down may = case_holds may.1 x change up down may.0 may.2

-- ---- from the checks to the answer

chosen : (b : Bool) (these those : List Check) → AllHold (choose b these those) → ((b ≡ true) × AllHold these) ⊎ ((b ≡ false) × AllHold those)
chosen true these those h = inl (refl, h)
chosen false these those h = inr (refl, h)

has : {A : Type 0} (o : Option A) → IsSome o → (a : A) × (o ≡ Some a)
has (Some a) s = (a, refl)
has None s = absurd cc

abbrev May : Situation → Type 0
May x = (change : Change) × MayAnswer x change

new_change : (x : Situation) → IsServed x → IsResponse x Success ALLOCATE → made_it x x.allocation ≡ false → AllHold (new_checks x) → May x
new_change x served r e (by, (free, (transport, (has_relayed, (has_lifetime, rest))))) =
    let user = authentic x by in
    let relayed = has (address_named XOR_RELAYED_ADDRESS (answered x)) has_relayed in
    let seconds = has (lifetime_of (answered x)) has_lifetime in
    (_, new_may x served r e (by, (free, (transport, (has_relayed, (has_lifetime, rest))))) user.0 relayed.0 seconds.0 user.1 relayed.1 seconds.1)

allocate_change : (x : Situation) (b : Bool) → made_it x x.allocation ≡ b → IsServed x → IsResponse x Success ALLOCATE → AllHold (choose b (again_checks x) (new_checks x)) → May x
allocate_change x true e served r all = (Same, again_may x served r e all)
allocate_change x false e served r all = new_change x served r e all

refresh_change : (x : Situation) → IsServed x → IsResponse x Success REFRESH → AllHold (refresh_checks x) → May x
refresh_change x served r (by, (has_lifetime, rest)) = let seconds = has (lifetime_of (answered x)) has_lifetime in (_, refresh_may x served r (by, (has_lifetime, rest)) seconds.0 seconds.1)

permission_change : (x : Situation) → IsServed x → IsResponse x Success CREATE_PERMISSION → AllHold (permission_checks x) → May x
permission_change x served r (by, (there, (usable, (own, (some, rest))))) =
    let ips = some_and (peer_ips_of (arrival_parts x)) (λ l. 0 < length l) some in
    (_, permission_may x served r (by, (there, (usable, (own, (some, rest))))) ips.0 ips.1)

channel_bind_change : (x : Situation) → IsServed x → IsResponse x Success CHANNEL_BIND → AllHold (channel_bind_checks x) → May x
channel_bind_change x served r (by, (there, (usable, (own, (in_range, (names, rest)))))) =
    let number = some_and (channel_number_of (arrival_parts x)) IsChannelNumber in_range in
    let peer = has (address_named XOR_PEER_ADDRESS (arrival_parts x)) names in
    (_, channel_bind_may x served r (by, (there, (usable, (own, (in_range, (names, rest)))))) number.0 peer.0 number.1 peer.1)

abbrev Responds : Situation → ℕ → Type 0
Responds x method = IsResponse x Success method

of_method : (x : Situation) (m n : ℕ) → Responds x m → (m == n) ≡ true → Responds x n
of_method x m n r e = subst (Responds x) (eqb-true m n e) r

success_change : (x : Situation) (m : ℕ) → IsServed x → Responds x m → AllHold (success_checks x m) → May x
success_change x m served r all = elim (chosen (m == BINDING) _ _ all) [
  | inl a ↦ (Same, binding_may x served (of_method x m BINDING r a.0) a.1)
  | inr b ↦ elim (chosen (m == ALLOCATE) _ _ b.1) [
    | inl a ↦ allocate_change x (made_it x x.allocation) refl served (of_method x m ALLOCATE r a.0) a.1
    | inr c ↦ elim (chosen (m == REFRESH) _ _ c.1) [
      | inl a ↦ refresh_change x served (of_method x m REFRESH r a.0) a.1
      | inr d ↦ elim (chosen (m == CREATE_PERMISSION) _ _ d.1) [
        | inl a ↦ permission_change x served (of_method x m CREATE_PERMISSION r a.0) a.1
        | inr e ↦ elim (chosen (m == CHANNEL_BIND) _ _ e.1) [
          | inl a ↦ channel_bind_change x served (of_method x m CHANNEL_BIND r a.0) a.1
          | inr f ↦ absurd f.1.0
        ]
      ]
    ]
  ]
]

class_change : (x : Situation) (c : Class) → (answered x).class ≡ c → IsServed x → arrival_path x ≡ Some Client → departure_path x ≡ Some Client
    → IsMessage x.leaves.payload (answered x) → IsRequest x → IsItsResponse x → AllHold (class_checks x c) → May x
class_change x Success e served f g message request its all =
    success_change x (answered x).method served (record { forth = f; back = g; request = (request.0, request.1, sym its.0); response = (message, e, refl); same_id = its.1 }) all
class_change x Error e served f g message request its all =
    (Same, error_may x served (record { forth = f; back = g; request = (request.0, request.1, refl); response = (message, e, its.0); same_id = its.1 }) all)
class_change x Request e served f g message request its all = absurd (elim its.2 [ inl s ↦ (let h : Request ≡ Success = sym e ∙ s in cc) | inr s ↦ (let h : Request ≡ Error = sym e ∙ s in cc) ])
class_change x Indication e served f g message request its all = absurd (elim its.2 [ inl s ↦ (let h : Indication ≡ Success = sym e ∙ s in cc) | inr s ↦ (let h : Indication ≡ Error = sym e ∙ s in cc) ])

up_change : (x : Situation) → IsServed x → arrival_path x ≡ Some Client → departure_path x ≡ Some Relay → AllHold (up_checks x) → May x
up_change x served f g all = elim (chosen (is_channel x.arrives.payload) _ _ all) [
  | inl (is, (any, rest)) ↦ (let said = some_and (channel_data_of x.arrives.payload) (λ s. Unit {0}) any in (Same, channel_up_may x served (f, g) rest said.0.0 said.0.1 said.0.2 said.1))
  | inr (is, (indication, rest)) ↦ (Same, send_may x served (f, g) indication rest)
]

down_change : (x : Situation) → IsServed x → arrival_path x ≡ Some Relay → departure_path x ≡ Some Client → AllHold (down_checks x) → May x
down_change x served f g all = elim (chosen (is_channel x.leaves.payload) _ _ all) [
  | inl (is, (any, rest)) ↦ (let said = some_and (channel_data_of x.leaves.payload) (λ s. Unit {0}) any in (Same, channel_down_may x served (f, g) rest said.0.0 said.0.1 said.0.2 said.1))
  | inr (is, (message, (indication, rest))) ↦ (Same, data_may x served (f, g) indication rest)
]

path_change : (x : Situation) (a d : Option Path) → arrival_path x ≡ a → departure_path x ≡ d → IsServed x → AllHold (path_checks x a d) → May x
path_change x (Some Client) (Some Client) f g served (message, (request, (its, rest))) = class_change x (answered x).class refl served f g message request its rest
path_change x (Some Client) (Some Relay) f g served h = up_change x served f g h
path_change x (Some Relay) (Some Client) f g served h = down_change x served f g h
path_change x (Some Relay) (Some Relay) f g served h = absurd h.0
path_change x (Some Client) None f g served h = absurd h.0
path_change x (Some Relay) None f g served h = absurd h.0
path_change x None d f g served h = absurd h.0

pub all_may : (x : Situation) → AllHold (checks_of x) → (change : Change) × MayAnswer x change
all_may x h = path_change x (arrival_path x) (departure_path x) refl refl h.0 h.1
