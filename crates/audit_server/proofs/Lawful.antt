-- The rules over the captured datagrams are lawful.
use Rattle.std.proofs.Common.{◌≡◌, inl, inr, ℕ, ◌*◌, ◌==◌, cond, List, Option, Some, None, Bool, true, false, refl, sym, subst, ◌∙◌}
use Rattle.std.specs.Prelude.{IsSomeAnd}
use Rattle.std.proofs.lemmas.Bool.{eq-eqb}
use Rattle.audit_model.specs.declared.address.Addr.{Addr}
use Rattle.audit_model.specs.declared.policy.Policy.{Policy}
use Rattle.audit_model.specs.declared.sighting.SightId.{SightId}
use Rattle.audit_model.specs.declared.sighting.Sighting.{Sighting}
use Rattle.audit_model.specs.Window.{later}
use Rattle.audit_stun.specs.declared.class.Class.{Class}
use Rattle.audit_stun.specs.declared.class.Class.TheVariants.{Request, Indication, Success, Error}
use Rattle.audit_stun.specs.declared.numbers.method.TheConstants.{ALLOCATE, REFRESH, CREATE_PERMISSION, CHANNEL_BIND}
use Rattle.audit_stun.specs.declared.numbers.attribute.TheConstants.{USERNAME, XOR_RELAYED_ADDRESS, XOR_PEER_ADDRESS}
use Rattle.audit_stun.specs.Counted.{first_of}
use Rattle.audit_keys.specs.Keys.{KeyFor}
use Rattle.audit_rules.specs.declared.path.Path.{Path}
use Rattle.audit_rules.specs.declared.path.Path.TheVariants.{Client, Relay}
use Rattle.audit_rules.specs.Allocation.{Allocation, Change, Same, Makes, Renews, Grants, Binds, Removes}
use Rattle.audit_rules.specs.Allocating.{AnswersRefresh, seconds_after}
use Rattle.audit_rules.specs.Answer.{MayAnswer, Answers, Case, Binding, Error as ErrorCase, New, Again, Refresh, Permission, ChannelBind, Send, ChannelUp, Data, ChannelDown}
use Rattle.audit_rules.specs.FirstRule.{made_it}
use Rattle.audit_rules.specs.Situation.{Situation, arrival_parts, answered, arrival_path, departure_path}
use Rattle.audit_rules.specs.Standing.{UsableNow, IsOwn}
use Rattle.audit_rules.specs.Values.{address_named, lifetime_of, channel_number_of, peer_ips_of}
use Rattle.audit_model.specs.declared.pair.Pair.{Pair}
use Rattle.audit_rules.specs.Said.{allocated, lengthened, permitted, channelled, change_by_method, change_by_class, change_by_paths, change_in}
use Rattle.audit_server.specs.Captured.{situation_at, change_between, MayBetween, rules_of}
use Rattle.audit_server.specs.Lawful.{IsUsableAt, AreLawful}

-- ---- only a usable allocation is renewed

abbrev IsRenewed : Change → Type 0 → Type 0
IsRenewed Same P = Unit {0}
IsRenewed (Makes made) P = Unit {0}
IsRenewed (Renews until) P = P
IsRenewed (Grants ips until) P = Unit {0}
IsRenewed (Binds number peer until permitted) P = Unit {0}
IsRenewed Removes P = Unit {0}

usable_of : (x : Situation) (found : Option Allocation) → IsSomeAnd found (λ a. UsableNow x a.until × IsOwn x a) → IsUsableAt x.policy.grace x.moment found
usable_of x None h = h
usable_of x (Some a) h = h.0

some_number : (a b : ℕ) → Some a ≡ Some b → a ≡ b
some_number a b h = let k : a ≡ b = cc in k

refresh_renews : (x : Situation) (c : Change) → AnswersRefresh x c → IsRenewed c (IsUsableAt x.policy.grace x.moment x.allocation)
refresh_renews x c r = subst (λ d. IsRenewed d (IsUsableAt x.policy.grace x.moment x.allocation)) (sym r.changes) (elim r.allowed [
  | inl e ↦ subst (λ b. IsRenewed (cond b Removes (Renews (seconds_after x.moment r.seconds))) (IsUsableAt x.policy.grace x.moment x.allocation)) (sym (eq-eqb r.seconds 0 (some_number r.seconds 0 (sym r.lasts ∙ e.2)))) tt
  | inr u ↦ elim (r.seconds == 0) as (λ b. IsRenewed (cond b Removes (Renews (seconds_after x.moment r.seconds))) (IsUsableAt x.policy.grace x.moment x.allocation)) [ true ↦ tt | false ↦ usable_of x x.allocation u.0 ]
])

case_renews : (case : Case) (x : Situation) (c : Change) → Answers case x c → IsRenewed c (IsUsableAt x.policy.grace x.moment x.allocation)
case_renews Binding x c r = subst (λ d. IsRenewed d (IsUsableAt x.policy.grace x.moment x.allocation)) (sym r.1) tt
case_renews ErrorCase x c r = subst (λ d. IsRenewed d (IsUsableAt x.policy.grace x.moment x.allocation)) (sym r.1) tt
case_renews New x c r = subst (λ d. IsRenewed d (IsUsableAt x.policy.grace x.moment x.allocation)) (sym r.changes) tt
case_renews Again x c r = subst (λ d. IsRenewed d (IsUsableAt x.policy.grace x.moment x.allocation)) (sym r.1) tt
case_renews Refresh x c r = refresh_renews x c r
case_renews Permission x c r = subst (λ d. IsRenewed d (IsUsableAt x.policy.grace x.moment x.allocation)) (sym r.changes) tt
case_renews ChannelBind x c r = subst (λ d. IsRenewed d (IsUsableAt x.policy.grace x.moment x.allocation)) (sym r.changes) tt
case_renews Send x c r = subst (λ d. IsRenewed d (IsUsableAt x.policy.grace x.moment x.allocation)) (sym r.1) tt
case_renews ChannelUp x c r = subst (λ d. IsRenewed d (IsUsableAt x.policy.grace x.moment x.allocation)) (sym r.1) tt
case_renews Data x c r = subst (λ d. IsRenewed d (IsUsableAt x.policy.grace x.moment x.allocation)) (sym r.1) tt
case_renews ChannelDown x c r = subst (λ d. IsRenewed d (IsUsableAt x.policy.grace x.moment x.allocation)) (sym r.1) tt

pub may_renews : (x : Situation) (c : Change) (until : ℕ) → MayAnswer x c → c ≡ Renews until → IsUsableAt x.policy.grace x.moment x.allocation
unfolding MayAnswer
may_renews x c until m e = subst (λ d. IsRenewed d (IsUsableAt x.policy.grace x.moment x.allocation)) e (case_renews m.1 x c m.2)

-- ---- and from the moment on

abbrev IsOnward : ℕ → Change → Type 0
IsOnward moment Same = Unit {0}
IsOnward moment (Makes made) = Unit {0}
IsOnward moment (Renews until) = (time : ℕ) × (until ≡ later moment time)
IsOnward moment (Grants ips until) = Unit {0}
IsOnward moment (Binds number peer until permitted) = Unit {0}
IsOnward moment Removes = Unit {0}

allocated_onward : (x : Situation) (a : Option Addr) (u : Option (List ℕ)) (n : Option ℕ) → IsOnward x.moment (allocated x a u n)
allocated_onward x None u n = tt
allocated_onward x (Some a) None n = tt
allocated_onward x (Some a) (Some u) None = tt
allocated_onward x (Some a) (Some u) (Some n) = tt

lengthened_onward : (moment : ℕ) (n : Option ℕ) → IsOnward moment (lengthened moment n)
lengthened_onward moment None = tt
lengthened_onward moment (Some n) = elim (n == 0) as (λ b. IsOnward moment (cond b Removes (Renews (seconds_after moment n)))) [ true ↦ tt | false ↦ (n * 1000000000, refl) ]

permitted_onward : (moment : ℕ) (ips : Option (List ℕ)) → IsOnward moment (permitted moment ips)
permitted_onward moment None = tt
permitted_onward moment (Some ips) = tt

channelled_onward : (moment : ℕ) (n : Option ℕ) (peer : Option Addr) → IsOnward moment (channelled moment n peer)
channelled_onward moment None peer = tt
channelled_onward moment (Some n) None = tt
channelled_onward moment (Some n) (Some peer) = tt

either : (moment : ℕ) (b : Bool) (c d : Change) → IsOnward moment c → IsOnward moment d → IsOnward moment (cond b c d)
either moment true c d h k = h
either moment false c d h k = k

method_onward : (x : Situation) (m : ℕ) → IsOnward x.moment (change_by_method x m)
method_onward x m =
    let a = address_named XOR_RELAYED_ADDRESS (answered x) in
    let u = first_of USERNAME (arrival_parts x).attributes in
    let n = lifetime_of (answered x) in
    let refresh = lengthened x.moment n in
    let permit = permitted x.moment (peer_ips_of (arrival_parts x)) in
    let bind = channelled x.moment (channel_number_of (arrival_parts x)) (address_named XOR_PEER_ADDRESS (arrival_parts x)) in
    either x.moment (m == ALLOCATE) _ _ (either x.moment (made_it x x.allocation) Same (allocated x a u n) tt (allocated_onward x a u n))
    (either x.moment (m == REFRESH) refresh _ (lengthened_onward x.moment n)
    (either x.moment (m == CREATE_PERMISSION) permit _ (permitted_onward x.moment (peer_ips_of (arrival_parts x)))
    (either x.moment (m == CHANNEL_BIND) bind Same (channelled_onward x.moment (channel_number_of (arrival_parts x)) (address_named XOR_PEER_ADDRESS (arrival_parts x))) tt)))

class_onward : (x : Situation) (class : Class) → IsOnward x.moment (change_by_class x class)
class_onward x Success = method_onward x (answered x).method
class_onward x Error = tt
class_onward x Request = tt
class_onward x Indication = tt

paths_onward : (x : Situation) (a d : Option Path) → IsOnward x.moment (change_by_paths x a d)
paths_onward x (Some Client) (Some Client) = class_onward x (answered x).class
paths_onward x (Some Client) (Some Relay) = tt
paths_onward x (Some Client) None = tt
paths_onward x (Some Relay) d = tt
paths_onward x None d = tt

onward : (x : Situation) (until : ℕ) → change_in x ≡ Renews until → (time : ℕ) × (until ≡ later x.moment time)
onward x until e = subst (IsOnward x.moment) e (paths_onward x (arrival_path x) (departure_path x))

-- ---- the rules

module _ (policy : Policy) (key_for : KeyFor) where
  usable_between : (c : Pair) (moment until : ℕ) (x : Option Allocation) (arrives leaves : Option Sighting) → MayBetween policy key_for c moment x arrives leaves → change_between policy key_for c moment x arrives leaves ≡ Renews until → IsUsableAt policy.grace moment x
  usable_between c moment until x None leaves m e = absurd m
  usable_between c moment until x (Some arrives) None m e = absurd m
  usable_between c moment until x (Some arrives) (Some leaves) m e = may_renews (situation_at policy key_for c moment x arrives leaves) (change_in (situation_at policy key_for c moment x arrives leaves)) until m e

  same_never : (until : ℕ) → Same ≡ Renews until → ⊥
  same_never until e = let k : Same ≡ Renews until = e in cc

  onward_between : (c : Pair) (moment until : ℕ) (x : Option Allocation) (arrives leaves : Option Sighting) → change_between policy key_for c moment x arrives leaves ≡ Renews until → (time : ℕ) × (until ≡ later moment time)
  onward_between c moment until x None leaves e = absurd (same_never until e)
  onward_between c moment until x (Some arrives) None e = absurd (same_never until e)
  onward_between c moment until x (Some arrives) (Some leaves) e = onward (situation_at policy key_for c moment x arrives leaves) until e

  pub lawful : (sighting : SightId → Option Sighting) → AreLawful (rules_of policy key_for sighting)
  lawful sighting = record {
    usable = λ c s t moment until x m e. usable_between c moment until x (sighting s) (sighting t) m e;
    onward = λ c s t moment until x e. onward_between c moment until x (sighting s) (sighting t) e;
  }
