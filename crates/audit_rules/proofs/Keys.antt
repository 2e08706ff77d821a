-- An act goes by the key of the user and the realm that its request names, and by no other key.
use Rattle.std.proofs.Common.{◌≡◌, ℕ, List, Option, Some, None, refl, sym, ap, subst, ◌∙◌}
use Rattle.std.specs.Prelude.{IsSomeAnd}
use Rattle.std.specs.Option.{option_and_then}
use Rattle.audit_stun.specs.declared.class.Class.{Class}
use Rattle.audit_stun.specs.declared.class.Class.TheVariants.{Request, Indication, Success, Error}
use Rattle.audit_stun.specs.declared.numbers.method.TheConstants.{BINDING, ALLOCATE, REFRESH, CREATE_PERMISSION, CHANNEL_BIND}
use Rattle.audit_stun.specs.declared.numbers.attribute.TheConstants.{USERNAME, REALM}
use Rattle.audit_stun.specs.Counted.{first_of}
use Rattle.audit_keys.specs.declared.keys.Keys.{Keys}
use Rattle.audit_keys.specs.Chosen.{chosen_key}
use Rattle.audit_keys.specs.Signed.{IsSigned}
use Rattle.audit_keys.specs.Authentic.{IsAuthentic}
use Rattle.audit_rules.specs.declared.path.Path.{Path}
use Rattle.audit_rules.specs.declared.path.Path.TheVariants.{Client, Relay}
use Rattle.audit_rules.specs.Allocation.{Allocation, Change}
use Rattle.audit_rules.specs.Answer.{MayAnswer, Answers, Case, Binding, Error as ErrorCase, New, Again, Refresh, Permission, ChannelBind, Send, ChannelUp, Data, ChannelDown}
use Rattle.audit_rules.specs.Keys.{KeyFor, AgreeOn, with_keys}
use Rattle.audit_rules.specs.Responses.{Fits}
use Rattle.audit_rules.specs.Said.{change_in, change_by_class, change_by_paths}
use Rattle.audit_rules.specs.Situation.{Situation, arrival_parts, answered, arrival_path, departure_path}
use Rattle.audit_rules.specs.Standing.{IsResponse, IsByUser, IsSignedBack, IsOwn, UsableNow, key_named}

module _ (key_for : KeyFor) (x : Situation) (agree : AgreeOn x.key_for key_for x.arrives.payload) where
  named_by : (u r : Option (List ℕ)) → first_of USERNAME (arrival_parts x).attributes ≡ u → first_of REALM (arrival_parts x).attributes ≡ r →
      option_and_then (λ user. option_and_then (x.key_for user) r) u ≡ option_and_then (λ user. option_and_then (key_for user) r) u
  named_by None r e f = refl
  named_by (Some user) None e f = refl
  named_by (Some user) (Some realm) e f = agree user realm e f

  same_named : key_named x.key_for (arrival_parts x) ≡ key_named key_for (arrival_parts x)
  same_named = ap (λ (k : Option Keys). option_and_then (chosen_key (arrival_parts x).attributes) k) (named_by (first_of USERNAME (arrival_parts x).attributes) (first_of REALM (arrival_parts x).attributes) refl refl)

  pub by_user : IsByUser x → IsByUser (with_keys key_for x)
  by_user h = (h.0, subst (λ (k : Option (List ℕ)). IsSomeAnd k (IsSigned x.arrives.payload)) same_named h.1)

  pub signed_back : IsSignedBack x → IsSignedBack (with_keys key_for x)
  signed_back h = subst (λ (k : Option (List ℕ)). IsSomeAnd k (IsSigned x.leaves.payload)) same_named h

  authentic : (user : List ℕ) → IsAuthentic x.key_for x.arrives.payload user → IsAuthentic key_for x.arrives.payload user
  authentic user a = record {
    realm = a.realm;
    nonce = a.nonce;
    keys = a.keys;
    key = a.key;
    names_user = a.names_user;
    names_realm = a.names_realm;
    has_nonce = a.has_nonce;
    known = sym (agree user a.realm a.names_user a.names_realm) ∙ a.known;
    chosen = a.chosen;
    signed = a.signed;
  }

  response : (class : Class) (method : ℕ) → IsResponse x class method → IsResponse (with_keys key_for x) class method
  response class method r = record { forth = r.forth; back = r.back; request = r.request; response = r.response; same_id = r.same_id }

  by_other : (found : Option Allocation) → IsSomeAnd found (λ a. UsableNow x a.until × (IsByUser x × (IsOwn x a → ⊥))) → IsSomeAnd found (λ a. UsableNow x a.until × (IsByUser (with_keys key_for x) × (IsOwn x a → ⊥)))
  by_other None h = h
  by_other (Some a) h = (h.0, (by_user h.1.0, h.1.1))

  pub fits : (code : ℕ) → Fits x code → Fits (with_keys key_for x) code
  fits code f = record {
    challenges = f.challenges;
    unknown = f.unknown;
    mismatch = f.mismatch;
    other_user = λ e. by_other x.allocation (f.other_user e);
    transport = f.transport;
  }

  case_keyed : (case : Case) (change : Change) → Answers case x change → Answers case (with_keys key_for x) change
  case_keyed Binding change r = (record { response = response Success BINDING r.0.response; mapped = r.0.mapped }, r.1)
  case_keyed ErrorCase change r = (record { response = response Error (arrival_parts x).method r.0.response; code = r.0.code; has_code = r.0.has_code; fits = fits r.0.code r.0.fits }, r.1)
  case_keyed New change r = record {
    response = response Success ALLOCATE r.response;
    first = r.first;
    user = r.user;
    authentic = authentic r.user r.authentic;
    free = r.free;
    served = r.served;
    relayed = r.relayed;
    names_relayed = r.names_relayed;
    in_range = r.in_range;
    seconds = r.seconds;
    lasts = r.lasts;
    mapped = r.mapped;
    signed = signed_back r.signed;
    changes = r.changes;
  }
  case_keyed Again change r = (
    record {
      response = response Success ALLOCATE r.0.response;
      user = r.0.user;
      authentic = authentic r.0.user r.0.authentic;
      same = r.0.same;
      mapped = r.0.mapped;
      signed = signed_back r.0.signed;
    },
    r.1,
  )
  case_keyed Refresh change r = record {
    response = response Success REFRESH r.response;
    user = r.user;
    authentic = authentic r.user r.authentic;
    seconds = r.seconds;
    lasts = r.lasts;
    allowed = r.allowed;
    signed = signed_back r.signed;
    changes = r.changes;
  }
  case_keyed Permission change r = record {
    response = response Success CREATE_PERMISSION r.response;
    user = r.user;
    authentic = authentic r.user r.authentic;
    own = r.own;
    ips = r.ips;
    names = r.names;
    some = r.some;
    signed = signed_back r.signed;
    changes = r.changes;
  }
  case_keyed ChannelBind change r = record {
    response = response Success CHANNEL_BIND r.response;
    user = r.user;
    authentic = authentic r.user r.authentic;
    number = r.number;
    has_number = r.has_number;
    in_range = r.in_range;
    peer = r.peer;
    names = r.names;
    own = r.own;
    signed = signed_back r.signed;
    changes = r.changes;
  }
  case_keyed Send change r = (record { goes = r.0.goes; indication = r.0.indication; relays = r.0.relays; peer = r.0.peer; sends = r.0.sends }, r.1)
  case_keyed ChannelUp change r = (record { goes = r.0.goes; number = r.0.number; past = r.0.past; says = r.0.says; relays = r.0.relays }, r.1)
  case_keyed Data change r = (record { goes = r.0.goes; indication = r.0.indication; relays = r.0.relays; peer = r.0.peer; sends = r.0.sends }, r.1)
  case_keyed ChannelDown change r = (record { goes = r.0.goes; number = r.0.number; past = r.0.past; says = r.0.says; padding = r.0.padding; relays = r.0.relays }, r.1)

  pub may_keyed : (change : Change) → MayAnswer x change → MayAnswer (with_keys key_for x) change
  unfolding MayAnswer
  may_keyed change may = (may.0, may.1, case_keyed may.1 change may.2)

-- a departure says the same change by other keys
module _ (key_for : KeyFor) (x : Situation) where
  class_keyed : (class : Class) → change_by_class x class ≡ change_by_class (with_keys key_for x) class
  class_keyed Success = refl
  class_keyed Error = refl
  class_keyed Request = refl
  class_keyed Indication = refl

  paths_keyed : (a d : Option Path) → change_by_paths x a d ≡ change_by_paths (with_keys key_for x) a d
  paths_keyed (Some Client) (Some Client) = class_keyed (answered x).class
  paths_keyed (Some Client) (Some Relay) = refl
  paths_keyed (Some Client) None = refl
  paths_keyed (Some Relay) d = refl
  paths_keyed None d = refl

  pub change_keyed : change_in x ≡ change_in (with_keys key_for x)
  change_keyed = paths_keyed (arrival_path x) (departure_path x)
