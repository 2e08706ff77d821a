-- What the rules say of datagrams doesn't depend on their names.
use Rattle.std.proofs.Common.{◌≡◌, ℕ, ◌==◌, Bool, cond, Option, Some, None, List, refl, ◌∙◌, ap, subst}
use Rattle.audit_model.specs.declared.address.Addr.{Addr}
use Rattle.audit_model.specs.declared.pair.Pair.{Pair}
use Rattle.audit_model.specs.declared.policy.Policy.{Policy}
use Rattle.audit_model.specs.declared.sighting.SightId.{SightId}
use Rattle.audit_model.specs.declared.sighting.Sighting.{Sighting}
use Rattle.audit_stun.specs.declared.class.Class.{Class}
use Rattle.audit_stun.specs.declared.class.Class.TheVariants.{Request, Indication, Success, Error}
use Rattle.audit_stun.specs.declared.numbers.method.TheConstants.{BINDING, ALLOCATE, REFRESH, CREATE_PERMISSION, CHANNEL_BIND}
use Rattle.audit_stun.specs.declared.numbers.attribute.TheConstants.{USERNAME, XOR_RELAYED_ADDRESS, XOR_PEER_ADDRESS}
use Rattle.audit_stun.specs.Counted.{first_of}
use Rattle.audit_rules.specs.declared.path.Path.{Path}
use Rattle.audit_rules.specs.declared.path.Path.TheVariants.{Client, Relay}
use Rattle.audit_rules.specs.Keys.{KeyFor}
use Rattle.audit_rules.specs.Allocation.{Allocation, Change, Same}
use Rattle.audit_rules.specs.Answer.{MayAnswer, Answers, Case, Binding, Error as ErrorCase, New, Again, Refresh, Permission, ChannelBind, Send, ChannelUp, Data, ChannelDown}
use Rattle.audit_rules.specs.FirstRule.{made_it}
use Rattle.audit_rules.specs.Responses.{Fits}
use Rattle.audit_rules.specs.Said.{allocated, lengthened, permitted, channelled, change_by_method, change_by_class, change_by_paths, change_in}
use Rattle.audit_rules.specs.Situation.{Situation, arrival_parts, answered, arrival_path, departure_path}
use Rattle.audit_rules.specs.Standing.{IsResponse}
use Rattle.audit_rules.specs.Values.{address_named, lifetime_of, channel_number_of, peer_ips_of}
use Rattle.audit_server.specs.Captured.{situation_at, change_between, MayBetween}
use Rattle.audit_segments.specs.Renamed.{renamed, renamed_if}

module _ (policy : Policy) (key_for : KeyFor) (c : Pair) (moment : ℕ) (found : Option Allocation) (arrives leaves : Sighting) (i j : SightId) where
  abbrev X : Situation
  X = situation_at policy key_for c moment found arrives leaves

  abbrev Y : Situation
  Y = situation_at policy key_for c moment found (renamed i arrives) (renamed j leaves)

  response : (class : Class) (method : ℕ) → IsResponse X class method → IsResponse Y class method
  response class method r = record { forth = r.forth; back = r.back; request = r.request; response = r.response; same_id = r.same_id }

  fits : (code : ℕ) → Fits X code → Fits Y code
  fits code f = record { challenges = f.challenges; unknown = f.unknown; mismatch = f.mismatch; other_user = f.other_user; transport = f.transport }

  case_renamed : (case : Case) (ch : Change) → Answers case X ch → Answers case Y ch
  case_renamed Binding ch r = (record { response = response Success BINDING r.0.response; mapped = r.0.mapped }, r.1)
  case_renamed ErrorCase ch r = (record { response = response Error (arrival_parts X).method r.0.response; code = r.0.code; has_code = r.0.has_code; fits = fits r.0.code r.0.fits }, r.1)
  case_renamed New ch r = record {
    response = response Success ALLOCATE r.response;
    first = r.first;
    user = r.user;
    authentic = r.authentic;
    free = r.free;
    served = r.served;
    relayed = r.relayed;
    names_relayed = r.names_relayed;
    in_range = r.in_range;
    seconds = r.seconds;
    lasts = r.lasts;
    mapped = r.mapped;
    signed = r.signed;
    changes = r.changes;
  }
  case_renamed Again ch r = (record { response = response Success ALLOCATE r.0.response; user = r.0.user; authentic = r.0.authentic; same = r.0.same; mapped = r.0.mapped; signed = r.0.signed }, r.1)
  case_renamed Refresh ch r = record { response = response Success REFRESH r.response; user = r.user; authentic = r.authentic; seconds = r.seconds; lasts = r.lasts; allowed = r.allowed; signed = r.signed; changes = r.changes }
  case_renamed Permission ch r = record { response = response Success CREATE_PERMISSION r.response; user = r.user; authentic = r.authentic; own = r.own; ips = r.ips; names = r.names; some = r.some; signed = r.signed; changes = r.changes }
  case_renamed ChannelBind ch r = record { response = response Success CHANNEL_BIND r.response; user = r.user; authentic = r.authentic; number = r.number; has_number = r.has_number; in_range = r.in_range; peer = r.peer; names = r.names; own = r.own; signed = r.signed; changes = r.changes }
  case_renamed Send ch r = (record { goes = r.0.goes; indication = r.0.indication; relays = r.0.relays; peer = r.0.peer; sends = r.0.sends }, r.1)
  case_renamed ChannelUp ch r = (record { goes = r.0.goes; number = r.0.number; past = r.0.past; says = r.0.says; relays = r.0.relays }, r.1)
  case_renamed Data ch r = (record { goes = r.0.goes; indication = r.0.indication; relays = r.0.relays; peer = r.0.peer; sends = r.0.sends }, r.1)
  case_renamed ChannelDown ch r = (record { goes = r.0.goes; number = r.0.number; past = r.0.past; says = r.0.says; padding = r.0.padding; relays = r.0.relays }, r.1)

  pub answers_renamed : (ch : Change) → MayAnswer X ch → MayAnswer Y ch
  unfolding MayAnswer
  answers_renamed ch m = (m.0, m.1, case_renamed m.1 ch m.2)

  allocated_renamed : (a : Option Addr) (u : Option (List ℕ)) (n : Option ℕ) → allocated X a u n ≡ allocated Y a u n
  allocated_renamed None u n = refl
  allocated_renamed (Some a) None n = refl
  allocated_renamed (Some a) (Some u) None = refl
  allocated_renamed (Some a) (Some u) (Some n) = refl

  made_renamed : (o : Option Allocation) → made_it X o ≡ made_it Y o
  made_renamed None = refl
  made_renamed (Some a) = refl

  abbrev the_rest : ℕ → Change
  the_rest m =
      cond (m == REFRESH) (lengthened moment (lifetime_of (answered X)))
      (cond (m == CREATE_PERMISSION) (permitted moment (peer_ips_of (arrival_parts X)))
      (cond (m == CHANNEL_BIND) (channelled moment (channel_number_of (arrival_parts X)) (address_named XOR_PEER_ADDRESS (arrival_parts X))) Same))

  method_renamed : (m : ℕ) → change_by_method X m ≡ change_by_method Y m
  method_renamed m =
      let a = address_named XOR_RELAYED_ADDRESS (answered X) in
      let u = first_of USERNAME (arrival_parts X).attributes in
      let n = lifetime_of (answered X) in
      ap (λ (v : Bool). cond (m == ALLOCATE) (cond v Same (allocated X a u n)) (the_rest m)) (made_renamed found)
      ∙ ap (λ (ch : Change). cond (m == ALLOCATE) (cond (made_it Y found) Same ch) (the_rest m)) (allocated_renamed a u n)

  class_renamed : (class : Class) → change_by_class X class ≡ change_by_class Y class
  class_renamed Success = method_renamed (answered X).method
  class_renamed Error = refl
  class_renamed Request = refl
  class_renamed Indication = refl

  paths_renamed : (a d : Option Path) → change_by_paths X a d ≡ change_by_paths Y a d
  paths_renamed (Some Client) (Some Client) = class_renamed (answered X).class
  paths_renamed (Some Client) (Some Relay) = refl
  paths_renamed (Some Client) None = refl
  paths_renamed (Some Relay) d = refl
  paths_renamed None d = refl

  pub change_renamed : change_in X ≡ change_in Y
  change_renamed = paths_renamed (arrival_path X) (departure_path X)

module _ (policy : Policy) (key_for : KeyFor) (c : Pair) (moment : ℕ) (x : Option Allocation) (i j : SightId) where
  pub may_renamed : (a l : Option Sighting) → MayBetween policy key_for c moment x a l → MayBetween policy key_for c moment x (renamed_if i a) (renamed_if j l)
  may_renamed None l m = absurd m
  may_renamed (Some a) None m = absurd m
  may_renamed (Some a) (Some l) m =
      subst (λ (ch : Change). MayAnswer (situation_at policy key_for c moment x (renamed i a) (renamed j l)) ch) (change_renamed policy key_for c moment x a l i j)
      (answers_renamed policy key_for c moment x a l i j (change_in (situation_at policy key_for c moment x a l)) m)

  pub between_renamed : (a l : Option Sighting) → change_between policy key_for c moment x a l ≡ change_between policy key_for c moment x (renamed_if i a) (renamed_if j l)
  between_renamed None l = refl
  between_renamed (Some a) None = refl
  between_renamed (Some a) (Some l) = change_renamed policy key_for c moment x a l i j
