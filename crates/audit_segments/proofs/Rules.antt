-- The rules over the captured datagrams don't distinguish allocations that are alike.
use Rattle.std.proofs.Common.{◌≡◌, ◌⊎◌, inl, inr, ℕ, ◌==◌, ◌&&◌, Bool, true, false, cond, Option, Some, None, List, [], ◌∷◌, refl, sym, ◌∙◌, ap, subst}
use Rattle.std.specs.Prelude.{IsSomeAnd, option_map}
use Rattle.std.specs.List.{list_any}
use Rattle.std.specs.Str.{bytes_eq}
use Rattle.std.proofs.lemmas.Bool.{lt-leb, and_left}
use Rattle.audit_model.specs.declared.address.Addr.{Addr}
use Rattle.audit_model.specs.declared.pair.Pair.{Pair}
use Rattle.audit_model.specs.declared.policy.Policy.{Policy}
use Rattle.audit_model.specs.declared.sighting.SightId.{SightId}
use Rattle.audit_model.specs.declared.sighting.Sighting.{Sighting}
use Rattle.audit_model.specs.Window.{later}
use Rattle.audit_stun.specs.declared.class.Class.{Class}
use Rattle.audit_stun.specs.declared.class.Class.TheVariants.{Request, Indication, Success, Error}
use Rattle.audit_stun.specs.declared.numbers.method.TheConstants.{BINDING, ALLOCATE, REFRESH, CREATE_PERMISSION, CHANNEL_BIND}
use Rattle.audit_stun.specs.declared.numbers.attribute.TheConstants.{USERNAME, XOR_RELAYED_ADDRESS, XOR_PEER_ADDRESS}
use Rattle.audit_stun.specs.Counted.{first_of}
use Rattle.audit_expiry.specs.declared.lease.Lease.{Lease}
use Rattle.audit_expiry.specs.Lease.{IsUsable, IsGone, is_usable}
use Rattle.audit_rules.specs.declared.path.Path.{Path}
use Rattle.audit_rules.specs.declared.path.Path.TheVariants.{Client, Relay}
use Rattle.audit_rules.specs.declared.table.Channel.{Channel}
use Rattle.audit_rules.specs.Keys.{KeyFor}
use Rattle.audit_rules.specs.Allocation.{Allocation, Change, Same, Makes, Renews, Grants, Binds, Removes, applied, granted, bound, renewed, with_granted, with_bound}
use Rattle.audit_rules.specs.Allocating.{IsAgain, EndsNothing, IsRefreshed, seconds_after}
use Rattle.audit_rules.specs.Answer.{MayAnswer, Answers, Case, Binding, Error as ErrorCase, New, Again, Refresh, Permission, ChannelBind, Send, ChannelUp, Data, ChannelDown}
use Rattle.audit_rules.specs.FirstRule.{made_it}
use Rattle.audit_rules.specs.Granting.{NoConflict}
use Rattle.audit_rules.specs.Responses.{IsByOther, Fits}
use Rattle.audit_rules.specs.Said.{allocated, lengthened, permitted, channelled, change_by_method, change_by_class, change_by_paths, change_in}
use Rattle.audit_rules.specs.Situation.{Situation, arrival_parts, answered, arrival_path, departure_path}
use Rattle.audit_rules.specs.Standing.{IsResponse, IsByUser, WithUsable, NothingLasts, IsOwn, Permits, Carries}
use Rattle.audit_rules.specs.Values.{address_named, lifetime_of, channel_number_of, peer_ips_of, Names}
use Rattle.audit_server.specs.Captured.{situation_at, change_between, MayBetween, rules_of}
use Rattle.audit_server.specs.Lawful.{IsUsableAt}
use Rattle.audit_server.proofs.Lawful.{may_renews}
use Rattle.audit_segments.specs.PastGrace.{HasNoLease, HasNoChannel, HasNoAllocation, AreAlikeLeases, AreAlikeChannels, AreAlikeAllocations, AreBoth, AreAlikeEntries}
use Rattle.audit_segments.specs.Ignore.{IgnorePastGrace}
use Rattle.audit_segments.proofs.Entries.{one_refl, entry_sym, unusable}

module _ (policy : Policy) (key_for : KeyFor) (c : Pair) (moment : ℕ) (arrives leaves : Sighting) where
  abbrev X : Option Allocation → Situation
  X found = situation_at policy key_for c moment found arrives leaves

  abbrev One : Allocation → Allocation → Type 0
  One a b = AreAlikeAllocations policy.grace moment a b

  abbrev Found : Option Allocation → Option Allocation → Type 0
  Found x y = AreAlikeEntries policy.grace moment x y

  -- ---- what is usable, and what is past the grace

  with_none : (x : Option Allocation) (F : Allocation → Type 0) → HasNoAllocation policy.grace moment x → WithUsable (X x) F → ⊥
  with_none None F n h = h
  with_none (Some a) F n h = unusable policy.grace moment a.until n h.0

  with_both : (x y : Option Allocation) (F G : Allocation → Type 0) → ((a b : Allocation) → One a b → F a → G b) → AreBoth policy.grace One x y → WithUsable (X x) F → WithUsable (X y) G
  with_both None y F G f k h = absurd k
  with_both (Some a) None F G f k h = absurd k
  with_both (Some a) (Some b) F G f k h = (subst (λ (n : ℕ). IsUsable n moment policy.grace) k.until h.0, f a b k h.1)

  with_usable : (x y : Option Allocation) (F G : Allocation → Type 0) → ((a b : Allocation) → One a b → F a → G b) → Found x y → WithUsable (X x) F → WithUsable (X y) G
  with_usable x y F G f (inl n) h = absurd (with_none x F n.0 h)
  with_usable x y F G f (inr k) h = with_both x y F G f k h

  nothing_none : (y : Option Allocation) → HasNoAllocation policy.grace moment y → NothingLasts (X y)
  nothing_none None n = tt
  nothing_none (Some b) n = n.0

  nothing_both : (x y : Option Allocation) → AreBoth policy.grace One x y → NothingLasts (X x) → NothingLasts (X y)
  nothing_both None y k h = absurd k
  nothing_both (Some a) None k h = absurd k
  nothing_both (Some a) (Some b) k h = subst (λ (n : ℕ). IsGone n moment) k.until h

  nothing_lasts : (x y : Option Allocation) → Found x y → NothingLasts (X x) → NothingLasts (X y)
  nothing_lasts x y (inl n) h = nothing_none y n.1
  nothing_lasts x y (inr k) h = nothing_both x y k h

  own : (x y : Option Allocation) (a b : Allocation) → One a b → IsOwn (X x) a → IsOwn (X y) b
  own x y a b k h = h ∙ ap Some k.user

  lease_not : (o : Option Lease) → HasNoLease policy.grace moment o → IsSomeAnd o (λ lease. IsUsable lease.until moment policy.grace) → ⊥
  lease_not None n h = h
  lease_not (Some lease) n h = unusable policy.grace moment lease.until n h

  permits : (x y : Option Allocation) (ip : ℕ) (a b : Allocation) → One a b → Permits (X x) a ip → Permits (X y) b ip
  permits x y ip a b k h = elim (k.permissions ip) [
    | inl e ↦ subst (λ (o : Option Lease). IsSomeAnd o (λ lease. IsUsable lease.until moment policy.grace)) e h
    | inr n ↦ absurd (lease_not (a.permissions ip) n.0 h)
  ]

  channel_not : (peer : Addr) (o : Option Channel) → HasNoChannel policy.grace moment o → IsSomeAnd o (λ channel. (channel.peer ≡ peer) × IsUsable channel.lease.until moment policy.grace) → ⊥
  channel_not peer None n h = h
  channel_not peer (Some channel) n h = unusable policy.grace moment channel.lease.until n h.1

  carries : (x y : Option Allocation) (number : ℕ) (peer : Addr) (a b : Allocation) → One a b → Carries (X x) a number peer → Carries (X y) b number peer
  carries x y number peer a b k h = elim (k.channels number) [
    | inl e ↦ subst (λ (o : Option Channel). IsSomeAnd o (λ channel. (channel.peer ≡ peer) × IsUsable channel.lease.until moment policy.grace)) e h
    | inr n ↦ absurd (channel_not peer (a.channels number) n.0 h)
  ]

  channel_gone : (o : Option Channel) (channel : Channel) → HasNoChannel policy.grace moment o → o ≡ Some channel → IsGone channel.lease.until moment
  channel_gone o channel n e = (subst (HasNoChannel policy.grace moment) e n).0

  no_conflict : (x y : Option Allocation) (number : ℕ) (peer : Addr) (a b : Allocation) → One a b → NoConflict (X x) number peer a → NoConflict (X y) number peer b
  no_conflict x y number peer a b k h n channel is lasts = elim (k.channels n) [
    | inl e ↦ h n channel (e ∙ is) lasts
    | inr none ↦ absurd (lasts (channel_gone (b.channels n) channel none.1 is))
  ]

  -- ---- the answers

  module _ (x y : Option Allocation) (k : Found x y) where
    back : Found y x
    back = entry_sym policy.grace moment x y k

    response : (class : Class) (method : ℕ) → IsResponse (X x) class method → IsResponse (X y) class method
    response class method r = record { forth = r.forth; back = r.back; request = r.request; response = r.response; same_id = r.same_id }

    own_usable : WithUsable (X x) (IsOwn (X x)) → WithUsable (X y) (IsOwn (X y))
    own_usable h = with_usable x y (IsOwn (X x)) (IsOwn (X y)) (own x y) k h

    any_usable : WithUsable (X x) (λ a. Unit {0}) → WithUsable (X y) (λ a. Unit {0})
    any_usable h = with_usable x y (λ a. Unit {0}) (λ a. Unit {0}) (λ a b l u. u) k h

    any_back : WithUsable (X y) (λ a. Unit {0}) → WithUsable (X x) (λ a. Unit {0})
    any_back h = with_usable y x (λ a. Unit {0}) (λ a. Unit {0}) (λ a b l u. u) back h

    again_back : IsAgain (X y) → IsAgain (X x)
    again_back h = with_usable y x (λ a. a.id ≡ (arrival_parts (X y)).tid) (λ a. a.id ≡ (arrival_parts (X x)).tid) (λ a b l u. sym l.id ∙ u) back h

    by_other : IsByOther (X x) → IsByOther (X y)
    by_other h = with_usable x y (λ a. IsByUser (X x) × (IsOwn (X x) a → ⊥)) (λ a. IsByUser (X y) × (IsOwn (X y) a → ⊥)) (λ a b l u. (u.0, λ o. u.1 (o ∙ ap Some (sym l.user)))) k h

    fits : (code : ℕ) → Fits (X x) code → Fits (X y) code
    fits code f = record {
      challenges = f.challenges;
      unknown = f.unknown;
      mismatch = λ e. let m = f.mismatch e in ((λ i. any_usable (m.0 i)), (λ i. nothing_lasts x y k (m.1 i)));
      other_user = λ e. by_other (f.other_user e);
      transport = f.transport;
    }

    allowed : EndsNothing (X x) ⊎ IsRefreshed (X x) → EndsNothing (X y) ⊎ IsRefreshed (X y)
    allowed (inl e) = inl ((λ u. e.0 (any_back u)), e.1, e.2)
    allowed (inr u) = inr (own_usable u.0, u.1)

    case_too : (case : Case) (ch : Change) → Answers case (X x) ch → Answers case (X y) ch
    case_too Binding ch r = (record { response = response Success BINDING r.0.response; mapped = r.0.mapped }, r.1)
    case_too ErrorCase ch r = (record { response = response Error (arrival_parts (X x)).method r.0.response; code = r.0.code; has_code = r.0.has_code; fits = fits r.0.code r.0.fits }, r.1)
    case_too New ch r = record {
      response = response Success ALLOCATE r.response;
      first = λ h. r.first (again_back h);
      user = r.user;
      authentic = r.authentic;
      free = nothing_lasts x y k r.free;
      served = r.served;
      relayed = r.relayed;
      names_relayed = r.names_relayed;
      in_range = r.in_range;
      seconds = r.seconds;
      lasts = r.lasts;
      mapped = r.mapped;
      signed = r.signed;
      changes = r.changes;
    }
    case_too Again ch r = (
      record {
        response = response Success ALLOCATE r.0.response;
        user = r.0.user;
        authentic = r.0.authentic;
        same = with_usable x y (λ a. (a.id ≡ (arrival_parts (X x)).tid) × IsOwn (X x) a × Names XOR_RELAYED_ADDRESS (answered (X x)) a.relayed) (λ a. (a.id ≡ (arrival_parts (X y)).tid) × IsOwn (X y) a × Names XOR_RELAYED_ADDRESS (answered (X y)) a.relayed)
            (λ a b l u. (sym l.id ∙ u.0, own x y a b l u.1, u.2 ∙ ap Some l.relayed)) k r.0.same;
        mapped = r.0.mapped;
        signed = r.0.signed;
      },
      r.1,
    )
    case_too Refresh ch r = record {
      response = response Success REFRESH r.response;
      user = r.user;
      authentic = r.authentic;
      seconds = r.seconds;
      lasts = r.lasts;
      allowed = allowed r.allowed;
      signed = r.signed;
      changes = r.changes;
    }
    case_too Permission ch r = record {
      response = response Success CREATE_PERMISSION r.response;
      user = r.user;
      authentic = r.authentic;
      own = own_usable r.own;
      ips = r.ips;
      names = r.names;
      some = r.some;
      signed = r.signed;
      changes = r.changes;
    }
    case_too ChannelBind ch r = record {
      response = response Success CHANNEL_BIND r.response;
      user = r.user;
      authentic = r.authentic;
      number = r.number;
      has_number = r.has_number;
      in_range = r.in_range;
      peer = r.peer;
      names = r.names;
      own = with_usable x y (λ a. IsOwn (X x) a × NoConflict (X x) r.number r.peer a) (λ a. IsOwn (X y) a × NoConflict (X y) r.number r.peer a) (λ a b l u. (own x y a b l u.0, no_conflict x y r.number r.peer a b l u.1)) k r.own;
      signed = r.signed;
      changes = r.changes;
    }
    case_too Send ch r = (
      record {
        goes = r.0.goes;
        indication = r.0.indication;
        relays = with_usable x y (λ a. (leaves.from ≡ a.relayed) × Permits (X x) a leaves.to.ip) (λ a. (leaves.from ≡ a.relayed) × Permits (X y) a leaves.to.ip) (λ a b l u. (u.0 ∙ l.relayed, permits x y leaves.to.ip a b l u.1)) k r.0.relays;
        peer = r.0.peer;
        sends = r.0.sends;
      },
      r.1,
    )
    case_too ChannelUp ch r = (
      record {
        goes = r.0.goes;
        number = r.0.number;
        past = r.0.past;
        says = r.0.says;
        relays = with_usable x y (λ a. (leaves.from ≡ a.relayed) × Carries (X x) a r.0.number leaves.to) (λ a. (leaves.from ≡ a.relayed) × Carries (X y) a r.0.number leaves.to) (λ a b l u. (u.0 ∙ l.relayed, carries x y r.0.number leaves.to a b l u.1)) k r.0.relays;
      },
      r.1,
    )
    case_too Data ch r = (
      record {
        goes = r.0.goes;
        indication = r.0.indication;
        relays = with_usable x y (λ a. (arrives.to ≡ a.relayed) × Permits (X x) a arrives.from.ip) (λ a. (arrives.to ≡ a.relayed) × Permits (X y) a arrives.from.ip) (λ a b l u. (u.0 ∙ l.relayed, permits x y arrives.from.ip a b l u.1)) k r.0.relays;
        peer = r.0.peer;
        sends = r.0.sends;
      },
      r.1,
    )
    case_too ChannelDown ch r = (
      record {
        goes = r.0.goes;
        number = r.0.number;
        past = r.0.past;
        says = r.0.says;
        padding = r.0.padding;
        relays = with_usable x y (λ a. (arrives.to ≡ a.relayed) × Permits (X x) a arrives.from.ip × Carries (X x) a r.0.number arrives.from) (λ a. (arrives.to ≡ a.relayed) × Permits (X y) a arrives.from.ip × Carries (X y) a r.0.number arrives.from)
            (λ a b l u. (u.0 ∙ l.relayed, permits x y arrives.from.ip a b l u.1, carries x y r.0.number arrives.from a b l u.2)) k r.0.relays;
      },
      r.1,
    )

    may_answer : (ch : Change) → MayAnswer (X x) ch → MayAnswer (X y) ch
    unfolding MayAnswer
    may_answer ch m = (m.0, m.1, case_too m.1 ch m.2)

  -- ---- the change

  made_none : (y : Option Allocation) → HasNoAllocation policy.grace moment y → made_it (X y) y ≡ false
  made_none None n = refl
  made_none (Some b) n = and_left (is_usable b.until moment policy.grace) (bytes_eq b.id (arrival_parts (X (Some b))).tid) (lt-leb moment (later b.until policy.grace) n.1)

  made_both : (x y : Option Allocation) → AreBoth policy.grace One x y → made_it (X x) x ≡ made_it (X y) y
  made_both None y k = absurd k
  made_both (Some a) None k = absurd k
  made_both (Some a) (Some b) k =
      ap (λ (n : ℕ). is_usable n moment policy.grace && bytes_eq a.id (arrival_parts (X None)).tid) k.until ∙ ap (λ (i : List ℕ). is_usable b.until moment policy.grace && bytes_eq i (arrival_parts (X None)).tid) k.id

  made_same : (x y : Option Allocation) → Found x y → made_it (X x) x ≡ made_it (X y) y
  made_same x y (inl n) = made_none x n.0 ∙ sym (made_none y n.1)
  made_same x y (inr k) = made_both x y k

  module _ (x y : Option Allocation) (k : Found x y) where
    allocated_same : (a : Option Addr) (u : Option (List ℕ)) (n : Option ℕ) → allocated (X x) a u n ≡ allocated (X y) a u n
    allocated_same None u n = refl
    allocated_same (Some a) None n = refl
    allocated_same (Some a) (Some u) None = refl
    allocated_same (Some a) (Some u) (Some n) = refl

    abbrev the_rest : ℕ → Change
    the_rest m =
        cond (m == REFRESH) (lengthened moment (lifetime_of (answered (X x))))
        (cond (m == CREATE_PERMISSION) (permitted moment (peer_ips_of (arrival_parts (X x))))
        (cond (m == CHANNEL_BIND) (channelled moment (channel_number_of (arrival_parts (X x))) (address_named XOR_PEER_ADDRESS (arrival_parts (X x)))) Same))

    method_same : (m : ℕ) → change_by_method (X x) m ≡ change_by_method (X y) m
    method_same m =
        let a = address_named XOR_RELAYED_ADDRESS (answered (X x)) in
        let u = first_of USERNAME (arrival_parts (X x)).attributes in
        let n = lifetime_of (answered (X x)) in
        ap (λ (v : Bool). cond (m == ALLOCATE) (cond v Same (allocated (X x) a u n)) (the_rest m)) (made_same x y k)
        ∙ ap (λ (ch : Change). cond (m == ALLOCATE) (cond (made_it (X y) y) Same ch) (the_rest m)) (allocated_same a u n)

    class_same : (class : Class) → change_by_class (X x) class ≡ change_by_class (X y) class
    class_same Success = method_same (answered (X x)).method
    class_same Error = refl
    class_same Request = refl
    class_same Indication = refl

    paths_same : (a d : Option Path) → change_by_paths (X x) a d ≡ change_by_paths (X y) a d
    paths_same (Some Client) (Some Client) = class_same (answered (X x)).class
    paths_same (Some Client) (Some Relay) = refl
    paths_same (Some Client) None = refl
    paths_same (Some Relay) d = refl
    paths_same None d = refl

    pub change_same : change_in (X x) ≡ change_in (X y)
    change_same = paths_same (arrival_path (X x)) (departure_path (X x))

  -- ---- the allocation after an answer

  -- an answer that grants, binds or renews needs a usable allocation
  abbrev NeedsUsable : Change → Type 0 → Type 0
  NeedsUsable Same P = Unit {0}
  NeedsUsable (Makes made) P = Unit {0}
  NeedsUsable (Renews until) P = Unit {0}
  NeedsUsable (Grants ips until) P = P
  NeedsUsable (Binds number peer until permitted) P = P
  NeedsUsable Removes P = Unit {0}

  usable_in : (x : Option Allocation) (F : Allocation → Type 0) → WithUsable (X x) F → IsUsableAt policy.grace moment x
  usable_in None F h = h
  usable_in (Some a) F h = h.0

  either : (b : Bool) (P : Type 0) (until : ℕ) → NeedsUsable (cond b Removes (Renews until)) P
  either true P until = tt
  either false P until = tt

  case_needs : (x : Option Allocation) (case : Case) (ch : Change) → Answers case (X x) ch → NeedsUsable ch (IsUsableAt policy.grace moment x)
  case_needs x Binding ch r = subst (λ (d : Change). NeedsUsable d (IsUsableAt policy.grace moment x)) (sym r.1) tt
  case_needs x ErrorCase ch r = subst (λ (d : Change). NeedsUsable d (IsUsableAt policy.grace moment x)) (sym r.1) tt
  case_needs x New ch r = subst (λ (d : Change). NeedsUsable d (IsUsableAt policy.grace moment x)) (sym r.changes) tt
  case_needs x Again ch r = subst (λ (d : Change). NeedsUsable d (IsUsableAt policy.grace moment x)) (sym r.1) tt
  case_needs x Refresh ch r = subst (λ (d : Change). NeedsUsable d (IsUsableAt policy.grace moment x)) (sym r.changes) (either (r.seconds == 0) (IsUsableAt policy.grace moment x) (seconds_after moment r.seconds))
  case_needs x Permission ch r = subst (λ (d : Change). NeedsUsable d (IsUsableAt policy.grace moment x)) (sym r.changes) (usable_in x (IsOwn (X x)) r.own)
  case_needs x ChannelBind ch r = subst (λ (d : Change). NeedsUsable d (IsUsableAt policy.grace moment x)) (sym r.changes) (usable_in x (λ a. IsOwn (X x) a × NoConflict (X x) r.number r.peer a) r.own)
  case_needs x Send ch r = subst (λ (d : Change). NeedsUsable d (IsUsableAt policy.grace moment x)) (sym r.1) tt
  case_needs x ChannelUp ch r = subst (λ (d : Change). NeedsUsable d (IsUsableAt policy.grace moment x)) (sym r.1) tt
  case_needs x Data ch r = subst (λ (d : Change). NeedsUsable d (IsUsableAt policy.grace moment x)) (sym r.1) tt
  case_needs x ChannelDown ch r = subst (λ (d : Change). NeedsUsable d (IsUsableAt policy.grace moment x)) (sym r.1) tt

  may_needs : (x : Option Allocation) (ch : Change) → MayAnswer (X x) ch → NeedsUsable ch (IsUsableAt policy.grace moment x)
  unfolding MayAnswer
  may_needs x ch m = case_needs x m.1 ch m.2

  -- after a change usable allocations that were alike are alike
  usable_both : (f : Allocation → Allocation) → ((a b : Allocation) → One a b → One (f a) (f b)) → (x y : Option Allocation) → Found x y → IsUsableAt policy.grace moment x → Found (option_map f x) (option_map f y)
  usable_both f g None y k u = absurd u
  usable_both f g (Some a) y (inl n) u = absurd (unusable policy.grace moment a.until n.0 u)
  usable_both f g (Some a) None (inr k) u = absurd k
  usable_both f g (Some a) (Some b) (inr k) u = inr (g a b k)

  renewed_alike : (until : ℕ) (a b : Allocation) → One a b → One (renewed until a) (renewed until b)
  renewed_alike until a b k = record { relayed = k.relayed; user = k.user; id = k.id; until = refl; permissions = k.permissions; channels = k.channels }

  granted_alike : (p q : ℕ → Option Lease) (ips : List ℕ) (until ip : ℕ) → AreAlikeLeases policy.grace moment (p ip) (q ip) → AreAlikeLeases policy.grace moment (granted p ips until ip) (granted q ips until ip)
  granted_alike p q ips until ip k = elim (list_any (λ one. one == ip) ips) as (λ b. AreAlikeLeases policy.grace moment (cond b (Some (record { until = until })) (p ip)) (cond b (Some (record { until = until })) (q ip))) [ true ↦ inl refl | false ↦ k ]

  bound_alike : (p q : ℕ → Option Channel) (number : ℕ) (peer : Addr) (until n : ℕ) → AreAlikeChannels policy.grace moment (p n) (q n) → AreAlikeChannels policy.grace moment (bound p number peer until n) (bound q number peer until n)
  bound_alike p q number peer until n k = elim (number == n) as (λ b. AreAlikeChannels policy.grace moment (cond b (Some (record { peer = peer; lease = record { until = until } })) (p n)) (cond b (Some (record { peer = peer; lease = record { until = until } })) (q n))) [ true ↦ inl refl | false ↦ k ]

  with_granted_alike : (ips : List ℕ) (until : ℕ) (a b : Allocation) → One a b → One (with_granted ips until a) (with_granted ips until b)
  with_granted_alike ips until a b k = record { relayed = k.relayed; user = k.user; id = k.id; until = k.until; permissions = λ ip. granted_alike a.permissions b.permissions ips until ip (k.permissions ip); channels = k.channels }

  with_bound_alike : (number : ℕ) (peer : Addr) (until permitted : ℕ) (a b : Allocation) → One a b → One (with_bound number peer until permitted a) (with_bound number peer until permitted b)
  with_bound_alike number peer until permitted a b k = record {
    relayed = k.relayed;
    user = k.user;
    id = k.id;
    until = k.until;
    permissions = λ ip. granted_alike a.permissions b.permissions (peer.ip ∷ []) permitted ip (k.permissions ip);
    channels = λ n. bound_alike a.channels b.channels number peer until n (k.channels n);
  }

  applied_alike : (x y : Option Allocation) → Found x y → (ch : Change) → NeedsUsable ch (IsUsableAt policy.grace moment x) → ((until : ℕ) → ch ≡ Renews until → IsUsableAt policy.grace moment x) → Found (applied ch x) (applied ch y)
  applied_alike x y k Same u v = k
  applied_alike x y k (Makes made) u v = inr (one_refl policy.grace moment made)
  applied_alike x y k (Renews until) u v = usable_both (renewed until) (renewed_alike until) x y k (v until refl)
  applied_alike x y k (Grants ips until) u v = usable_both (with_granted ips until) (with_granted_alike ips until) x y k u
  applied_alike x y k (Binds number peer until permitted) u v = usable_both (with_bound number peer until permitted) (with_bound_alike number peer until permitted) x y k u
  applied_alike x y k Removes u v = inl (tt, tt)

  after_answer : (x y : Option Allocation) → Found x y → MayAnswer (X x) (change_in (X x)) → Found (applied (change_in (X x)) x) (applied (change_in (X x)) y)
  after_answer x y k m = applied_alike x y k (change_in (X x)) (may_needs x (change_in (X x)) m) (λ until e. may_renews (X x) (change_in (X x)) until m e)

-- ---- the rules

module _ (policy : Policy) (key_for : KeyFor) (c : Pair) (moment : ℕ) (x y : Option Allocation) (k : AreAlikeEntries policy.grace moment x y) where
  may_between : (arrives leaves : Option Sighting) → MayBetween policy key_for c moment x arrives leaves → MayBetween policy key_for c moment y arrives leaves
  may_between None leaves m = absurd m
  may_between (Some a) None m = absurd m
  may_between (Some a) (Some l) m =
      subst (λ (ch : Change). MayAnswer (situation_at policy key_for c moment y a l) ch) (change_same policy key_for c moment a l x y k)
      (may_answer policy key_for c moment a l x y k (change_in (situation_at policy key_for c moment x a l)) m)

  change_both : (arrives leaves : Option Sighting) → change_between policy key_for c moment x arrives leaves ≡ change_between policy key_for c moment y arrives leaves
  change_both None leaves = refl
  change_both (Some a) None = refl
  change_both (Some a) (Some l) = change_same policy key_for c moment a l x y k

  after_both : (arrives leaves : Option Sighting) → MayBetween policy key_for c moment x arrives leaves →
      AreAlikeEntries policy.grace moment (applied (change_between policy key_for c moment x arrives leaves) x) (applied (change_between policy key_for c moment x arrives leaves) y)
  after_both None leaves m = absurd m
  after_both (Some a) None m = absurd m
  after_both (Some a) (Some l) m = after_answer policy key_for c moment a l x y k m

pub ignore_past_grace : (policy : Policy) (key_for : KeyFor) (sighting : SightId → Option Sighting) → IgnorePastGrace (rules_of policy key_for sighting)
ignore_past_grace policy key_for sighting = record {
  may = λ c s t moment x y k m. may_between policy key_for c moment x y k (sighting s) (sighting t) m;
  change = λ c s t moment x y k. change_both policy key_for c moment x y k (sighting s) (sighting t);
  after = λ c s t moment x y k m. after_both policy key_for c moment x y k (sighting s) (sighting t) m;
}
