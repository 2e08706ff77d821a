-- What the client has in the table was given and asked for by earlier acts.
use Rattle.std.proofs.Common.{◌≡◌, ◌≢◌, inl, inr, ℕ, Bool, true, false, ◌==◌, cond, Option, Some, None, List, [], ◌∷◌, ◌++◌, refl, sym, ◌∙◌, ap, subst, arith, append_assoc}
use Rattle.std.specs.Prelude.{◌||◌, option_map}
use Rattle.std.specs.List.{fold, AllByRecursion, list_any}
use Rattle.std.specs.Bool.{MatchBool}
use Rattle.std.proofs.lemmas.Bool.{eqb-true, eqb-false, true≢false}
use Rattle.std.proofs.lemmas.List.{append-nil}
use Rattle.std.proofs.lemmas.Option.{none-some, same_Some}
use Rattle.audit_model.specs.declared.address.Addr.{Addr}
use Rattle.audit_model.specs.declared.sighting.SightId.{SightId}
use Rattle.audit_model.specs.declared.sighting.Sighting.{Sighting}
use Rattle.audit_stun.specs.declared.class.Class.TheVariants.{Error}
use Rattle.audit_stun.specs.declared.numbers.method.TheConstants.{BINDING, ALLOCATE, REFRESH, CREATE_PERMISSION, CHANNEL_BIND}
use Rattle.audit_stun.specs.declared.numbers.attribute.TheConstants.{XOR_RELAYED_ADDRESS, XOR_PEER_ADDRESS}
use Rattle.audit_keys.specs.Authentic.{IsAuthentic}
use Rattle.audit_sightings.specs.Intake.{Taken, sighting_at}
use Rattle.audit_expiry.specs.declared.lease.Lease.{Lease}
use Rattle.audit_rules.specs.declared.table.Channel.{Channel}
use Rattle.audit_rules.specs.declared.path.Path.TheVariants.{Client, Relay}
use Rattle.audit_rules.specs.Allocation.{Allocation, Change, Same, Renews, Removes, applied, with_granted, with_bound, granted}
use Rattle.audit_rules.specs.Allocating.{AnswersNew, AnswersAgain, AnswersRefresh, seconds_after}
use Rattle.audit_rules.specs.Granting.{AnswersPermission, AnswersChannelBind, NoConflict}
use Rattle.audit_rules.specs.Answer.{MayAnswer, Answers, Case, Binding, Error as ErrorCase, New, Again, Refresh, Permission, ChannelBind, Send, ChannelUp, Data, ChannelDown}
use Rattle.audit_rules.specs.Situation.{Situation, arrival_parts, answered}
use Rattle.audit_rules.specs.Standing.{UsableNow, IsOwn}
use Rattle.audit_rules.specs.Values.{address_named, lifetime_of}
use Rattle.audit_server.specs.Step.{Step, Move, In, Act, Out}
use Rattle.audit_model.specs.declared.pair.Pair.{Pair}
use Rattle.audit_server.specs.State.{State, after, table_after, acted}
use Rattle.audit_server.specs.Run.{MayMove, RunFrom}
use Rattle.audit_model.specs.Sames.{same_client}
use Rattle.audit_rules.specs.Said.{change_in}
use Rattle.audit_server.specs.Captured.{situation_at, change_between, MayBetween}
use Rattle.audit_model.proofs.Sames.{client_true, client_same, client_apart}
use Rattle.audit_whole.specs.CaptureRun.{rules_for}
use Rattle.audit_rules.specs.Keys.{KeyFor}
use Rattle.audit_whole.specs.Says.{Said, Nothing, Allocates, Refreshes, Permits, Channels, says}
use Rattle.audit_whole.specs.Lasting.{situation_of, IsAct, GoesOn, GoesOnBetween, GoesOnBy, Lasts, Given}
use Rattle.audit_whole.specs.Granted.{PermitsIp, Permitted, LeavesChannel, BoundTo}
use Rattle.audit_whole.proofs.Saying.{said_at, said_response, said_success, same_said, some_in}

-- not the same client is another
client_false : (a b : Pair) → same_client a b ≡ false → a ≢ b
client_false a b h e = true≢false (sym (client_same a b e) ∙ h)

module _ (taken : Taken) (key_for : KeyFor) (c : Pair) where
  -- ---- one step more

  module _ (user id : List ℕ) (relayed : Addr) where
    on_said : (said : Said) (payload : List ℕ) (moment until : ℕ) (P Q : ℕ → Type 0) → ((u : ℕ) → P u → Q u) → GoesOn taken key_for c user id relayed said payload moment until P → GoesOn taken key_for c user id relayed said payload moment until Q
    on_said Nothing payload moment until P Q f h = f until h
    on_said (Allocates tid address seconds) payload moment until P Q f h = (h.0, h.1, f until h.2)
    on_said (Refreshes None) payload moment until P Q f h = h
    on_said (Refreshes (Some seconds)) payload moment until P Q f h = (h.0, h.1, h.2, f (seconds_after moment seconds) h.3)
    on_said (Permits ips) payload moment until P Q f h = f until h
    on_said (Channels number peer) payload moment until P Q f h = f until h

    on_between : (arrives leaves : Option Sighting) (moment until : ℕ) (P Q : ℕ → Type 0) → ((u : ℕ) → P u → Q u) → GoesOnBetween taken key_for c user id relayed arrives leaves moment until P → GoesOnBetween taken key_for c user id relayed arrives leaves moment until Q
    on_between None leaves moment until P Q f h = f until h
    on_between (Some arrives) None moment until P Q f h = f until h
    on_between (Some arrives) (Some leaves) moment until P Q f h = on_said (says (situation_of taken key_for c moment arrives leaves)) arrives.payload moment until P Q f h

    on_by : (move : Move) (moment until : ℕ) (P Q : ℕ → Type 0) → ((u : ℕ) → P u → Q u) → GoesOnBy taken key_for c user id relayed move moment until P → GoesOnBy taken key_for c user id relayed move moment until Q
    on_by (In s) moment until P Q f h = f until h
    on_by (Act d s t) moment until P Q f h =
        elim (same_client d c) as (λ b. MatchBool b (GoesOnBetween taken key_for c user id relayed (sighting_at taken s) (sighting_at taken t) moment until P) (P until) → MatchBool b (GoesOnBetween taken key_for c user id relayed (sighting_at taken s) (sighting_at taken t) moment until Q) (Q until)) [
          | true ↦ λ k. on_between (sighting_at taken s) (sighting_at taken t) moment until P Q f k
          | false ↦ λ k. f until k
        ] h
    on_by (Out t) moment until P Q f h = f until h

    lasts_more : (es : List Step) (e : Step) (end until next : ℕ) → Lasts taken key_for c user id relayed es end until → GoesOnBy taken key_for c user id relayed e.move e.moment end (λ u. u ≡ next) → Lasts taken key_for c user id relayed (es ++ e ∷ []) next until
    lasts_more [] e end until next l m = subst (λ (u : ℕ). GoesOnBy taken key_for c user id relayed e.move e.moment u (λ v. v ≡ next)) (sym l) m
    lasts_more (d ∷ es) e end until next l m = on_by d.move d.moment until (Lasts taken key_for c user id relayed es end) (Lasts taken key_for c user id relayed (es ++ e ∷ []) next) (λ u h. lasts_more es e end u next h m) l

    given_more : (end next : ℕ) (before since : List Step) (e : Step) → Given taken key_for c user id relayed end before since → GoesOnBy taken key_for c user id relayed e.move e.moment end (λ u. u ≡ next) → Given taken key_for c user id relayed next (before ++ e ∷ []) (since ++ e ∷ [])
    given_more end next before since e k m = record {
      first = k.first;
      act = k.act;
      whole = sym (append_assoc k.first (k.act ∷ since) (e ∷ [])) ∙ ap (λ l. l ++ e ∷ []) k.whole;
      arrives = k.arrives;
      leaves = k.leaves;
      is_act = k.is_act;
      seconds = k.seconds;
      allocates = k.allocates;
      authentic = k.authentic;
      lasts = lasts_more since e end (seconds_after k.act.moment k.seconds) next k.lasts m;
    }

  permitted_more : (user : List ℕ) (ip until : ℕ) (since : List Step) (e : Step) → Permitted taken key_for c user ip until since → Permitted taken key_for c user ip until (since ++ e ∷ [])
  permitted_more user ip until since e k = record {
    earlier = k.earlier;
    act = k.act;
    later' = k.later' ++ e ∷ [];
    whole = sym (append_assoc k.earlier (k.act ∷ k.later') (e ∷ [])) ∙ ap (λ l. l ++ e ∷ []) k.whole;
    arrives = k.arrives;
    leaves = k.leaves;
    is_act = k.is_act;
    permits = k.permits;
    authentic = k.authentic;
    until_is = k.until_is;
  }

  all_more : (P : Step → Type 0) (es : List Step) (e : Step) → AllByRecursion P es → P e → AllByRecursion P (es ++ e ∷ [])
  all_more P [] e h p = (p, tt)
  all_more P (d ∷ es) e h p = (h.0, all_more P es e h.1 p)

  bound_more : (user : List ℕ) (number until : ℕ) (peer : Addr) (since : List Step) (e : Step) → BoundTo taken key_for c user number peer until since → LeavesChannel taken key_for c number e → BoundTo taken key_for c user number peer until (since ++ e ∷ [])
  bound_more user number until peer since e k l = record {
    earlier = k.earlier;
    act = k.act;
    later' = k.later' ++ e ∷ [];
    whole = sym (append_assoc k.earlier (k.act ∷ k.later') (e ∷ [])) ∙ ap (λ l. l ++ e ∷ []) k.whole;
    arrives = k.arrives;
    leaves = k.leaves;
    is_act = k.is_act;
    binds = k.binds;
    last = all_more (LeavesChannel taken key_for c number) k.later' e k.last l;
    authentic = k.authentic;
    until_is = k.until_is;
  }

  -- ---- what the client has was given, and asked for

  pub record Kept (before : List Step) (a : Allocation) : Type 0 where
    pub since : List Step
    pub sent : Given taken key_for c a.user a.id a.relayed a.until before since
    pub permissions : (ip : ℕ) (lease : Lease) → a.permissions ip ≡ Some lease → Permitted taken key_for c a.user ip lease.until since
    pub channels : (number : ℕ) (channel : Channel) → a.channels number ≡ Some channel → BoundTo taken key_for c a.user number channel.peer channel.lease.until since

  abbrev pub IsKept : List Step → Option Allocation → Type 0
  IsKept before None = Unit {0}
  IsKept before (Some a) = Kept before a

  -- a step that leaves all as it is
  kept_same : (before : List Step) (e : Step) (x : Option Allocation) → ((a : Allocation) → x ≡ Some a → GoesOnBy taken key_for c a.user a.id a.relayed e.move e.moment a.until (λ u. u ≡ a.until)) → ((number : ℕ) → LeavesChannel taken key_for c number e) → IsKept before x → IsKept (before ++ e ∷ []) x
  kept_same before e None f l k = tt
  kept_same before e (Some a) f l k = record {
    since = k.since ++ e ∷ [];
    sent = given_more a.user a.id a.relayed a.until a.until before k.since e k.sent (f a refl);
    permissions = λ ip lease h. permitted_more a.user ip lease.until k.since e (k.permissions ip lease h);
    channels = λ number channel h. bound_more a.user number channel.lease.until channel.peer k.since e (k.channels number channel h) (l number);
  }

  -- ---- steps of others

  no_act : (e : Step) (number : ℕ) → ((s t : SightId) → e.move ≢ Act c s t) → LeavesChannel taken key_for c number e
  no_act e number f arrives leaves k peer h = f k.sight k.gives k.is

  other_act : (user id : List ℕ) (relayed : Addr) (d : Pair) (s t : SightId) (moment until : ℕ) → d ≢ c → GoesOnBy taken key_for c user id relayed (Act d s t) moment until (λ u. u ≡ until)
  other_act user id relayed d s t moment until ne = subst (λ (b : Bool). MatchBool b (GoesOnBetween taken key_for c user id relayed (sighting_at taken s) (sighting_at taken t) moment until (λ u. u ≡ until)) (until ≡ until)) (sym (client_apart d c ne)) refl

  -- ---- acts of the client

  -- it isn't a binding of this number
  abbrev NotFor : ℕ → Said → Type 0
  NotFor number Nothing = Unit {0}
  NotFor number (Allocates id relayed seconds) = Unit {0}
  NotFor number (Refreshes seconds) = Unit {0}
  NotFor number (Permits ips) = Unit {0}
  NotFor number (Channels None peer) = Unit {0}
  NotFor number (Channels (Some n) peer) = n ≢ number

  not_for : (number : ℕ) (peer : Option Addr) (said : Said) → NotFor number said → said ≡ Channels (Some number) peer → ⊥
  not_for number peer said n e = (subst (NotFor number) e n) refl

  act_is : (s t x y : SightId) → Act c s t ≡ Act c x y → (s ≡ x) × (t ≡ y)
  act_is s t x y h = ((let i : s ≡ x = cc in i), (let j : t ≡ y = cc in j))

  module _ (s t : SightId) (moment : ℕ) (arrives leaves : Sighting) (arrived : sighting_at taken s ≡ Some arrives) (left : sighting_at taken t ≡ Some leaves) where
    the_step : Step
    the_step = record { moment = moment; move = Act c s t }

    leaves_channel : (said : Said) → says (situation_of taken key_for c moment arrives leaves) ≡ said → (number : ℕ) → NotFor number said → LeavesChannel taken key_for c number (record { moment = moment; move = Act c s t })
    leaves_channel said is number n a l k peer h =
        let e = act_is s t k.sight k.gives k.is in
        let i : arrives ≡ a = same_Some arrives a (sym arrived ∙ ap (sighting_at taken) e.0 ∙ k.arrived) in
        let j : leaves ≡ l = same_Some leaves l (sym left ∙ ap (sighting_at taken) e.1 ∙ k.left) in
        not_for number peer said n (sym is ∙ ap (λ y. says (situation_of taken key_for c moment y leaves)) i ∙ ap (λ y. says (situation_of taken key_for c moment a y)) j ∙ h)

    is_act_here : IsAct taken key_for c (record { moment = moment; move = Act c s t }) arrives leaves
    is_act_here = record { sight = s; gives = t; is = refl; arrived = arrived; left = left }

    goes_on : (user id : List ℕ) (relayed : Addr) (said : Said) (until : ℕ) (rest : ℕ → Type 0) → says (situation_of taken key_for c moment arrives leaves) ≡ said → GoesOn taken key_for c user id relayed said arrives.payload moment until rest →
        GoesOnBy taken key_for c user id relayed (Act c s t) moment until rest
    goes_on user id relayed said until rest is h =
        subst (λ (b : Bool). MatchBool b (GoesOnBetween taken key_for c user id relayed (sighting_at taken s) (sighting_at taken t) moment until rest) (rest until)) (sym (client_same c c refl))
        (subst (λ (o : Option Sighting). GoesOnBetween taken key_for c user id relayed o (sighting_at taken t) moment until rest) (sym arrived)
        (subst (λ (o : Option Sighting). GoesOnBetween taken key_for c user id relayed (Some arrives) o moment until rest) (sym left)
        (subst (λ (y : Said). GoesOn taken key_for c user id relayed y arrives.payload moment until rest) (sym is) h)))

    module _ (before : List Step) (found : Option Allocation) (kept : IsKept before found) where
      abbrev X : Situation
      X = situation_at taken.policy key_for c moment found arrives leaves

      abbrev After : Change → Type 0
      After ch = IsKept (before ++ record { moment = moment; move = Act c s t } ∷ []) (applied ch found)

      said_here : (said : Said) → says X ≡ said → says (situation_of taken key_for c moment arrives leaves) ≡ said
      said_here said h = same_said taken.policy key_for c moment found arrives leaves ∙ h

      nothing : (ch : Change) → says X ≡ Nothing → ch ≡ Same → After ch
      nothing ch h e = subst After (sym e) (kept_same before (record { moment = moment; move = Act c s t }) found
          (λ a is. goes_on a.user a.id a.relayed Nothing a.until (λ u. u ≡ a.until) (said_here Nothing h) refl)
          (λ number. leaves_channel Nothing (said_here Nothing h) number tt) kept)

      again : (ch : Change) → AnswersAgain X → ch ≡ Same → After ch
      again ch r e =
          let said : Said = Allocates (arrival_parts X).tid (address_named XOR_RELAYED_ADDRESS (answered X)) (lifetime_of (answered X)) in
          let is : says (situation_of taken key_for c moment arrives leaves) ≡ said = said_here said (said_success X ALLOCATE r.response) in
          subst After (sym e) (kept_same before (record { moment = moment; move = Act c s t }) found
          (λ a there. let k = some_in found (λ b. UsableNow X b.until × ((b.id ≡ (arrival_parts X).tid) × IsOwn X b × (address_named XOR_RELAYED_ADDRESS (answered X) ≡ Some b.relayed))) a there r.same in
          goes_on a.user a.id a.relayed said a.until (λ u. u ≡ a.until) is (sym k.1.0, k.1.2, refl))
          (λ number. leaves_channel said is number tt) kept)

      new : (ch : Change) → AnswersNew X ch → After ch
      new ch r =
          let said : Said = Allocates (arrival_parts X).tid (Some r.relayed) (Some r.seconds) in
          let is : says (situation_of taken key_for c moment arrives leaves) ≡ said = said_here said (said_success X ALLOCATE r.response ∙ ap (λ o. Allocates (arrival_parts X).tid o (lifetime_of (answered X))) r.names_relayed ∙ ap (Allocates (arrival_parts X).tid (Some r.relayed)) r.lasts.0) in
          subst After (sym r.changes) (record {
            since = [];
            sent = record {
              first = before;
              act = record { moment = moment; move = Act c s t };
              whole = refl;
              arrives = arrives;
              leaves = leaves;
              is_act = is_act_here;
              seconds = r.seconds;
              allocates = is;
              authentic = r.authentic;
              lasts = refl;
            };
            permissions = λ ip lease h. absurd (none-some lease h);
            channels = λ number channel h. absurd (none-some channel h);
          })

      refresh_some : (a : Allocation) → found ≡ Some a → (ch : Change) (r : AnswersRefresh X ch) → IsKept before (Some a) → IsKept (before ++ record { moment = moment; move = Act c s t } ∷ []) (applied (cond (r.seconds == 0) Removes (Renews (seconds_after moment r.seconds))) (Some a))
      refresh_some a there ch r k =
          let said : Said = Refreshes (Some r.seconds) in
          let is : says (situation_of taken key_for c moment arrives leaves) ≡ said = said_here said (said_success X REFRESH r.response ∙ ap Refreshes r.lasts) in
          elim (r.seconds == 0) as (λ b. (r.seconds == 0) ≡ b → IsKept (before ++ record { moment = moment; move = Act c s t } ∷ []) (applied (cond b Removes (Renews (seconds_after moment r.seconds))) (Some a))) [
            | true ↦ λ q. tt
            | false ↦ λ q.
                let ne : r.seconds ≢ 0 = eqb-false r.seconds 0 q in
                elim r.allowed [
                  | inl e ↦ absurd (ne (same_Some r.seconds 0 (sym r.lasts ∙ e.2)))
                  | inr u ↦
                      let own = some_in found (λ b. UsableNow X b.until × IsOwn X b) a there u.0 in
                      let by : r.user ≡ a.user = same_Some r.user a.user (sym r.authentic.names_user ∙ own.1) in
                      record {
                        since = k.since ++ record { moment = moment; move = Act c s t } ∷ [];
                        sent = given_more a.user a.id a.relayed a.until (seconds_after moment r.seconds) before k.since (record { moment = moment; move = Act c s t }) k.sent
                            (goes_on a.user a.id a.relayed said a.until (λ v. v ≡ seconds_after moment r.seconds) is (omega arith, subst (IsAuthentic key_for arrives.payload) by r.authentic, own.0, refl));
                        permissions = λ ip lease h. permitted_more a.user ip lease.until k.since (record { moment = moment; move = Act c s t }) (k.permissions ip lease h);
                        channels = λ number channel h. bound_more a.user number channel.lease.until channel.peer k.since (record { moment = moment; move = Act c s t }) (k.channels number channel h) (leaves_channel said is number tt);
                      }
                ]
          ] refl

      refresh_by : (o : Option Allocation) → found ≡ o → (ch : Change) (r : AnswersRefresh X ch) → IsKept before o → IsKept (before ++ record { moment = moment; move = Act c s t } ∷ []) (applied (cond (r.seconds == 0) Removes (Renews (seconds_after moment r.seconds))) o)
      refresh_by None there ch r k = elim (r.seconds == 0) as (λ b. IsKept (before ++ record { moment = moment; move = Act c s t } ∷ []) (applied (cond b Removes (Renews (seconds_after moment r.seconds))) None)) [ true ↦ tt | false ↦ tt ]
      refresh_by (Some a) there ch r k = refresh_some a there ch r k

      refresh : (ch : Change) → AnswersRefresh X ch → After ch
      refresh ch r = subst After (sym r.changes) (refresh_by found refl ch r kept)

      last_is : (es : List Step) (e : Step) → es ++ e ∷ [] ≡ es ++ e ∷ []
      last_is es e = refl

      -- the permissions after some are granted
      grant_by : (a : Allocation) (ips : List ℕ) (said : Said) → says (situation_of taken key_for c moment arrives leaves) ≡ said → IsAuthentic key_for arrives.payload a.user → (k : Kept before a) → ((ip : ℕ) → list_any (λ one. one == ip) ips ≡ true → PermitsIp said ip) →
          (ip : ℕ) (lease : Lease) → granted a.permissions ips (seconds_after moment 300) ip ≡ Some lease → Permitted taken key_for c a.user ip lease.until (k.since ++ record { moment = moment; move = Act c s t } ∷ [])
      grant_by a ips said is auth k f ip lease h =
          elim (list_any (λ one. one == ip) ips) as (λ b. list_any (λ one. one == ip) ips ≡ b → cond b (Some (record { until = seconds_after moment 300 })) (a.permissions ip) ≡ Some lease → Permitted taken key_for c a.user ip lease.until (k.since ++ record { moment = moment; move = Act c s t } ∷ [])) [
            | true ↦ λ q e. record {
              earlier = k.since;
              act = record { moment = moment; move = Act c s t };
              later' = [];
              whole = refl;
              arrives = arrives;
              leaves = leaves;
              is_act = is_act_here;
              permits = subst (λ (y : Said). PermitsIp y ip) (sym is) (f ip q);
              authentic = auth;
              until_is = ap (λ (l : Lease). l.until) (sym (same_Some (record { until = seconds_after moment 300 }) lease e));
            }
            | false ↦ λ q e. permitted_more a.user ip lease.until k.since (record { moment = moment; move = Act c s t }) (k.permissions ip lease e)
          ] refl h

      permission_some : (a : Allocation) → found ≡ Some a → (ch : Change) (r : AnswersPermission X ch) → Kept before a → Kept (before ++ record { moment = moment; move = Act c s t } ∷ []) (with_granted r.ips (seconds_after moment 300) a)
      permission_some a there ch r k =
          let said : Said = Permits (Some r.ips) in
          let is : says (situation_of taken key_for c moment arrives leaves) ≡ said = said_here said (said_success X CREATE_PERMISSION r.response ∙ ap Permits r.names) in
          let own = some_in found (λ b. UsableNow X b.until × IsOwn X b) a there r.own in
          let by : r.user ≡ a.user = same_Some r.user a.user (sym r.authentic.names_user ∙ own.1) in
          record {
            since = k.since ++ record { moment = moment; move = Act c s t } ∷ [];
            sent = given_more a.user a.id a.relayed a.until a.until before k.since (record { moment = moment; move = Act c s t }) k.sent (goes_on a.user a.id a.relayed said a.until (λ v. v ≡ a.until) is refl);
            permissions = grant_by a r.ips said is (subst (IsAuthentic key_for arrives.payload) by r.authentic) k (λ ip q. q);
            channels = λ number channel h. bound_more a.user number channel.lease.until channel.peer k.since (record { moment = moment; move = Act c s t }) (k.channels number channel h) (leaves_channel said is number tt);
          }

      permission_by : (o : Option Allocation) → found ≡ o → (ch : Change) (r : AnswersPermission X ch) → IsKept before o → IsKept (before ++ record { moment = moment; move = Act c s t } ∷ []) (option_map (with_granted r.ips (seconds_after moment 300)) o)
      permission_by None there ch r k = tt
      permission_by (Some a) there ch r k = permission_some a there ch r k

      permission : (ch : Change) → AnswersPermission X ch → After ch
      permission ch r = subst After (sym r.changes) (permission_by found refl ch r kept)

      any_one : (peer ip : ℕ) → list_any (λ one. one == ip) (peer ∷ []) ≡ true → peer ≡ ip
      any_one peer ip h = eqb-true peer ip (or_none (peer == ip) h) where
        or_none : (b : Bool) → (b || false) ≡ true → b ≡ true
        or_none true q = refl
        or_none false q = q

      channel_some : (a : Allocation) → found ≡ Some a → (ch : Change) (r : AnswersChannelBind X ch) → Kept before a → Kept (before ++ record { moment = moment; move = Act c s t } ∷ []) (with_bound r.number r.peer (seconds_after moment 600) (seconds_after moment 300) a)
      channel_some a there ch r k =
          let said : Said = Channels (Some r.number) (Some r.peer) in
          let is : says (situation_of taken key_for c moment arrives leaves) ≡ said = said_here said (said_success X CHANNEL_BIND r.response ∙ ap (λ o. Channels o (address_named XOR_PEER_ADDRESS (arrival_parts X))) r.has_number ∙ ap (Channels (Some r.number)) r.names) in
          let own = some_in found (λ b. UsableNow X b.until × (IsOwn X b × NoConflict X r.number r.peer b)) a there r.own in
          let by : r.user ≡ a.user = same_Some r.user a.user (sym r.authentic.names_user ∙ own.1.0) in
          record {
            since = k.since ++ record { moment = moment; move = Act c s t } ∷ [];
            sent = given_more a.user a.id a.relayed a.until a.until before k.since (record { moment = moment; move = Act c s t }) k.sent (goes_on a.user a.id a.relayed said a.until (λ v. v ≡ a.until) is refl);
            permissions = grant_by a (r.peer.ip ∷ []) said is (subst (IsAuthentic key_for arrives.payload) by r.authentic) k (λ ip q. any_one r.peer.ip ip q);
            channels = λ number channel h.
                elim (r.number == number) as (λ b. (r.number == number) ≡ b → cond b (Some (record { peer = r.peer; lease = record { until = seconds_after moment 600 } })) (a.channels number) ≡ Some channel → BoundTo taken key_for c a.user number channel.peer channel.lease.until (k.since ++ record { moment = moment; move = Act c s t } ∷ [])) [
                  | true ↦ λ q e.
                      let same : record { peer = r.peer; lease = record { until = seconds_after moment 600 } } ≡ channel = same_Some (record { peer = r.peer; lease = record { until = seconds_after moment 600 } }) channel e in
                      record {
                        earlier = k.since;
                        act = record { moment = moment; move = Act c s t };
                        later' = [];
                        whole = refl;
                        arrives = arrives;
                        leaves = leaves;
                        is_act = is_act_here;
                        binds = is ∙ ap (λ n. Channels (Some n) (Some r.peer)) (eqb-true r.number number q) ∙ ap (λ (y : Channel). Channels (Some number) (Some y.peer)) same;
                        last = tt;
                        authentic = subst (IsAuthentic key_for arrives.payload) by r.authentic;
                        until_is = ap (λ (y : Channel). y.lease.until) (sym same);
                      }
                  | false ↦ λ q e. bound_more a.user number channel.lease.until channel.peer k.since (record { moment = moment; move = Act c s t }) (k.channels number channel e) (leaves_channel said is number (eqb-false r.number number q))
                ] refl h;
          }

      channel_by : (o : Option Allocation) → found ≡ o → (ch : Change) (r : AnswersChannelBind X ch) → IsKept before o → IsKept (before ++ record { moment = moment; move = Act c s t } ∷ []) (option_map (with_bound r.number r.peer (seconds_after moment 600) (seconds_after moment 300)) o)
      channel_by None there ch r k = tt
      channel_by (Some a) there ch r k = channel_some a there ch r k

      channel_bind : (ch : Change) → AnswersChannelBind X ch → After ch
      channel_bind ch r = subst After (sym r.changes) (channel_by found refl ch r kept)

      by_case : (case : Case) (ch : Change) → Answers case X ch → After ch
      by_case Binding ch r = nothing ch (said_success X BINDING r.0.response) r.1
      by_case ErrorCase ch r = nothing ch (said_response X Error (arrival_parts X).method r.0.response) r.1
      by_case New ch r = new ch r
      by_case Again ch r = again ch r.0 r.1
      by_case Refresh ch r = refresh ch r
      by_case Permission ch r = permission ch r
      by_case ChannelBind ch r = channel_bind ch r
      by_case Send ch r = nothing ch (said_at X (Some Client) (Some Relay) r.0.goes.0 r.0.goes.1) r.1
      by_case ChannelUp ch r = nothing ch (said_at X (Some Client) (Some Relay) r.0.goes.0 r.0.goes.1) r.1
      by_case Data ch r = nothing ch (said_at X (Some Relay) (Some Client) r.0.goes.0 r.0.goes.1) r.1
      by_case ChannelDown ch r = nothing ch (said_at X (Some Relay) (Some Client) r.0.goes.0 r.0.goes.1) r.1

      pub kept_act : MayAnswer X (change_in X) → After (change_in X)
      unfolding MayAnswer
      kept_act m = by_case m.1 (change_in X) m.2

  -- ---- all steps

  between_kept : (before : List Step) (s t : SightId) (moment : ℕ) (found : Option Allocation) (o q : Option Sighting) → sighting_at taken s ≡ o → sighting_at taken t ≡ q → IsKept before found →
      MayBetween taken.policy key_for c moment found o q → IsKept (before ++ record { moment = moment; move = Act c s t } ∷ []) (applied (change_between taken.policy key_for c moment found o q) found)
  between_kept before s t moment found None q e f k m = absurd m
  between_kept before s t moment found (Some arrives) None e f k m = absurd m
  between_kept before s t moment found (Some arrives) (Some leaves) e f k m = kept_act s t moment arrives leaves e f before found k m

  -- a step of a run leaves what the client has kept
  pub step_kept : (before : List Step) (st : State) (moment : ℕ) (move : Move) → MayMove (rules_for taken key_for) st moment move → IsKept before (st.table c) → IsKept (before ++ record { moment = moment; move = move } ∷ []) (table_after (rules_for taken key_for) st moment move c)
  step_kept before st moment (In s) m k = kept_same before (record { moment = moment; move = In s }) (st.table c) (λ a is. refl) (λ number. no_act (record { moment = moment; move = In s }) number (λ x y h. absurd (let z : In s ≡ Act c x y = h in cc))) k
  step_kept before st moment (Act d s t) m k =
      elim (same_client c d) as (λ b. same_client c d ≡ b → IsKept (before ++ record { moment = moment; move = Act d s t } ∷ []) (cond b (acted (rules_for taken key_for) moment (Act d s t) (st.table d)) (st.table c))) [
        | true ↦ λ q.
            let e : c ≡ d = client_true c d q in
            subst (λ (x : Pair). MayMove (rules_for taken key_for) st moment (Act x s t) → IsKept (before ++ record { moment = moment; move = Act x s t } ∷ []) (acted (rules_for taken key_for) moment (Act x s t) (st.table x))) e
            (λ n. between_kept before s t moment (st.table c) (sighting_at taken s) (sighting_at taken t) refl refl k n.2) m
        | false ↦ λ q.
            let ne : d ≢ c = λ e. client_false c d q (sym e) in
            kept_same before (record { moment = moment; move = Act d s t }) (st.table c) (λ a is. other_act a.user a.id a.relayed d s t moment a.until ne)
            (λ number. no_act (record { moment = moment; move = Act d s t }) number (λ x y h. ne (let i : d ≡ c = let z : Act d s t ≡ Act c x y = h in cc in i))) k
      ] refl
  step_kept before st moment (Out t) m k = kept_same before (record { moment = moment; move = Out t }) (st.table c) (λ a is. refl) (λ number. no_act (record { moment = moment; move = Out t }) number (λ x y h. absurd (let z : Out t ≡ Act c x y = h in cc))) k

  pub all_kept : (before es : List Step) (st : State) → RunFrom (rules_for taken key_for) st es → IsKept before (st.table c) → IsKept (before ++ es) ((fold (after (rules_for taken key_for)) st es).table c)
  all_kept before [] st r k = subst (λ (l : List Step). IsKept l (st.table c)) (sym (append-nil before)) k
  all_kept before (e ∷ es) st r k =
      subst (λ (l : List Step). IsKept l ((fold (after (rules_for taken key_for)) (after (rules_for taken key_for) st e) es).table c)) (append_assoc before (e ∷ []) es)
      (all_kept (before ++ e ∷ []) es (after (rules_for taken key_for) st e) r.1 (step_kept before st e.moment e.move r.0.may k))
