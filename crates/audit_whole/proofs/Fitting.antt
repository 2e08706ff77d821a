-- The numbers of the certificate that is written fit their types.
use Rattle.std.proofs.Common.{◌≡◌, ◌≤◌, ◌<◌, ◌+◌, ◌^◌, ◌⊎◌, inl, inr, ℕ, zero, suc, true, false, ◌==◌, cond, Option, Some, None, List, [], ◌∷◌, ◌++◌, length, map, refl, sym, ◌∙◌, ap, subst, arith}
use Rattle.std.specs.Prelude.{IsSomeAnd, slice_get, sum_by}
use Rattle.std.specs.List.{fold, AllByRecursion, list_any}
use Rattle.std.proofs.lemmas.Option.{none-some, same_Some, slice_get_within}
use Rattle.std.proofs.lemmas.List.Sums.{sum_by-cons}
use Rattle.audit_model.specs.declared.address.Addr.{Addr}
use Rattle.audit_model.specs.declared.pair.Pair.{Pair}
use Rattle.audit_model.specs.declared.event.Key.{Key}
use Rattle.audit_model.specs.declared.sighting.Side.{Side}
use Rattle.audit_model.specs.declared.sighting.Side.TheVariants.{Leaves}
use Rattle.audit_model.specs.declared.sighting.SightId.{SightId}
use Rattle.audit_model.specs.declared.sighting.Sighting.{Sighting}
use Rattle.audit_model.specs.Lanes.{same_addr, same_pair}
use Rattle.audit_model.specs.Policy.{relays}
use Rattle.audit_model.specs.Sames.{same_client}
use Rattle.audit_model.proofs.Sames.{addr_true}
use Rattle.audit_model.specs.Fits.{AddrFits}
use Rattle.audit_cert.specs.Fits.{SightFits, KeyFits, EventFits, LaneFits, DropFits}
use Rattle.audit_sightings.specs.Intake.{Taken, sighting_at}
use Rattle.audit_rules.specs.declared.path.Path.TheVariants.{Client}
use Rattle.audit_rules.specs.Allocation.{Allocation, Change}
use Rattle.audit_rules.specs.Answer.{MayAnswer, Answers, Case, Binding, Error as ErrorCase, New, Again, Refresh, Permission, ChannelBind, Send, ChannelUp, Data, ChannelDown}
use Rattle.audit_rules.specs.Keys.{KeyFor}
use Rattle.audit_rules.specs.Said.{change_in}
use Rattle.audit_rules.specs.Situation.{Situation, arrival_path, departure_path}
use Rattle.audit_server.specs.Acting.{with_pair, pairs_by, acting_pairs}
use Rattle.audit_server.specs.Captured.{situation_at, MayBetween}
use Rattle.audit_server.specs.Placed.{Placed, of_lane}
use Rattle.audit_server.specs.Rules.{Rules}
use Rattle.audit_server.specs.Run.{RunFrom}
use Rattle.audit_server.specs.State.{State, at_first, after}
use Rattle.audit_server.specs.Step.{Step, Move, In, Act, Out}
use Rattle.audit_server.proofs.Meeting.{all_two}
use Rattle.audit_server.proofs.Once.{fold_cut, run_cut, splits_all, leaves, given_owes}
use Rattle.audit_server.proofs.Orders.{all_filter, all_right}
use Rattle.audit_sightings.specs.ByInterface.{SightingFits}
use Rattle.audit_sightings.specs.Bounds.{IsBounded}
use Rattle.audit_whole.specs.CaptureRun.{rules_for, IsSeen, MayBePlaced, IsCaptureRun}
use Rattle.audit_whole.proofs.Conforming.{any_all}
use Rattle.audit_whole.proofs.Paths.{client_of_test, both_true}
use Rattle.audit_whole.proofs.Sums.{row_there}
use Rattle.audit_whole.proofs.Writing.{tagged, cert_lanes, drop_of, event_by, event_of, arrival}

-- ---- what a move names

abbrev pub PairFits : Pair → Type 0
PairFits c = AddrFits c.client × AddrFits c.listen

abbrev pub MoveFits : Move → Type 0
MoveFits (In s) = SightFits s
MoveFits (Act c s t) = PairFits c × SightFits s × SightFits t
MoveFits (Out t) = SightFits t

abbrev pub PlacedFits : Placed → Type 0
PlacedFits e = KeyFits e.at.key × MoveFits e.move

-- ---- an act is between its client and its listen address, by its arrival or by its departure

case_client : (case : Case) (x : Situation) (ch : Change) → Answers case x ch → (arrival_path x ≡ Some Client) ⊎ (departure_path x ≡ Some Client)
case_client Binding x ch r = inl r.0.response.forth
case_client ErrorCase x ch r = inl r.0.response.forth
case_client New x ch r = inl r.response.forth
case_client Again x ch r = inl r.0.response.forth
case_client Refresh x ch r = inl r.response.forth
case_client Permission x ch r = inl r.response.forth
case_client ChannelBind x ch r = inl r.response.forth
case_client Send x ch r = inl r.0.goes.0
case_client ChannelUp x ch r = inl r.0.goes.0
case_client Data x ch r = inr r.0.goes.1
case_client ChannelDown x ch r = inr r.0.goes.1

may_client : (x : Situation) (ch : Change) → MayAnswer x ch → (arrival_path x ≡ Some Client) ⊎ (departure_path x ≡ Some Client)
unfolding MayAnswer
may_client x ch m = case_client m.1 x ch m.2

same_fits : (a b : Addr) → same_addr a b ≡ true → AddrFits a → AddrFits b
same_fits a b h f = subst AddrFits (addr_true a b h) f

client_fits : (x : Situation) → SightingFits x.arrives → SightingFits x.leaves → (arrival_path x ≡ Some Client) ⊎ (departure_path x ≡ Some Client) → AddrFits x.client × AddrFits x.listen
client_fits x a l (inl h) =
    let k = both_true (same_addr x.arrives.from x.client) (same_addr x.arrives.to x.listen) (client_of_test (same_pair x.arrives.from x.arrives.to x.client x.listen) (relays x.policy x.arrives.to) h) in
    (same_fits x.arrives.from x.client k.0 a.1, same_fits x.arrives.to x.listen k.1 a.2)
client_fits x a l (inr h) =
    let k = both_true (same_addr x.leaves.from x.listen) (same_addr x.leaves.to x.client) (client_of_test (same_pair x.leaves.from x.leaves.to x.listen x.client) (relays x.policy x.leaves.from) h) in
    (same_fits x.leaves.to x.client k.1 l.2, same_fits x.leaves.from x.listen k.0 l.1)

-- ---- moments

now_up : (w : Rules) (m : ℕ) (es : List Step) (st : State) → m ≤ st.now → RunFrom w st es → AllByRecursion (λ (e : Step). m ≤ e.moment) es
now_up w m [] st h r = tt
now_up w m (e ∷ es) st h r = let o : st.now ≤ e.moment = r.0.in_order in (omega arith, now_up w m es (after w st e) (omega arith) r.1)

row_le : (rows : List (List Sighting)) (i : ℕ) (row : List Sighting) → slice_get rows i ≡ Some row → length row ≤ sum_by length rows
row_le [] i row h = absurd (none-some row h)
row_le (r ∷ rs) zero row h = omega (arith, sum_by-cons (λ (xs : List Sighting). length xs) r rs, ap length (same_Some r row h))
row_le (r ∷ rs) (suc i) row h = omega (arith, sum_by-cons (λ (xs : List Sighting). length xs) r rs, row_le rs i row h)

module _ (taken : Taken) (bounded : IsBounded taken) (key_for : KeyFor) where
  abbrev W : Rules
  W = rules_for taken key_for

  name_fits : (s : SightId) (x : Sighting) → sighting_at taken s ≡ Some x → SightFits s
  name_fits s x h =
      let r = row_there taken s (slice_get taken.interfaces s.iface) x refl h in
      let i : s.iface < length taken.interfaces = slice_get_within taken.interfaces s.iface r.0 r.1 in
      let j : s.index < length r.0 = slice_get_within r.0 s.index x r.2 in
      (omega (arith, i, bounded.few_interfaces), omega (arith, j, row_le taken.interfaces s.iface r.0 r.1, bounded.few))

  seen_fits : (side : Side) (s : SightId) (moment : ℕ) → IsSeen taken side s moment → (moment < 2 ^ 64) × SightFits s
  seen_fits side s moment h = by_option (sighting_at taken s) refl h where
    by_option : (o : Option Sighting) → sighting_at taken s ≡ o → IsSomeAnd o (λ x. (x.side ≡ side) × (x.lo ≤ moment) × (moment ≤ x.hi)) → (moment < 2 ^ 64) × SightFits s
    by_option None e k = absurd k
    by_option (Some x) e k = (let f : x.hi < 2 ^ 64 = (bounded.fits s x e).0 in let l : moment ≤ x.hi = k.2 in omega arith, name_fits s x e)

  between_fits : (c : Pair) (moment : ℕ) (found : Option Allocation) (s t : SightId) (o q : Option Sighting) → sighting_at taken s ≡ o → sighting_at taken t ≡ q → MayBetween taken.policy key_for c moment found o q → PairFits c × SightFits s × SightFits t
  between_fits c moment found s t None q e f m = absurd m
  between_fits c moment found s t (Some x) None e f m = absurd m
  between_fits c moment found s t (Some x) (Some y) e f m =
      let z : Situation = situation_at taken.policy key_for c moment found x y in
      (client_fits z (bounded.fits s x e) (bounded.fits t y f) (may_client z (change_in z) m), name_fits s x e, name_fits t y f)

  module _ (steps : List Step) (r : IsCaptureRun taken (rules_for taken key_for) steps) where
    abbrev StepFits : ℕ → Move → Type 0
    StepFits moment m = (moment < 2 ^ 64) × MoveFits m

    -- an act comes before its departure leaves
    act_moment : (p : List Step) (e : Step) (q : List Step) → p ++ e ∷ q ≡ steps → (c : Pair) (s t : SightId) → e.move ≡ Act c s t → e.moment < 2 ^ 64
    act_moment p e q h c s t is =
        let st : State = fold (after W) at_first p in
        let all : RunFrom W at_first (p ++ e ∷ q) = subst (λ (l : List Step). RunFrom W at_first l) (sym h) r.run.runs in
        let from : RunFrom W st (e ∷ q) = run_cut W p (e ∷ q) at_first all in
        let end : (fold (after W) (after W st e) q).owed t ≡ None = subst (λ (x : State). x.owed t ≡ None) (ap (fold (after W) at_first) (sym h) ∙ fold_cut W p (e ∷ q) at_first) (r.run.nothing_owed t) in
        let gone = leaves W t q (after W st e) from.1 (given_owes W st e c s t from.0 is) end in
        let seen : AllByRecursion (λ (d : Step). MayBePlaced taken d.moment d.move) q = (all_right (λ (d : Step). MayBePlaced taken d.moment d.move) p (e ∷ q) (subst (AllByRecursion (λ (d : Step). MayBePlaced taken d.moment d.move)) (sym h) r.seen)).1 in
        let late : AllByRecursion (λ (d : Step). e.moment ≤ d.moment) q = now_up W e.moment q (after W st e) (omega arith) from.1 in
        let found = any_all (λ (d : Step). d.move ≡ Out t) (λ (d : Step). MayBePlaced taken d.moment d.move × (e.moment ≤ d.moment)) q gone
        (all_two (λ (d : Step). MayBePlaced taken d.moment d.move) (λ (d : Step). e.moment ≤ d.moment) (λ (d : Step). MayBePlaced taken d.moment d.move × (e.moment ≤ d.moment)) (λ d a b. (a, b)) q seen late) in
        let there : IsSeen taken Leaves t found.0.moment = subst (λ (m : Move). MayBePlaced taken found.0.moment m) found.1 found.2.0 in
        let below : found.0.moment < 2 ^ 64 = (seen_fits Leaves t found.0.moment there).0 in
        let order : e.moment ≤ found.0.moment = found.2.1 in omega arith

    act_fits : (p : List Step) (e : Step) (q : List Step) → p ++ e ∷ q ≡ steps → (m : Move) → e.move ≡ m → MayBePlaced taken e.moment m → StepFits e.moment m
    act_fits p e q h (In s) is seen = seen_fits _ s e.moment seen
    act_fits p e q h (Act c s t) is seen =
        let st : State = fold (after W) at_first p in
        let all : RunFrom W at_first (p ++ e ∷ q) = subst (λ (l : List Step). RunFrom W at_first l) (sym h) r.run.runs in
        let may = (rw is at (run_cut W p (e ∷ q) at_first all).0.may) in
        (act_moment p e q h c s t is, between_fits c e.moment (st.table c) s t (sighting_at taken s) (sighting_at taken t) refl refl may.2)
    act_fits p e q h (Out t) is seen = seen_fits _ t e.moment seen

    pub steps_fit : AllByRecursion (λ (e : Step). StepFits e.moment e.move) steps
    steps_fit = all_two (λ (e : Step). MayBePlaced taken e.moment e.move) (λ (e : Step). MayBePlaced taken e.moment e.move → StepFits e.moment e.move) (λ (e : Step). StepFits e.moment e.move) (λ e a f. f a) steps r.seen
        (splits_all (λ (e : Step). MayBePlaced taken e.moment e.move → StepFits e.moment e.move) steps (λ p e q h. act_fits p e q h e.move refl))

-- ---- the certificate's parts

pairs_with : (c : Pair) (ps : List Pair) → PairFits c → AllByRecursion PairFits ps → AllByRecursion PairFits (with_pair c ps)
pairs_with c ps h k = elim (list_any (λ q. same_client c q) ps) as (λ b. AllByRecursion PairFits (cond b ps (c ∷ ps))) [ true ↦ k | false ↦ (h, k) ]

pairs_more : (m : Move) (ps : List Pair) → MoveFits m → AllByRecursion PairFits ps → AllByRecursion PairFits (pairs_by m ps)
pairs_more (In s) ps h k = k
pairs_more (Act c s t) ps h k = pairs_with c ps h.0 k
pairs_more (Out t) ps h k = k

pub pairs_fit : (es : List Step) → AllByRecursion (λ (e : Step). (e.moment < 2 ^ 64) × MoveFits e.move) es → AllByRecursion PairFits (acting_pairs es)
pairs_fit [] h = tt
pairs_fit (e ∷ es) h = pairs_more e.move (acting_pairs es) h.0.1 (pairs_fit es h.1)

pub tagged_fit : (lane : Move → ℕ) (n : ℕ) (es : List Step) → n + length es ≤ 2 ^ 32 → AllByRecursion (λ (e : Step). (e.moment < 2 ^ 64) × MoveFits e.move) es → AllByRecursion PlacedFits (tagged lane n es)
tagged_fit lane n [] l h = tt
tagged_fit lane n (e ∷ es) l h = (((h.0.0, omega arith), h.0.1), tagged_fit lane (n + 1) es (omega arith) h.1)

event_fits : (key : Key) (m : Move) → KeyFits key → MoveFits m → EventFits (event_by key m)
event_fits key (In s) k h = (h, k)
event_fits key (Act c s t) k h = (h.1, (h.2, k))
event_fits key (Out t) k h = (h, k)

events_fit : (es : List Placed) → AllByRecursion PlacedFits es → AllByRecursion EventFits (map event_of es)
events_fit [] h = tt
events_fit (e ∷ es) h = (event_fits e.at.key e.move h.0.0 h.0.1, events_fit es h.1)

pub lanes_fit : (n : ℕ) (ps : List Pair) (es : List Placed) → AllByRecursion PairFits ps → AllByRecursion PlacedFits es → AllByRecursion LaneFits (cert_lanes n ps es)
lanes_fit n [] es h k = tt
lanes_fit n (p ∷ ps) es h k = (record { client = h.0.0; listen = h.0.1; events = events_fit (of_lane n es) (all_filter PlacedFits (λ e. e.at.lane == n) es k) }, lanes_fit (n + 1) ps es h.1 k)

arrival_fits : (m : Move) → MoveFits m → SightFits (arrival m)
arrival_fits (In s) h = h
arrival_fits (Act c s t) h = h.1
arrival_fits (Out t) h = h

drops_of : (es : List Placed) → AllByRecursion PlacedFits es → AllByRecursion DropFits (map drop_of es)
drops_of [] h = tt
drops_of (e ∷ es) h = ((arrival_fits e.move h.0.1, h.0.0), drops_of es h.1)

pub drops_fit : (n : ℕ) (es : List Placed) → AllByRecursion PlacedFits es → AllByRecursion DropFits (map drop_of (of_lane n es))
drops_fit n es k = drops_of (of_lane n es) (all_filter PlacedFits (λ e. e.at.lane == n) es k)
