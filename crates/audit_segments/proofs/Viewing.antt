-- A segment that is judged by the sightings that it needs is a segment by all sightings.
use Rattle.std.proofs.Common.{◌≡◌, ◌≤◌, ℕ, Option, Some, None, List, [], ◌∷◌, refl, sym, ◌∙◌, ap, subst}
use Rattle.std.specs.Prelude.{is_some, IsSomeAnd}
use Rattle.std.specs.List.{fold}
use Rattle.audit_model.specs.declared.pair.Pair.{Pair}
use Rattle.audit_model.specs.declared.policy.Policy.{Policy}
use Rattle.audit_model.specs.declared.sighting.SightId.{SightId}
use Rattle.audit_model.specs.declared.sighting.Sighting.{Sighting}
use Rattle.audit_model.specs.declared.sighting.Side.{Side}
use Rattle.audit_model.specs.declared.sighting.Side.TheVariants.{Arrives, Leaves}
use Rattle.audit_model.specs.Sames.{same_client}
use Rattle.audit_rules.specs.Allocation.{Allocation, Change, applied}
use Rattle.audit_rules.specs.Keys.{KeyFor}
use Rattle.audit_server.specs.Captured.{change_between, MayBetween, rules_of}
use Rattle.audit_server.specs.Rules.{Rules}
use Rattle.audit_server.specs.Run.{MayMove, IsFree, HandsOutFree, RunFrom}
use Rattle.audit_server.specs.State.{State, after, put}
use Rattle.audit_server.specs.Step.{Step, Move, In, Act, Out}
use Rattle.audit_server.proofs.Orders.{all_weaker}
use Rattle.audit_segments.specs.Alike.{AreAlike, is_placed}
use Rattle.audit_segments.specs.Cut.{Cut}
use Rattle.audit_segments.specs.Segment.{View, IsSeenIn, MayBePlacedIn, IsSegment, IsViewOf}
use Rattle.audit_segments.proofs.Due.{due_same}

module _ (policy : Policy) (key_for : KeyFor) (all view : View) (there : (s : SightId) (x : Sighting) → view s ≡ Some x → all s ≡ Some x) where
  abbrev W : Rules
  W = rules_of policy key_for view

  abbrev V : Rules
  V = rules_of policy key_for all

  module _ (c : Pair) (moment : ℕ) (x : Option Allocation) where
    between : (a b a' b' : Option Sighting) → ((s : Sighting) → a ≡ Some s → a' ≡ Some s) → ((s : Sighting) → b ≡ Some s → b' ≡ Some s) → MayBetween policy key_for c moment x a b →
        MayBetween policy key_for c moment x a' b' × (change_between policy key_for c moment x a b ≡ change_between policy key_for c moment x a' b')
    between None b a' b' f g m = absurd m
    between (Some s) None a' b' f g m = absurd m
    between (Some s) (Some t) a' b' f g m =
        let e : a' ≡ Some s = f s refl in
        let h : b' ≡ Some t = g t refl in (
          subst (λ (p : Option Sighting). MayBetween policy key_for c moment x p b') (sym e) (subst (λ (q : Option Sighting). MayBetween policy key_for c moment x (Some s) q) (sym h) m),
          sym (ap (λ p. change_between policy key_for c moment x p b') e ∙ ap (λ q. change_between policy key_for c moment x (Some s) q) h),
        )

    both : (s t : SightId) → W.MayAnswer c s t moment x → V.MayAnswer c s t moment x × (W.change c s t moment x ≡ V.change c s t moment x)
    both s t m = between (view s) (view t) (all s) (all t) (there s) (there t) m

  may_still : (st : State) (moment : ℕ) (m : Move) → MayMove W st moment m → MayMove V st moment m
  may_still st moment (In s) h = tt
  may_still st moment (Act c s t) h = (h.0, h.1, (both c moment (st.table c) s t h.2).0)
  may_still st moment (Out t) h = h

  hands_still : (st : State) (moment : ℕ) (m : Move) → MayMove W st moment m → HandsOutFree W st moment m → HandsOutFree V st moment m
  hands_still st moment (In s) h f = tt
  hands_still st moment (Act c s t) h f = free (V.change c s t moment (st.table c)) (subst (λ (ch : Change). IsFree W st moment c ch) (both c moment (st.table c) s t h.2).1 f) where
    free : (ch : Change) → IsFree W st moment c ch → IsFree V st moment c ch
    free ch k = k
  hands_still st moment (Out t) h f = tt

  after_still : (st : State) (moment : ℕ) (m : Move) → MayMove W st moment m → after W st (record { moment = moment; move = m }) ≡ after V st (record { moment = moment; move = m })
  after_still st moment (In s) h = refl
  after_still st moment (Act c s t) h = ap (λ (ch : Change). record {
    table = put same_client st.table c (applied ch (st.table c));
    waiting = (after W st (record { moment = moment; move = Act c s t })).waiting;
    owed = (after W st (record { moment = moment; move = Act c s t })).owed;
    sent = (after W st (record { moment = moment; move = Act c s t })).sent;
    now = moment;
  }) (both c moment (st.table c) s t h.2).1
  after_still st moment (Out t) h = refl

  -- a run stays one, and leads to the same state
  pub run_still : (es : List Step) (st : State) → RunFrom W st es → RunFrom V st es × (fold (after W) st es ≡ fold (after V) st es)
  run_still [] st r = (tt, refl)
  run_still (e ∷ es) st r =
      let same : after W st e ≡ after V st e = after_still st e.moment e.move r.0.may in
      let rest = run_still es (after W st e) r.1 in (
        (
          record { in_order = r.0.in_order; may = may_still st e.moment e.move r.0.may; free = hands_still st e.moment e.move r.0.may r.0.free },
          subst (λ (x : State). RunFrom V x es) same rest.0,
        ),
        rest.1 ∙ ap (λ (x : State). fold (after V) x es) same,
      )

  seen_there : (side : Side) (s : SightId) (moment : ℕ) (o : Option Sighting) → view s ≡ o → IsSomeAnd o (λ x. (x.side ≡ side) × (x.lo ≤ moment) × (moment ≤ x.hi)) → IsSeenIn all side s moment
  seen_there side s moment None e h = absurd h
  seen_there side s moment (Some x) e h = subst (λ (o : Option Sighting). IsSomeAnd o (λ x. (x.side ≡ side) × (x.lo ≤ moment) × (moment ≤ x.hi))) (sym (there s x e)) h

  placed_still : (moment : ℕ) (m : Move) → MayBePlacedIn view moment m → MayBePlacedIn all moment m
  placed_still moment (In s) h = seen_there Arrives s moment (view s) refl h
  placed_still moment (Act c s t) h = tt
  placed_still moment (Out t) h = seen_there Leaves t moment (view t) refl h

pub by_all : (policy : Policy) (key_for : KeyFor) (all view : View) (old new : Cut) (steps : List Step) → IsViewOf all view old new → IsSegment policy key_for view old steps new → IsSegment policy key_for all old steps new
by_all policy key_for all view old new steps v k =
    let r = run_still policy key_for all view v.there steps old.state k.runs in
    record {
      placed = λ s. k.placed s ∙ due_same (is_some (view s)) (is_some (all s)) (new.excluded s) (is_placed old.placed s) (is_placed new.placed s) (v.due s);
      seen = all_weaker (λ (e : Step). MayBePlacedIn view e.moment e.move) (λ (e : Step). MayBePlacedIn all e.moment e.move) (λ e h. placed_still policy key_for all view v.there e.moment e.move h) steps k.seen;
      order = k.order;
      names = k.names;
      runs = r.0;
      leads = subst (λ (st : State). AreAlike policy.hold policy.grace new.placed new.excluded st new.state) r.1 k.leads;
      extends = k.extends;
    }
