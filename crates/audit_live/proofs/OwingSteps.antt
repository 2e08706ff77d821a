-- An event of a lane leaves it owing what its walk remembers as owing.
use Rattle.std.proofs.Common.{◌≡◌, ◌<◌, ◌≤◌, ◌+◌, ℕ, suc, Bool, true, false, cond, not, List, [], ◌∷◌, ◌++◌, length, map, Option, Some, None, refl, sym, ap, ◌∙◌, subst, arith, ◌⊎◌, inl, inr}
use Rattle.std.specs.Prelude.{Contains, IsSome, option_map, nat_eq, filter, ◌↔◌}
use Rattle.std.proofs.lemmas.Bool.{eq-eqb, ne_eqb, eqb-true}
use Rattle.std.proofs.lemmas.List.{map-append}
use Rattle.std.proofs.lemmas.List.Elements.{Contains-append_left, Contains-push, Contains-push_cases}
use Rattle.std.proofs.lemmas.Option.{none-some, same_Some}
use Rattle.audit_lane.specs.declared.noted.Arrival.{Arrival}
use Rattle.audit_lane.specs.declared.noted.Departure.{Departure}
use Rattle.audit_lane.specs.declared.noted.Owed.{Owed}
use Rattle.audit_lane.specs.After.{after, departure_for}
use Rattle.audit_lane.specs.Content.{Happening, Came, Acted, Went}
use Rattle.audit_lane.specs.Faults.{IsRight, out_fault}
use Rattle.audit_lane.specs.Kept.{Kept, Terms, place_at}
use Rattle.audit_lane.specs.Seen.{SameKept}
use Rattle.audit_lane.specs.Walk.{AreOwed}
use Rattle.audit_model.specs.declared.event.Key.{Key}
use Rattle.audit_model.specs.declared.pair.Pair.{Pair}
use Rattle.audit_model.specs.declared.rule.Rule.TheVariants.{LeftWithoutAct}
use Rattle.audit_model.specs.declared.sighting.SightId.{SightId}
use Rattle.audit_model.specs.declared.sighting.Sighting.{Sighting}
use Rattle.audit_model.specs.Sames.{same_sight}
use Rattle.audit_model.proofs.Sames.{sight_true, sight_same}
use Rattle.audit_prefix.specs.Walk.{Memory, Owing, remembered}
use Rattle.audit_server.specs.Rules.{Rules}
use Rattle.audit_verdict.specs.Run.{placed_at}
use Rattle.audit_verdict.proofs.Running.{IsOpen, open_to}
use Rattle.audit_live.specs.Owed.{Owes, Rise, places_of}
use Rattle.audit_live.proofs.Lists.{to_map}
use Rattle.audit_live.proofs.Rising.{from_map, in_filter, rise_filter, rise_of, rise_push, same_count, to_filter}

abbrev place_in : Owing → ℕ
place_in one = one.at.place

-- the places that are owed are as many as the acts that are owing
pub owes_count : (place : ℕ) (kept : Kept) (owing : List Owing) (count : ℕ) → Owes place kept owing → AreOwed kept.owed count → count ≡ length owing
owes_count place kept owing count owes are =
    sym are.many ∙ same_count are.places (places_of owing) (rise_of are.places are.rising) owes.rising
    (λ n. (λ c. (owes.all n).0 ((are.all n).1 c), λ c. (are.all n).0 ((owes.all n).1 c)))
    ∙ length_places owing where
      length_places : (os : List Owing) → length (places_of os) ≡ length os
      length_places [] = refl
      length_places (o ∷ os) = ap suc (length_places os)

-- at first nothing is owed
pub owes_none : (kept : Kept) → ((p : ℕ) → kept.owed p ≡ None) → ((t : SightId) → kept.gave t ≡ None) → Owes 0 kept []
owes_none kept none not_given = record {
  rising = tt;
  all = λ p. (λ some. absurd (let no : false ≡ true = subst IsSome (none p) some in cc), λ c. absurd (omega (arith, c.1)));
  gives = λ one c. absurd (omega (arith, c.1));
  before = λ t d is. absurd (none-some d (sym (not_given t) ∙ is));
  apart = λ t u d e is other same. absurd (none-some d (sym (not_given t) ∙ is));
}

-- what is kept is the same, and the next place comes later
pub owes_same : (place next : ℕ) (old new : Kept) (owing : List Owing) → place ≤ next → ((p : ℕ) → new.owed p ≡ old.owed p) → ((t : SightId) → new.gave t ≡ old.gave t) → Owes place old owing → Owes next new owing
owes_same place next old new owing later owed gave owes = record {
  rising = owes.rising;
  all = λ p. (λ some. (owes.all p).0 (subst IsSome (owed p) some), λ c. subst IsSome (sym (owed p)) ((owes.all p).1 c));
  gives = λ one c. ap (option_map (λ (d : Departure). d.place)) (gave one.gives) ∙ owes.gives one c;
  before = λ t d is. omega (arith, later, owes.before t d (sym (gave t) ∙ is));
  apart = λ t u d e is other same. owes.apart t u d e (sym (gave t) ∙ is) (sym (gave u) ∙ other) same;
}

module _ (place : ℕ) (old : Kept) (owing : List Owing) (owes : Owes place old owing) where
  -- an owing act sent its departure at its place
  its_gift : (one : Owing) → Contains owing one → (sent : Option Departure) → old.gave one.gives ≡ sent → (d : Departure) × (old.gave one.gives ≡ Some d) × (d.place ≡ one.at.place)
  its_gift one c None is = absurd (none-some one.at.place (sym (ap (option_map (λ (d : Departure). d.place)) is) ∙ owes.gives one c))
  its_gift one c (Some d) is = (d, is, same_Some d.place one.at.place (sym (ap (option_map (λ (d : Departure). d.place)) is) ∙ owes.gives one c))

  owing_before : (n : ℕ) → Contains (places_of owing) n → n < place
  owing_before n c =
      let one = from_map place_in owing n c in
      let gift = its_gift one.0 one.1 (old.gave one.0.gives) refl in
      omega (arith, one.2, gift.2, owes.before one.0.gives gift.0 gift.1)

  -- ---- a departure leaves

  module _ (s : SightId) (sent : Departure) (is : old.gave s ≡ Some sent) (new : Kept) (owed : (p : ℕ) → new.owed p ≡ cond (nat_eq p sent.place) None (old.owed p)) (gave : (t : SightId) → new.gave t ≡ old.gave t) where
    abbrev stays : Owing → Bool
    stays one = not (same_sight s one.gives)

    abbrev left : List Owing
    left = filter stays owing

    -- what stays is of another place
    other_place : (one : Owing) → Contains owing one → stays one ≡ true → one.at.place ≡ sent.place → ⊥
    other_place one c kept same =
        let gift = its_gift one c (old.gave one.gives) refl in
        let it : s ≡ one.gives = owes.apart s one.gives sent gift.0 is gift.1 (sym same ∙ sym gift.2) in
        let no : not (same_sight s one.gives) ≡ false = ap not (sight_same s one.gives it) in
        let clash : false ≡ true = sym no ∙ kept in cc

    -- and what is of another place stays
    other_stays : (one : Owing) → Contains owing one → (one.at.place ≡ sent.place → ⊥) → (b : Bool) → same_sight s one.gives ≡ b → stays one ≡ true
    other_stays one c other true same =
        let it : s ≡ one.gives = sight_true s one.gives same in
        let gift = its_gift one c (old.gave one.gives) refl in
        let one_gift : gift.0 ≡ sent = same_Some gift.0 sent (sym gift.1 ∙ ap old.gave (sym it) ∙ is) in
        absurd (other (sym gift.2 ∙ ap (λ (d : Departure). d.place) one_gift))
    other_stays one c other false same = ap not same

    all_left : (p : ℕ) (b : Bool) → nat_eq p sent.place ≡ b → IsSome (cond b None (old.owed p)) ↔ Contains (places_of left) p
    all_left p true same = (
      λ some. absurd (let no : false ≡ true = some in cc),
      λ c.
          let one = from_map place_in left p c in
          let was = in_filter place_in stays owing one.0 one.1 in
          absurd (other_place one.0 was.0 was.1 (one.2 ∙ eqb-true p sent.place same)),
    )
    all_left p false same = (
      λ some.
          let one = from_map place_in owing p ((owes.all p).0 some) in
          let kept = other_stays one.0 one.1 (λ at. absurd (let no : true ≡ false = sym (eq-eqb p sent.place (sym one.2 ∙ at)) ∙ same in cc)) (same_sight s one.0.gives) refl in
          subst (Contains (places_of left)) one.2 (to_map place_in left one.0 (to_filter place_in stays owing one.0 one.1 kept)),
      λ c.
          let one = from_map place_in left p c in
          (owes.all p).1 (subst (Contains (places_of owing)) one.2 (to_map place_in owing one.0 (in_filter place_in stays owing one.0 one.1).0)),
    )

    pub owes_left : Owes (place + 1) new left
    owes_left = record {
      rising = rise_filter place_in stays owing owes.rising;
      all = λ p. (
        λ some. (all_left p (nat_eq p sent.place) refl).0 (subst IsSome (owed p) some),
        λ c. subst IsSome (sym (owed p)) ((all_left p (nat_eq p sent.place) refl).1 c),
      );
      gives = λ one c. ap (option_map (λ (d : Departure). d.place)) (gave one.gives) ∙ owes.gives one (in_filter place_in stays owing one c).0;
      before = λ t d at. omega (arith, owes.before t d (sym (gave t) ∙ at));
      apart = λ t u d e at other same. owes.apart t u d e (sym (gave t) ∙ at) (sym (gave u) ∙ other) same;
    }

  -- ---- an act gives one

  module _ (one : Owing) (at : one.at.place ≡ place) (arrived : ℕ) (not_given : old.gave one.gives ≡ None) (new : Kept) (owed_one : Owed) (owed : (p : ℕ) → new.owed p ≡ cond (nat_eq p place) (Some owed_one) (old.owed p))
      (gave : (t : SightId) → new.gave t ≡ cond (same_sight t one.gives) (Some (record { arrived = arrived; place = place })) (old.gave t)) where
    abbrev more : List Owing
    more = owing ++ one ∷ []

    places_more : places_of more ≡ places_of owing ++ place ∷ []
    places_more = map-append place_in owing (one ∷ []) ∙ ap (λ (n : ℕ). places_of owing ++ n ∷ []) at

    all_more : (p : ℕ) (b : Bool) → nat_eq p place ≡ b → IsSome (cond b (Some owed_one) (old.owed p)) ↔ Contains (places_of owing ++ place ∷ []) p
    all_more p true same = (λ some. subst (Contains (places_of owing ++ place ∷ [])) (sym (eqb-true p place same)) (Contains-push (places_of owing) place), λ c. refl)
    all_more p false same = (
      λ some. Contains-append_left (places_of owing) (place ∷ []) p ((owes.all p).0 some),
      λ c. elim (Contains-push_cases (places_of owing) place p c) [
        | inl there ↦ (owes.all p).1 there
        | inr is ↦ absurd (let no : true ≡ false = sym (eq-eqb p place (sym is)) ∙ same in cc)
      ],
    )

    gift_of : (t : SightId) (d : Departure) (b : Bool) → same_sight t one.gives ≡ b → cond b (Some (record { arrived = arrived; place = place })) (old.gave t) ≡ Some d
        → ((t ≡ one.gives) × (d.place ≡ place)) ⊎ (old.gave t ≡ Some d)
    gift_of t d true same is = inl (sight_true t one.gives same, sym (ap (λ (e : Departure). e.place) (same_Some (record { arrived = arrived; place = place }) d is)))
    gift_of t d false same is = inr is

    gift : (t : SightId) (d : Departure) → new.gave t ≡ Some d → ((t ≡ one.gives) × (d.place ≡ place)) ⊎ (old.gave t ≡ Some d)
    gift t d is = gift_of t d (same_sight t one.gives) refl (sym (gave t) ∙ is)

    apart_more : (t u : SightId) (d e : Departure) → ((t ≡ one.gives) × (d.place ≡ place)) ⊎ (old.gave t ≡ Some d) → ((u ≡ one.gives) × (e.place ≡ place)) ⊎ (old.gave u ≡ Some e) → d.place ≡ e.place → t ≡ u
    apart_more t u d e (inl here) (inl there) same = here.0 ∙ sym there.0
    apart_more t u d e (inl here) (inr there) same = absurd (omega (arith, here.1, same, owes.before u e there))
    apart_more t u d e (inr here) (inl there) same = absurd (omega (arith, there.1, same, owes.before t d here))
    apart_more t u d e (inr here) (inr there) same = owes.apart t u d e here there same

    -- the departure of one that was owing is another
    still_sent : (was : Owing) → Contains owing was → (b : Bool) → same_sight was.gives one.gives ≡ b
        → option_map (λ (d : Departure). d.place) (cond b (Some (record { arrived = arrived; place = place })) (old.gave was.gives)) ≡ Some was.at.place
    still_sent was c true same =
        let gone : old.gave was.gives ≡ None = ap old.gave (sight_true was.gives one.gives same) ∙ not_given in
        absurd (none-some was.at.place (sym (ap (option_map (λ (d : Departure). d.place)) gone) ∙ owes.gives was c))
    still_sent was c false same = owes.gives was c

    gives_more : (was : Owing) → Contains more was → option_map (λ (d : Departure). d.place) (new.gave was.gives) ≡ Some was.at.place
    gives_more was c = elim (Contains-push_cases owing one was c) [
      | inl there ↦ ap (option_map (λ (d : Departure). d.place)) (gave was.gives) ∙ still_sent was there (same_sight was.gives one.gives) refl
      | inr is ↦ subst (λ (o : Owing). option_map (λ (d : Departure). d.place) (new.gave o.gives) ≡ Some o.at.place) is
          (ap (option_map (λ (d : Departure). d.place)) (gave one.gives ∙ ap (λ (b : Bool). cond b (Some (record { arrived = arrived; place = place })) (old.gave one.gives)) (sight_same one.gives one.gives refl)) ∙ ap Some (sym at))
    ]

    pub owes_more : Owes (place + 1) new more
    owes_more = record {
      rising = subst Rise (sym places_more) (rise_push (places_of owing) place owes.rising owing_before);
      all = λ p. (
        λ some. subst (λ (ns : List ℕ). Contains ns p) (sym places_more) ((all_more p (nat_eq p place) refl).0 (subst IsSome (owed p) some)),
        λ c. subst IsSome (sym (owed p)) ((all_more p (nat_eq p place) refl).1 (subst (λ (ns : List ℕ). Contains ns p) places_more c)),
      );
      gives = gives_more;
      before = λ t d is. elim (gift t d is) [ inl here ↦ omega (arith, here.1) | inr was ↦ omega (arith, owes.before t d was) ];
      apart = λ t u d e is other same. apart_more t u d e (gift t d is) (gift u e other) same;
    }

-- ---- an event

was_sent : (hold moment : ℕ) (sent : Option Departure) → out_fault hold sent moment ≡ None → (d : Departure) × (sent ≡ Some d)
was_sent hold moment None right = absurd (none-some LeftWithoutAct (sym right))
was_sent hold moment (Some d) right = (d, refl)

module _ (w : Rules) (terms : Terms) (pair : Pair) (place : ℕ) (old new : Kept) (m : Memory) (owes : Owes place old m.owing) where
  pub owes_on : (event : Happening) → IsRight terms old event → SameKept new (after terms place old event) → Owes (place + 1) new (remembered w m (placed_at terms pair place event)).owing
  owes_on (Came s user key) right same = owes_same place (place + 1) old new m.owing (omega arith) same.owed same.gave owes
  owes_on (Acted a l key) right same =
      let may_be = open_to terms.policy.hold key.moment (old.came a.id) (old.gave l.id) right.0 in
      owes_more place old m.owing owes (record { at = place_at terms key place; sight = a.id; gives = l.id }) refl may_be.came may_be.not_given new
      (record { at = place_at terms key place; sight = a.id }) same.owed
      (λ t. same.gave t ∙ ap (λ (sent : Option Departure). cond (same_sight t l.id) sent (old.gave t)) (ap (λ (o : Option Arrival). departure_for o place) may_be.is))
  owes_on (Went s key) right same =
      let was = was_sent terms.policy.hold key.moment (old.gave s.id) right in
      owes_left place old m.owing owes s.id was.0 was.1 new (λ p. same.owed p ∙ without p (old.gave s.id) was.0 was.1) same.gave where
        without : (p : ℕ) (sent : Option Departure) (d : Departure) → sent ≡ Some d → (after terms place (record old { gave = λ _. sent }) (Went s key)).owed p ≡ cond (nat_eq p d.place) None (old.owed p)
        without p sent d is = ap (λ (o : Option Departure). (after terms place (record old { gave = λ _. o }) (Went s key)).owed p) is
