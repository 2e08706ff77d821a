-- The first placements, as one more entry comes.
use Rattle.std.proofs.Common.{◌≡◌, ◌⊎◌, inl, inr, Bool, true, false, cond, List, [], ◌∷◌, ◌++◌, Option, Some, None, refl, sym, ap, ◌∙◌, ◌&&◌, ◌==◌, ℕ}
use Rattle.std.specs.Prelude.{is_some, Result, Ok, Err, IfOk, OnOk}
use Rattle.std.proofs.lemmas.Bool.{true≢false, eqb-true}
use Rattle.audit_model.specs.declared.certificate.Certificate.{Certificate}
use Rattle.audit_model.specs.declared.event.At.{At}
use Rattle.audit_model.specs.declared.event.Event.{Event}
use Rattle.audit_model.specs.declared.event.Event.TheVariants.{In, Out}
use Rattle.audit_model.specs.declared.sighting.SightId.{SightId}
use Rattle.audit_model.specs.declared.event.Key.{Key}
use Rattle.audit_placement.specs.declared.entry.Entry.{Entry}
use Rattle.audit_placement.specs.declared.first.FirstPlaces.{FirstPlaces}
use Rattle.audit_placement.specs.FirstPlace.{places, first_place, noted, Notes}
use Rattle.audit_model.specs.Sames.{same_sight}

-- the old place where there is one
abbrev pub or_new : Option At → Option At → Option At
or_new None new = new
or_new (Some at) new = Some at

push_at : (b : Bool) (at : At) (all old new : Option At) → all ≡ or_new old new → cond b (Some at) all ≡ or_new (cond b (Some at) old) new
push_at true at all old new h = refl
push_at false at all old new h = h

pub first_place_push : (earlier : List Entry) (entry : Entry) (sight : SightId)
    → first_place (earlier ++ entry ∷ []) sight ≡ or_new (first_place earlier sight) (cond (places entry.event sight) (Some entry.at) None)
first_place_push [] entry sight = refl
first_place_push (e ∷ earlier) entry sight =
    push_at (places e.event sight) e.at _ _ (cond (places entry.event sight) (Some entry.at) None) (first_place_push earlier entry sight)

or_none : (o : Option At) → or_new o None ≡ o
or_none None = refl
or_none (Some at) = refl

both_true : (a b : Bool) → (a && b) ≡ true → (a ≡ true) × (b ≡ true)
both_true true b h = (refl, h)
both_true false b h = absurd (true≢false (sym h))

pub same_is : (one other : SightId) → same_sight one other ≡ true → one ≡ other
same_is one other h =
    let both = both_true (one.iface == other.iface) (one.index == other.index) h in
    let iface : one.iface ≡ other.iface = eqb-true _ _ both.0 in
    let index : one.index ≡ other.index = eqb-true _ _ both.1 in
    ap (λ (p : ℕ × ℕ). let id : SightId = record { iface = p.0; index = p.1 } in id) (rw (iface, index) refl)

by_case : (f : SightId → Option At) (sight other : SightId) (at : At) (same : Bool) → same_sight sight other ≡ same
    → (placed : Bool) → placed ≡ is_some (f sight) → (o : Option At) → f sight ≡ o
    → cond placed (f other) (cond same (Some at) (f other)) ≡ or_new (f other) (cond same (Some at) None)
by_case f sight other at false apart true is o there = sym (or_none (f other))
by_case f sight other at false apart false is o there = sym (or_none (f other))
by_case f sight other at true same true is None there = absurd (true≢false (is ∙ ap is_some there))
by_case f sight other at true same true is (Some first) there = rw (sym (ap f (same_is sight other same)), there) refl
by_case f sight other at true same false is None there = rw (sym (ap f (same_is sight other same)), there) refl
by_case f sight other at true same false is (Some first) there = absurd (true≢false (sym (is ∙ ap is_some there)))

-- what is noted, where an entry places the sighting, is what the entries with it say
pub noted_push : (f : SightId → Option At) (sight other : SightId) (at : At) (placed : Bool) → placed ≡ is_some (f sight)
    → cond placed (f other) (cond (same_sight sight other) (Some at) (f other)) ≡ or_new (f other) (cond (same_sight sight other) (Some at) None)
noted_push f sight other at placed is = by_case f sight other at (same_sight sight other) refl placed is (f sight) refl

-- an entry that places the sighting is noted, unless an earlier one is
pub notes_push : (certificate : Certificate) (old new : FirstPlaces) (entry : Entry) (spot : Option At) (sight : SightId) → spot ≡ Some entry.at
    → ((s : SightId) → places entry.event s ≡ same_sight sight s)
    → (placed : Bool) → placed ≡ is_some (noted certificate old sight)
    → ((s : SightId) → noted certificate new s ≡ cond placed (noted certificate old s) (cond (same_sight sight s) spot (noted certificate old s)))
    → (earlier : List Entry) → Notes certificate old earlier → Notes certificate new (earlier ++ entry ∷ [])
notes_push certificate old new entry spot sight there same placed is set earlier notes = λ s.
    set s ∙ ap (λ (o : Option At). cond placed (noted certificate old s) (cond (same_sight sight s) o (noted certificate old s))) there
    ∙ noted_push (noted certificate old) sight s entry.at placed is
    ∙ ap (λ (o : Option At). or_new o (cond (same_sight sight s) (Some entry.at) None)) (notes s)
    ∙ ap (λ (b : Bool). or_new (first_place earlier s) (cond b (Some entry.at) None)) (sym (same s))
    ∙ sym (first_place_push earlier entry s)

-- an act places nothing
pub notes_same : (certificate : Certificate) (first : FirstPlaces) (entry : Entry) → ((s : SightId) → places entry.event s ≡ false)
    → (earlier : List Entry) → Notes certificate first earlier → Notes certificate first (earlier ++ entry ∷ [])
notes_same certificate first entry nothing earlier notes = λ s.
    notes s ∙ sym (or_none (first_place earlier s))
    ∙ ap (λ (b : Bool). or_new (first_place earlier s) (cond b (Some entry.at) None)) (sym (nothing s))
    ∙ sym (first_place_push earlier entry s)

-- an arrival or a departure of the sighting
pub places_one : (event : Event) (sight : SightId) → ((key : Key) × (event ≡ In sight key)) ⊎ ((key : Key) × (event ≡ Out sight key))
    → (s : SightId) → places event s ≡ same_sight sight s
places_one event sight (inl (key, is)) s = ap (λ (e : Event). places e s) is
places_one event sight (inr (key, is)) s = ap (λ (e : Event). places e s) is

-- what follows where a call went well
pub where_ok : {A E : Type 0} (r : Result A E) (P Q : A → Type 0) (R : Type 0) → IfOk r P → IfOk r Q → ((x : A) → P x → Q x → R) → OnOk r R
where_ok (Ok x) P Q R p q f = f x p q
where_ok (Err e) P Q R p q f = tt
