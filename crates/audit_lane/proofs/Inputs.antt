-- A lane's input, event by event.
use Rattle.std.proofs.Common.{◌≡◌, ◌<◌, ◌+◌, ℕ, zero, suc, List, [], ◌∷◌, ◌++◌, length, map, take, get_or, All, Option, Some, None, sym, ap, ◌∙◌, subst}
use Rattle.std.specs.Prelude.{IsSomeAnd, slice_get}
use Rattle.std.specs.List.{AllZip}
use Rattle.std.proofs.lemmas.List.{take_more, map-append}
use Rattle.std.proofs.lemmas.List.Elements.{All-map, All-weaker}
use Rattle.audit_rules.specs.declared.credentials.CredRow.{CredRow}
use Rattle.audit_rules.specs.Keys.{KeyFor}
use Rattle.audit_rules.specs.Named.{Names}
use Rattle.audit_lane.specs.declared.input.LaneEvent.{LaneEvent}
use Rattle.audit_lane.specs.declared.input.LaneEvent.TheVariants.{In, Act, Out}
use Rattle.audit_lane.specs.Content.{user_of, happening}
use Rattle.audit_lane.specs.UserRows.{IsOfUser, Tells}
use Rattle.audit_lane.specs.Users.{IsItsUser, TellsItsUser}

zip_push : {A B : Type 0} (R : A → B → Type 0) (xs : List A) (ys : List B) (x : A) (y : B) → AllZip R xs ys → R x y → AllZip R (xs ++ x ∷ []) (ys ++ y ∷ [])
zip_push R [] [] x y all new = (new, tt)
zip_push R [] (z ∷ ys) x y all new = absurd all
zip_push R (z ∷ xs) [] x y all new = absurd all
zip_push R (z ∷ xs) (w ∷ ys) x y all new = (all.0, zip_push R xs ys x y all.1 new)

-- one event more
pub zip_more : {A B : Type 0} (R : A → B → Type 0) (f : LaneEvent → B) (xs : List A) (i : ℕ) (d : A) (ys more : List LaneEvent) (y : LaneEvent) → i < length xs → more ≡ ys ++ y ∷ [] →
    AllZip R (take i xs) (map f ys) → R (get_or xs i d) (f y) → AllZip R (take (i + 1) xs) (map f more)
zip_more R f xs i d ys more y lt grown all new =
    subst (λ l. AllZip R l (map f more)) (sym (take_more xs i d lt))
    (subst (λ l. AllZip R (take i xs ++ get_or xs i d ∷ []) l) (sym (ap (map f) grown ∙ map-append f ys (y ∷ []))) (zip_push R (take i xs) (map f ys) (get_or xs i d) (f y) all new))

some_user : (key_for : KeyFor) (payload : List ℕ) (rows : List CredRow) (n : ℕ) → IsSomeAnd (slice_get rows n) (λ row. Names key_for payload row.user.now row.realm.now row.key)
    → IsSomeAnd (slice_get (map user_of rows) n) (λ one. Names key_for payload one.user one.realm one.key)
some_user key_for payload [] n holds = elim holds [ ]
some_user key_for payload (row ∷ rows) zero holds = holds
some_user key_for payload (row ∷ rows) (suc n) holds = some_user key_for payload rows n holds

of_user : (key_for : KeyFor) (rows : List CredRow) (payload : List ℕ) (number : Option ℕ) → IsItsUser key_for rows payload number → IsOfUser key_for (map user_of rows) payload number
of_user key_for rows payload None holds = holds
of_user key_for rows payload (Some n) holds = some_user key_for payload rows n holds

tells : (key_for : KeyFor) (rows : List CredRow) (event : LaneEvent) → TellsItsUser key_for rows event → Tells key_for (map user_of rows) (happening event)
tells key_for rows (In sighting user key) holds = of_user key_for rows sighting.now.payload user holds
tells key_for rows (Act arrives leaves key) holds = tt
tells key_for rows (Out sighting key) holds = tt

pub all_tell : (key_for : KeyFor) (rows : List CredRow) (events : List LaneEvent) → All (TellsItsUser key_for rows) events → All (Tells key_for (map user_of rows)) (map happening events)
all_tell key_for rows events all =
    All-map (Tells key_for (map user_of rows)) happening events
    (All-weaker (TellsItsUser key_for rows) (λ event. Tells key_for (map user_of rows) (happening event)) (tells key_for rows) events all)
