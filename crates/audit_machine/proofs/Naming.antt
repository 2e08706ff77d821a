-- A sighting of an intake has the name by which it is looked up, and the user that a request names has the key of the credentials.
use Rattle.std.proofs.Common.{◌≡◌, ℕ, Bool, true, cond, ◌&&◌, List, [], ◌∷◌, Option, Some, None, refl, sym, ap, subst, ◌∙◌}
use Rattle.std.specs.Prelude.{option_map, false}
use Rattle.std.specs.Str.{bytes_eq}
use Rattle.std.proofs.lemmas.Slice.Eq.{bytes_eq-Decides}
use Rattle.audit_model.specs.declared.pair.Pair.{Pair}
use Rattle.audit_model.specs.declared.policy.Policy.{Policy}
use Rattle.audit_model.specs.declared.sighting.SightId.{SightId}
use Rattle.audit_model.specs.declared.sighting.Sighting.{Sighting}
use Rattle.audit_stun.specs.declared.numbers.attribute.TheConstants.{USERNAME, REALM}
use Rattle.audit_stun.specs.Counted.{first_of}
use Rattle.audit_stun.specs.Message.{Parts}
use Rattle.audit_stun.specs.Parts.{parts_of}
use Rattle.audit_stun.proofs.Headers.{header_of_message}
use Rattle.audit_keys.specs.declared.keys.Keys.{Keys}
use Rattle.audit_rules.specs.declared.credentials.CredRow.{CredRow}
use Rattle.audit_rules.specs.Keys.{KeyFor}
use Rattle.audit_rules.specs.Named.{Names, RequestNamesNobody}
use Rattle.audit_rules.specs.Seen.{key_in}
use Rattle.audit_server.specs.Step.{Act}
use Rattle.audit_sightings.specs.Intake.{Taken, sighting_at, AreNumbered}
use Rattle.audit_whole.proofs.Placement.{in_row}
use Rattle.audit_segments.specs.Cut.{Cut}
use Rattle.audit_segments.specs.Segment.{View, IsSegment}
use Rattle.audit_machine.specs.Keys.{AgreeInRequest}
use Rattle.audit_machine.specs.Machine.{one_step}

pub name_is : (taken : Taken) → AreNumbered taken → (s : SightId) (x : Sighting) → sighting_at taken s ≡ Some x → x.id ≡ s
name_is taken numbered s x there = numbered s.iface s.index x (in_row taken s x there)

pub there_by_id : (view : View) (s : SightId) (x : Sighting) → x.id ≡ s → view s ≡ Some x → view x.id ≡ Some x
there_by_id view s x id there = subst (λ (n : SightId). view n ≡ Some x) (sym id) there

-- ---- keys

same_some : {X : Type 0} (x y : X) → Some x ≡ Some y → x ≡ y
same_some x y h = cc

is_the_one : (a b : Bool) → a ≡ true → b ≡ true → (a && b) ≡ true
is_the_one a b h k = ap (λ c. c && b) h ∙ k

key_alone : (one : CredRow) (user realm : List ℕ) → one.user.now ≡ user → one.realm.now ≡ realm → key_in (one ∷ []) user realm ≡ Some one.key
key_alone one user realm u r =
    ap (λ (b : Bool). option_map (λ (o : CredRow). o.key) (cond b (Some one) None))
    (is_the_one (bytes_eq one.user.now user) (bytes_eq one.realm.now realm) ((bytes_eq-Decides one.user.now user).1 u) ((bytes_eq-Decides one.realm.now realm).1 r))

pub one_agrees : (key_for : KeyFor) (payload : List ℕ) (one : CredRow) → Names key_for payload one.user.now one.realm.now one.key → AgreeInRequest (key_in (one ∷ [])) key_for payload
one_agrees key_for payload one names message class user realm names_user names_realm =
    let parts = (header_of_message payload names.parts names.message).1 in
    let same_user : one.user.now ≡ user = same_some one.user.now user (sym names.names_user ∙ ap (λ (p : Parts). first_of USERNAME p.attributes) parts ∙ names_user) in
    let same_realm : one.realm.now ≡ realm = same_some one.realm.now realm (sym names.names_realm ∙ ap (λ (p : Parts). first_of REALM p.attributes) parts ∙ names_realm) in
    key_alone one user realm same_user same_realm ∙ sym names.known ∙ ap (λ (u : List ℕ). key_for u one.realm.now) same_user ∙ ap (key_for user) same_realm

pub nobody_agrees : (key_for : KeyFor) (payload : List ℕ) → RequestNamesNobody key_for payload → AgreeInRequest (key_in []) key_for payload
nobody_agrees key_for payload nobody message class user realm names_user names_realm = by_key (key_for user realm) refl where
  by_key : (found : Option Keys) → key_for user realm ≡ found → None ≡ key_for user realm
  by_key None is = sym is
  by_key (Some key) is = absurd (nobody message class user realm key (record { parts = parts_of payload; message = message; names_user = names_user; names_realm = names_realm; known = is }))

-- an act by the names of its sightings
pub act_named : (policy : Policy) (key_for : KeyFor) (view : View) (users : List CredRow) (pair : Pair) (s t : SightId) (x y : Sighting) (moment : ℕ) (old new : (SightId → Bool) → Cut) → x.id ≡ s → y.id ≡ t → view s ≡ Some x → view t ≡ Some y →
    AgreeInRequest (key_in users) key_for x.payload →
    ((key_for : KeyFor) (view : View) (excluded : SightId → Bool) → AgreeInRequest (key_in users) key_for x.payload → view x.id ≡ Some x → view y.id ≡ Some y → excluded x.id ≡ false → excluded y.id ≡ false →
    IsSegment policy key_for view (old excluded) (one_step moment (Act pair x.id y.id)) (new excluded)) →
    (excluded : SightId → Bool) → excluded s ≡ false → excluded t ≡ false → IsSegment policy key_for view (old excluded) (one_step moment (Act pair s t)) (new excluded)
act_named policy key_for view users pair s t x y moment old new id id_y there there_y agree h excluded free free_y =
    subst (λ (n : SightId). IsSegment policy key_for view (old excluded) (one_step moment (Act pair n t)) (new excluded)) id
    (subst (λ (n : SightId). IsSegment policy key_for view (old excluded) (one_step moment (Act pair x.id n)) (new excluded)) id_y
    (h key_for view excluded agree (there_by_id view s x id there) (there_by_id view t y id_y there_y) (ap excluded id ∙ free) (ap excluded id_y ∙ free_y)))
