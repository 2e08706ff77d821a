-- The walk of a lane, one event on.
use Rattle.std.proofs.Common.{◌≡◌, ℕ, zero, suc, ◌+◌, ◌<◌, ◌≤◌, Bool, true, false, cond, List, [], ◌∷◌, length, map, drop, drop-cons, add-one, get_or, Option, Some, None, refl, sym, ap, ◌∙◌, subst, inl, inr, arith}
use Rattle.std.specs.List.{find}
use Rattle.std.specs.Prelude.{option_map, option_to_list, slice_get}
use Rattle.audit_lane.proofs.Lists.{get_map}
use Rattle.std.proofs.lemmas.List.{drop_all}
use Rattle.audit_model.specs.declared.address.Addr.{Addr}
use Rattle.audit_rules.specs.Effect.{Standing}
use Rattle.audit_model.specs.declared.policy.Policy.{Policy}
use Rattle.audit_model.specs.declared.verdict.Breach.{Breach}
use Rattle.audit_rules.specs.declared.credentials.CredRow.{CredRow}
use Rattle.audit_rules.specs.Seen.{is_of, key_in}
use Rattle.audit_lane.specs.declared.input.LaneEvent.{LaneEvent}
use Rattle.audit_lane.specs.After.{after}
use Rattle.audit_lane.specs.Content.{Content, User, Happening, Judgement, Breaks, user_of, happening, numbered}
use Rattle.audit_lane.specs.Faults.{IsRight}
use Rattle.audit_lane.specs.Kept.{Terms, Kept, at_first}
use Rattle.audit_lane.specs.Walk.{Shows, WalksTo, EndsIn}
use Rattle.audit_lane.specs.Judged.{is_user, key_by, terms_of, IsJudged, at_start}
use Rattle.audit_lane.specs.Seen.{SameKept, terms_by}

pub same_kept : (a b : Kept) → SameKept a b → a ≡ b
same_kept a b h = λ i. record { standing = h.standing i; came = λ s. h.came s i; gave = λ t. h.gave t i; owed = λ p. h.owed p i; ended = h.ended i }

found_as : (b : Bool) (row : CredRow) (one : Option CredRow) (other : Option User) → option_map (λ (r : CredRow). r.key) one ≡ option_map (λ (u : User). u.key) other →
    option_map (λ (r : CredRow). r.key) (cond b (Some row) one) ≡ option_map (λ (u : User). u.key) (cond b (Some (user_of row)) other)
found_as true row one other h = refl
found_as false row one other h = h

key_same : (rows : List CredRow) (user realm : List ℕ) → key_in rows user realm ≡ key_by (map user_of rows) user realm
key_same [] user realm = refl
key_same (row ∷ rows) user realm = found_as (is_of user realm row) row (find (is_of user realm) rows) (find (is_user user realm) (map user_of rows)) (key_same rows user realm)

-- what the code is given says what the lane's content does
some_seen : (rows : List CredRow) (n : ℕ) → map user_of (option_to_list (slice_get rows n)) ≡ option_to_list (slice_get (map user_of rows) n)
some_seen [] n = refl
some_seen (row ∷ rows) zero = refl
some_seen (row ∷ rows) (suc n) = some_seen rows n

numbered_seen : (rows : List CredRow) (told : Option ℕ) → map user_of (numbered rows told) ≡ numbered (map user_of rows) told
numbered_seen rows None = refl
numbered_seen rows (Some n) = some_seen rows n

keys_same : (rows : List CredRow) (users : List User) → map user_of rows ≡ users → (told : Option ℕ) (user realm : List ℕ) → key_in (numbered rows told) user realm ≡ key_by (numbered users told) user realm
keys_same rows users u told user realm =
    key_same (numbered rows told) user realm ∙ ap (λ (us : List User). key_by us user realm) (numbered_seen rows told) ∙ ap (λ (us : List User). key_by (numbered us told) user realm) u

pub terms_same : (content : Content) (number : ℕ) (policy : Policy) (rows : List CredRow) → number ≡ content.number → policy ≡ content.policy → map user_of rows ≡ content.users → terms_by number policy rows ≡ terms_of content
terms_same content number policy rows n p u = λ i. record { number = n i; policy = p i; keys = λ told user realm. keys_same rows content.users u told user realm i }

get_seen : (xs : List LaneEvent) (i : ℕ) (d : LaneEvent) → i < length xs → get_or (map happening xs) i (happening d) ≡ happening (get_or xs i d)
get_seen [] i d h = absurd (omega arith)
get_seen (x ∷ xs) zero d h = refl
get_seen (x ∷ xs) (suc i) d h = get_seen xs i d (omega arith)

length_seen : (xs : List LaneEvent) → length (map happening xs) ≡ length xs
length_seen [] = refl
length_seen (x ∷ xs) = ap suc (length_seen xs)

-- whatever the rest comes to, the lane does
abbrev pub Comes : Content → ℕ → Kept → Type 0
Comes content i kept = (judgement : Judgement) → WalksTo (terms_of content) i kept (drop i content.events) judgement → IsJudged content judgement

module _ (content : Content) (events : List LaneEvent) (same : map happening events ≡ content.events) where
  -- what is left, where the event at the place is read
  next : (i : ℕ) (event : LaneEvent) → i < length events → event ≡ get_or events i event → drop i content.events ≡ happening event ∷ drop (i + 1) content.events
  next i event lt is =
      let e : drop i (map happening events) ≡ get_or (map happening events) i (happening event) ∷ drop (i + 1) (map happening events) = rw (add-one) (drop-cons (map happening events) i (happening event) (omega (arith, lt, length_seen events))) in
      subst (λ (l : List Happening). drop i l ≡ happening event ∷ drop (i + 1) l) same
      (e ∙ ap (λ (h : Happening). h ∷ drop (i + 1) (map happening events)) (get_seen events i event lt ∙ sym (ap happening is)))

  pub first : (kept : Kept) → SameKept kept (at_start content) → Comes content 0 kept
  unfolding IsJudged
  first kept is judgement walks = subst (λ (k : Kept). WalksTo (terms_of content) 0 k content.events judgement) (same_kept kept (at_start content) is) walks

  pub on : (terms : Terms) → terms ≡ terms_of content → (i : ℕ) (event : LaneEvent) (kept more : Kept) → i < length events → event ≡ get_or events i event →
      IsRight terms kept (happening event) → SameKept more (after terms i kept (happening event)) → Comes content i kept → Comes content (i + 1) more
  on terms to i event kept more lt is right left comes judgement walks =
      comes judgement (subst (λ (l : List Happening). WalksTo (terms_of content) i kept l judgement) (sym (next i event lt is))
      (inr (
        subst (λ (t : Terms). IsRight t kept (happening event)) to right,
        subst (λ (k : Kept). WalksTo (terms_of content) (i + 1) k (drop (i + 1) content.events) judgement) (same_kept more (after terms i kept (happening event)) left ∙ ap (λ (t : Terms). after t i kept (happening event)) to) walks,
      )))

  pub stops : (terms : Terms) → terms ≡ terms_of content → (i : ℕ) (event : LaneEvent) (kept : Kept) (breach : Breach) → i < length events → event ≡ get_or events i event →
      Shows terms i kept (happening event) breach → Comes content i kept → IsJudged content (Breaks breach)
  stops terms to i event kept breach lt is shows comes =
      comes (Breaks breach) (subst (λ (l : List Happening). WalksTo (terms_of content) i kept l (Breaks breach)) (sym (next i event lt is))
      (inl (breach, subst (λ (t : Terms). Shows t i kept (happening event) breach) to shows, refl)))

  pub ends : (i : ℕ) (kept : Kept) (judgement : Judgement) → length events ≤ i → EndsIn kept judgement → Comes content i kept → IsJudged content judgement
  ends i kept judgement le end comes =
      comes judgement (subst (λ (l : List Happening). WalksTo (terms_of content) i kept l judgement) (sym (drop_all i content.events (subst (λ (l : List Happening). length l ≤ i) same (omega (arith, le, length_seen events))))) end)

pub start_same : (content : Content) (kept : Kept) (number : ℕ) (client listen : Addr) → number ≡ content.number → client ≡ content.client → listen ≡ content.listen →
    SameKept kept (at_first (record { client = client; listen = listen; lane = number; allocation = None; tenancy = None })) → SameKept kept (at_start content)
start_same content kept number client listen n c l h = subst (λ (s : Standing). SameKept kept (at_first s)) (λ i. record { client = c i; listen = l i; lane = n i; allocation = None; tenancy = None }) h

pub event_there : (content : Content) (events : List LaneEvent) → map happening events ≡ content.events → (i : ℕ) (event : LaneEvent) → i < length content.events → event ≡ get_or events i event → slice_get content.events i ≡ Some (happening event)
event_there content events same i event lt is =
    let below : i < length events = omega (arith, lt, ap length same, length_seen events) in
    subst (λ (l : List Happening). slice_get l i ≡ Some (happening event)) same (get_map happening events i event event below is)
