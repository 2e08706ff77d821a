-- Lemmas on several keys that get one value.
use Rattle.std.proofs.Common.{◌≡◌, Bool, true, false, ◌||◌, List, [], ◌∷◌, ◌++◌, Option, Some, None, sym, refl, ap, ◌∙◌, ◌⊎◌, inl, inr}
use Rattle.std.proofs.lemmas.Bool.{true≢false}
use Rattle.std.proofs.lemmas.List.Elements.{All-push, All-weaker}
use Rattle.std.proofs.lemmas.List.Folds.{list_any-append}
use Rattle.std.specs.Prelude.{Result, Ok, Err, OnOk, OnErr, MatchOption, is_some, IsSome, if◌then◌else◌}
use Rattle.std.specs.List.{list_any}
use Rattle.std.specs.BTreeMap.{insert_entry}
use Rattle.std.specs.declared.cmp.Ordering.{Ordering}
use Rattle.std.specs.declared.cmp.Ordering.TheVariants.{Equal}
use Rattle.audit_expiry.specs.Leases.{is_same, value_at, Puts, PutsAll}
use Rattle.audit_expiry.specs.Growth.{Grew, Adds, HasEach, KeepsOthers}
use Rattle.audit_expiry.proofs.Growth.{grew_more}

by_cases : {X : Type 0} (o : Option X) (P Q : Type 0) → MatchOption o P (λ _. Q) → ((o ≡ None) × P) ⊎ (IsSome o × Q)
by_cases None P Q p = inl (refl, p)
by_cases (Some x) P Q q = inr (refl, q)

-- what an answer says, where it can't be a refusal
never_refused : {A E X : Type 0} (r : Result A E) (o : Option X) (P : Type 0) → OnOk r P → OnErr r (o ≡ None) → IsSome o → P
never_refused (Ok a) o P p e some = p
never_refused (Err x) o P p e some = absurd (true≢false (sym some ∙ ap is_some e))

-- a choice has a value where both sides have one
some_choice : {X : Type 0} (b : Bool) (value : X) (o : Option X) → IsSome o → IsSome (if b then Some value else o)
some_choice true value o h = refl
some_choice false value o h = h

neither : (a b : Bool) → (a || (b || false)) ≡ false → (a ≡ false) × (b ≡ false)
neither false false h = (refl, refl)
neither false true h = (refl, h)
neither true b h = absurd (true≢false h)

module _ {K V : Type 0} (order : K → K → Ordering) where
  -- what has something still has it after another key got a value
  still_some : (old new : List (K × V)) (key : K) (value : V) → Puts order old new key value → (q : K) → IsSome (value_at order old q) → IsSome (value_at order new q)
  still_some old new key value puts q h = rw (puts q) (some_choice (is_same order key q) value _ h)

  pub has_put : (old new : List (K × V)) (keys : List K) (key : K) (value : V) → Puts order old new key value → HasEach order old keys → HasEach order new keys
  has_put old new keys key value puts has = All-weaker _ _ (still_some old new key value puts) keys has

  -- the key itself has it then
  some_put : (old new : List (K × V)) (key : K) (value : V) → order key key ≡ Equal → Puts order old new key value → IsSome (value_at order new key)
  some_put old new key value same puts = rw (puts key, same) refl

  adds_cases : (old new : List (K × V)) (key : K) (value : V) (noted noted' : List K) → Adds order old new key value noted noted'
      → ((value_at order old key ≡ None) × ((new ≡ insert_entry order old key value) × Puts order old new key value × (noted' ≡ noted ++ key ∷ [])))
      ⊎ (IsSome (value_at order old key) × ((new ≡ old) × (noted' ≡ noted)))
  adds_cases old new key value noted noted' adds = by_cases _ _ _ adds

  -- a key that has something can't be refused
  pub puts_there : {E : Type 0} (r : Result (Unit {0}) E) (old new : List (K × V)) (key : K) (value : V)
      → OnOk r (Puts order old new key value) → OnErr r (value_at order old key ≡ None) → IsSome (value_at order old key) → Puts order old new key value
  puts_there r old new key value ok err some = never_refused r _ _ ok err some

  pub has_more : (old new : List (K × V)) (keys : List K) (key : K) (value : V) (noted noted' : List K) → order key key ≡ Equal
      → Adds order old new key value noted noted' → HasEach order old keys → HasEach order new (keys ++ key ∷ [])
  has_more old new keys key value noted noted' same adds has =
      elim (adds_cases old new key value noted noted' adds) [
        | inl fresh ↦ All-push (λ k. IsSome (value_at order new k)) keys key (has_put old new keys key value fresh.1.1 has) (some_put old new key value same fresh.1.1)
        | inr there ↦ rw there.1.0 (All-push (λ k. IsSome (value_at order old k)) keys key has there.0)
      ]

  pub keeps_more : (before old new : List (K × V)) (keys : List K) (key : K) (value : V) (noted noted' : List K)
      → Adds order old new key value noted noted' → KeepsOthers order before old keys → KeepsOthers order before new (keys ++ key ∷ [])
  keeps_more before old new keys key value noted noted' adds keeps q h =
      let parts : (list_any (λ k. is_same order k q) keys ≡ false) × (is_same order key q ≡ false) = neither _ _ (sym (list_any-append _ keys (key ∷ [])) ∙ h) in
      elim (adds_cases old new key value noted noted' adds) [
        | inl fresh ↦ rw (fresh.1.1 q, parts.1) (keeps q parts.0)
        | inr there ↦ rw there.1.0 (keeps q parts.0)
      ]

  pub grew_adds : (before old new : List (K × V)) (key : K) (value : V) (noted noted' : List K)
      → Adds order old new key value noted noted' → Grew order value before noted old → Grew order value before noted' new
  grew_adds before old new key value noted noted' adds grew =
      elim (adds_cases old new key value noted noted' adds) [
        | inl fresh ↦ rw (fresh.1.2, fresh.1.0) (grew_more order value before noted old key grew fresh.0)
        | inr there ↦ rw (there.1.1, there.1.0) grew
      ]

  -- one more key got the value
  pub puts_more : (before old new : List (K × V)) (keys : List K) (key : K) (value : V) → PutsAll order before old keys value
      → Puts order old new key value → PutsAll order before new (keys ++ key ∷ []) value
  puts_more before old new keys key value all puts q =
      rw (list_any-append (λ k. is_same order k q) keys (key ∷ []), puts q, all q) (both_ways (list_any _ keys) (is_same order key q) _ _)
    where
      both_ways : (a b : Bool) (x y : Option V) → (if b then x else (if a then x else y)) ≡ (if (a || (b || false)) then x else y)
      both_ways true true x y = refl
      both_ways true false x y = refl
      both_ways false true x y = refl
      both_ways false false x y = refl

  -- keys that have something get the value after what other keys have stayed
  pub puts_all : (before middle after : List (K × V)) (keys : List K) (value : V) → KeepsOthers order before middle keys
      → PutsAll order middle after keys value → PutsAll order before after keys value
  puts_all before middle after keys value keeps puts q = rw (puts q) (same_choice (list_any _ keys) _ _ _ (keeps q))
    where
      same_choice : (a : Bool) (x y z : Option V) → (a ≡ false → y ≡ z) → (if a then x else y) ≡ (if a then x else z)
      same_choice true x y z h = refl
      same_choice false x y z h = h refl
