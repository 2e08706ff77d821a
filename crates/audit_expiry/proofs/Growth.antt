-- Lemmas on keys that are added to a table one by one, and taken out again.
use Rattle.std.proofs.Common.{◌≡◌, false, cond, List, [], ◌∷◌, ◌++◌, Option, Some, None, sym, refl, ap}
use Rattle.std.proofs.lemmas.Option.{none-some}
use Rattle.std.proofs.lemmas.Bool.{true≢false}
use Rattle.std.specs.Prelude.{MatchOption, is_some}
use Rattle.std.specs.Map.{remove_entry}
use Rattle.std.specs.BTreeMap.{insert_entry}
use Rattle.std.specs.declared.cmp.Ordering.{Ordering}
use Rattle.std.specs.declared.cmp.Ordering.TheVariants.{Less, Equal, Greater}
use Rattle.std.specs.Ordering.{is_eq, match_ordering}
use Rattle.audit_expiry.specs.Leases.{is_same, value_at, Puts}
use Rattle.audit_expiry.specs.Growth.{Grew, Adds}

module _ {K V : Type 0} (order : K → K → Ordering) (key : K) (value : V) (same : order key key ≡ Equal) where
  -- at the first entry, by how its key compares
  at_first : (e : K × V) (es grown : List (K × V)) (o : Ordering) → order key e.0 ≡ o → cond (is_eq o) (Some e.1) (value_at order es key) ≡ None
      → (value_at order es key ≡ None → remove_entry (is_same order key) grown ≡ es)
      → remove_entry (is_same order key) (match_ordering o ((key, value) ∷ e ∷ es) ((e.0, value) ∷ es) (e ∷ grown)) ≡ e ∷ es
  at_first e es grown Less is absent rest = rw same refl
  at_first e es grown Equal is absent rest = absurd (none-some _ (sym absent))
  at_first e es grown Greater is absent rest = rw is (ap (λ (t : List (K × V)). e ∷ t) (rest absent))

  -- a key that was new, added and taken out
  pub remove_entry-insert_entry : (table : List (K × V)) → value_at order table key ≡ None
      → remove_entry (is_same order key) (insert_entry order table key value) ≡ table
  remove_entry-insert_entry [] absent = rw same refl
  remove_entry-insert_entry (e ∷ es) absent = at_first e es _ (order key e.0) refl absent (remove_entry-insert_entry es)

-- one more key
pub grew_more : {K V : Type 0} (order : K → K → Ordering) (value : V) (before : List (K × V)) (keys : List K) (after : List (K × V)) (key : K)
    → Grew order value before keys after → value_at order after key ≡ None → Grew order value before (keys ++ key ∷ []) (insert_entry order after key value)
grew_more order value before [] after key is absent = (rw (← is) absent, rw is refl)
grew_more order value before (k ∷ ks) after key is absent = (is.0, grew_more order value _ ks after key is.1 absent)

-- the last key taken out
pub grew_less : {K V : Type 0} (order : K → K → Ordering) (value : V) (before : List (K × V)) (keys : List K) (after : List (K × V)) (key : K) → order key key ≡ Equal
    → Grew order value before (keys ++ key ∷ []) after → Grew order value before keys (remove_entry (is_same order key) after)
grew_less order value before [] after key same is = rw is.1 (remove_entry-insert_entry order key value same before is.0)
grew_less order value before (k ∷ ks) after key same is = (is.0, grew_less order value _ ks after key same is.1)

of_none : {X : Type 0} (o : Option X) (P : Type 0) (Q : X → Type 0) → is_some o ≡ false → P → MatchOption o P Q
of_none None P Q none p = p
of_none (Some x) P Q none p = absurd (true≢false none)

-- a key that is new
pub adds_new : {K V : Type 0} (order : K → K → Ordering) (old new : List (K × V)) (key : K) (value : V) (noted noted' : List K)
    → is_some (value_at order old key) ≡ false → new ≡ insert_entry order old key value → Puts order old new key value → noted' ≡ noted ++ key ∷ []
    → Adds order old new key value noted noted'
adds_new order old new key value noted noted' none entries puts notes = of_none _ _ _ none (entries, puts, notes)
