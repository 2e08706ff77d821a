-- Lemmas on the entries of a table.
use Rattle.std.proofs.Common.{◌≡◌, cond, List, [], ◌∷◌, Option, Some, sym, subst, refl}
use Rattle.std.proofs.lemmas.Option.{none-some, same_Some}
use Rattle.std.specs.List.{AllByRecursion}
use Rattle.std.specs.declared.cmp.Ordering.{Ordering}
use Rattle.std.specs.declared.cmp.Ordering.TheVariants.{Less, Equal, Greater}
use Rattle.std.specs.Ordering.{is_eq}
use Rattle.audit_expiry.specs.Leases.{Everywhere}

-- what holds of each entry
abbrev pub EachEntry : {K V : Type 0} → (K → V → Type 0) → List (K × V) → Type 0
EachEntry Fact table = AllByRecursion (λ e. Fact e.0 e.1) table

-- at an entry whose key compares to the one that is looked for
from_entry : {K V : Type 0} (Fact : K → V → Type 0) (key own : K) (value had : V) (rest : Option V) (o : Ordering)
    → (o ≡ Equal → key ≡ own) → Fact own had → (rest ≡ Some value → Fact key value) → cond (is_eq o) (Some had) rest ≡ Some value → Fact key value
from_entry Fact key own value had rest Less same here there h = there h
from_entry {K} {V} Fact key own value had rest Equal same here there h =
    let AtValue : V → Type 0 = λ v. Fact key v in
    let AtKey : K → Type 0 = λ k. Fact k had in
    subst AtValue (same_Some _ _ h) (subst AtKey (sym (same refl)) here)
from_entry Fact key own value had rest Greater same here there h = there h

-- what holds of each entry holds of what a key has
pub everywhere_from_each : {K V : Type 0} (order : K → K → Ordering) (Fact : K → V → Type 0) → ((one other : K) → order one other ≡ Equal → one ≡ other)
    → (table : List (K × V)) → EachEntry Fact table → Everywhere order table Fact
everywhere_from_each order Fact exact [] each key value h = absurd (none-some _ h)
everywhere_from_each order Fact exact (e ∷ es) each key value h =
    from_entry Fact key e.0 value e.1 _ (order key e.0) (exact key e.0) each.0 (λ r. everywhere_from_each order Fact exact es each.1 key value r) h
