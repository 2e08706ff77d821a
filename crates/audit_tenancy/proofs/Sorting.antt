-- Tenancies in another order.
use Rattle.std.proofs.Common.{◌≡◌, Bool, List, Option, ap}
use Rattle.std.proofs.lemmas.Fn.{always_returns_same}
use Rattle.std.proofs.lemmas.List.Sorted.{ranks_by, Contains-permutation, IsPermutation-sym}
use Rattle.std.specs.Cmp.{IsStrictWeakOrder}
use Rattle.std.specs.Fn.{Called, ComparesAs}
use Rattle.std.specs.List.Sorted.{IsSortedBy}
use Rattle.std.specs.Ordering.{is_lt}
use Rattle.std.specs.Prelude.{IsPermutation, IsSorted}
use Rattle.std.specs.declared.cmp.Ordering.{Ordering}
use Rattle.audit_model.specs.declared.verdict.Breach.{Breach}
use Rattle.audit_model.specs.declared.verdict.Tenancy.{Tenancy}
use Rattle.audit_model.specs.Clash.{ShowsClash}
use Rattle.audit_model.specs.Least.{IsLeast}
use Rattle.audit_model.proofs.LeastBreach.{least_same}
use Rattle.audit_tenancy.specs.Kept.{tenancy_cmp}
use Rattle.audit_tenancy.proofs.Addresses.{tenancy_total}
use denote.Param.Members.{Mut}
use denote.Ref.{Bor}

-- what a sort by a closure gives, where each call answers by the order of tenancies
pub in_order : {F : Type 0} {g : Mut F (Bor Tenancy × (Bor Tenancy × Unit {0})) Ordering} {f : F} (xs : List Tenancy)
    → ((lt : Tenancy → Tenancy → Bool) → IsStrictWeakOrder lt → ComparesAs g lt f → IsSortedBy lt xs)
    → ((a : Bor Tenancy × (Bor Tenancy × Unit {0})) (r : Ordering) (f' : F) → Called g f a r f' → (r ≡ tenancy_cmp a.0.now a.1.0.now) × (f' ≡ f))
    → IsSorted tenancy_cmp xs
in_order {g = g} {f = f} xs sorts answers =
    sorts (λ x y. is_lt (tenancy_cmp x y)) (ranks_by tenancy_total (λ x. x))
    (always_returns_same g (λ a r. is_lt r ≡ is_lt (tenancy_cmp a.0.now a.1.0.now)) f (λ a r f' k. (ap is_lt (answers a r f' k).0, (answers a r f' k).1)))

moved : (xs ys : List Tenancy) → IsPermutation xs ys → (b : Breach) → ShowsClash xs b → ShowsClash ys b
moved xs ys is b (one, held, one_in, held_in, clash, same) =
    (one, held, Contains-permutation xs ys one is one_in, Contains-permutation xs ys held is held_in, clash, same)

-- the order of the tenancies makes no difference
pub least_moved : (xs ys : List Tenancy) (least : Option Breach) → IsPermutation xs ys → IsLeast (ShowsClash ys) least → IsLeast (ShowsClash xs) least
least_moved xs ys least is shown =
    least_same (ShowsClash ys) (ShowsClash xs) (moved ys xs (IsPermutation-sym xs ys is)) (moved xs ys is) least shown
