-- Tables of leases as functions.
use Rattle.std.proofs.Common.{◌≡◌, ℕ, Bool, true, false, List, [], ◌∷◌, Option, Some, None, if◌then◌else◌, ◌==◌, refl, sym, ap, ◌∙◌, arith}
use Rattle.std.specs.Ordering.{nat_cmp}
use Rattle.std.specs.List.{list_any}
use Rattle.std.specs.Cmp.{unsigned_tied}
use Rattle.std.proofs.lemmas.Bool.{eqb-true}
use Rattle.std.proofs.lemmas.Bool.Decides.{nat_tests}
use Rattle.audit_expiry.specs.declared.lease.Lease.{Lease}
use Rattle.audit_expiry.specs.Leases.{value_at, Puts, PutsAll, Removes, is_same}
use Rattle.audit_rules.specs.declared.table.Channel.{Channel}
use Rattle.audit_model.specs.declared.address.Addr.{Addr}
use Rattle.audit_rules.specs.Allocation.{granted, bound}

pub same_number : (a b : ℕ) → is_same nat_cmp a b ≡ (a == b)
same_number a b = unsigned_tied a b

pub any_same : (ips : List ℕ) (ip : ℕ) → list_any (λ one. is_same nat_cmp one ip) ips ≡ list_any (λ one. one == ip) ips
any_same ips ip = ap (λ (f : ℕ → Bool). list_any f ips) (λ i one. same_number one ip i)

pub granted_is : (old new : List (ℕ × Lease)) (ips : List ℕ) (until : ℕ) → PutsAll nat_cmp old new ips (record { until = until }) → value_at nat_cmp new ≡ granted (value_at nat_cmp old) ips until
granted_is old new ips until p = λ i ip. (p ip ∙ ap (λ t. if t then Some (record { until = until }) else value_at nat_cmp old ip) (any_same ips ip)) i

one_any : (f : ℕ → Bool) (x : ℕ) → f x ≡ list_any f (x ∷ [])
one_any f x = elim (f x) as (λ b. f x ≡ b → b ≡ list_any f (x ∷ [])) [ true ↦ λ e. rw e refl | false ↦ λ e. rw e refl ] refl

pub granted_one : (old new : List (ℕ × Lease)) (ip until : ℕ) → Puts nat_cmp old new ip (record { until = until }) → value_at nat_cmp new ≡ granted (value_at nat_cmp old) (ip ∷ []) until
granted_one old new ip until p =
    λ i q. (p q ∙ ap (λ t. if t then Some (record { until = until }) else value_at nat_cmp old q) (one_any (λ one. is_same nat_cmp one q) ip ∙ any_same (ip ∷ []) q)) i

pub bound_is : (old new : List (ℕ × Channel)) (number : ℕ) (peer : Addr) (until : ℕ) → Puts nat_cmp old new number (record { lease = record { until = until }; peer = peer }) → value_at nat_cmp new ≡ bound (value_at nat_cmp old) number peer until
bound_is old new number peer until p = λ i n. (p n ∙ ap (λ t. if t then Some (record { lease = record { until = until }; peer = peer }) else value_at nat_cmp old n) (same_number number n)) i

back_at : {V : Type 0} (b : Bool) (new mid old was other : Option V) → (b ≡ true → old ≡ was) → new ≡ (if b then was else mid) → mid ≡ (if b then other else old) → new ≡ old
back_at true new mid old was other there n m = n ∙ sym (there refl)
back_at false new mid old was other there n m = n ∙ m

there_at : (old : List (ℕ × Channel)) (number n : ℕ) (was : Option Channel) → value_at nat_cmp old number ≡ was → is_same nat_cmp number n ≡ true → value_at nat_cmp old n ≡ was
there_at old number n was e same = ap (value_at nat_cmp old) (sym (eqb-true number n (sym (same_number number n) ∙ same))) ∙ e

-- what was there is put back
pub put_back : (old mid new : List (ℕ × Channel)) (number : ℕ) (channel before : Channel) → Puts nat_cmp old mid number channel → Puts nat_cmp mid new number before → value_at nat_cmp old number ≡ Some before → value_at nat_cmp new ≡ value_at nat_cmp old
put_back old mid new number channel before p q was =
    λ i n. back_at (is_same nat_cmp number n) (value_at nat_cmp new n) (value_at nat_cmp mid n) (value_at nat_cmp old n) (Some before) (Some channel) (there_at old number n (Some before) was) (q n) (p n) i

-- what wasn't there is taken out again
pub taken_back : (old mid new : List (ℕ × Channel)) (number : ℕ) (channel : Channel) → Puts nat_cmp old mid number channel → Removes nat_cmp mid new number → value_at nat_cmp old number ≡ None → value_at nat_cmp new ≡ value_at nat_cmp old
taken_back old mid new number channel p q was =
    λ i n. back_at (is_same nat_cmp number n) (value_at nat_cmp new n) (value_at nat_cmp mid n) (value_at nat_cmp old n) None (Some channel) (there_at old number n None was) (q n) (p n) i

is_itself : (n : ℕ) → (n == n) ≡ true
is_itself n = grind (arith, nat_tests)

-- what was put is there
pub put_there : (old new : List (ℕ × Channel)) (number : ℕ) (channel : Channel) → Puts nat_cmp old new number channel → value_at nat_cmp new number ≡ Some channel
put_there old new number channel p = p number ∙ ap (λ t. if t then Some channel else value_at nat_cmp old number) (same_number number number ∙ is_itself number)
