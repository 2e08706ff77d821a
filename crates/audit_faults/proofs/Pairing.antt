-- An allocation pairs a client with a relayed address.
use Rattle.std.proofs.Common.{◌≡◌, ◌<◌, ◌≤◌, ◌+◌, inl, inr, ℕ, List, length, refl, sym, ◌∙◌, subst, arith}
use Rattle.std.specs.Prelude.{slice_index_or, Contains}
use Rattle.std.proofs.lemmas.Bool.{cases_lt}
use Rattle.std.proofs.lemmas.Option.{same_Some, slice_get-get_or}
use Rattle.audit_model.specs.declared.address.Addr.{Addr}
use Rattle.audit_model.specs.declared.sighting.Sighting.{Sighting}
use Rattle.audit_sightings.specs.Intake.{Taken}
use Rattle.audit_faults.specs.declared.fault.Fault.{Fault}
use Rattle.audit_faults.specs.declared.fault.Fault.TheVariants.{Unasked, Unallocated, Unpermitted, Unbound, Unfit, Unauthentic}
use Rattle.audit_faults.specs.declared.fault.Lease.TheVariants.{Allocation}
use Rattle.audit_faults.specs.declared.keyed.Keyed.{Keyed}
use Rattle.audit_faults.specs.ArrivalKeys.{IsOwnedBy}
use Rattle.audit_faults.specs.Beginning.{WasWanted}
use Rattle.audit_faults.specs.Explains.{IsWanted, Holds}
use Rattle.audit_faults.specs.Grants.{IsCaptured}
use Rattle.audit_faults.specs.Keyed.{number_at}
use Rattle.audit_faults.specs.Leased.{beginning_key, IsAnswerBy}
use Rattle.audit_faults.specs.Pairs.{Allocates, ArePaired, ArePairs}

-- ---- the list of pairs

pub kept_paired : (old new : List ℕ) (client relayed : Addr) → ((pair : ℕ) → Contains old pair → Contains new pair) → ArePaired old client relayed → ArePaired new client relayed
kept_paired old new client relayed kept paired = ((paired.0.0, kept _ paired.0.1), (paired.1.0, kept _ paired.1.1))

pub same_place : (places : List Keyed) (k n : ℕ) (d one : Keyed) → k ≡ n → n < length places → slice_index_or places k one ≡ one → slice_index_or places n d ≡ one
same_place places k n d one e inside is =
    let is' : slice_index_or places n one ≡ one = subst (λ (i : ℕ). slice_index_or places i one ≡ one) e is in
    same_Some (slice_index_or places n d) (slice_index_or places n one) (sym (slice_get-get_or places n d inside) ∙ slice_get-get_or places n one inside) ∙ is'

-- an Allocate success response is listed by its client
pub allocates_has_key : (client relayed : Addr) (s : Sighting) → Allocates client relayed s → IsAnswerBy (beginning_key s.to) s
allocates_has_key client relayed s (leaves, to, of, named) = (leaves, (of.0, of.1, inl of.2), inr (of.2, inl refl))

-- ---- who has an allocation is listed with its relayed address

wanted_unless_unasked : (fault : Fault) (relayed : Addr) (G : Type 0) → IsWanted fault (Allocation relayed) G → (fault ≡ Unasked → ⊥) → G
wanted_unless_unasked Unasked relayed G g unless = absurd (unless refl)
wanted_unless_unasked Unallocated relayed G g unless = g
wanted_unless_unasked Unpermitted relayed G g unless = g
wanted_unless_unasked Unbound relayed G g unless = g
wanted_unless_unasked Unfit relayed G g unless = g
wanted_unless_unasked Unauthentic relayed G g unless = g

module _ (taken : Taken) (pairs : List ℕ) (are : ArePairs taken pairs) (fault : Fault) (client listen relayed : Addr) where
  pub held_paired : (arrival departure : Sighting) → Holds taken fault client listen (Allocation relayed) arrival departure → (fault ≡ Unasked → ⊥) → ArePaired pairs client relayed
  held_paired arrival departure held unless =
      let grant = wanted_unless_unasked fault relayed _ held unless in
      let requests = grant.2.0 in
      let success = grant.2.1 in
      let h = success.2 in
      are.all client relayed success.0 success.1 (h.leaves, h.to, (h.succeeds.0, h.succeeds.1, h.succeeds.2 ∙ requests.for_lease.2), h.has_address)

  pub once_paired : (until : ℕ) → WasWanted taken fault until client listen (Allocation relayed) → (fault ≡ Unasked → ⊥) → ArePaired pairs client relayed
  once_paired until wanted unless =
      let grant = wanted_unless_unasked fault relayed _ wanted unless in
      let success = grant.2 in
      let h = success.2 in
      are.all client relayed success.0 success.1 (h.leaves, h.back_to, (h.succeeds.0, h.succeeds.1, h.succeeds.2 ∙ h.for_lease.2), h.has_address)

-- ---- the numbers that are listed with another, one after another

module _ (taken : Taken) (P : Sighting → Type 0) (pairs : List ℕ) (key number : ℕ) where
  -- no arrival of a number below this one has the property
  abbrev pub NoneBelow : ℕ → Type 0
  NoneBelow least = (other : ℕ) → other < least → Contains pairs (number_at number other) → (s : Sighting) → IsCaptured taken s → IsOwnedBy taken.policy key other s → P s → ⊥

  pub none_at_first : NoneBelow 0
  none_at_first other below has s captured owned p = omega (arith, below)

  pub none_past : (least partner next : ℕ) → NoneBelow least → ((other : ℕ) → least ≤ other → other < partner → Contains pairs (number_at number other) → ⊥) → next ≤ partner + 1 →
      ((s : Sighting) → IsCaptured taken s → IsOwnedBy taken.policy key partner s → P s → ⊥) → NoneBelow next
  none_past least partner next so_far skipped near none other below has s captured owned p = elim (cases_lt other least) [
    | inl lt ↦ so_far other lt has s captured owned p
    | inr ge ↦ elim (cases_lt other partner) [
      | inl lt ↦ skipped other ge lt has
      | inr from ↦ let same : other ≡ partner = omega (arith, below, near, from) in none s captured (subst (λ (n : ℕ). IsOwnedBy taken.policy key n s) same owned) p
    ]
  ]

  pub none_at_all : (least other : ℕ) → NoneBelow least → (least ≤ other → Contains pairs (number_at number other) → ⊥) → Contains pairs (number_at number other) →
      (s : Sighting) → IsCaptured taken s → IsOwnedBy taken.policy key other s → P s → ⊥
  none_at_all least other so_far none has s captured owned p = elim (cases_lt other least) [
    | inl lt ↦ so_far other lt has s captured owned p
    | inr ge ↦ none ge has
  ]
