use Rattle.std.proofs.Common.{ℕ, refl, rules}
use Rattle.std.proofs.lemmas.List.Sorted.{Contains-permutation, IsNonDecreasingBy-from_sort_by_key}
use Rattle.audit_faults.specs.Keyed.{placed_as}
use Rattle.audit_faults.specs.Leased.{beginning_key}
use Rattle.audit_faults.proofs.Pairing.{allocates_has_key, kept_paired}
use Rattle.audit_faults.proofs.pairs.pairs_of.Goals as goal

pub returns : goal.returns
returns c = record {
  sorted = IsNonDecreasingBy-from_sort_by_key (λ (pair : ℕ). pair) _ c.in_ok-sort_by_key.ensures.sorted (λ a r q k. search rules);
  all = λ client relayed success (sight, there) allocates.
      let stands = c.requires.all (beginning_key success.to) sight success there (allocates_has_key client relayed success allocates) in
      kept_paired c.add_all.new.pairs.items c.sort_by_key.new.self.items client relayed (λ (pair : ℕ). Contains-permutation c.add_all.new.pairs.items c.sort_by_key.new.self.items pair c.in_ok-sort_by_key.ensures.permutation)
      (c.in_ok-add_all.ensures stands.0.0 (placed_as (beginning_key success.to) sight success) stands.0.1 stands.0.2 success there refl client relayed allocates);
}
