-- Pairs that are kept of others.
use Rattle.std.proofs.Common.{◌≤◌, ℕ, List, length, take, drop, arith}
use Rattle.std.specs.Cmp.{IsEquivalence}
use Rattle.std.specs.List.{IsDistinct}
use Rattle.std.proofs.lemmas.List.{length-drop, length-take}
use Rattle.std.proofs.lemmas.Cmp.{on_equiv, and_equiv}
use Rattle.indexmap.proofs.MapLemmas.{distinct-take, distinct-drop}
use Rattle.audit_model.proofs.Apart.{same_addr_equiv}
use Rattle.audit_clients.specs.Clients.{Pair, same}

pub same_equiv : IsEquivalence same
same_equiv = and_equiv (on_equiv (λ (p : Pair). p.0) same_addr_equiv) (on_equiv (λ (p : Pair). p.1) same_addr_equiv)

-- some of the pairs are apart where all are
pub kept_apart : (first count : ℕ) (pairs : List Pair) → IsDistinct same pairs → IsDistinct same (drop first (take count pairs))
kept_apart first count pairs apart = distinct-drop same_equiv first (take count pairs) (distinct-take same_equiv count pairs apart)

pub kept_few : (first count : ℕ) (pairs : List Pair) → length (drop first (take count pairs)) ≤ count
kept_few first count pairs = omega (arith, length-drop first (take count pairs), length-take count pairs)
