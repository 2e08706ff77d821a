-- The clients so far, as one more sighting is looked at.
use Rattle.std.proofs.Common.{◌≡◌, ◌<◌, ◌≤◌, ◌+◌, ℕ, true, false, List, [], ◌∷◌, ◌++◌, length, take, drop, map, filter, get_or, sym, ap, ◌∙◌}
use Rattle.std.proofs.lemmas.List.{take_more, drop_more, drop_all, map_push, map-append}
use Rattle.std.proofs.lemmas.List.Elements.{filter-append}
use Rattle.std.proofs.lemmas.List.Sums.{fold-append, fold_push}
use Rattle.indexmap.proofs.SetLemmas.{filter_keep, filter_skip}
use Rattle.indexmap.specs.IndexSet.{insert_key}
use Rattle.audit_model.specs.declared.policy.Policy.{Policy}
use Rattle.audit_model.specs.declared.sighting.Sighting.{Sighting}
use Rattle.audit_clients.specs.Clients.{Pair, same, joined, is_from_client, pairs_of, unseen}

take_next : (row : List Sighting) (i : ℕ) (s : Sighting) → i < length row → s ≡ get_or row i s → take (i + 1) row ≡ take i row ++ s ∷ []
take_next row i s within here = take_more row i s within ∙ ap (λ (x : Sighting). take i row ++ x ∷ []) (sym here)

module _ (policy : Policy) (row : List Sighting) (i : ℕ) (s : Sighting) (within : i < length row) (here : s ≡ get_or row i s) where
  kept_next : is_from_client policy s ≡ true → pairs_of policy (take (i + 1) row) ≡ pairs_of policy (take i row) ++ (s.from, s.to) ∷ []
  kept_next does = ap (pairs_of policy) (take_next row i s within here)
      ∙ ap (map (λ (x : Sighting). (x.from, x.to))) (filter_keep (is_from_client policy) (take i row) s does)
      ∙ map_push (λ (x : Sighting). (x.from, x.to)) (filter (is_from_client policy) (take i row)) s

  pub passed_next : is_from_client policy s ≡ false → pairs_of policy (take (i + 1) row) ≡ pairs_of policy (take i row)
  passed_next not_so = ap (pairs_of policy) (take_next row i s within here)
      ∙ ap (map (λ (x : Sighting). (x.from, x.to))) (filter_skip (is_from_client policy) (take i row) s not_so)

  -- one that arrives at a listen address joins
  pub joined_next : (known : List Pair) → is_from_client policy s ≡ true
      → joined known (pairs_of policy (take (i + 1) row)) ≡ insert_key same (joined known (pairs_of policy (take i row))) (s.from, s.to)
  joined_next known does = ap (joined known) (kept_next does) ∙ fold_push (insert_key same) known (pairs_of policy (take i row)) (s.from, s.to)

pairs_append : (policy : Policy) (one other : List Sighting) → pairs_of policy (one ++ other) ≡ pairs_of policy one ++ pairs_of policy other
pairs_append policy one other = ap (map (λ (x : Sighting). (x.from, x.to))) (filter-append (is_from_client policy) one other)
    ∙ map-append (λ (x : Sighting). (x.from, x.to)) (filter (is_from_client policy) one) (filter (is_from_client policy) other)

module _ (policy : Policy) (looked : List ℕ) (rows : List (List Sighting)) (i : ℕ) (known : List Pair) where
  -- an interface's sightings, and then those of the interfaces behind it
  pub row_next : (behind : List Sighting) → i < length rows → behind ≡ drop (get_or looked i 0) (get_or rows i [])
      → joined (joined known (pairs_of policy behind)) (pairs_of policy (unseen looked (i + 1) (drop (i + 1) rows))) ≡ joined known (pairs_of policy (unseen looked i (drop i rows)))
  row_next behind within is =
      let rest = unseen looked (i + 1) (drop (i + 1) rows) in
      sym (fold-append (insert_key same) known (pairs_of policy behind) (pairs_of policy rest))
      ∙ ap (joined known) (sym (pairs_append policy behind rest))
      ∙ ap (λ (x : List Sighting). joined known (pairs_of policy (x ++ rest))) is
      ∙ ap (λ (x : List (List Sighting)). joined known (pairs_of policy (unseen looked i x))) (sym (drop_more rows i [] within))

  -- none is left behind the last interface
  pub rows_done : length rows ≤ i → joined known (pairs_of policy (unseen looked i (drop i rows))) ≡ known
  rows_done past = ap (λ (x : List (List Sighting)). joined known (pairs_of policy (unseen looked i x))) (drop_all i rows past)
