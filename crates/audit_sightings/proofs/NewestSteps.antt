-- From which moment on the newest sighting of a file may have come, once there is a sighting more.
use Rattle.std.proofs.Common.{◌≡◌, ◌≢◌, ℕ, ◌<◌, ◌/◌, max, List, [], ◌∷◌, length, refl, sym, ap, ◌∙◌, subst, arith, ◌⊎◌, inl, inr, Option, Some, None}
use Rattle.std.proofs.lemmas.Bool.{cases_eq, cases_lt}
use Rattle.std.proofs.lemmas.List.{get_or-set_other, get_or-set_same}
use Rattle.std.proofs.lemmas.List.Elements.{Contains-append_left, Contains-push, Contains-push_cases}
use Rattle.std.specs.Prelude.{slice_index_or, slice_set, Contains}
use Rattle.audit_model.specs.declared.sighting.Sighting.{Sighting}
use Rattle.audit_sightings.specs.ByInterface.{of_interface, Adds}
use Rattle.audit_sightings.specs.Newest.{StartsAt, IsNewest, AreNewest, later_of}

-- the sightings that were there are there
still_there : (old new : List (List Sighting)) (iface : ℕ) (last : Sighting) → Adds old iface last new → (other : ℕ) (sighting : Sighting) → Contains (of_interface old other) sighting → Contains (of_interface new other) sighting
still_there old new iface last adds other sighting there = elim (cases_eq other iface) [
  | inl same ↦ rw same (subst (λ (r : List Sighting). Contains r sighting) (sym adds.interface)
      (Contains-append_left (of_interface old iface) (last ∷ []) sighting (subst (λ (n : ℕ). Contains (of_interface old n) sighting) same there)))
  | inr ne ↦ subst (λ (r : List Sighting). Contains r sighting) (sym (adds.others other ne)) there
]

-- one that is there was there, or is the one that was added
there_before : (old new : List (List Sighting)) (iface : ℕ) (last : Sighting) → Adds old iface last new → (other : ℕ) (sighting : Sighting) → Contains (of_interface new other) sighting
    → Contains (of_interface old other) sighting ⊎ ((other ≡ iface) × (last ≡ sighting))
there_before old new iface last adds other sighting there = elim (cases_eq other iface) [
  | inl same ↦ elim (Contains-push_cases (of_interface old iface) last sighting (subst (λ (r : List Sighting). Contains r sighting) (ap (λ (n : ℕ). of_interface new n) same ∙ adds.interface) there)) [
    | inl before ↦ inl (subst (λ (n : ℕ). Contains (of_interface old n) sighting) (sym same) before)
    | inr is ↦ inr (same, is)
  ]
  | inr ne ↦ inl (subst (λ (r : List Sighting). Contains r sighting) (adds.others other ne) there)
]

starts_still : (old new : List (List Sighting)) (iface : ℕ) (last : Sighting) → Adds old iface last new → (file moment : ℕ) → StartsAt old file moment → StartsAt new file moment
starts_still old new iface last adds file moment starts = record {
  iface = starts.iface;
  of_file = starts.of_file;
  sighting = starts.sighting;
  there = still_there old new iface last adds starts.iface starts.sighting starts.there;
  starts = starts.starts;
}

starts_last : (old new : List (List Sighting)) (iface : ℕ) (last : Sighting) → Adds old iface last new → StartsAt new (iface / 64) last.lo
starts_last old new iface last adds = record {
  iface = iface;
  of_file = refl;
  sighting = last;
  there = subst (λ (r : List Sighting). Contains r last) (sym adds.interface) (Contains-push (of_interface old iface) last);
  starts = refl;
}

-- a moment at which one starts was there, or is that of the one that was added to the file
starts_before : (old new : List (List Sighting)) (iface : ℕ) (last : Sighting) → Adds old iface last new → (file moment : ℕ) → StartsAt new file moment → StartsAt old file moment ⊎ ((iface / 64 ≡ file) × (last.lo ≡ moment))
starts_before old new iface last adds file moment starts = elim (there_before old new iface last adds starts.iface starts.sighting starts.there) [
  | inl before ↦ inl (record { iface = starts.iface; of_file = starts.of_file; sighting = starts.sighting; there = before; starts = starts.starts })
  | inr is ↦ inr (ap (λ (n : ℕ). n / 64) (sym is.0) ∙ starts.of_file, ap (λ (s : Sighting). s.lo) is.1 ∙ starts.starts)
]

-- of another file than that of the sighting
newest_other : (old new : List (List Sighting)) (iface : ℕ) (last : Sighting) → Adds old iface last new → (file : ℕ) (newest : Option ℕ) → file ≢ iface / 64 → IsNewest old file newest → IsNewest new file newest
newest_other old new iface last adds file None ne is = record {
  there = tt;
  greatest = λ moment starts. elim (starts_before old new iface last adds file moment starts) [ inl before ↦ is.greatest moment before | inr here ↦ absurd (ne (sym here.0)) ];
}
newest_other old new iface last adds file (Some most) ne is = record {
  there = starts_still old new iface last adds file most is.there;
  greatest = λ moment starts. elim (starts_before old new iface last adds file moment starts) [ inl before ↦ is.greatest moment before | inr here ↦ absurd (ne (sym here.0)) ];
}

-- of the file of the sighting
newest_same : (old new : List (List Sighting)) (iface : ℕ) (last : Sighting) → Adds old iface last new → (newest : Option ℕ) → IsNewest old (iface / 64) newest → IsNewest new (iface / 64) (later_of newest last.lo)
newest_same old new iface last adds None is = record {
  there = starts_last old new iface last adds;
  greatest = λ moment starts. elim (starts_before old new iface last adds (iface / 64) moment starts) [ inl before ↦ absurd (is.greatest moment before) | inr here ↦ omega (arith, here.1) ];
}
newest_same old new iface last adds (Some most) is = record {
  there = elim (cases_lt most last.lo) [
    | inl lt ↦ let later : max most last.lo ≡ last.lo = omega arith in rw later (starts_last old new iface last adds)
    | inr ge ↦ let later : max most last.lo ≡ most = omega arith in rw later (starts_still old new iface last adds (iface / 64) most is.there)
  ];
  greatest = λ moment starts. elim (starts_before old new iface last adds (iface / 64) moment starts) [ inl before ↦ omega (arith, is.greatest moment before) | inr here ↦ omega (arith, here.1) ];
}

-- of each file, once a sighting was added to one
pub AreNewest-push : (old new : List (List Sighting)) (iface : ℕ) (last : Sighting) (moments : List (Option ℕ)) (later : Option ℕ) → Adds old iface last new → iface / 64 < length moments
    → later ≡ later_of (slice_index_or moments (iface / 64) None) last.lo → AreNewest old moments → AreNewest new (slice_set moments (iface / 64) later)
AreNewest-push old new iface last moments later adds room is are file = elim (cases_eq file (iface / 64)) [
  | inl same ↦ rw (same, get_or-set_same moments (iface / 64) later None room, is) (newest_same old new iface last adds (slice_index_or moments (iface / 64) None) (are (iface / 64)))
  | inr ne ↦ rw (get_or-set_other moments (iface / 64) file later None ne) (newest_other old new iface last adds file (slice_index_or moments file None) ne (are file))
]
