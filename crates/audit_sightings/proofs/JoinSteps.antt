-- Sightings of some files, and of others behind them.
use Rattle.std.proofs.Common.{◌≡◌, ℕ, ◌+◌, ◌-◌, ◌*◌, ◌/◌, ◌<◌, ◌≤◌, List, ◌++◌, [], length, take, drop, Option, Some, None, inl, inr, sym, ap, subst, ◌∙◌, arith}
use Rattle.std.specs.Prelude.{replicate, slice_index_or, Contains}
use Rattle.std.proofs.lemmas.Bool.{cases_lt}
use Rattle.std.proofs.lemmas.List.{length-append, length-take, length-drop, get_or-take, get_or-drop, get_or_append_left, get_or-append_right, get_or_past, take_all}
use Rattle.std.proofs.lemmas.List.Sums.{sum_by-append, sum_by-take-le, sum_by-take-drop}
use Rattle.std.proofs.lemmas.List.Folds.{sum_by-replicate}
use Rattle.audit_model.specs.declared.sighting.Sighting.{Sighting}
use Rattle.audit_sightings.specs.ByInterface.{of_interface, count_of, IsTight, IsNumbered, EachFits, AreByInterface}
use Rattle.audit_sightings.specs.Joins.{Joins}
use Rattle.audit_sightings.specs.Newest.{StartsAt, IsNewest, AreNewest}
use Rattle.audit_sightings.proofs.RowSteps.{of_interface-empty}

-- the other list has nothing behind
pub joins_nothing : (first : ℕ) (old other : List (List Sighting)) → length other ≤ first → Joins first old other (take first old)
joins_nothing first old other short = record {
  below = λ iface less. get_or-take first old iface [] less;
  behind = λ iface more. get_or_past (take first old) iface [] (omega (arith, length-take first old)) ∙ sym (get_or_past other iface [] (omega arith));
  fewer = omega (arith, sum_by-take-le {X = List Sighting} length old first);
  few = omega (arith, length-take first old);
  tight = λ few tight others. subst IsTight (sym (take_all first old few)) tight;
}

-- the first are made as many as there are before the other list's
pub joins_behind : (first : ℕ) (old other padded : List (List Sighting)) (more : ℕ) → padded ≡ take first old ++ replicate more [] → length padded ≡ first → first < length other → Joins first old other (padded ++ drop first other)
joins_behind first old other padded more is len less =
    let long : length (padded ++ drop first other) ≡ length other = omega (arith, length-append padded (drop first other), length-drop first other) in
    let at : (iface : ℕ) → first ≤ iface → of_interface (padded ++ drop first other) iface ≡ of_interface other iface =
    λ iface from. let place : first + (iface - first) ≡ iface = omega arith in
    get_or-append_right padded (drop first other) first iface [] len from ∙ get_or-drop first other (iface - first) [] ∙ ap (λ (n : ℕ). of_interface other n) place in
    record {
      below = λ iface before. get_or_append_left padded (drop first other) [] iface (omega arith) ∙ ap (λ (r : List (List Sighting)). of_interface r iface) is ∙ of_interface-empty (take first old) more iface ∙ get_or-take first old iface [] before;
      behind = at;
      fewer = omega (
        arith,
        sum_by-append {X = List Sighting} length padded (drop first other),
        ap count_of is,
        sum_by-append {X = List Sighting} length (take first old) (replicate more []),
        sum_by-replicate {X = List Sighting} length more [],
        sum_by-take-le {X = List Sighting} length old first,
        sum_by-take-drop {X = List Sighting} length other first,
      );
      few = omega arith;
      tight = λ few tight others last e empty. others last (omega arith) (sym (at last (omega arith)) ∙ empty);
    }

-- what holds of each interface of both holds of each
each_joined : (P : ℕ → List Sighting → Type 0) (first : ℕ) (old other new : List (List Sighting)) → ((iface : ℕ) → P iface (of_interface old iface)) → ((iface : ℕ) → P iface (of_interface other iface)) → Joins first old other new
    → (iface : ℕ) → P iface (of_interface new iface)
each_joined P first old other new here there joins iface = elim (cases_lt iface first) [
  | inl less ↦ subst (P iface) (sym (joins.below iface less)) (here iface)
  | inr more ↦ subst (P iface) (sym (joins.behind iface more)) (there iface)
]

-- the numbers stay right
pub AreByInterface-joined : (first count one_count other_count : ℕ) (old other new : List (List Sighting)) → AreByInterface old one_count → AreByInterface other other_count → Joins first old other new → count ≡ count_of new → count ≤ 16777216
    → AreByInterface new count
AreByInterface-joined first count one_count other_count old other new one two joins counted few = record {
  counted = counted;
  few = few;
  few_interfaces = omega (arith, joins.few, one.few_interfaces, two.few_interfaces);
  numbered = each_joined (λ iface interface. IsNumbered iface interface) first old other new one.numbered two.numbered joins;
  fits = each_joined (λ iface interface. EachFits interface) first old other new one.fits two.fits joins;
}

starts_as : (one new : List (List Sighting)) (file moment : ℕ) → ((iface : ℕ) → iface / 64 ≡ file → of_interface new iface ≡ of_interface one iface) → StartsAt one file moment → StartsAt new file moment
starts_as one new file moment same starts = record {
  iface = starts.iface;
  of_file = starts.of_file;
  sighting = starts.sighting;
  there = subst (λ (interface : List Sighting). Contains interface starts.sighting) (sym (same starts.iface starts.of_file)) starts.there;
  starts = starts.starts;
}

-- of a file whose interfaces are the same
newest_as : (one new : List (List Sighting)) (file : ℕ) (newest : Option ℕ) → ((iface : ℕ) → iface / 64 ≡ file → of_interface new iface ≡ of_interface one iface) → IsNewest one file newest → IsNewest new file newest
newest_as one new file None same is = record {
  there = tt;
  greatest = λ moment starts. is.greatest moment (starts_as new one file moment (λ iface of_file. sym (same iface of_file)) starts);
}
newest_as one new file (Some most) same is = record {
  there = starts_as one new file most same is.there;
  greatest = λ moment starts. is.greatest moment (starts_as new one file moment (λ iface of_file. sym (same iface of_file)) starts);
}

pub AreNewest-joined : (file : ℕ) (old other new : List (List Sighting)) (one two both : List (Option ℕ)) → AreNewest old one → AreNewest other two → Joins (64 * file) old other new → ((n : ℕ) → n < file → slice_index_or both n None ≡ slice_index_or one n None)
    → ((n : ℕ) → file ≤ n → slice_index_or both n None ≡ slice_index_or two n None) → AreNewest new both
AreNewest-joined file old other new one two both here there joins below behind n = elim (cases_lt n file) [
  | inl less ↦ rw (below n less) (newest_as old new n (slice_index_or one n None) (λ iface of_file. joins.below iface (omega (arith, of_file, less))) (here n))
  | inr more ↦ rw (behind n more) (newest_as other new n (slice_index_or two n None) (λ iface of_file. joins.behind iface (omega (arith, of_file, more))) (there n))
]
