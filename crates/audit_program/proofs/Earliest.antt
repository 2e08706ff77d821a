-- The least of the captures' newest moments, capture by capture, and the horizon by it.
use Rattle.std.proofs.Common.{◌≡◌, ℕ, ◌+◌, ◌<◌, ◌≤◌, ◌-◌, Option, Some, None, refl, sym, subst, arith, inl, inr}
use Rattle.std.proofs.lemmas.Bool.{cases_lt}
use Rattle.std.specs.Prelude.{min, IfNone, IfSome}
use Rattle.audit_sightings.specs.Intake.{Taken}
use Rattle.audit_sightings.specs.Newest.{IsNewest}
use Rattle.audit_program.specs.Horizon.{OneIsFrom, IsEarliestOf, IsEarliest, IsHorizon, sooner_of}

-- the sooner of two moments is one
pub some_now : (before : Option ℕ) (moment : ℕ) (Fact : Type 0) → IfNone (sooner_of before moment) Fact
some_now None moment Fact = tt
some_now (Some before) moment Fact = tt

module _ (taken : Taken) where
  pub of_none : IsEarliestOf taken 0 None
  of_none = record { each = tt; one = tt; none = inl refl }

  -- one capture more is asked, which has a sighting
  pub of_more : (captures : ℕ) (earliest : Option ℕ) (newest : ℕ) → IfNone earliest (captures ≡ 0) → IsEarliestOf taken captures earliest → IsNewest taken.interfaces captures (Some newest)
      → IsEarliestOf taken (captures + 1) (sooner_of earliest newest)
  of_more captures None newest none is newest_is = record {
    each = λ file within. let same : file ≡ captures = omega (arith, within, none) in (newest, subst (λ (n : ℕ). IsNewest taken.interfaces n (Some newest)) (sym same) newest_is, omega arith);
    one = (captures, omega arith, newest_is);
    none = tt;
  }
  of_more captures (Some before) newest none is newest_is = record {
    each = λ file within. elim (cases_lt file captures) [
      | inl lt ↦ let at = is.each file lt in (at.0, at.1, omega (arith, at.2))
      | inr ge ↦ let same : file ≡ captures = omega (arith, within, ge) in (newest, subst (λ (n : ℕ). IsNewest taken.interfaces n (Some newest)) (sym same) newest_is, omega arith)
    ];
    one = elim (cases_lt newest before) [
      | inl lt ↦ let sooner : min before newest ≡ newest = omega (arith, lt) in subst (λ (n : ℕ). OneIsFrom taken (captures + 1) (Some n)) (sym sooner) (captures, omega arith, newest_is)
      | inr ge ↦ let sooner : min before newest ≡ before = omega (arith, ge) in subst (λ (n : ℕ). OneIsFrom taken (captures + 1) (Some n)) (sym sooner) (is.one.0, omega (arith, is.one.1), is.one.2)
    ];
    none = tt;
  }

  -- a capture without a sighting
  pub of_empty : (captures file : ℕ) → file < captures → IsNewest taken.interfaces file None → IsEarliestOf taken captures None
  of_empty captures file within is = record { each = tt; one = tt; none = inr (file, within, is) }

  -- where there is no moment there is no horizon
  pub no_horizon : (last : Option ℕ) → IsEarliest taken None → IsHorizon taken last None
  no_horizon last is = record { earliest = None; is = is; some = tt; none = tt }

  -- the horizon is past the last one, or there is none
  pub past_last : (last : Option ℕ) (moment : ℕ) → IsEarliest taken (Some moment) → IfSome last (λ before. before < moment - taken.policy.hold) → IsHorizon taken last (Some (moment - taken.policy.hold))
  past_last last moment is past = record { earliest = Some moment; is = is; some = (refl, past); none = tt }

  pub not_past : (before moment : ℕ) → IsEarliest taken (Some moment) → moment - taken.policy.hold ≤ before → IsHorizon taken (Some before) None
  not_past before moment is not_later = record { earliest = Some moment; is = is; some = tt; none = not_later }
