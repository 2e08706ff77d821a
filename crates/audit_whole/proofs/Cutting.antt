-- What a certificate's skews ask of moments, and what they cut off.
use Rattle.std.proofs.Common.{◌≡◌, ◌≤◌, ◌⊎◌, inl, inr, ℕ, Bool, true, false, ◌||◌, cond, List, [], ◌∷◌, Option, Some, None, refl, sym, ap, ◌∙◌, arith}
use Rattle.std.specs.Prelude.{nat_lt}
use Rattle.std.specs.List.{AllByRecursion}
use Rattle.std.proofs.lemmas.Bool.Decides.{nat_tests}
use Rattle.std.proofs.lemmas.Option.{none-some, same_Some}
use Rattle.audit_model.specs.declared.certificate.CertSkew.{CertSkew}
use Rattle.audit_model.specs.declared.event.Event.{Event}
use Rattle.audit_model.specs.declared.event.Event.TheVariants.{In, Act, Out}
use Rattle.audit_model.specs.declared.event.Key.{Key}
use Rattle.audit_model.specs.declared.rule.Rule.TheVariants.{OutOfWindow}
use Rattle.audit_model.specs.declared.sighting.Sighting.{Sighting}
use Rattle.audit_model.specs.declared.verdict.Breach.{Breach}
use Rattle.audit_model.specs.Event.{sight_of}
use Rattle.audit_model.specs.Skews.{nanoseconds_of, skew_of}
use Rattle.audit_model.specs.Window.{first_moment, last_moment}
use Rattle.audit_sightings.specs.Intake.{Taken, sighting_at}
use Rattle.audit_placement.specs.declared.entry.Entry.{Entry}
use Rattle.audit_placement.specs.Checks.{breach_at, is_so}
use Rattle.audit_placement.specs.Cuts.{is_cut, is_cut_off, ShowsCutIn}
use Rattle.audit_whole.specs.LaneConditions.{IsWithinSkew, AreWithinSkew}

within : (m lo hi : ℕ) → (nat_lt m lo || nat_lt hi m) ≡ false → (lo ≤ m) × (m ≤ hi)
within m lo hi h = (grind (arith, nat_tests, h), grind (arith, nat_tests, h))

not_past : (m lo hi : ℕ) → lo ≤ m → m ≤ hi → (nat_lt m lo || nat_lt hi m) ≡ false
not_past m lo hi h k = grind (arith, nat_tests, h, k)

kept_there : (o : Option Sighting) (skew : Option ℕ) (key : Key) → is_so o (is_cut_off skew key) ≡ false → (s : Sighting) → o ≡ Some s → IsWithinSkew skew key.moment s
kept_there o None key h s e = tt
kept_there o (Some n) key h s e =
    let uncut : is_so (Some s) (is_cut_off (Some n) key) ≡ false = ap (λ (x : Option Sighting). is_so x (is_cut_off (Some n) key)) (sym e) ∙ h in
    within key.moment (first_moment s.stamp (nanoseconds_of n)) (last_moment s.stamp (nanoseconds_of n)) uncut

uncut_there : (o : Option Sighting) (skew : Option ℕ) (key : Key) → ((s : Sighting) → o ≡ Some s → IsWithinSkew skew key.moment s) → is_so o (is_cut_off skew key) ≡ false
uncut_there None skew key f = refl
uncut_there (Some s) None key f = refl
uncut_there (Some s) (Some n) key f =
    let i = f s refl in not_past key.moment (first_moment s.stamp (nanoseconds_of n)) (last_moment s.stamp (nanoseconds_of n)) i.0 i.1

module _ (taken : Taken) (skews : List CertSkew) where
  abbrev Within : Entry → Type 0
  Within e = AreWithinSkew taken skews e.event

  kept : (event : Event) → is_cut taken skews event ≡ false → AreWithinSkew taken skews event
  kept (In sight key) h = kept_there (sighting_at taken sight) (skew_of skews sight.iface) key h
  kept (Act sight gives key) h = tt
  kept (Out sight key) h = kept_there (sighting_at taken sight) (skew_of skews sight.iface) key h

  uncut : (event : Event) → AreWithinSkew taken skews event → is_cut taken skews event ≡ false
  uncut (In sight key) f = uncut_there (sighting_at taken sight) (skew_of skews sight.iface) key f
  uncut (Act sight gives key) f = refl
  uncut (Out sight key) f = uncut_there (sighting_at taken sight) (skew_of skews sight.iface) key f

  uncut_by : (e : Entry) (t : Bool) → ((b : Breach) → cond t (Some (breach_at e.at OutOfWindow (sight_of e.event))) None ≡ Some b → ⊥) → t ≡ false
  uncut_by e true f = absurd (f (breach_at e.at OutOfWindow (sight_of e.event)) refl)
  uncut_by e false f = refl

  -- where nothing is cut off, all moments lie within the skews
  pub within_all : (es : List Entry) → ((b : Breach) → ¬ ShowsCutIn taken skews es b) → AllByRecursion Within es
  within_all [] f = tt
  within_all (e ∷ es) f = (kept e.event (uncut_by e (is_cut taken skews e.event) (λ b k. f b (inl k))), within_all es (λ b k. f b (inr k)))

  -- and the other way round
  pub none_cut_of : (es : List Entry) → AllByRecursion Within es → (b : Breach) → ¬ ShowsCutIn taken skews es b
  none_cut_of [] all b shown = absurd shown
  none_cut_of (e ∷ es) all b (inl shown) = none-some b (sym (ap (λ (t : Bool). cond t (Some (breach_at e.at OutOfWindow (sight_of e.event))) None) (uncut e.event all.0)) ∙ shown)
  none_cut_of (e ∷ es) all b (inr shown) = none_cut_of es all.1 b shown

-- ---- without skews

free : (taken : Taken) (event : Event) → AreWithinSkew taken [] event
free taken (In sight key) = λ s e. tt
free taken (Act sight gives key) = tt
free taken (Out sight key) = λ s e. tt

pub all_free : (taken : Taken) (es : List Entry) → AllByRecursion (λ (e : Entry). AreWithinSkew taken [] e.event) es
all_free taken [] = tt
all_free taken (e ∷ es) = (free taken e.event, all_free taken es)
