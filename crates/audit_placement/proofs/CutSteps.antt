-- What a certificate's skews cut off, as more entries come.
use Rattle.std.proofs.Common.{◌≡◌, ℕ, ◌+◌, ◌<◌, true, false, Bool, cond, List, [], ◌∷◌, ◌++◌, length, take, map, get_or, Option, Some, None, refl, sym, ap, ◌∙◌, subst, ◌⊎◌, inl, inr, arith, length-take}
use Rattle.std.proofs.lemmas.List.{take_more, length-map, map-append}
use Rattle.std.proofs.lemmas.Option.{none-some}
use Rattle.audit_model.specs.declared.certificate.CertLane.{CertLane}
use Rattle.audit_model.specs.declared.certificate.CertSkew.{CertSkew}
use Rattle.audit_model.specs.declared.certificate.Certificate.{Certificate}
use Rattle.audit_model.specs.declared.event.At.{At}
use Rattle.audit_model.specs.declared.event.Event.{Event}
use Rattle.audit_model.specs.declared.event.Event.TheVariants.{In, Act, Out}
use Rattle.audit_model.specs.declared.event.Key.{Key}
use Rattle.audit_model.specs.declared.pair.Pair.{Pair}
use Rattle.audit_model.specs.declared.rule.Rule.TheVariants.{OutOfWindow}
use Rattle.audit_model.specs.declared.sighting.Sighting.{Sighting}
use Rattle.audit_model.specs.declared.verdict.Breach.{Breach}
use Rattle.audit_model.specs.Breach.{lesser}
use Rattle.audit_model.specs.Event.{key_of, sight_of}
use Rattle.audit_model.specs.Least.{IsLeast}
use Rattle.audit_model.proofs.LeastBreach.{least_same}
use Rattle.audit_sightings.specs.Intake.{Taken, sighting_at}
use Rattle.audit_placement.specs.declared.entry.Entry.{Entry}
use Rattle.audit_placement.specs.Checks.{breach_at, is_so}
use Rattle.audit_placement.specs.Cuts.{is_cut, is_cut_off, cut_breach, ShowsCutIn, ShowsCut}
use Rattle.audit_placement.specs.Entries.{entry_of, entries_from, entries, lane_entries, lanes_entries}
use Rattle.audit_placement.proofs.LeastOfTwo.{least_both, least_found}
use Rattle.audit_placement.proofs.Turns.{last_of, entries_push, lanes_more}

module _ (taken : Taken) (skews : List CertSkew) where
  abbrev Cut : List Entry → Breach → Type 0
  Cut es = ShowsCutIn taken skews es

  together : (xs ys : List Entry) (b : Breach) → Cut xs b ⊎ Cut ys b → Cut (xs ++ ys) b
  together [] ys b (inl shown) = absurd shown
  together [] ys b (inr shown) = shown
  together (x ∷ xs) ys b (inl (inl shown)) = inl shown
  together (x ∷ xs) ys b (inl (inr shown)) = inr (together xs ys b (inl shown))
  together (x ∷ xs) ys b (inr shown) = inr (together xs ys b (inr shown))

  apart : (xs ys : List Entry) (b : Breach) → Cut (xs ++ ys) b → Cut xs b ⊎ Cut ys b
  apart [] ys b shown = inr shown
  apart (x ∷ xs) ys b (inl shown) = inl (inl shown)
  apart (x ∷ xs) ys b (inr shown) = elim (apart xs ys b shown) [ inl h ↦ inl (inr h) | inr h ↦ inr h ]

  -- the least of entries, and of those that come behind them
  pub cut_append : (xs ys : List Entry) (a b : Option Breach) → IsLeast (Cut xs) a → IsLeast (Cut ys) b → IsLeast (Cut (xs ++ ys)) (lesser a b)
  cut_append xs ys a b one other = least_same (λ x. Cut xs x ⊎ Cut ys x) (Cut (xs ++ ys)) (together xs ys) (apart xs ys) (lesser a b) (least_both (Cut xs) (Cut ys) a b one other)

  cut_one : (entry : Entry) → IsLeast (Cut (entry ∷ [])) (cut_breach taken skews entry.at entry.event)
  cut_one entry =
      least_same (λ b. cut_breach taken skews entry.at entry.event ≡ Some b) (Cut (entry ∷ [])) (λ b shown. inl shown)
      (λ b shown. elim shown [ inl h ↦ h | inr h ↦ absurd h ]) (cut_breach taken skews entry.at entry.event) (least_found (cut_breach taken skews entry.at entry.event))

  -- one event more
  pub cut_push : (pair : Option Pair) (lane place : ℕ) (events more : List Event) (event : Event) (key : Key) (least found least' : Option Breach)
      → IsLeast (Cut (entries_from pair lane 0 None events)) least → place ≡ length events → more ≡ events ++ event ∷ [] → key ≡ key_of event
      → found ≡ cut_breach taken skews (record { key = key; lane = lane; place = place }) event → least' ≡ lesser least found
      → IsLeast (Cut (entries_from pair lane 0 None more)) least'
  cut_push pair lane place events more event key least found least' so_far at is key_is found_is least_is =
      let entry : Entry = entry_of pair lane place (last_of None events) event in
      let from_zero : 0 + length events ≡ place = omega (arith, at) in
      let same : entries_from pair lane 0 None more ≡ entries_from pair lane 0 None events ++ entry ∷ [] =
      ap (entries_from pair lane 0 None) is ∙ entries_push pair lane 0 None events event
      ∙ ap (λ (n : ℕ). entries_from pair lane 0 None events ++ entry_of pair lane n (last_of None events) event ∷ []) from_zero in
      let it : found ≡ cut_breach taken skews entry.at event = found_is ∙ ap (λ (k : Key). cut_breach taken skews (record { key = k; lane = lane; place = place }) event) key_is in
      subst (λ (o : Option Breach). IsLeast (Cut (entries_from pair lane 0 None more)) o) (sym (least_is ∙ ap (lesser least) it))
      (subst (λ (es : List Entry). IsLeast (Cut es) (lesser least (cut_breach taken skews entry.at event))) (sym same)
      (cut_append (entries_from pair lane 0 None events) (entry ∷ []) least (cut_breach taken skews entry.at event) so_far (cut_one entry)))

  -- one lane more
  pub cut_lane : (lanes : List CertLane) (number : ℕ) (lane : CertLane) (least found least' : Option Breach) → number < length lanes → lane ≡ get_or lanes number lane
      → IsLeast (Cut (lanes_entries 0 (take number lanes))) least → IsLeast (Cut (lane_entries number lane)) found → least' ≡ lesser least found
      → IsLeast (Cut (lanes_entries 0 (take (number + 1) lanes))) least'
  cut_lane lanes number lane least found least' within is so_far one least_is =
      subst (λ (o : Option Breach). IsLeast (Cut (lanes_entries 0 (take (number + 1) lanes))) o) (sym least_is)
      (subst (λ (es : List Entry). IsLeast (Cut es) (lesser least found)) (sym (lanes_more lanes number lane within is))
      (cut_append (lanes_entries 0 (take number lanes)) (lane_entries number lane) least found so_far one))

-- ---- without skews

never_there : (o : Option Sighting) (key : Key) → is_so o (is_cut_off None key) ≡ false
never_there None key = refl
never_there (Some s) key = refl

never : (taken : Taken) (event : Event) → is_cut taken [] event ≡ false
never taken (In sight key) = never_there (sighting_at taken sight) key
never taken (Act arrival departure key) = refl
never taken (Out sight key) = never_there (sighting_at taken sight) key

nothing : (taken : Taken) (es : List Entry) (b : Breach) → ¬ ShowsCutIn taken [] es b
nothing taken [] b shown = absurd shown
nothing taken (e ∷ es) b (inl shown) = none-some b (sym (ap (λ (t : Bool). cond t (Some (breach_at e.at OutOfWindow (sight_of e.event))) None) (never taken e.event)) ∙ shown)
nothing taken (e ∷ es) b (inr shown) = nothing taken es b shown

-- a certificate without skews cuts nothing off
pub none_cut : (taken : Taken) (certificate : Certificate) → certificate.skews ≡ [] → (b : Breach) → ¬ ShowsCut taken certificate b
none_cut taken certificate none b shown = nothing taken (entries certificate) b (subst (λ (skews : List CertSkew). ShowsCutIn taken skews (entries certificate) b) none shown)
