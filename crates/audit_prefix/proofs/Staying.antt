-- What shows no breach of what it places shows none as the intake grows.
use Rattle.std.proofs.Common.{◌≡◌, ◌≤◌, ◌+◌, Bool, true, false, Option, Some, None, List, [], ◌∷◌, ◌++◌, All, refl, sym, ◌∙◌, ap, subst, arith, append_assoc}
use Rattle.std.specs.Prelude.{is_some, option_map}
use Rattle.std.specs.List.{AllByRecursion}
use Rattle.std.specs.Ordering.{is_gt}
use Rattle.std.proofs.lemmas.List.Elements.{All-nil, All-cons}
use Rattle.std.proofs.lemmas.Option.{none-some, same_Some}
use Rattle.audit_model.specs.declared.certificate.Certificate.{Certificate}
use Rattle.audit_model.specs.declared.event.At.{At}
use Rattle.audit_model.specs.declared.event.Key.{Key}
use Rattle.audit_model.specs.declared.sighting.SightId.{SightId}
use Rattle.audit_model.specs.declared.verdict.Breach.{Breach}
use Rattle.audit_model.specs.Breach.{key_cmp}
use Rattle.audit_sightings.specs.Intake.{Taken}
use Rattle.audit_placement.specs.declared.entry.Entry.{Entry}
use Rattle.audit_placement.specs.Checks.{event_checks}
use Rattle.audit_placement.specs.Clean.{IsFine, IsClean, times_placed, one_if}
use Rattle.audit_placement.specs.Entries.{entries}
use Rattle.audit_placement.specs.FirstPlace.{first_place}
use Rattle.audit_order.specs.Kept.{Stays}
use Rattle.audit_placement.specs.Shows.{ShowsPlaced}
use Rattle.audit_placement.proofs.CleanSteps.{clean_shows_nothing}
use Rattle.audit_order.proofs.StaySteps.{clean_still}
use Rattle.audit_sightings.specs.Intake.{AreNumbered}
use Rattle.audit_whole.proofs.Placement.{OwnSound, none_broken, none_placed, some_placed, first_at}
use Rattle.audit_prefix.proofs.Sound.{SoundSoFar, sound_so_far}

module _ (taken : Taken) (numbered : AreNumbered taken) (certificate : Certificate) (sound : SoundSoFar taken (entries certificate)) where
  abbrev pub noted : SightId → Option Key
  noted s = option_map (λ (at : At). at.key) (first_place (entries certificate) s)

  all_fine : (p es : List Entry) → p ++ es ≡ entries certificate → AllByRecursion (OwnSound taken) es → All (IsFine taken noted) es
  all_fine p [] h own = All-nil (IsFine taken noted)
  all_fine p (e ∷ es) h own = All-cons (IsFine taken noted) e es
      (record {
        own = none_broken (event_checks taken false e.pair e.last e.event) own.0;
        told = λ s k. ap (option_map (λ (at : At). at.key)) (ap (λ xs. first_place xs s) (sym h) ∙ first_at taken numbered certificate p e es s (subst (λ (xs : List Entry). times_placed xs s ≤ 1) (sym h) (sound.once s)) k);
      })
      (all_fine (p ++ e ∷ []) es (append_assoc p (e ∷ []) es ∙ h) own.1)

  times_are : (s : SightId) (b : Bool) → is_some (first_place (entries certificate) s) ≡ b → times_placed (entries certificate) s ≡ one_if b
  times_are s true h = omega (arith, sound.once s, some_placed (entries certificate) s h)
  times_are s false h = none_placed (entries certificate) s h

  noted_some : (s : SightId) (o : Option At) → first_place (entries certificate) s ≡ o → is_some (option_map (λ (at : At). at.key) o) ≡ is_some o
  noted_some s None h = refl
  noted_some s (Some at) h = refl

  noted_at : (s : SightId) (o : Option At) (key : Key) → first_place (entries certificate) s ≡ o → option_map (λ (at : At). at.key) o ≡ Some key → (at : At) × (first_place (entries certificate) s ≡ Some at) × (at.key ≡ key)
  noted_at s None key h k = absurd (none-some key k)
  noted_at s (Some at) key h k = (at, h, same_Some at.key key k)

  clean : IsClean taken noted (entries certificate)
  clean = record {
    fine = all_fine [] (entries certificate) refl sound.own;
    once = λ s. times_are s (is_some (first_place (entries certificate) s)) refl ∙ ap one_if (sym (noted_some s (first_place (entries certificate) s) refl));
    order = λ iface index before at h k.
        let b = noted_at (record { iface = iface; index = index }) (first_place (entries certificate) (record { iface = iface; index = index })) before refl h in
        let a = noted_at (record { iface = iface; index = index + 1 }) (first_place (entries certificate) (record { iface = iface; index = index + 1 })) at refl k in
        ap (λ x. is_gt (key_cmp x before)) (sym a.2) ∙ ap (λ x. is_gt (key_cmp a.0.key x)) (sym b.2) ∙ sound.order iface index b.0 a.0 b.1 a.1;
  }

pub shows_none_later : (before now : Taken) → AreNumbered before → Stays before now → (certificate : Certificate) → ((b : Breach) → ¬ ShowsPlaced before certificate b) → (b : Breach) → ¬ ShowsPlaced now certificate b
shows_none_later before now numbered stays certificate none =
    let sound = sound_so_far before certificate none in
    clean_shows_nothing now (noted before numbered certificate sound) certificate (clean_still before now stays (noted before numbered certificate sound) (entries certificate) (clean before numbered certificate sound))
