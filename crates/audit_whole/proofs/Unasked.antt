-- No run explains captures in which datagrams leave and none arrives: the first move of a run is an arrival.
use Rattle.std.proofs.Common.{◌≡◌, ◌≤◌, ℕ, cond, Option, Some, None, List, [], ◌∷◌, refl, sym, ◌∙◌, ap}
use Rattle.std.specs.Prelude.{is_some, IsSomeAnd}
use Rattle.audit_model.specs.declared.sighting.Side.TheVariants.{Arrives, Leaves}
use Rattle.audit_model.specs.declared.sighting.SightId.{SightId}
use Rattle.audit_model.specs.declared.sighting.Sighting.{Sighting}
use Rattle.audit_sightings.specs.Intake.{Taken, sighting_at}
use Rattle.audit_rules.specs.Keys.{KeyFor}
use Rattle.audit_server.specs.Run.{MayMove}
use Rattle.audit_server.specs.State.{at_first}
use Rattle.audit_server.specs.Step.{Step, Move, In, Act, Out}
use Rattle.audit_whole.specs.CaptureRun.{rules_for, MayBePlaced, IsCaptureRun}

module _ (taken : Taken) (key_for : KeyFor) (leaving : (id : SightId) (s : Sighting) → sighting_at taken id ≡ Some s → s.side ≡ Leaves) (id : SightId) (s : Sighting) (there : sighting_at taken id ≡ Some s) where
  arrives_not : (x : SightId) (moment : ℕ) (o : Option Sighting) → sighting_at taken x ≡ o → IsSomeAnd o (λ y. (y.side ≡ Arrives) × (y.lo ≤ moment) × (moment ≤ y.hi)) → ⊥
  arrives_not x moment None e h = h
  arrives_not x moment (Some y) e h = let k : Arrives ≡ Leaves = sym h.0 ∙ leaving x y e in cc

  first_not : (moment : ℕ) (m : Move) → MayMove (rules_for taken key_for) at_first moment m → MayBePlaced taken moment m → ⊥
  first_not moment (In x) may seen = arrives_not x moment (sighting_at taken x) refl seen
  first_not moment (Act c x y) may seen = may.0
  first_not moment (Out x) may seen = may

  pub unasked : (steps : List Step) → IsCaptureRun taken (rules_for taken key_for) steps → ⊥
  unasked [] r = absurd (let k : 0 ≡ 1 = r.placed id ∙ ap (λ o. cond {A = ℕ} (is_some o) 1 0) there in cc)
  unasked (e ∷ es) r = first_not e.moment e.move r.run.runs.0.may r.seen.0
