-- Every run that explains the captures is a conforming certificate that has a spelling.
use Rattle.std.proofs.Common.{◌≡◌, ◌≤◌, ℕ, Bool, true, false, cond, List, [], length, map, sym, subst, arith}
use Rattle.std.specs.Prelude.{is_some}
use Rattle.std.specs.List.{AllByRecursion}
use Rattle.audit_model.specs.declared.certificate.Certificate.{Certificate}
use Rattle.audit_model.specs.declared.sighting.SightId.{SightId}
use Rattle.audit_model.specs.Policy.{AreApart}
use Rattle.audit_cert.specs.Fits.{LaneFits, DropFits, SkewFits, IsCertificate}
use Rattle.audit_cert.specs.Spelling.{said_by}
use Rattle.audit_sightings.specs.Intake.{Taken, sighting_at}
use Rattle.audit_rules.specs.Keys.{KeyFor}
use Rattle.audit_server.specs.Acting.{acting_pairs}
use Rattle.audit_server.specs.Placed.{Placed, of_lane}
use Rattle.audit_server.specs.Placing.{times_placed}
use Rattle.audit_server.specs.Step.{Step}
use Rattle.audit_sightings.specs.Bounds.{IsBounded}
use Rattle.audit_whole.specs.CaptureRun.{rules_for, IsCaptureRun}
use Rattle.audit_whole.specs.Conforms.{Conforms}
use Rattle.audit_whole.specs.Glued.{glued_steps}
use Rattle.audit_whole.proofs.Counting.{few_steps}
use Rattle.audit_whole.proofs.Fitting.{PlacedFits, steps_fit, pairs_fit, tagged_fit, lanes_fit, drops_fit}
use Rattle.audit_whole.proofs.Writing.{lane_of_move, tagged, cert_lanes, drop_of}
use Rattle.audit_whole.proofs.Written.{all_written}

at_most : (b : Bool) → cond {A = ℕ} b 1 0 ≤ 1
at_most true = omega arith
at_most false = omega arith

module _ (taken : Taken) (key_for : KeyFor) (steps : List Step) (apart : AreApart taken.policy) (bounded : IsBounded taken) (r : IsCaptureRun taken (rules_for taken key_for) steps) (few_clients : length (acting_pairs steps) ≤ 65536) where
  once : (s : SightId) → times_placed s steps ≤ 1
  once s = subst (λ (n : ℕ). n ≤ 1) (sym (r.placed s)) (at_most (is_some (sighting_at taken s)))

  few : length steps ≤ 33554432
  few = omega (arith, few_steps taken key_for steps r, bounded.few)

  abbrev listed : List Placed
  listed = tagged (lane_of_move steps) 0 steps

  fit : AllByRecursion PlacedFits (tagged (lane_of_move steps) 0 steps)
  fit = tagged_fit (lane_of_move steps) 0 steps (omega (arith, few)) (steps_fit taken bounded key_for steps r)

  lanes : AllByRecursion LaneFits (cert_lanes 0 (acting_pairs steps) (tagged (lane_of_move steps) 0 steps))
  lanes = lanes_fit 0 (acting_pairs steps) listed (pairs_fit steps (steps_fit taken bounded key_for steps r)) fit

  drops : AllByRecursion DropFits (map drop_of (of_lane (length (acting_pairs steps)) (tagged (lane_of_move steps) 0 steps)))
  drops = drops_fit (length (acting_pairs steps)) listed fit

  pub explained : (c : Certificate) × Conforms taken (rules_for taken key_for) c × (glued_steps c ≡ steps) × IsCertificate (said_by c) × (c.skews ≡ [])
  explained =
      let w = all_written taken apart key_for steps r.run once few_clients (omega (arith, few)) r.order in
      let c : Certificate = w.0 in (
        c,
        record { conditions = w.1; run = subst (IsCaptureRun taken (rules_for taken key_for)) (sym w.2) r },
        w.2,
        record {
          lanes = subst (AllByRecursion LaneFits) (sym w.3) lanes;
          drops = subst (AllByRecursion DropFits) (sym w.4) drops;
          distinct = c.distinct;
          few_lanes = c.few_lanes;
          few_events = c.few_events;
          skews = subst (AllByRecursion SkewFits) (sym w.5) tt;
          rising = c.rising;
          few_skews = c.few_skews;
        },
        w.5,
      )
