-- What a turn makes of the front, by its parts.
use Rattle.std.proofs.Common.{◌≡◌, ◌+◌, ◌<◌, ◌≤◌, ◌++◌, ℕ, List, All, Option, Some, None, length, map, ap, ◌∙◌, subst, arith, length-append}
use Rattle.std.specs.Prelude.{Result, Ok, Err, IfOk, IfNone, OnOk, vec_len}
use Rattle.std.specs.declared.alloc.AllocError.{AllocError}
use Rattle.std.proofs.lemmas.List.{length-map}
use Rattle.std.proofs.lemmas.List.Elements.{All-weaker}
use Rattle.audit_model.specs.declared.address.Addr.{Addr}
use Rattle.audit_model.specs.declared.certificate.Certificate.{Certificate}
use Rattle.audit_model.specs.declared.certificate.CertLane.{CertLane}
use Rattle.audit_model.specs.declared.event.Event.{Event}
use Rattle.audit_model.specs.declared.extension.Extension.{Extension}
use Rattle.audit_model.specs.declared.verdict.Breach.{Breach}
use Rattle.audit_model.specs.Least.{IsLeast}
use Rattle.audit_order.specs.Grown.{Extends, HasRoom, empty_lane}
use Rattle.audit_order.specs.Kept.{Keeps}
use Rattle.audit_order.proofs.PortionSteps.{with_length}
use Rattle.audit_placement.specs.Named.{AllNamed}
use Rattle.audit_placement.specs.Shows.{ShowsPlaced}
use Rattle.audit_prefix.specs.Live.{MayAdvance}
use Rattle.audit_prefix.specs.Breaches.{LiveBreach}
use Rattle.audit_rules.specs.Keys.{KeyFor}
use Rattle.audit_sightings.specs.Intake.{Taken, NamesWhatIsThere}
use Rattle.audit_live.specs.declared.front.Front.{Front}
use Rattle.audit_live.specs.declared.lanes.LiveLanes.{LiveLanes}
use Rattle.audit_live.specs.Chain.{Chain}
use Rattle.audit_live.specs.Knows.{Knows, TakesExtension, stands_for}
use Rattle.audit_live.specs.Turn.{AddsLane, TakesTurn}
use Rattle.audit_live.proofs.Joining.{come_past, known_whole, breach_of_whole}
use Rattle.audit_live.proofs.Named.{events_named}

pub extension_named : (taken : Taken) (old new : Certificate) (extension : Extension) → Extends old extension new → HasRoom old extension → AllNamed taken new
    → All (λ (e : ℕ × Event). NamesWhatIsThere taken e.1) extension.events
extension_named taken old new extension extends room named =
    let lanes = old.lanes ++ map empty_lane extension.lanes in
    let count : length lanes ≡ length old.lanes + length extension.lanes = length-append old.lanes (map empty_lane extension.lanes) ∙ ap (λ n. length old.lanes + n) (length-map extension.lanes empty_lane) in
    let all = events_named (NamesWhatIsThere taken) 0 lanes extension.events
    (subst (λ (ls : List CertLane). All (λ (lane : CertLane). All (NamesWhatIsThere taken) lane.events) ls) extends.lanes named)
    (All-weaker (λ (e : ℕ × Event). e.0 < length old.lanes + length extension.lanes) (λ (e : ℕ × Event). e.0 < 0 + length lanes) (λ e below. omega (arith, below, count)) extension.events room.numbers) in
    All-weaker (λ (e : ℕ × Event). 0 ≤ e.0 → NamesWhatIsThere taken e.1) (λ (e : ℕ × Event). NamesWhatIsThere taken e.1) (λ e h. h (omega arith)) extension.events all

lanes_count : (old new : Certificate) (extension : Extension) → Extends old extension new → length new.lanes ≡ length old.lanes + length extension.lanes
lanes_count old new extension extends =
    ap length extends.lanes ∙ with_length 0 (old.lanes ++ map empty_lane extension.lanes) extension.events
    ∙ length-append old.lanes (map empty_lane extension.lanes) ∙ ap (λ n. length old.lanes + n) (length-map extension.lanes empty_lane)

module _ (taken : Taken) (key_for : KeyFor) (last : Option ℕ) (old new : Front) (with_new : LiveLanes) (extension : Extension) (extends : Extends old.placing.certificate extension new.placing.certificate)
    (pairs : List (Addr × Addr)) (pairs_are : pairs ≡ extension.lanes) where
  pub takes_lanes : (events : List (ℕ × Event)) → events ≡ extension.events → IsLeast (ShowsPlaced taken new.placing.certificate) None → Chain AddsLane old.lanes.lanes.items pairs with_new.lanes.items
      → with_new.owed ≡ old.lanes.owed → with_new.holders ≡ old.lanes.holders → (result : Result (Option Breach) AllocError)
      → IfOk result (TakesTurn taken key_for last with_new events new.lanes) → IfOk result (TakesExtension taken key_for last old extension new)
  takes_lanes events events_are none adds owed holders (Ok found) takes = record {
    extends = extends;
    of_placement = None;
    least = none;
    reports = (
      with_new,
      subst (λ (ps : List (Addr × Addr)). Chain AddsLane old.lanes.lanes.items ps with_new.lanes.items) pairs_are adds,
      owed,
      holders,
      subst (λ (es : List (ℕ × Event)). TakesTurn taken key_for last with_new es new.lanes found) events_are takes,
    );
  }
  takes_lanes events events_are none adds owed holders (Err fault) takes = tt

  pub lanes_there : vec_len old.lanes.lanes ≡ length old.placing.certificate.lanes → vec_len with_new.lanes ≡ vec_len old.lanes.lanes + length pairs → (result : Result (Option Breach) AllocError)
      → OnOk result (vec_len new.lanes.lanes ≡ vec_len with_new.lanes) → OnOk result (vec_len new.lanes.lanes ≡ length new.placing.certificate.lanes)
  lanes_there before grown (Ok found) count =
      let now : length new.placing.certificate.lanes ≡ length old.placing.certificate.lanes + length extension.lanes = lanes_count old.placing.certificate new.placing.certificate extension extends in
      let same : length pairs ≡ length extension.lanes = ap length pairs_are in
      omega (arith, count, grown, before, now, same)
  lanes_there before grown (Err fault) count = tt

module _ (taken : Taken) (key_for : KeyFor) (last : Option ℕ) (old new : Front) (extension : Extension) (knows : Knows taken key_for last old) (horizon : ℕ) (may : MayAdvance (stands_for taken old last) horizon extension) where
  -- what is reported is the breach of the whole
  pub shows_whole : (result : Result (Option Breach) AllocError) → IfOk result (TakesExtension taken key_for last old extension new) → IfOk result (LiveBreach taken key_for new.placing.certificate)
  shows_whole (Ok found) takes_extension = breach_of_whole taken key_for last old new extension knows may.fits (come_past taken key_for last horizon old new extension knows may) found takes_extension
  shows_whole (Err fault) takes_extension = tt

  -- and where there is none, what is known goes on
  pub knows_on : Keeps taken new.placing → (result : Result (Option Breach) AllocError) → IfOk result (TakesExtension taken key_for last old extension new)
      → OnOk result (vec_len new.lanes.lanes ≡ length new.placing.certificate.lanes) → IfOk result (λ found. IfNone found (Knows taken key_for (Some horizon) new))
  knows_on keeps (Ok None) takes_extension count = known_whole taken key_for last horizon old new extension knows may takes_extension keeps count
  knows_on keeps (Ok (Some breach)) takes_extension count = tt
  knows_on keeps (Err fault) takes_extension count = tt
