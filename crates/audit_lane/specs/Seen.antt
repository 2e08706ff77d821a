-- The code's state of a lane, in the definitions' terms.
use Rattle.std.specs.Prelude.{◌≡◌, ℕ, List}
use Rattle.std.specs.BTreeMap.{get}
use Rattle.std.specs.Ordering.{nat_cmp}
use Rattle.audit_model.specs.declared.policy.Policy.{Policy}
use Rattle.audit_model.specs.declared.sighting.SightId.{SightId}
use Rattle.audit_model.specs.declared.verdict.Breach.{Breach}
use Rattle.audit_rules.specs.declared.credentials.CredRow.{CredRow}
use Rattle.audit_rules.specs.Effect.{standing}
use Rattle.audit_rules.specs.Seen.{key_in}
use Rattle.audit_sights.specs.Found.{found}
use Rattle.audit_lane.specs.declared.finding.Outcome.{Outcome}
use Rattle.audit_lane.specs.declared.finding.Outcome.TheVariants.{Passed, Broken as BrokenLane}
use Rattle.audit_lane.specs.declared.fault.LaneFault.{LaneFault}
use Rattle.audit_lane.specs.declared.fault.LaneFault.TheVariants.{Broken, Memory}
use Rattle.audit_lane.specs.declared.state.LaneState.{LaneState}
use Rattle.audit_lane.specs.Content.{Judgement, Passes, Breaks, numbered}
use Rattle.audit_lane.specs.Kept.{Terms, Kept}

abbrev pub kept_of : LaneState → Kept
kept_of lane = record {
  standing = standing lane.table;
  came = found lane.arrivals;
  gave = found lane.departures;
  owed = get nat_cmp lane.owed;
  ended = lane.tenancies;
}

abbrev pub terms_by : ℕ → Policy → List CredRow → Terms
terms_by number policy users = record { number = number; policy = policy; keys = λ told. key_in (numbered users told) }

-- two states that are equal at each sighting and each place
pub record SameKept (a b : Kept) : Type 0 where
  pub standing : a.standing ≡ b.standing
  pub came : (s : SightId) → a.came s ≡ b.came s
  pub gave : (t : SightId) → a.gave t ≡ b.gave t
  pub owed : (place : ℕ) → a.owed place ≡ b.owed place
  pub ended : a.ended ≡ b.ended

-- it is a breach with the property, or exhausted memory
abbrev pub IsShown : LaneFault → (Breach → Type 0) → Type 0
IsShown (Broken breach) Fact = Fact breach
IsShown Memory Fact = Unit {0}

abbrev pub judgement_of : Outcome → Judgement
judgement_of (Passed tenancies) = Passes tenancies
judgement_of (BrokenLane breach) = Breaks breach
