-- The meaning of an audit of captures that were cut for the original captures.
use Rattle.std.specs.Prelude.{◌≡◌, ◌<◌, ℕ, List, [], length, slice_index_or, Ok}
use Rattle.audit_files.specs.Judged.{AreUsers}
use Rattle.audit_model.specs.declared.certificate.Certificate.{Certificate}
use Rattle.audit_model.specs.PolicyText.{policy_of}
use Rattle.audit_rules.specs.Keys.{KeyFor}
use Rattle.audit_sightings.specs.Intake.{Taken}
use Rattle.audit_sightings.specs.Sightings.{AreSightings}
use Rattle.audit_whole.specs.Headline.{Headline}
use Rattle.prep_blocks.specs.Splitting.{IsWhole}
use Rattle.prep_cut.specs.declared.plan.Plan.{Plan}
use Rattle.prep_verdict.specs.Rest.{Capture, packets_in, stays}

abbrev pub no_capture : Capture
no_capture = record { text = []; blocks = []; proposals = [] }

abbrev pub capture_at : List Capture → ℕ → Capture
capture_at captures file = slice_index_or captures file no_capture

-- each text is a whole capture of its blocks
abbrev pub AreWhole : List Capture → Type 0
AreWhole captures = (file : ℕ) → file < length captures → IsWhole (capture_at captures file).text (capture_at captures file).blocks

-- By the policy and the users of two texts, one run of the server explains every datagram of the
-- service in the captures, except those of packets that a line excludes: each interface has the
-- sightings of the packets that stay, and the headline holds of these.
pub record ExplainsTheRest (plan : Plan) (captures : List Capture) (policy users : List ℕ) (certificate : Certificate) : Type 0 where
  pub taken : Taken
  pub key_for : KeyFor
  pub policy' : policy_of policy ≡ Ok taken.policy
  pub users' : AreUsers users key_for
  pub sightings : AreSightings taken.policy taken.interfaces (λ file. packets_in (stays plan (capture_at captures file)))
  pub headline : Headline taken key_for certificate
