-- How a lane is judged.
use Rattle.std.specs.Prelude.{◌≡◌, ◌&&◌, ℕ, Bool, List, Some, None, slice_get, find, option_map}
use Rattle.std.specs.Str.{bytes_eq}
use Rattle.audit_rules.specs.Effect.{Standing}
use Rattle.audit_rules.specs.Keys.{KeyFor}
use Rattle.audit_lane.specs.Content.{Content, Found, Judgement, User, numbered}
use Rattle.audit_lane.specs.Kept.{Terms, Kept, at_first}
use Rattle.audit_lane.specs.Walk.{WalksTo}

-- the key of the first of the users with this name and realm
abbrev pub is_user : List ℕ → List ℕ → User → Bool
is_user user realm one = bytes_eq one.user user && bytes_eq one.realm realm

abbrev pub key_by : List User → KeyFor
key_by users user realm = option_map (λ one. one.key) (find (is_user user realm) users)

-- an act uses the key of the user that its arrival names
abbrev pub terms_of : Content → Terms
terms_of content = record { number = content.number; policy = content.policy; keys = λ told. key_by (numbered content.users told) }

-- the client has nothing
abbrev pub empty_table : Content → Standing
empty_table content = record { client = content.client; listen = content.listen; lane = content.number; allocation = None; tenancy = None }

-- before the first event
abbrev pub at_start : Content → Kept
at_start content = at_first (empty_table content)

-- The lane's breach is that of the first event that breaks a rule, in the state after the events
-- before it. If there is none, it is that of the first act whose departure has not left at the end.
-- Otherwise the lane passes, with its tenancies.
unfoldable pub IsJudged : Content → Judgement → Type 0
IsJudged content judgement = WalksTo (terms_of content) 0 (at_start content) content.events judgement

-- each is at its number
abbrev pub IsNumbered : List Content → Type 0
IsNumbered job = (lane : ℕ) (content : Content) → slice_get job lane ≡ Some content → content.number ≡ lane

-- a finding of the job: its input is the job's input of its lane, and its outcome is that of its
-- input
pub record IsOf (job : List Content) (found : Found) : Type 0 where
  pub input : slice_get job found.input.number ≡ Some found.input
  pub outcome : IsJudged found.input found.outcome

-- each lane of the job is judged in one way
abbrev pub OneOutcome : List Content → Type 0
OneOutcome job = (lane : ℕ) (content : Content) → slice_get job lane ≡ Some content → (one other : Judgement) → IsJudged content one → IsJudged content other → one ≡ other
