-- The bytes that are written to a sink, for a text.
use Rattle.std.specs.Prelude.{◌≡◌, ℕ, List, Option, Result, MatchResult}
use Rattle.audit_model.specs.Sink.{followed_by, raised_by, IsFollowedByFront}
use Rattle.audit_model.specs.declared.write_fault.WriteFault.{WriteFault}
use Rattle.audit_model.specs.declared.write_fault.WriteFault.TheVariants.{Device, Memory}

-- a sink before, and after
pub record Course : Type 0 where
  pub taken : Option (List ℕ)
  pub taken_now : Option (List ℕ)
  pub failures : Option ℕ
  pub failures_now : Option ℕ

-- all of the text was written
pub record Went (text : List ℕ) (c : Course) : Type 0 where
  pub all : c.taken_now ≡ followed_by c.taken text
  pub kept : c.failures_now ≡ c.failures

-- a prefix of the text was written, and the sink has counted one failure if the device is at fault,
-- and none if memory ran out
pub record Stopped (text : List ℕ) (fault : WriteFault) (c : Course) : Type 0 where
  pub front : IsFollowedByFront c.taken text c.taken_now
  pub device : fault ≡ Device → c.failures_now ≡ raised_by c.failures 1
  pub memory : fault ≡ Memory → c.failures_now ≡ c.failures

abbrev pub Puts : {A : Type 0} → List ℕ → Result A WriteFault → Course → Type 0
Puts text result c = MatchResult result (λ _. Went text c) (λ fault. Stopped text fault c)
