-- The end of a call of `cut` without a failure, by the number of datagrams of the service that it
-- wrote.
use Rattle.std.specs.Prelude.{◌≡◌, ℕ, ◌==◌, if◌then◌else◌, List, Option, codes}
use Rattle.audit_model.specs.Sink.{followed_by}

-- 6 if there is none
abbrev pub status_of_kept : ℕ → ℕ
status_of_kept kept = if kept == 0 then 6 else 0

-- and a line on standard error; nothing else is written there
abbrev pub said_of_kept : ℕ → Option (List ℕ) → Option (List ℕ)
said_of_kept kept before = if kept == 0 then followed_by before (codes "turnprep: kept 0 datagrams\n") else before

-- the exit status, and what is on standard error before and after
pub record EndsByKept (kept status : ℕ) (before after : Option (List ℕ)) : Type 0 where
  pub status_is : status ≡ status_of_kept kept
  pub said_is : after ≡ said_of_kept kept before
