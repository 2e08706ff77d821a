-- The end of a call of `translate` without a failure, by the number of datagrams that it
-- translated.
use Rattle.std.specs.Prelude.{◌≡◌, ℕ, ◌==◌, if◌then◌else◌, List, Option, codes}
use Rattle.audit_model.specs.Sink.{followed_by}

-- a line on standard error if there is none; nothing else is written there
abbrev pub said_of_translated : ℕ → Option (List ℕ) → Option (List ℕ)
said_of_translated total before = if total == 0 then followed_by before (codes "turnprep: translated 0 datagrams: the captures have no private address of --external-ip at a relayed port\n") else before

-- the exit status, and what is on standard error before and after
pub record EndsByTranslated (total status : ℕ) (before after : Option (List ℕ)) : Type 0 where
  pub status_is : status ≡ 0
  pub said_is : after ≡ said_of_translated total before
