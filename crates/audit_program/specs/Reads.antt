-- How often captures that grow were read, and when reading ends.
use Rattle.std.specs.Prelude.{◌≡◌, ◌≢◌, ◌<◌, ◌≤◌, ◌⊎◌, ◌++◌, ◌∷◌, [], ℕ, List, None, Option, IfSome, length, replicate}
use Rattle.audit_live.specs.Audit.{Audit}
use Rattle.audit_model.specs.Sink.{followed_by}
use Rattle.audit_program.specs.declared.command_line.Turns.{Turns}
use Rattle.audit_program.specs.declared.live.Turn.{Turn}
use Rattle.audit_program.specs.declared.live.Turn.TheVariants.{Quiet}

-- none of this number of captures was read
abbrev pub AreUnread : ℕ → (ℕ → Option (List ℕ)) → Type 0
AreUnread captures reads = (file : ℕ) → file < captures → IfSome (reads file) (λ sizes. sizes ≡ [])

-- each of this number of captures was read once more; in a quiet turn none had a byte
abbrev pub AreReadOnce : Turn → ℕ → (ℕ → Option (List ℕ)) → (ℕ → Option (List ℕ)) → Type 0
AreReadOnce turn captures before now =
    (file : ℕ) → file < captures → (size : ℕ) × (now file ≡ followed_by (before file) (size ∷ [])) × (turn ≡ Quiet → size ≡ 0)

-- `count` reads returned these numbers of bytes, and the last `idle` ones returned none
pub record AreReadings (count idle : ℕ) (sizes : List ℕ) : Type 0 where
  pub times : length sizes ≡ count
  pub front : List ℕ
  pub quiet : sizes ≡ front ++ replicate idle 0

-- each of this number of captures was read `count` times, and had no byte in the last `idle` reads
abbrev pub WereRead : ℕ → ℕ → ℕ → (ℕ → Option (List ℕ)) → Type 0
WereRead captures count idle reads = (file : ℕ) → file < captures → IfSome (reads file) (AreReadings count idle)

-- Turns, each of which reads each capture once, were run until their number was reached, or until
-- none of the captures had a byte in this number of turns in a row.
pub record AreReadOut (turns : Turns) (captures : ℕ) (reads : ℕ → Option (List ℕ)) : Type 0 where
  pub count : ℕ
  pub idle : ℕ
  pub were_read : WereRead captures count idle reads
  pub enough : (count ≡ turns.most) ⊎ (turns.idle ≤ idle)

-- It ended by a breach, a refusal of bytes or exhausted memory, or the captures were read out.
abbrev pub HasEnded : Turns → ℕ → (ℕ → Option (List ℕ)) → Audit → Type 0
HasEnded turns captures reads live = (live.ended ≢ None) ⊎ AreReadOut turns captures reads
