-- A text split at its LFs: the piece before the first one, and then the piece after each.
use Rattle.std.specs.Prelude.{ℕ, Bool, ◌==◌, if◌then◌else◌, List, [], ◌∷◌}
use Rattle.std.specs.List.{list_any}

pub record Pieces : Type 0 where
  pub first : List ℕ
  pub more : List (List ℕ)

-- an LF ends a line
abbrev pub pieces : List ℕ → Pieces
pieces [] = record { first = []; more = [] }
pieces (b ∷ bs) = if b == 10 then record { first = []; more = (pieces bs).first ∷ (pieces bs).more } else record { first = b ∷ (pieces bs).first; more = (pieces bs).more }

-- an LF is among the bytes
abbrev pub has_lf : List ℕ → Bool
has_lf bytes = list_any (λ b. b == 10) bytes
