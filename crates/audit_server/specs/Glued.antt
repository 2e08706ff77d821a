-- The one list of all lanes.
use Rattle.std.specs.Prelude.{ℕ, ◌+◌, ◌≡◌, List, [], ◌∷◌, ◌++◌, if◌then◌else◌}
use Rattle.std.specs.List.{AllByRecursion}
use Rattle.std.specs.Ordering.{is_lt}
use Rattle.audit_server.specs.Placed.{Placed, at_cmp}

-- lists one after another
abbrev pub joined : {A : Type 0} → List (List A) → List A
joined [] = []
joined (xs ∷ xss) = xs ++ joined xss

-- the i-th list is of lane n + i
abbrev pub Numbered : ℕ → List (List Placed) → Type 0
Numbered n [] = Unit {0}
Numbered n (l ∷ ls) = AllByRecursion (λ (e : Placed). e.at.lane ≡ n) l × Numbered (n + 1) ls

-- a move inserted before the first that comes after it
abbrev pub inserted : Placed → List Placed → List Placed
inserted e [] = e ∷ []
inserted e (d ∷ ds) = if is_lt (at_cmp e.at d.at) then e ∷ d ∷ ds else d ∷ inserted e ds

-- by moment, tie and lane
abbrev pub sorted : List Placed → List Placed
sorted [] = []
sorted (e ∷ es) = inserted e (sorted es)
