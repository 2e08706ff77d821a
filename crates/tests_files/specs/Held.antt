-- The bytes of files in memory.
use Rattle.std.specs.Prelude.{ℕ, List, Option, Some, None, cond, codes}
use Rattle.std.specs.Str.{bytes_eq}

-- the bytes of the file with that name, for three names
abbrev pub held_among : List ℕ → List ℕ → List ℕ → List ℕ → Option (List ℕ)
held_among policy certificate capture name =
    cond (bytes_eq name (codes "policy")) (Some policy)
    (cond (bytes_eq name (codes "certificate")) (Some certificate)
    (cond (bytes_eq name (codes "capture")) (Some capture) None))
