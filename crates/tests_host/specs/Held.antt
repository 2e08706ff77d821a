-- The bytes of files in memory, and the bytes that they returned.
use Rattle.std.specs.Prelude.{ℕ, List, Option, Some, None, cond, codes, ◌==◌}
use Rattle.std.specs.Str.{bytes_eq}

-- the bytes of the file with that name, for five names
abbrev pub held_among : List ℕ → List ℕ → List ℕ → List ℕ → List ℕ → List ℕ → Option (List ℕ)
held_among policy credentials certificate capture second name =
    cond (bytes_eq name (codes "policy")) (Some policy)
    (cond (bytes_eq name (codes "creds")) (Some credentials)
    (cond (bytes_eq name (codes "cert")) (Some certificate)
    (cond (bytes_eq name (codes "capture")) (Some capture)
    (cond (bytes_eq name (codes "second")) (Some second) None))))

-- the bytes that the turns returned of each of two captures
abbrev pub gave_of : List ℕ → List ℕ → ℕ → Option (List ℕ)
gave_of first second capture = cond (capture == 0) (Some first) (cond (capture == 1) (Some second) None)
