-- Files that are made.
use Rattle.std.specs.Prelude.{ℕ, List, [], ◌∷◌, ◌++◌, Option, Some, None, option_map}

-- nothing was written yet
abbrev pub emptied : Option (List ℕ) → Option (List ℕ)
emptied taken = option_map (λ before. []) taken

-- a file that was made, and its bytes
pub record FileMade : Type 0 where
  pub name : List ℕ
  pub bytes : List ℕ

-- the files before the one that was made last, and the name of that one
pub record Making : Type 0 where
  pub closed : List FileMade
  pub name : List ℕ

-- all files; the last one has these bytes
abbrev pub files_of : Option Making → Option (List ℕ) → Option (List FileMade)
files_of None taken = None
files_of (Some making) None = None
files_of (Some making) (Some bytes) = Some (making.closed ++ record { name = making.name; bytes = bytes } ∷ [])

-- one more file is made after these
abbrev pub opened_by : List ℕ → Option (List FileMade) → Option Making
opened_by name files = option_map (λ (closed : List FileMade). record { closed = closed; name = name }) files

-- the files, and these after them
abbrev pub with_files : Option (List FileMade) → List FileMade → Option (List FileMade)
with_files files more = option_map (λ (before : List FileMade). before ++ more) files
