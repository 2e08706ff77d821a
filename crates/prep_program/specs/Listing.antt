-- The file of the list of what is excluded.
use Rattle.std.specs.Prelude.{ℕ, List, [], ◌∷◌, ◌++◌, codes}
use Rattle.prep_program.specs.Making.{FileMade}

-- the list's file in a folder
abbrev pub list_file : List ℕ → List ℕ → List FileMade
list_file folder list = record { name = folder ++ (codes "/" ++ codes "set-aside"); bytes = list } ∷ []
