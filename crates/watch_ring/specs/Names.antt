-- The names of the files of a ring, as dumpcap makes them.
use Rattle.std.specs.Prelude.{ℕ, zero, suc, ◌≡◌, ◌+◌, ◌/◌, ◌%◌, List, [], ◌∷◌, ◌++◌, Contains, ⊤}
use Rattle.watch_ring.specs.declared.ring_file.RingFile.{RingFile}

-- the last digits of a number, this many, in decimal with leading zeros
unfoldable pub digits : ℕ → ℕ → List ℕ
digits zero n = []
digits (suc width) n = digits width (n / 10) ++ (48 + n % 10) ∷ []

-- an underscore and the digits
abbrev pub field : ℕ → ℕ → List ℕ
field width n = 95 ∷ digits width n

-- PREFIX_NNNNN_YYYYMMDDHHMMSS and the extension
abbrev pub name_of : (prefix extension : List ℕ) → RingFile → List ℕ
name_of prefix extension file = prefix ++ (field 5 file.number ++ (field 14 file.opened ++ extension))

-- nothing, or a dot and no other dot
abbrev pub IsExtension : List ℕ → Type 0
IsExtension [] = ⊤
IsExtension (first ∷ rest) = (first ≡ 46) × (¬ Contains rest 46)

-- the name's parts before and after its last dot, which the second one has; without a dot all of it
pub record IsSplit (name prefix extension : List ℕ) : Type 0 where
  pub joined : name ≡ prefix ++ extension
  pub extends : IsExtension extension
  pub whole : extension ≡ [] → ¬ Contains name 46
