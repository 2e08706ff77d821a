-- The order of the files of a ring, and which of them is next.
use Rattle.std.specs.Prelude.{ℕ, ◌≡◌, ◌≤◌, ◌<◌, ◌+◌, ◌-◌, ◌*◌, ◌%◌, List, All, Contains}
use Rattle.watch_ring.specs.declared.ring_file.RingFile.{RingFile}
use Rattle.watch_ring.specs.declared.next_file.Next.{Next}
use Rattle.watch_ring.specs.declared.next_file.Next.TheVariants as next

-- the order of files: by the second in which they were opened, then by number
abbrev pub rank : RingFile → ℕ
rank file = file.opened * 100000 + file.number

-- by how many numbers a file is after the current one, plus 50,000: 0 follows 99,999, and 50,000
-- numbers are before the current one
abbrev pub turn : (current file : RingFile) → ℕ
turn current file = (file.number + 150000 - current.number) % 100000

-- the order of files as seen from the current one: by second, then by turn
abbrev pub place : (current file : RingFile) → ℕ
place current file = file.opened * 100000 + turn current file

abbrev pub IsBefore : (current file : RingFile) → Type 0
IsBefore current file = place current file < place current current

abbrev pub IsAfter : (current file : RingFile) → Type 0
IsAfter current file = place current current < place current file

-- the first of the files after the current one
pub record IsEarliestAfter (files : List RingFile) (current file : RingFile) : Type 0 where
  pub listed : Contains files file
  pub after : IsAfter current file
  pub least : All (λ f. IsAfter current f → place current file ≤ place current f) files

-- its number is one more than the current file's
abbrev pub HasNextNumber : (current file : RingFile) → Type 0
HasNextNumber current file = file.number ≡ (current.number + 1) % 100000

-- which file is next: none, the earliest after the current one, or that one with a gap before it
abbrev pub IsNext : List RingFile → RingFile → Next → Type 0
IsNext files current next.Wait = All (λ f. ¬ IsAfter current f) files
IsNext files current (next.File file) = IsEarliestAfter files current file × HasNextNumber current file
IsNext files current (next.Gap file) = IsEarliestAfter files current file × ¬ HasNextNumber current file
