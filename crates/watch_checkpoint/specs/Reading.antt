-- The content of a text, or its first fault.
use Rattle.std.specs.Prelude.{ℕ, ◌≡◌, ◌≢◌, ◌+◌, ◌-◌, ◌^◌, min, List, ◌++◌, codes, Option, None, Result, Ok, Err}
use Rattle.audit_text.specs.declared.line_fault.LineFault.{LineFault}
use Rattle.audit_text.specs.Reading.{read_text}
use Rattle.audit_text.specs.Token.{◌>>=◌, halves_of}
use Rattle.watch_checkpoint.specs.declared.fault.CheckpointFault.{CheckpointFault}
use Rattle.watch_checkpoint.specs.declared.fault.CheckpointFault.TheVariants as faults
use Rattle.watch_checkpoint.specs.declared.fault.LineKind.{LineKind}
use Rattle.watch_checkpoint.specs.declared.fault.LineKind.TheVariants.{Line}
use Rattle.watch_checkpoint.specs.Adding.{Progress, begun, after, content_at}
use Rattle.watch_checkpoint.specs.Content.{Content}
use Rattle.watch_checkpoint.specs.Fault.{of_word}
use Rattle.watch_checkpoint.specs.Spelling.{signed}
use Rattle.watch_checkpoint.specs.Words.{header_of, moment_of}

-- each line ends with an LF
abbrev pub unended : Progress → List ℕ → LineKind
unended p rest = Line

-- a line of too many bytes has the same fault
abbrev pub overlong : Progress → LineKind
overlong p = Line

-- a text may end after each line
abbrev pub lacks : Progress → Option LineKind
lacks p = None

-- what the lines after the moment's say
unfoldable pub entries_read : Progress → List ℕ → Result Progress (LineFault LineKind)
entries_read start text = read_text overlong after unended lacks start text

-- the line's number is that in the whole text, at most the greatest u64
abbrev pub moved : {A : Type 0} → Result A (LineFault LineKind) → Result A (LineFault LineKind)
moved (Ok x) = Ok x
moved (Err fault) = Err (record { kind = fault.kind; line = min (fault.line + 3) (2 ^ 64 - 1) })

abbrev pub at : {A : Type 0} → ℕ → Result A LineKind → Result A (LineFault LineKind)
at line (Ok x) = Ok x
at line (Err kind) = Err (record { kind = kind; line = line })

-- what the lines after the first one say, except the digest's: the header, the moment, the others
unfoldable pub rest_read : ℕ → List ℕ → Result Content (LineFault LineKind)
rest_read grace text = do
  second ← at 2 (of_word (halves_of 10 text))
  header ← at 2 (header_of second.0)
  third ← at 3 (of_word (halves_of 10 second.1))
  moment ← at 3 (moment_of third.0)
  progress ← moved (entries_read (begun grace header moment) third.1)
  Ok (content_at progress)

-- the text is signed, and its lines after the first one say this
abbrev pub IsRead : ℕ → List ℕ → Content → Type 0
IsRead grace bytes c = (rest : List ℕ) × (bytes ≡ signed (codes "turnwatch-checkpoint 1\n" ++ rest)) × (rest_read grace rest ≡ Ok c)

-- why the lines after the first one are refused: the first of them that doesn't fit
abbrev pub RefusesRest : ℕ → List ℕ → CheckpointFault → Type 0
RefusesRest grace rest faults.Heading = ⊥
RefusesRest grace rest faults.Digest = ⊥
RefusesRest grace rest (faults.Line line kind) = rest_read grace rest ≡ Err (record { kind = kind; line = line })
RefusesRest grace rest faults.Memory = Unit {0}

-- why bytes are refused: another first line, another digest, or the first line that doesn't fit
abbrev pub Refuses : ℕ → List ℕ → CheckpointFault → Type 0
Refuses grace bytes faults.Heading = (rest : List ℕ) → bytes ≢ codes "turnwatch-checkpoint 1\n" ++ rest
Refuses grace bytes faults.Digest = ((rest : List ℕ) × (bytes ≡ codes "turnwatch-checkpoint 1\n" ++ rest)) × ((rest : List ℕ) → bytes ≢ signed (codes "turnwatch-checkpoint 1\n" ++ rest))
Refuses grace bytes (faults.Line line kind) = (rest : List ℕ) × (bytes ≡ signed (codes "turnwatch-checkpoint 1\n" ++ rest)) × (rest_read grace rest ≡ Err (record { kind = kind; line = line }))
Refuses grace bytes faults.Memory = Unit {0}
