-- A text read line by line, from the first line to the last.
use Rattle.std.specs.Prelude.{◌≡◌, ℕ, ◌+◌, ◌-◌, ◌^◌, min, nat_lt, Bool, false, if◌then◌else◌, List, [], ◌∷◌, ◌++◌, length, Option, Some, None, Result, Ok, Err}
use Rattle.audit_text.specs.declared.text_reader.TheConstants.{LONGEST_LINE}
use Rattle.audit_text.specs.declared.line_fault.LineFault.{LineFault}
use Rattle.audit_text.specs.Lines.{pieces}

-- the content of the lines of a text so far, the number of the next line, and the bytes after the
-- last LF
pub record SoFar (S : Type 0) : Type 0 where
  pub said : S
  pub line : ℕ
  pub rest : List ℕ

-- line numbers stop at the greatest u64
abbrev pub line_after : ℕ → ℕ
line_after line = min (line + 1) (2 ^ 64 - 1)

-- a fault is reported with its line's number
abbrev pub at_line : {A B K : Type 0} → ℕ → Result A K → (A → Result B (LineFault K)) → Result B (LineFault K)
at_line line (Ok x) f = f x
at_line line (Err kind) f = Err (record { kind = kind; line = line })

-- each piece except the last one is a line, and is added
abbrev pub taken_in : {S K : Type 0} → (S → List ℕ → Result S K) → ℕ → S → List ℕ → List (List ℕ) → Result (SoFar S) (LineFault K)
taken_in after line said piece [] = Ok (record { said = said; line = line; rest = piece })
taken_in after line said piece (next ∷ more) = at_line line (after said piece) (λ then_said. taken_in after (line_after line) then_said next more)

-- the content of a text so far, or its first fault
abbrev pub so_far : {S K : Type 0} → (S → List ℕ → Result S K) → S → List ℕ → Result (SoFar S) (LineFault K)
so_far after start text = taken_in after 1 start (pieces text).first (pieces text).more

-- the content with more bytes after a text so far
abbrev pub with_more : {S K : Type 0} → (S → List ℕ → Result S K) → SoFar S → List ℕ → Result (SoFar S) (LineFault K)
with_more after sofar bytes = taken_in after sofar.line sofar.said (pieces (sofar.rest ++ bytes)).first (pieces (sofar.rest ++ bytes)).more

-- the content of a text whose end is after the last line, if nothing is missing
abbrev pub complete : {S K : Type 0} → ℕ → S → Option K → Result S (LineFault K)
complete line said None = Ok said
complete line said (Some kind) = Err (record { kind = kind; line = line })

-- the content of a text that ends here
abbrev pub ended : {S K : Type 0} → (S → List ℕ → K) → (S → Option K) → ℕ → S → List ℕ → Result S (LineFault K)
ended unended lacks line said [] = complete line said (lacks said)
ended unended lacks line said (b ∷ bs) = Err (record { kind = unended said (b ∷ bs); line = line })

abbrev pub end_of : {S K : Type 0} → (S → List ℕ → K) → (S → Option K) → Result (SoFar S) (LineFault K) → Result S (LineFault K)
end_of unended lacks (Ok sofar) = ended unended lacks sofar.line sofar.said sofar.rest
end_of unended lacks (Err fault) = Err fault

-- a line of more than `LONGEST_LINE` bytes is refused, whatever it contains
abbrev pub within : {S K : Type 0} → (S → K) → (S → List ℕ → Result S K) → S → List ℕ → Result S K
within overlong after said line = if nat_lt LONGEST_LINE (length line) then Err (overlong said) else after said line

-- the fault of bytes that no LF ends; more than `LONGEST_LINE` of them are an overlong line
abbrev pub end_within : {S K : Type 0} → (S → K) → (S → List ℕ → K) → S → List ℕ → K
end_within overlong unended said rest = if nat_lt LONGEST_LINE (length rest) then overlong said else unended said rest

-- the content of a whole text, or its first fault
abbrev pub read_text : {S K : Type 0} → (S → K) → (S → List ℕ → Result S K) → (S → List ℕ → K) → (S → Option K) → S → List ℕ → Result S (LineFault K)
read_text overlong after unended lacks start text = end_of (end_within overlong unended) lacks (so_far (within overlong after) start text)

-- the kind of a fault is the reading's, unless it is exhausted memory
abbrev pub UnlessMemory : {A K : Type 0} → (K → Bool) → K → Result A K → Type 0
UnlessMemory is_memory kind read = is_memory kind ≡ false → read ≡ Err kind
