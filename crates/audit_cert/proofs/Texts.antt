-- A text read from some line on, line by line.
use Rattle.std.proofs.Common.{◌≡◌, ℕ, ◌≤◌, Bool, false, cond, List, ◌∷◌, ◌++◌, length, Result, Ok, Err, codes, ap, ◌∙◌, append-nil}
use Rattle.std.proofs.lemmas.Bool.{le-ltb}
use Rattle.std.specs.Str.{bytes_eq}
use Rattle.audit_text.specs.declared.line_fault.LineFault.{LineFault}
use Rattle.audit_text.specs.Token.{◌>>=◌}
use Rattle.audit_text.specs.Lines.{Pieces, pieces, has_lf}
use Rattle.audit_text.specs.Reading.{line_after, at_line, end_of, within, end_within}
use Rattle.audit_text.specs.declared.text_reader.TheConstants.{LONGEST_LINE}
use Rattle.audit_text.proofs.Broken.{pieces-unbroken}
use Rattle.audit_text.proofs.Readings.{read_on}
use Rattle.audit_cert.specs.declared.lines.Stage.TheVariants as stage
use Rattle.audit_cert.specs.declared.fault.CertFaultKind.{CertFaultKind}
use Rattle.audit_cert.specs.DraftView.{Drafted, Progress}
use Rattle.audit_cert.specs.CertLines.{after_line}
use Rattle.audit_cert.specs.CertText.{after, unended, overlong, lacks, said_in}

abbrev pub heading : List ℕ
heading = codes "turnaudit-certificate 1"

abbrev pub second_heading : List ℕ
second_heading = codes "turnaudit-certificate 2"

-- what the lines of a text make of what is said, the heading read
abbrev pub in_lines : Drafted → Progress
in_lines said = record { stage = stage.Lines; said = said }

abbrev pub in_skews : Drafted → Progress
in_skews said = record { stage = stage.Skews; said = said }

abbrev pub read_from : ℕ → Progress → Pieces → Result Drafted (LineFault CertFaultKind)
read_from line progress p = said_in (end_of (end_within overlong unended) lacks (read_on (within overlong after) line progress p))

abbrev pub read_rest : ℕ → Drafted → List ℕ → Result Drafted (LineFault CertFaultKind)
read_rest line said text = read_from line (in_lines said) (pieces text)

abbrev pub read_skews : ℕ → Drafted → List ℕ → Result Drafted (LineFault CertFaultKind)
read_skews line said text = read_from line (in_skews said) (pieces text)

-- a line, an LF and a text
pub pieces-line : (line rest : List ℕ) → has_lf line ≡ false → pieces (line ++ 10 ∷ rest) ≡ record { first = line; more = (pieces rest).first ∷ (pieces rest).more }
pieces-line line rest unbroken =
    pieces-unbroken line (10 ∷ rest) unbroken ∙ ap (λ (l : List ℕ). record { first = l; more = (pieces rest).first ∷ (pieces rest).more }) (append-nil line)

abbrev pub taken_with : ℕ → Result Progress CertFaultKind → List ℕ → Result Drafted (LineFault CertFaultKind)
taken_with line taken rest = said_in (end_of (end_within overlong unended) lacks (at_line line taken (λ next. read_on (within overlong after) (line_after line) next (pieces rest))))

first_read : (n : ℕ) (progress : Progress) (line rest : List ℕ) → has_lf line ≡ false → read_from n progress (pieces (line ++ 10 ∷ rest)) ≡ taken_with n (within overlong after progress line) rest
first_read n progress line rest unbroken = ap (read_from n progress) (pieces-line line rest unbroken)

-- a line of no more bytes than a line may have
pub within_is : (progress : Progress) (line : List ℕ) → length line ≤ LONGEST_LINE → within overlong after progress line ≡ after progress line
within_is progress line short = ap (λ (t : Bool). cond t (Err (overlong progress)) (after progress line)) (le-ltb LONGEST_LINE (length line) short)

-- a line that is taken in
pub one_read : (n : ℕ) (progress next : Progress) (line rest : List ℕ) → has_lf line ≡ false → length line ≤ LONGEST_LINE → after progress line ≡ Ok next →
    read_from n progress (pieces (line ++ 10 ∷ rest)) ≡ read_from (line_after n) next (pieces rest)
one_read n progress next line rest unbroken short e =
    first_read n progress line rest unbroken ∙ ap (λ (r : Result Progress CertFaultKind). taken_with n r rest) (within_is progress line short ∙ e)

pub line_read : (n : ℕ) (said next : Drafted) (line rest : List ℕ) → has_lf line ≡ false → length line ≤ LONGEST_LINE → bytes_eq line (codes "end") ≡ false → after_line said line ≡ Ok next →
    read_rest n said (line ++ 10 ∷ rest) ≡ read_rest (line_after n) next rest
unfolding after
line_read n said next line rest unbroken short other e =
    one_read n (in_lines said) (in_lines next) line rest unbroken short
    (ap (λ (t : Bool). cond t (Ok (record { stage = stage.Ended; said = said })) (after_line said line >>= (λ s. Ok (in_lines s)))) other
    ∙ ap (λ (r : Result Drafted CertFaultKind). r >>= (λ s. Ok (in_lines s))) e)
