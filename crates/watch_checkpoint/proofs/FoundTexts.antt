-- A text that is read is the text of its content.
use Rattle.std.proofs.Common.{◌≡◌, ℕ, true, false, cond, ltb, List, [], ◌∷◌, ◌++◌, length, Result, Ok, Err, codes, refl, sym, ap, subst, ◌∙◌, append_assoc, append-nil}
use Rattle.audit_text.specs.declared.line_fault.LineFault.{LineFault}
use Rattle.audit_text.specs.declared.token.TokenFault.{TokenFault}
use Rattle.audit_text.specs.declared.text_reader.TheConstants.{LONGEST_LINE}
use Rattle.audit_text.specs.Lines.{pieces}
use Rattle.audit_text.specs.Reading.{line_after, at_line, taken_in, end_of, within, end_within}
use Rattle.audit_text.specs.Token.{halves_of}
use Rattle.audit_cert.proofs.FoundTexts.{joined, joined_pieces}
use Rattle.audit_cert.proofs.Steps.{bind_ok, ok_is}
use Rattle.audit_cert.proofs.Words.{halves_found}
use Rattle.watch_checkpoint.specs.declared.entry.Entry.{Entry}
use Rattle.watch_checkpoint.specs.declared.fault.LineKind.{LineKind}
use Rattle.watch_checkpoint.specs.Content.{Content, HeaderContent}
use Rattle.watch_checkpoint.specs.Spelling.{entry_text, header_text, moment_text, lines_of, front_text, body_of}
use Rattle.watch_checkpoint.specs.Fault.{of_word}
use Rattle.watch_checkpoint.specs.Words.{entry_of, header_of, moment_of}
use Rattle.watch_checkpoint.specs.Adding.{Progress, begun, content_at, with_entry, after}
use Rattle.watch_checkpoint.specs.Reading.{unended, overlong, lacks, entries_read, moved, at, rest_read}
use Rattle.watch_checkpoint.proofs.Found.{entry_found, header_found, moment_found, entries_at, entry_adds}
use Rattle.watch_checkpoint.proofs.Texts.{lines_both}

abbrev pub Read : Type 0
Read = Result Progress (LineFault LineKind)

abbrev pub from_pieces : ℕ → Progress → List ℕ → List (List ℕ) → Read
from_pieces line p piece more = end_of (end_within overlong unended) lacks (taken_in (within overlong after) line p piece more)

-- the reading of a line, followed by that of the lines after it
abbrev pub then_rest : ℕ → Result Progress LineKind → List ℕ → List (List ℕ) → Read
then_rest line known next more = end_of (end_within overlong unended) lacks (at_line line known (λ p. taken_in (within overlong after) (line_after line) p next more))

-- a line that is read is not too long
is_short : (line : ℕ) (p q : Progress) (piece next : List ℕ) (more : List (List ℕ)) → from_pieces line p piece (next ∷ more) ≡ Ok q → then_rest line (after p piece) next more ≡ Ok q
is_short line p q piece next more e =
    elim (ltb LONGEST_LINE (length piece)) as (λ t. ltb LONGEST_LINE (length piece) ≡ t → then_rest line (cond t (Err (overlong p)) (after p piece)) next more ≡ Ok q → then_rest line (after p piece) next more ≡ Ok q) [
      | true ↦ λ is k. absurd cc
      | false ↦ λ is k. k
    ] refl e

next_read : (line : ℕ) (known : Result Progress LineKind) (next : List ℕ) (more : List (List ℕ)) (q : Progress) → then_rest line known next more ≡ Ok q →
    (x : Progress) × (known ≡ Ok x) × (from_pieces (line_after line) x next more ≡ Ok q)
next_read line (Ok x) next more q e = (x, refl, e)
next_read line (Err kind) next more q e = absurd cc

after_found : (p x : Progress) (piece : List ℕ) → after p piece ≡ Ok x → (e : Entry) × (entry_of piece ≡ Ok e) × (with_entry p e ≡ Ok x)
unfolding after
after_found p x piece e = bind_ok (entry_of piece) (with_entry p) x e

one_more : (es : List Entry) (e : Entry) (rest : List ℕ) → lines_of es ++ (entry_text e ++ 10 ∷ rest) ≡ lines_of (es ++ e ∷ []) ++ rest
one_more es e rest =
    let assoc : (lines_of es ++ (entry_text e ++ 10 ∷ [])) ++ rest ≡ lines_of es ++ (entry_text e ++ 10 ∷ rest) = simp append_assoc in
    sym assoc ∙ ap (λ (l : List ℕ). (lines_of es ++ l) ++ rest) (sym (append-nil (entry_text e ++ 10 ∷ []))) ∙ ap (λ (l : List ℕ). l ++ rest) (sym (lines_both es (e ∷ [])))

-- the lines still to come are those of what they add
pub record Reads (p q : Progress) (text : List ℕ) : Type 0 where
  pub lines : lines_of (entries_at p) ++ text ≡ lines_of (entries_at q)
  pub header : q.header ≡ p.header
  pub moment : q.moment ≡ p.moment

lines_found : (line : ℕ) (p q : Progress) (piece : List ℕ) (more : List (List ℕ)) → from_pieces line p piece more ≡ Ok q → Reads p q (joined piece more)
lines_found line p q [] [] e = subst (λ (x : Progress). Reads p x []) (ok_is {E = LineFault LineKind} p q e) (record { lines = append-nil (lines_of (entries_at p)); header = refl; moment = refl })
lines_found line p q (b ∷ bs) [] e = absurd cc
lines_found line p q piece (next ∷ more) e =
    let x = next_read line (after p piece) next more q (is_short line p q piece next more e) in
    let a = after_found p x.0 piece x.1 in
    let adds = entry_adds p x.0 a.0 a.2 in
    let rest = lines_found (line_after line) x.0 q next more x.2 in
    record {
      lines = ap (λ (l : List ℕ). lines_of (entries_at p) ++ (l ++ 10 ∷ joined next more)) (entry_found piece a.0 a.1)
          ∙ one_more (entries_at p) a.0 (joined next more)
          ∙ ap (λ (es : List Entry). lines_of es ++ joined next more) adds.entries ∙ rest.lines;
      header = rest.header ∙ adds.header;
      moment = rest.moment ∙ adds.moment;
    }

entries_found : (p q : Progress) (text : List ℕ) → entries_read p text ≡ Ok q → Reads p q text
unfolding entries_read
entries_found p q text e = subst (Reads p q) (joined_pieces text) (lines_found 1 p q (pieces text).first (pieces text).more e)

word_ok : {A : Type 0} (r : Result A TokenFault) (x : A) → of_word r ≡ Ok x → r ≡ Ok x
word_ok (Ok y) x e = cc
word_ok (Err d) x e = absurd cc

at_ok : {A : Type 0} (line : ℕ) (r : Result A LineKind) (x : A) → at line r ≡ Ok x → r ≡ Ok x
at_ok line (Ok y) x e = cc
at_ok line (Err d) x e = absurd cc

moved_ok : {A : Type 0} (r : Result A (LineFault LineKind)) (x : A) → moved r ≡ Ok x → r ≡ Ok x
moved_ok (Ok y) x e = cc
moved_ok (Err d) x e = absurd cc

all_lines : (header moment lines : List ℕ) → codes "turnwatch-checkpoint 1\n" ++ (header ++ 10 ∷ (moment ++ 10 ∷ lines)) ≡ (codes "turnwatch-checkpoint 1\n" ++ ((header ++ 10 ∷ []) ++ (moment ++ 10 ∷ []))) ++ lines
all_lines header moment lines = sym (simp append_assoc)

pub rest_found : (grace : ℕ) (text : List ℕ) (c : Content) → rest_read grace text ≡ Ok c → codes "turnwatch-checkpoint 1\n" ++ text ≡ body_of c
unfolding rest_read
rest_found grace text c e =
    let second = bind_ok (at 2 (of_word (halves_of 10 text))) _ c e in
    let header = bind_ok (at 2 (header_of second.0.0)) _ c second.2 in
    let third = bind_ok (at 3 (of_word (halves_of 10 second.0.1))) _ c header.2 in
    let moment = bind_ok (at 3 (moment_of third.0.0)) _ c third.2 in
    let read = bind_ok (moved (entries_read (begun grace header.0 moment.0) third.0.1)) _ c moment.2 in
    let lines = entries_found (begun grace header.0 moment.0) read.0 third.0.1 (moved_ok _ read.0 read.1) in
    let first : text ≡ header_text header.0 ++ 10 ∷ second.0.1 =
    halves_found 10 text second.0 (word_ok _ second.0 (at_ok 2 _ second.0 second.1)) ∙ ap (λ (l : List ℕ). l ++ 10 ∷ second.0.1) (header_found second.0.0 header.0 (at_ok 2 _ header.0 header.1)) in
    let next : second.0.1 ≡ moment_text moment.0 ++ 10 ∷ third.0.1 =
    halves_found 10 second.0.1 third.0 (word_ok _ third.0 (at_ok 3 _ third.0 third.1)) ∙ ap (λ (l : List ℕ). l ++ 10 ∷ third.0.1) (moment_found third.0.0 moment.0 (at_ok 3 _ moment.0 moment.1)) in
    ap (λ (l : List ℕ). codes "turnwatch-checkpoint 1\n" ++ l) (first ∙ ap (λ (l : List ℕ). header_text header.0 ++ 10 ∷ l) (next ∙ ap (λ (l : List ℕ). moment_text moment.0 ++ 10 ∷ l) lines.lines))
    ∙ all_lines (header_text header.0) (moment_text moment.0) (lines_of (entries_at read.0))
    ∙ ap (λ (h : HeaderContent). front_text h moment.0 ++ lines_of (entries_at read.0)) (sym lines.header)
    ∙ ap (λ (m : ℕ). front_text read.0.header m ++ lines_of (entries_at read.0)) (sym lines.moment)
    ∙ ap body_of (ok_is {E = LineFault LineKind} (content_at read.0) c read.2)
