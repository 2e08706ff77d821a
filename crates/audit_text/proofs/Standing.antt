-- What a reader stands for, as it is fed.
use Rattle.std.proofs.Common.{◌≡◌, ℕ, ◌<◌, Bool, false, cond, List, [], ◌++◌, length, Option, None, Result, Ok, Err, arith, refl, sym, ap, ◌∙◌}
use Rattle.std.specs.Prelude.{MatchResult}
use Rattle.std.proofs.lemmas.Bool.{lt-ltb}
use Rattle.audit_text.specs.declared.line_fault.LineFault.{LineFault}
use Rattle.audit_text.specs.Lines.{has_lf}
use Rattle.audit_text.specs.Token.{cut_of}
use Rattle.audit_text.specs.declared.text_reader.TheConstants.{LONGEST_LINE}
use Rattle.audit_text.specs.Reading.{SoFar, line_after, within, end_within, with_more, read_text, UnlessMemory}
use Rattle.audit_text.specs.Readers.{Stands, StandsFor, Took}
use Rattle.audit_text.proofs.Broken.{IsCut}
use Rattle.audit_text.proofs.Readings.{with_more-line, with_more-refused, with_more-held, so_far-append, refused_with, unended_with, overlong_with}

module _ {T S K : Type 0} (says : T → S → Type 0) (after : S → List ℕ → Result S K) where
  -- a line is taken in
  pub line_taken : (reader next : SoFar T) (before : SoFar S) (rest bytes behind : List ℕ) → Stands says reader before → has_lf reader.rest ≡ false → IsCut rest bytes behind →
      Took says (after before.said (reader.rest ++ bytes)) next.said → next.line ≡ line_after reader.line → next.rest ≡ [] →
      (now : SoFar S) × Stands says next now × (with_more after now behind ≡ with_more after before rest)
  line_taken reader next before rest bytes behind stands unbroken cut took counted emptied =
      let now : SoFar S = record { said = took.0; line = next.line; rest = next.rest } in
      let held : has_lf before.rest ≡ false = ap has_lf (sym stands.rest) ∙ unbroken in
      let read : after before.said (before.rest ++ bytes) ≡ Ok now.said = ap (λ (l : List ℕ). after before.said (l ++ bytes)) (sym stands.rest) ∙ took.1 in
      let number : now.line ≡ line_after before.line = counted ∙ ap line_after stands.line in
      (now, record { said = took.2; line = refl; rest = refl }, sym (with_more-line after before now rest bytes behind held cut read number emptied))

  -- a line is refused
  pub line_refused : (is_memory : K → Bool) (reader : SoFar T) (before : SoFar S) (fault : LineFault K) (rest bytes behind : List ℕ) → Stands says reader before → has_lf reader.rest ≡ false →
      IsCut rest bytes behind → (is_memory fault.kind ≡ false → (fault.line ≡ reader.line) × UnlessMemory is_memory fault.kind (after before.said (reader.rest ++ bytes))) →
      UnlessMemory (λ (f : LineFault K). is_memory f.kind) fault (with_more after before rest)
  line_refused is_memory reader before fault rest bytes behind stands unbroken cut told = λ not_memory.
      let both = told not_memory in
      let held : has_lf before.rest ≡ false = ap has_lf (sym stands.rest) ∙ unbroken in
      with_more-refused after before fault rest bytes behind held cut (both.0 ∙ stands.line) (ap (λ (l : List ℕ). after before.said (l ++ bytes)) (sym stands.rest) ∙ both.1 not_memory)

  -- the rest is held
  pub rest_held : (reader next : SoFar T) (before : SoFar S) (rest : List ℕ) → Stands says reader before → has_lf reader.rest ≡ false → cut_of 10 rest ≡ None →
      next.said ≡ reader.said → next.line ≡ reader.line → next.rest ≡ reader.rest ++ rest → (now : SoFar S) × (with_more after before rest ≡ Ok now) × Stands says next now
  rest_held reader next before rest stands unbroken uncut said line held =
      let now : SoFar S = record { said = before.said; line = before.line; rest = before.rest ++ rest } in
      let none : has_lf before.rest ≡ false = ap has_lf (sym stands.rest) ∙ unbroken in (
        now,
        with_more-held after before now rest none uncut refl refl refl,
        record { said = rw said stands.said; line = line ∙ stands.line; rest = held ∙ ap (λ (l : List ℕ). l ++ rest) stands.rest },
      )

  -- a piece more
  pub stands_with : (start : S) (reader next : SoFar T) (text piece : List ℕ) → (stands : StandsFor says after start reader text) →
      (now : SoFar S) × (with_more after stands.0 piece ≡ Ok now) × Stands says next now → StandsFor says after start next (text ++ piece)
  stands_with start reader next text piece stands more = (more.0, so_far-append after start text piece stands.0 stands.1 ∙ more.1, more.2)

module _ {T S K : Type 0} (says : T → S → Type 0) (overlong : S → K) (after : S → List ℕ → Result S K) (unended : S → List ℕ → K) (lacks : S → Option K) where
  pub piece_refused : (is_fault : LineFault K → Bool) (start : S) (reader : SoFar T) (text piece more : List ℕ) (fault : LineFault K) →
      (stands : StandsFor says (within overlong after) start reader text) →
      UnlessMemory is_fault fault (with_more (within overlong after) stands.0 piece) → UnlessMemory is_fault fault (read_text overlong after unended lacks start ((text ++ piece) ++ more))
  piece_refused is_fault start reader text piece more fault stands told =
      λ not_memory. refused_with overlong after unended lacks start text piece more stands.0 fault stands.1 (told not_memory)

  -- a line that doesn't end
  pub unended_line : (start : S) (reader : SoFar T) (text : List ℕ) (fault : LineFault K) → (stands : StandsFor says (within overlong after) start reader text) → 0 < length reader.rest →
      fault ≡ record { kind = end_within overlong unended stands.0.said reader.rest; line = reader.line } → read_text overlong after unended lacks start text ≡ Err fault
  unended_line start reader text fault stands some is =
      let sofar = stands.0 in
      let long : 0 < length sofar.rest = omega (arith, ap length stands.2.rest) in
      unended_with overlong after unended lacks start text sofar stands.1 long
      ∙ ap (λ (rest : List ℕ). Err (record { kind = end_within overlong unended sofar.said rest; line = sofar.line })) (sym stands.2.rest)
      ∙ ap (λ (n : ℕ). Err (record { kind = end_within overlong unended sofar.said reader.rest; line = n })) (sym stands.2.line)
      ∙ ap (λ (f : LineFault K). Err f) (sym is)

  -- a line that is too long before its LF is there
  pub held_overlong : (start : S) (reader : SoFar T) (text more : List ℕ) (fault : LineFault K) → (stands : StandsFor says (within overlong after) start reader text) → has_lf reader.rest ≡ false →
      LONGEST_LINE < length reader.rest → fault ≡ record { kind = end_within overlong unended stands.0.said reader.rest; line = reader.line } →
      read_text overlong after unended lacks start (text ++ more) ≡ Err fault
  held_overlong start reader text more fault stands unbroken long is =
      let sofar = stands.0 in
      overlong_with overlong after unended lacks start text more sofar stands.1 (ap has_lf (sym stands.2.rest) ∙ unbroken) (omega (arith, long, ap length stands.2.rest))
      ∙ ap (λ (n : ℕ). Err (record { kind = overlong sofar.said; line = n })) (sym stands.2.line)
      ∙ ap (λ (t : Bool). Err (record { kind = cond t (overlong sofar.said) (unended sofar.said reader.rest); line = reader.line })) (sym (lt-ltb LONGEST_LINE (length reader.rest) long))
      ∙ ap (λ (f : LineFault K). Err f) (sym is)

-- what is taken in by something that is what it says
pub taken_as : {S K : Type 0} (is_memory : K → Bool) (result : Result (Unit {0}) K) (read : S → Result S K) (old new before : S) →
    MatchResult result (λ _. read old ≡ Ok new) (λ kind. UnlessMemory is_memory kind (read old)) → old ≡ before →
    MatchResult result (λ _. Took (λ (a b : S). a ≡ b) (read before) new) (λ kind. UnlessMemory is_memory kind (read before))
taken_as is_memory (Ok done) read old new before told same = (new, ap read (sym same) ∙ told, refl)
taken_as is_memory (Err kind) read old new before told same = λ not_memory. ap read (sym same) ∙ told not_memory
