-- A text read in pieces is read as a whole.
use Rattle.std.proofs.Common.{◌≡◌, ℕ, Bool, true, false, cond, eqb, ◌||◌, List, [], ◌∷◌, ◌++◌, length, ◌<◌, Option, None, Result, Ok, Err, arith, refl, sym, ap, ◌∙◌, append_assoc, append-nil}
use Rattle.std.specs.Prelude.{MatchResult}
use Rattle.std.proofs.lemmas.Bool.{lt-ltb}
use Rattle.std.proofs.lemmas.List.{length-append}
use Rattle.audit_text.specs.declared.line_fault.LineFault.{LineFault}
use Rattle.audit_text.specs.Lines.{Pieces, pieces, has_lf}
use Rattle.audit_text.specs.Token.{cut_of}
use Rattle.audit_text.specs.declared.text_reader.TheConstants.{LONGEST_LINE}
use Rattle.audit_text.specs.Reading.{SoFar, line_after, at_line, taken_in, so_far, within, end_within, with_more, ended, end_of, read_text, UnlessMemory}
use Rattle.audit_text.proofs.Broken.{IsCut, in_front, with_line, cons_first, pieces-unbroken, pieces-uncut, unbroken-append}

module _ {S K : Type 0} (after : S → List ℕ → Result S K) where
  -- the pieces of a text, read behind what was said so far
  abbrev pub read_on : ℕ → S → Pieces → Result (SoFar S) (LineFault K)
  read_on line said p = taken_in after line said p.first p.more

  abbrev or_else : SoFar S → Result (SoFar S) (LineFault K) → SoFar S
  or_else st (Ok found) = found
  or_else st (Err fault) = st

  -- a text of no bytes behind the front of a line
  nothing_yet : (line : ℕ) (said : S) (front piece : List ℕ) (st : SoFar S) → has_lf front ≡ false → read_on line said (in_front front (pieces [])) ≡ Ok st →
      read_on line said (in_front front (pieces piece)) ≡ with_more after st piece
  nothing_yet line said front piece st unbroken e =
      let now : SoFar S = record { said = said; line = line; rest = front ++ [] } in
      let same : now ≡ st = ap (or_else st) e in
      ap (read_on line said) (sym (pieces-unbroken front piece unbroken))
      ∙ ap (λ (l : List ℕ). read_on line said (pieces (l ++ piece))) (sym (append-nil front))
      ∙ ap (λ (s : SoFar S). with_more after s piece) same

  -- a line taken in, and what follows it
  line_more : (line : ℕ) (taken : Result S K) (text piece : List ℕ) (st : SoFar S) →
      ((next : S) → read_on (line_after line) next (pieces text) ≡ Ok st → read_on (line_after line) next (pieces (text ++ piece)) ≡ with_more after st piece) →
      at_line line taken (λ next. read_on (line_after line) next (pieces text)) ≡ Ok st →
      at_line line taken (λ next. read_on (line_after line) next (pieces (text ++ piece))) ≡ with_more after st piece
  line_more line (Ok next) text piece st below e = below next e
  line_more line (Err kind) text piece st below e = absurd (cc)

  pub more_behind : (line : ℕ) (said : S) (front text piece : List ℕ) (st : SoFar S) → has_lf front ≡ false →
      read_on line said (in_front front (pieces text)) ≡ Ok st → read_on line said (in_front front (pieces (text ++ piece))) ≡ with_more after st piece
  more_behind line said front [] piece st unbroken e = nothing_yet line said front piece st unbroken e
  more_behind line said front (b ∷ bs) piece st unbroken e =
      elim (eqb b 10) as (λ t. eqb b 10 ≡ t → read_on line said (in_front front (cond {A = Pieces} t (with_line [] (pieces bs)) (cons_first b (pieces bs)))) ≡ Ok st →
      read_on line said (in_front front (cond {A = Pieces} t (with_line [] (pieces (bs ++ piece))) (cons_first b (pieces (bs ++ piece))))) ≡ with_more after st piece) [
        | true ↦ λ q k. line_more line (after said (front ++ [])) bs piece st (λ next. more_behind (line_after line) next [] bs piece st refl) k
        | false ↦ λ q k.
            let one : has_lf (b ∷ []) ≡ false = ap (λ t. t || false) q in
            let moved : (p : Pieces) → in_front front (cons_first b p) ≡ in_front (front ++ b ∷ []) p = λ p. ap (λ (l : List ℕ). record { first = l; more = p.more }) (sym (append_assoc front (b ∷ []) p.first)) in
            ap (read_on line said) (moved (pieces (bs ++ piece)))
            ∙ more_behind line said (front ++ b ∷ []) bs piece st (unbroken-append front (b ∷ []) unbroken one) (ap (read_on line said) (sym (moved (pieces bs))) ∙ k)
      ] refl e

  -- a text so far, with a piece more
  pub so_far-append : (start : S) (text piece : List ℕ) (st : SoFar S) → so_far after start text ≡ Ok st → so_far after start (text ++ piece) ≡ with_more after st piece
  so_far-append start text piece st e = more_behind 1 start [] text piece st refl e

  -- a line refused, and what follows it
  refused_more : (line : ℕ) (taken : Result S K) (text more : List ℕ) (fault : LineFault K) →
      ((next : S) → read_on (line_after line) next (pieces text) ≡ Err fault → read_on (line_after line) next (pieces (text ++ more)) ≡ Err fault) →
      at_line line taken (λ next. read_on (line_after line) next (pieces text)) ≡ Err fault →
      at_line line taken (λ next. read_on (line_after line) next (pieces (text ++ more))) ≡ Err fault
  refused_more line (Ok next) text more fault below e = below next e
  refused_more line (Err kind) text more fault below e = e

  refused_behind : (line : ℕ) (said : S) (front text more : List ℕ) (fault : LineFault K) →
      read_on line said (in_front front (pieces text)) ≡ Err fault → read_on line said (in_front front (pieces (text ++ more))) ≡ Err fault
  refused_behind line said front [] more fault e = absurd (cc)
  refused_behind line said front (b ∷ bs) more fault e =
      elim (eqb b 10) as (λ t. eqb b 10 ≡ t → read_on line said (in_front front (cond {A = Pieces} t (with_line [] (pieces bs)) (cons_first b (pieces bs)))) ≡ Err fault →
      read_on line said (in_front front (cond {A = Pieces} t (with_line [] (pieces (bs ++ more))) (cons_first b (pieces (bs ++ more))))) ≡ Err fault) [
        | true ↦ λ q k. refused_more line (after said (front ++ [])) bs more fault (λ next. refused_behind (line_after line) next [] bs more fault) k
        | false ↦ λ q k.
            let moved : (p : Pieces) → in_front front (cons_first b p) ≡ in_front (front ++ b ∷ []) p = λ p. ap (λ (l : List ℕ). record { first = l; more = p.more }) (sym (append_assoc front (b ∷ []) p.first)) in
            ap (read_on line said) (moved (pieces (bs ++ more)))
            ∙ refused_behind line said (front ++ b ∷ []) bs more fault (ap (read_on line said) (sym (moved (pieces bs))) ∙ k)
      ] refl e

  -- a text that is refused so far, with more behind it
  pub still_refused : (start : S) (text more : List ℕ) (fault : LineFault K) → so_far after start text ≡ Err fault → so_far after start (text ++ more) ≡ Err fault
  still_refused start text more fault e = refused_behind 1 start [] text more fault e

  first_line : (line : ℕ) (said : S) (held rest bytes behind : List ℕ) → has_lf held ≡ false → IsCut rest bytes behind →
      read_on line said (pieces (held ++ rest)) ≡ at_line line (after said (held ++ bytes)) (λ next. read_on (line_after line) next (pieces behind))
  first_line line said held rest bytes behind unbroken cut =
      ap (read_on line said) (pieces-unbroken held rest unbroken ∙ ap (in_front held) cut.pieces-is)

  -- the first line of what is left is taken in
  pub with_more-line : (st next : SoFar S) (rest bytes behind : List ℕ) → has_lf st.rest ≡ false → IsCut rest bytes behind →
      after st.said (st.rest ++ bytes) ≡ Ok next.said → next.line ≡ line_after st.line → next.rest ≡ [] → with_more after st rest ≡ with_more after next behind
  with_more-line st next rest bytes behind unbroken cut taken counted emptied =
      first_line st.line st.said st.rest rest bytes behind unbroken cut
      ∙ ap (λ r. at_line st.line r (λ s. read_on (line_after st.line) s (pieces behind))) taken
      ∙ ap (λ (n : ℕ). read_on n next.said (pieces behind)) (sym counted)
      ∙ ap (λ (held : List ℕ). read_on next.line next.said (pieces (held ++ behind))) (sym emptied)

  -- it is refused
  pub with_more-refused : (st : SoFar S) (fault : LineFault K) (rest bytes behind : List ℕ) → has_lf st.rest ≡ false → IsCut rest bytes behind →
      fault.line ≡ st.line → after st.said (st.rest ++ bytes) ≡ Err fault.kind → with_more after st rest ≡ Err fault
  with_more-refused st fault rest bytes behind unbroken cut numbered refused =
      first_line st.line st.said st.rest rest bytes behind unbroken cut
      ∙ ap (λ r. at_line st.line r (λ s. read_on (line_after st.line) s (pieces behind))) refused
      ∙ ap (λ (n : ℕ). Err (record { kind = fault.kind; line = n })) (sym numbered)

  -- there is no line more
  pub with_more-held : (st next : SoFar S) (rest : List ℕ) → has_lf st.rest ≡ false → cut_of 10 rest ≡ None →
      next.said ≡ st.said → next.line ≡ st.line → next.rest ≡ st.rest ++ rest → with_more after st rest ≡ Ok next
  with_more-held st next rest unbroken uncut said line held =
      ap (read_on st.line st.said) (pieces-unbroken st.rest rest unbroken ∙ ap (in_front st.rest) (pieces-uncut rest uncut))
      ∙ ap (λ (l : List ℕ). Ok (record { said = st.said; line = st.line; rest = l })) (sym held)
      ∙ ap (λ (n : ℕ). Ok (record { said = st.said; line = n; rest = next.rest })) (sym line)
      ∙ ap (λ (s : S). Ok (record { said = s; line = next.line; rest = next.rest })) (sym said)

module _ {S K : Type 0} (overlong : S → K) (after : S → List ℕ → Result S K) (unended : S → List ℕ → K) (lacks : S → Option K) where
  -- a text with a piece that is refused, whatever follows
  pub refused_with : (start : S) (text piece more : List ℕ) (st : SoFar S) (fault : LineFault K) → so_far (within overlong after) start text ≡ Ok st →
      with_more (within overlong after) st piece ≡ Err fault → read_text overlong after unended lacks start ((text ++ piece) ++ more) ≡ Err fault
  refused_with start text piece more st fault e refused =
      ap (end_of (end_within overlong unended) lacks)
      (still_refused (within overlong after) start (text ++ piece) more fault (so_far-append (within overlong after) start text piece st e ∙ refused))

  abbrev last_fault : SoFar S → Result S (LineFault K)
  last_fault st = Err (record { kind = end_within overlong unended st.said st.rest; line = st.line })

  unended_is : (line : ℕ) (said : S) (rest : List ℕ) → 0 < length rest →
      ended (end_within overlong unended) lacks line said rest ≡ Err (record { kind = end_within overlong unended said rest; line = line })
  unended_is line said [] some = absurd (omega arith)
  unended_is line said (b ∷ bs) some = refl

  -- a text that ends behind no LF
  pub unended_with : (start : S) (text : List ℕ) (st : SoFar S) → so_far (within overlong after) start text ≡ Ok st → 0 < length st.rest → read_text overlong after unended lacks start text ≡ last_fault st
  unended_with start text st e some = ap (end_of (end_within overlong unended) lacks) e ∙ unended_is st.line st.said st.rest some

  -- a line that is too long is refused so, wherever its LF is
  overlong_line : (line : ℕ) (said : S) (first : List ℕ) (more : List (List ℕ)) → LONGEST_LINE < length first →
      end_of (end_within overlong unended) lacks (taken_in (within overlong after) line said first more) ≡ Err (record { kind = overlong said; line = line })
  overlong_line line said first [] long =
      unended_is line said first (omega (arith, long))
      ∙ ap (λ (t : Bool). Err (record { kind = cond t (overlong said) (unended said first); line = line })) (lt-ltb LONGEST_LINE (length first) long)
  overlong_line line said first (next ∷ more) long =
      ap (λ (t : Bool). end_of (end_within overlong unended) lacks (at_line line (cond t (Err (overlong said)) (after said first)) (λ s. taken_in (within overlong after) (line_after line) s next more)))
      (lt-ltb LONGEST_LINE (length first) long)

  pub overlong_with : (start : S) (text more : List ℕ) (st : SoFar S) → so_far (within overlong after) start text ≡ Ok st → has_lf st.rest ≡ false → LONGEST_LINE < length st.rest →
      read_text overlong after unended lacks start (text ++ more) ≡ Err (record { kind = overlong st.said; line = st.line })
  overlong_with start text more st e unbroken long =
      ap (end_of (end_within overlong unended) lacks) (so_far-append (within overlong after) start text more st e)
      ∙ ap (λ (p : Pieces). end_of (end_within overlong unended) lacks (read_on (within overlong after) st.line st.said p)) (pieces-unbroken st.rest more unbroken)
      ∙ overlong_line st.line st.said (st.rest ++ (pieces more).first) (pieces more).more (omega (arith, long, length-append st.rest (pieces more).first))

-- what equals a reading is told as it
pub told_as_read : {A K : Type 0} (is_memory : K → Bool) (result read : Result A K) → result ≡ read →
    MatchResult result (λ x. read ≡ Ok x) (λ fault. UnlessMemory is_memory fault read)
told_as_read is_memory (Ok x) read e = sym e
told_as_read is_memory (Err fault) read e = λ _. sym e
