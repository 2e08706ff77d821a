-- What each line keeps, a text keeps.
use Rattle.std.proofs.Common.{ℕ, Bool, true, false, cond, ltb, length, List, [], ◌∷◌, Option, Some, None, Result, Ok, Err}
use Rattle.audit_text.specs.declared.line_fault.LineFault.{LineFault}
use Rattle.audit_text.specs.Lines.{pieces}
use Rattle.audit_text.specs.Reading.{SoFar, line_after, at_line, taken_in, complete, ended, end_of, within, end_within, read_text}
use Rattle.audit_text.specs.declared.text_reader.TheConstants.{LONGEST_LINE}

module _ {S K : Type 0} (overlong : S → K) (after : S → List ℕ → Result S K) (unended : S → List ℕ → K) (lacks : S → Option K) (Keeps : S → Type 0) where
  -- where something is read, it keeps that
  abbrev pub IfRead : {E : Type 0} → Result S E → Type 0
  IfRead (Ok said) = Keeps said
  IfRead (Err e) = Unit {0}

  abbrev IfSoFar : {E : Type 0} → Result (SoFar S) E → Type 0
  IfSoFar (Ok sofar) = Keeps sofar.said
  IfSoFar (Err e) = Unit {0}

  module _ (kept : (said : S) (line : List ℕ) → Keeps said → IfRead (after said line)) where
    within_kept : (said : S) (line : List ℕ) (t : Bool) → Keeps said → IfRead (cond t (Err (overlong said)) (after said line))
    within_kept said line true keeps = tt
    within_kept said line false keeps = kept said line keeps

    next_kept : (line : ℕ) (taken : Result S K) (then : S → Result (SoFar S) (LineFault K)) → IfRead taken → ((next : S) → Keeps next → IfSoFar (then next)) → IfSoFar (at_line line taken then)
    next_kept line (Ok next) then keeps more = more next keeps
    next_kept line (Err kind) then keeps more = tt

    lines_kept : (line : ℕ) (said : S) (piece : List ℕ) (more : List (List ℕ)) → Keeps said → IfSoFar (taken_in (within overlong after) line said piece more)
    lines_kept line said piece [] keeps = keeps
    lines_kept line said piece (next ∷ more) keeps =
        next_kept line (within overlong after said piece) (λ s. taken_in (within overlong after) (line_after line) s next more) (within_kept said piece (ltb LONGEST_LINE (length piece)) keeps) (λ s still. lines_kept (line_after line) s next more still)

    complete_kept : (line : ℕ) (said : S) (lacking : Option K) → Keeps said → IfRead (complete line said lacking)
    complete_kept line said None keeps = keeps
    complete_kept line said (Some kind) keeps = tt

    ended_kept : (line : ℕ) (said : S) (rest : List ℕ) → Keeps said → IfRead (ended (end_within overlong unended) lacks line said rest)
    ended_kept line said [] keeps = complete_kept line said (lacks said) keeps
    ended_kept line said (b ∷ bs) keeps = tt

    end_kept : (read : Result (SoFar S) (LineFault K)) → IfSoFar read → IfRead (end_of (end_within overlong unended) lacks read)
    end_kept (Ok sofar) keeps = ended_kept sofar.line sofar.said sofar.rest keeps
    end_kept (Err fault) keeps = tt

    pub read_keeps : (start : S) (text : List ℕ) → Keeps start → IfRead (read_text overlong after unended lacks start text)
    read_keeps start text keeps = end_kept (taken_in (within overlong after) 1 start (pieces text).first (pieces text).more) (lines_kept 1 start (pieces text).first (pieces text).more keeps)
