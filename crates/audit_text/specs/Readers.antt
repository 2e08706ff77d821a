-- The text that a reader has read.
use Rattle.std.specs.Prelude.{◌≡◌, ℕ, List, Result, Ok}
use Rattle.audit_text.specs.Reading.{SoFar, so_far}

-- the content of the lines and the code's content agree, and so do the number and the bytes of the
-- line that has not ended yet
pub record Stands {T S : Type 0} (says : T → S → Type 0) (reader : SoFar T) (sofar : SoFar S) : Type 0 where
  pub said : says reader.said sofar.said
  pub line : reader.line ≡ sofar.line
  pub rest : reader.rest ≡ sofar.rest

-- the reader was fed this text, which has no fault so far
abbrev pub StandsFor : {T S K : Type 0} → (T → S → Type 0) → (S → List ℕ → Result S K) → S → SoFar T → List ℕ → Type 0
StandsFor says after start reader text = (sofar : SoFar _) × (so_far after start text ≡ Ok sofar) × Stands says reader sofar

-- there is content, and the code's content is that
abbrev pub Took : {T S K : Type 0} → (T → S → Type 0) → Result S K → T → Type 0
Took says read lines = (said : _) × (read ≡ Ok said) × says lines said
