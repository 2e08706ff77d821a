-- A chain of steps.
use Rattle.std.specs.Prelude.{◌≡◌, List, [], ◌∷◌}

-- the step of each item begins where the one before it ended
abbrev pub Chain : {S A : Type 0} → (S → A → S → Type 0) → S → List A → S → Type 0
Chain {S} Step old [] new = new ≡ old
Chain {S} Step old (item ∷ items) new = (mid : S) × Step old item mid × Chain Step mid items new
