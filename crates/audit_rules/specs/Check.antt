-- The checks of an act in their order: the condition of each, and the rule that is reported if it
-- fails.
use Rattle.std.specs.Prelude.{◌≡◌, ◌⊎◌, List, [], ◌∷◌}
use Rattle.audit_model.specs.declared.rule.Rule.{Rule}

pub record Check : Type 1 where
  pub holds : Type 0
  pub rule : Rule

-- a check of this condition, by this rule
abbrev pub check_by : Type 0 → Rule → Check
check_by holds rule = record { holds = holds; rule = rule }

abbrev pub AllHold : List Check → Type 0
AllHold [] = Unit {0}
AllHold (check ∷ checks) = check.holds × AllHold checks

-- the first check that fails is of this rule
abbrev pub FirstFails : List Check → Rule → Type 0
FirstFails [] rule = ⊥
FirstFails (check ∷ checks) rule = ((rule ≡ check.rule) × (check.holds → ⊥)) ⊎ (check.holds × FirstFails checks rule)
