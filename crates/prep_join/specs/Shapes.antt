-- The state of sections and interfaces, and why blocks are refused.
use Rattle.std.specs.Prelude.{◌≡◌, ◌≢◌, ℕ, Bool, true, false, List, [], ◌∷◌, ◌++◌, length, drop}
use Rattle.std.specs.Option.{option_to_list}
use Rattle.std.specs.List.{list_any}
use Rattle.audit_pcapng.specs.declared.fault.CaptureFault.TheVariants.{Memory}
use Rattle.prep_blocks.specs.declared.block.Block.{Block}
use Rattle.prep_join.specs.declared.shape.Shape.{Shape}
use Rattle.prep_join.specs.declared.fault.JoinFault.{JoinFault}
use Rattle.prep_join.specs.declared.fault.JoinFault.TheVariants as faults
use Rattle.prep_join.specs.Rings.{is_section, is_interface, is_data, interfaces_of, orders_of, first_of, IsUnbounded}

abbrev pub is_nil : List (List Block) → Bool
is_nil [] = true
is_nil (first ∷ others) = false

-- after captures that are done, and blocks of the present one
pub record IsShaped (shape : Shape) (done : List (List Block)) (current : List Block) : Type 0 where
  pub number : shape.is_first ≡ is_nil done
  pub sections : shape.has_section ≡ list_any is_section current
  pub «data» : shape.has_data ≡ list_any is_data current
  pub orders : option_to_list shape.order ≡ orders_of (first_of done current)
  pub interfaces : shape.interfaces.items ≡ interfaces_of (first_of done current)
  pub shown : shape.shown ≡ length (interfaces_of current)
  pub front : shape.interfaces.items ≡ interfaces_of current ++ drop shape.shown shape.interfaces.items

-- the block is in the right place
pub record FitsShape (done : List (List Block)) (current : List Block) (block : Block) : Type 0 where
  pub one : is_section block ≡ true → list_any is_section current ≡ false
  pub unbounded : is_section block ≡ true → IsUnbounded block
  pub order : is_section block ≡ true → done ≢ [] → orders_of (first_of done current) ≡ block.order ∷ []
  pub early : is_interface block ≡ true → list_any is_data current ≡ false

-- why the block is refused
abbrev pub RefusesShape : JoinFault → List (List Block) → List Block → Block → Type 0
RefusesShape (faults.Capture fault) done current block = fault ≡ Memory
RefusesShape faults.TwoSections done current block = (is_section block ≡ true) × (list_any is_section current ≡ true)
RefusesShape faults.SectionLength done current block = (is_section block ≡ true) × (IsUnbounded block → ⊥)
RefusesShape faults.Order done current block = (is_section block ≡ true) × (done ≢ []) × (orders_of (first_of done current) ≢ block.order ∷ [])
RefusesShape faults.LateInterface done current block = (is_interface block ≡ true) × (list_any is_data current ≡ true)
RefusesShape faults.Interfaces done current block = (is_interface block ≡ true) × ((rest : List ℕ) → interfaces_of (first_of done current) ≢ (interfaces_of current ++ block.bytes) ++ rest)
RefusesShape (faults.Early iface) done current block = ⊥
