-- A list of options as it is spelled (section 3.5).
use Rattle.std.specs.Prelude.{◌≡◌, ◌≢◌, ℕ, ◌+◌, ◌≤◌, List, [], ◌∷◌, ◌++◌, length}
use Rattle.std.specs.Int.{w16}
use Rattle.audit_pcapng.specs.declared.byte_order.ByteOrder.{ByteOrder}
use Rattle.audit_pcapng.specs.Numbers.{number_at, padded}

-- a code that is not 0, the length of the value, the value, and its padding to a multiple of 4
pub record IsOption (order : ByteOrder) (text : List ℕ) (option : ℕ × List ℕ) : Type 0 where
  pub head : List ℕ
  pub padding : List ℕ
  pub spelled : text ≡ head ++ (option.1 ++ padding)
  pub four : length head ≡ 4
  pub code : number_at order w16 0 head ≡ option.0
  pub size : number_at order w16 2 head ≡ length option.1
  pub pads : length option.1 + length padding ≡ padded (length option.1)
  pub some : option.0 ≢ 0

-- the list ends with the block, or with code 0, whatever comes after it
abbrev pub IsEnd : ByteOrder → List ℕ → Type 0
IsEnd order [] = Unit {0}
IsEnd order (byte ∷ bytes) = (4 ≤ length (byte ∷ bytes)) × (number_at order w16 0 (byte ∷ bytes) ≡ 0)

-- consecutive options, and the end
abbrev pub AreOptions : ByteOrder → List ℕ → List (ℕ × List ℕ) → Type 0
AreOptions order list [] = IsEnd order list
AreOptions order list (option ∷ others) = (text : List ℕ) × (rest : List ℕ) × (list ≡ text ++ rest) × IsOption order text option × AreOptions order rest others
