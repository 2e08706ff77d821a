-- An error code (RFC 8489, section 14.8).
use Rattle.std.specs.Prelude.{◌≡◌, ℕ, ◌+◌, ◌*◌, ◌%◌, ◌≤◌, ◌&&◌, nat_le, if◌then◌else◌, List, ◌∷◌, Option, Some, None}

-- 21 reserved bits, the class in three bits, the number, and a reason. The code is the class and
-- two digits.
pub record IsErrorCode (value : List ℕ) (code : ℕ) : Type 0 where
  pub first : ℕ
  pub second : ℕ
  pub spare : ℕ
  pub class : ℕ
  pub number : ℕ
  pub reason : List ℕ
  pub spelled : value ≡ first ∷ second ∷ (8 * spare + class) ∷ number ∷ reason
  pub three : 3 ≤ class
  pub six : class ≤ 6
  pub two_digits : number ≤ 99
  pub joined : code ≡ 100 * class + number

-- the code in a value, or none
unfoldable pub error_code_of : List ℕ → Option ℕ
error_code_of (first ∷ second ∷ class ∷ number ∷ reason) =
    if nat_le 3 (class % 8) && nat_le (class % 8) 6 && nat_le number 99 then Some (100 * (class % 8) + number) else None
error_code_of _ = None
