-- The type of a message (RFC 8489, section 5 and figure 3): from the highest bit down M11 to M7,
-- C1, M6 to M4, C0, M3 to M0, where M11 to M0 are the method and C1, C0 the class.
use Rattle.std.specs.Prelude.{◌≡◌, ℕ, ◌+◌, ◌*◌, ◌/◌, ◌%◌, ◌<◌, ◌==◌, if◌then◌else◌}
use Rattle.audit_stun.specs.declared.class.Class.{Class}
use Rattle.audit_stun.specs.declared.class.Class.TheVariants.{Request, Indication, Success, Error}

abbrev pub c1 : Class → ℕ
c1 Request = 0
c1 Indication = 0
c1 Success = 1
c1 Error = 1

abbrev pub c0 : Class → ℕ
c0 Request = 0
c0 Indication = 1
c0 Success = 0
c0 Error = 1

pub record IsType (number : ℕ) (class : Class) (method : ℕ) : Type 0 where
  pub high : ℕ
  pub middle : ℕ
  pub low : ℕ
  pub five_bits : high < 32
  pub three_bits : middle < 8
  pub four_bits : low < 16
  pub joined : number ≡ 512 * high + 256 * c1 class + 32 * middle + 16 * c0 class + low
  pub in_order : method ≡ 128 * high + 16 * middle + low

-- the class and the method in a number
abbrev pub class_of : ℕ → Class
class_of number = if number / 256 % 2 == 0 then (if number / 16 % 2 == 0 then Request else Indication) else (if number / 16 % 2 == 0 then Success else Error)

abbrev pub method_of : ℕ → ℕ
method_of number = 128 * (number / 512 % 32) + 16 * (number / 32 % 8) + number % 16
