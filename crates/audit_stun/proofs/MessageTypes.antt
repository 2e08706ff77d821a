-- The class and the method in a message type.
use Rattle.std.proofs.Common.{◌≡◌, ℕ, zero, suc, ◌+◌, ◌*◌, ◌/◌, ◌%◌, ◌<◌, cond, eqb, lit<, refl, arith}
use Rattle.audit_stun.specs.declared.class.Class.{Class}
use Rattle.audit_stun.specs.declared.class.Class.TheVariants.{Request, Indication, Success, Error}
use Rattle.audit_stun.specs.MessageType.{c1, c0, IsType, class_of, method_of}

abbrev by_bits : ℕ → ℕ → Class
by_bits x y = cond (eqb x 0) (cond (eqb y 0) Request Indication) (cond (eqb y 0) Success Error)

c1-by_bits : (x y : ℕ) → x < 2 → y < 2 → c1 (by_bits x y) ≡ x
c1-by_bits zero zero h k = refl
c1-by_bits zero (suc zero) h k = refl
c1-by_bits (suc zero) zero h k = refl
c1-by_bits (suc zero) (suc zero) h k = refl
c1-by_bits x (suc (suc y)) h k = absurd (omega arith)
c1-by_bits (suc (suc x)) y h k = absurd (omega arith)

c0-by_bits : (x y : ℕ) → x < 2 → y < 2 → c0 (by_bits x y) ≡ y
c0-by_bits zero zero h k = refl
c0-by_bits zero (suc zero) h k = refl
c0-by_bits (suc zero) zero h k = refl
c0-by_bits (suc zero) (suc zero) h k = refl
c0-by_bits x (suc (suc y)) h k = absurd (omega arith)
c0-by_bits (suc (suc x)) y h k = absurd (omega arith)

pub type_of_small : (n : ℕ) → n < 16384 → IsType n (class_of n) (method_of n)
type_of_small n h =
    let one : c1 (class_of n) ≡ n / 256 % 2 = c1-by_bits (n / 256 % 2) (n / 16 % 2) (omega arith) (omega arith) in
    let two : c0 (class_of n) ≡ n / 16 % 2 = c0-by_bits (n / 256 % 2) (n / 16 % 2) (omega arith) (omega arith) in
    record {
      high = n / 512 % 32;
      middle = n / 32 % 8;
      low = n % 16;
      five_bits = omega arith;
      three_bits = omega arith;
      four_bits = omega arith;
      joined = rw (one, two) (omega arith);
      in_order = refl;
    }

-- what a number of fourteen bits is the type of
pub record Reads (n : ℕ) (class : Class) (method : ℕ) : Type 0 where
  pub class_is : class ≡ class_of n
  pub method_is : method ≡ method_of n
  pub small : n < 16384

reads_bits : (n method x y h m l : ℕ) → x < 2 → y < 2 → h < 32 → m < 8 → l < 16 → n ≡ 512 * h + 256 * x + 32 * m + 16 * y + l → method ≡ 128 * h + 16 * m + l → (n / 256 % 2 ≡ x) × (n / 16 % 2 ≡ y) × (method ≡ method_of n) × (n < 16384)
reads_bits n method x y h m l hx hy hh hm hl e k = (omega arith, omega arith, omega arith, omega arith)

pub type_reads : (n : ℕ) (class : Class) (method : ℕ) → IsType n class method → Reads n class method
type_reads n Request method t =
    let b = reads_bits n method 0 0 t.high t.middle t.low (lit< tt) (lit< tt) t.five_bits t.three_bits t.four_bits t.joined t.in_order in
    record { class_is = rw (b.0, b.1) refl; method_is = b.2; small = b.3 }
type_reads n Indication method t =
    let b = reads_bits n method 0 1 t.high t.middle t.low (lit< tt) (lit< tt) t.five_bits t.three_bits t.four_bits t.joined t.in_order in
    record { class_is = rw (b.0, b.1) refl; method_is = b.2; small = b.3 }
type_reads n Success method t =
    let b = reads_bits n method 1 0 t.high t.middle t.low (lit< tt) (lit< tt) t.five_bits t.three_bits t.four_bits t.joined t.in_order in
    record { class_is = rw (b.0, b.1) refl; method_is = b.2; small = b.3 }
type_reads n Error method t =
    let b = reads_bits n method 1 1 t.high t.middle t.low (lit< tt) (lit< tt) t.five_bits t.three_bits t.four_bits t.joined t.in_order in
    record { class_is = rw (b.0, b.1) refl; method_is = b.2; small = b.3 }
