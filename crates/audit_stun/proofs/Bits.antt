-- The bits of a message type as numbers.
use Rattle.std.proofs.Common.{◌≡◌, ℕ, ◌+◌, ◌*◌, ◌/◌, ◌%◌, ◌^◌, ◌<◌, bit_and, bit_or, ◌∙◌, arith}
use Rattle.std.proofs.lemmas.Nat.{and_mask, or_shifted}

pub low_bit : (n : ℕ) → bit_and n 1 ≡ n % 2
low_bit n = and_mask n 1

joined_three : (a m l : ℕ) → a < 32 → m < 8 → l < 16 → bit_or (bit_or (a * 128 % 65536) (m * 16 % 65536)) l ≡ 128 * a + 16 * m + l
joined_three a m l ha hm hl =
    let first : a * 128 % 65536 ≡ a * 2 ^ 7 = omega arith in
    let second : m * 16 % 65536 ≡ m * 16 = omega arith in
    let small : m * 16 < 2 ^ 7 = omega arith in
    let both : bit_or (a * 2 ^ 7) (m * 16) ≡ (a * 8 + m) * 2 ^ 4 = or_shifted a 7 (m * 16) small ∙ omega arith in
    let all : bit_or ((a * 8 + m) * 2 ^ 4) l ≡ 128 * a + 16 * m + l = or_shifted (a * 8 + m) 4 l hl ∙ omega arith in
    rw (first, second, both) all

pub joined_bits : (n : ℕ) → bit_or (bit_or (bit_and (n / 512) 31 * 128 % 65536) (bit_and (n / 32) 7 * 16 % 65536)) (bit_and n 15) ≡ 128 * (n / 512 % 32) + 16 * (n / 32 % 8) + n % 16
joined_bits n =
    rw (and_mask (n / 512) 5, and_mask (n / 32) 3, and_mask n 4) (joined_three (n / 512 % 32) (n / 32 % 8) (n % 16) (omega arith) (omega arith) (omega arith))
