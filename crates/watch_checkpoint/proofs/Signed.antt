-- The last line of a signed text.
use Rattle.std.proofs.Common.{◌≡◌, ℕ, ◌+◌, ◌-◌, ◌*◌, ◌≤◌, List, length, take, drop, codes, ap, ◌∙◌, arith}
use Rattle.std.proofs.lemmas.List.{length-append, take_at, drop_at}
use Rattle.hex.specs.Hex.{encode_lower, lower_digits}
use Rattle.hex.proofs.HexLemmas.{length-encode_with}
use Rattle.sha2.specs.Sha256.{sha256}
use Rattle.sha2.proofs.Facts256.{length-sha256}
use Rattle.watch_checkpoint.specs.Spelling.{digest_line, signed}

pub length-last : (text : List ℕ) → length (digest_line text) ≡ 72
length-last text =
    let hex : length (encode_lower (sha256 text)) ≡ 64 = length-encode_with lower_digits (sha256 text) ∙ ap (λ (n : ℕ). 2 * n) (length-sha256 text) in
    omega (arith, hex, length-append (encode_lower (sha256 text)) (codes "\n"))

-- a signed text's parts
pub record IsSigned (bytes body : List ℕ) : Type 0 where
  pub long : 72 ≤ length bytes
  pub front : take (length bytes - 72) bytes ≡ body
  pub last : drop (length bytes - 72) bytes ≡ digest_line body

pub signed_parts : (bytes body : List ℕ) → bytes ≡ signed body → IsSigned bytes body
signed_parts bytes body e =
    let len : length bytes ≡ length body + 72 = ap length e ∙ length-append body (digest_line body) ∙ ap (λ (n : ℕ). length body + n) (length-last body) in
    let start : length body ≡ length bytes - 72 = omega (arith, len) in
    record {
      long = omega (arith, len);
      front = ap (take (length bytes - 72)) e ∙ take_at body (digest_line body) (length bytes - 72) start;
      last = ap (drop (length bytes - 72)) e ∙ drop_at body (digest_line body) (length bytes - 72) start;
    }
