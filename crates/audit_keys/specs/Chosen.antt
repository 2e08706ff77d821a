-- Which of the keys a request chooses by its PASSWORD-ALGORITHM (RFC 8489, sections 9.2.4, 14.12
-- and 18.5).
use Rattle.std.specs.Prelude.{ℕ, ◌==◌, if◌then◌else◌, List, [], ◌∷◌, Option, Some, None}
use Rattle.std.specs.Int.{w16, from_be_bytes}
use Rattle.audit_stun.specs.declared.numbers.attribute.TheConstants.{PASSWORD_ALGORITHM}
use Rattle.audit_stun.specs.Attribute.{Attribute}
use Rattle.audit_stun.specs.Counted.{first_of}
use Rattle.audit_keys.specs.declared.keys.Keys.{Keys}

-- The number of the algorithm in a value of four bytes, of which the last two are not checked.
-- Another value counts as absent, and if there is none the algorithm is MD5.
unfoldable pub algorithm_in : Option (List ℕ) → ℕ
algorithm_in (Some (a ∷ b ∷ c ∷ d ∷ [])) = from_be_bytes w16 (a ∷ b ∷ [])
algorithm_in _ = 1

-- 1 is MD5 and 2 is SHA-256. Under another algorithm nobody has a key.
abbrev pub key_by : ℕ → Keys → Option (List ℕ)
key_by algorithm keys = if algorithm == 1 then Some keys.md5 else (if algorithm == 2 then Some keys.sha256 else None)

-- of a user's keys the one that a request with these attributes chooses
unfoldable pub chosen_key : List Attribute → Keys → Option (List ℕ)
chosen_key attributes keys = key_by (algorithm_in (first_of PASSWORD_ALGORITHM attributes)) keys
