-- The words of a text.
use Rattle.std.specs.Prelude.{ℕ, ◌&&◌, ◌==◌, if◌then◌else◌, List, [], ◌∷◌, length, nat_lt, nat_le, Option, Some, None, Result, Ok, Err, option_map, ok_or}
use Rattle.std.specs.Borrow.{Bor}
use Rattle.std.specs.List.{list_all}
use Rattle.std.specs.Char.{is_ascii_digit}
use Rattle.std.specs.Str.Parse.{digits_value}
use Rattle.audit_text.specs.declared.token.TokenFault.{TokenFault}
use Rattle.audit_text.specs.declared.token.TokenFault.TheVariants.{Shape, Number}

-- the contents of two borrowed slices
abbrev pub now_both : Bor (List ℕ) × Bor (List ℕ) → List ℕ × List ℕ
now_both p = (p.0.now, p.1.now)

-- the bytes before the first separator, and those after it
abbrev pub cut_of : ℕ → List ℕ → Option (List ℕ × List ℕ)
cut_of separator [] = None
cut_of separator (b ∷ bs) = if b == separator then Some ([], bs) else option_map (λ p. (b ∷ p.0, p.1)) (cut_of separator bs)

-- the bytes before and after the separator, in a word that must have it
abbrev pub halves_of : ℕ → List ℕ → Result (List ℕ × List ℕ) TokenFault
halves_of separator bytes = ok_or (cut_of separator bytes) Shape

-- the value, if it is at most `most`
abbrev pub up_to : ℕ → ℕ → Result ℕ TokenFault
up_to most value = if nat_le value most then Ok value else Err Number

-- the number that a word of digits spells: no sign, no leading zero, at most `most`
abbrev pub number_of : ℕ → List ℕ → Result ℕ TokenFault
number_of most [] = Err Shape
number_of most (b ∷ bs) = if list_all is_ascii_digit (b ∷ bs) then (if (b == 48) && nat_lt 0 (length bs) then Err Number else up_to most (digits_value 10 (b ∷ bs))) else Err Shape

-- both words, or the fault that is reported first
abbrev pub both_of : {A B : Type 0} → Result A TokenFault → Result B TokenFault → Result (A × B) TokenFault
both_of (Ok a) (Ok b) = Ok (a, b)
both_of (Ok a) (Err e) = Err e
both_of (Err e) (Ok b) = Err e
both_of (Err Shape) (Err e) = Err Shape
both_of (Err Number) (Err e) = Err e

-- a result is passed on, and a fault ends the reading
infixl 10 ◌>>=◌
abbrev pub ◌>>=◌ : {A B E : Type 0} → Result A E → (A → Result B E) → Result B E
(Ok x) >>= f = f x
(Err e) >>= f = Err e
