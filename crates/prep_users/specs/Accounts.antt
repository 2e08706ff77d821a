-- Users as lines of a credentials text.
use Rattle.std.specs.Prelude.{ℕ, Bool, not, List, [], ◌∷◌, ◌++◌, length, nat_le, ◌==◌, ◌&&◌}
use Rattle.std.specs.List.{list_all}
use Rattle.prep_users.specs.declared.account.Account.{Account}

abbrev pub account_at : List ℕ → List ℕ → List ℕ → Account
account_at user realm password = record { user = user; realm = realm; password = password }

abbrev pub is_printable : ℕ → Bool
is_printable b = nat_le 0x20 b && nat_le b 0x7E

-- printable ASCII, and no more than a credentials text may have
abbrev pub is_password : List ℕ → Bool
is_password bytes = nat_le (length bytes) 508 && list_all is_printable bytes

abbrev pub is_field : List ℕ → Bool
is_field bytes = not (length bytes == 0) && is_password bytes

-- user, TAB, realm, TAB, password
abbrev pub line_of : Account → List ℕ
line_of account = account.user ++ 9 ∷ [] ++ account.realm ++ 9 ∷ [] ++ account.password ++ 10 ∷ []
