-- The lines of a configuration, as coturn 4.6 reads them.
use Rattle.std.specs.Prelude.{ℕ, ◌+◌, ◌-◌, Bool, not, ◌==◌, ◌||◌, if◌then◌else◌, List, [], ◌∷◌, Option, Some, None, length, take, drop, codes}
use Rattle.std.specs.List.{prefix_len, suffix_len}
use Rattle.std.specs.Str.{bytes_eq, str_eq_ignore_ascii_case}
use Rattle.audit_text.specs.Lines.{pieces}
use Rattle.prep_coturn.specs.declared.class.Class.{Class}
use Rattle.prep_coturn.specs.declared.class.Class.TheVariants.{Blank, Separator, Name, Return}
use Rattle.prep_coturn.specs.declared.rows.Row.{Row}

abbrev pub is_of : Class → ℕ → Bool
is_of Blank b = (b == 32) || (b == 9)
is_of Separator b = (b == 32) || (b == 9) || (b == 61)
is_of Name b = not ((b == 32) || (b == 9) || (b == 61))
is_of Return b = b == 13

-- a text without the bytes of a kind at its start, and at its end
abbrev pub without_front : Class → List ℕ → List ℕ
without_front class text = drop (prefix_len (is_of class) text) text

abbrev pub without_end : Class → List ℕ → List ℕ
without_end class text = take (length text - suffix_len (is_of class) text) text

-- a text without a quote at its end, and a value without one at its start and then at its end
abbrev pub without_last_quote : List ℕ → List ℕ
without_last_quote text = if bytes_eq (drop (length text - 1) text) (codes "\"") then take (length text - 1) text else text

abbrev pub unquoted_of : List ℕ → List ℕ
unquoted_of text = if bytes_eq (take 1 text) (codes "\"") then without_last_quote (drop 1 text) else text

-- each value switches something on, except these
abbrev pub is_on : List ℕ → Bool
is_on value =
    not (bytes_eq value (codes "0") || str_eq_ignore_ascii_case value (codes "off") || str_eq_ignore_ascii_case value (codes "no")
    || str_eq_ignore_ascii_case value (codes "false") || str_eq_ignore_ascii_case value (codes "f"))

-- The name and the value of a line's setting.
pub record Setting : Type 0 where
  pub line : ℕ
  pub name : List ℕ
  pub value : List ℕ

abbrev pub now_of : Row → Setting
now_of row = record { line = row.line; name = row.name.now; value = row.value.now }

-- an empty line or a comment has no setting; the value follows the name, without the separators
abbrev pub setting_of : ℕ → List ℕ → Option Setting
setting_of line [] = None
setting_of line (b ∷ bs) = if b == 35 then None else Some (record {
  line = line;
  name = take (prefix_len (is_of Name) (b ∷ bs)) (b ∷ bs);
  value = unquoted_of (without_end Blank (without_front Separator (without_front Name (b ∷ bs))));
})

-- blanks at the start of a line and carriage returns at its end are ignored
abbrev pub line_of : ℕ → List ℕ → Option Setting
line_of line text = setting_of line (without_end Return (without_front Blank text))

abbrev pub with_more : Option Setting → List Setting → List Setting
with_more None more = more
with_more (Some one) more = one ∷ more

-- the settings of each line in turn, counted from a number
abbrev pub settings_from : ℕ → List (List ℕ) → List Setting
settings_from line [] = []
settings_from line (text ∷ texts) = with_more (line_of line text) (settings_from (line + 1) texts)

-- the lines of a text, each ended by an LF
abbrev pub lines_in : List ℕ → List (List ℕ)
lines_in text = (pieces text).first ∷ (pieces text).more

-- the settings of a text, line by line
abbrev pub settings_of : List ℕ → List Setting
settings_of text = settings_from 1 (lines_in text)
