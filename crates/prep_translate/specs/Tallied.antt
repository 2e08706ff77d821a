-- The counts of translations.
use Rattle.std.specs.Prelude.{ℕ, ◌+◌, min, Bool, true, false, not, Option, Some, None, if◌then◌else◌}
use Rattle.prep_translate.specs.declared.tally.Tally.{Tally}
use Rattle.prep_translate.specs.declared.tally.Moved.{Moved}
use Rattle.prep_translate.specs.declared.tally.Ends.{Ends}

abbrev pub no_tally : Tally
no_tally = record { outgoing = 0; incoming = 0; inside = 0; first = None }

-- plus one if the condition is true
abbrev pub one_if : ℕ → Bool → ℕ
one_if count true = min (count + 1) 18446744073709551615
one_if count false = count

abbrev pub first_or : Option Ends → Moved → Option Ends
first_or (Some ends) moved = Some ends
first_or None moved = if moved.is_inside then Some moved.ends else None

abbrev pub tallied : Tally → Option Moved → Tally
tallied tally None = tally
tallied tally (Some moved) = record {
  outgoing = one_if tally.outgoing moved.is_out;
  incoming = one_if tally.incoming (not moved.is_out);
  inside = one_if tally.inside moved.is_inside;
  first = first_or tally.first moved;
}
