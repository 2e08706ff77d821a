-- The exit statuses of runs that end early.
use Rattle.std.specs.Prelude.{ℕ}
use Rattle.prep_program.specs.declared.stop.Stop.{Stop}
use Rattle.prep_program.specs.declared.stop.Stop.TheVariants.{Conf, Text, ReadOnce, Capture, Cut, Missing, Policy, Renaming, Translate, Reassemble, Users, SameName, Guess, Restarted, Words, Memory, Read, Changed, Write, Exists}

abbrev pub status_of_stop : Stop → ℕ
status_of_stop (Conf fault) = 2
status_of_stop (Text fault) = 2
status_of_stop (ReadOnce name) = 2
status_of_stop (Capture refused) = 2
status_of_stop (Cut refused) = 2
status_of_stop (Missing gap) = 2
status_of_stop (Policy fault) = 2
status_of_stop (Renaming fault) = 2
status_of_stop (Translate refused) = 2
status_of_stop (Reassemble refused) = 2
status_of_stop (Users fault) = 2
status_of_stop (SameName capture) = 2
status_of_stop (Guess fault) = 2
status_of_stop (Restarted restart) = 2
status_of_stop (Words text) = 5
status_of_stop Memory = 3
status_of_stop Read = 4
status_of_stop (Changed capture) = 4
status_of_stop Write = 4
status_of_stop Exists = 4
