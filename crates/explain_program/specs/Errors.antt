-- The exit statuses of runs that end before their answer.
use Rattle.std.specs.Prelude.{ℕ}
use Rattle.audit_files.specs.Stops.{status_of_stop}
use Rattle.explain_program.specs.declared.run_error.RunError.{RunError}
use Rattle.explain_program.specs.declared.run_error.RunError.TheVariants.{Stopped, NoLane, ReadOnce}

abbrev pub status_of_error : RunError → ℕ
status_of_error (Stopped stop) = status_of_stop stop
status_of_error (NoLane lane lanes) = 5
status_of_error (ReadOnce name) = 2
