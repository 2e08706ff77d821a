use Rattle.std.proofs.Common.{◌<◌, vec_len}
use Rattle.bench_feeding.proofs.frames_by_threads.Given as goal

abbrev pub invariant-pieces : goal.invariant-pieces
invariant-pieces g l = l.file < vec_len l.intake.files
