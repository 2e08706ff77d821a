use Rattle.bench_book.proofs.main.Given as goal

abbrev pub ghosts-measure-E-Ledger : goal.ghosts-measure-E-Ledger
ghosts-measure-E-Ledger g a = record { name = a.blank.name; parts = a.blank.parts }

abbrev pub ghosts-measure-E-Audit : goal.ghosts-measure-E-Audit
ghosts-measure-E-Audit g a = record { inputs = a.job.value }
