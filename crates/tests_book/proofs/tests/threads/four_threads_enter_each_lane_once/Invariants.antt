use Rattle.tests_book.proofs.tests.threads.four_threads_enter_each_lane_once.Given as goal

abbrev pub ghosts-fill-E-Ledger : goal.ghosts-fill-E-Ledger
ghosts-fill-E-Ledger g a = record { name = a.blank.name; parts = a.blank.parts }

abbrev pub ghosts-fill-E-Audit : goal.ghosts-fill-E-Audit
ghosts-fill-E-Audit g a = record { inputs = a.job.now.value }
