use Rattle.tests_book.proofs.tests.memory.a_refused_allocation_leaves_the_book_as_it_was.Given as goal

abbrev pub ghosts-fill-E-Ledger : goal.ghosts-fill-E-Ledger
ghosts-fill-E-Ledger g a = record { name = a.blank.name; parts = a.blank.parts }

abbrev pub ghosts-fill-E-Audit : goal.ghosts-fill-E-Audit
ghosts-fill-E-Audit g a = record { inputs = a.job.now.value }
