use Rattle.tests_book.proofs.tests.closing.a_book_is_closed_with_all_its_seats.Given as goal

abbrev pub ghosts-closed_after-E-Ledger : goal.ghosts-closed_after-E-Ledger
ghosts-closed_after-E-Ledger g a = record { name = a.blank.name; parts = a.blank.parts }

abbrev pub ghosts-closed_after-E-Audit : goal.ghosts-closed_after-E-Audit
ghosts-closed_after-E-Audit g a = record { inputs = a.job.now.value }
