use Rattle.tests_book.proofs.tests.books.books_of_two_seats.Given as goal

abbrev pub ghosts-play_anew-E-Ledger : goal.ghosts-play_anew-E-Ledger
ghosts-play_anew-E-Ledger g a = record { name = a.blank.name; parts = a.blank.parts }

abbrev pub ghosts-play_anew-E-Audit : goal.ghosts-play_anew-E-Audit
ghosts-play_anew-E-Audit g a = record { inputs = a.job.now.value }
