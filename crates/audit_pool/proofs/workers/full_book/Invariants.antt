use Rattle.audit_pool.proofs.workers.full_book.Given as goal

abbrev pub ghosts-closed_book-E-Ledger : goal.ghosts-closed_book-E-Ledger
ghosts-closed_book-E-Ledger g a = record { name = a.blank.name; parts = a.blank.parts }

abbrev pub ghosts-closed_book-E-Audit : goal.ghosts-closed_book-E-Audit
ghosts-closed_book-E-Audit g a = record { inputs = a.job.now.value }
