use Rattle.audit_cert.proofs.piece_texts.+halves.Given as goal

abbrev pub decreases-front : goal.decreases-front
decreases-front g l = l.half

abbrev pub decreases-back : goal.decreases-back
decreases-back g l = l.others

abbrev pub decreases-text_of : goal.decreases-text_of
decreases-text_of g l = l.threads
