use Rattle.prep_cut.proofs.Keeping.{kept, leased}
use Rattle.prep_cut.proofs.laws.leases_stay.Goals as goal

pub returns : goal.returns
returns c = record { kept = kept; leased = leased }
