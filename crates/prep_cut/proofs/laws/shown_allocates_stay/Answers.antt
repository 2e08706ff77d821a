use Rattle.prep_cut.proofs.Staying.{stays, success_shown, request_shown}
use Rattle.prep_cut.proofs.laws.shown_allocates_stay.Goals as goal

pub returns-clause-success : goal.returns-clause-success
returns-clause-success c = λ plan proposed request success asked granted transaction e_asked a_side a_is e_granted g_side g_is noted.
    stays plan proposed success granted e_granted (success_shown plan.allocations asked granted transaction a_side a_is g_side g_is noted)

pub returns-clause-request : goal.returns-clause-request
returns-clause-request c = λ plan proposed request success asked granted transaction e_asked a_side a_is e_granted g_side g_is noted.
    stays plan proposed request asked e_asked (request_shown plan.allocations asked granted transaction a_side a_is g_side g_is noted)
