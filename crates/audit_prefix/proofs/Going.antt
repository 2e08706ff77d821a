-- A run, cut in two.
use Rattle.std.proofs.Common.{List, [], ◌∷◌, ◌++◌}
use Rattle.audit_server.specs.Rules.{Rules}
use Rattle.audit_server.specs.State.{State, after}
use Rattle.audit_server.specs.Placed.{Placed, step_of, Runs, led}

pub runs_cut : (w : Rules) (p q : List Placed) (st : State) → Runs w st (p ++ q) → Runs w st p × Runs w (led w st p) q
runs_cut w [] q st r = (tt, r)
runs_cut w (e ∷ p) q st r = let k = runs_cut w p q (after w st (step_of e)) r.1 in ((r.0, k.0), k.1)

pub runs_join : (w : Rules) (p q : List Placed) (st : State) → Runs w st p × Runs w (led w st p) q → Runs w st (p ++ q)
runs_join w [] q st r = r.1
runs_join w (e ∷ p) q st r = (r.0.0, runs_join w p q (after w st (step_of e)) (r.0.1, r.1))
