use Rattle.prep_cut.proofs.cutter.Cutter.new.Goals as goal

pub returns : goal.returns
returns c = λ earlier are. record { splits = c.new.ensures; at = c.new-2.ensures earlier are }
