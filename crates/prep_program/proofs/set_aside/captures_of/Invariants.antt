use Rattle.std.proofs.Common.{◌≡◌, ◌++◌, drop, map}
use Rattle.prep_program.specs.declared.cutting.ToCut.{ToCut}
use Rattle.prep_program.specs.declared.hashing.Hashed.{Hashed}
use Rattle.prep_program.proofs.set_aside.captures_of.Given as goal

-- the names and digests so far and those of what is left are all of them
abbrev pub invariant-loop-one : goal.invariant-loop-one
invariant-loop-one l = record {
  names : map (λ (one : ToCut). one.name.now) l.all.items ++ map (λ (one : Hashed). one.name.now) (drop l.one-index l.hashed) ≡ map (λ (one : Hashed). one.name.now) l.hashed;
  digests : map (λ (one : ToCut). one.digest) l.all.items ++ map (λ (one : Hashed). one.digest) (drop l.one-index l.hashed) ≡ map (λ (one : Hashed). one.digest) l.hashed;
}
